use Rattle.workspace.proofs.extractions.extract_cell.Given as goal

-- the count stands in the ledger that the blank is for
abbrev pub ghosts-extract_root : goal.ghosts-extract_root
ghosts-extract_root a = record { name = a.blank.name; parts = a.blank.parts }
