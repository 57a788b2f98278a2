use Rattle.magex.proofs.main.Given as goal

-- the count stands in the ledger that the blank is for
abbrev pub ghosts-run_here : goal.ghosts-run_here
ghosts-run_here a = record { name = a.blank.name; parts = a.blank.parts }
