use Rattle.drc_commands.proofs.command_drc.check_cell.Given as goal

-- the count stands in the ledger that the blank is for
abbrev pub ghosts-check_counted : goal.ghosts-check_counted
ghosts-check_counted a = record { name = a.blank.name; parts = a.blank.parts }
