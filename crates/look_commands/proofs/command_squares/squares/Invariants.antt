use Rattle.look_commands.proofs.command_squares.squares.Given as goal

-- the count stands in the ledger that the blank is for
abbrev pub ghosts-squares_of : goal.ghosts-squares_of
ghosts-squares_of a = record { name = a.blank.name; parts = a.blank.parts }
