use Rattle.geometry_tests.proofs.step_tests.a_caller_makes_its_own_count.Given as goal

abbrev pub ghosts-sum_in_a_new_ledger : goal.ghosts-sum_in_a_new_ledger
ghosts-sum_in_a_new_ledger g a = record { name = a.blank.name; parts = a.blank.parts }
