use Rattle.full_names.proofs.paths.+append_path.Given as goal

abbrev pub decreases-append_path : goal.decreases-append_path
decreases-append_path l = l.number
