use Rattle.uniqueness.proofs.VectorAnswers.{same_lines}
use Rattle.uniqueness.proofs.simulations.vector_answers_are_unique.Goals as goal

pub returns : goal.returns
returns c = λ budget number sim text net other names others lines more p q.
    same_lines c.vector_files_are_unique.ensures c.replies_are_unique.ensures budget number sim text net other names others p q lines more
