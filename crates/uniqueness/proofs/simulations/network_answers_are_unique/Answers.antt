use Rattle.uniqueness.proofs.VectorAnswers.{same_answer}
use Rattle.uniqueness.proofs.simulations.network_answers_are_unique.Goals as goal

pub returns : goal.returns
returns c = same_answer c.vector_answers_are_unique.ensures
