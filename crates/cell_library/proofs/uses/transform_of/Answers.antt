use Rattle.cell_library.proofs.UseSteps.{transform_answer}
use Rattle.cell_library.proofs.uses.transform_of.Goals as goal

pub returns-clause-is : goal.returns-clause-is
returns-clause-is c = transform_answer c.args.six c.of_six.result c.of_six.ensures.some c.of_six.ensures.none
