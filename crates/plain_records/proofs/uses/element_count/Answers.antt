use Rattle.plain_records.proofs.Common.{arith}
use Rattle.plain_records.proofs.UseLaws.{grid_lawful, few_elements}
use Rattle.plain_records.proofs.uses.element_count.Goals as goal

pub returns-in-Some-clause-few : goal.returns-in-Some-clause-few
returns-in-Some-clause-few c =
    let used = c.args.used.now in
    let few = few_elements c.in-Some.grid (grid_lawful used.grid used.id c.in-Some.grid c.requires.id c.in-Some.is) in
    omega (arith, few, c.count.ensures)
