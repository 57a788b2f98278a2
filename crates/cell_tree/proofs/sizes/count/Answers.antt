use Rattle.cell_tree.proofs.Common.{arith}
use Rattle.std.proofs.Common.{mul_comm}
use Rattle.geo_core.proofs.ElementLaws.{length-elements_of, rows, columns}
use Rattle.cell_tree.proofs.sizes.count.Goals as goal

pub returns-in-Some-clause-few : goal.returns-in-Some-clause-few
returns-in-Some-clause-few c =
    omega (
      arith,
      c.count.ensures,
      length-elements_of c.in-Some.grid,
      (c.requires c.in-Some.grid c.in-Some.is).lawful.count,
      mul_comm (rows c.in-Some.grid) (columns c.in-Some.grid),
    )
