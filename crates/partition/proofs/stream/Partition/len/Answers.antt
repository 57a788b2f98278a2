use Rattle.std.proofs.Common.{length, ap, arith}
use Rattle.partition.proofs.Ancestors.{length-leaders_of}
use Rattle.partition.proofs.stream.Partition.len.Goals as goal

pub returns : goal.returns
returns c = omega (arith, ap length c.self.view_is, length-leaders_of c.self.inside.parents.items, c.self.inside.parents.ok.0)
