use Rattle.std.proofs.Common.{length, ap, arith}
use Rattle.std.proofs.lemmas.Bool.Decides.{nat_tests}
use Rattle.partition.proofs.Ancestors.{length-leaders_of}
use Rattle.partition.proofs.stream.Partition.is_empty.Goals as goal

pub returns : goal.returns
returns c =
    let seen = ap length c.self.view_is in
    let long = length-leaders_of c.self.inside.parents.items in
    let kept = c.self.inside.parents.ok.0 in
    (λ e. grind (arith, nat_tests), λ e. grind (arith, nat_tests))
