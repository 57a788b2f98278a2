use Rattle.std.proofs.Common.{ap, arith}
use Rattle.std.specs.Prelude.{List, ℕ, Some}
use Rattle.std.proofs.lemmas.Grind.{common_steps}
use Rattle.outside_io.proofs.ToldLaws.{handed_out}
use Rattle.outside_io.proofs.faultless.FaultlessSourceSource.read.Goals as goal

pub returns-clause-taken : goal.returns-clause-taken
returns-clause-taken c = ap (λ (b : List ℕ). Some b)
    (handed_out c.args.self.now.bytes.items c.copy_from_slice.new.self c.args.buf.now c.args.self.now.taken c.min-count.result
    (grind (arith, common_steps)) (grind (arith, common_steps)))
