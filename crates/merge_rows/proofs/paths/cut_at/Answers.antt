use Rattle.std.proofs.Common.{arith}
use Rattle.std.proofs.lemmas.Grind.{common_steps}
use Rattle.ext_model.proofs.CutLaws.{behind-after}
use Rattle.merge_rows.proofs.paths.cut_at.Goals as goal

pub returns-in-Some-clause-behind : goal.returns-in-Some-clause-behind
returns-in-Some-clause-behind c =
    let law = behind-after c.args.mark c.args.text.now in
    rw law (grind (arith, common_steps))

pub returns-in-None-clause-behind : goal.returns-in-None-clause-behind
returns-in-None-clause-behind c =
    let law = behind-after c.args.mark c.args.text.now in
    rw law (grind (arith, common_steps))
