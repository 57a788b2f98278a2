use Rattle.cif_commands.proofs.Common.{◌≡◌, rules, IfOk-weaker, cif_in}
use Rattle.std.proofs.Common.{Ok}
use Rattle.cif_commands.proofs.CifstatLaws.{text_measured}
use Rattle.cif_commands.proofs.command_cifstat.measure_text.Goals as goal

pub returns-in-Ok-clause-effect : goal.returns-in-Ok-clause-effect
returns-in-Ok-clause-effect c =
    let is : cif_in c.args.text.now ≡ Ok c.in-Ok.cif = search rules in
    IfOk-weaker c.measure_cif.result _ _
    (λ answer means. text_measured c.args.number c.args.name.now c.args.file.now answer (cif_in c.args.text.now) c.in-Ok.cif is means)
    (c.measure_cif.ensures.effect c.args.file.now)
