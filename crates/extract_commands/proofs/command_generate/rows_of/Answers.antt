use Rattle.extract_commands.proofs.Common.{◌∙◌, ap, arith, to_z-of_z, unsigned_abs}
use Rattle.extract_commands.proofs.GenerateLaws.{rows_between}
use Rattle.extract_commands.proofs.command_generate.rows_of.Goals as goal

pub returns-clause-rows : goal.returns-clause-rows
returns-clause-rows c =
    let between = rows_between c.args.count c.requires in
    let is = c.unsigned_abs.ensures.value ∙ ap unsigned_abs (to_z-of_z _ _ c.ranges.count) in
    omega (arith, is, between.1)

pub returns-clause-few : goal.returns-clause-few
returns-clause-few c =
    let between = rows_between c.args.count c.requires in
    let is = c.unsigned_abs.ensures.value ∙ ap unsigned_abs (to_z-of_z _ _ c.ranges.count) in
    omega (arith, is, between.1)

pub returns-clause-some : goal.returns-clause-some
returns-clause-some c =
    let between = rows_between c.args.count c.requires in
    let is = c.unsigned_abs.ensures.value ∙ ap unsigned_abs (to_z-of_z _ _ c.ranges.count) in
    omega (arith, is, between.0, between.1)
