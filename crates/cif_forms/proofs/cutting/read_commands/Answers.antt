use Rattle.cif_forms.proofs.Common.{◌≡◌, ◌+◌, false, Err, sym, ◌∙◌, slice_split, is_semicolon, line_of_command, first_faulty_part_or}
use Rattle.cif_forms.proofs.Common.{line_ends_before, commands_from, step_on}
use Rattle.std.proofs.Common.{◌≢◌}
use Rattle.std.proofs.lemmas.Result.{IfErr-weaker}
use Rattle.cif_forms.proofs.CuttingLaws.{last-faulty}
use Rattle.cif_forms.proofs.cutting.read_commands.Goals as goal

pub returns-clause-refused : goal.returns-clause-refused
returns-clause-refused g c =
    let step = g.R.CommandReader.step in
    let state = c.loop-command.reader in
    let line = c.loop-command.line in
    let rest = c.loop-command.rest.now in
    IfErr-weaker c.read_at-2.result
    (λ at. at.fault ≢ g.R.CommandReader.memory → (step state rest false ≡ Err at.fault) × (at.line ≡ line + line_ends_before rest))
    (λ at. at.fault ≢ g.R.CommandReader.memory
    → first_faulty_part_or line_of_command (step_on step) c.args.reader.now (commands_from 1 (slice_split is_semicolon c.args.text.now)) ≡ Err at)
    (λ at h some.
    let told = h some in
    sym c.loop-command.invariant.commands ∙ last-faulty step state line rest at c.in_default.ensures.cut told.0 told.1)
    c.read_at-2.ensures.refused
