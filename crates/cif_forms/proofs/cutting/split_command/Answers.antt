use Rattle.cif_forms.proofs.Common.{◌+◌, ◌-◌, ◌∷◌, length, take, drop, true, sym, ap, ◌∙◌, arith, slice_split, is_semicolon, command_at}
use Rattle.cif_forms.proofs.Common.{commands_from, line_ends}
use Rattle.std.proofs.Common.{length-drop}
use Rattle.std.proofs.lemmas.List.{take_all}
use Rattle.cif_forms.proofs.CuttingLaws.{cut-at, last-at}
use Rattle.cif_forms.proofs.cutting.split_command.Goals as goal

pub returns-in-Some-clause-cut : goal.returns-in-Some-clause-cut
returns-in-Some-clause-cut c =
    let text = c.args.text.now in
    let end = c.in-Some.end in
    let rest = drop (end + 1) text in
    let whole = take_all (length text - (end + 1)) rest (omega (arith, length-drop (end + 1) text)) in
    λ line. cut-at text end (sym c.in-Some.ensures) line
    ∙ ap (λ more. command_at line (take end text) true ∷ commands_from (line + line_ends (take end text)) (slice_split is_semicolon more)) (sym whole)

pub returns-in-None-clause-cut : goal.returns-in-None-clause-cut
returns-in-None-clause-cut c = last-at c.args.text.now (sym c.in-None.ensures)
