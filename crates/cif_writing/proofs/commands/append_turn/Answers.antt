use Rattle.cif_writing.proofs.Common.{sym, ◌∙◌}
use Rattle.cif_writing.proofs.CommandLaws.{turn_appended}
use Rattle.cif_writing.proofs.commands.append_turn.Goals as goal

pub returns : goal.returns
returns c =
    turn_appended c.args.orient _ _ _ (sym c.stays.ensures ∙ c.if-stays.false) c.in_ok-extend_from_slice.ensures.items
    c.in_ok-append_direction.ensures
