use Rattle.cif_writing.proofs.CommandLaws.{shift_appended}
use Rattle.cif_writing.proofs.commands.append_shift.Goals as goal

pub returns : goal.returns
returns c =
    shift_appended c.args.element.now _ _ _ _ c.in_ok-extend_from_slice.ensures.items c.in_ok-append_twice.ensures c.in_ok-append_twice-2.ensures
