use Rattle.cif_writing.proofs.CommandLaws.{call_appended}
use Rattle.cif_writing.proofs.commands.write_call.Goals as goal

pub returns : goal.returns
returns c =
    call_appended c.args.number c.args.element.now _ _ _ _ _ _ _ c.in_ok-push.ensures.items c.in_ok-append_count.ensures
    c.in_ok-append_mirror.ensures c.in_ok-append_turn.ensures c.in_ok-append_shift.ensures c.in_ok-end_command.ensures
