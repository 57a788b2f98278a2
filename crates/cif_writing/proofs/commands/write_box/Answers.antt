use Rattle.cif_writing.proofs.CommandLaws.{box_appended}
use Rattle.cif_writing.proofs.commands.write_box.Goals as goal

pub returns : goal.returns
returns c =
    box_appended c.args.area.now _ _ _ _ _ _ _ c.in_ok-push.ensures.items c.in_ok-append_way.ensures c.in_ok-append_way-2.ensures
    c.in_ok-append_sum.ensures c.in_ok-append_sum-2.ensures c.in_ok-end_command.ensures
