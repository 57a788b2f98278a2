use Rattle.cif_writing.proofs.CommandLaws.{end_appended}
use Rattle.cif_writing.proofs.commands.write_end.Goals as goal

pub returns : goal.returns
returns c =
    end_appended c.args.number _ _ _ _ _ c.in_ok-push.ensures.items c.in_ok-append_count.ensures c.in_ok-end_command.ensures
    c.in_ok-extend_from_slice.ensures.items
