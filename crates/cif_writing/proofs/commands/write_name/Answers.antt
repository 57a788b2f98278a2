use Rattle.cif_writing.proofs.CommandLaws.{name_appended}
use Rattle.cif_writing.proofs.commands.write_name.Goals as goal

pub returns : goal.returns
returns c = name_appended c.args.name.now _ _ _ _ c.in_ok-push.ensures.items c.in_ok-append_word.ensures c.in_ok-end_command.ensures
