use Rattle.edit_script.proofs.CurrentLaws.{current_stays}
use Rattle.edit_script.proofs.applying.apply.Goals as goal

pub returns-clause-current : goal.returns-clause-current
returns-clause-current c =
    current_stays c.args.library.now c.args.current.now c.dispatch.new.library c.dispatch.new.current c.args.command.now c.dispatch.result
    c.requires.current c.dispatch.ensures.applies
