use Rattle.extract_commands.proofs.Common.{refl}
use Rattle.workspace.proofs.RecordLaws.{agrees_same}
use Rattle.extract_commands.proofs.GenerateLaws.{stack_agrees, stack_came, stack_there}
use Rattle.workspace.proofs.VersionLaws.{log_same}
use Rattle.workspace.proofs.WorkspaceLaws.{same_current}
use Rattle.extract_commands.proofs.StackVersions.{keeps_still, same_versions}
use Rattle.extract_commands.proofs.command_generate.make_stack.Goals as goal

pub returns-in-Ok-clause-made : goal.returns-in-Ok-clause-made
returns-in-Ok-clause-made c =
    let edited = c.args.edited.now in
    stack_came edited.library c.generate.new.library edited.cache c.args.n c.lawful.ensures c.requires.edited.agrees c.in-Ok.ensures.generated
    c.in-Ok.ensures.edit edited.current edited.log c.in-Ok.cell
    (same_versions edited.library c.generate.new.library c.args.n c.lawful.ensures c.in-Ok.ensures.generated edited.log c.sound_view.ensures.lawful
    c.requires.edited.log)
    c.in-Ok.ensures.key c.in-Ok.ensures.unrefused

pub returns-in-Ok-clause-cell : goal.returns-in-Ok-clause-cell
returns-in-Ok-clause-cell c =
    let edited = c.args.edited.now in
    stack_there edited.library c.generate.new.library edited.cache c.args.n c.lawful.ensures c.requires.edited.agrees c.in-Ok.ensures.generated
    c.in-Ok.ensures.edit c.in-Ok.cell c.in-Ok.ensures.key

pub returns-in-Ok-clause-kept : goal.returns-in-Ok-clause-kept
returns-in-Ok-clause-kept c =
    let edited = c.args.edited.now in
    record {
      current = stack_there edited.library c.generate.new.library edited.cache c.args.n c.lawful.ensures c.requires.edited.agrees
          c.in-Ok.ensures.generated c.in-Ok.ensures.edit c.in-Ok.cell c.in-Ok.ensures.key;
      agrees = stack_agrees edited.library c.generate.new.library edited.cache c.args.n c.lawful.ensures c.requires.edited.agrees
          c.in-Ok.ensures.generated c.in-Ok.ensures.edit;
      log = keeps_still edited.library c.generate.new.library c.args.n c.lawful.ensures c.in-Ok.ensures.generated edited.log c.sound_view.ensures.lawful
          c.requires.edited.log;
    }

pub returns-in-Err-Memory-clause-kept : goal.returns-in-Err-Memory-clause-kept
returns-in-Err-Memory-clause-kept c =
    let edited = c.args.edited.now in
    record {
      current = same_current edited.library c.generate.new.library edited.current c.in-Err-Memory.ensures.refused c.requires.edited.current;
      agrees = agrees_same edited.library c.generate.new.library edited.cache c.in-Err-Memory.ensures.refused c.requires.edited.agrees;
      log = log_same edited.library c.generate.new.library edited.log edited.log c.in-Err-Memory.ensures.refused refl c.requires.edited.log;
    }

pub returns-in-Err-clause-kept : goal.returns-in-Err-clause-kept
returns-in-Err-clause-kept c =
    let edited = c.args.edited.now in
    record {
      current = same_current edited.library c.generate.new.library edited.current c.in-Err.ensures.refused c.requires.edited.current;
      agrees = agrees_same edited.library c.generate.new.library edited.cache c.in-Err.ensures.refused c.requires.edited.agrees;
      log = log_same edited.library c.generate.new.library edited.log edited.log c.in-Err.ensures.refused refl c.requires.edited.log;
    }
