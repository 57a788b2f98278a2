use Rattle.extract_commands.proofs.Common.{seen}
use Rattle.workspace.proofs.VersionLaws.{log_forgotten}
use Rattle.extract_commands.proofs.command_generate.forget_unless_refused.Goals as goal

pub returns-then-not-is_refused-clause-kept : goal.returns-then-not-is_refused-clause-kept
returns-then-not-is_refused-clause-kept c =
    record { current = c.requires.current; agrees = c.requires.agrees; log = log_forgotten (seen c.args.edited.now.library) c.forget.new.self c.forget.ensures }
