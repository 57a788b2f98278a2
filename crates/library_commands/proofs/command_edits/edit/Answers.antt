use Rattle.library_commands.proofs.Common.{◌≡◌, [], ◌∷◌, Some, sym, subst, rules, codes, AnswersAlone, editing_of, ApplyIsRefused, agrees_same}
use Rattle.library_commands.proofs.Common.{edited_state, state_of, EditMeans, reply, State, both_ok, log_same, workspace_of}
use Rattle.workspace.specs.KeptSessions.{IsEdited}
use Rattle.library_commands.proofs.EditLaws.{edit_done, edit_refused}
use Rattle.library_commands.proofs.VersionLaws.{log_applied, versions_applied}
use Rattle.library_commands.proofs.MarkLaws.{marks_applied}
use Rattle.library_commands.proofs.command_edits.edit.Goals as goal

pub returns-in_err-ok-in-Ok-clause-kept : goal.returns-in_err-ok-in-Ok-clause-kept
returns-in_err-ok-in-Ok-clause-kept c =
    let is : IsEdited c.in-Some.edited = search rules in
    record {
      current = c.apply.ensures.current;
      agrees = (marks_applied c.in-Some.edited.library c.apply.new.library c.in-Some.edited.current c.apply.new.current c.in-Some.edited.cache
          c.args.command.now c.lawful.ensures c.in-Ok.ensures.stamped c.in-Ok.ensures.done is.agrees).0;
      log = log_applied c.in-Some.edited.library c.apply.new.library c.in-Some.edited.current c.in-Some.edited.log c.apply.new.self c.args.command.now is.log
          c.in-Ok.ensures.versions;
    }

pub returns-in_ok-ok-in-Ok-clause-effect : goal.returns-in_ok-ok-in-Ok-clause-effect
returns-in_ok-ok-in-Ok-clause-effect c =
    let is : IsEdited c.in-Some.edited = search rules in
    let state : state_of c.args.session.now ≡ Some (edited_state c.in-Some.edited) = search rules in
    let lines : c.told.result.lines.items ≡ reply (codes "ok") ∷ [] = search rules in
    subst
    (λ (s : State). AnswersAlone (EditMeans c.args.number s c.args.command.now)
    (Some (workspace_of c.apply.new.library c.apply.new.current c.in-Some.edited.cache c.apply.new.self)) c.told.result)
    (sym state)
    (edit_done c.args.number c.in-Some.edited.library c.apply.new.library c.in-Some.edited.current c.apply.new.current c.in-Some.edited.cache
    c.in-Some.edited.log c.apply.new.self c.args.command.now c.told.result
    (versions_applied c.in-Some.edited.library c.apply.new.library c.in-Some.edited.current c.in-Some.edited.log c.apply.new.self c.args.command.now is.log
    c.in-Ok.ensures.versions)
    c.lawful.ensures c.in-Ok.ensures.stamped c.in-Ok.ensures.done is.agrees c.in-Ok.ensures.accepted lines
    c.told.ensures.stores)

pub returns-in_ok-ok-in-Ok-clause-kept : goal.returns-in_ok-ok-in-Ok-clause-kept
returns-in_ok-ok-in-Ok-clause-kept c =
    let is : IsEdited c.in-Some.edited = search rules in
    record {
      current = c.apply.ensures.current;
      agrees = (marks_applied c.in-Some.edited.library c.apply.new.library c.in-Some.edited.current c.apply.new.current c.in-Some.edited.cache
          c.args.command.now c.lawful.ensures c.in-Ok.ensures.stamped c.in-Ok.ensures.done is.agrees).0;
      log = log_applied c.in-Some.edited.library c.apply.new.library c.in-Some.edited.current c.in-Some.edited.log c.apply.new.self c.args.command.now is.log
          c.in-Ok.ensures.versions;
    }

pub returns-in-Err-Memory-clause-kept : goal.returns-in-Err-Memory-clause-kept
returns-in-Err-Memory-clause-kept c =
    let is : IsEdited c.in-Some.edited = search rules in
    record {
      current = c.apply.ensures.current;
      agrees = agrees_same c.in-Some.edited.library c.apply.new.library c.in-Some.edited.cache c.in-Err-Memory.ensures.same is.agrees;
      log = log_same c.in-Some.edited.library c.apply.new.library c.in-Some.edited.log c.apply.new.self c.in-Err-Memory.ensures.same c.in-Err-Memory.ensures.log
          is.log;
    }

pub returns-in-Err-clause-effect : goal.returns-in-Err-clause-effect
returns-in-Err-clause-effect c =
    let state : state_of c.args.session.now ≡ Some (edited_state c.in-Some.edited) = search rules in
    let refused : ApplyIsRefused (editing_of c.in-Some.edited.library c.in-Some.edited.current) c.args.command.now c.in-Err.fault = search rules in
    both_ok c.refused.result _ _ _
    (λ answer lines stores. subst
    (λ (s : State). AnswersAlone (EditMeans c.args.number s c.args.command.now)
    (Some (workspace_of c.apply.new.library c.apply.new.current c.in-Some.edited.cache c.apply.new.self)) answer)
    (sym state)
    (edit_refused c.args.number c.in-Some.edited.library c.apply.new.library c.in-Some.edited.current c.apply.new.current c.in-Some.edited.cache
    c.in-Some.edited.log c.apply.new.self c.args.command.now c.in-Err.fault answer c.in-Err.ensures.same c.in-Err.ensures.kept c.in-Err.ensures.log refused
    lines stores))
    c.refused.ensures.lines c.refused.ensures.stores

pub returns-in-Err-clause-kept : goal.returns-in-Err-clause-kept
returns-in-Err-clause-kept c =
    let is : IsEdited c.in-Some.edited = search rules in
    record {
      current = c.apply.ensures.current;
      agrees = agrees_same c.in-Some.edited.library c.apply.new.library c.in-Some.edited.cache c.in-Err.ensures.same is.agrees;
      log = log_same c.in-Some.edited.library c.apply.new.library c.in-Some.edited.log c.apply.new.self c.in-Err.ensures.same c.in-Err.ensures.log is.log;
    }
