use Rattle.undo_log.proofs.Common.{◌∙◌, inl, inr, sym, cases_Bool, is_edit}
use Rattle.std.proofs.lemmas.Result.{on_ok_weaker}
use Rattle.undo_log.proofs.OtherCommands.{none_keeps, other_keeps}
use Rattle.undo_log.proofs.logs.Log.apply.Goals as goal
use Rattle.undo_log.proofs.logs.Log.apply.Goals.{in_default-via-in-Some+else-is_edit, in_default-via-in_default}

pub returns-in_default-clause-versions : goal.returns-in_default-clause-versions
returns-in_default-clause-versions c =
    on_ok_weaker c.apply-done.result (λ made versions keeps. elim c.in_default.branch [
      | in_default-via-in-Some+else-is_edit w ↦
          other_keeps c.args.library.now c.apply-done.new.library c.args.current.now c.apply-done.new.current c.args.command.now c.args.self.now versions
          c.lawful.ensures c.lawful-in_default.ensures (sym w.is_edit.ensures ∙ w.if-is_edit.false) made keeps
      | in_default-via-in_default w ↦ elim (cases_Bool (is_edit c.args.command.now)) [
        | inl edit ↦
            none_keeps c.args.library.now c.apply-done.new.library c.args.current.now c.apply-done.new.current c.args.command.now c.args.self.now versions
            w.in_default.is edit made keeps
        | inr other ↦
            other_keeps c.args.library.now c.apply-done.new.library c.args.current.now c.apply-done.new.current c.args.command.now c.args.self.now
            versions c.lawful.ensures c.lawful-in_default.ensures other made keeps
      ]
    ]) c.apply-done.ensures.done
