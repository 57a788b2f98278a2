use Rattle.edit_script.proofs.Common.{edits_of, seen, DeleteIsRefused, EditIsRefused}
use Rattle.edit_script.proofs.AnswerLaws.{or_lacks_memory}
use Rattle.edit_script.proofs.UseLaws.{delete_applies}
use Rattle.edit_script.proofs.use_edits.delete_use.Goals as goal

pub returns-clause-applies : goal.returns-clause-applies
returns-clause-applies c =
    let done = c.delete_use.ensures in
    let old = c.args.library.now in
    let given = c.bytes.result.now in
    delete_applies old c.delete_use.new.self c.args.current c.args.id.now c.in-Some.cell given c.delete_use.result c.told.result c.in-Some.is
    c.bytes.ensures (record {
      answers = or_lacks_memory (EditIsRefused (edits_of old) (DeleteIsRefused (seen old) c.in-Some.cell.0 given)) c.delete_use.result done.answers;
      made = done.deleted;
      edit = done.edit;
      refused = done.refused;
    }) c.told.ensures
