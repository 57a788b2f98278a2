use Rattle.edit_script.proofs.Common.{edits_of, seen, EditIsRefused, UnlabelIsRefused}
use Rattle.edit_script.proofs.AnswerLaws.{or_lacks_memory}
use Rattle.edit_script.proofs.OwnLaws.{unlabel_applies}
use Rattle.edit_script.proofs.own_edits.unlabel.Goals as goal

pub returns-clause-applies : goal.returns-clause-applies
returns-clause-applies c =
    let done = c.unlabel.ensures in
    let old = c.args.library.now in
    let given = c.bytes.result.now in
    unlabel_applies old c.unlabel.new.self c.args.current c.args.text.now c.in-Some.cell given c.unlabel.result c.told.result c.in-Some.is
    c.bytes.ensures (record {
      answers = or_lacks_memory (EditIsRefused (edits_of old) (UnlabelIsRefused (seen old) c.in-Some.cell.0 given)) c.unlabel.result done.answers;
      made = done.unlabelled;
      edit = done.edit;
      refused = done.refused;
    }) c.told.ensures
