use Rattle.edit_script.proofs.Common.{edits_of, seen, ArrayIsRefused, EditIsRefused}
use Rattle.edit_script.proofs.AnswerLaws.{or_lacks_memory}
use Rattle.edit_script.proofs.UseLaws.{array_applies}
use Rattle.edit_script.proofs.use_edits.array.Goals as goal

pub returns-clause-applies : goal.returns-clause-applies
returns-clause-applies c =
    let done = c.place_array.ensures in
    let old = c.args.library.now in
    let given = c.bytes.result.now in
    let grid = c.grid_of-grid.result in
    array_applies old c.place_array.new.self c.args.current c.args.id.now c.args.six.now c.in-Some.cell grid given c.place_array.result c.told.result
    c.in-Some.is c.grid_of-grid.ensures.is c.bytes.ensures
    (record {
      answers = or_lacks_memory (EditIsRefused (edits_of old) (ArrayIsRefused (seen old) c.in-Some.cell.0 given grid)) c.place_array.result
          done.answers;
      made = done.placed;
      edit = done.edit;
      refused = done.refused;
    }) c.told.ensures
