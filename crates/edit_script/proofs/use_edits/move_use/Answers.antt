use Rattle.edit_script.proofs.Common.{◌≡◌, w64, to_z-of_z, edits_of, seen, EditIsRefused, MoveIsRefused}
use Rattle.edit_script.proofs.AnswerLaws.{or_lacks_memory}
use Rattle.edit_script.proofs.UseLaws.{move_applies}
use Rattle.edit_script.proofs.use_edits.move_use.Goals as goal
use mir.Val.{of_z, to_z}

pub returns-clause-applies : goal.returns-clause-applies
returns-clause-applies c =
    let done = c.move_use.ensures in
    let old = c.args.library.now in
    let given = c.bytes.result.now in
    let dx = to_z w64 (of_z w64 c.args.dx) in
    let dy = to_z w64 (of_z w64 c.args.dy) in
    let dx_is : dx ≡ c.args.dx = to_z-of_z w64 c.args.dx c.ranges.dx in
    let dy_is : dy ≡ c.args.dy = to_z-of_z w64 c.args.dy c.ranges.dy in
    move_applies old c.move_use.new.self c.args.current c.args.id.now c.args.dx c.args.dy c.in-Some.cell given dx dy c.move_use.result c.told.result
    c.in-Some.is c.bytes.ensures dx_is dy_is
    (record {
      answers = or_lacks_memory (EditIsRefused (edits_of old) (MoveIsRefused (seen old) c.in-Some.cell.0 given dx dy)) c.move_use.result done.answers;
      made = done.moved;
      edit = done.edit;
      refused = done.refused;
    }) c.told.ensures
