use Rattle.tree_merges.proofs.Common.{arith, length, subst, sym, ◌∙◌, seen}
use Rattle.hierarchy_model.specs.Laws.{CleanCellsKeepWhatTheyHave}
use Rattle.hier_merge.specs.CellLibrary.LayoutTrees.{tree_at}
use Rattle.tree_merges.proofs.relating.relate.Goals as goal

pub returns-in_err-meeting-clause-steps : goal.returns-in_err-meeting-clause-steps
returns-in_err-meeting-clause-steps g c = λ work is. omega (arith, c.meeting_of.ensures.steps work is)

pub returns-then-not-is_empty-clause-steps : goal.returns-then-not-is_empty-clause-steps
returns-then-not-is_empty-clause-steps g c = λ work is. omega (arith, c.meeting_of.ensures.steps work is)

pub returns-in_err-merges-clause-steps : goal.returns-in_err-merges-clause-steps
returns-in_err-merges-clause-steps g c = λ work is.
    omega (arith, c.meeting_of.ensures.steps work is, c.in_ok-meeting.ensures.counted, c.merges_of.ensures.steps)

pub returns-clause-steps : goal.returns-clause-steps
returns-clause-steps g c = λ work is.
    omega (arith, c.meeting_of.ensures.steps work is, c.in_ok-meeting.ensures.counted, c.merges_of.ensures.steps)

pub returns-then-not-is_empty-clause-work : goal.returns-then-not-is_empty-clause-work
returns-then-not-is_empty-clause-work g c =
    let is = c.in_ok-meeting.ensures.work in
    (length c.in_ok-meeting.meeting.tiles.items, is, omega (arith, c.meeting_of.ensures.steps _ is))

pub returns-clause-work : goal.returns-clause-work
returns-clause-work g c =
    let is = c.in_ok-meeting.ensures.work in (
      length c.in_ok-meeting.meeting.tiles.items,
      is,
      omega (arith, c.meeting_of.ensures.steps _ is, c.in_ok-meeting.ensures.counted, c.merges_of.ensures.steps),
    )

pub returns-clause-keeps : goal.returns-clause-keeps
returns-clause-keeps g c none =
    let library = c.args.library.now in
    let law = subst CleanCellsKeepWhatTheyHave c.tech.ensures c.clean_cells_keep_what_they_have.ensures in
    law c.lawful.ensures.well_formed c.lawful.ensures.rules (tree_at (seen library) c.args.cell.0) c.typed.ensures
    (c.in_ok-meeting.ensures.clean.0 (sym c.of-3.ensures ∙ none))
