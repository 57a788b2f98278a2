use Rattle.drc_check.proofs.Common.{Vec, Global, sym, ap, ◌∙◌, Some, None, append-nil, ListedPiece, stack_piece}
use Rattle.drc_check.proofs.FoundLists.{filter_map-next}
use Rattle.drc_check.proofs.pieces.add_marked.Goals as goal
use Rattle.drc_check.proofs.pieces.add_marked.Goals.{in-Some+in_ok-push, in_default}

pub loop-stack-preserved : goal.loop-stack-preserved
loop-stack-preserved c =
    let f = stack_piece c.args.tech.now c.args.marks.now c.args.plane c.args.sets.now in
    let before = c.loop-stack.pieces.items in
    elim c.match-stack_piece.branch [
      | in-Some+in_ok-push w ↦
          filter_map-next f c.args.stacks.now c.loop-stack.stack-index c.stack-item.result c.args.pieces.now.items before c.match-stack_piece.pieces.items
          (Some w.in-Some.piece) c.loop-stack-test.true c.stack-item.is c.loop-stack.invariant (sym w.in-Some.ensures)
          (ap (λ (v : Vec ListedPiece Global). v.items) w.pieces-is ∙ w.in_ok-push.ensures.items)
      | in_default w ↦
          filter_map-next f c.args.stacks.now c.loop-stack.stack-index c.stack-item.result c.args.pieces.now.items before c.match-stack_piece.pieces.items
          None c.loop-stack-test.true c.stack-item.is c.loop-stack.invariant (sym w.in_default.ensures)
          (ap (λ (v : Vec ListedPiece Global). v.items) w.pieces-is ∙ sym (append-nil before))
    ]
