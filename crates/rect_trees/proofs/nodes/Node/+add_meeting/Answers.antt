use Rattle.rect_trees.proofs.Common.{◌≡◌, false, ℕ, List, ◌++◌, sym, ap, ◌∙◌, Rect, common_rect, has_square, hull_of}
use Rattle.std.proofs.Common.{append-nil}
use Rattle.rect_trees.proofs.HullLaws.{none_meets}
use Rattle.rect_trees.proofs.nodes.Node.+add_meeting.Goals as goal

-- where the hull is missed, nothing is added
pub returns-then-not-has_square : goal.returns-then-not-has_square
returns-then-not-has_square t c =
    let rects = c.args.rects.now in
    let area = c.args.area.now in
    let node = c.args.self.now in
    let missed : has_square (common_rect (hull_of rects node) area) ≡ false =
    ap (λ (v : Rect). has_square (common_rect v area)) (sym c.hull.ensures) ∙ ap has_square (sym c.common.ensures)
    ∙ sym c.has_square.ensures ∙ (cc) in
    sym (ap (λ (v : List ℕ). c.args.found.now.items ++ v) (none_meets rects area node c.requires missed) ∙ append-nil c.args.found.now.items)
