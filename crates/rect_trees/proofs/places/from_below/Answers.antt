use Rattle.rect_trees.proofs.Common.{refl, sym, ◌∙◌}
use Rattle.rect_trees.proofs.PlaceLaws.{early_more, early_same, early_all, places_moved}
use Rattle.rect_trees.proofs.places.from_below.Goals as goal
use Rattle.rect_trees.proofs.places.from_below.Goals.{then-has_square+in_ok-push, else-has_square}

pub loop-position-preserved : goal.loop-position-preserved
loop-position-preserved c =
    let rects = c.args.rects.now in
    let position = c.loop-position.position in
    let items = c.loop-position.places.items in
    let passes = sym c.has_square.ensures in
    elim c.if-has_square.branch [
      | then-has_square+in_ok-push w ↦ rw (w.places-is, w.in_ok-push.ensures.items)
          (early_more rects position items _ c.loop-position-test.true (passes ∙ w.if-has_square.true) refl c.loop-position.invariant)
      | else-has_square w ↦ rw w.places-is
          (early_same rects position items (passes ∙ w.if-has_square.false) c.loop-position.invariant)
    ]

pub returns : goal.returns
returns c =
    let rects = c.args.rects.now in
    places_moved rects c.loop-position.places.items _ c.sort_unstable.ensures.permutation
    (early_all rects c.loop-position.position c.loop-position.places.items c.loop-position-test.false c.loop-position.invariant)
