use Rattle.rect_trees.proofs.Common.{◌≡◌, map, ap, ◌∙◌, rules, arith, position_of}
use Rattle.std.proofs.lemmas.Bool.Decides.{nat_tests}
use Rattle.rect_trees.proofs.PlaceLaws.{places_within}
use Rattle.rect_trees.proofs.RootLaws.{no_root, grown_root}
use Rattle.rect_trees.proofs.trees.RectTree.new.Goals as goal
use Rattle.rect_trees.proofs.trees.RectTree.new.Goals.{then-is_empty, else-is_empty+in_ok-grow}

pub grow-requires-clause-within : goal.grow-requires-clause-within
grow-requires-clause-within c = rw c.deref.ensures.value (places_within c.args.rects.now c.in_ok-places.places.items c.in_ok-places.ensures)

pub invariant_of-result : goal.invariant_of-result
invariant_of-result c =
    let rects = c.args.rects.now in
    let places = c.in_ok-places.places.items in
    let same : c.in_ok-to_vec.field-0.items ≡ rects = search rules in
    rw same (elim c.if-is_empty.branch [
      | then-is_empty w ↦ rw w.root-is (no_root rects places (grind (arith, nat_tests, w.if-is_empty.ensures)) c.in_ok-places.ensures)
      | else-is_empty+in_ok-grow w ↦ rw w.root-is (grown_root rects places w.in_ok-grow.field-0 w.in_ok-grow.ensures.hulls
          (w.in_ok-grow.ensures.positions ∙ ap (map position_of) w.deref.ensures.value) c.in_ok-places.ensures)
    ])
