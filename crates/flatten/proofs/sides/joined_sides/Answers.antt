use Rattle.flatten.proofs.Common.{pos, List, [], ◌∷◌, ◌++◌, length, take, get_or, sym, ◌∙◌, ap, subst, arith, sum_by, unsigned_abs, take_more}
use Rattle.flatten.proofs.Common.{take_all, sum_by_more_le, Side, AreByNode, AreJoined}
use Rattle.std.proofs.lemmas.List.Sorted.{sum_by-IsPermutation}
use Rattle.flatten.proofs.JoinLaws.{fits_last, join_more, joined_any_order, late_by_node}
use Rattle.flatten.proofs.sides.joined_sides.Goals as goal

abbrev no_side : Side
no_side = record { node = 0; length = pos 0 }

pub push_side-requires : goal.push_side-requires
push_side-requires c =
    let sides = c.deref-side-items.result.now in
    let i = c.loop-side.side-index in
    let moved = sum_by-IsPermutation (λ (side : Side). unsigned_abs side.length) c.args.sides.items c.by_node-ordered.result.items
    c.by_node-ordered.ensures.moved in
    let same = ap (sum_by (λ (side : Side). unsigned_abs side.length)) c.deref-side-items.ensures.value in
    let so_far = sum_by_more_le (λ (side : Side). unsigned_abs side.length) sides i no_side c.loop-side-test.true in
    let short = c.requires in
    fits_last (take i sides) c.loop-side.joined.items (get_or sides i no_side) c.loop-side.invariant (omega (arith, moved, same, so_far, short))

pub loop-side-preserved : goal.loop-side-preserved
loop-side-preserved c =
    let sides = c.deref-side-items.result.now in
    let i = c.loop-side.side-index in
    let sorted : AreByNode sides = subst AreByNode (sym c.deref-side-items.ensures.value) c.by_node-ordered.ensures.sorted in
    let P : List Side → Type 0 = λ l. AreJoined l c.push_side.new.joined.items in
    let Q : List Side → Type 0 = λ l. AreJoined (take i sides ++ get_or sides i no_side ∷ []) l in
    subst P (sym (take_more sides i no_side c.loop-side-test.true))
    (subst Q (sym c.in_ok-push_side.ensures)
    (join_more (take i sides) c.loop-side.joined.items (get_or sides i no_side) c.loop-side.invariant
    (late_by_node sides sorted i c.loop-side-test.true no_side)))

pub returns : goal.returns
returns c =
    let sides = c.deref-side-items.result.now in
    let P : List Side → Type 0 = λ l. AreJoined l c.loop-side.joined.items in
    joined_any_order c.args.sides.items c.by_node-ordered.result.items c.loop-side.joined.items c.by_node-ordered.ensures.moved
    (subst P (take_all c.loop-side.side-index sides c.loop-side-test.false ∙ c.deref-side-items.ensures.value) c.loop-side.invariant)
