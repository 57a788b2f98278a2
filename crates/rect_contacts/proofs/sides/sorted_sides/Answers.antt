-- What the loop wrote are the sides, and the sort puts them in order.
use Rattle.rect_contacts.proofs.Common.{arith}
use Rattle.rect_contacts.proofs.Sorting.{no_side, sides_from_sort}
use Rattle.rect_contacts.proofs.sides.sorted_sides.Goals as goal

pub returns : goal.returns
returns c =
    sides_from_sort c.args.edge c.args.rects.now _ _ no_side c.requires.proper c.requires.near c.requires.disjoint
    (record { so_many = omega arith; each = λ k below. c.loop-owner.invariant.each k (omega arith) })
    c.sort_unstable.ensures.permutation c.sort_unstable.ensures.sorted
