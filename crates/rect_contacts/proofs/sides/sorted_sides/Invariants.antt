use Rattle.rect_contacts.proofs.Common.{◌≡◌, ℕ, ◌<◌, length, get_or, rect_at, side_of}
use Rattle.rect_contacts.proofs.Sorting.{no_side}
use Rattle.rect_contacts.proofs.sides.sorted_sides.Given as goal

abbrev pub invariant-loop-owner : goal.invariant-loop-owner
invariant-loop-owner l = record {
  so_many : length l.sides.items ≡ l.owner;
  each : (k : ℕ) → k < l.owner → get_or l.sides.items k no_side ≡ side_of l.edge (rect_at l.rects k) k;
}
