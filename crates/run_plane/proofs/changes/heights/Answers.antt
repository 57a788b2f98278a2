use Rattle.run_plane.proofs.Common.{◌≡◌, ℤ, List, sym, subst, AreHeights}
use Rattle.std.specs.Prelude.{IsPermutation}
use Rattle.std.specs.List.{dedup}
use Rattle.std.specs.Ordering.{int_eq}
use Rattle.std.proofs.lemmas.List.Filters.{dedup_is}
use Rattle.run_plane.proofs.HeightLaws.{sorted_heights}
use Rattle.run_plane.proofs.changes.heights.Goals as goal

pub returns : goal.returns
returns c =
    let rows = c.args.rows.now in
    let pieces = c.args.pieces.now in
    let sorted = c.sort_unstable.new.self.items in
    let moved = subst (λ (all : List ℤ). IsPermutation all sorted) c.in_ok-heights.ensures c.sort_unstable.ensures.permutation in
    let is : c.dedup.new.self.items ≡ dedup int_eq sorted = dedup_is int_eq sorted c.dedup.new.self.items c.dedup.ensures.filtered in
    subst (AreHeights rows pieces) (sym is) (sorted_heights rows pieces sorted moved c.sort_unstable.ensures.sorted)
