-- Sorted heights, each once.
use Rattle.run_plane.proofs.Common.{◌≡◌, inl, inr, ℤ, ◌<ℤ◌, List, [], ◌∷◌, ◌++◌, map, refl, sym, subst, arith, ints, Contains-permutation}
use Rattle.run_plane.proofs.Common.{IsPermutation-sym, In, In-map, In-map_source, In-append_left, In-append_right, In-append_cases, Piece, Row}
use Rattle.run_plane.proofs.Common.{AreAbove, AreHeights}
use Rattle.std.specs.Prelude.{IsPermutation, IsSorted}
use Rattle.std.specs.List.{dedup, AllByRecursion}
use Rattle.std.specs.List.Sorted.{IsStrictlySortedBy}
use Rattle.std.specs.Ordering.{int_cmp, int_eq}
use Rattle.std.specs.declared.cmp.Ordering.TheVariants.{Less}
use Rattle.std.proofs.lemmas.Cmp.{int_cmp_total, int_eq_equiv, int_ranked}
use Rattle.std.proofs.lemmas.List.Kept.{Contains-dedup, Contains-from_dedup, IsStrictlySortedBy-dedup}
use Rattle.finite_sets.proofs.Members.{Contains-from_In, In-from_Contains}
use Rattle.run_plane.specs.steps.Changes.{all_heights}

strict_above : (low : ℤ) (heights : List ℤ) → IsStrictlySortedBy int_cmp heights → ((height : ℤ) → In height heights → low <ℤ height) → AreAbove low heights
unfolding IsStrictlySortedBy
strict_above low [] sorted above = tt
strict_above low (height ∷ heights) sorted above = (above height (inl refl), strict_above height heights sorted.1 (later heights sorted.0))
  where
    later : (others : List ℤ) → AllByRecursion (λ other. int_cmp height other ≡ Less) others → (other : ℤ) → In other others → height <ℤ other
    later [] all other i = elim i [ ]
    later (next ∷ others) all other (inl e) = subst (λ (h : ℤ). height <ℤ h) e (int_ranked height next Less (sym all.0))
    later (next ∷ others) all other (inr i) = later others all.1 other i

kept : (xs ys : List ℤ) → IsPermutation xs ys → (height : ℤ) → In height xs → In height (dedup int_eq ys)
kept xs ys moved height i =
    In-from_Contains height (dedup int_eq ys) (Contains-dedup int_eq_equiv (λ x y t. grind (arith, ints)) ys height
    (Contains-permutation xs ys height moved (Contains-from_In height xs i)))

came : (xs ys : List ℤ) → IsPermutation xs ys → (height : ℤ) → In height (dedup int_eq ys) → In height xs
came xs ys moved height i =
    In-from_Contains height xs (Contains-permutation ys xs height (IsPermutation-sym xs ys moved)
    (Contains-from_dedup int_eq ys height (Contains-from_In height (dedup int_eq ys) i)))

-- sorted heights, each once, are the heights
pub sorted_heights : (rows : List Row) (pieces : List Piece) (sorted : List ℤ) → IsPermutation (all_heights rows pieces) sorted
    → IsSorted int_cmp sorted → AreHeights rows pieces (dedup int_eq sorted)
sorted_heights rows pieces sorted moved ordered =
    let of_rows = map (λ (row : Row). row.ylo) rows in
    let lows = map (λ (piece : Piece). piece.area.ylo) pieces in
    let highs = map (λ (piece : Piece). piece.area.yhi) pieces in
    let all = all_heights rows pieces in
    record {
      rising = λ low above. strict_above low (dedup int_eq sorted) (IsStrictlySortedBy-dedup int_cmp_total (λ x y. refl) sorted ordered) above;
      of_rows = λ row i. kept all sorted moved row.ylo (In-append_left row.ylo (of_rows ++ lows) highs
          (In-append_left row.ylo of_rows lows (In-map (λ (row : Row). row.ylo) row rows i)));
      of_pieces = λ piece i height edge. elim edge [
        | inl e ↦ subst (λ (h : ℤ). In h (dedup int_eq sorted)) e (kept all sorted moved piece.area.ylo
            (In-append_left piece.area.ylo (of_rows ++ lows) highs (In-append_right piece.area.ylo of_rows lows
            (In-map (λ (piece : Piece). piece.area.ylo) piece pieces i))))
        | inr e ↦ subst (λ (h : ℤ). In h (dedup int_eq sorted)) e (kept all sorted moved piece.area.yhi
            (In-append_right piece.area.yhi (of_rows ++ lows) highs (In-map (λ (piece : Piece). piece.area.yhi) piece pieces i)))
      ];
      only = λ height i. elim (In-append_cases height (of_rows ++ lows) highs (came all sorted moved height i)) [
        | inl first ↦ elim (In-append_cases height of_rows lows first) [
          | inl j ↦ (let s = In-map_source (λ (row : Row). row.ylo) height rows j in inl (s.0, s.1.0, s.1.1))
          | inr j ↦ (let s = In-map_source (λ (piece : Piece). piece.area.ylo) height pieces j in inr (s.0, s.1.0, inl s.1.1))
        ]
        | inr j ↦ (let s = In-map_source (λ (piece : Piece). piece.area.yhi) height pieces j in inr (s.0, s.1.0, inr s.1.1))
      ];
    }
