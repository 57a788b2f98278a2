-- The list that the sorts and joins make has exactly the strips, in order; and a set has one list of strips.
use Rattle.geo_strips.proofs.Common.{◌≡◌, ◌⊎◌, inl, inr, ◌<◌, ◌≤ℤ◌, ◌<ℤ◌, false, List, length, map, get_or, refl, sym, ◌∙◌, ap, subst, arith}
use Rattle.geo_strips.proofs.Common.{AllPairs, IsSorted, IsPermutation, IsTotalOrder, is_lt, int_cmp, ordering_then, int_cmp_total, on_total}
use Rattle.geo_strips.proofs.Common.{then_total, ints, by_lt_z, In, In-get_or, In-map, int_then-not_less, IsSorted-pairs, Pairwise, Square, Rect}
use Rattle.geo_strips.proofs.Common.{Bar, bar_cmp, joined, strip_of, rect_of, AreStripsOf, IsStrip, IsStrips, IsInUnion, AreRunBars}
use Rattle.std.proofs.Math.ListN.{get_or-map}
use Rattle.std.proofs.lemmas.List.{length-map}
use Rattle.std.proofs.lemmas.List.Sorted.{IsPermutation-sym}
use Rattle.geo_core.proofs.FiniteSets.Members.{In-map_source, In-permutation}
use Rattle.geo_core.proofs.FiniteSets.Orders.{Lexicographic-irreflexive, Lexicographic-trans, less-irreflexive, less-trans}
use Rattle.geo_core.proofs.FiniteSets.Orders.{equal_from_both, ordering_then-not_less}
use Rattle.geo_core.proofs.FiniteSets.Pairs.{AllPairs-from_Pairwise, Pairwise-from_AllPairs, Pairwise-map, AllPairs-permutation}
use Rattle.geo_core.proofs.FiniteSets.InOrder.{same_by_order}
use Rattle.geo_core.specs.FiniteSets.Laws.{IsTransitive}
use Rattle.geo_strips.specs.declared.strip_lists.Strip.{Strip}
use Rattle.geo_strips.specs.Bars.{strip_cmp}
use Rattle.geo_core.specs.Strips.{StandsBefore, StripsAreUnique}
use Rattle.geo_core.proofs.StripSets.{StandsBefore-irreflexive}
use Rattle.geo_strips.proofs.JoinLaws.{AreJoined, joined-are}
use Rattle.geo_strips.proofs.BarOrderLaws.{bars_in_order}
use Rattle.geo_strips.proofs.StripLaws.{AreColumns, columns_from_bars, same_right, rect_of_column, column_is_strip, strip_is_column}

strip_cmp_total : IsTotalOrder strip_cmp
strip_cmp_total = then_total (on_total (λ s. s.ylo) int_cmp_total) (then_total (on_total (λ s. s.xlo) int_cmp_total)
    (then_total (on_total (λ s. s.xhi) int_cmp_total) (on_total (λ s. s.yhi) int_cmp_total)))

abbrev StripsApart : Strip → Strip → Type 0
StripsApart a b = a.xlo ≡ b.xlo → a.xhi ≡ b.xhi → (a.yhi <ℤ b.ylo) ⊎ (b.yhi <ℤ a.ylo)

StripsApart-sym : (a b : Strip) → StripsApart a b → StripsApart b a
StripsApart-sym a b h e f = elim (h (sym e) (sym f)) [ inl k ↦ inr k | inr k ↦ inl k ]

-- of two strips of a list that is sorted the first stands before the second
before_from_order : (S : Square → Type 0) (a b : Strip) → IsStrip S (rect_of a) → IsStrip S (rect_of b) → StripsApart a b
    → is_lt (strip_cmp b a) ≡ false → StandsBefore (rect_of a) (rect_of b)
before_from_order S a b p q apart h = elim (ordering_then-not_less a.ylo b.ylo (ordering_then (int_cmp b.xlo a.xlo)
    (ordering_then (int_cmp b.xhi a.xhi) (int_cmp b.yhi a.yhi))) h) [
      | inl less ↦ inl less
      | inr k ↦ inr (
        k.0,
        by_lt_z a.xlo b.xlo (λ less. less) (λ not_less.
            let left : a.xlo ≤ℤ b.xlo = int_then-not_less a.xlo b.xlo (ordering_then (int_cmp b.xhi a.xhi) (int_cmp b.yhi a.yhi)) k.1 in
            let same_left : a.xlo ≡ b.xlo = equal_from_both a.xlo b.xlo left not_less in
            let same_row : a.ylo ≡ b.ylo = k.0 in
            let high : a.ylo <ℤ a.yhi = p.high in
            let high' : b.ylo <ℤ b.yhi = q.high in
            let row : b.ylo ≤ℤ a.ylo = omega (arith, ints) in
            let run = p.runs a.ylo (omega (arith, ints)) high in
            let run' = q.runs a.ylo row (omega (arith, ints)) in
            let long : a.xlo <ℤ a.xhi = run.long in
            let long' : b.xlo <ℤ b.xhi = run'.long in
            let right = same_right S a.xlo a.xhi b.xlo b.xhi a.ylo a.xlo run run' (omega (arith, ints)) long (omega (arith, ints)) (omega (arith, ints)) in
            elim (apart same_left right) [ inl g ↦ absurd (omega (arith, ints, g)) | inr g ↦ absurd (omega (arith, ints, g)) ]),
      )
    ]

module _ (S : Square → Type 0) (columns : List Bar) (are : AreColumns S columns) (strips : List Strip)
    (moved : IsPermutation (map strip_of columns) strips) (sorted : IsSorted strip_cmp strips) where
  -- each of the rectangles is that of a column
  from_column : (area : Rect) → In area (map rect_of strips) → In area (map rect_of_column columns)
  from_column area i =
      let s = In-map_source rect_of area strips i in
      let t = In-map_source strip_of s.0 columns (In-permutation s.0 strips (map strip_of columns)
      (IsPermutation-sym (map strip_of columns) strips moved) s.1.0) in
      subst (λ r. In r (map rect_of_column columns)) (ap rect_of t.1.1 ∙ s.1.1) (In-map rect_of_column t.0 columns t.1.0)

  to_strip : (area : Rect) → In area (map rect_of_column columns) → In area (map rect_of strips)
  to_strip area i =
      let s = In-map_source rect_of_column area columns i in
      subst (λ r. In r (map rect_of strips)) s.1.1 (In-map rect_of (strip_of s.0) strips
      (In-permutation (strip_of s.0) (map strip_of columns) strips moved (In-map strip_of s.0 columns s.1.0)))

  is_strip : (area : Rect) → In area (map rect_of strips) → IsStrip S area
  is_strip area i =
      let s = In-map_source rect_of_column area columns (from_column area i) in
      subst (IsStrip S) s.1.1 (column_is_strip S columns are s.0 s.1.0)

  in_order : AllPairs StandsBefore (map rect_of strips)
  in_order = λ i j d less below.
      let e : Strip = record { ylo = d.ylo; xlo = d.xlo; xhi = d.xhi; yhi = d.yhi } in
      let long : length (map rect_of strips) ≡ length strips = length-map strips rect_of in
      let last : j < length strips = omega (arith, long, below) in
      let first : i < length strips = omega arith in
      let apart = AllPairs-permutation StripsApart StripsApart-sym (map strip_of columns) strips moved
      (AllPairs-from_Pairwise StripsApart (map strip_of columns) (Pairwise-map strip_of StripsApart columns are.apart)) i j e less last in
      let a = get_or strips i e in
      let b = get_or strips j e in
      let found = before_from_order S a b
      (is_strip (rect_of a) (In-map rect_of a strips (In-get_or strips i e first)))
      (is_strip (rect_of b) (In-map rect_of b strips (In-get_or strips j e last)))
      apart (IsSorted-pairs strip_cmp strip_cmp_total strips sorted i j e less last) in
      subst (λ (r : Rect). StandsBefore r (get_or (map rect_of strips) j d)) (sym (get_or-map rect_of strips i e))
      (subst (λ (r : Rect). StandsBefore (rect_of a) r) (sym (get_or-map rect_of strips j e)) found)

  in_some_strip : (square : Square) → S square → IsInUnion (map rect_of strips) square
  in_some_strip square s =
      let found = are.complete square.x square.y s in
      let area = rect_of_column found.bar in (
        area,
        (
          to_strip area (In-map rect_of_column found.bar columns found.in_list),
          record { right_of_xlo = found.left; left_of_xhi = found.right; above_ylo = found.from; below_yhi = found.to },
        ),
      )

  pub sorted_columns : IsStrips S (map rect_of strips)
  sorted_columns = record {
    each = is_strip;
    every = λ area strip. to_strip area (strip_is_column S columns are area strip);
    whole = in_some_strip;
    ordered = in_order;
  }

-- from bars that are runs of a set to its strips
strips_found : (S : Square → Type 0) (bars upright columns : List Bar) (strips ordered : List Strip) (areas : List Rect)
    → AreRunBars S bars → IsPermutation bars upright → IsSorted bar_cmp upright → columns ≡ joined upright
    → strips ≡ map strip_of columns → IsPermutation strips ordered → IsSorted strip_cmp ordered → areas ≡ map rect_of ordered
    → IsStrips S areas
strips_found S bars upright columns strips ordered areas are upright_moved upright_sorted e-columns e-strips ordered_moved ordered_sorted e-areas =
    let there : (bar : Bar) → In bar upright → In bar bars = λ bar i. In-permutation bar upright bars (IsPermutation-sym bars upright upright_moved) i in
    let back : (bar : Bar) → In bar bars → In bar upright = λ bar i. In-permutation bar bars upright upright_moved i in
    let join : AreJoined upright columns = subst (AreJoined upright) (sym e-columns)
    (joined-are upright (bars_in_order upright upright_sorted) (λ bar i. are.long bar (there bar i))) in
    let made = columns_from_bars S bars upright columns are there back join in
    subst (IsStrips S) (sym e-areas) (sorted_columns S columns made ordered (subst (λ v. IsPermutation v ordered) e-strips ordered_moved) ordered_sorted)

-- the same, of a list that bars make
pub strips_of_bars : (S : Square → Type 0) (bars : List Bar) (areas : List Rect) → AreRunBars S bars → AreStripsOf bars areas → IsStrips S areas
strips_of_bars S bars areas runs a = strips_found S bars a.upright (joined a.upright) (map strip_of (joined a.upright)) a.ordered areas runs
    a.upright_moved a.upright_sorted refl refl a.ordered_moved a.ordered_sorted a.are

StandsBefore-trans : IsTransitive StandsBefore
StandsBefore-trans a b c = Lexicographic-trans a.ylo b.ylo c.ylo (less-trans a.xlo b.xlo c.xlo)

-- a set has one list of strips
pub one_list : (S : Square → Type 0) → StripsAreUnique S
one_list S areas others p q =
    same_by_order StandsBefore StandsBefore-irreflexive StandsBefore-trans areas others
    (Pairwise-from_AllPairs StandsBefore areas p.ordered) (Pairwise-from_AllPairs StandsBefore others q.ordered)
    (λ a i. q.every a (p.each a i)) (λ a i. p.every a (q.each a i))
