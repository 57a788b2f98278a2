-- The boxes of a cell's parts: those of the layer of a part cover the squares of the cell's own paint that hold the part.
use Rattle.file_laws.proofs.Common.{◌≡◌, ◌∙◌, ◌+◌, ℕ, zero, suc, pos, List, [], ◌∷◌, Some, refl, sym, ap, subst, inl, inr, arith, slice_get, decimal}
use Rattle.file_laws.proofs.Common.{In, In-append_cases, In-append_left, In-append_right, In-map, In-map_source, Rect, Square, Covers, RawTech}
use Rattle.file_laws.proofs.Common.{Layout, CifItem, Area, Call, CifMove, CifParts, part_name, HoldsPart, AreRuns, IsPartBoxes}
use Rattle.text_scan.proofs.DecimalLemmas.{decimal-injective}
use Rattle.finite_sets.proofs.Members.{In-some}
use Rattle.finite_sets.proofs.Places.{slice_get-one}
use Rattle.geo_core.proofs.StripSets.{strip_within}
use Rattle.file_laws.proofs.ItemMeanings.{HasBox, box_wider}

-- the number of a part is told by its name
name_tells : (j k : ℕ) → part_name j ≡ part_name k → j ≡ k
name_tells j k same =
    let digits : decimal (pos j) ≡ decimal (pos k) = cc in
    let numbers : pos j ≡ pos k = decimal-injective (pos j) (pos k) digits in
    cc

module _ (cif : CifParts) (raw : RawTech) (own : Layout) where
  -- A box comes from the part whose name its layer has, which the own paint holds wherever it covers.
  pub record IsBoxOf (number : ℕ) (parts : List ℕ) (layer : ℕ) (box : Rect) : Type 0 where
    pub k : ℕ
    pub part : ℕ
    pub there : slice_get parts k ≡ Some part
    pub named : slice_get cif.layers layer ≡ Some (part_name (number + k))
    pub holds : (square : Square) → Covers box square → HoldsPart raw own part square

  first_box : (number part : ℕ) (parts : List ℕ) (items : List CifItem) → IsPartBoxes cif.layers raw own number part items → (layer : ℕ) (box : Rect)
      → In (Area layer box) items → IsBoxOf number (part ∷ parts) layer box
  first_box number part parts items (areas, at, strips, named, is) layer box among =
      let source = In-map_source (Area at) (Area layer box) areas (subst (λ (l : List CifItem). In (Area layer box) l) is among) in
      let layers_same : at ≡ layer = let same = source.1.1 in cc in
      let boxes_same : source.0 ≡ box = let same = source.1.1 in cc in
      let strip = strips.each box (subst (λ (area : Rect). In area areas) boxes_same source.1.0) in
      record {
        k = 0;
        part = part;
        there = refl;
        named = subst (λ (l : ℕ). slice_get cif.layers l ≡ Some (part_name (number + 0))) layers_same
            (named (In-some source.0 areas source.1.0) ∙ ap (λ (n : ℕ). Some (part_name n)) (omega arith));
        holds = λ square covers. strip_within (HoldsPart raw own part) box strip square.x square.y covers;
      }

  boxes_from : (number : ℕ) (parts : List ℕ) (items : List CifItem) → AreRuns (IsPartBoxes cif.layers raw own) number parts items → (layer : ℕ) (box : Rect)
      → In (Area layer box) items → IsBoxOf number parts layer box
  boxes_from number [] items none layer box among = absurd (subst (λ (l : List CifItem). In (Area layer box) l) none among)
  boxes_from number (part ∷ parts) items (first, rest, is, are_first, are_rest) layer box among =
      elim (In-append_cases (Area layer box) first rest (subst (λ (l : List CifItem). In (Area layer box) l) is among)) [
        | inl early ↦ first_box number part parts first are_first layer box early
        | inr late ↦ (let from = boxes_from (suc number) parts rest are_rest layer box late in record {
          k = suc from.k;
          part = from.part;
          there = from.there;
          named = from.named ∙ ap (λ (n : ℕ). Some (part_name n)) (omega arith);
          holds = from.holds;
        })
      ]

  -- what a box of the layer of a part's name covers, holds the part
  pub box_holds : (number : ℕ) (parts : List ℕ) (items : List CifItem) → AreRuns (IsPartBoxes cif.layers raw own) number parts items → (k part : ℕ)
      → slice_get parts k ≡ Some part → (square : Square) → HasBox cif items (part_name (number + k)) square → HoldsPart raw own part square
  box_holds number parts items are k part there square (layer, (named, (box, (among, covers)))) =
      let from = boxes_from number parts items are layer box among in
      let names : Some (part_name (number + from.k)) ≡ Some (part_name (number + k)) = sym from.named ∙ named in
      let numbers : number + from.k ≡ number + k = name_tells (number + from.k) (number + k) (cc) in
      let places : from.k ≡ k = omega (arith, numbers) in
      let same : from.part ≡ part = slice_get-one parts k from.part part (subst (λ (n : ℕ). slice_get parts n ≡ Some from.part) places from.there) there in
      subst (λ (p : ℕ). HoldsPart raw own p square) same (from.holds square covers)

  boxed_here : (k part : ℕ) (items : List CifItem) → IsPartBoxes cif.layers raw own k part items → (square : Square) → HoldsPart raw own part square
      → HasBox cif items (part_name k) square
  boxed_here k part items (areas, layer, strips, named, is) square holds =
      let found = strips.whole square holds in (
        layer,
        (
          named (In-some found.0 areas found.1.0),
          (
            found.0,
            (subst (λ (l : List CifItem). In (Area layer found.0) l) (sym is) (In-map (Area layer) found.0 areas found.1.0), found.1.1),
          ),
        ),
      )

  -- what holds the part, a box of the layer of its name covers
  pub held_by_box : (number : ℕ) (parts : List ℕ) (items : List CifItem) → AreRuns (IsPartBoxes cif.layers raw own) number parts items → (k part : ℕ)
      → slice_get parts k ≡ Some part → (square : Square) → HoldsPart raw own part square → HasBox cif items (part_name (number + k)) square
  held_by_box number [] items none k part there square holds = absurd (cc)
  held_by_box number (first ∷ parts) items (early, late, is, are_early, are_late) zero part there square holds =
      let same : first ≡ part = cc in
      let here = boxed_here number first early are_early square (subst (λ (p : ℕ). HoldsPart raw own p square) (sym same) holds) in
      box_wider cif early items (part_name (number + 0)) square
      (λ item stands. subst (λ (l : List CifItem). In item l) (sym is) (In-append_left item early late stands))
      (subst (λ (n : ℕ). HasBox cif early (part_name n) square) (omega arith) here)
  held_by_box number (first ∷ parts) items (early, late, is, are_early, are_late) (suc k) part there square holds =
      let later = held_by_box (suc number) parts late are_late k part there square holds in
      box_wider cif late items (part_name (number + suc k)) square
      (λ item stands. subst (λ (l : List CifItem). In item l) (sym is) (In-append_right item early late stands))
      (subst (λ (n : ℕ). HasBox cif late (part_name n) square) (omega arith) later)

  -- no box is a call
  pub no_call : (number : ℕ) (parts : List ℕ) (items : List CifItem) → AreRuns (IsPartBoxes cif.layers raw own) number parts items → (symbol : ℕ)
      (moves : List CifMove) → In (Call symbol moves) items → ⊥
  no_call number [] items none symbol moves among = subst (λ (l : List CifItem). In (Call symbol moves) l) none among
  no_call number (part ∷ parts) items (first, rest, is, (areas, at, strips, named, is_first), are_rest) symbol moves among =
      elim (In-append_cases (Call symbol moves) first rest (subst (λ (l : List CifItem). In (Call symbol moves) l) is among)) [
        | inl early ↦ (
            let source = In-map_source (Area at) (Call symbol moves) areas (subst (λ (l : List CifItem). In (Call symbol moves) l) is_first early) in
            let same = source.1.1 in cc)
        | inr late ↦ no_call (suc number) parts rest are_rest symbol moves late
      ]
