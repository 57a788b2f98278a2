-- An area inside the box of what a cell has of its own that touches none of its sides: what changes in the area alone leaves the box.
use Rattle.cell_library.proofs.Common.{◌≡◌, ◌⊎◌, inl, inr, ℕ, ◌<◌, ◌≤◌, ℤ, ◌≤ℤ◌, ◌<ℤ◌, true, false, Bool, List, [], ◌∷◌, refl, sym, ◌∙◌, arith}
use Rattle.cell_library.proofs.Common.{nat_lt, list_any, cases_Bool, cases_lt, ints, clamps, In, Rect, joined_rect, LiesWithin, is_covered, Covers}
use Rattle.cell_library.proofs.Common.{Label, Layout, IsMaterial, Place, HoldsOwn, IsOwnBox}
use Rattle.std.specs.List.{range_with_len}
use Rattle.std.proofs.lemmas.Bool.{ltb-true, ltb-false}
use Rattle.geo_core.specs.FiniteSets.Range.{integer_range, pairs_of}
use Rattle.geo_core.proofs.FiniteSets.Ranges.{In-pairs_of, Lists-rectangle}
use Rattle.geo_core.proofs.FiniteSets.Searches.{list_any-In, list_any-source}
use Rattle.geo_core.proofs.CoveringLaws.{covers_joined_left, covers_joined_right, within_covers, within_joined_first, within_joined_second, within_trans, Covers-is_covered}
use Rattle.tech_model.proofs.WellFormedLaws.{In-range_with_len}
use Rattle.cell_library.specs.OwnBoxes.{HasOwn}
use Rattle.cell_library.specs.steps.OwnRestorations.{is_inside}

-- ---- whether there is material

abbrev place_of : ℕ × (ℤ × ℤ) → Place
place_of at = record { plane = at.0; square = record { x = at.1.0; y = at.1.1 } }

-- the places of the first planes in a box
abbrev places_in : ℕ → Rect → List (ℕ × (ℤ × ℤ))
places_in count box = pairs_of (range_with_len 0 count) (pairs_of (integer_range box.xlo box.xhi) (integer_range box.ylo box.yhi))

abbrev has_paint : Layout → ℕ × (ℤ × ℤ) → Bool
has_paint own at = nat_lt 0 (own (place_of at))

-- on the first planes there is material, or there is none in the box
some_or_none : (own : Layout) (count : ℕ) (box : Rect)
    → ((place : Place) × IsMaterial own place) ⊎ ((place : Place) → place.plane < count → Covers box place.square → own place ≡ 0)
some_or_none own count box = elim (cases_Bool (list_any (has_paint own) (places_in count box))) [
  | inl some ↦
      let found = list_any-source (has_paint own) (places_in count box) some in
      let more : 0 < own (place_of found.0) = ltb-true 0 (own (place_of found.0)) found.1.1 in
      inl (place_of found.0, (λ space. omega (arith, more, space)))
  | inr none ↦ inr (λ place below covers.
      let square : ℤ × ℤ = (place.square.x, place.square.y) in
      let there = (Lists-rectangle box.xlo box.xhi box.ylo box.yhi).1 square
      ((covers.right_of_xlo, covers.left_of_xhi), (covers.above_ylo, covers.below_yhi)) in
      let here = In-pairs_of place.plane square (range_with_len 0 count) (pairs_of (integer_range box.xlo box.xhi) (integer_range box.ylo box.yhi))
      (In-range_with_len 0 count place.plane (omega arith) (omega arith)) there in
      let least : own place ≤ 0 = ltb-false 0 (own place) (list_any-In (has_paint own) (places_in count box) (place.plane, square) none here) in
      omega (arith, least))
]

-- ---- the box

module _ (area box : Rect) (inside : is_inside area box ≡ true) (before own : Layout) (labels_before labels : List Label)
    (is : IsOwnBox before labels_before box) (agrees : (place : Place) → is_covered area place.square ≡ false → before place ≡ own place)
    (came : (label : Label) → In label labels → In label labels_before ⊎ LiesWithin label.area area)
    (went : (label : Label) → In label labels_before → In label labels ⊎ LiesWithin label.area area) (count : ℕ)
    (space : (place : Place) → count ≤ place.plane → own place ≡ 0) where
  left : box.xlo <ℤ area.xlo
  left = grind (arith, ints)

  right : area.xhi <ℤ box.xhi
  right = grind (arith, ints)

  low : box.ylo <ℤ area.ylo
  low = grind (arith, ints)

  high : area.yhi <ℤ box.yhi
  high = grind (arith, ints)

  area_within : LiesWithin area box
  area_within =
      let l = left in let r = right in let b = low in let t = high in
      record { right_of_xlo = omega (arith, ints); above_ylo = omega (arith, ints); left_of_xhi = omega (arith, ints); below_yhi = omega (arith, ints) }

  -- where there is neither material in the box nor a label, all that was there lay in the area
  held_by_area : ((place : Place) → place.plane < count → Covers box place.square → own place ≡ 0) → ((label : Label) → In label labels → ⊥)
      → HoldsOwn before labels_before area
  held_by_area none no_label = record {
    material = λ place material. elim (cases_Bool (is_covered area place.square)) [
      | inl covered ↦ Covers-is_covered area place.square covered
      | inr outside ↦ absurd (material (agrees place outside ∙ elim (cases_lt place.plane count) [
        | inl below ↦ none place below (is.holds.material place material)
        | inr past ↦ space place (omega (arith, past))
      ]))
    ];
    labels_within = λ label among. elim (went label among) [ inl still ↦ absurd (no_label label still) | inr within ↦ within ];
  }

  never_held : HoldsOwn before labels_before area → ⊥
  never_held holds =
      let within : area.xlo ≤ℤ box.xlo = (is.least area holds).right_of_xlo in
      let l = left in omega (arith, ints, within, l)

  has_own : (list : List Label) → ((label : Label) → In label labels → In label list) → ((label : Label) → In label list → In label labels)
      → HasOwn own labels
  has_own [] among back = elim (some_or_none own count box) [
    | inl some ↦ inl some
    | inr none ↦ absurd (never_held (held_by_area none (λ label here. among label here)))
  ]
  has_own (label ∷ list) among back = inr (label, back label (inl refl))

  -- what it had is held by what holds what it has and the area
  held_with_area : (other : Rect) → HoldsOwn own labels other → HoldsOwn before labels_before (joined_rect other area)
  held_with_area other holds = record {
    material = λ place material. elim (cases_Bool (is_covered area place.square)) [
      | inl covered ↦ covers_joined_right other area place.square (Covers-is_covered area place.square covered)
      | inr outside ↦ covers_joined_left other area place.square (holds.material place (λ none. material (agrees place outside ∙ none)))
    ];
    labels_within = λ label among. elim (went label among) [
      | inl still ↦ within_trans label.area other (joined_rect other area) (holds.labels_within label still) (within_joined_first other area)
      | inr within ↦ within_trans label.area area (joined_rect other area) within (within_joined_second other area)
    ];
  }

  -- the box is that of what there is now
  pub box_stays : IsOwnBox own labels box
  box_stays = record {
    some = has_own labels (λ label here. here) (λ label here. here);
    holds = record {
      material = λ place material. elim (cases_Bool (is_covered area place.square)) [
        | inl covered ↦ within_covers area box place.square area_within (Covers-is_covered area place.square covered)
        | inr outside ↦ is.holds.material place (λ none. material (sym (agrees place outside) ∙ none))
      ];
      labels_within = λ label among. elim (came label among) [
        | inl was ↦ is.holds.labels_within label was
        | inr within ↦ within_trans label.area area box within area_within
      ];
    };
    least = λ other holds.
        let within = is.least (joined_rect other area) (held_with_area other holds) in
        let a : (joined_rect other area).xlo ≤ℤ box.xlo = within.right_of_xlo in
        let b : (joined_rect other area).ylo ≤ℤ box.ylo = within.above_ylo in
        let c : box.xhi ≤ℤ (joined_rect other area).xhi = within.left_of_xhi in
        let d : box.yhi ≤ℤ (joined_rect other area).yhi = within.below_yhi in
        let l = left in let r = right in let lo = low in let hi = high in
        record {
          right_of_xlo = omega (arith, ints, clamps);
          above_ylo = omega (arith, ints, clamps);
          left_of_xhi = omega (arith, ints, clamps);
          below_yhi = omega (arith, ints, clamps);
        };
  }
