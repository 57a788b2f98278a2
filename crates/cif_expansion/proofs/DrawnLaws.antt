-- What items give in the instances of their symbol: one by one, and together.
use Rattle.cif_expansion.proofs.Common.{◌≡◌, ◌⊎◌, ℕ, ◌+◌, ◌<◌, List, [], ◌∷◌, ◌++◌, inl, inr, length, map, take, get_or, sym, ◌∙◌, ap, subst, All}
use Rattle.cif_expansion.proofs.Common.{slice_set, take_more, In, In-append_cases, In-append_left, In-append_right, In-get_or, Rect, Transform}
use Rattle.cif_expansion.proofs.Common.{composed, rect_image, IsLawfulItem, CifItem, CifMove, moved, list_at, AreAdded, IsBoxOf, IsCallOf, IsDrawn}
use Rattle.cif_expansion.proofs.Common.{LeavesRange, LiesInRange, MovesWithin, call_reach}
use Rattle.finite_sets.proofs.Members.{In-map, In-map_source}
use Rattle.finite_sets.proofs.Searches.{All-In}
use Rattle.cif_model.specs.declared.cifs.CifItem.TheVariants.{Area, Call}
use Rattle.cif_expansion.specs.steps.Drawings.{IsRangeFault}
use Rattle.cif_expansion.specs.declared.faults.ExpansionFault.{ExpansionFault}
use Rattle.cif_expansion.specs.declared.faults.ExpansionFault.TheVariants.{TooMany, OutOfRange, Memory}
use Rattle.cif_expansion.proofs.AddedLaws.{added-none, added-same, added-set, added-then}

-- what some of the items are, all items together are
box_within : (some items : List CifItem) (placements : List Transform) (layer : ℕ) (box : Rect) → ((item : CifItem) → In item some → In item items)
    → IsBoxOf some placements layer box → IsBoxOf items placements layer box
box_within some items placements layer box within is = record {
  area = is.area;
  placement = is.placement;
  is_item = within (Area layer is.area) is.is_item;
  is_placement = is.is_placement;
  is_image = is.is_image;
}

call_within : (some items : List CifItem) (placements : List Transform) (symbol : ℕ) (called : Transform)
    → ((item : CifItem) → In item some → In item items) → IsCallOf some placements symbol called → IsCallOf items placements symbol called
call_within some items placements symbol called within is = record {
  moves = is.moves;
  placement = is.placement;
  is_item = within (Call symbol is.moves) is.is_item;
  is_placement = is.is_placement;
  is_composed = is.is_composed;
}

-- where a box of some of the items leaves the range, one of all items does
pub outside_within : (some items : List CifItem) (placements : List Transform) → ((item : CifItem) → In item some → In item items)
    → LeavesRange some placements → LeavesRange items placements
outside_within some items placements within outside = record {
  layer = outside.layer;
  box = outside.box;
  is_box = box_within some items placements outside.layer outside.box within outside.is_box;
  is_outside = outside.is_outside;
}

box_cases : (items more : List CifItem) (placements : List Transform) (layer : ℕ) (box : Rect) → IsBoxOf (items ++ more) placements layer box
    → IsBoxOf items placements layer box ⊎ IsBoxOf more placements layer box
box_cases items more placements layer box is = elim (In-append_cases (Area layer is.area) items more is.is_item) [
  | inl first ↦ inl (record { area = is.area; placement = is.placement; is_item = first; is_placement = is.is_placement; is_image = is.is_image })
  | inr second ↦ inr (record { area = is.area; placement = is.placement; is_item = second; is_placement = is.is_placement; is_image = is.is_image })
]

call_cases : (items more : List CifItem) (placements : List Transform) (symbol : ℕ) (called : Transform) → IsCallOf (items ++ more) placements symbol called
    → IsCallOf items placements symbol called ⊎ IsCallOf more placements symbol called
call_cases items more placements symbol called is = elim (In-append_cases (Call symbol is.moves) items more is.is_item) [
  | inl first ↦ inl (record { moves = is.moves; placement = is.placement; is_item = first; is_placement = is.is_placement; is_composed = is.is_composed })
  | inr second ↦ inr (record { moves = is.moves; placement = is.placement; is_item = second; is_placement = is.is_placement; is_composed = is.is_composed })
]

-- first some items, and then more
pub drawn-more : (items more : List CifItem) (placements : List Transform) (boxes boxes' boxes'' : List (List Rect))
    (waiting waiting' waiting'' : List (List Transform))
    → IsDrawn items placements boxes boxes' waiting waiting' → IsDrawn more placements boxes' boxes'' waiting' waiting''
    → IsDrawn (items ++ more) placements boxes boxes'' waiting waiting''
drawn-more items more placements boxes boxes' boxes'' waiting waiting' waiting'' first second =
    let left : (item : CifItem) → In item items → In item (items ++ more) = λ item there. In-append_left item items more there in
    let right : (item : CifItem) → In item more → In item (items ++ more) = λ item there. In-append_right item items more there in
    record {
      boxes_are = added-same (λ layer box. IsBoxOf items placements layer box ⊎ IsBoxOf more placements layer box) (IsBoxOf (items ++ more) placements)
          boxes boxes''
          (λ layer box is. elim is [
            | inl p ↦ box_within items (items ++ more) placements layer box left p
            | inr q ↦ box_within more (items ++ more) placements layer box right q
          ])
          (box_cases items more placements)
          (added-then (IsBoxOf items placements) (IsBoxOf more placements) boxes boxes' boxes'' first.boxes_are second.boxes_are);
      calls_are = added-same (λ symbol called. IsCallOf items placements symbol called ⊎ IsCallOf more placements symbol called)
          (IsCallOf (items ++ more) placements) waiting waiting''
          (λ symbol called is. elim is [
            | inl p ↦ call_within items (items ++ more) placements symbol called left p
            | inr q ↦ call_within more (items ++ more) placements symbol called right q
          ])
          (call_cases items more placements)
          (added-then (IsCallOf items placements) (IsCallOf more placements) waiting waiting' waiting'' first.calls_are second.calls_are);
      in_range = λ layer box is. elim (box_cases items more placements layer box is) [
        | inl p ↦ first.in_range layer box p
        | inr q ↦ second.in_range layer box q
      ];
      near = λ symbol moves there. elim (In-append_cases (Call symbol moves) items more there) [
        | inl p ↦ first.near symbol moves p
        | inr q ↦ second.near symbol moves q
      ];
    }

-- the one item of a list
one_item : (first other : CifItem) → In other (first ∷ []) → first ≡ other
one_item first other there = elim there [ inl same ↦ same | inr none ↦ absurd none ]

area_of_box : (layer place : ℕ) (area inner : Rect) → Area layer area ≡ Area place inner → (layer ≡ place) × (area ≡ inner)
area_of_box layer place area inner same = (cc, cc)

box_of_area : (layer : ℕ) (area : Rect) (placements : List Transform) (place : ℕ) (box : Rect) → IsBoxOf (Area layer area ∷ []) placements place box
    → (layer ≡ place) × In box (map (λ placement. rect_image placement area) placements)
box_of_area layer area placements place box is =
    let same = area_of_box layer place area is.area (one_item (Area layer area) (Area place is.area) is.is_item) in
    let image : rect_image is.placement area ≡ box = ap (rect_image is.placement) same.1 ∙ sym is.is_image in (
      same.0,
      subst (λ (x : Rect). In x (map (λ placement. rect_image placement area) placements)) image
          (In-map (λ placement. rect_image placement area) is.placement placements is.is_placement),
    )

area_is_box : (layer : ℕ) (area : Rect) (placements : List Transform) (place : ℕ) (box : Rect)
    → (layer ≡ place) × In box (map (λ placement. rect_image placement area) placements) → IsBoxOf (Area layer area ∷ []) placements place box
area_is_box layer area placements place box (same, there) =
    let source = In-map_source (λ placement. rect_image placement area) box placements there in
    record {
      area = area;
      placement = source.0;
      is_item = inl (ap (λ n. Area n area) same);
      is_placement = source.1.0;
      is_image = sym source.1.1;
    }

-- a box of a layer in all instances
pub drawn-area : (layer : ℕ) (area : Rect) (placements : List Transform) (boxes boxes' : List (List Rect)) (waiting : List (List Transform))
    → layer < length boxes → boxes' ≡ slice_set boxes layer (list_at boxes layer ++ map (λ placement. rect_image placement area) placements)
    → All (λ placement. LiesInRange (rect_image placement area)) placements
    → IsDrawn (Area layer area ∷ []) placements boxes boxes' waiting waiting
drawn-area layer area placements boxes boxes' waiting below is lie =
    let images : List Rect = map (λ placement. rect_image placement area) placements in
    let pushed : AreAdded (λ place box. (layer ≡ place) × In box images) boxes boxes' =
    subst (AreAdded (λ place box. (layer ≡ place) × In box images) boxes) (sym is) (added-set boxes layer images below) in
    record {
      boxes_are = added-same (λ place box. (layer ≡ place) × In box images) (IsBoxOf (Area layer area ∷ []) placements) boxes boxes'
          (area_is_box layer area placements) (box_of_area layer area placements) pushed;
      calls_are = added-none (IsCallOf (Area layer area ∷ []) placements) waiting
          (λ symbol called there. let same = one_item (Area layer area) (Call symbol there.moves) there.is_item in cc);
      in_range = λ place box there.
          let source = In-map_source (λ placement. rect_image placement area) box placements (box_of_area layer area placements place box there).1 in
          subst LiesInRange source.1.1 (All-In (λ placement. LiesInRange (rect_image placement area)) placements source.0 lie source.1.0);
      near = λ symbol moves there. let same = one_item (Area layer area) (Call symbol moves) there in cc;
    }

moves_of_call : (symbol place : ℕ) (moves steps : List CifMove) → Call symbol moves ≡ Call place steps → (symbol ≡ place) × (moves ≡ steps)
moves_of_call symbol place moves steps same = (cc, cc)

call_of_call : (symbol : ℕ) (moves : List CifMove) (placements : List Transform) (place : ℕ) (called : Transform)
    → IsCallOf (Call symbol moves ∷ []) placements place called → (symbol ≡ place) × In called (map (composed (moved moves)) placements)
call_of_call symbol moves placements place called is =
    let same = moves_of_call symbol place moves is.moves (one_item (Call symbol moves) (Call place is.moves) is.is_item) in
    let image : composed (moved moves) is.placement ≡ called = ap (λ steps. composed (moved steps) is.placement) same.1 ∙ sym is.is_composed in (
      same.0,
      subst (λ (t : Transform). In t (map (composed (moved moves)) placements)) image
          (In-map (composed (moved moves)) is.placement placements is.is_placement),
    )

call_is_call : (symbol : ℕ) (moves : List CifMove) (placements : List Transform) (place : ℕ) (called : Transform)
    → (symbol ≡ place) × In called (map (composed (moved moves)) placements) → IsCallOf (Call symbol moves ∷ []) placements place called
call_is_call symbol moves placements place called (same, there) =
    let source = In-map_source (composed (moved moves)) called placements there in
    record {
      moves = moves;
      placement = source.0;
      is_item = inl (ap (λ n. Call n moves) same);
      is_placement = source.1.0;
      is_composed = sym source.1.1;
    }

-- a call in all instances
pub drawn-call : (symbol : ℕ) (moves : List CifMove) (placements : List Transform) (boxes : List (List Rect)) (waiting waiting' : List (List Transform))
    → symbol < length waiting → waiting' ≡ slice_set waiting symbol (list_at waiting symbol ++ map (composed (moved moves)) placements)
    → MovesWithin call_reach (moved moves) → IsDrawn (Call symbol moves ∷ []) placements boxes boxes waiting waiting'
drawn-call symbol moves placements boxes waiting waiting' below is near =
    let called : List Transform = map (composed (moved moves)) placements in
    let pushed : AreAdded (λ place t. (symbol ≡ place) × In t called) waiting waiting' =
    subst (AreAdded (λ place t. (symbol ≡ place) × In t called) waiting) (sym is) (added-set waiting symbol called below) in
    let no_box : (layer : ℕ) (box : Rect) → IsBoxOf (Call symbol moves ∷ []) placements layer box → ⊥ =
    λ layer box there. let same = one_item (Call symbol moves) (Area layer there.area) there.is_item in cc in
    record {
      boxes_are = added-none (IsBoxOf (Call symbol moves ∷ []) placements) boxes no_box;
      calls_are = added-same (λ place t. (symbol ≡ place) × In t called) (IsCallOf (Call symbol moves ∷ []) placements) waiting waiting'
          (call_is_call symbol moves placements) (call_of_call symbol moves placements) pushed;
      in_range = λ layer box there. absurd (no_box layer box there);
      near = λ place steps there.
          subst (λ s. MovesWithin call_reach (moved s)) (moves_of_call symbol place moves steps (one_item (Call symbol moves) (Call place steps) there)).1 near;
    }

-- the same of an item that is a box, or a call
pub drawn_as_area : (item : CifItem) (layer : ℕ) (area : Rect) (placements : List Transform) (boxes boxes' : List (List Rect))
    (waiting waiting' : List (List Transform))
    → item ≡ Area layer area → IsLawfulItem (length boxes) (length waiting) item
    → boxes' ≡ slice_set boxes layer (list_at boxes layer ++ map (λ placement. rect_image placement area) placements) → waiting' ≡ waiting
    → All (λ placement. LiesInRange (rect_image placement area)) placements → IsDrawn (item ∷ []) placements boxes boxes' waiting waiting'
drawn_as_area item layer area placements boxes boxes' waiting waiting' is lawful pushed kept lie =
    let own : IsLawfulItem (length boxes) (length waiting) (Area layer area) = subst (IsLawfulItem (length boxes) (length waiting)) is lawful in
    subst (λ (one : CifItem). IsDrawn (one ∷ []) placements boxes boxes' waiting waiting') (sym is)
    (subst (IsDrawn (Area layer area ∷ []) placements boxes boxes' waiting) (sym kept)
    (drawn-area layer area placements boxes boxes' waiting own.0 pushed lie))

pub drawn_as_call : (item : CifItem) (symbol : ℕ) (moves steps : List CifMove) (placements : List Transform) (boxes boxes' : List (List Rect))
    (waiting waiting' : List (List Transform)) → item ≡ Call symbol moves → steps ≡ moves → IsLawfulItem (length boxes) (length waiting) item
    → waiting' ≡ slice_set waiting symbol (list_at waiting symbol ++ map (composed (moved steps)) placements) → boxes' ≡ boxes
    → MovesWithin call_reach (moved steps) → IsDrawn (item ∷ []) placements boxes boxes' waiting waiting'
drawn_as_call item symbol moves steps placements boxes boxes' waiting waiting' is same lawful pushed kept near =
    let here : item ≡ Call symbol steps = is ∙ ap (Call symbol) (sym same) in
    let own : IsLawfulItem (length boxes) (length waiting) (Call symbol steps) = subst (IsLawfulItem (length boxes) (length waiting)) here lawful in
    subst (λ (one : CifItem). IsDrawn (one ∷ []) placements boxes boxes' waiting waiting') (sym here)
    (subst (λ now. IsDrawn (Call symbol steps ∷ []) placements boxes now waiting waiting') (sym kept)
    (drawn-call symbol steps placements boxes waiting waiting' own.0 pushed near))

-- the items up to a place, and the one there
pub drawn_next : (items : List CifItem) (i : ℕ) (item : CifItem) (placements : List Transform) (boxes boxes' boxes'' : List (List Rect))
    (waiting waiting' waiting'' : List (List Transform)) → i < length items → item ≡ get_or items i item
    → IsDrawn (take i items) placements boxes boxes' waiting waiting' → IsDrawn (item ∷ []) placements boxes' boxes'' waiting' waiting''
    → IsDrawn (take (i + 1) items) placements boxes boxes'' waiting waiting''
drawn_next items i item placements boxes boxes' boxes'' waiting waiting' waiting'' below is before own =
    let next : take (i + 1) items ≡ take i items ++ item ∷ [] = take_more items i item below ∙ ap (λ (one : CifItem). take i items ++ one ∷ []) (sym is) in
    subst (λ some. IsDrawn some placements boxes boxes'' waiting waiting'') (sym next)
    (drawn-more (take i items) (item ∷ []) placements boxes boxes' boxes'' waiting waiting' waiting'' before own)

-- where the one there leaves the range
pub outside_there : (items : List CifItem) (i : ℕ) (item : CifItem) (placements : List Transform) → i < length items → item ≡ get_or items i item
    → LeavesRange (item ∷ []) placements → LeavesRange items placements
outside_there items i item placements below is outside =
    outside_within (item ∷ []) items placements
    (λ other there. subst (λ (one : CifItem). In one items) (sym is ∙ one_item item other there) (In-get_or items i item below)) outside

-- a fault for a reason is one for a weaker reason
pub range_fault_weaker : (P Q : Type 0) (fault : ExpansionFault) → (P → Q) → IsRangeFault P fault → IsRangeFault Q fault
range_fault_weaker P Q (TooMany limit) weaker is = is
range_fault_weaker P Q OutOfRange weaker is = weaker is
range_fault_weaker P Q Memory weaker is = is
