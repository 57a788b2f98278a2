-- Symbol by symbol, the last first: the boxes that are drawn, and those that the waiting instances lead to, are those that the text stands for.
use Rattle.cif_expansion.proofs.Common.{◌≡◌, ◌⊎◌, ℕ, zero, suc, ◌+◌, ◌*◌, ◌<◌, ◌≤◌, List, [], ◌∷◌, ◌++◌, Some, inl, inr, length, get_or, refl, sym}
use Rattle.cif_expansion.proofs.Common.{◌∙◌, ap, subst, arith, All, slice_get, In, Rect, Transform, composed, identity, rect_image, CifParts}
use Rattle.cif_expansion.proofs.Common.{IsLawfulItem, CifItem, CifMove, moved, size_of, list_at, IsBoxOf, IsCallOf, IsDrawn, LeavesRange}
use Rattle.cif_expansion.proofs.Common.{StandsOutside, LiesInRange, MovesWithin, call_reach, chain_reach}
use Rattle.std.proofs.lemmas.List.{get_or_push, length-append}
use Rattle.std.proofs.lemmas.Option.{slice_get_read}
use Rattle.finite_sets.proofs.Places.{In-slice_get, slice_get-In, slice_get-below}
use Rattle.finite_sets.proofs.Searches.{All-from_In, All-In}
use Rattle.cif_model.specs.Cifs.{IsLawfulCif}
use Rattle.cif_model.specs.declared.cifs.CifItem.TheVariants.{Call}
use Rattle.cif_model.specs.declared.cifs.CifSymbol.{CifSymbol}
use Rattle.cif_model.specs.Meanings.{StandsUnder, items_at}
use Rattle.cif_model.proofs.RectLaws.{rect_image-composed, rect_image-identity}
use Rattle.cif_model.proofs.SizeLaws.{depth_of, depth-falls}
use Rattle.cif_expansion.specs.declared.limits.TheConstants.{LONGEST_CHAIN}
use Rattle.cif_expansion.specs.Expansions.{Expands, AreBoxesOf}
use Rattle.cif_expansion.proofs.ReachLaws.{composed-within, identity-within, within_weaker}

-- the items of the symbol at a place
abbrev pub items_of : List CifSymbol → ℕ → List CifItem
items_of symbols place = items_at (slice_get symbols place)

-- The box of the layer stands under some list of calls from the items, and is moved by the placement.
pub record Draws (symbols : List CifSymbol) (items : List CifItem) (placement : Transform) (layer : ℕ) (box : Rect) : Type 0 where
  pub calls : List ℕ
  pub inner : Rect
  pub stands : StandsUnder symbols layer calls items inner
  pub is_image : box ≡ rect_image placement inner

-- It does so in an instance with one of these placements.
pub record DrawsIn (symbols : List CifSymbol) (items : List CifItem) (placements : List Transform) (layer : ℕ) (box : Rect) : Type 0 where
  pub placement : Transform
  pub is_placement : In placement placements
  pub draws : Draws symbols items placement layer box

-- It does so in an instance of a symbol that one of the items calls.
pub record DrawsCalled (symbols : List CifSymbol) (items : List CifItem) (placements : List Transform) (layer : ℕ) (box : Rect) : Type 0 where
  pub symbol : ℕ
  pub called : Transform
  pub is_call : IsCallOf items placements symbol called
  pub draws : Draws symbols (items_of symbols symbol) called layer box

-- It does so in an instance that waits.
pub record Waits (symbols : List CifSymbol) (waiting : List (List Transform)) (layer : ℕ) (box : Rect) : Type 0 where
  pub place : ℕ
  pub placement : Transform
  pub is_waiting : In placement (list_at waiting place)
  pub draws : Draws symbols (items_of symbols place) placement layer box

-- a box in an instance is that of an item, or stands under a call
cases_of : (symbols : List CifSymbol) (items : List CifItem) (placements : List Transform) (placement : Transform) (layer : ℕ) (box inner : Rect)
    (calls : List ℕ)
    → In placement placements → StandsUnder symbols layer calls items inner → box ≡ rect_image placement inner
    → IsBoxOf items placements layer box ⊎ DrawsCalled symbols items placements layer box
cases_of symbols items placements placement layer box inner [] there stands image =
    inl (record { area = inner; placement = placement; is_item = stands; is_placement = there; is_image = image })
cases_of symbols items placements placement layer box inner (place ∷ calls) there (symbol, (moves, (below, (is, (stands, same))))) image =
    inr (record {
      symbol = symbol;
      called = composed (moved moves) placement;
      is_call = record {
        moves = moves;
        placement = placement;
        is_item = In-slice_get items place (Call symbol moves) is;
        is_placement = there;
        is_composed = refl;
      };
      draws = record {
        calls = calls;
        inner = below;
        stands = stands;
        is_image = image ∙ ap (rect_image placement) same ∙ sym (rect_image-composed (moved moves) placement below);
      };
    })

draws_cases : (symbols : List CifSymbol) (items : List CifItem) (placements : List Transform) (layer : ℕ) (box : Rect)
    → DrawsIn symbols items placements layer box
    → IsBoxOf items placements layer box ⊎ DrawsCalled symbols items placements layer box
draws_cases symbols items placements layer box is =
    cases_of symbols items placements is.placement layer box is.draws.inner is.draws.calls is.is_placement is.draws.stands is.draws.is_image

-- and both are boxes in an instance
box_draws : (symbols : List CifSymbol) (items : List CifItem) (placements : List Transform) (layer : ℕ) (box : Rect) → IsBoxOf items placements layer box
    → DrawsIn symbols items placements layer box
box_draws symbols items placements layer box is = record {
  placement = is.placement;
  is_placement = is.is_placement;
  draws = record { calls = []; inner = is.area; stands = is.is_item; is_image = is.is_image };
}

called_draws : (symbols : List CifSymbol) (items : List CifItem) (placements : List Transform) (layer : ℕ) (box : Rect)
    → DrawsCalled symbols items placements layer box → DrawsIn symbols items placements layer box
called_draws symbols items placements layer box is =
    let moves = is.is_call.moves in
    let placement = is.is_call.placement in
    let inner = is.draws.inner in
    let at = slice_get-In (Call is.symbol moves) items is.is_call.is_item in
    record {
      placement = placement;
      is_placement = is.is_call.is_placement;
      draws = record {
        calls = at.0 ∷ is.draws.calls;
        inner = rect_image (moved moves) inner;
        stands = (is.symbol, (moves, (inner, (at.1, (is.draws.stands, refl)))));
        is_image = is.draws.is_image ∙ ap (λ (t : Transform). rect_image t inner) is.is_call.is_composed ∙ rect_image-composed (moved moves) placement inner;
      };
    }

module _ (symbols : List CifSymbol) (items : List CifItem) (placements : List Transform) (boxes boxes' : List (List Rect))
    (waiting waiting' : List (List Transform))
    (drawn : IsDrawn items placements boxes boxes' waiting waiting') (layer : ℕ) (box : Rect) where
  -- what the items lead to is drawn, or waits
  drawn_or_waits : DrawsIn symbols items placements layer box → In box (list_at boxes' layer) ⊎ Waits symbols waiting' layer box
  drawn_or_waits is = elim (draws_cases symbols items placements layer box is) [
    | inl own ↦ inl (drawn.boxes_are.added layer box own)
    | inr called ↦ inr (record {
      place = called.symbol;
      placement = called.called;
      is_waiting = drawn.calls_are.added called.symbol called.called called.is_call;
      draws = called.draws;
    })
  ]

  -- what waited waits still
  waits_still : Waits symbols waiting layer box → Waits symbols waiting' layer box
  waits_still is = record {
    place = is.place;
    placement = is.placement;
    is_waiting = drawn.calls_are.kept is.place is.placement is.is_waiting;
    draws = is.draws;
  }

  -- what is drawn was drawn before, or the items lead to it
  drawn_before : In box (list_at boxes' layer) → In box (list_at boxes layer) ⊎ DrawsIn symbols items placements layer box
  drawn_before there = elim (drawn.boxes_are.only layer box there) [
    | inl before ↦ inl before
    | inr own ↦ inr (box_draws symbols items placements layer box own)
  ]

  -- what waits waited before, or the items lead to it
  waited_before : Waits symbols waiting' layer box → Waits symbols waiting layer box ⊎ DrawsIn symbols items placements layer box
  waited_before is = elim (drawn.calls_are.only is.place is.placement is.is_waiting) [
    | inl before ↦ inl (record { place = is.place; placement = is.placement; is_waiting = before; draws = is.draws })
    | inr call ↦ inr (called_draws symbols items placements layer box (record {
      symbol = is.place;
      called = is.placement;
      is_call = call;
      draws = is.draws;
    }))
  ]

  -- what is drawn lies within the range
  drawn_in_range : (In box (list_at boxes layer) → LiesInRange box) → In box (list_at boxes' layer) → LiesInRange box
  drawn_in_range before there = elim (drawn.boxes_are.only layer box there) [
    | inl old ↦ before old
    | inr own ↦ drawn.in_range layer box own
  ]

-- So many calls lead to the placement that the chain below fits, and it is as near as they may lead.
pub record IsNear (symbols : List CifSymbol) (items : List CifItem) (placement : Transform) : Type 0 where
  pub calls : ℕ
  pub few : calls + depth_of symbols items ≤ LONGEST_CHAIN
  pub within : MovesWithin (calls * call_reach) placement

-- then the placement can be composed with any call
pub near_within : (symbols : List CifSymbol) (items : List CifItem) (placement : Transform) → IsNear symbols items placement → MovesWithin chain_reach placement
near_within symbols items placement is = within_weaker (is.calls * call_reach) chain_reach placement (omega (arith, is.few)) is.within

pub all_within : (symbols : List CifSymbol) (items : List CifItem) (placements : List Transform)
    → ((placement : Transform) → In placement placements → IsNear symbols items placement) → All (MovesWithin chain_reach) placements
all_within symbols items placements near =
    All-from_In (MovesWithin chain_reach) placements (λ placement there. near_within symbols items placement (near placement there))

-- the instances of a called symbol are near, too
near_called : (cif : CifParts) (items : List CifItem) (placements : List Transform) (place : ℕ) (called : Transform) → IsLawfulCif cif
    → ((symbol : ℕ) (moves : List CifMove) → In (Call symbol moves) items → symbol < length cif.symbols)
    → ((symbol : ℕ) (moves : List CifMove) → In (Call symbol moves) items → MovesWithin call_reach (moved moves))
    → ((placement : Transform) → In placement placements → IsNear cif.symbols items placement)
    → IsCallOf items placements place called → IsNear cif.symbols (items_of cif.symbols place) called
near_called cif items placements place called lawful known moves_near near call =
    let found = slice_get-below cif.symbols place (known place call.moves call.is_item) in
    let falls = depth-falls cif items place call.moves found.0 lawful call.is_item found.1 in
    let outer = near call.placement call.is_placement in
    let both = composed-within (moved call.moves) call.placement call_reach (outer.calls * call_reach) (moves_near place call.moves call.is_item)
    outer.within in
    let own : depth_of cif.symbols (items_of cif.symbols place) ≡ depth_of cif.symbols found.0.items =
    ap (λ one. depth_of cif.symbols (items_at one)) found.1 in
    record {
      calls = outer.calls + 1;
      few = omega (arith, falls, outer.few, own);
      within = subst (MovesWithin ((outer.calls + 1) * call_reach)) (sym call.is_composed)
          (within_weaker (call_reach + outer.calls * call_reach) ((outer.calls + 1) * call_reach) (composed (moved call.moves) call.placement) (omega arith)
          both);
    }

-- Some symbols are drawn, in all their instances, and the instances of the others that these and the top level call wait.
pub record IsHalfDrawn (cif : CifParts) (boxes : List (List Rect)) (waiting : List (List Transform)) : Type 0 where
  pub one_each : length boxes ≡ length cif.layers
  pub others : length waiting ≤ length cif.symbols
  pub every : (layer : ℕ) (box : Rect) → Expands cif layer box → In box (list_at boxes layer) ⊎ Waits cif.symbols waiting layer box
  pub only : (layer : ℕ) (box : Rect) → In box (list_at boxes layer) → Expands cif layer box
  pub waits : (layer : ℕ) (box : Rect) → Waits cif.symbols waiting layer box → Expands cif layer box
  pub in_range : (layer : ℕ) (box : Rect) → In box (list_at boxes layer) → LiesInRange box
  pub near : (place : ℕ) (placement : Transform) → In placement (list_at waiting place) → IsNear cif.symbols (items_of cif.symbols place) placement

-- which symbols the items of a lawful symbol call
calls_known : (layers places : ℕ) (items : List CifItem) (symbols : List CifSymbol) → places ≤ length symbols → All (IsLawfulItem layers places) items
    → (symbol : ℕ) (moves : List CifMove) → In (Call symbol moves) items → symbol < length symbols
calls_known layers places items symbols less lawful symbol moves there =
    let one : IsLawfulItem layers places (Call symbol moves) = All-In (IsLawfulItem layers places) items (Call symbol moves) lawful there in
    omega (arith, one.0, less)

-- what the top level leads to, as it stands there
top_draws : (cif : CifParts) (layer : ℕ) (box : Rect) → Expands cif layer box → DrawsIn cif.symbols cif.top (identity ∷ []) layer box
top_draws cif layer box is = record {
  placement = identity;
  is_placement = inl refl;
  draws = record { calls = is.0; inner = box; stands = is.1; is_image = sym (rect_image-identity box) };
}

top_expands : (cif : CifParts) (layer : ℕ) (box : Rect) → DrawsIn cif.symbols cif.top (identity ∷ []) layer box → Expands cif layer box
top_expands cif layer box is =
    let here : identity ≡ is.placement = elim is.is_placement [ inl same ↦ same | inr none ↦ absurd none ] in
    let same : is.draws.inner ≡ box =
    sym (rect_image-identity is.draws.inner) ∙ ap (λ (t : Transform). rect_image t is.draws.inner) here ∙ sym is.draws.is_image in
    (is.draws.calls, subst (StandsUnder cif.symbols layer is.draws.calls cif.top) same is.draws.stands)

nothing_there : {X : Type 0} (lists : List (List X)) (place : ℕ) (x : X) → ((other : ℕ) → list_at lists other ≡ []) → In x (list_at lists place) → ⊥
nothing_there {X} lists place x empty there = let none : In x [] = subst (In x) (empty place) there in absurd none

-- the top level stands near
pub top_near : (cif : CifParts) → (size_of cif).depth ≤ LONGEST_CHAIN → (placement : Transform) → In placement (identity ∷ [])
    → IsNear cif.symbols cif.top placement
top_near cif few placement there =
    let here : identity ≡ placement = elim there [ inl same ↦ same | inr none ↦ absurd none ] in
    subst (IsNear cif.symbols cif.top) here
    (record { calls = 0; few = omega (arith, few); within = within_weaker 0 (0 * call_reach) identity (omega arith) identity-within })

-- the top level is drawn
pub half_first : (cif : CifParts) (boxes boxes' : List (List Rect)) (waiting waiting' : List (List Transform)) → IsLawfulCif cif
    → (size_of cif).depth ≤ LONGEST_CHAIN → length boxes ≡ length cif.layers → length waiting ≡ length cif.symbols
    → ((place : ℕ) → list_at boxes place ≡ []) → ((place : ℕ) → list_at waiting place ≡ [])
    → IsDrawn cif.top (identity ∷ []) boxes boxes' waiting waiting' → IsHalfDrawn cif boxes' waiting'
half_first cif boxes boxes' waiting waiting' lawful few long symbols no_boxes none_wait drawn =
    let here = identity ∷ [] in
    let nothing_waits : (layer : ℕ) (box : Rect) → Waits cif.symbols waiting layer box → ⊥ =
    λ layer box is. nothing_there waiting is.place is.placement none_wait is.is_waiting in
    record {
      one_each = drawn.boxes_are.so_many ∙ long;
      others = omega (arith, drawn.calls_are.so_many, symbols);
      every = λ layer box is. drawn_or_waits cif.symbols cif.top here boxes boxes' waiting waiting' drawn layer box (top_draws cif layer box is);
      only = λ layer box there. elim (drawn_before cif.symbols cif.top here boxes boxes' waiting waiting' drawn layer box there) [
        | inl before ↦ absurd (nothing_there boxes layer box no_boxes before)
        | inr own ↦ top_expands cif layer box own
      ];
      waits = λ layer box is. elim (waited_before cif.symbols cif.top here boxes boxes' waiting waiting' drawn layer box is) [
        | inl before ↦ absurd (nothing_waits layer box before)
        | inr own ↦ top_expands cif layer box own
      ];
      in_range = λ layer box there. drawn_in_range cif.symbols cif.top here boxes boxes' waiting waiting' drawn layer box
          (λ before. absurd (nothing_there boxes layer box no_boxes before)) there;
      near = λ place placement there. elim (drawn.calls_are.only place placement there) [
        | inl before ↦ absurd (nothing_there waiting place placement none_wait before)
        | inr call ↦ near_called cif cif.top here place placement lawful
            (calls_known (length cif.layers) (length cif.symbols) cif.top cif.symbols (omega arith) lawful.top) drawn.near (top_near cif few) call
      ];
    }

-- what waits in the last list, or in those before it
last_cases : {X : Type 0} (rest : List (List X)) (own : List X) (place : ℕ) (x : X) → In x (list_at (rest ++ own ∷ []) place)
    → In x (list_at rest place) ⊎ ((place ≡ length rest) × In x own)
last_cases [] own zero x there = inr (refl, there)
last_cases [] own (suc place) x there = absurd there
last_cases (first ∷ rest) own zero x there = inl there
last_cases (first ∷ rest) own (suc place) x there = elim (last_cases rest own place x there) [
  | inl before ↦ inl before
  | inr last ↦ inr (ap suc last.0, last.1)
]

before_last : {X : Type 0} (rest : List (List X)) (own : List X) (place : ℕ) (x : X) → In x (list_at rest place) → In x (list_at (rest ++ own ∷ []) place)
before_last [] own place x there = absurd there
before_last (first ∷ rest) own zero x there = there
before_last (first ∷ rest) own (suc place) x there = before_last rest own place x there

at_last : {X : Type 0} (rest : List (List X)) (own : List X) (x : X) → In x own → In x (list_at (rest ++ own ∷ []) (length rest))
at_last rest own x there = subst (In x) (sym (get_or_push rest own [] (length rest) refl)) there

waits_before : (symbols : List CifSymbol) (rest : List (List Transform)) (own : List Transform) (layer : ℕ) (box : Rect)
    → Waits symbols rest layer box → Waits symbols (rest ++ own ∷ []) layer box
waits_before symbols rest own layer box is = record {
  place = is.place;
  placement = is.placement;
  is_waiting = before_last rest own is.place is.placement is.is_waiting;
  draws = is.draws;
}

waits_last : (symbols : List CifSymbol) (rest : List (List Transform)) (own : List Transform) (layer : ℕ) (box : Rect)
    → DrawsIn symbols (items_of symbols (length rest)) own layer box → Waits symbols (rest ++ own ∷ []) layer box
waits_last symbols rest own layer box is = record {
  place = length rest;
  placement = is.placement;
  is_waiting = at_last rest own is.placement is.is_placement;
  draws = is.draws;
}

waits_cases : (symbols : List CifSymbol) (rest : List (List Transform)) (own : List Transform) (layer : ℕ) (box : Rect)
    → Waits symbols (rest ++ own ∷ []) layer box → Waits symbols rest layer box ⊎ DrawsIn symbols (items_of symbols (length rest)) own layer box
waits_cases symbols rest own layer box is = elim (last_cases rest own is.place is.placement is.is_waiting) [
  | inl before ↦ inl (record { place = is.place; placement = is.placement; is_waiting = before; draws = is.draws })
  | inr last ↦ inr (record {
    placement = is.placement;
    is_placement = last.1;
    draws = subst (λ place. Draws symbols (items_of symbols place) is.placement layer box) last.0 is.draws;
  })
]

-- the last of the waiting symbols is drawn
pub half_more : (cif : CifParts) (boxes boxes' : List (List Rect)) (rest waiting' : List (List Transform)) (own : List Transform) → IsLawfulCif cif
    → All (IsLawfulItem (length cif.layers) (length rest)) (items_of cif.symbols (length rest)) → IsHalfDrawn cif boxes (rest ++ own ∷ [])
    → IsDrawn (items_of cif.symbols (length rest)) own boxes boxes' rest waiting' → length rest ≤ length cif.symbols → IsHalfDrawn cif boxes' waiting'
half_more cif boxes boxes' rest waiting' own lawful items_lawful half drawn less =
    let items = items_of cif.symbols (length rest) in
    record {
      one_each = drawn.boxes_are.so_many ∙ half.one_each;
      others = omega (arith, drawn.calls_are.so_many, less);
      every = λ layer box is. elim (half.every layer box is) [
        | inl before ↦ inl (drawn.boxes_are.kept layer box before)
        | inr waited ↦ elim (waits_cases cif.symbols rest own layer box waited) [
          | inl other ↦ inr (waits_still cif.symbols items own boxes boxes' rest waiting' drawn layer box other)
          | inr now ↦ drawn_or_waits cif.symbols items own boxes boxes' rest waiting' drawn layer box now
        ]
      ];
      only = λ layer box there. elim (drawn_before cif.symbols items own boxes boxes' rest waiting' drawn layer box there) [
        | inl before ↦ half.only layer box before
        | inr now ↦ half.waits layer box (waits_last cif.symbols rest own layer box now)
      ];
      waits = λ layer box is. elim (waited_before cif.symbols items own boxes boxes' rest waiting' drawn layer box is) [
        | inl before ↦ half.waits layer box (waits_before cif.symbols rest own layer box before)
        | inr now ↦ half.waits layer box (waits_last cif.symbols rest own layer box now)
      ];
      in_range = λ layer box there. drawn_in_range cif.symbols items own boxes boxes' rest waiting' drawn layer box (half.in_range layer box) there;
      near = λ place placement there. elim (drawn.calls_are.only place placement there) [
        | inl before ↦ half.near place placement (before_last rest own place placement before)
        | inr call ↦ near_called cif items own place placement lawful (calls_known (length cif.layers) (length rest) items cif.symbols less items_lawful)
            drawn.near
            (λ outer here. half.near (length rest) outer (at_last rest own outer here)) call
      ];
    }

-- the last of the waiting symbols stands near
pub last_near : (cif : CifParts) (boxes : List (List Rect)) (rest : List (List Transform)) (own : List Transform) → IsHalfDrawn cif boxes (rest ++ own ∷ [])
    → All (MovesWithin chain_reach) own
last_near cif boxes rest own half =
    all_within cif.symbols (items_of cif.symbols (length rest)) own (λ placement there. half.near (length rest) placement (at_last rest own placement there))

-- no symbol waits
pub all_drawn : (cif : CifParts) (boxes : List (List Rect)) → IsHalfDrawn cif boxes [] → AreBoxesOf cif boxes
all_drawn cif boxes half =
    let every : (layer : ℕ) (box : Rect) → Expands cif layer box → In box (list_at boxes layer) =
    λ layer box is. elim (half.every layer box is) [ inl there ↦ there | inr waits ↦ absurd waits.is_waiting ] in
    record {
      one_each = half.one_each;
      every = every;
      only = half.only;
      in_range = λ layer box is. half.in_range layer box (every layer box is);
    }

-- a box of the top level leaves the range
pub top_outside : (cif : CifParts) → LeavesRange cif.top (identity ∷ []) → StandsOutside cif
top_outside cif outside = record {
  layer = outside.layer;
  box = outside.box;
  expands = top_expands cif outside.layer outside.box (box_draws cif.symbols cif.top (identity ∷ []) outside.layer outside.box outside.is_box);
  is_outside = outside.is_outside;
}

-- a box of the last of the waiting symbols does
pub last_outside : (cif : CifParts) (boxes : List (List Rect)) (rest : List (List Transform)) (own : List Transform) → IsHalfDrawn cif boxes (rest ++ own ∷ [])
    → LeavesRange (items_of cif.symbols (length rest)) own → StandsOutside cif
last_outside cif boxes rest own half outside = record {
  layer = outside.layer;
  box = outside.box;
  expands = half.waits outside.layer outside.box (waits_last cif.symbols rest own outside.layer outside.box
      (box_draws cif.symbols (items_of cif.symbols (length rest)) own outside.layer outside.box outside.is_box));
  is_outside = outside.is_outside;
}

-- the top level is drawn, as the code reads it
pub half_begun : (cif : CifParts) (items : List CifItem) (here : Transform) (boxes boxes' : List (List Rect)) (waiting waiting' : List (List Transform))
    → items ≡ cif.top → here ≡ identity → IsLawfulCif cif → (size_of cif).depth ≤ LONGEST_CHAIN → length boxes ≡ length cif.layers
    → length waiting ≡ length cif.symbols → ((place : ℕ) → list_at boxes place ≡ []) → ((place : ℕ) → list_at waiting place ≡ [])
    → IsDrawn items (here ∷ []) boxes boxes' waiting waiting' → IsHalfDrawn cif boxes' waiting'
half_begun cif items here boxes boxes' waiting waiting' top is lawful few long symbols no_boxes none_wait drawn =
    half_first cif boxes boxes' waiting waiting' lawful few long symbols no_boxes none_wait
    (subst (λ (t : Transform). IsDrawn cif.top (t ∷ []) boxes boxes' waiting waiting') is
    (subst (λ some. IsDrawn some (here ∷ []) boxes boxes' waiting waiting') top drawn))

pub begun_outside : (cif : CifParts) (items : List CifItem) (here : Transform) → items ≡ cif.top → here ≡ identity → LeavesRange items (here ∷ [])
    → StandsOutside cif
begun_outside cif items here top is outside =
    top_outside cif (subst (λ (t : Transform). LeavesRange cif.top (t ∷ [])) is (subst (λ some. LeavesRange some (here ∷ [])) top outside))

-- The last of the waiting symbols has these items, and its instances these placements.
pub record IsLast (cif : CifParts) (boxes : List (List Rect)) (rest : List (List Transform)) (items : List CifItem) (placements : List Transform) : Type 0 where
  pub half : IsHalfDrawn cif boxes (rest ++ placements ∷ [])
  pub less : length rest < length cif.symbols
  pub symbol : CifSymbol
  pub is_symbol : slice_get cif.symbols (length rest) ≡ Some symbol
  pub are_items : items ≡ symbol.items

-- as the code reads them
pub last_read : (cif : CifParts) (boxes : List (List Rect)) (waiting rest : List (List Transform)) (own placements : List Transform) (symbols : List CifSymbol)
    (place : ℕ) (symbol : CifSymbol) (items : List CifItem) → IsHalfDrawn cif boxes waiting → waiting ≡ rest ++ own ∷ [] → placements ≡ own
    → symbols ≡ cif.symbols → place ≡ length rest → symbol ≡ get_or symbols place symbol → items ≡ symbol.items → IsLast cif boxes rest items placements
last_read cif boxes waiting rest own placements symbols place symbol items half popped same all here is are =
    let waits : IsHalfDrawn cif boxes (rest ++ own ∷ []) = subst (IsHalfDrawn cif boxes) popped half in
    let less : length rest < length cif.symbols = omega (arith, waits.others, length-append rest (own ∷ [])) in
    let read : symbol ≡ get_or cif.symbols (length rest) symbol =
    is ∙ ap (λ some. get_or some place symbol) all ∙ ap (λ n. get_or cif.symbols n symbol) here in
    record {
      half = subst (λ (own : List Transform). IsHalfDrawn cif boxes (rest ++ own ∷ [])) (sym same) waits;
      less = less;
      symbol = symbol;
      is_symbol = slice_get_read cif.symbols (length cif.symbols) (length rest) symbol refl less read;
      are_items = are;
    }

items_last : (cif : CifParts) (boxes : List (List Rect)) (rest : List (List Transform)) (items : List CifItem) (placements : List Transform)
    → IsLast cif boxes rest items placements → items_of cif.symbols (length rest) ≡ items
items_last cif boxes rest items placements last = ap items_at last.is_symbol ∙ sym last.are_items

-- its items are lawful
pub lawful_last : (cif : CifParts) (boxes : List (List Rect)) (rest : List (List Transform)) (items : List CifItem) (placements : List Transform)
    → IsLawfulCif cif
    → IsLast cif boxes rest items placements → All (IsLawfulItem (length boxes) (length rest)) items
lawful_last cif boxes rest items placements lawful last =
    subst (λ n. All (IsLawfulItem n (length rest)) items) (sym last.half.one_each)
    (subst (All (IsLawfulItem (length cif.layers) (length rest))) (sym last.are_items) (lawful.symbols (length rest) last.symbol last.is_symbol))

pub near_last : (cif : CifParts) (boxes : List (List Rect)) (rest : List (List Transform)) (items : List CifItem) (placements : List Transform)
    → IsLast cif boxes rest items placements → All (MovesWithin chain_reach) placements
near_last cif boxes rest items placements last = last_near cif boxes rest placements last.half

pub outside_last : (cif : CifParts) (boxes : List (List Rect)) (rest : List (List Transform)) (items : List CifItem) (placements : List Transform)
    → IsLast cif boxes rest items placements → LeavesRange items placements → StandsOutside cif
outside_last cif boxes rest items placements last outside =
    last_outside cif boxes rest placements last.half
    (subst (λ some. LeavesRange some placements) (sym (items_last cif boxes rest items placements last)) outside)

-- when it is drawn, the others wait
pub drawn_last : (cif : CifParts) (boxes boxes' : List (List Rect)) (rest waiting' : List (List Transform)) (items : List CifItem) (placements : List Transform)
    → IsLawfulCif cif → IsLast cif boxes rest items placements → IsDrawn items placements boxes boxes' rest waiting' → IsHalfDrawn cif boxes' waiting'
drawn_last cif boxes boxes' rest waiting' items placements lawful last drawn =
    let same = items_last cif boxes rest items placements last in
    let lawful_items : All (IsLawfulItem (length cif.layers) (length rest)) (items_of cif.symbols (length rest)) =
    subst (λ some. All (IsLawfulItem (length cif.layers) (length rest)) (items_at some)) (sym last.is_symbol)
    (lawful.symbols (length rest) last.symbol last.is_symbol) in
    half_more cif boxes boxes' rest waiting' placements lawful lawful_items last.half
    (subst (λ some. IsDrawn some placements boxes boxes' rest waiting') (sym same) drawn) (omega (arith, last.less))

-- none waits any more
pub all_drawn_at : (cif : CifParts) (boxes : List (List Rect)) (waiting : List (List Transform)) → length waiting ≡ 0 → IsHalfDrawn cif boxes waiting
    → AreBoxesOf cif boxes
all_drawn_at cif boxes [] none half = all_drawn cif boxes half
all_drawn_at cif boxes (first ∷ rest) none half = absurd (omega (arith, none))
