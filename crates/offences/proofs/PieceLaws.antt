-- The pieces that are found cover exactly what offends.
use Rattle.offences.proofs.Common.{◌≡◌, ◌⊎◌, inl, inr, ◌+◌, ◌<◌, ℕ, Bool, true, false, List, [], ◌∷◌, ◌++◌, length, filter, take, get_or, sym, ap}
use Rattle.offences.proofs.Common.{subst, ◌∙◌, arith, All, Some, slice_get, list_any, cases_Bool, cases_eq, both_ways, take_more, append-nil}
use Rattle.offences.proofs.Common.{length-map, In, Lists, In-append_left, In-append_right, In-append_cases, In-get_or, In-index, In-map}
use Rattle.offences.proofs.Common.{In-map_source, In-filter, list_any-In, All-from_In, All-In, list_any-source, Square, Rect, Covers, is_covered}
use Rattle.offences.proofs.Common.{IsInUnion, Covers-is_covered, is_covered-Covers, Contact, IsSharedEdge, RawTech, joined, IsWellFormed, TypedStack}
use Rattle.offences.proofs.Common.{SetLayout, joined_at, flat_type, OffendsOn, ChangesRole, is_spoiled, changed, changed_pieces, spoiled_areas}
use Rattle.offences.proofs.Common.{CoverExactly, AreFoundChanges, of_contacts, role_of, typed_stack_areas, on_plane, typed_stack_at, no_typed_stack}
use Rattle.offences.proofs.Common.{AreTypedStacks}
use Rattle.std.specs.Option.{is_some}
use Rattle.std.proofs.lemmas.Grind.{flat_map-append}
use Rattle.std.proofs.Math.ListN.{get_or-map}
use Rattle.geo_core.proofs.FiniteSets.Members.{In-filter_source, In-filter_passes}
use Rattle.geo_core.proofs.FiniteSets.Images.{In-flat_map, In-flat_map_source}
use Rattle.rect_overlays.specs.RectContacts.Rects.{rect_at}
use Rattle.offences.specs.steps.Pieces.{has_owner, changed_across}
use Rattle.offences.specs.steps.Pieces.{no_channel}
use Rattle.offences.proofs.ChangeLaws.{changed_sound, changed_whole, changes_elsewhere, owns_here, union_none}
use Rattle.offences.proofs.SideLaws.{neighbours_touch}
use Rattle.offences.proofs.SpoiledLaws.{channel_is_material, same_some, some_is_not_none, OffendsAlone, spoiled_offends, offends_spoiled}

-- one more contact
pub changed_more : (raw : RawTech) (typed_stacks : List TypedStack) (contacts : List Contact) (i : ℕ) (d : Contact) → i < length contacts
    → changed_pieces raw typed_stacks (take (i + 1) contacts) ≡ changed_pieces raw typed_stacks (take i contacts) ++ changed_across raw typed_stacks
    (get_or contacts i d)
changed_more raw typed_stacks contacts i d less =
    ap (changed_pieces raw typed_stacks) (take_more contacts i d less)
    ∙ flat_map-append (changed_across raw typed_stacks) (take i contacts) (get_or contacts i d ∷ [])
    ∙ ap (λ (pieces : List Rect). changed_pieces raw typed_stacks (take i contacts) ++ pieces)
    (append-nil (changed_across raw typed_stacks (get_or contacts i d)))

-- A piece of the list covers the square, at a place of the list.
record Stands (typed_stacks : List TypedStack) (square : Square) : Type 0 where
  place : ℕ
  below : place < length typed_stacks
  covers : Covers (typed_stack_at typed_stacks place).area square

-- a piece of the list covers the square, or none does
stands_or_not : (typed_stacks : List TypedStack) (square : Square)
    → Stands typed_stacks square ⊎ ((typed_stack : TypedStack) → In typed_stack typed_stacks → Covers typed_stack.area square → ⊥)
stands_or_not typed_stacks square =
    let test : TypedStack → Bool = λ typed_stack. is_covered typed_stack.area square in
    elim (cases_Bool (list_any test typed_stacks)) [
      | inl some ↦ (
          let found = list_any-source test typed_stacks some in
          let k = In-index found.0 typed_stacks found.1.0 in
          inl (record {
            place = k.0;
            below = k.1.0;
            covers = subst (λ (s : TypedStack). Covers s.area square) (sym (k.1.1 no_typed_stack)) (Covers-is_covered found.0.area square found.1.1);
          }))
      | inr none ↦ inr (λ typed_stack h covers.
          both_ways (test typed_stack) (list_any-In test typed_stacks typed_stack none h) (is_covered-Covers typed_stack.area square covers))
    ]

In-typed_stack_at : (typed_stacks : List TypedStack) (place : ℕ) → place < length typed_stacks → In (typed_stack_at typed_stacks place) typed_stacks
In-typed_stack_at typed_stacks place below = In-get_or typed_stacks place no_typed_stack below

module _ (raw : RawTech) (formed : IsWellFormed raw) (parts : List SetLayout) (plane : ℕ) (typed_stacks : List TypedStack)
    (are : AreTypedStacks raw parts plane typed_stacks) where
  -- where no piece is, each part has space
  space_outside : (square : Square) → ((typed_stack : TypedStack) → In typed_stack typed_stacks → Covers typed_stack.area square → ⊥)
      → (position : ℕ) (part : SetLayout) → slice_get parts position ≡ Some part → joined_at raw part (on_plane plane square) ≡ Some 0
  space_outside square out position part there = ap (joined raw plane) (are.outside square out position part there)

  -- and all together
  flat_outside : (square : Square) → ((typed_stack : TypedStack) → In typed_stack typed_stacks → Covers typed_stack.area square → ⊥)
      → flat_type raw parts (on_plane plane square) ≡ Some 0
  flat_outside square out = ap (joined raw plane) (union_none parts (on_plane plane square) (are.outside square out))

  -- so nothing offends there
  none_outside : (square : Square) → ((typed_stack : TypedStack) → In typed_stack typed_stacks → Covers typed_stack.area square → ⊥)
      → OffendsOn raw parts plane square → ⊥
  none_outside square out (inl none) = some_is_not_none (flat_type raw parts (on_plane plane square)) 0 (flat_outside square out) none
  none_outside square out (inr (inl h)) =
      h.material (same_some h.kind 0 (sym h.has.is ∙ space_outside square out h.position h.has.part h.has.there))
  none_outside square out (inr (inr (inl h))) =
      channel_is_material raw formed h.fet h.channel (same_some h.fet 0 (sym h.flat ∙ flat_outside square out))
  none_outside square out (inr (inr (inr (inl h)))) =
      channel_is_material raw formed h.fet h.channel (same_some h.fet 0 (sym h.has.is ∙ space_outside square out h.position h.has.part h.has.there))
  none_outside square out (inr (inr (inr (inr h)))) =
      channel_is_material raw formed h.fet h.channel (same_some h.fet 0 (sym h.flat ∙ flat_outside square out))

  -- an offence is seen in the place alone, or a role changes
  alone_or_changes : (square : Square) → OffendsOn raw parts plane square
      → OffendsAlone raw parts plane square ⊎ ChangesRole raw parts (on_plane plane square)
  alone_or_changes square (inl h) = inl (inl h)
  alone_or_changes square (inr (inl h)) = inl (inr (inl h))
  alone_or_changes square (inr (inr (inl h))) = inl (inr (inr (inl h)))
  alone_or_changes square (inr (inr (inr (inl h)))) = inl (inr (inr (inr h)))
  alone_or_changes square (inr (inr (inr (inr h)))) = inr h

  alone_offends : (square : Square) → OffendsAlone raw parts plane square → OffendsOn raw parts plane square
  alone_offends square (inl h) = inl h
  alone_offends square (inr (inl h)) = inr (inl h)
  alone_offends square (inr (inr (inl h))) = inr (inr (inl h))
  alone_offends square (inr (inr (inr h))) = inr (inr (inr (inl h)))

  changes_offends : (square : Square) → ChangesRole raw parts (on_plane plane square) → OffendsOn raw parts plane square
  changes_offends square h = inr (inr (inr (inr h)))

  -- the squares of spoiled pieces offend
  spoiled_sound : (square : Square) → IsInUnion (spoiled_areas raw typed_stacks) square → OffendsOn raw parts plane square
  spoiled_sound square inside =
      let source = In-map_source (λ (s : TypedStack). s.area) inside.0 (filter (is_spoiled raw) typed_stacks) inside.1.0 in
      let typed_stack = source.0 in
      let listed = In-filter_source (is_spoiled raw) typed_stack typed_stacks source.1.0 in
      let spoiled = In-filter_passes (is_spoiled raw) typed_stack typed_stacks source.1.0 in
      alone_offends square (spoiled_offends raw formed parts plane typed_stack (are.each typed_stack listed) square
      (subst (λ (area : Rect). Covers area square) (sym source.1.1) inside.1.1) spoiled)

  -- and each square of a spoiled piece is one of theirs
  spoiled_whole : (typed_stack : TypedStack) → In typed_stack typed_stacks → is_spoiled raw typed_stack ≡ true → (square : Square)
      → Covers typed_stack.area square
      → IsInUnion (spoiled_areas raw typed_stacks) square
  spoiled_whole typed_stack h spoiled square covers = (
    typed_stack.area,
    (
      In-map (λ (s : TypedStack). s.area) typed_stack (filter (is_spoiled raw) typed_stacks)
          (In-filter (is_spoiled raw) typed_stack typed_stacks h spoiled),
      covers,
    ),
  )

  -- The pieces are those of changes of roles, each between two of the pieces.
  pub record AreChanges (pieces : List Rect) : Type 0 where
    pub each : (piece : Rect) → In piece pieces → (here : TypedStack) ×
        ((beside : TypedStack) × (In here typed_stacks × In beside typed_stacks × In piece (changed raw here beside)))
    pub every : (square : Square) (i : ℕ) → i < length typed_stacks → Covers (typed_stack_at typed_stacks i).area square
        → is_spoiled raw (typed_stack_at typed_stacks i) ≡ false → ChangesRole raw parts (on_plane plane square) → IsInUnion pieces square

  -- with these the pieces cover what offends
  pub pieces_cover : (pieces : List Rect) → AreChanges pieces → CoverExactly (OffendsOn raw parts plane) (spoiled_areas raw typed_stacks ++ pieces)
  pieces_cover pieces changes = record {
    sound = λ square inside. elim (In-append_cases inside.0 (spoiled_areas raw typed_stacks) pieces inside.1.0) [
      | inl h ↦ spoiled_sound square (inside.0, (h, inside.1.1))
      | inr h ↦ (
          let of = changes.each inside.0 h in
          changes_offends square (changed_sound raw formed parts plane of.0 of.1.0 (are.each of.0 of.1.1.0)
          (are.each of.1.0 of.1.1.1) inside.0 of.1.1.2 square inside.1.1))
    ];
    whole = λ square offends. elim (stands_or_not typed_stacks square) [
      | inr out ↦ absurd (none_outside square out offends)
      | inl stands ↦ (
          let typed_stack = typed_stack_at typed_stacks stands.place in
          let listed = In-typed_stack_at typed_stacks stands.place stands.below in
          let first : IsInUnion (spoiled_areas raw typed_stacks) square → IsInUnion (spoiled_areas raw typed_stacks ++ pieces) square =
          λ inside. (inside.0, (In-append_left inside.0 (spoiled_areas raw typed_stacks) pieces inside.1.0, inside.1.1)) in
          elim (cases_Bool (is_spoiled raw typed_stack)) [
            | inl spoiled ↦ first (spoiled_whole typed_stack listed spoiled square stands.covers)
            | inr sound ↦ elim (alone_or_changes square offends) [
              | inl alone ↦ first (spoiled_whole typed_stack listed
                  (offends_spoiled raw formed parts plane typed_stack (are.each typed_stack listed) square stands.covers alone)
                  square stands.covers)
              | inr change ↦ (
                  let inside = changes.every square stands.place stands.below stands.covers sound change in
                  (inside.0, (In-append_right inside.0 (spoiled_areas raw typed_stacks) pieces inside.1.0, inside.1.1)))
            ]
          ])
    ];
  }

  area_at : (i : ℕ) → rect_at (typed_stack_areas typed_stacks) i ≡ (typed_stack_at typed_stacks i).area
  area_at i = get_or-map (λ (s : TypedStack). s.area) typed_stacks i no_typed_stack

  -- beside a channel that changes some piece is
  beside_stands : (square : Square) (i : ℕ) → i < length typed_stacks → Covers (typed_stack_at typed_stacks i).area square
      → is_spoiled raw (typed_stack_at typed_stacks i) ≡ false → (change : ChangesRole raw parts (on_plane plane square))
      → Stands typed_stacks change.beside.square
  beside_stands square i below covers sound change = elim (stands_or_not typed_stacks change.beside.square) [
    | inl stands ↦ stands
    | inr out ↦ (
        let on : plane ≡ change.beside.plane = change.neighbour.0 in
        let there : change.beside ≡ on_plane plane change.beside.square = ap (λ (p : ℕ). on_plane p change.beside.square) (sym on) in
        absurd (change.differs (ap (role_of raw change.fet)
        (ap (flat_type raw parts) there ∙ flat_outside change.beside.square out
        ∙ sym (ap (joined_at raw change.has.part) there ∙ space_outside change.beside.square out change.position change.has.part change.has.there)))))
  ]

  -- the pieces of contacts are those of changes
  pub contacts_change : (contacts : List Contact) → Lists (IsSharedEdge (typed_stack_areas typed_stacks)) contacts
      → AreChanges (changed_pieces raw typed_stacks contacts)
  contacts_change contacts touch = record {
    each = λ piece h.
        let source = In-flat_map_source (changed_across raw typed_stacks) piece contacts h in
        let contact = source.0 in
        let edge = touch.2 contact source.1.0 in
        let long = length-map typed_stacks (λ (s : TypedStack). s.area) in
        let last = edge.in_list in
        let less = edge.in_order in
        let first = typed_stack_at typed_stacks contact.first in
        let second = typed_stack_at typed_stacks contact.second in
        let in_first = In-typed_stack_at typed_stacks contact.first (omega (arith, long, last, less)) in
        let in_second = In-typed_stack_at typed_stacks contact.second (omega (arith, long, last)) in
        elim (In-append_cases piece (changed raw first second) (changed raw second first) source.1.1) [
          | inl k ↦ (first, (second, (in_first, in_second, k)))
          | inr k ↦ (second, (first, (in_second, in_first, k)))
        ];
    every = λ square i below covers sound change.
        let here = typed_stack_at typed_stacks i in
        let is = are.each here (In-typed_stack_at typed_stacks i below) in
        let stands = beside_stands square i below covers sound change in
        let j = stands.place in
        let beside = typed_stack_at typed_stacks j in
        let is' = are.each beside (In-typed_stack_at typed_stacks j stands.below) in
        let on : plane ≡ change.beside.plane = change.neighbour.0 in
        let found = changed_whole raw formed parts plane here is sound square covers change beside is' stands.covers in
        elim (cases_eq i j) [
          | inl same ↦ absurd (changes_elsewhere raw formed parts plane here is sound square covers change (sym on)
              (subst (λ (k : ℕ). Covers (typed_stack_at typed_stacks k).area change.beside.square) (sym same) stands.covers))
          | inr differ ↦ (
              let long = length-map typed_stacks (λ (s : TypedStack). s.area) in
              let meet = neighbours_touch (typed_stack_areas typed_stacks) contacts are.apart touch i j differ (omega (arith, long, below))
              (omega (arith, long, stands.below))
              square change.beside.square (subst (λ (r : Rect). Covers r square) (sym (area_at i)) covers)
              (subst (λ (r : Rect). Covers r change.beside.square) (sym (area_at j)) stands.covers) change.neighbour.1 in
              let contact = meet.contact in
              let first = typed_stack_at typed_stacks contact.first in
              let second = typed_stack_at typed_stacks contact.second in
              let in_contact : In found.0 (changed_across raw typed_stacks contact) = elim meet.places [
                | inl p ↦ In-append_left found.0 (changed raw first second) (changed raw second first)
                    (subst (λ (k : ℕ). In found.0 (changed raw (typed_stack_at typed_stacks k) second)) (sym p.0)
                    (subst (λ (k : ℕ). In found.0 (changed raw here (typed_stack_at typed_stacks k))) (sym p.1) found.1.0))
                | inr p ↦ In-append_right found.0 (changed raw first second) (changed raw second first)
                    (subst (λ (k : ℕ). In found.0 (changed raw (typed_stack_at typed_stacks k) first)) (sym p.1)
                    (subst (λ (k : ℕ). In found.0 (changed raw here (typed_stack_at typed_stacks k))) (sym p.0) found.1.0))
              ] in
              (found.0, (In-flat_map (changed_across raw typed_stacks) contact found.0 contacts meet.listed in_contact, found.1.1)))
        ];
  }

  -- where no piece has an owner no role changes
  pub no_change : list_any has_owner typed_stacks ≡ false → AreChanges []
  no_change none = record {
    each = λ piece h. absurd h;
    every = λ square i below covers sound change.
        let here = typed_stack_at typed_stacks i in
        let listed = In-typed_stack_at typed_stacks i below in
        let owns = owns_here raw formed parts plane here (are.each here listed) sound square covers change in
        absurd (both_ways (has_owner here) (list_any-In has_owner typed_stacks here none listed) (ap is_some owns.is_owner));
  }

-- a fact of the areas of pieces
pub all_areas : (P : Rect → Type 0) (typed_stacks : List TypedStack) → All (λ typed_stack. P typed_stack.area) typed_stacks
    → All P (typed_stack_areas typed_stacks)
all_areas P typed_stacks all = All-from_In P (typed_stack_areas typed_stacks) (λ area h.
    let source = In-map_source (λ (s : TypedStack). s.area) area typed_stacks h in
    subst P source.1.1 (All-In (λ (s : TypedStack). P s.area) typed_stacks source.0 all source.1.0))

-- contacts are of pieces
pub contacts_within : (typed_stacks : List TypedStack) (contacts : List Contact) → Lists (IsSharedEdge (typed_stack_areas typed_stacks)) contacts
    → All (λ contact. (contact.first < length typed_stacks) × (contact.second < length typed_stacks)) contacts
contacts_within typed_stacks contacts touch = All-from_In (λ contact. (contact.first < length typed_stacks) × (contact.second < length typed_stacks)) contacts
    (λ contact h.
    let edge = touch.2 contact h in
    let long = length-map typed_stacks (λ (s : TypedStack). s.area) in
    let last = edge.in_list in
    let less = edge.in_order in
    (omega (arith, long, last, less), omega (arith, long, last)))

-- what is found of changes is what changes
pub found_changes : (raw : RawTech) (formed : IsWellFormed raw) (parts : List SetLayout) (plane : ℕ) (typed_stacks : List TypedStack)
    (are : AreTypedStacks raw parts plane typed_stacks) (pieces : List Rect) → AreFoundChanges raw typed_stacks pieces
    → AreChanges raw formed parts plane typed_stacks are pieces
found_changes raw formed parts plane typed_stacks are pieces (no_channel none empty) =
    subst (AreChanges raw formed parts plane typed_stacks are) (sym empty) (no_change raw formed parts plane typed_stacks are none)
found_changes raw formed parts plane typed_stacks are pieces (of_contacts contacts touch is) =
    subst (AreChanges raw formed parts plane typed_stacks are) (sym is) (contacts_change raw formed parts plane typed_stacks are contacts touch)
