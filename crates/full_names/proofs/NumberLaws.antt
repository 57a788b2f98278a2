-- The full names of a tree in order: the global ones, and then those at the places that the keys tell.
use Rattle.full_names.proofs.Common.{◌≡◌, ℕ, ◌+◌, ◌<◌, Bool, true, false, List, [], ◌++◌, length, get_or, Option, Some, None, map, inl, inr, sym}
use Rattle.full_names.proofs.Common.{◌∙◌, ap, subst, slice_get, slice_index, IsTotalOrder, Less, Equal, nat_cmp-IsAntisymmetric, nat_cmp, bool_cmp}
use Rattle.full_names.proofs.Common.{ordering_then, cases_Bool, nat_cmp_total, on_total, then_total, In, In-append_cases, In-append_left}
use Rattle.full_names.proofs.Common.{In-append_right, In-map, In-map_source, In-index, IsSorted-pairs, Pairwise, In-slice_get, slice_get-In}
use Rattle.full_names.proofs.Common.{In-flat_map, CellExt, name_cmp, path_text, names_of, node_names, Element, ids_of, AreRecords, name_in}
use Rattle.full_names.proofs.Common.{full_names, AreInNameOrder, ElementTree, TreeElement, IsTreeOfElements, RecordNames, GlobalName, NameKey, Place}
use Rattle.full_names.proofs.Common.{IsFullNameList, is_marked, texts_of, locals_of, flat_at, global_texts, AreGlobalsOf, place_at, text_at}
use Rattle.full_names.proofs.Common.{ArePlaces, key_at, key_cmp, AreKeys, place_name}
use Rattle.std.specs.Cmp.{bool_cmp_total}
use Rattle.ext_model.proofs.FiniteSets.Pairs.{Pairwise-append, Pairwise-map, Pairwise-from_AllPairs, Pairwise-within}
use Rattle.circuit_model.specs.FullNames.{IsFullName}
use Rattle.full_names.specs.Names.{ids_at}
use Rattle.full_names.proofs.GlobalLaws.{less_from_reverse}
use Rattle.full_names.proofs.KeyOrders.{NamesAreKnown, IsLocalName, local_name_at, locals_are, keys_compare}
use Rattle.full_names.proofs.ListOrders.{StandsBefore, pairwise_names, names_in_order}
use Rattle.full_names.proofs.NameForms.{full_name-marked, full_name-local, global_before_path, then_rest}
use Rattle.full_names.proofs.TextOrders.{text_stands}
use Rattle.full_names.proofs.TreeLaws.{within_tree}
use Rattle.full_names.proofs.TreeNames.{lawful_at}

key_cmp_total : IsTotalOrder key_cmp
key_cmp_total = then_total (on_total (λ (k : NameKey). k.generated) bool_cmp_total)
    (then_total (on_total (λ (k : NameKey). k.depth) nat_cmp_total)
    (then_total (on_total (λ (k : NameKey). k.length) nat_cmp_total)
    (then_total (on_total (λ (k : NameKey). k.rank) nat_cmp_total) (on_total (λ (k : NameKey). k.slot) nat_cmp_total))))

-- keys that tie are of one place
slot_of_tied : (a b : NameKey) → key_cmp a b ≡ Equal → a.slot ≡ b.slot
slot_of_tied a b tied =
    let slots = nat_cmp a.slot b.slot in
    let ranks = ordering_then (nat_cmp a.rank b.rank) slots in
    let lengths = ordering_then (nat_cmp a.length b.length) ranks in
    let depths = ordering_then (nat_cmp a.depth b.depth) lengths in
    nat_cmp-IsAntisymmetric a.slot b.slot (then_rest (nat_cmp a.rank b.rank) slots (then_rest (nat_cmp a.length b.length) ranks
    (then_rest (nat_cmp a.depth b.depth) lengths (then_rest (bool_cmp a.generated b.generated) depths tied))))

pub ids_known : (elements : List Element) (number : ℕ) (element : Element) → slice_get elements number ≡ Some element → ids_at elements number ≡ ids_of element
ids_known elements number element at = ap (λ (o : Option Element). elim o as (λ _. List (List ℕ)) [ None ↦ [] | Some e ↦ ids_of e ]) at

module _ (exts : List CellExt) (elements : List Element) (tree : ElementTree) (lawful : AreRecords exts) (is : IsTreeOfElements exts elements tree)
    (records : List RecordNames) (known : NamesAreKnown elements tree records) where
  abbrev flats : List TreeElement
  flats = tree.elements

  abbrev name_of : Place → List ℕ
  name_of place = place_name elements flats records place

  -- the full name at a place
  pub place_name_is : (place : Place) (one : IsLocalName exts elements tree lawful is records known place (text_at flats records place))
      → name_of place ≡ name_in one.element (text_at flats records place)
  place_name_is place one =
      ap (λ (ids : List (List ℕ)). path_text ids (text_at flats records place)) (ids_known elements place.element one.element one.at)
      ∙ sym (full_name-local one.element.ext (lawful_at exts elements tree lawful is place.element one.element one.at) (text_at flats records place)
      one.named (ids_of one.element) one.local)

  module _ (globals : List GlobalName) (global : AreGlobalsOf elements globals) (bases : List ℕ) (places : List Place)
      (placed : ArePlaces flats records bases places) (keys : List NameKey) (keyed : AreKeys flats records places keys) where
    abbrev slots : List ℕ
    slots = map (λ (key : NameKey). key.slot) keys

    abbrev slot_name : ℕ → List ℕ
    slot_name slot = name_of (place_at places slot)

    abbrev full_list : List (List ℕ)
    full_list = global_texts globals ++ map slot_name slots

    local_at : (slot : ℕ) → slot < length places
        → IsLocalName exts elements tree lawful is records known (place_at places slot) (text_at flats records (place_at places slot))
    local_at slot within = local_name_at exts elements tree lawful is records known (place_at places slot) (placed.each slot within)

    -- keys stand to one another as the names at their places
    compared : (a b : NameKey) → In a keys → In b keys → key_cmp a b ≡ name_cmp (slot_name a.slot) (slot_name b.slot)
    compared a b here there =
        let one = keyed.each a here in
        let two = keyed.each b there in
        let first = local_at a.slot one.within in
        let second = local_at b.slot two.within in
        ap (λ (k : NameKey). key_cmp k b) one.is ∙ ap (key_cmp (key_at flats records (place_at places a.slot) a.slot)) two.is
        ∙ keys_compare exts elements tree lawful is records known bases (place_at places a.slot) (place_at places b.slot) a.slot b.slot first second
        (placed.at a.slot one.within) (placed.at b.slot two.within)
        ∙ ap (λ (ids : List (List ℕ)). name_cmp (path_text ids (text_at flats records (place_at places a.slot)))
        (path_text (ids_of second.element) (text_at flats records (place_at places b.slot))))
        (sym (ids_known elements (place_at places a.slot).element first.element first.at))
        ∙ ap (λ (ids : List (List ℕ)). name_cmp (slot_name a.slot) (path_text ids (text_at flats records (place_at places b.slot))))
        (sym (ids_known elements (place_at places b.slot).element second.element second.at))

    keys_less : Pairwise (λ a b. key_cmp a b ≡ Less) keys
    keys_less = Pairwise-from_AllPairs (λ (a b : NameKey). key_cmp a b ≡ Less) keys
        (λ i j d less below.
        let a = get_or keys i d in
        let b = get_or keys j d in
        less_from_reverse (key_cmp a b) (key_cmp b a) (key_cmp_total.antisymm a b) (IsSorted-pairs key_cmp key_cmp_total keys keyed.in_order i j d less below)
        (λ tied. keyed.apart i j d less below (sym (slot_of_tied b a tied))))

    locals_in_order : Pairwise StandsBefore (map slot_name slots)
    locals_in_order = Pairwise-map slot_name StandsBefore slots
        (Pairwise-map (λ (key : NameKey). key.slot) (λ (s t : ℕ). StandsBefore (slot_name s) (slot_name t)) keys
        (Pairwise-within (λ (a b : NameKey). key_cmp a b ≡ Less) (λ (a b : NameKey). StandsBefore (slot_name a.slot) (slot_name b.slot)) keys
        (λ a b p q less. sym (compared a b p q) ∙ less) keys_less))

    -- a number that the keys tell is one of the places
    pub slot_within : (slot : ℕ) → In slot slots → slot < length places
    slot_within slot here =
        let source = In-map_source (λ (key : NameKey). key.slot) slot keys here in
        subst (λ (s : ℕ). s < length places) source.1.1 (keyed.each source.0 source.1.0).within

    -- and they tell each
    pub slot_listed : (slot : ℕ) → slot < length places → In slot slots
    slot_listed slot within = In-map (λ (key : NameKey). key.slot) (key_at flats records (place_at places slot) slot) keys (keyed.all slot within)

    globals_first : (global_name local_name : List ℕ) → In global_name (global_texts globals) → In local_name (map slot_name slots)
        → StandsBefore global_name local_name
    globals_first global_name local_name here there =
        let from = In-map_source (λ (n : GlobalName). n.text.now) global_name globals here in
        let marked = subst (λ (t : List ℕ). is_marked t ≡ true) from.1.1 (global.each from.0 from.1.0).marked in
        let source = In-map_source slot_name local_name slots there in
        let one = local_at source.0 (slot_within source.0 source.1.0) in
        let place = place_at places source.0 in
        subst (StandsBefore global_name) source.1.1
        (global_before_path global_name (ids_at elements place.element) (text_at flats records place) one.last marked one.local)

    list_in_order : AreInNameOrder full_list
    list_in_order = names_in_order full_list (Pairwise-append StandsBefore (global_texts globals) (map slot_name slots)
        (pairwise_names (global_texts globals) global.in_order) locals_in_order globals_first)

    -- what stands in the list is a full name
    is_full : (name : List ℕ) → In name full_list → IsFullName elements name
    is_full name here =
        elim (In-append_cases name (global_texts globals) (map slot_name slots) here) [
          | inl first ↦ (let source = In-map_source (λ (n : GlobalName). n.text.now) name globals first in
              let one = global.each source.0 source.1.0 in
              let text = source.0.text.now in
              let named = In-flat_map names_of one.node text one.element.ext.nodes (In-slice_get one.element.ext.nodes source.0.node one.node one.node_stands)
              one.named in
              let whole = full_name-marked one.element.ext (lawful_at exts elements tree lawful is source.0.element one.element one.stands) text named
              (ids_of one.element) one.marked in (
                one.element,
                (
                  In-slice_get elements source.0.element one.element one.stands,
                  subst (λ (t : List ℕ). In t (full_names one.element)) (whole ∙ source.1.1)
                      (In-map (name_in one.element) text (node_names one.element.ext) named),
                ),
              ))
          | inr behind ↦ (let source = In-map_source slot_name name slots behind in
              let one = local_at source.0 (slot_within source.0 source.1.0) in
              let place = place_at places source.0 in (
                one.element,
                (
                  In-slice_get elements place.element one.element one.at,
                  subst (λ (t : List ℕ). In t (full_names one.element)) (sym (place_name_is place one) ∙ source.1.1)
                      (In-map (name_in one.element) (text_at flats records place) (node_names one.element.ext) one.named),
                ),
              ))
        ]

    -- the place of a name that is not global
    listed_local : (number : ℕ) (element : Element) → slice_get elements number ≡ Some element → (text : List ℕ) → In text (node_names element.ext)
        → is_marked text ≡ false → In (path_text (ids_of element) text) (map slot_name slots)
    listed_local number element at text named local =
        let names = locals_of records (flat_at flats number).cell in
        let here = text_stands false element.ext names (locals_are exts elements tree lawful is records known number element at) text named (ap (λ
        (m : Bool). wanted m) local) in
        let own = In-index text (texts_of names) here in
        let stands = placed.all number own.0 (within_tree exts elements tree is number element at) own.1.0 in
        let slot = slice_index bases number + own.0 in
        let made : slot_name slot ≡ path_text (ids_of element) text = ap name_of stands.is
        ∙ ap (λ (ids : List (List ℕ)). path_text ids (get_or (texts_of names) own.0 [])) (ids_known elements number element at)
        ∙ ap (path_text (ids_of element)) (own.1.1 []) in
        subst (λ (t : List ℕ). In t (map slot_name slots)) made (In-map slot_name slot slots (slot_listed slot stands.within))
      where
        wanted : Bool → Bool
        wanted true = false
        wanted false = true

    -- and each full name stands there
    is_listed : (name : List ℕ) → IsFullName elements name → In name full_list
    is_listed name full =
        let element = full.0 in
        let at = slice_get-In element elements full.1.0 in
        let source = In-map_source (name_in element) name (node_names element.ext) full.1.1 in
        let text = source.0 in
        let record_ = lawful_at exts elements tree lawful is at.0 element at.1 in
        elim (cases_Bool (is_marked text)) [
          | inl marked ↦ In-append_left name (global_texts globals) (map slot_name slots)
              (subst (λ (t : List ℕ). In t (global_texts globals))
              (sym (full_name-marked element.ext record_ text source.1.0 (ids_of element) marked) ∙ source.1.1)
              (global.all at.0 element at.1 text source.1.0 marked))
          | inr local ↦ In-append_right name (global_texts globals) (map slot_name slots)
              (subst (λ (t : List ℕ). In t (map slot_name slots))
              (sym (full_name-local element.ext record_ text source.1.0 (ids_of element) local) ∙ source.1.1)
              (listed_local at.0 element at.1 text source.1.0 local))
        ]

    pub full_list_is : IsFullNameList elements full_list
    full_list_is = record { in_order = list_in_order; all = λ name. (is_full name, is_listed name) }
