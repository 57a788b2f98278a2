-- What is read for the number of a name that is not global.
use Rattle.full_names.proofs.Common.{◌≡◌, ℕ, ◌<◌, List, Some, length, get_or, refl, sym, ◌∙◌, ap, subst, arith, slice_get, vec_len, get_or_read}
use Rattle.full_names.proofs.Common.{length-map, slice_get_within, slice_get_read, get_or_from_slice_get, In-get_or, In, Element, TreeElement}
use Rattle.full_names.proofs.Common.{FullNames, OwnName, RecordNames, Place, locals_of, HasOwnNames, flat_at, no_place, place_at, count_at, IsPlace}
use Rattle.full_names.proofs.Common.{elements_in, AreNames, IsLocalNumber}
use Rattle.full_names.proofs.QueryLaws.{is_tree}
use Rattle.full_names.proofs.RecordReads.{locals_known}
use Rattle.full_names.proofs.TreeLaws.{element_at}

module _ (names : FullNames) (are : AreNames names) (k : ℕ) (within : k < length names.slots.items) (slot : ℕ)
    (read : slot ≡ get_or names.slots.items k slot) where
  abbrev flats : List TreeElement
  flats = names.tree.now.elements

  abbrev records : List RecordNames
  records = names.records.items

  pub slot_within : slot < length names.places.items
  slot_within = are.slots_within slot (subst (λ (s : ℕ). In s names.slots.items) (sym read) (In-get_or names.slots.items k slot within))

  module _ (place : Place) (read_place : place ≡ get_or names.places.items slot place) (items : List TreeElement) (same : items ≡ flats) where
    place_is : place ≡ place_at names.places.items slot
    place_is = get_or_read names.places.items slot place slot_within read_place no_place

    valid : IsPlace (count_at flats records) (length flats) place
    valid = subst (IsPlace (count_at flats records) (length flats)) (sym place_is) (are.places.each slot slot_within)

    pub element_within : place.element < length flats
    element_within = valid.element

    pub element_listed : place.element < length items
    element_listed = subst (λ (list : List TreeElement). place.element < length list) (sym same) valid.element

    one : (element : Element) × (slice_get (elements_in names) place.element ≡ Some element)
    one = element_at names.exts.now (elements_in names) names.tree.now (is_tree names are) place.element valid.element

    has : HasOwnNames records (flat_at flats place.element).cell one.0.ext
    has = are.known place.element one.0 one.1

    cell_is : (flat_at items place.element).cell ≡ (flat_at flats place.element).cell
    cell_is = ap (λ (list : List TreeElement). (flat_at list place.element).cell) same

    pub record_within : (flat_at items place.element).cell < vec_len names.records
    record_within =
        let inside = slice_get_within records (flat_at flats place.element).cell has.own has.has in
        let long = names.records.ok.0 in
        subst (λ n. n < vec_len names.records) (sym cell_is) (omega arith)

    module _ (own : RecordNames) (read_own : own ≡ get_or records (flat_at items place.element).cell own) where
      own_is : own ≡ has.own
      own_is =
          read_own ∙ ap (λ (c : ℕ). get_or records c own) cell_is
          ∙ get_or_from_slice_get records (flat_at flats place.element).cell has.own own has.has

      locals_are : own.locals.items ≡ locals_of records (flat_at flats place.element).cell
      locals_are = ap (λ (r : RecordNames). r.locals.items) own_is ∙ sym (locals_known records (flat_at flats place.element).cell has.own has.has)

      listed : place.own < length own.locals.items
      listed =
          let count = length-map (locals_of records (flat_at flats place.element).cell) (λ (name : OwnName). name.text.now) in
          let inside = valid.own in
          subst (λ (list : List OwnName). place.own < length list) (sym locals_are) (omega arith)

      pub own_within : place.own < vec_len own.locals
      own_within = let inside = listed in let long = own.locals.ok.0 in omega arith

      pub local_number : (name : OwnName) → name ≡ get_or own.locals.items place.own name → IsLocalNumber names k place.element name
      local_number name read_name = record {
        slot = slot;
        slot_stands = slice_get_read names.slots.items (length names.slots.items) k slot refl within read;
        is_element = ap (λ (p : Place). p.element) (sym place_is);
        has = ap (λ (p : Place). slice_get (locals_of records (flat_at flats place.element).cell) p.own) (sym place_is)
            ∙ ap (λ (list : List OwnName). slice_get list place.own) (sym locals_are)
            ∙ slice_get_read own.locals.items (length own.locals.items) place.own name refl listed read_name;
      }
