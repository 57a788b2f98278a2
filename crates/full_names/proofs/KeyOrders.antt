-- Keys are in the order of full names.
use Rattle.full_names.proofs.Common.{◌≡◌, ℕ, ◌+◌, ◌<◌, Bool, true, false, cond, List, [], length, get_or, Some, refl, sym, ◌∙◌, ap, subst, slice_get}
use Rattle.full_names.proofs.Common.{slice_index, Ordering, Less, Equal, Greater, nat_cmp-IsAntisymmetric, slice_cmp-IsAntisymmetric, nat_cmp}
use Rattle.full_names.proofs.Common.{bool_cmp, ordering_then, slice_cmp, not-true, length-map, In, In-get_or, GENERATED_MARK, UseRec, CellExt}
use Rattle.full_names.proofs.Common.{ends_in, name_kind, kind_rank, name_cmp, element_cmp, path_length, IsLastName, path_text, node_names, Element}
use Rattle.full_names.proofs.Common.{ids_of, AreRecords, ElementTree, TreeElement, StandsFor, IsTreeOfElements, RecordNames, Place, is_marked}
use Rattle.full_names.proofs.Common.{texts_of, locals_of, AreOwnNames, HasOwnNames, flat_at, texts_at, count_at, text_at, IsPlace, is_generated}
use Rattle.full_names.proofs.Common.{key_at, key_cmp}
use Rattle.ext_model.proofs.FiniteSets.Orders.{nat_cmp-add}
use Rattle.ext_model.specs.declared.names.NameKind.TheVariants.{Global, Label, Generated}
use Rattle.ext_model.proofs.PartOrders.{paths_compare_by_parts, nat_cmp-same}
use Rattle.full_names.proofs.NameForms.{last_name_of, element_cmp-exact}
use Rattle.full_names.proofs.RecordReads.{locals_known}
use Rattle.full_names.proofs.TextOrders.{text_is_name, text_is_wanted, places_compare}
use Rattle.full_names.proofs.TreeLaws.{are_at, stands_for, element_at}
use Rattle.full_names.proofs.TreeNames.{lawful_at, whole_at}

-- kinds of names that are not global
kinds_compare : (m g n h : Bool) → m ≡ false → n ≡ false
    → bool_cmp (is_generated (cond m Global (cond g Generated Label))) (is_generated (cond n Global (cond h Generated Label)))
    ≡ nat_cmp (kind_rank (cond m Global (cond g Generated Label))) (kind_rank (cond n Global (cond h Generated Label)))
kinds_compare true g n h p q = cc
kinds_compare false g true h p q = cc
kinds_compare false true false true p q = refl
kinds_compare false true false false p q = refl
kinds_compare false false false true p q = refl
kinds_compare false false false false p q = refl

-- what comes behind counts only where the first tie
then_equal : (r a b : Ordering) → (r ≡ Equal → a ≡ b) → ordering_then r a ≡ ordering_then r b
then_equal Less a b same = refl
then_equal Equal a b same = same refl
then_equal Greater a b same = refl

-- the names of each element's record are known
abbrev pub NamesAreKnown : List Element → ElementTree → List RecordNames → Type 0
NamesAreKnown elements tree records =
    (number : ℕ) (element : Element) → slice_get elements number ≡ Some element → HasOwnNames records (flat_at tree.elements number).cell element.ext

module _ (exts : List CellExt) (elements : List Element) (tree : ElementTree) (lawful : AreRecords exts) (is : IsTreeOfElements exts elements tree)
    (records : List RecordNames) (known : NamesAreKnown elements tree records) where
  abbrev flats : List TreeElement
  flats = tree.elements

  -- the names of an element's record that are not global
  pub locals_are : (number : ℕ) (element : Element) → slice_get elements number ≡ Some element
      → AreOwnNames false element.ext (locals_of records (flat_at flats number).cell)
  locals_are number element at =
      let has = known number element at in
      subst (AreOwnNames false element.ext) (sym (locals_known records (flat_at flats number).cell has.own has.has)) has.are.locals

  -- A name of an element that is not global.
  pub record IsLocalName (place : Place) (text : List ℕ) : Type 0 where
    pub element : Element
    pub at : slice_get elements place.element ≡ Some element
    pub own : place.own < length (texts_at flats records place.element)
    pub is_text : text ≡ text_at flats records place
    pub named : In text (node_names element.ext)
    pub local : is_marked text ≡ false
    pub last : IsLastName text

  -- the name at a place
  pub local_name_at : (place : Place) → IsPlace (count_at flats records) (length flats) place → IsLocalName place (text_at flats records place)
  local_name_at place valid =
      let one = element_at exts elements tree is place.element valid.element in
      let names = locals_of records (flat_at flats place.element).cell in
      let are = locals_are place.element one.0 one.1 in
      let here = In-get_or (texts_of names) place.own [] valid.own in
      let named = text_is_name false one.0.ext names are (text_at flats records place) here in
      record {
        element = one.0;
        at = one.1;
        own = valid.own;
        is_text = refl;
        named = named;
        local = not-true (is_marked (text_at flats records place)) (text_is_wanted false one.0.ext names are (text_at flats records place) here);
        last = last_name_of one.0.ext (lawful_at exts elements tree lawful is place.element one.0 one.1) (text_at flats records place) named;
      }

  module _ (bases : List ℕ) (place next : Place) (slot other : ℕ) (one : IsLocalName place (text_at flats records place))
      (two : IsLocalName next (text_at flats records next)) (at : slot ≡ slice_index bases place.element + place.own)
      (at_next : other ≡ slice_index bases next.element + next.own) where
    abbrev flat : TreeElement
    flat = flat_at flats place.element

    abbrev flat_next : TreeElement
    flat_next = flat_at flats next.element

    abbrev text : List ℕ
    text = text_at flats records place

    abbrev text_next : List ℕ
    text_next = text_at flats records next

    abbrev ids : List (List ℕ)
    ids = ids_of one.element

    abbrev ids_next : List (List ℕ)
    ids_next = ids_of two.element

    stands : StandsFor exts one.element flat
    stands = stands_for exts elements tree is place.element one.element one.at

    stands_next : StandsFor exts two.element flat_next
    stands_next = stands_for exts elements tree is next.element two.element two.at

    kinds : bool_cmp (is_generated (name_kind text)) (is_generated (name_kind text_next)) ≡ nat_cmp (kind_rank (name_kind text)) (kind_rank
        (name_kind text_next))
    kinds = kinds_compare (is_marked text) (ends_in GENERATED_MARK text) (is_marked text_next) (ends_in GENERATED_MARK text_next) one.local two.local

    depths : nat_cmp flat.depth flat_next.depth ≡ nat_cmp (length ids) (length ids_next)
    depths = nat_cmp-same flat.depth flat_next.depth (length ids) (length ids_next)
        (stands.depth ∙ sym (length-map one.element.uses (λ (used : UseRec). used.id)))
        (stands_next.depth ∙ sym (length-map two.element.uses (λ (used : UseRec). used.id)))

    lengths : nat_cmp (flat.bytes + length text) (flat_next.bytes + length text_next) ≡ nat_cmp (path_length ids + length text)
        (path_length ids_next + length text_next)
    lengths = nat_cmp-same (flat.bytes + length text) (flat_next.bytes + length text_next) (path_length ids + length text)
        (path_length ids_next + length text_next)
        (ap (λ n. n + length text) stands.bytes) (ap (λ n. n + length text_next) stands_next.bytes)

    -- in one element names are in the order of their places
    slots : place.element ≡ next.element → nat_cmp slot other ≡ slice_cmp nat_cmp text text_next
    slots same =
        let base = slice_index bases place.element in
        let texts = texts_at flats records place.element in
        let is_next : text_next ≡ get_or texts next.own [] = ap (λ (n : ℕ). get_or (texts_at flats records n) next.own []) (sym same) in
        let inside : next.own < length texts = subst (λ (n : ℕ). next.own < length (texts_at flats records n)) (sym same) two.own in
        nat_cmp-same slot other (base + place.own) (base + next.own) at (at_next ∙ ap (λ (n : ℕ). slice_index bases n + next.own) (sym same))
        ∙ nat_cmp-add base place.own next.own
        ∙ places_compare false one.element.ext (locals_of records flat.cell) (locals_are place.element one.element one.at)
        (lawful_at exts elements tree lawful is place.element one.element one.at).node_names_differ place.own next.own [] one.own inside
        ∙ ap (slice_cmp nat_cmp text) (sym is_next)

    -- elements as deep whose names tie are one
    one_element : slice_cmp element_cmp ids ids_next ≡ Equal → place.element ≡ next.element
    one_element tied = is.apart place.element next.element one.element two.element one.at two.at (slice_cmp-IsAntisymmetric element_cmp-exact ids ids_next tied)

    behind : flat.depth ≡ flat_next.depth
        → ordering_then (nat_cmp flat.rank flat_next.rank) (nat_cmp slot other)
        ≡ ordering_then (slice_cmp element_cmp ids ids_next) (slice_cmp nat_cmp text text_next)
    behind deep =
        let ranks = is.ranks place.element next.element one.element two.element flat flat_next (are_at exts elements tree is place.element one.element one.at)
        (are_at exts elements tree is next.element two.element two.at) deep in
        ap (λ (o : Ordering). ordering_then o (nat_cmp slot other)) ranks
        ∙ then_equal (slice_cmp element_cmp ids ids_next) (nat_cmp slot other) (slice_cmp nat_cmp text text_next) (λ tied. slots (one_element tied))

    abbrev long : Ordering
    long = nat_cmp (path_length ids + length text) (path_length ids_next + length text_next)

    abbrev key_rest : Ordering
    key_rest = ordering_then (nat_cmp flat.rank flat_next.rank) (nat_cmp slot other)

    abbrev name_rest : Ordering
    name_rest = ordering_then (slice_cmp element_cmp ids ids_next) (slice_cmp nat_cmp text text_next)

    -- keys compare as the full names
    pub keys_compare : key_cmp (key_at flats records place slot) (key_at flats records next other) ≡ name_cmp (path_text ids text)
        (path_text ids_next text_next)
    keys_compare =
        (λ i. ordering_then (kinds i) (ordering_then (nat_cmp flat.depth flat_next.depth) (ordering_then (lengths i) key_rest)))
        ∙ ap (ordering_then (nat_cmp (kind_rank (name_kind text)) (kind_rank (name_kind text_next))))
        (then_equal (nat_cmp flat.depth flat_next.depth) (ordering_then long key_rest) (ordering_then long name_rest)
        (λ tied. ap (ordering_then long) (behind (nat_cmp-IsAntisymmetric flat.depth flat_next.depth tied)))
        ∙ ap (λ (o : Ordering). ordering_then o (ordering_then long name_rest)) depths)
        ∙ sym (paths_compare_by_parts ids text ids_next text_next (whole_at exts elements tree lawful is place.element one.element one.at) one.last
        (whole_at exts elements tree lawful is next.element two.element two.at) two.last)
