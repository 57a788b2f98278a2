-- Where full names come from.
use Rattle.full_names.proofs.Common.{◌≡◌, ℕ, zero, suc, ◌+◌, ◌<◌, Bool, true, false, List, [], ◌∷◌, ◌++◌, length, get_or, Some, map, inl, inr, refl}
use Rattle.full_names.proofs.Common.{sym, ◌∙◌, ap, subst, arith, slice_get, option_map, flat_map, cases_Bool, length-map, get_or-map, slice_get-map}
use Rattle.full_names.proofs.Common.{slice_get_within, get_or_from_slice_get, same_Some, bytes_eq-Decides, bytes_eq, In, Distinct, In-map}
use Rattle.full_names.proofs.Common.{In-map_source, In-slice_get, slice_get-append_left, slice_get-append_right, In-flat_map, NodeRec, path_text}
use Rattle.full_names.proofs.Common.{names_of, node_names, IsLawful, Element, ids_of, name_in, full_names, TreeElement, IsTreeOfElements, FullNames}
use Rattle.full_names.proofs.Common.{OwnName, RecordNames, GlobalName, Place, IsFullNameList, is_marked, locals_of, flat_at, global_texts, place_at}
use Rattle.full_names.proofs.Common.{texts_at, text_at, place_name, elements_in, AreNames, IsLocalNumber, ComesFrom}
use Rattle.std.specs.Prelude.{find}
use Rattle.ext_model.proofs.FiniteSets.Distincts.{Distinct-append_right, Distinct-append_apart}
use Rattle.ext_model.proofs.FiniteSets.Searches.{In-from_list_any, list_any-of_In, find-at}
use Rattle.circuit_model.specs.FlatNodes.{is_among, gives_name}
use Rattle.full_names.specs.Names.{local_names}
use Rattle.full_names.proofs.KeyOrders.{IsLocalName, local_name_at, locals_are}
use Rattle.full_names.proofs.NameForms.{last_name_of, full_name-marked, full_name-local, one_path, path_not_global}
use Rattle.full_names.proofs.NumberLaws.{place_name_is}
use Rattle.full_names.proofs.QueryLaws.{is_tree, lawful_of, one_list}
use Rattle.full_names.proofs.TreeNames.{whole_at}

-- the first thing that passes a test
find_first : {X : Type 0} (test : X → Bool) (xs : List X) (k : ℕ) (x : X) → slice_get xs k ≡ Some x → test x ≡ true
    → ((j : ℕ) (y : X) → j < k → slice_get xs j ≡ Some y → test y ≡ true → ⊥) → find test xs ≡ Some x
find_first test xs k x at passes before = find-at test xs k x at passes (λ j y less there. elim (cases_Bool (test y)) [
  | inl first ↦ absurd (before j y less there first)
  | inr fails ↦ fails
])

-- in lists without a thing twice, a thing stands in one part
one_part : {X Y : Type 0} (f : X → List Y) (xs : List X) (i j : ℕ) (x z : X) (y : Y) → Distinct (flat_map f xs) → slice_get xs i ≡ Some x
    → slice_get xs j ≡ Some z → In y (f x) → In y (f z) → i ≡ j
one_part f [] i j x z y differ at at_next p q = cc
one_part f (w ∷ xs) zero zero x z y differ at at_next p q = refl
one_part {X} f (w ∷ xs) zero (suc j) x z y differ at at_next p q =
    let first = subst (λ (a : X). In y (f a)) (sym (same_Some w x at)) p in
    absurd (Distinct-append_apart (f w) (flat_map f xs) differ y first (In-flat_map f z y xs (In-slice_get xs j z at_next) q))
one_part {X} f (w ∷ xs) (suc i) zero x z y differ at at_next p q =
    let first = subst (λ (a : X). In y (f a)) (sym (same_Some w z at_next)) q in
    absurd (Distinct-append_apart (f w) (flat_map f xs) differ y first (In-flat_map f x y xs (In-slice_get xs i x at) p))
one_part f (w ∷ xs) (suc i) (suc j) x z y differ at at_next p q =
    ap suc (one_part f xs i j x z y (Distinct-append_right (f w) (flat_map f xs) differ) at at_next p q)

module _ (names : FullNames) (are : AreNames names) where
  abbrev elements : List Element
  elements = elements_in names

  abbrev flats : List TreeElement
  flats = names.tree.now.elements

  abbrev records : List RecordNames
  records = names.records.items

  abbrev globals : List GlobalName
  globals = names.globals.items

  pub is : IsTreeOfElements names.exts.now elements names.tree.now
  is = is_tree names are

  lawful : (number : ℕ) (element : Element) → slice_get elements number ≡ Some element → IsLawful element.ext
  lawful = lawful_of names are

  -- The names of two elements that have one full name.
  module _ (a b : ℕ) (one other : Element) (at : slice_get elements a ≡ Some one) (at_next : slice_get elements b ≡ Some other)
      (text next : List ℕ) (named : In text (node_names one.ext)) (named_next : In next (node_names other.ext))
      (same : name_in one text ≡ name_in other next) where
    -- are either global
    same_marked : is_marked text ≡ true → text ≡ next
    same_marked marked =
        let whole = full_name-marked one.ext (lawful a one at) text named (ids_of one) marked in
        elim (cases_Bool (is_marked next)) [
          | inl marked_next ↦ sym whole ∙ same ∙ full_name-marked other.ext (lawful b other at_next) next named_next (ids_of other) marked_next
          | inr local_next ↦ absurd (path_not_global (ids_of other) next text (last_name_of other.ext
              (lawful b other at_next) next named_next) local_next marked
              (sym (full_name-local other.ext (lawful b other at_next) next named_next (ids_of other) local_next) ∙ sym same ∙ whole))
        ]

    -- or of one element
    same_local : is_marked text ≡ false → (a ≡ b) × (text ≡ next)
    same_local local =
        let whole = full_name-local one.ext (lawful a one at) text named (ids_of one) local in
        let last = last_name_of one.ext (lawful a one at) text named in
        elim (cases_Bool (is_marked next)) [
          | inl marked_next ↦ absurd (path_not_global (ids_of one) text next last local marked_next
              (sym whole ∙ same ∙ full_name-marked other.ext (lawful b other at_next) next named_next (ids_of other) marked_next))
          | inr local_next ↦ (let path = one_path (ids_of one) text (ids_of other) next
              (whole_at names.exts.now elements names.tree.now are.records is a one at) last
              (whole_at names.exts.now elements names.tree.now are.records is b other at_next) (last_name_of other.ext (lawful b other at_next) next named_next)
              (sym whole ∙ same ∙ full_name-local other.ext (lawful b other at_next) next named_next (ids_of other) local_next) in
              (is.apart a b one other at at_next path.same_ids, path.same_name))
        ]

    pub same_text : text ≡ next
    same_text = elim (cases_Bool (is_marked text)) [ inl marked ↦ same_marked marked | inr local ↦ (same_local local).1 ]

  -- A node of an element gives it the full name, and no element before has it.
  module _ (number : ℕ) (element : Element) (at : slice_get elements number ≡ Some element) (k : ℕ) (node : NodeRec)
      (stands : slice_get element.ext.nodes k ≡ Some node) (text : List ℕ) (given : In text (names_of node))
      (first : (j : ℕ) (other : Element) → j < number → slice_get elements j ≡ Some other → In (name_in element text) (full_names other) → ⊥) where
    named : In text (node_names element.ext)
    named = In-flat_map names_of node text element.ext.nodes (In-slice_get element.ext.nodes k node stands) given

    abbrev full : List ℕ
    full = name_in element text

    no_node_before : (j : ℕ) (other : NodeRec) → j < k → slice_get element.ext.nodes j ≡ Some other → gives_name element full other ≡ true → ⊥
    no_node_before j other less at_j gives =
        let source = In-map_source (name_in element) full (names_of other)
        (In-from_list_any bytes_eq bytes_eq-Decides full (map (name_in element) (names_of other)) gives) in
        let named_other = In-flat_map names_of other source.0 element.ext.nodes (In-slice_get element.ext.nodes j other at_j) source.1.0 in
        let same = same_text number number element element at at source.0 text named_other named source.1.1 in
        let one : j ≡ k = one_part names_of element.ext.nodes j k other node text (lawful number element at).node_names_differ at_j stands
        (subst (λ (t : List ℕ). In t (names_of other)) same source.1.0) given in
        omega arith

    pub comes_from : ComesFrom names full (record { element = number; node = k })
    comes_from = record {
      element = element;
      node = node;
      stands = at;
      first = find_first (λ (e : Element). is_among (full_names e) full) elements number element at
          (list_any-of_In bytes_eq bytes_eq-Decides full (full_names element) (In-map (name_in element) text (node_names element.ext) named))
          (λ j other less at_j here. first j other less at_j (In-from_list_any bytes_eq bytes_eq-Decides full (full_names other) here));
      node_stands = stands;
      first_node = find_first (gives_name element full) element.ext.nodes k node stands
          (list_any-of_In bytes_eq bytes_eq-Decides full (map (name_in element) (names_of node)) (In-map (name_in element) text (names_of node) given))
          no_node_before;
    }

  -- where a global name comes from
  pub global_comes : (name : GlobalName) → In name globals → ComesFrom names name.text.now (record { element = name.element; node = name.node })
  global_comes name listed =
      let one = are.globals.each name listed in
      let text = name.text.now in
      let here = In-flat_map names_of one.node text one.element.ext.nodes (In-slice_get one.element.ext.nodes name.node one.node one.node_stands) one.named in
      let whole = full_name-marked one.element.ext (lawful name.element one.element one.stands) text here (ids_of one.element) one.marked in
      subst (λ (t : List ℕ). ComesFrom names t (record { element = name.element; node = name.node })) whole
      (comes_from name.element one.element one.stands name.node one.node one.node_stands text one.named
      (λ j other less at_j among.
      let source = In-map_source (name_in other) (name_in one.element text) (node_names other.ext) among in
      let same = same_text name.element j one.element other one.stands at_j text source.0 here source.1.0 (sym source.1.1) in
      let later = one.first j other at_j (subst (λ (t : List ℕ). In t (node_names other.ext)) (sym same) source.1.0) in
      omega arith))

  -- the global name with a number
  pub global_at : (list : List (List ℕ)) → IsFullNameList elements list → (number : ℕ) (global : GlobalName) → slice_get globals number ≡ Some global
      → slice_get list number ≡ Some global.text.now
  global_at list full number global at =
      ap (λ (l : List (List ℕ)). slice_get l number) (one_list names are list full)
      ∙ slice_get-append_left (global_texts globals) (local_names names) number global.text.now
      (slice_get-map (λ (n : GlobalName). n.text.now) globals number ∙ ap (option_map (λ (n : GlobalName). n.text.now)) at)

  -- A name that is not global, by its number among those.
  module _ (k number : ℕ) (own : OwnName) (local : IsLocalNumber names k number own) where
    abbrev place : Place
    place = place_at names.places.items local.slot

    slot_inside : local.slot < length names.places.items
    slot_inside = are.slots_within local.slot (In-slice_get names.slots.items k local.slot local.slot_stands)

    -- it is a name of its element
    pub local_is : IsLocalName names.exts.now elements names.tree.now are.records is records are.known place (text_at flats records place)
    local_is = local_name_at names.exts.now elements names.tree.now are.records is records are.known place (are.places.each local.slot slot_inside)

    pub local_stands : slice_get elements number ≡ Some local_is.element
    local_stands = ap (slice_get elements) (sym local.is_element) ∙ local_is.at

    text_is : text_at flats records place ≡ own.text.now
    text_is =
        let list = locals_of records (flat_at flats number).cell in
        let within = slice_get_within list place.own own local.has in
        ap (λ (n : ℕ). get_or (texts_at flats records n) place.own []) local.is_element
        ∙ get_or-map (λ (n : OwnName). n.text.now) list place.own own [] within
        ∙ ap (λ (n : OwnName). n.text.now) (get_or_from_slice_get list place.own own own local.has)

    full_is : place_name elements flats records place ≡ name_in local_is.element own.text.now
    full_is = place_name_is names.exts.now elements names.tree.now are.records is records are.known place local_is ∙ ap (name_in local_is.element) text_is

    -- the full name with this number
    pub local_full : (list : List (List ℕ)) → IsFullNameList elements list → slice_get list (length globals + k) ≡ Some (name_in local_is.element own.text.now)
    local_full list full =
        let made : ℕ → List ℕ = λ (s : ℕ). place_name elements flats records (place_at names.places.items s) in
        ap (λ (l : List (List ℕ)). slice_get l (length globals + k)) (one_list names are list full)
        ∙ ap (λ n. slice_get (global_texts globals ++ local_names names) (n + k)) (sym (length-map globals (λ (n : GlobalName). n.text.now)))
        ∙ slice_get-append_right (global_texts globals) (local_names names) k (length (global_texts globals) + k) refl
        ∙ slice_get-map made names.slots.items k ∙ ap (option_map made) local.slot_stands ∙ ap Some full_is

    unmarked : is_marked own.text.now ≡ false
    unmarked = ap is_marked (sym text_is) ∙ local_is.local

    named_own : In own.text.now (node_names local_is.element.ext)
    named_own = subst (λ (t : List ℕ). In t (node_names local_is.element.ext)) text_is local_is.named

    -- it is the path of its element and the name there
    pub local_path : name_in local_is.element own.text.now ≡ path_text (ids_of local_is.element) own.text.now
    local_path = full_name-local local_is.element.ext (lawful number local_is.element local_stands) own.text.now named_own (ids_of local_is.element) unmarked

    pub local_comes : ComesFrom names (name_in local_is.element own.text.now) (record { element = number; node = own.node })
    local_comes =
        let list = locals_of records (flat_at flats number).cell in
        let node = (locals_are names.exts.now elements names.tree.now are.records is records are.known number local_is.element local_stands).nodes own
        (In-slice_get list place.own own local.has) in
        comes_from number local_is.element local_stands own.node node.node node.stands own.text.now node.named
        (λ j other less at_j among.
        let source = In-map_source (name_in other) (name_in local_is.element own.text.now) (node_names other.ext) among in
        let same : number ≡ j = (same_local number j local_is.element other local_stands at_j own.text.now source.0 named_own source.1.0
        (sym source.1.1) unmarked).0 in
        omega arith)
