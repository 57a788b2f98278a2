-- The bytes of all full names, each once, are those that are counted.
use Rattle.full_names.proofs.Common.{◌≡◌, ℕ, ◌+◌, Bool, true, false, cond, not, List, [], ◌∷◌, ◌++◌, length, get_or, Some, filter, map, inl, inr}
use Rattle.full_names.proofs.Common.{refl, sym, ◌∙◌, ap, subst, arith, slice_get, flat_map, bytes_eq, cases_Bool, false≢true, not-true}
use Rattle.full_names.proofs.Common.{slice_get-get_or, get_or_from_slice_get, bytes_eq-Decides, In, Distinct, In-append_cases, In-append_left}
use Rattle.full_names.proofs.Common.{In-append_right, In-map, In-map_source, In-filter, In-filter_source, In-filter_passes, Pairwise, In-flat_map}
use Rattle.full_names.proofs.Common.{In-slice_get, slice_get-In, CellExt, path_length, IsLastName, path_text, names_of, node_names, Element, ids_of}
use Rattle.full_names.proofs.Common.{AreRecords, name_in, full_names, ElementTree, TreeElement, IsTreeOfElements, OwnName, RecordNames, GlobalName}
use Rattle.full_names.proofs.Common.{is_marked, is_wanted, texts_of, locals_of, AreOwnNames, no_element, flat_at, global_texts, AreGlobalsOf}
use Rattle.full_names.proofs.Common.{global_bytes, local_bytes, element_bytes}
use Rattle.std.proofs.Common.{pos, ◌+ℤ◌}
use Rattle.std.specs.Prelude.{sum_by}
use Rattle.std.proofs.lemmas.List.Sums.{sum_by-cons, sum_by-append}
use Rattle.std.proofs.lemmas.List.Sorted.{sum_by-IsPermutation}
use Rattle.ext_model.specs.FiniteSets.Total.{sum_on}
use Rattle.ext_model.proofs.FiniteSets.Distincts.{Distinct-append, Distinct-filter, Distinct-map}
use Rattle.ext_model.proofs.FiniteSets.Pairs.{Pairwise-from_AllPairs}
use Rattle.ext_model.proofs.FiniteSets.Searches.{In-from_list_any, absent-from_list_any}
use Rattle.ext_model.proofs.FiniteSets.Sums.{sum_on-same_things, sum_by-map, sum_by-same, sum_by-flat_map, sum_by-pointwise}
use Rattle.ext_model.proofs.FiniteSets.Images.{In-flat_map_source, Distinct-flat_map}
use Rattle.ext_model.proofs.PartOrders.{length-path_text}
use Rattle.circuit_model.specs.FlatNodes.{is_among}
use Rattle.circuit_model.specs.Refusals.{once, name_bytes}
use Rattle.full_names.proofs.KeyOrders.{NamesAreKnown, locals_are}
use Rattle.full_names.proofs.ListOrders.{pairwise_names, Distinct-names}
use Rattle.full_names.proofs.NameForms.{last_name_of, full_name-marked, full_name-local, one_path, path_not_global}
use Rattle.full_names.proofs.TreeNames.{lawful_at, whole_at}

-- what stands in a list once stands there, and was not seen before
once_source : (seen names : List (List ℕ)) (name : List ℕ) → In name (once seen names) → In name names × (In name seen → ⊥)
once_source seen [] name here = absurd here
once_source seen (first ∷ names) name here =
    elim (cases_Bool (is_among seen first)) [
      | inl among ↦ (let rest = once_source seen names name
          (subst (λ (b : Bool). In name (cond b (once seen names) (first ∷ once (first ∷ seen) names))) among here) in
          (inr rest.0, rest.1))
      | inr new ↦ (elim (subst (λ (b : Bool). In name (cond b (once seen names) (first ∷ once (first ∷ seen) names))) new here) [
        | inl this ↦ (inl this, (λ before. absent-from_list_any bytes_eq bytes_eq-Decides first seen new (subst (λ (n : List ℕ). In n seen) (sym this) before)))
        | inr later ↦ (let rest = once_source (first ∷ seen) names name later in (inr rest.0, (λ before. rest.1 (inr before))))
      ])
    ]

-- and what stands in a list and was not seen stands there once
once_In : (seen names : List (List ℕ)) (name : List ℕ) → In name names → (In name seen → ⊥) → In name (once seen names)
once_In seen [] name here new = absurd here
once_In seen (first ∷ names) name here new =
    elim (cases_Bool (is_among seen first)) [
      | inl among ↦ subst (λ (b : Bool). In name (cond b (once seen names) (first ∷ once (first ∷ seen) names))) (sym among)
          (elim here [
            | inl this ↦ absurd (new (subst (λ (n : List ℕ). In n seen) this (In-from_list_any bytes_eq bytes_eq-Decides first seen among)))
            | inr later ↦ once_In seen names name later new
          ])
      | inr first_new ↦ subst (λ (b : Bool). In name (cond b (once seen names) (first ∷ once (first ∷ seen) names))) (sym first_new)
          (elim here [
            | inl this ↦ inl this
            | inr later ↦ (elim (cases_Bool (bytes_eq first name)) [
              | inl same ↦ inl ((bytes_eq-Decides first name).0 same)
              | inr differ ↦ inr (once_In (first ∷ seen) names name later
                  (λ before. elim before [
                    | inl this ↦ false≢true (sym differ ∙ (bytes_eq-Decides first name).1 this)
                    | inr old ↦ new old
                  ]))
            ])
          ])
    ]

once_Distinct : (seen names : List (List ℕ)) → Distinct (once seen names)
once_Distinct seen [] = tt
once_Distinct seen (first ∷ names) =
    elim (cases_Bool (is_among seen first)) [
      | inl among ↦ subst (λ (b : Bool). Distinct (cond b (once seen names) (first ∷ once (first ∷ seen) names))) (sym among) (once_Distinct seen names)
      | inr new ↦ subst (λ (b : Bool). Distinct (cond b (once seen names) (first ∷ once (first ∷ seen) names))) (sym new)
          ((λ here. (once_source (first ∷ seen) names first here).1 (inl refl)), once_Distinct (first ∷ seen) names)
    ]

-- sums of natural numbers as those of integers
sum_is : {X : Type 0} (f : X → ℕ) (xs : List X) → sum_on (λ x. pos (f x)) xs ≡ pos (sum_by f xs)
sum_is f [] = refl
sum_is f (x ∷ xs) = ap (λ z. pos (f x) +ℤ z) (sum_is f xs) ∙ sym (ap pos (sum_by-cons f x xs))

-- lists of the same things, each once, have one sum
same_sum : {X : Type 0} (f : X → ℕ) (xs ys : List X) → Distinct xs → Distinct ys → ((x : X) → In x xs → In x ys) → ((x : X) → In x ys → In x xs)
    → sum_by f xs ≡ sum_by f ys
same_sum f xs ys one other there back =
    let same : pos (sum_by f xs) ≡ pos (sum_by f ys) = sym (sum_is f xs) ∙ sum_on-same_things (λ x. pos (f x)) xs ys one other there back ∙ sum_is f ys in
    cc

module _ (exts : List CellExt) (elements : List Element) (tree : ElementTree) (lawful : AreRecords exts) (is : IsTreeOfElements exts elements tree)
    (records : List RecordNames) (known : NamesAreKnown elements tree records) (globals : List GlobalName) (global : AreGlobalsOf elements globals)
    (long : (name : GlobalName) → In name globals → name.length ≡ length name.text.now) where
  abbrev flats : List TreeElement
  flats = tree.elements

  -- the names of an element's record that are not global
  abbrev plain_names : Element → List (List ℕ)
  plain_names element = filter (is_wanted false) (node_names element.ext)

  -- their full names
  abbrev plain_full : Element → List (List ℕ)
  plain_full element = map (name_in element) (plain_names element)

  -- all full names, each once
  abbrev each_name : List (List ℕ)
  each_name = global_texts globals ++ flat_map plain_full elements

  -- A full name that is not global.
  record IsPlain (number : ℕ) (element : Element) (text : List ℕ) : Type 0 where
    pub named : In text (node_names element.ext)
    pub local : is_marked text ≡ false
    pub last : IsLastName text
    pub whole : name_in element text ≡ path_text (ids_of element) text

  plain : (number : ℕ) (element : Element) → slice_get elements number ≡ Some element → (text : List ℕ) → In text (plain_names element)
      → IsPlain number element text
  plain number element at text here =
      let named = In-filter_source (is_wanted false) text (node_names element.ext) here in
      let local = not-true (is_marked text) (In-filter_passes (is_wanted false) text (node_names element.ext) here) in
      let record_ = lawful_at exts elements tree lawful is number element at in
      record {
        named = named;
        local = local;
        last = last_name_of element.ext record_ text named;
        whole = full_name-local element.ext record_ text named (ids_of element) local;
      }

  -- in one element no two names have one full name, and none of one is of another element
  plain_apart : (a b : ℕ) (one other : Element) → slice_get elements a ≡ Some one → slice_get elements b ≡ Some other → (text next : List ℕ)
      → In text (plain_names one) → In next (plain_names other) → name_in one text ≡ name_in other next → (a ≡ b) × (text ≡ next)
  plain_apart a b one other at at_next text next here there same =
      let first = plain a one at text here in
      let second = plain b other at_next next there in
      let path = one_path (ids_of one) text (ids_of other) next (whole_at exts elements tree lawful is a one at) first.last
      (whole_at exts elements tree lawful is b other at_next) second.last (sym first.whole ∙ same ∙ second.whole) in
      (is.apart a b one other at at_next path.same_ids, path.same_name)

  plain_distinct : (element : Element) → In element elements → Distinct (plain_full element)
  plain_distinct element here =
      let at = slice_get-In element elements here in
      Distinct-map (name_in element) (plain_names element)
      (λ a b p q same. (plain_apart at.0 at.0 element element at.1 at.1 a b p q same).1)
      (Distinct-filter (is_wanted false) (node_names element.ext) (lawful_at exts elements tree lawful is at.0 element at.1).node_names_differ)

  elements_apart : Pairwise (λ a b. (name : List ℕ) → In name (plain_full a) → In name (plain_full b) → ⊥) elements
  elements_apart = Pairwise-from_AllPairs (λ (a b : Element). (name : List ℕ) → In name (plain_full a) → In name (plain_full b) → ⊥) elements
      (λ i j d less below name here there.
      let first : slice_get elements i ≡ Some (get_or elements i d) = slice_get-get_or elements i d (omega arith) in
      let second = slice_get-get_or elements j d below in
      let from = In-map_source (name_in (get_or elements i d)) name (plain_names (get_or elements i d)) here in
      let to = In-map_source (name_in (get_or elements j d)) name (plain_names (get_or elements j d)) there in
      let apart = plain_apart i j (get_or elements i d) (get_or elements j d) first second from.0 to.0 from.1.0 to.1.0 (from.1.1 ∙ sym to.1.1) in
      let same : i ≡ j = apart.0 in
      absurd (omega arith))

  -- no full name stands twice among them
  each_distinct : Distinct each_name
  each_distinct =
      Distinct-append (global_texts globals) (flat_map plain_full elements)
      (Distinct-names (global_texts globals) (pairwise_names (global_texts globals) global.in_order))
      (Distinct-flat_map plain_full elements elements_apart plain_distinct)
      (λ name first behind.
      let from = In-map_source (λ (n : GlobalName). n.text.now) name globals first in
      let marked = subst (λ (t : List ℕ). is_marked t ≡ true) from.1.1 (global.each from.0 from.1.0).marked in
      let source = In-flat_map_source plain_full name elements behind in
      let at = slice_get-In source.0 elements source.1.0 in
      let text = In-map_source (name_in source.0) name (plain_names source.0) source.1.1 in
      let one = plain at.0 source.0 at.1 text.0 text.1.0 in
      path_not_global (ids_of source.0) text.0 name one.last one.local marked (sym one.whole ∙ text.1.1))

  all_to_each : (name : List ℕ) → In name (flat_map full_names elements) → In name each_name
  all_to_each name here =
      let source = In-flat_map_source full_names name elements here in
      let element = source.0 in
      let at = slice_get-In element elements source.1.0 in
      let text = In-map_source (name_in element) name (node_names element.ext) source.1.1 in
      elim (cases_Bool (is_marked text.0)) [
        | inl marked ↦ In-append_left name (global_texts globals) (flat_map plain_full elements)
            (subst (λ (t : List ℕ). In t (global_texts globals))
            (sym (full_name-marked element.ext (lawful_at exts elements tree lawful is at.0 element at.1) text.0 text.1.0 (ids_of element) marked) ∙ text.1.1)
            (global.all at.0 element at.1 text.0 text.1.0 marked))
        | inr local ↦ In-append_right name (global_texts globals) (flat_map plain_full elements)
            (In-flat_map plain_full element name elements source.1.0 (subst (λ (t : List ℕ). In t (plain_full element)) text.1.1
            (In-map (name_in element) text.0 (plain_names element) (In-filter (is_wanted false) text.0 (node_names element.ext) text.1.0 (ap not local)))))
      ]

  each_to_all : (name : List ℕ) → In name each_name → In name (flat_map full_names elements)
  each_to_all name here =
      elim (In-append_cases name (global_texts globals) (flat_map plain_full elements) here) [
        | inl first ↦ (let from = In-map_source (λ (n : GlobalName). n.text.now) name globals first in
            let one = global.each from.0 from.1.0 in
            let text = from.0.text.now in
            let named = In-flat_map names_of one.node text one.element.ext.nodes
            (In-slice_get one.element.ext.nodes from.0.node one.node one.node_stands) one.named in
            In-flat_map full_names one.element name elements (In-slice_get elements from.0.element one.element one.stands)
            (subst (λ (t : List ℕ). In t (full_names one.element))
            (full_name-marked one.element.ext (lawful_at exts elements tree lawful is from.0.element one.element one.stands) text named
            (ids_of one.element) one.marked
            ∙ from.1.1) (In-map (name_in one.element) text (node_names one.element.ext) named)))
        | inr behind ↦ (let source = In-flat_map_source plain_full name elements behind in
            let text = In-map_source (name_in source.0) name (plain_names source.0) source.1.1 in
            In-flat_map full_names source.0 name elements source.1.0 (subst (λ (t : List ℕ). In t (full_names source.0)) text.1.1
            (In-map (name_in source.0) text.0 (node_names source.0.ext) (In-filter_source (is_wanted false) text.0 (node_names source.0.ext) text.1.0))))
      ]

  -- the bytes of an element's names
  element_sum : (number : ℕ) (flat : TreeElement) (element : Element) → slice_get flats number ≡ Some flat → slice_get elements number ≡ Some element
      → local_bytes flat.bytes (locals_of records flat.cell) ≡ sum_by (λ (name : List ℕ). length name) (plain_full element)
  element_sum number flat element has at =
      let stands = is.elements_are number element flat (record { is = at; has = has }) in
      let flat_is : flat_at flats number ≡ flat = get_or_from_slice_get flats number flat no_element has in
      let names = locals_of records flat.cell in
      let own = subst (λ (f : TreeElement). AreOwnNames false element.ext (locals_of records f.cell)) flat_is
      (locals_are exts elements tree lawful is records known number element at) in
      let path = path_length (ids_of element) in
      let weight : List ℕ → ℕ = λ (text : List ℕ). path + length text in
      ap (λ n. local_bytes n names) stands.bytes ∙ sym (sum_by-map weight (λ (name : OwnName). name.text.now) names)
      ∙ sum_by-IsPermutation weight (plain_names element) (texts_of names) own.moved
      ∙ sum_by-same weight (λ (text : List ℕ). length (name_in element text)) (plain_names element)
      (λ text here. sym (ap length (plain number element at text here).whole ∙ length-path_text (ids_of element) text))
      ∙ sym (sum_by-map (λ (name : List ℕ). length name) (name_in element) (plain_names element))

  -- what is counted is the bytes of all full names, each once
  pub counted_bytes : name_bytes elements ≡ global_bytes globals + element_bytes records flats
  counted_bytes =
      let size : List ℕ → ℕ = λ (name : List ℕ). length name in
      let first : sum_by size (global_texts globals) ≡ global_bytes globals = sum_by-map size (λ (n : GlobalName). n.text.now) globals
      ∙ sum_by-same (λ (n : GlobalName). length n.text.now) (λ (n : GlobalName). n.length) globals (λ n here. sym (long n here)) in
      let behind : sum_by size (flat_map plain_full elements) ≡ element_bytes records flats = sum_by-flat_map size plain_full elements
      ∙ sym (sum_by-pointwise (λ (flat : TreeElement). local_bytes flat.bytes (locals_of records flat.cell)) (λ (e : Element). sum_by size
      (plain_full e)) flats elements
      is.long element_sum) in
      same_sum size (once [] (flat_map full_names elements)) each_name (once_Distinct [] (flat_map full_names elements)) each_distinct
      (λ name here. all_to_each name (once_source [] (flat_map full_names elements) name here).0)
      (λ name here. once_In [] (flat_map full_names elements) name (each_to_all name here) (λ none. none))
      ∙ sum_by-append size (global_texts globals) (flat_map plain_full elements) ∙ (λ i. first i + behind i)
