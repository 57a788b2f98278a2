-- What a tree tells of its elements, by their numbers.
use Rattle.full_names.proofs.Common.{◌≡◌, ◌≢◌, ℕ, ◌<◌, List, [], ◌∷◌, ◌++◌, Some, length, map, inl, inr, sym, ◌∙◌, ap, subst, arith, slice_get}
use Rattle.full_names.proofs.Common.{map-append, slice_get-get_or, slice_get_within, same_Some, slice_get-below, UseRec, CellExt, Element, ids_of}
use Rattle.full_names.proofs.Common.{TreeElement, ElementTree, StandsFor, IsTreeOfElements, no_element, flat_at}
use Rattle.std.proofs.lemmas.List.{nil_from_length}
use Rattle.element_tree.specs.Trees.{AreAt, StandsIn}
use Rattle.full_names.specs.steps.Paths.{IsTree, IsAtRoot, LeadsFrom}

module _ (exts : List CellExt) (elements : List Element) (tree : ElementTree) (is : IsTreeOfElements exts elements tree) where
  -- an element stands at each number of the tree
  pub element_at : (number : ℕ) → number < length tree.elements → (element : Element) × (slice_get elements number ≡ Some element)
  element_at number within = let long = is.long in slice_get-below elements number (omega arith)

  pub within_tree : (number : ℕ) (element : Element) → slice_get elements number ≡ Some element → number < length tree.elements
  within_tree number element at = let long = is.long in let within = slice_get_within elements number element at in omega arith

  pub are_at : (number : ℕ) (element : Element) → slice_get elements number ≡ Some element
      → AreAt elements tree.elements number element (flat_at tree.elements number)
  are_at number element at = record { is = at; has = slice_get-get_or tree.elements number no_element (within_tree number element at) }

  pub stands_for : (number : ℕ) (element : Element) → slice_get elements number ≡ Some element → StandsFor exts element (flat_at tree.elements number)
  stands_for number element at = is.elements_are number element (flat_at tree.elements number) (are_at number element at)

  -- an element to which no use leads
  pub no_ids : (number : ℕ) (element : Element) → slice_get elements number ≡ Some element → (flat_at tree.elements number).depth ≡ 0 → ids_of element ≡ []
  no_ids number element at none =
      ap (map (λ (used : UseRec). used.id)) (nil_from_length element.uses (sym (stands_for number element at).depth ∙ none))

  -- the element that another stands in
  pub parent_of : (number : ℕ) (element : Element) → slice_get elements number ≡ Some element → (flat_at tree.elements number).depth ≢ 0
      → StandsIn elements number element (flat_at tree.elements number)
  parent_of number element at deep =
      elim (is.parents number element (flat_at tree.elements number) (are_at number element at)) [
        | inl none ↦ absurd (deep ((stands_for number element at).depth ∙ ap length none))
        | inr stands ↦ stands
      ]

  -- and its record
  pub parent_record : (number : ℕ) (element : Element) (at : slice_get elements number ≡ Some element) (deep : (flat_at tree.elements number).depth ≢ 0)
      → slice_get exts (flat_at tree.elements (flat_at tree.elements number).parent).cell ≡ Some (parent_of number element at deep).parent.ext
  parent_record number element at deep =
      let stands = parent_of number element at deep in
      (stands_for (flat_at tree.elements number).parent stands.parent stands.found).record_

-- What is read on the way to the last use that leads to an element; the lists are the tree's.
module _ (exts : List CellExt) (tree : ElementTree) (some : IsTree exts tree) (number : ℕ) (within : number < length tree.elements)
    (items next : List TreeElement) (same : items ≡ tree.elements) (again : next ≡ tree.elements) (deep : (flat_at items number).depth ≢ 0) where
  abbrev flat : TreeElement
  flat = flat_at tree.elements number

  is_deep : flat.depth ≢ 0
  is_deep none = deep (ap (λ (list : List TreeElement). (flat_at list number).depth) same ∙ none)

  one : (element : Element) × (slice_get some.elements number ≡ Some element)
  one = element_at exts some.elements tree some.is number within

  stands : StandsIn some.elements number one.0 flat
  stands = parent_of exts some.elements tree some.is number one.0 one.1 is_deep

  has_record : slice_get exts (flat_at tree.elements flat.parent).cell ≡ Some stands.parent.ext
  unfolding stands
  has_record = parent_record exts some.elements tree some.is number one.0 one.1 is_deep

  pub parent_within : (flat_at items number).parent < length next
  parent_within =
      let inside : flat.parent < length tree.elements = let less = stands.lesser in omega arith in
      subst (λ (list : List TreeElement). (flat_at list number).parent < length next) (sym same)
      (subst (λ (list : List TreeElement). flat.parent < length list) (sym again) inside)

  abbrev read_cell : ℕ
  read_cell = (flat_at next (flat_at items number).parent).cell

  cell_is : read_cell ≡ (flat_at tree.elements flat.parent).cell
  cell_is =
      ap (λ (list : List TreeElement). (flat_at next (flat_at list number).parent).cell) same
      ∙ ap (λ (list : List TreeElement). (flat_at list flat.parent).cell) again

  pub parent_cell_within : read_cell < length exts
  parent_cell_within = subst (λ n. n < length exts) (sym cell_is) (slice_get_within exts (flat_at tree.elements flat.parent).cell stands.parent.ext has_record)

  pub use_within : (ext : CellExt) → slice_get exts read_cell ≡ Some ext → (flat_at items number).at < length ext.uses
  use_within ext at =
      let this : stands.parent.ext ≡ ext = same_Some stands.parent.ext ext (sym has_record ∙ ap (slice_get exts) (sym cell_is) ∙ at) in
      let inside = slice_get_within stands.parent.ext.uses flat.at stands.used stands.use_of in
      subst (λ (list : List TreeElement). (flat_at list number).at < length ext.uses) (sym same)
      (subst (λ (e : CellExt). flat.at < length e.uses) this inside)

  pub leads_from : (id : List ℕ) → ((ext : CellExt) (used : UseRec) → slice_get exts read_cell ≡ Some ext
      → slice_get ext.uses (flat_at items number).at ≡ Some used → id ≡ used.id) → LeadsFrom exts tree (flat_at items number).parent id number
  leads_from id told =
      let made : LeadsFrom exts tree flat.parent id number = record {
        lesser = stands.lesser;
        leads = λ elements is element at.
            let in_parent = parent_of exts elements tree is number element at is_deep in
            let in_ext = parent_record exts elements tree is number element at is_deep in
            let name = told in_parent.parent.ext in_parent.used (ap (slice_get exts) cell_is ∙ in_ext)
            (ap (λ (list : List TreeElement). slice_get in_parent.parent.ext.uses (flat_at list number).at) same ∙ in_parent.use_of) in
            record {
              above = in_parent.parent;
              stands = in_parent.found;
              ids = ap (map (λ (u : UseRec). u.id)) in_parent.uses ∙ map-append (λ (u : UseRec). u.id) in_parent.parent.uses (in_parent.used ∷ [])
                  ∙ ap (λ (n : List ℕ). ids_of in_parent.parent ++ n ∷ []) (sym name);
            };
      } in
      subst (λ (list : List TreeElement). LeadsFrom exts tree (flat_at list number).parent id number) (sym same) made

-- no use leads to an element without depth
pub at_root : (exts : List CellExt) (tree : ElementTree) (number : ℕ) (items : List TreeElement) → items ≡ tree.elements
    → (flat_at items number).depth ≡ 0 → IsAtRoot exts tree number
at_root exts tree number items same none elements is element at =
    no_ids exts elements tree is number element at (ap (λ (list : List TreeElement). (flat_at list number).depth) (sym same) ∙ none)
