-- The elements of a tree of records by their numbers.
use Rattle.name_classes.proofs.Common.{◌≡◌, ◌⊎◌, ℕ, zero, suc, inl, inr, List, [], ◌∷◌, ◌++◌, refl, sym, ◌∙◌, ap, subst, Option, Some, None}
use Rattle.name_classes.proofs.Common.{slice_get, In, In-slice_get, slice_get-In, slice_get-below, UseRec, CellExt, Element, ext_of, TreeElement}
use Rattle.name_classes.proofs.Common.{FullNames, elements_in, AreNames, IsElement, IsReached}
use Rattle.std.proofs.lemmas.List.Elements.{All-contains}
use Rattle.partition.proofs.FiniteSets.Members.{Contains-from_In}
use Rattle.partition.proofs.FiniteSets.Images.{In-flat_map_source}
use Rattle.ext_model.specs.Lawful.{IsLawful}
use Rattle.circuit_model.specs.declared.limits.TheConstants.{LONGEST_CHAIN}
use Rattle.circuit_model.specs.Elements.{of_option, elements_below, elements_of}
use Rattle.full_names.specs.ElementTree.Trees.{IsTreeOfElements}
use Rattle.name_classes.proofs.ListLaws.{at_place, place_of_image}

-- the record of the root, and the elements below it
pub record HasRoot (names : FullNames) : Type 0 where
  pub top : CellExt
  pub stands : slice_get names.exts.now names.root ≡ Some top
  pub elements : elements_in names ≡ elements_of names.exts.now top

pub root_of_names : (names : FullNames) → AreNames names → HasRoot names
root_of_names names are =
    let root = slice_get-below names.exts.now names.root are.root in record {
      top = root.0;
      stands = root.1;
      elements = ap (λ (found : Option CellExt). elim found [ None ↦ [] | Some top ↦ elements_of names.exts.now top ]) root.1;
    }

pub tree_of_names : (names : FullNames) → AreNames names → IsTreeOfElements names.exts.now (elements_in names) names.tree.now
tree_of_names names are =
    let root = root_of_names names are in
    subst (λ (elements : List Element). IsTreeOfElements names.exts.now elements names.tree.now) (sym root.elements) (are.tree root.top root.stands)

-- each number of the tree is that of an element
pub element_at : (names : FullNames) → AreNames names → (number : ℕ) (flat : TreeElement) → slice_get names.tree.now.elements number ≡ Some flat
    → (element : Element) × IsElement names number element flat
element_at names are number flat stands =
    let found = at_place (elements_in names) names.tree.now.elements number flat (tree_of_names names are).long stands in
    (found.0, record { are = record { is = found.1; has = stands } })

-- the record of an element
pub record_of : (names : FullNames) → AreNames names → (number : ℕ) (element : Element) (flat : TreeElement) → IsElement names number element flat
    → slice_get names.exts.now flat.cell ≡ Some element.ext
record_of names are number element flat stands = ((tree_of_names names are).elements_are number element flat stands.are).record_

pub reached : (names : FullNames) → AreNames names → (number : ℕ) (element : Element) (flat : TreeElement) → IsElement names number element flat
    → IsReached names flat.cell
reached names are number element flat stands =
    (element, (In-slice_get (elements_in names) number element stands.are.is, record_of names are number element flat stands))

-- a record stands at one place
pub one_cell : (names : FullNames) → AreNames names → (a b : ℕ) (ext : CellExt) → slice_get names.exts.now a ≡ Some ext → slice_get names.exts.now b ≡ Some ext
    → a ≡ b
one_cell names are a b ext is other = place_of_image (λ (e : CellExt). e.cell) names.exts.now a b ext ext are.records.cells_differ is other refl

-- each record is lawful
pub lawful_at : (names : FullNames) → AreNames names → (cell : ℕ) (ext : CellExt) → slice_get names.exts.now cell ≡ Some ext → IsLawful ext
lawful_at names are cell ext stands =
    All-contains IsLawful names.exts.now ext are.records.lawful (Contains-from_In ext names.exts.now (In-slice_get names.exts.now cell ext stands))

-- an element of a record that is reached
pub record ReachedAt (names : FullNames) (cell : ℕ) : Type 0 where
  pub number : ℕ
  pub element : Element
  pub flat : TreeElement
  pub stands : IsElement names number element flat
  pub same : flat.cell ≡ cell
  pub record_ : slice_get names.exts.now cell ≡ Some element.ext

pub reached_at : (names : FullNames) → AreNames names → (cell : ℕ) → IsReached names cell → ReachedAt names cell
reached_at names are cell reach =
    let element = reach.0 in
    let at = slice_get-In element (elements_in names) reach.1.0 in
    let flat = at_place names.tree.now.elements (elements_in names) at.0 element (sym (tree_of_names names are).long) at.1 in
    let stands : IsElement names at.0 element flat.0 = record { are = record { is = at.1; has = flat.1 } } in record {
      number = at.0;
      element = element;
      flat = flat.0;
      stands = stands;
      same = one_cell names are flat.0.cell cell element.ext (record_of names are at.0 element flat.0 stands) reach.1.1;
      record_ = reach.1.1;
    }

-- the last use that leads to an element below these uses is of its record
record IsBelow (exts : List CellExt) (uses : List UseRec) (ext : CellExt) (element : Element) : Type 0 where
  before : List UseRec
  used : UseRec
  text : element.uses ≡ before ++ used ∷ []
  leads : ext_of exts used.cell ≡ Some element.ext

child_below : (levels : ℕ) (exts : List CellExt) (uses : List UseRec) (ext : CellExt) (element : Element) → In element (elements_below levels exts uses ext)
    → ((element.uses ≡ uses) × (element.ext ≡ ext)) ⊎ IsBelow exts uses ext element
unfolding elements_below
child_below zero exts uses ext element here = absurd here
child_below (suc levels) exts uses ext element (inl same) = inl (ap (λ (e : Element). e.uses) (sym same), ap (λ (e : Element). e.ext) (sym same))
child_below (suc levels) exts uses ext element (inr below) =
    let part = In-flat_map_source (λ used. of_option (elements_below levels exts (uses ++ used ∷ [])) (ext_of exts used.cell)) element ext.uses below in
    let used = part.0 in
    step used (λ child. child_below levels exts (uses ++ used ∷ []) child element) (ext_of exts used.cell) refl part.1.1
  where
    step : (used : UseRec)
        → ((child : CellExt) → In element (elements_below levels exts (uses ++ used ∷ []) child)
        → ((element.uses ≡ uses ++ used ∷ []) × (element.ext ≡ child)) ⊎ IsBelow exts (uses ++ used ∷ []) child element)
        → (found : Option CellExt) → ext_of exts used.cell ≡ found → In element (of_option (elements_below levels exts (uses ++ used ∷ [])) found)
        → ((element.uses ≡ uses) × (element.ext ≡ ext)) ⊎ IsBelow exts uses ext element
    step used below None is within = absurd within
    step used below (Some child) is within = inr (elim (below child within) [
      | inl there ↦ record { before = uses; used = used; text = there.0; leads = is ∙ ap (λ (e : CellExt). Some e) (sym there.1) }
      | inr deeper ↦ record { before = deeper.before; used = deeper.used; text = deeper.text; leads = deeper.leads }
    ])

-- one last thing
same_last : {X : Type 0} (xs ys : List X) (x y : X) → xs ++ x ∷ [] ≡ ys ++ y ∷ [] → x ≡ y
same_last [] [] x y same = cc
same_last [] (b ∷ []) x y same = absurd (cc)
same_last [] (b ∷ c ∷ ys) x y same = absurd (cc)
same_last (a ∷ []) [] x y same = absurd (cc)
same_last (a ∷ c ∷ xs) [] x y same = absurd (cc)
same_last (a ∷ xs) (b ∷ ys) x y same = same_last xs ys x y (cc)

-- the record of an element below a use is that of the use's cell
pub child_of_use : (names : FullNames) → AreNames names → (element : Element) → In element (elements_in names) → (before : List UseRec) (used : UseRec)
    → element.uses ≡ before ++ used ∷ [] → ext_of names.exts.now used.cell ≡ Some element.ext
child_of_use names are element within before used uses =
    let root = root_of_names names are in
    elim (child_below LONGEST_CHAIN names.exts.now [] root.top element (subst (λ (elements : List Element). In element elements) root.elements within)) [
      | inl top ↦ absurd (some before (sym uses ∙ top.0))
      | inr below ↦ ap (λ (u : UseRec). ext_of names.exts.now u.cell) (same_last before below.before used below.used (sym uses ∙ below.text)) ∙ below.leads
    ]
  where
    some : (xs : List UseRec) → xs ++ used ∷ [] ≡ [] → ⊥
    some [] same = cc
    some (x ∷ xs) same = cc
