-- Parts of which each has a type everywhere, and planes on which no part stands.
use Rattle.hier_merge.proofs.Common.{◌≡◌, ◌≤◌, ◌<◌, ℕ, zero, suc, bit_or, List, length, inl, inr, refl, sym, ap, ◌∙◌, arith, Some, None, slice_get}
use Rattle.hier_merge.proofs.Common.{cases_eq, slice_get_within, slice_get-get_or, Square, RawTech, joined, parts_of, KeepsRules, IsWellFormed}
use Rattle.hier_merge.proofs.Common.{Layout, HasTypesOf, Place, CellTree, Elements, cell_tree, no_elements, element_and, parts_in, AreTyped, IsTyped}
use Rattle.hier_merge.proofs.Common.{HaveTypes, SetLayout, joined_at, AreClean, IsCleanBelow, IsRestriction}
use Rattle.cell_library.specs.LayoutModel.CellTrees.{place_back}
use Rattle.cell_library.specs.LayoutModel.FlatSets.{element_parts, flat_sets, sets_below, sets_in}
use Rattle.meeting_laws.proofs.Offences.SpoiledLaws.{some_is_not_none}
use Rattle.meeting_laws.proofs.HierarchyModel.CleanLaws.{has_flat_type}
use Rattle.meeting_laws.proofs.HierarchyModel.KindLaws.{type_in_layout}
use Rattle.meeting_laws.proofs.HierarchyModel.PartSearch.{type_of_empty, NoneStands}

-- ---- types

elements_have_types : (raw : RawTech) (elements : Elements) → AreClean raw elements → HaveTypes raw (element_parts raw elements)
elements_have_types raw no_elements clean position part there place none = absurd (cc)
elements_have_types raw (element_and placed tree rest) clean zero part there place none =
    let same : (λ p. flat_sets raw tree (place_back placed p)) ≡ part = cc in
    has_flat_type raw tree clean.0 (place_back placed place) (ap (λ (p : SetLayout). joined_at raw p place) same ∙ none)
elements_have_types raw (element_and placed tree rest) clean (suc position) part there place none =
    elements_have_types raw rest clean.1 position part there place none

-- each part of a cell has a type everywhere, where all cells below it are clean
pub parts_have_types : (raw : RawTech) → IsWellFormed raw → KeepsRules raw → (tree : CellTree) → IsTyped raw tree → IsCleanBelow raw tree
    → HaveTypes raw (parts_in raw tree)
parts_have_types raw formed rules (cell_tree own _) typed clean zero part there place none =
    let same : sets_in raw own.layout ≡ part = cc in
    some_is_not_none (joined_at raw (sets_in raw own.layout) place) (own.layout place) (type_in_layout raw formed rules own.layout typed.0 place)
    (ap (λ (p : SetLayout). joined_at raw p place) same ∙ none)
parts_have_types raw formed rules (cell_tree own elements) typed clean (suc position) part there place none =
    elements_have_types raw elements clean position part there place none

-- where nothing is, the type is space
pub space_is_defined : (raw : RawTech) (part : SetLayout) (place : Place) → part place ≡ 0 → joined_at raw part place ≡ None → ⊥
space_is_defined raw part place empty none = some_is_not_none (joined_at raw part place) 0 (type_of_empty raw part place empty) none

-- so has each part of a restriction
pub restriction_has_types : (raw : RawTech) (Within : Square → Type 0) (parts others : List SetLayout) → HaveTypes raw parts
    → IsRestriction Within parts others → HaveTypes raw others
restriction_has_types raw Within parts others types restricted position other also place none = elim (restricted.decided place.square) [
  | inr outside ↦ space_is_defined raw other place (restricted.outside position other also place outside) none
  | inl within ↦
      let below : position < length others = slice_get_within others position other also in
      let there = slice_get-get_or parts position other (omega (arith, restricted.count)) in
      types position _ there place
      (sym (ap (joined raw place.plane) (restricted.inside position _ other there also place within)) ∙ none)
]

-- ---- planes past the last

-- past the last plane an own layout has nothing
own_past : (raw : RawTech) → IsWellFormed raw → (layout : Layout) → HasTypesOf raw layout → (place : Place) → length raw.planes ≤ place.plane
    → sets_in raw layout place ≡ 0
own_past raw formed layout typed place past = elim (cases_eq (layout place) 0) [
  | inl space ↦ ap (parts_of raw) space
  | inr material ↦
      let is = typed place material in
      absurd (omega (arith, past, is.1, formed.type_planes (layout place) is.0))
]

mutual
  -- nor has what stands at and below a cell
  flat_past : (raw : RawTech) → IsWellFormed raw → (tree : CellTree) → IsTyped raw tree → (place : Place) → length raw.planes ≤ place.plane
      → flat_sets raw tree place ≡ 0
  flat_past raw formed (cell_tree own elements) typed place past =
      ap (λ (set : ℕ). bit_or set (sets_below raw elements place)) (own_past raw formed own.layout typed.0 place past)
      ∙ ap (bit_or 0) (below_past raw formed elements typed.1 place past)

  below_past : (raw : RawTech) → IsWellFormed raw → (elements : Elements) → AreTyped raw elements → (place : Place) → length raw.planes ≤ place.plane
      → sets_below raw elements place ≡ 0
  below_past raw formed no_elements typed place past = refl
  below_past raw formed (element_and placed tree rest) typed place past =
      ap (λ (set : ℕ). bit_or set (sets_below raw rest place)) (flat_past raw formed tree typed.0 (place_back placed place) past)
      ∙ ap (bit_or 0) (below_past raw formed rest typed.1 place past)

elements_past : (raw : RawTech) → IsWellFormed raw → (elements : Elements) → AreTyped raw elements → (place : Place) → length raw.planes ≤ place.plane
    → (position : ℕ) (part : SetLayout) → slice_get (element_parts raw elements) position ≡ Some part → part place ≡ 0
elements_past raw formed no_elements typed place past position part there = absurd (cc)
elements_past raw formed (element_and placed tree rest) typed place past zero part there =
    let same : (λ p. flat_sets raw tree (place_back placed p)) ≡ part = cc in
    ap (λ (p : SetLayout). p place) (sym same) ∙ flat_past raw formed tree typed.0 (place_back placed place) past
elements_past raw formed (element_and placed tree rest) typed place past (suc position) part there =
    elements_past raw formed rest typed.1 place past position part there

pub part_past : (raw : RawTech) → IsWellFormed raw → (tree : CellTree) → IsTyped raw tree → (place : Place) → length raw.planes ≤ place.plane
    → (position : ℕ) (part : SetLayout) → slice_get (parts_in raw tree) position ≡ Some part → part place ≡ 0
part_past raw formed (cell_tree own _) typed place past zero part there =
    let same : sets_in raw own.layout ≡ part = cc in
    ap (λ (p : SetLayout). p place) (sym same) ∙ own_past raw formed own.layout typed.0 place past
part_past raw formed (cell_tree own elements) typed place past (suc position) part there =
    elements_past raw formed elements typed.1 place past position part there

-- past the last plane no part of a cell stands
pub none_past : (raw : RawTech) → IsWellFormed raw → (tree : CellTree) → IsTyped raw tree → (place : Place) → length raw.planes ≤ place.plane
    → NoneStands (parts_in raw tree) place
none_past raw formed tree typed place past position stands =
    stands.material (part_past raw formed tree typed place past position stands.part stands.there)
