-- Own types of cells that stand at and below a cell, and the types of the parts in which they stand.
use Rattle.tile_members.proofs.Common.{◌≡◌, ◌≢◌, ◌+◌, ℕ, zero, suc, List, ◌∷◌, map, inl, inr, refl, sym, ap, subst, ◌∙◌, arith, slice_get, IsTrue}
use Rattle.tile_members.proofs.Common.{In, In-append_cases, In-append_left, In-append_right, In-map_source, Transform, identity, RawTech, KeepsRules}
use Rattle.tile_members.proofs.Common.{IsWellFormed, Place, CellTree, Standing, place_back, standings, under, back_on, identity_back}
use Rattle.std.specs.Prelude.{Some}
use Rattle.tech_model.specs.Types.{is_within}
use Rattle.tech_model.proofs.TypeLaws.{within_self}
use Rattle.layout_model.specs.LayerTypes.{HasTypesOf}
use Rattle.layout_model.specs.CellTrees.{Elements, OwnCell, own_types, own_types_below}
use Rattle.layout_model.specs.CellTrees.{standings_from}
use Rattle.layout_model.specs.CellTrees.CellTree.{cell_tree}
use Rattle.layout_model.specs.CellTrees.Elements.{no_elements, element_and}
use Rattle.layout_model.specs.FlatSets.{element_parts, flat_sets, parts_in, sets_in, IsTyped, AreTyped}
use Rattle.group_meetings.specs.Offences.Offences.{SetLayout, joined_at}
use Rattle.group_meetings.specs.HierarchyModel.CleanCells.{IsClean, AreClean}
use Rattle.group_meetings.proofs.HierarchyModel.CleanLaws.{own_within}
use Rattle.group_meetings.proofs.HierarchyModel.KindLaws.{type_in_layout}

-- the own type of a standing cell at a place of the cell above
abbrev pub type_there : Standing → Place → ℕ
type_there standing place = standing.own.layout (place_back standing.placed place)

-- the standing cell that a cell is itself
abbrev pub itself : OwnCell → Standing
itself own = record { part = 0; own = own; placed = identity }

-- one under an element has the type that it has under the element's cell, at the place that is brought back
type_under : (part : ℕ) (placed : Transform) (inner standing : Standing) → under part placed inner ≡ standing → (place : Place)
    → type_there standing place ≡ type_there inner (place_back placed place)
type_under part placed inner standing same place =
    ap (λ (s : Standing). type_there s place) (sym same) ∙ ap inner.own.layout (back_on inner.placed placed place)

-- and the cell itself has its own types
type_of_itself : (own : OwnCell) (standing : Standing) → itself own ≡ standing → (place : Place) → type_there standing place ≡ own.layout place
type_of_itself own standing same place = ap (λ (s : Standing). type_there s place) (sym same) ∙ ap own.layout (identity_back place)

mutual
  -- the type of a standing cell at a place is an own type there
  type_is_own : (tree : CellTree) (standing : Standing) → In standing (standings tree) → (place : Place)
      → In (type_there standing place) (own_types tree place)
  type_is_own (cell_tree own below) standing (inl same) place = inl (sym (type_of_itself own standing same place))
  type_is_own (cell_tree own below) standing (inr listed) place = inr (type_is_below 1 below standing listed place)

  type_is_below : (first : ℕ) (elements : Elements) (standing : Standing) → In standing (standings_from first elements) → (place : Place)
      → In (type_there standing place) (own_types_below elements place)
  type_is_below first no_elements standing none place = absurd none
  type_is_below first (element_and placed tree rest) standing listed place =
      let here = own_types tree (place_back placed place) in
      let later = own_types_below rest place in
      elim (In-append_cases standing (map (under first placed) (standings tree)) (standings_from (suc first) rest) listed) [
        | inl among ↦
            let source = In-map_source (under first placed) standing (standings tree) among in
            let is = type_is_own tree source.0 source.1.0 (place_back placed place) in
            In-append_left (type_there standing place) here later
            (subst (λ (kind : ℕ). In kind here) (sym (type_under first placed source.0 standing source.1.1 place)) is)
        | inr behind ↦ In-append_right (type_there standing place) here later (type_is_below (suc first) rest standing behind place)
      ]

mutual
  -- the own layouts of standing cells have types of the technology alone
  pub standing_typed : (raw : RawTech) (tree : CellTree) → IsTyped raw tree → (standing : Standing) → In standing (standings tree)
      → HasTypesOf raw standing.own.layout
  standing_typed raw (cell_tree own below) typed standing (inl same) =
      subst (λ (s : Standing). HasTypesOf raw s.own.layout) same typed.0
  standing_typed raw (cell_tree own below) typed standing (inr listed) = typed_below raw 1 below typed.1 standing listed

  typed_below : (raw : RawTech) (first : ℕ) (elements : Elements) → AreTyped raw elements → (standing : Standing)
      → In standing (standings_from first elements) → HasTypesOf raw standing.own.layout
  typed_below raw first no_elements typed standing none = absurd none
  typed_below raw first (element_and placed tree rest) typed standing listed =
      elim (In-append_cases standing (map (under first placed) (standings tree)) (standings_from (suc first) rest) listed) [
        | inl among ↦
            let source = In-map_source (under first placed) standing (standings tree) among in
            subst (λ (s : Standing). HasTypesOf raw s.own.layout) source.1.1 (standing_typed raw tree typed.0 source.0 source.1.0)
        | inr behind ↦ typed_below raw (suc first) rest typed.1 standing behind
      ]

-- Wherever the standing cell has an own type other than space, the part at this position has a type that this is within.
pub record HasTypesWithin (raw : RawTech) (parts : List SetLayout) (position : ℕ) (standing : Standing) : Type 0 where
  pub part : SetLayout
  pub there : slice_get parts position ≡ Some part
  pub within : (place : Place) → type_there standing place ≢ 0
      → (flat : ℕ) × (joined_at raw part place ≡ Some flat) × IsTrue (is_within raw (type_there standing place) flat)

-- the same where one part more is put before
later_part : (raw : RawTech) (first : SetLayout) (parts : List SetLayout) (position : ℕ) (standing : Standing)
    → HasTypesWithin raw parts position standing → HasTypesWithin raw (first ∷ parts) (suc position) standing
later_part raw first parts position standing has = record { part = has.part; there = has.there; within = has.within }

-- The standing cell stands in the part at a position, of which the first has this number.
record StandsInPart (raw : RawTech) (first : ℕ) (parts : List SetLayout) (standing : Standing) : Type 0 where
  position : ℕ
  number : standing.part ≡ first + position
  has : HasTypesWithin raw parts position standing

module _ (raw : RawTech) (formed : IsWellFormed raw) (rules : KeepsRules raw) where
  -- what stands under an element has its types within those of the element
  under_element : (first : ℕ) (placed : Transform) (tree : CellTree) (parts : List SetLayout) → IsTyped raw tree → IsClean raw tree
      → (inner standing : Standing) → In inner (standings tree) → under first placed inner ≡ standing
      → StandsInPart raw first ((λ place. flat_sets raw tree (place_back placed place)) ∷ parts) standing
  under_element first placed tree parts typed clean inner standing listed same = record {
    position = zero;
    number = ap (λ (s : Standing). s.part) (sym same) ∙ (omega arith);
    has = record {
      part = λ place. flat_sets raw tree (place_back placed place);
      there = refl;
      within = λ place material.
          let is = type_under first placed inner standing same place in
          let back = place_back placed place in
          elim (own_within raw formed rules tree typed clean back (type_there inner back) (type_is_own tree inner listed back)) [
            | inl space ↦ absurd (material (is ∙ space))
            | inr found ↦ (found.0, found.1, subst (λ (kind : ℕ). IsTrue (is_within raw kind found.0)) (sym is) found.2)
          ];
    };
  }

  -- and so for all elements
  stands_below : (first : ℕ) (elements : Elements) → AreTyped raw elements → AreClean raw elements → (standing : Standing)
      → In standing (standings_from first elements) → StandsInPart raw first (element_parts raw elements) standing
  stands_below first no_elements typed clean standing none = absurd none
  stands_below first (element_and placed tree rest) typed clean standing listed =
      elim (In-append_cases standing (map (under first placed) (standings tree)) (standings_from (suc first) rest) listed) [
        | inl among ↦
            let source = In-map_source (under first placed) standing (standings tree) among in
            under_element first placed tree (element_parts raw rest) typed.0 clean.0 source.0 standing source.1.0 source.1.1
        | inr behind ↦
            let found = stands_below (suc first) rest typed.1 clean.1 standing behind in
            let element = λ (place : Place). flat_sets raw tree (place_back placed place) in
            let number = found.number in
            record {
              position = suc found.position;
              number = omega (arith, number);
              has = later_part raw element (element_parts raw rest) found.position standing found.has;
            }
      ]

  -- the cell itself has its types in its own part
  itself_has : (own : OwnCell) (parts : List SetLayout) → HasTypesOf raw own.layout → (standing : Standing) → itself own ≡ standing
      → HasTypesWithin raw (sets_in raw own.layout ∷ parts) zero standing
  itself_has own parts typed standing same = record {
    part = sets_in raw own.layout;
    there = refl;
    within = λ place material. (
      own.layout place,
      type_in_layout raw formed rules own.layout typed place,
      subst (λ (kind : ℕ). IsTrue (is_within raw kind (own.layout place))) (sym (type_of_itself own standing same place))
          (within_self raw (own.layout place)),
    );
  }

  -- each standing cell of a clean cell has its types within those of its part
  pub standing_within : (tree : CellTree) → IsTyped raw tree → IsClean raw tree → (standing : Standing) → In standing (standings tree)
      → HasTypesWithin raw (parts_in raw tree) standing.part standing
  standing_within (cell_tree own elements) typed clean standing (inl same) =
      subst (λ (part : ℕ). HasTypesWithin raw (parts_in raw (cell_tree own elements)) part standing) (ap (λ (s : Standing). s.part) same)
      (itself_has own (element_parts raw elements) typed.0 standing same)
  standing_within (cell_tree own elements) typed clean standing (inr below) =
      let found = stands_below 1 elements typed.1 clean.0 standing below in
      let number : suc found.position ≡ standing.part = let is = found.number in omega (arith, is) in
      subst (λ (part : ℕ). HasTypesWithin raw (parts_in raw (cell_tree own elements)) part standing) number
      (later_part raw (sets_in raw own.layout) (element_parts raw elements) found.position standing found.has)
