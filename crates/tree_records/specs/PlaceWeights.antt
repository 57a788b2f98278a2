-- How places of layouts are weighed, and what the members of groups and whole groups weigh.
use Rattle.std.specs.Prelude.{◌≡◌, ◌⊎◌, ℕ, ℤ, pos, ◌+ℤ◌, ◌-ℤ◌, ◌*ℤ◌, List, [], ◌∷◌}
use Rattle.circuit_model.specs.FiniteSets.Total.{sum_on, Total}
use Rattle.tree_records.specs.TechModel.declared.raw.RawTech.{RawTech}
use Rattle.tree_records.specs.LayoutModel.Layouts.{Layout}
use Rattle.tree_records.specs.LayoutModel.Measures.{area_at, perimeter_at}
use Rattle.tree_records.specs.LayoutModel.Places.{Place}
use Rattle.tree_records.specs.LayoutModel.Technologies.{Class}
use Rattle.circuit_model.specs.ExtModel.Paths.{path_text}
use Rattle.tree_records.specs.FetRecords.{IsOfNode}
use Rattle.tree_records.specs.NamedTrees.{NamedTree, NamedElements, named_elements_in, own_body}
use Rattle.tree_records.specs.NamedTrees.NamedElements.{no_more, element_then}
use Rattle.tree_records.specs.FlatLayouts.{flat_layout}
use Rattle.tree_records.specs.MemberGroups.{IsGroupName}

-- what a place weighs in a layout
abbrev pub PlaceWeight : Type 0
PlaceWeight = Layout → Place → ℤ

-- the weight whose sum is the area in a class
abbrev pub area_weight : Class → PlaceWeight
area_weight class layout place = area_at class.contains layout place

-- the weight whose sum is the perimeter in a class
abbrev pub perimeter_weight : Class → PlaceWeight
perimeter_weight class layout place = perimeter_at class.contains layout place

-- the weight whose sum is the capacitance in attofarads: for each class by area and by perimeter
abbrev pub capacitance_weight : List Class → PlaceWeight
capacitance_weight [] layout place = pos 0
capacitance_weight (class ∷ classes) layout place =
    ((area_weight class layout place *ℤ class.per_area) +ℤ (perimeter_weight class layout place *ℤ class.per_perimeter))
    +ℤ capacitance_weight classes layout place

-- The places of the group of this name weigh this much together, in the flat layout of the cell.
abbrev pub IsGroupTotal : RawTech → PlaceWeight → NamedTree → List ℕ → ℤ → Type 0
IsGroupTotal raw weight tree name total = Total (λ place. IsGroupName raw tree place name) (weight (flat_layout raw tree)) total

-- The places of the member of this name, a group of an element's cell, weigh this much in the flat layout of that cell, in its coordinates.
abbrev pub IsTotalBelow : RawTech → PlaceWeight → NamedElements → List ℕ → ℤ → Type 0
IsTotalBelow raw weight no_more member total = ⊥
IsTotalBelow raw weight (element_then id placed tree rest) member total =
    ((group : List ℕ) × (place : Place) × IsGroupName raw tree place group × (member ≡ path_text (id ∷ []) group)
    × IsGroupTotal raw weight tree group total)
    ⊎ IsTotalBelow raw weight rest member total

-- The places of the member of this name, a node of the cell's own layout, weigh this much in that layout.
pub record IsOwnTotal (raw : RawTech) (weight : PlaceWeight) (tree : NamedTree) (member : List ℕ) (total : ℤ) : Type 0 where
  pub place : Place
  pub of_node : IsOfNode raw (own_body tree).layout (own_body tree).labels member place
  pub sum : Total (IsOfNode raw (own_body tree).layout (own_body tree).labels member) (weight (own_body tree).layout) total

-- The member of this name weighs this much: a node of the own layout there, a group of an element's cell in that cell's flat layout.
abbrev pub IsMemberTotal : RawTech → PlaceWeight → NamedTree → List ℕ → ℤ → Type 0
IsMemberTotal raw weight tree member total =
    IsOwnTotal raw weight tree member total ⊎ IsTotalBelow raw weight (named_elements_in tree) member total

-- The members weigh so much, one after another.
abbrev pub AreMemberTotals : RawTech → PlaceWeight → NamedTree → List (List ℕ) → List ℤ → Type 0
AreMemberTotals raw weight tree [] [] = Unit {0}
AreMemberTotals raw weight tree [] (total ∷ totals) = ⊥
AreMemberTotals raw weight tree (member ∷ members) [] = ⊥
AreMemberTotals raw weight tree (member ∷ members) (total ∷ totals) =
    IsMemberTotal raw weight tree member total × AreMemberTotals raw weight tree members totals

-- What the group weighs in the flat layout of the cell less what its members weigh together, each where it is a member's.
pub record IsAdjustment (raw : RawTech) (weight : PlaceWeight) (tree : NamedTree) (name : List ℕ) (members : List (List ℕ)) (adjustment : ℤ)
    : Type 0 where
  pub whole : ℤ
  pub is_whole : IsGroupTotal raw weight tree name whole
  pub parts : List ℤ
  pub are_parts : AreMemberTotals raw weight tree members parts
  pub is : adjustment ≡ whole -ℤ sum_on (λ part. part) parts
