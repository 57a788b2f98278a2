-- The squares of a cell that violate a rule, and the strips of them, rule by rule.
use Rattle.std.specs.Prelude.{◌≡◌, ◌+◌, ℕ, ℤ, List, [], ◌∷◌, ◌++◌, map, Some}
use Rattle.finite_sets.specs.Lists.{In}
use Rattle.geo_core.specs.declared.squares.Square.{Square}
use Rattle.geo_core.specs.declared.squares.Rect.{Rect}
use Rattle.geo_core.specs.Strips.{IsStrips}
use Rattle.tech_model.specs.declared.raw.TypeId.{TypeId}
use Rattle.tech_model.specs.declared.raw.RawTech.{RawTech}
use Rattle.hierarchy_model.specs.Offences.LayoutModel.CellTrees.{CellTree}
use Rattle.hierarchy_model.specs.Offences.LayoutModel.FlatSets.{flat_sets}
use Rattle.hierarchy_model.specs.Offences.Offences.{joined_at}
use Rattle.hierarchy_model.specs.Offences.TypedStacks.{on_plane}
use Rattle.square_sets.specs.Boxes.{IsTooNarrow, IsTooNear, IsTooTight}
use Rattle.drc_rules.specs.declared.rules.Rule.{Rule}
use Rattle.drc_rules.specs.declared.rules.RuleKind.{RuleKind}
use Rattle.drc_rules.specs.declared.rules.RuleKind.TheVariants.{Width, Spacing, Separation}
use Rattle.drc_check.specs.declared.violations.Violation.{Violation}

-- The flat type of the square is defined and is one of these.
abbrev pub IsOfList : RawTech → CellTree → List TypeId → ℕ → Square → Type 0
IsOfList raw tree kinds plane square =
    (kind : TypeId) × (In kind kinds × (joined_at raw (flat_sets raw tree) (on_plane plane square) ≡ Some kind.0))

-- The square violates a rule of this kind and distance, where its lists have these squares. A width or spacing rule has no second list.
abbrev pub ViolatesBy : RuleKind → (Square → Type 0) → (Square → Type 0) → ℤ → Square → Type 0
ViolatesBy Width First Second d square = IsTooNarrow First d square
ViolatesBy Spacing First Second d square = IsTooTight First d square
ViolatesBy Separation First Second d square = IsTooNear First Second d square

-- The square of the first list's plane violates the rule.
abbrev pub Violates : RawTech → CellTree → Rule → Square → Type 0
Violates raw tree rule square =
    ViolatesBy rule.kind (IsOfList raw tree rule.first rule.first_plane) (IsOfList raw tree rule.second rule.second_plane) rule.d square

-- a strip of squares that violate the rule of this number, on the plane
abbrev pub violation_of : ℕ → ℕ → Rect → Violation
violation_of number plane area = record { rule = number; plane = plane; area = area }

-- These are the strips of the sets of squares of these rules, the first of which has this number: rule by rule, and of each in order.
abbrev pub AreRuleStripsFrom : (Rule → Square → Type 0) → ℕ → List Rule → List Violation → Type 0
AreRuleStripsFrom Set number [] found = found ≡ []
AreRuleStripsFrom Set number (rule ∷ rules) found =
    (strips : List Rect) × (rest : List Violation) × (found ≡ map (violation_of number rule.first_plane) strips ++ rest)
    × IsStrips (Set rule) strips
    × AreRuleStripsFrom Set (number + 1) rules rest

-- These are the strips of what violates the rules, which are numbered from 1.
abbrev pub AreViolations : RawTech → CellTree → List Rule → List Violation → Type 0
AreViolations raw tree rules found = AreRuleStripsFrom (Violates raw tree) 1 rules found

-- The violations of rules in a cell are one list.
abbrev pub ViolationsAreUnique : Type 0
ViolationsAreUnique =
    (raw : RawTech) (tree : CellTree) (rules : List Rule) (found others : List Violation) → AreViolations raw tree rules found
    → AreViolations raw tree rules others → found ≡ others
