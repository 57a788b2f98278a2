-- Laws of technologies, as statements.
use Rattle.std.specs.Prelude.{◌≡◌, ◌≢◌, ◌⊎◌, ◌↔◌, ◌<◌, ◌^◌, ℕ, IsTrue, List, length, Some, None}
use Rattle.geo_core.specs.FiniteSets.Lists.{In}
use Rattle.tech_model.specs.declared.raw.TypeId.{TypeId}
use Rattle.tech_model.specs.declared.raw.FetRule.{FetRule}
use Rattle.tech_model.specs.declared.raw.RawTech.{RawTech}
use Rattle.tech_model.specs.Types.{is_type, plane_of, layer_of, parts_of, images_of, joined, connects, is_within, without}
use Rattle.tech_model.specs.WellFormed.{IsWellFormed, IsContact, IsMarked}
use Rattle.tech_model.specs.Rules.{IsMonotone, KeepsRules, rule_fault}
use Rattle.tech_model.specs.Columns.{type_on, mark_of, brushed_column}
use Rattle.tech_model.specs.declared.columns.Brush.{Brush}
use Rattle.tech_model.specs.ColumnForms.{IsColumn, HasWholeContacts}

-- Exactly where no rule is broken, the rules are kept.
abbrev pub RulesAreExact : Type 0
RulesAreExact = (raw : RawTech) → (rule_fault raw ≡ None) ↔ KeepsRules raw

abbrev pub ConnectsBothWays : Type 0
ConnectsBothWays = (raw : RawTech) (s t : ℕ) → connects raw s t ≡ connects raw t s

-- Types alone connect, and each to itself.
abbrev pub ConnectsTypes : Type 0
ConnectsTypes =
    (raw : RawTech)
    → ((s t : ℕ) → IsTrue (connects raw s t) → IsTrue (is_type raw s) × IsTrue (is_type raw t))
    × ((s : ℕ) → IsTrue (is_type raw s) → IsTrue (connects raw s s))

-- Being within is an order.
abbrev pub WithinIsAnOrder : Type 0
WithinIsAnOrder =
    (raw : RawTech) → IsMonotone raw
    → ((s : ℕ) → IsTrue (is_within raw s s))
    × ((s t u : ℕ) → IsTrue (is_within raw s t) → IsTrue (is_within raw t u) → IsTrue (is_within raw s u))
    × ((s t : ℕ) → IsTrue (is_within raw s t) → IsTrue (is_within raw t s) → s ≡ t)

-- Space is within space alone, and nothing else is within space.
abbrev pub SpaceIsAlone : Type 0
SpaceIsAlone = (raw : RawTech) (t : ℕ) → (IsTrue (is_within raw 0 t) → t ≡ 0) × (IsTrue (is_within raw t 0) → t ≡ 0)

-- A type is the one with its set on its plane, which is not empty.
abbrev pub SetsNameTypes : Type 0
SetsNameTypes =
    (raw : RawTech) → IsWellFormed raw → KeepsRules raw → (t : ℕ) → IsTrue (is_type raw t)
    → (parts_of raw t ≢ 0) × (joined raw (plane_of raw t) (parts_of raw t) ≡ Some t)

-- The type with a set has it, and stands on the plane or is space.
abbrev pub JoinedHasSet : Type 0
JoinedHasSet =
    (raw : RawTech) (plane set t : ℕ) → joined raw plane set ≡ Some t
    → (parts_of raw t ≡ set) × ((t ≡ 0) ⊎ (IsTrue (is_type raw t) × (plane_of raw t ≡ plane)))

-- No transistor's type is one of its own terminals.
abbrev pub FetsAreNoTerminals : Type 0
FetsAreNoTerminals =
    (raw : RawTech) → IsWellFormed raw → KeepsRules raw → (fet : FetRule) (t : TypeId) → In fet raw.fets → In t fet.terminals → t ≢ fet.kind

-- Two types of one layer connect, and on one plane they are one type.
abbrev pub LayersAreLinked : Type 0
LayersAreLinked =
    (raw : RawTech) → IsWellFormed raw → (s t : ℕ) → IsTrue (is_type raw s) → IsTrue (is_type raw t) → layer_of raw s ≡ layer_of raw t
    → IsTrue (connects raw s t) × (plane_of raw s ≡ plane_of raw t → s ≡ t)

-- What the images of a contact have in common is its mark's bit alone, and without it a set is that of its residue.
abbrev pub MarksAreBits : Type 0
MarksAreBits =
    (raw : RawTech) → IsWellFormed raw → (layer : ℕ) → layer < length raw.layers → 1 < length (images_of raw layer) → (contact : IsContact raw layer)
    → (mark_of raw (images_of raw layer) ≡ 2 ^ contact.bit)
    × ((t : ℕ) (image : IsMarked raw contact.bit t) → without (parts_of raw t) (mark_of raw (images_of raw layer)) ≡ parts_of raw image.residue)

-- Paint and erasing leave columns in which each contact stands whole.
abbrev pub ColumnsStayWhole : Type 0
ColumnsStayWhole =
    (raw : RawTech) → IsWellFormed raw → (brush : Brush) (layer : ℕ) (column : List TypeId) → layer < length raw.layers → IsColumn raw column
    → IsColumn raw (brushed_column raw brush layer column) × HasWholeContacts raw (brushed_column raw brush layer column)

-- What paint and erasing leave on a plane depends on that plane alone, where contacts stand whole.
abbrev pub ColumnsAreLocal : Type 0
ColumnsAreLocal =
    (raw : RawTech) → IsWellFormed raw → (brush : Brush) (layer plane : ℕ) (a b : List TypeId) → layer < length raw.layers → length a ≡ length b
    → IsColumn raw a → IsColumn raw b → HasWholeContacts raw a → HasWholeContacts raw b → type_on a plane ≡ type_on b plane
    → type_on (brushed_column raw brush layer a) plane ≡ type_on (brushed_column raw brush layer b) plane
