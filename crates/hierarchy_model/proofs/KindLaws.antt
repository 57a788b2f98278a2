-- Types of sets, and the types of channels.
use Rattle.hierarchy_model.proofs.Common.{◌≡◌, ◌≢◌, ◌⊎◌, ℕ, Option, inl, inr, refl, sym, ap, ◌∙◌, Some, None, cases_eq, RawTech, joined, KeepsRules}
use Rattle.hierarchy_model.proofs.Common.{IsWellFormed, Place}
use Rattle.tech_model.specs.Types.{parts_of}
use Rattle.tech_model.proofs.SetLaws.{set_not_empty}
use Rattle.tech_model.proofs.JoinedLaws.{joined-type}
use Rattle.offences.specs.LayoutModel.LayerTypes.{HasTypesOf}
use Rattle.offences.specs.LayoutModel.Layouts.{Layout}

-- a value is defined, or not
pub defined_or_not : (found : Option ℕ) → ((value : ℕ) × (found ≡ Some value)) ⊎ (found ≡ None)
defined_or_not (Some value) = inl (value, refl)
defined_or_not None = inr refl

-- a type other than space has a set that is not empty
pub material_set : (raw : RawTech) (plane set kind : ℕ) → joined raw plane set ≡ Some kind → kind ≢ 0 → set ≢ 0
material_set raw plane set kind is material empty =
    let space : joined raw plane set ≡ Some 0 = ap (joined raw plane) empty in
    let same : kind ≡ 0 = cc in
    material same

-- the type of a set of a layout is the type that stands there
pub type_in_layout : (raw : RawTech) → IsWellFormed raw → KeepsRules raw → (layout : Layout) → HasTypesOf raw layout → (place : Place)
    → joined raw place.plane (parts_of raw (layout place)) ≡ Some (layout place)
type_in_layout raw formed rules layout typed place = elim (cases_eq (layout place) 0) [
  | inl space ↦ ap (λ (kind : ℕ). joined raw place.plane (parts_of raw kind)) space ∙ ap (λ (kind : ℕ). Some kind) (sym space)
  | inr material ↦
      let is = typed place material in
      ap (λ (plane : ℕ). joined raw plane (parts_of raw (layout place))) (sym is.1)
      ∙ joined-type raw (layout place) rules.own_sets is.0 (set_not_empty raw (layout place) formed is.0)
]
