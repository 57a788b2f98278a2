-- Types that lawful rules list.
use Rattle.drc_check.proofs.Common.{◌≡◌, ◌≢◌, ◌<◌, ◌==◌, inl, inr, ℕ, true, List, length, subst, arith, eq-eqb, All, list_any, In, All-In}
use Rattle.drc_check.proofs.Common.{list_any-passes, RawTech, TypeId, Rule, IsLawfulRule, has_plane, IsListedType}
use Rattle.std.specs.Prelude.{IsTrue}
use Rattle.tech_model.specs.Types.{is_type}
use Rattle.tech_model.proofs.TypeLaws.{or_left, or_right}
use Rattle.tech_model.proofs.WellFormedLaws.{type_bounds}
use Rattle.drc_rules.specs.LawfulRules.{AreTypesOn}

type_is_material : (raw : RawTech) (plane : ℕ) (types : List TypeId) (kind : TypeId) → AreTypesOn raw plane types → In kind types → kind.0 ≢ 0
type_is_material raw plane types kind are among space =
    let bounds = type_bounds raw kind.0 (All-In (λ (t : TypeId). IsTrue (is_type raw t.0)) types kind are.are among) in omega (arith, bounds.0, space)

module _ (raw : RawTech) (rules : List Rule) (lawful : All (IsLawfulRule raw) rules) (plane : ℕ) (kind : TypeId) (listed : IsListedType rules plane kind) where
  rule_is : IsLawfulRule raw listed.rule
  rule_is = All-In (IsLawfulRule raw) rules listed.rule lawful listed.among

  -- a type that a rule lists is not space
  pub listed_is_material : kind.0 ≢ 0
  listed_is_material = elim listed.lists [
    | inl first ↦ type_is_material raw listed.rule.first_plane listed.rule.first kind rule_is.first first.1
    | inr second ↦ type_is_material raw listed.rule.second_plane listed.rule.second kind rule_is.second second.1
  ]

  -- its plane is one of the technology
  pub listed_plane : plane < length raw.planes
  listed_plane = elim listed.lists [
    | inl first ↦ subst (λ (p : ℕ). p < length raw.planes) first.0 rule_is.first.below
    | inr second ↦ subst (λ (p : ℕ). p < length raw.planes) second.0 rule_is.second.below
  ]

-- and rules name that plane
pub listed_plane_named : (rules : List Rule) (plane : ℕ) (kind : TypeId) → IsListedType rules plane kind → list_any (has_plane plane) rules ≡ true
listed_plane_named rules plane kind listed =
    list_any-passes (has_plane plane) rules listed.rule listed.among (elim listed.lists [
      | inl first ↦ or_left (listed.rule.first_plane == plane) (listed.rule.second_plane == plane) (eq-eqb listed.rule.first_plane plane first.0)
      | inr second ↦ or_right (listed.rule.first_plane == plane) (listed.rule.second_plane == plane) (eq-eqb listed.rule.second_plane plane second.0)
    ])
