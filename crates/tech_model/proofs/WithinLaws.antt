-- Being within is an order, space stands alone in it, and what one layer's types and transistors keep.
use Rattle.tech_model.proofs.Common.{◌≡◌, ◌≢◌, ◌≤◌, ℕ, false, List, [], ◌∷◌, map, sym, ap, subst, ◌∙◌, arith, inl, inr, IsTrue, All, true≢false, In}
use Rattle.tech_model.proofs.Common.{In-map, All-In, TypeId, FetRule, RawTech, is_type, plane_of, layer_of, parts_of, images_of, IsWellFormed, IsFet}
use Rattle.geo_core.specs.FiniteSets.Lists.{Distinct}
use Rattle.geo_core.proofs.FiniteSets.Images.{one_from_Distinct}
use Rattle.tech_model.specs.Types.{connects, is_within}
use Rattle.tech_model.specs.Rules.{IsMonotone, KeepsRules}
use Rattle.tech_model.proofs.WellFormedLaws.{type_bounds, layer_well_formed}
use Rattle.tech_model.proofs.TypeLaws.{connects_types, connects_self, within_self, within_part, within_cases}
use Rattle.tech_model.proofs.SetLaws.{proper_trans, proper_one_way}

-- what is within what is within a type is within that type
pub within_trans : (raw : RawTech) → IsMonotone raw → (s t u : ℕ) → IsTrue (is_within raw s t) → IsTrue (is_within raw t u) → IsTrue (is_within raw s u)
within_trans raw law s t u st tu = elim (within_cases raw s t st) [
  | inl same ↦ subst (λ (n : ℕ). IsTrue (is_within raw n u)) (sym same) tu
  | inr first ↦ elim (within_cases raw t u tu) [
    | inl same ↦ subst (λ (n : ℕ). IsTrue (is_within raw s n)) same st
    | inr second ↦
        within_part raw s u (proper_trans (parts_of raw s) (parts_of raw t) (parts_of raw u) first.0 second.0)
        (law s t s u (within_self raw s) tu first.1)
  ]
]

-- two types that are within each other are one
pub within_antisym : (raw : RawTech) (s t : ℕ) → IsTrue (is_within raw s t) → IsTrue (is_within raw t s) → s ≡ t
within_antisym raw s t st ts = elim (within_cases raw s t st) [
  | inl same ↦ same
  | inr first ↦ elim (within_cases raw t s ts) [
    | inl same ↦ sym same
    | inr second ↦ absurd (proper_one_way (parts_of raw s) (parts_of raw t) first.0 second.0)
  ]
]

space_no_type : (raw : RawTech) → IsTrue (is_type raw 0) → ⊥
space_no_type raw is = let low : ◌≤◌ 1 0 = (type_bounds raw 0 is).0 in omega arith

-- space is within space alone
pub space_within : (raw : RawTech) (t : ℕ) → IsTrue (is_within raw 0 t) → t ≡ 0
space_within raw t is = elim (within_cases raw 0 t is) [
  | inl same ↦ sym same
  | inr part ↦ absurd (space_no_type raw (connects_types raw 0 t part.1).0)
]

-- nothing but space is within space
pub within_space : (raw : RawTech) (t : ℕ) → IsTrue (is_within raw t 0) → t ≡ 0
within_space raw t is = elim (within_cases raw t 0 is) [
  | inl same ↦ same
  | inr part ↦ absurd (space_no_type raw (connects_types raw t 0 part.1).1)
]

-- a transistor's type connects to itself, and to no terminal of its own
pub fet_no_terminal : (raw : RawTech) → IsWellFormed raw → KeepsRules raw → (fet : FetRule) (t : TypeId) → In fet raw.fets → In t fet.terminals → t ≢ fet.kind
fet_no_terminal raw w rules fet t fet_in t_in same =
    let apart = All-In (λ (t : TypeId). connects raw fet.kind.0 t.0 ≡ false) fet.terminals t
    (All-In (λ (fet : FetRule). All (λ (t : TypeId). connects raw fet.kind.0 t.0 ≡ false) fet.terminals) raw.fets fet rules.fets_apart fet_in) t_in in
    let is = (All-In (IsFet raw) raw.fets fet w.fets fet_in).kind in
    true≢false (sym (connects_self raw fet.kind.0 is) ∙ ap (λ (k : TypeId). connects raw fet.kind.0 k.0) (sym same) ∙ apart)

-- a layer has one image on a plane
pub one_image : (raw : RawTech) (s t : ℕ) → IsWellFormed raw → IsTrue (is_type raw s) → IsTrue (is_type raw t) → layer_of raw s ≡ layer_of raw t
    → plane_of raw s ≡ plane_of raw t → s ≡ t
one_image raw s t w s_is t_is layers planes =
    let layer = layer_of raw t in
    let distinct = (layer_well_formed raw layer w (w.type_layers t t_is)).planes in
    let s_in : In (record { 0 = s }) (images_of raw layer) = subst (λ (l : ℕ). In (record { 0 = s }) (images_of raw l)) layers (w.is_image s s_is) in
    ap (λ (image : TypeId). image.0) (one_from_Distinct (λ (image : TypeId). plane_of raw image.0) (images_of raw layer) (record { 0 = s }) (record { 0 = t })
    distinct s_in (w.is_image t t_is) planes)
