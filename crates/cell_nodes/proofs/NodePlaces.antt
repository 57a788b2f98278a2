-- The places of a node have material, and a node has a name.
use Rattle.cell_nodes.proofs.Common.{ℕ, List, [], inl, inr, refl, subst, In, Lists, Label, RawTech, connects, IsWellFormed, Place, Layout}
use Rattle.cell_nodes.proofs.Common.{IsMaterial, AreOneNamedNode}
use Rattle.std.proofs.Common.{◌≢◌, ◌⊎◌}
use Rattle.tech_model.proofs.FiniteSets.Chains.{Chain-back, Chain-carries}
use Rattle.tech_model.proofs.TypeLaws.{connects_back}
use Rattle.layout_model.specs.Links.{AreLinked}
use Rattle.layout_model.proofs.NodeLaws.{AreLinked-sym}
use Rattle.names.specs.Attachments.{HasText}
use Rattle.names.proofs.AttachLaws.{suits_material}
use Rattle.names.specs.GeneratedNames.{generated_name}
use Rattle.names.specs.NamedNodes.{ShareGlobal, IsNameOf}

-- the places of a node are joined both ways
pub AreOneNamedNode-sym : (raw : RawTech) (layout : Layout) (labels : List Label) {a b : Place} → AreOneNamedNode raw layout labels a b
    → AreOneNamedNode raw layout labels b a
AreOneNamedNode-sym raw layout labels chain = Chain-back turned chain
  where
    turned : (a b : Place) → AreLinked (connects raw) layout a b ⊎ ShareGlobal raw layout labels a b
        → AreLinked (connects raw) layout b a ⊎ ShareGlobal raw layout labels b a
    turned a b (inl link) = inl (AreLinked-sym (connects raw) layout (connects_back raw) a b link)
    turned a b (inr share) = inr (record { text = share.text; global = share.global; here = share.there; there = share.here })

-- a place with a text has material
text_material : (raw : RawTech) (layout : Layout) (labels : List Label) (text : List ℕ) (place : Place) → IsWellFormed raw
    → HasText raw layout labels text place → IsMaterial layout place
text_material raw layout labels text place well has = suits_material raw layout _ place well has.names.attaches.least.0

-- a place that is of the node of a place with material has material
pub material_along : (raw : RawTech) (layout : Layout) (labels : List Label) {a b : Place} → IsWellFormed raw → AreOneNamedNode raw layout labels a b
    → IsMaterial layout a → IsMaterial layout b
material_along raw layout labels well chain material = Chain-carries (IsMaterial layout) step chain material
  where
    step : (a b : Place) → AreLinked (connects raw) layout a b ⊎ ShareGlobal raw layout labels a b → IsMaterial layout a → IsMaterial layout b
    step a b (inl link) here = link.there
    step a b (inr share) here = text_material raw layout labels share.text b well share.there

-- a node has a name
pub node_is_named : (raw : RawTech) (layout : Layout) (labels : List Label) (least : Place) (names : List (List ℕ))
    → Lists (IsNameOf raw layout labels least) names → names ≢ []
node_is_named raw layout labels least names lists none =
    let no_name : (name : List ℕ) → IsNameOf raw layout labels least name → ⊥ = λ name is. subst (λ (v : List (List ℕ)). In name v) none (lists.1 name is) in
    no_name (generated_name raw (layout least) least.square) (inr ((λ text inside. no_name text (inl inside)), refl))
