-- The transistors of the cells as they stand, between flat nodes.
use Rattle.tree_circuits.proofs.Common.{◌≡◌, ℕ, ℤ, List, refl, sym, subst, IsTrue, Some, slice_get, RawTech, is_channel, IsWellFormed, Place}
use Rattle.tree_circuits.proofs.Common.{AreOneChannel, IsTransistor, IsOfNode, IsOfFlatNode, flat_layout, NamedTree, NamedStanding, named_standings}
use Rattle.tree_circuits.proofs.Common.{OwnsItsChannels, AreRenamed, GivesFlatNames, HasTransistorAbove}
use Rattle.tree_names.proofs.OwnRecordLaws.PreferredNames.{one_name}
use Rattle.tree_circuits.proofs.NodesOfChannels.{name_along, one_flat_name}
use Rattle.tree_circuits.proofs.RenamedTerminals.{Fet, above, above_is, gate_length_above, places_above}
use Rattle.tree_circuits.proofs.SameChannels.{one_type}

-- a transistor of a cell as it stands is one of the flat layout
pub flat_transistor : (raw : RawTech) (tree : NamedTree) → IsWellFormed raw → OwnsItsChannels raw tree
    → (position : ℕ) (standing : NamedStanding)
    → slice_get (named_standings tree) position ≡ Some standing → (rename : List ℕ → List ℕ) → GivesFlatNames raw tree standing rename
    → (fet : Fet) → IsTransistor raw standing.own.layout (IsOfNode raw standing.own.layout standing.own.labels) fet
    → (renamed : List (List ℕ × ℤ)) → AreRenamed rename fet.terminals renamed → HasTransistorAbove raw tree standing rename fet renamed
flat_transistor raw tree formed owns position standing there rename gives fet is renamed are =
    let own = standing.own.layout in
    let labels = standing.own.labels in
    let placed = standing.placed in
    let flat = flat_layout raw tree in
    let Owns : List ℕ → Place → Type 0 = IsOfNode raw own labels in
    let Has : List ℕ → Place → Type 0 = IsOfFlatNode raw tree in
    let kept = owns.kept position standing there in
    let own_apart = one_name raw own labels in
    let flat_apart = one_flat_name raw tree in
    let channel : IsTrue (is_channel raw (own fet.least)) = subst (λ (kind : ℕ). IsTrue (is_channel raw kind)) (sym is.kind) is.listed in
    let along : (place : Place) → AreOneChannel own fet.least place → Owns fet.gate place = λ place chain.
    name_along raw formed own labels fet.gate fet.least place
    (subst (λ (kind : ℕ). IsTrue (is_channel raw kind)) (one_type own fet.least place chain) channel) channel chain is.gate in
    record {
      above = above raw own placed flat kept Owns Has rename gives own_apart flat_apart fet is along renamed are;
      is = above_is raw own placed flat kept Owns Has rename gives own_apart flat_apart fet is along renamed are;
      places = places_above raw own placed flat kept Owns Has rename gives own_apart flat_apart fet is along renamed are;
      kind = refl;
      area = refl;
      perimeter = refl;
      gate = refl;
      gate_length = gate_length_above raw own placed flat kept Owns Has rename gives own_apart flat_apart fet is along renamed are;
      terminals_are = refl;
    }
