-- Power and ground: the states in which a network begins, and that a fresh network has no other form.
use Rattle.vector_runs.proofs.Common.{◌≡◌, ℕ, ◌<◌, List, [], ◌∷◌, Bool, true, false, inl, inr, refl, sym, ap, subst, ◌∙◌, arith, length, replicate}
use Rattle.vector_runs.proofs.Common.{cases_Bool, cases_eq, false≢true, bytes_eq-Decides, bytes_eq, length-set, same_lists, get_or_default, ◌↔◌}
use Rattle.vector_runs.proofs.Common.{Some, None, codes, Level, Net, network_of, sound_of, HasName, NameNodesBelow, NameOneNodeEach, Network}
use Rattle.vector_runs.proofs.Common.{IsSound, is_input, state_of, AreStarts}
use Rattle.std.proofs.lemmas.List.{get_or-set_same, get_or-set_other}
use Rattle.std.proofs.lemmas.List.{length-replicate, get_or-replicate}
use Rattle.std.specs.Prelude.{◌⊎◌, Option}
use Rattle.switch_net.specs.declared.switches.Level.TheVariants.{Zero, One, X}
use Rattle.switch_net.specs.declared.switches.Switch.{Switch}
use Rattle.vector_files.specs.LineForms.{is_rail, node_named}
use Rattle.vector_files.specs.NodeLookup.{ground_name, is_either_node, power_name}
use Rattle.vector_files.proofs.Rails.{rail_found}
use Rattle.vector_runs.specs.declared.rails.Rails.{Rails}
use Rattle.vector_runs.specs.RailNodes.{AreBelow, AreRails, with_state}
use Rattle.vector_runs.specs.Runs.{IsFresh}
use Rattle.vector_runs.proofs.Starts.{pairs_eq}

-- whether a node is the one that there may be
cases_node : (rail : Option ℕ) (v : ℕ) → (rail ≡ Some v) ⊎ ¬ (rail ≡ Some v)
cases_node None v = inr (λ e. cc)
cases_node (Some w) v = elim (cases_eq w v) [ inl e ↦ inl (ap Some e) | inr ne ↦ inr (λ e. let same : w ≡ v = cc in ne same) ]

-- whether power and ground are one
cases_rails : (power ground : Option ℕ) → (power ≡ ground) ⊎ ¬ (power ≡ ground)
cases_rails None None = inl refl
cases_rails (Some v) None = inr (λ e. cc)
cases_rails power (Some v) = cases_node power v

-- the states are as many as before
with_state_length : (s : List Level) (rail : Option ℕ) (x : Level) → length (with_state s rail x) ≡ length s
with_state_length s None x = refl
with_state_length s (Some v) x = length-set s v x

-- the node has the state that it is given
state_there : (s : List Level) (rail : Option ℕ) (x : Level) (v : ℕ) → rail ≡ Some v → v < length s → state_of (with_state s rail x) v ≡ x
state_there s None x v is below = absurd (cc)
state_there s (Some w) x v is below =
    let same : w ≡ v = cc in
    subst (λ (w : ℕ). state_of (with_state s (Some w) x) v ≡ x) (sym same) (get_or-set_same s v x X below)

-- and other nodes keep theirs
state_elsewhere : (s : List Level) (rail : Option ℕ) (x : Level) (v : ℕ) → ¬ (rail ≡ Some v) →
    state_of (with_state s rail x) v ≡ state_of s v
state_elsewhere s None x v other = refl
state_elsewhere s (Some w) x v other = get_or-set_other s w v x X (λ (e : v ≡ w). other (ap Some (sym e)))

module _ (net : Network) (names : List (List ℕ × ℕ)) (rails : Rails) (are : AreRails names rails) where
  -- where power and ground are one node, or neither is there, the network begins in X
  starts_unknown : (s : List Level) → length s ≡ net.nodes → ((v : ℕ) → v < net.nodes → state_of s v ≡ X) →
      rails.power ≡ rails.ground → AreStarts net names s
  starts_unknown s len unknown same = record {
    one_state = len;
    each = λ v below. record {
      power = λ power no_ground. absurd (no_ground ((are.ground v).0 (sym same ∙ (are.power v).1 power)));
      ground = λ ground no_power. absurd (no_power ((are.power v).0 (same ∙ (are.ground v).1 ground)));
      both = λ power ground. unknown v below;
      neither = λ no_power no_ground. unknown v below;
    };
  }

  -- where they differ, power begins in one and ground in zero
  starts_apart : (s : List Level) → length s ≡ net.nodes → ((v : ℕ) → v < net.nodes → state_of s v ≡ X) →
      ¬ (rails.power ≡ rails.ground) → AreStarts net names (with_state (with_state s rails.power One) rails.ground Zero)
  starts_apart s len unknown apart =
      let first = with_state s rails.power One in
      let first_length : length first ≡ net.nodes = with_state_length s rails.power One ∙ len in
      record {
        one_state = with_state_length first rails.ground Zero ∙ first_length;
        each = λ v below.
            let in_s : v < length s = omega (arith, len, below) in
            let in_first : v < length first = omega (arith, first_length, below) in
            record {
              power = λ power no_ground. state_elsewhere first rails.ground Zero v (λ e. no_ground ((are.ground v).0 e))
                  ∙ state_there s rails.power One v ((are.power v).1 power) in_s;
              ground = λ ground no_power. state_there first rails.ground Zero v ((are.ground v).1 ground) in_first;
              both = λ power ground. absurd (apart ((are.power v).1 power ∙ sym ((are.ground v).1 ground)));
              neither = λ no_power no_ground. state_elsewhere first rails.ground Zero v (λ e. no_ground ((are.ground v).0 e))
                  ∙ state_elsewhere s rails.power One v (λ e. no_power ((are.power v).0 e)) ∙ unknown v below;
            };
      }

  -- so the network begins in the states that were set
  pub starts_as_set : (s set : List Level) → s ≡ replicate net.nodes X → (rails.power ≡ rails.ground → set ≡ s) →
      (¬ (rails.power ≡ rails.ground) → set ≡ with_state (with_state s rails.power One) rails.ground Zero) → AreStarts net names set
  starts_as_set s set made same apart =
      let len : length s ≡ net.nodes = ap length made ∙ length-replicate net.nodes X in
      let unknown : (v : ℕ) → v < net.nodes → state_of s v ≡ X =
      λ v below. ap (λ (s : List Level). state_of s v) made ∙ get_or-replicate net.nodes v X X below in
      elim (cases_rails rails.power rails.ground) [
        | inl e ↦ subst (AreStarts net names) (sym (same e)) (starts_unknown s len unknown e)
        | inr ne ↦ subst (AreStarts net names) (sym (apart ne)) (starts_apart s len unknown ne)
      ]

-- the nodes that were found are those of power and ground
pub rails_named : (names read : List (List ℕ × ℕ)) (rails : Rails) → read ≡ names →
    ((v : ℕ) → (rails.power ≡ Some v) ↔ HasName read v (codes "Vdd!")) →
    ((v : ℕ) → (rails.ground ≡ Some v) ↔ HasName read v (codes "GND!")) → AreRails names rails
rails_named names read rails same power ground = record {
  power = λ v. subst (λ (read : List (List ℕ × ℕ)). (rails.power ≡ Some v) ↔ HasName read v (codes "Vdd!")) same (power v);
  ground = λ v. subst (λ (read : List (List ℕ × ℕ)). (rails.ground ≡ Some v) ↔ HasName read v (codes "GND!")) same (ground v);
}

-- and they are nodes of the network
pub rails_below : (nodes : ℕ) (names read : List (List ℕ × ℕ)) (rails : Rails) → NameNodesBelow nodes names → read ≡ names →
    ((v : ℕ) → (rails.power ≡ Some v) ↔ HasName read v (codes "Vdd!")) →
    ((v : ℕ) → (rails.ground ≡ Some v) ↔ HasName read v (codes "GND!")) → AreBelow nodes rails
rails_below nodes names read rails within same power ground =
    let are = rails_named names read rails same power ground in
    record {
      power = λ v is. within (codes "Vdd!") v ((are.power v).0 is);
      ground = λ v is. within (codes "GND!") v ((are.ground v).0 is);
    }

-- the node of a name stands beside it
pub name_stands : (names : List (List ℕ × ℕ)) (name : List ℕ) (v : ℕ) → node_named names name ≡ Some v → HasName names v name
name_stands [] name v is = absurd (cc)
name_stands (named ∷ names) name v is = elim (cases_Bool (bytes_eq named.0 name)) [
  | inl same ↦
      let found : Some named.1 ≡ Some v = rw same at is in
      let node : named.1 ≡ v = cc in
      inl (pairs_eq ((bytes_eq-Decides named.0 name).0 same) node)
  | inr other ↦ inr (name_stands names name v (rw other at is))
]

-- a name that has a node is found
name_found : (names : List (List ℕ × ℕ)) (name : List ℕ) (v : ℕ) → HasName names v name → ¬ (node_named names name ≡ None)
name_found [] name v stands none = absurd stands
name_found (named ∷ names) name v stands none = elim (cases_Bool (bytes_eq named.0 name)) [
  | inl same ↦ (let found : Some named.1 ≡ None = rw same at none in absurd (cc))
  | inr other ↦ elim stands [
    | inl e ↦ false≢true (sym other ∙ (bytes_eq-Decides named.0 name).1 (ap (λ (p : List ℕ × ℕ). p.0) e))
    | inr later ↦ name_found names name v later (rw other at none)
  ]
]

-- the node that a name has is the first that is found
same_node : (names : List (List ℕ × ℕ)) (name : List ℕ) (rail found : Option ℕ) → node_named names name ≡ found →
    ((v : ℕ) → (rail ≡ Some v) ↔ HasName names v name) → found ≡ rail
same_node names name rail (Some v) is has = sym ((has v).1 (name_stands names name v is))
same_node names name None None is has = refl
same_node names name (Some v) None is has = absurd (name_found names name v ((has v).0 refl) is)

-- and so it is known which nodes are power or ground
pub rails_known : (names : List (List ℕ × ℕ)) → NameOneNodeEach names → (rails : Rails) → AreRails names rails → (v : ℕ)
    → is_rail names v ≡ is_either_node rails.power rails.ground v
rails_known names one rails are v =
    let power : node_named names power_name ≡ rails.power = same_node names power_name rails.power (node_named names power_name) refl are.power in
    let ground : node_named names ground_name ≡ rails.ground = same_node names ground_name rails.ground (node_named names ground_name) refl are.ground in
    rail_found names one v ∙ ap (λ (node : Option ℕ). is_either_node node (node_named names ground_name) v) power
    ∙ ap (λ (node : Option ℕ). is_either_node rails.power node v) ground

-- two bits that say the same are one
same_bits : (a b : Bool) {P : Type 0} → (a ≡ true) ↔ P → (b ≡ true) ↔ P → a ≡ b
same_bits true true first second = refl
same_bits false false first second = refl
same_bits true false first second = sym (second.1 (first.0 refl))
same_bits false true first second = first.1 (second.0 refl)

-- networks with the same nodes, switches, sizes and inputs are one
pub same_networks : (a b : Network) → a.nodes ≡ b.nodes → a.switches ≡ b.switches → a.sizes ≡ b.sizes → a.inputs ≡ b.inputs → a ≡ b
same_networks a b nodes switches sizes inputs =
    let network : ℕ → List Switch → List ℕ → List Bool → Network = λ n w z i. record { nodes = n; switches = w; sizes = z; inputs = i } in
    ap (λ (n : ℕ). network n a.switches a.sizes a.inputs) nodes ∙ ap (λ (w : List Switch). network b.nodes w a.sizes a.inputs) switches
    ∙ ap (λ (z : List ℕ). network b.nodes b.switches z a.inputs) sizes ∙ ap (λ (i : List Bool). network b.nodes b.switches b.sizes i) inputs

-- networks of the same switches and names that are both fresh are one
same_fresh : (net other : Network) (names : List (List ℕ × ℕ)) → IsSound net → IsSound other → net.nodes ≡ other.nodes →
    net.switches ≡ other.switches → IsFresh net names → IsFresh other names → net ≡ other
same_fresh net other names sound also_sound nodes switches fresh also_fresh =
    let as_many : length net.sizes ≡ length other.sizes = sound.one_size ∙ nodes ∙ sym also_sound.one_size in
    let as_many_inputs : length net.inputs ≡ length other.inputs = sound.one_input ∙ nodes ∙ sym also_sound.one_input in
    let sizes : net.sizes ≡ other.sizes = same_lists net.sizes other.sizes as_many (λ k d lt.
    fresh.sizes k d lt ∙ sym (also_fresh.sizes k d (omega (arith, lt, as_many)))) in
    let inputs : net.inputs ≡ other.inputs = same_lists net.inputs other.inputs as_many_inputs (λ k d lt.
    let below : k < net.nodes = omega (arith, lt, sound.one_input) in
    let also_below : k < other.nodes = omega (arith, below, nodes) in
    let in_other : k < length other.inputs = omega (arith, also_below, also_sound.one_input) in
    let same : is_input net k ≡ is_input other k =
    same_bits (is_input net k) (is_input other k) (fresh.inputs k below) (also_fresh.inputs k also_below) in
    rw (get_or_default net.inputs k d false lt, get_or_default other.inputs k d false in_other) same) in
    same_networks net other nodes switches sizes inputs

-- a network that is made fresh again is as it was, if it was fresh
pub put_back : (before now : Net) (names read : List (List ℕ × ℕ)) → read ≡ names → now.nodes ≡ before.nodes →
    now.switches ≡ before.switches → IsFresh (network_of before) names → IsFresh (network_of now) read → network_of now ≡ network_of before
put_back before now names read same nodes switches fresh again =
    let again : IsFresh (network_of now) names = subst (IsFresh (network_of now)) same again in
    same_fresh (network_of now) (network_of before) names (sound_of now) (sound_of before) nodes switches again fresh
