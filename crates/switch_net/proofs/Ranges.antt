-- The ranges of nodes and of strengths.
use Rattle.switch_net.proofs.Common.{◌≡◌, ◌≢◌, ℕ, ◌<◌, ◌≤◌, List, [], ◌∷◌, Bool, true, false, ◌⊎◌, inl, inr, refl, arith, length, slice_index}
use Rattle.switch_net.proofs.Common.{Contains, cond, cases_lt, get_or-eq_default, Level, Zero, One, X, Switch, Network, IsSound, IsWithin, Hop}
use Rattle.switch_net.proofs.Common.{Joins, IsPath, IsBlocked, DefiniteTo, strength, switch_strength, root_strength, is_input, end_of}
use Rattle.std.proofs.lemmas.List.Elements.{All-contains}
use Rattle.switch_net.specs.declared.switches.SwitchKind.{SwitchKind}
use Rattle.switch_net.specs.declared.switches.SwitchKind.TheVariants.{N, P, D}
use Rattle.switch_net.specs.Path.{is_closed_at}
use Rattle.switch_net.specs.Path.{is_closed_or_unknown_at}
use Rattle.switch_net.proofs.Paths.{NotOvercome, drop_not_overcome}

-- entries that are low below the end are low past it too
pub low_everywhere : (xs : List ℕ) (most : ℕ) → ((v : ℕ) → v < length xs → slice_index xs v ≤ most) → (v : ℕ) → slice_index xs v ≤ most
low_everywhere xs most low v = elim (cases_lt v (length xs)) [
  | inl lt ↦ low v lt
  | inr ge ↦ (let e : slice_index xs v ≡ 0 = get_or-eq_default xs 0 ge in omega arith)
]

-- a closed switch is closed or unknown
pub closed_or_more : (kind : SwitchKind) (gate : Level) → is_closed_at kind gate ≡ true → is_closed_or_unknown_at kind gate ≡ true
closed_or_more D gate e = refl
closed_or_more N One e = refl
closed_or_more N Zero e = cc
closed_or_more N X e = cc
closed_or_more P One e = cc
closed_or_more P Zero e = refl
closed_or_more P X e = cc

pub level_cases : (a b : Level) → (a ≡ b) ⊎ (a ≢ b)
level_cases Zero Zero = inl refl
level_cases Zero One = inr (λ e. cc)
level_cases Zero X = inr (λ e. cc)
level_cases One Zero = inr (λ e. cc)
level_cases One One = inl refl
level_cases One X = inr (λ e. cc)
level_cases X Zero = inr (λ e. cc)
level_cases X One = inr (λ e. cc)
level_cases X X = inl refl

pub switch_strength-pos : (switch : Switch) → 0 < switch_strength switch.kind
switch_strength-pos switch = go switch.kind
  where
    go : (kind : SwitchKind) → 0 < switch_strength kind
    go D = omega arith
    go N = omega arith
    go P = omega arith

pub switch_strength-le : (switch : Switch) → switch_strength switch.kind ≤ 5
switch_strength-le switch = go switch.kind
  where
    go : (kind : SwitchKind) → switch_strength kind ≤ 5
    go D = omega arith
    go N = omega arith
    go P = omega arith

pub input_strength : (net : Network) (v : ℕ) → is_input net v ≡ true → root_strength net v ≡ 6
input_strength net v e = rw e refl

module _ (net : Network) (sound : IsSound net) where
  pub root_strength-pos : (v : ℕ) → v < net.nodes → 0 < root_strength net v
  root_strength-pos v lt = go (is_input net v)
    where
      go : (b : Bool) → 0 < cond b 6 (slice_index net.sizes v)
      go true = omega arith
      go false = let h : v < length net.sizes = omega (arith, sound.one_size) in let size = sound.sizes_in_range v 0 h in omega (arith, size)

  -- an input is a node of the network
  pub input_in_range : (v : ℕ) → is_input net v ≡ true → v < net.nodes
  input_in_range v e = elim (cases_lt v (length net.inputs)) [
    | inl lt ↦ omega (arith, sound.one_input)
    | inr ge ↦ (let f : is_input net v ≡ false = get_or-eq_default net.inputs false ge in absurd (cc))
  ]

  -- both ends of a switch are nodes of the network
  pub ends_in_range : (switch : Switch) (a b : ℕ) → Contains net.switches switch → Joins switch a b → (a < net.nodes) × (b < net.nodes)
  ends_in_range switch a b c j =
      let within = All-contains (IsWithin net.nodes) net.switches switch sound.switches_within c in
      elim j [ inl e ↦ (omega (arith, within, e), omega (arith, within, e)) | inr e ↦ (omega (arith, within, e), omega (arith, within, e)) ]

module _ (net : Network) (s : List Level) (sound : IsSound net) where
  pub strength_low : (root : ℕ) (p : List Hop) → strength net root p ≤ 6
  strength_low root [] = go (is_input net root)
    where
      go : (b : Bool) → cond b 6 (slice_index net.sizes root) ≤ 6
      go true = omega arith
      go false = low_everywhere net.sizes 6 (λ k lt. let size = sound.sizes_in_range k 0 lt in omega (arith, size)) root
  strength_low root (h ∷ p) = omega (arith, strength_low root p)

  pub strength-pos : (root : ℕ) (p : List Hop) → IsPath net s root p → 0 < strength net root p
  strength-pos root [] i = root_strength-pos net sound root i
  strength-pos root (h ∷ p) i = let r = strength-pos root p i.0 in omega (arith, r, switch_strength-pos h.through)

  -- a path ends at a node of the network
  pub end_in_range : (root : ℕ) (p : List Hop) → IsPath net s root p → end_of root p < net.nodes
  end_in_range root [] i = i
  end_in_range root (h ∷ p) i = (ends_in_range net sound h.through (end_of root p) h.to i.1 i.2).1

  -- an unblocked path that ends at an input is that input alone
  pub at_input : (root : ℕ) (p : List Hop) → IsPath net s root p → ¬ (IsBlocked net s root p) → is_input net (end_of root p) ≡ true →
      end_of root p < net.nodes → p ≡ []
  unfolding NotOvercome
  at_input root [] i u e lt = refl
  at_input root (h ∷ p) i u e lt =
      let own : DefiniteTo net s h.to 6 = record { root = h.to; path = []; is_path = lt; is_definite = tt; ends = refl; is_strength = rw e refl } in
      let six = drop_not_overcome net s root [] (h ∷ p) u 6 own in
      let five = switch_strength-le h.through in absurd (omega arith)

  -- nothing overcomes an input
  pub input_stands : (root : ℕ) → is_input net root ≡ true → NotOvercome net s root []
  unfolding NotOvercome
  input_stands root input = λ k d.
      let low = strength_low d.root d.path in let six = input_strength net root input in omega (arith, low, d.is_strength, six)
