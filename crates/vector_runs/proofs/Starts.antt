-- The states in which a network begins: there is one list of them.
use Rattle.vector_runs.proofs.Common.{◌≡◌, ℕ, ◌<◌, List, [], ◌∷◌, inl, inr, sym, ap, ◌∙◌, arith, length, cases_eq, same_lists, get_or_default}
use Rattle.vector_runs.proofs.Common.{bytes_eq-Decides, cases_Bool, false≢true, codes, bytes_eq, Level, HasName, Network, state_of, AreStarts}
use Rattle.std.proofs.Common.{◌⊎◌}
use Rattle.switch_net.specs.declared.switches.Level.TheVariants.{X}
use Rattle.switch_net.specs.SimRecords.{IsStartOf}

-- a name and a node that are these make this pair
pub pairs_eq : {p : List ℕ × ℕ} {name : List ℕ} {v : ℕ} → p.0 ≡ name → p.1 ≡ v → p ≡ (name, v)
pairs_eq {p} {name} {v} same at =
    let pair : List ℕ → ℕ → List ℕ × ℕ = λ n k. (n, k) in
    ap (λ (n : List ℕ). pair n p.1) same ∙ ap (λ (k : ℕ). pair name k) at

-- whether a node has a name can be decided
pub cases_name : (names : List (List ℕ × ℕ)) (v : ℕ) (name : List ℕ) → HasName names v name ⊎ ¬ (HasName names v name)
cases_name [] v name = inr (λ h. h)
cases_name (named ∷ names) v name = elim (cases_name names v name) [
  | inl later ↦ inl (inr later)
  | inr absent ↦ elim (cases_Bool (bytes_eq named.0 name)) [
    | inl same ↦ elim (cases_eq named.1 v) [
      | inl at ↦ (let is : named.0 ≡ name = (bytes_eq-Decides named.0 name).0 same in inl (inl (pairs_eq is at)))
      | inr ne ↦ inr (λ h. elim h [ inl e ↦ ne (ap (λ (p : List ℕ × ℕ). p.1) e) | inr later ↦ absent later ])
    ]
    | inr other ↦ inr (λ h. elim h [
      | inl e ↦ false≢true (sym other ∙ (bytes_eq-Decides named.0 name).1 (ap (λ (p : List ℕ × ℕ). p.0) e))
      | inr later ↦ absent later
    ])
  ]
]

-- a node begins in one state
one_start : (names : List (List ℕ × ℕ)) (v : ℕ) (x y : Level) → IsStartOf names v x → IsStartOf names v y → x ≡ y
one_start names v x y a b = elim (cases_name names v (codes "Vdd!")) [
  | inl power ↦ elim (cases_name names v (codes "GND!")) [
    | inl ground ↦ a.both power ground ∙ sym (b.both power ground)
    | inr no_ground ↦ a.power power no_ground ∙ sym (b.power power no_ground)
  ]
  | inr no_power ↦ elim (cases_name names v (codes "GND!")) [
    | inl ground ↦ a.ground ground no_power ∙ sym (b.ground ground no_power)
    | inr no_ground ↦ a.neither no_power no_ground ∙ sym (b.neither no_power no_ground)
  ]
]

-- a network begins in one list of states
pub same_starts : (net : Network) (names : List (List ℕ × ℕ)) (s t : List Level) → AreStarts net names s → AreStarts net names t → s ≡ t
same_starts net names s t a b = same_lists s t (a.one_state ∙ sym b.one_state) (λ v d lt.
    let below : v < net.nodes = omega (arith, a.one_state) in
    let same : state_of s v ≡ state_of t v = one_start names v (state_of s v) (state_of t v) (a.each v below) (b.each v below) in
    let in_t : v < length t = omega (arith, b.one_state) in
    rw (get_or_default s v d X lt, get_or_default t v d X in_t) same)
