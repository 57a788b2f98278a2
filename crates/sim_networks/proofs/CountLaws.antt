-- How many nodes there are, by names that are pairwise of different nodes.
use Rattle.sim_networks.proofs.Common.{◌≡◌, ℕ, zero, suc, ◌<◌, ◌≤◌, List, [], ◌∷◌, length, inl, inr, refl, ap, subst, arith, cases_eq, In, Distinct}
use Rattle.sim_networks.proofs.Common.{In-index, All-from_In, HasName, AreOfOneNode, SimRecords, names_of, AreNodesOf}
use Rattle.finite_sets.proofs.Distincts.{length-distinct}
use Rattle.finite_sets.proofs.Pairs.{Pairwise, AllPairs-from_Pairwise, Pairwise-from_AllPairs}
use Rattle.sim_networks.specs.SimNetworks.{HasMoreNodesThan}

-- the numbers below one, the greatest first
abbrev numbers_down : ℕ → List ℕ
numbers_down zero = []
numbers_down (suc n) = n ∷ numbers_down n

length-numbers_down : (n : ℕ) → length (numbers_down n) ≡ n
length-numbers_down zero = refl
length-numbers_down (suc n) = ap suc (length-numbers_down n)

In-numbers_down : (n k : ℕ) → k < n → In k (numbers_down n)
In-numbers_down zero k below = absurd (omega arith)
In-numbers_down (suc n) k below = elim (cases_eq n k) [
  | inl same ↦ inl same
  | inr other ↦ inr (In-numbers_down n k (omega arith))
]

-- distinct numbers below n are at most n
pub few_below : (numbers : List ℕ) (n : ℕ) → Distinct numbers → ((k : ℕ) → In k numbers → k < n) → length numbers ≤ n
few_below numbers n once below =
    let few = length-distinct numbers (numbers_down n) once (λ k here. In-numbers_down n k (below k here)) in
    omega (arith, few, length-numbers_down n)

module _ (records : SimRecords) (count : ℕ) (named : List (List ℕ × ℕ)) (nodes : AreNodesOf records count named) where
  abbrev Apart : List ℕ → List ℕ → Type 0
  Apart a b = ¬ (AreOfOneNode records a b)

  -- A name of each node below the number.
  record HasNamesOf (n : ℕ) : Type 0 where
    names : List (List ℕ)
    each : (name : List ℕ) → In name names → (v : ℕ) × HasName named v name × (v < n)
    apart : Pairwise Apart names
    long : length names ≡ n

  names_below : (n : ℕ) → n ≤ count → HasNamesOf n
  names_below zero few = record { names = []; each = λ name none. absurd none; apart = tt; long = refl }
  names_below (suc n) few =
      let rest = names_below n (omega arith) in
      let this = nodes.each_node n (omega arith) in record {
        names = this.0 ∷ rest.names;
        each = λ name here. elim here [
          | inl same ↦ (n, subst (λ (one : List ℕ). HasName named n one) same this.1, omega arith)
          | inr later ↦ (let other = rest.each name later in (other.0, other.1, omega (arith, other.2)))
        ];
        apart = (
          (λ name here way. let other = rest.each name here in
              let same = (nodes.classes this.0 name n other.0 this.1 other.1).1 way in
              omega (arith, other.2)),
          rest.apart,
        );
        long = ap suc rest.long;
      }

  -- there are more nodes than so many
  pub many_nodes : (most : ℕ) → most < count → HasMoreNodesThan most records
  many_nodes most more =
      let all = names_below count (omega arith) in record {
        names = all.names;
        stand = All-from_In (λ name. In name (names_of records)) all.names
            (λ name here. let one = all.each name here in (nodes.stands name one.0 one.1).0);
        apart = AllPairs-from_Pairwise Apart all.names all.apart;
        more = omega (arith, all.long);
      }

  -- The nodes of some names, each once.
  record HasNodesOf (names : List (List ℕ)) : Type 0 where
    numbers : List ℕ
    once : Distinct numbers
    each : (v : ℕ) → In v numbers → (name : List ℕ) × In name names × HasName named v name
    long : length numbers ≡ length names

  nodes_of : (names : List (List ℕ)) → ((name : List ℕ) → In name names → In name (names_of records)) → Pairwise Apart names
      → HasNodesOf names
  nodes_of [] stand apart = record { numbers = []; once = tt; each = λ v none. absurd none; long = refl }
  nodes_of (name ∷ names) stand apart =
      let rest = nodes_of names (λ other here. stand other (inr here)) apart.1 in
      let this = nodes.named name (stand name (inl refl)) in record {
        numbers = this.0 ∷ rest.numbers;
        once = (
          (λ here. let other = rest.each this.0 here in
              apart.0 other.0 other.1 ((nodes.classes name other.0 this.0 this.0 this.1 other.2).0 refl)),
          rest.once,
        );
        each = λ v here. elim here [
          | inl same ↦ (name, inl refl, subst (λ (w : ℕ). HasName named w name) same this.1)
          | inr later ↦ (let other = rest.each v later in (other.0, inr other.1, other.2))
        ];
        long = ap suc rest.long;
      }

  -- there are no more nodes than so many
  pub few_nodes : (most : ℕ) → count ≤ most → ¬ (HasMoreNodesThan most records)
  few_nodes most few more =
      let stand : (name : List ℕ) → In name more.names → In name (names_of records) = λ name here.
      let found = In-index name more.names here in
      subst (λ (one : List ℕ). In one (names_of records)) (found.1.1 name) (more.stand found.0 name found.1.0) in
      let all = nodes_of more.names stand (Pairwise-from_AllPairs Apart more.names more.apart) in
      let below = few_below all.numbers count all.once (λ v here. let one = all.each v here in (nodes.stands one.0 v one.2).1) in
      omega (arith, below, all.long, more.more)
