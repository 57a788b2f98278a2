-- Nodes as classes of names that aliases join.
use Rattle.sim_networks.proofs.Common.{◌≡◌, ℕ, ◌+◌, ◌<◌, ◌≤◌, Some, List, [], ◌∷◌, ◌++◌, length, get_or, take, map, inl, inr, refl, sym, ap, ◌∙◌}
use Rattle.sim_networks.proofs.Common.{subst, arith, zip, All, cases_lt, cases_order, map_more, take_all, slice_get_within, get_or_from_slice_get}
use Rattle.sim_networks.proofs.Common.{IsLeast, In, In-append_left, In-append_right, In-get_or, In-map, All-from_In, Divides, IsPair, AreOfOneNode}
use Rattle.sim_networks.proofs.Common.{SimRecords, names_of, names_of_aliases, names_of_transistors, SimFile, NodeNames, NodeTable, IsNumberedByCaps}
use Rattle.sim_networks.proofs.Common.{StandsAt, records_of, AreNodesOf, IsTableOf, number_in, numbers_in}
use Rattle.std.proofs.Common.{◌↔◌}
use Rattle.std.proofs.lemmas.Option.{slice_get-get_or}
use Rattle.finite_sets.proofs.Chains.{Chain-one, Chain-map}
use Rattle.finite_sets.proofs.Members.{In-append_cases, In-map_source}
use Rattle.partition.specs.Divides.{IsJoined, AddsPair}
use Rattle.partition.specs.Marks.{HasMark, IsNumbered}
use Rattle.switch_net.specs.SimRecords.{IsAlias}
use Rattle.sim_networks.specs.steps.Numbering.{AreKnown, AreNamesOf, arrivals}
use Rattle.sim_networks.proofs.GatherLaws.{AreGathered, gathered}
use Rattle.sim_networks.proofs.NumberLaws.{IsLabelled, number_is, number_in-is, labelled_has, has_labelled}

-- the names of an alias are known where all are
pub known_at : (names : List (List ℕ)) (aliases : List (List ℕ × List ℕ)) (i : ℕ) (pair : List ℕ × List ℕ) → All (AreKnown names) aliases
    → i < length aliases → pair ≡ get_or aliases i pair → AreKnown names pair
known_at names aliases i pair all within is = subst (AreKnown names) (sym is) (all i pair within)

-- the pairs of numbers of some aliases, and of one more
pub pairs_more : (names : List (List ℕ)) (aliases : List (List ℕ × List ℕ)) (i : ℕ) (pair : List ℕ × List ℕ) (a b : ℕ) (old new : List ℕ)
    → i < length aliases → pair ≡ get_or aliases i pair → a ≡ number_in names pair.0 → b ≡ number_in names pair.1 → AddsPair old new a b
    → Divides old (IsPair (map (numbers_in names) (take i aliases))) → Divides new (IsPair (map (numbers_in names) (take (i + 1) aliases)))
pairs_more names aliases i pair a b old new within is a_is b_is adds divides =
    let f = numbers_in names in
    let P : ℕ → ℕ → Type 0 = λ x y. Divides new (IsPair (map f (take i aliases) ++ (x, y) ∷ [])) in
    let added = adds (map f (take i aliases)) divides in
    let named : P (number_in names pair.0) (number_in names pair.1) =
    subst (λ (y : ℕ). P (number_in names pair.0) y) b_is (subst (λ (x : ℕ). P x b) a_is added) in
    let next : map f (take (i + 1) aliases) ≡ map f (take i aliases) ++ f pair ∷ [] =
    map_more f aliases i pair within ∙ ap (λ (one : List ℕ × List ℕ). map f (take i aliases) ++ f one ∷ []) (sym is) in
    subst (λ (pairs : List (ℕ × ℕ)). Divides new (IsPair pairs)) (sym next) named

-- the pairs of numbers of all aliases
pub pairs_all : (names : List (List ℕ)) (aliases : List (List ℕ × List ℕ)) (i : ℕ) (marks : List ℕ) → length aliases ≤ i
    → Divides marks (IsPair (map (numbers_in names) (take i aliases))) → Divides marks (IsPair (map (numbers_in names) aliases))
pairs_all names aliases i marks past divides =
    subst (λ (list : List (List ℕ × List ℕ)). Divides marks (IsPair (map (numbers_in names) list))) (take_all i aliases past) divides

-- the names of an alias stand among those of all
alias_names : (aliases : List (List ℕ × List ℕ)) (pair : List ℕ × List ℕ) → In pair aliases
    → In pair.0 (names_of_aliases aliases) × In pair.1 (names_of_aliases aliases)
alias_names [] pair here = absurd here
alias_names (one ∷ aliases) pair (inl same) =
    (inl (ap (λ (p : List ℕ × List ℕ). p.0) same), inr (inl (ap (λ (p : List ℕ × List ℕ). p.1) same)))
alias_names (one ∷ aliases) pair (inr here) = let rest = alias_names aliases pair here in (inr (inr rest.0), inr (inr rest.1))

-- the names of the records, in one order and in the other
pub to_arrivals : (records : SimRecords) (name : List ℕ) → In name (names_of records) → In name (arrivals records)
to_arrivals records name here =
    let fets = names_of_transistors records.transistors in
    let caps = records.capacitors in
    let pairs = names_of_aliases records.aliases in
    elim (In-append_cases name (fets ++ caps) pairs here) [
      | inl front ↦ (elim (In-append_cases name fets caps front) [
        | inl fet ↦ In-append_left name (caps ++ fets) pairs (In-append_right name caps fets fet)
        | inr cap ↦ In-append_left name (caps ++ fets) pairs (In-append_left name caps fets cap)
      ])
      | inr pair ↦ In-append_right name (caps ++ fets) pairs pair
    ]

from_arrivals : (records : SimRecords) (name : List ℕ) → In name (arrivals records) → In name (names_of records)
from_arrivals records name here =
    let fets = names_of_transistors records.transistors in
    let caps = records.capacitors in
    let pairs = names_of_aliases records.aliases in
    elim (In-append_cases name (caps ++ fets) pairs here) [
      | inl front ↦ (elim (In-append_cases name caps fets front) [
        | inl cap ↦ In-append_left name (fets ++ caps) pairs (In-append_right name fets caps cap)
        | inr fet ↦ In-append_left name (fets ++ caps) pairs (In-append_left name fets caps fet)
      ])
      | inr pair ↦ In-append_right name (fets ++ caps) pairs pair
    ]

module _ (records : SimRecords) (names : List (List ℕ)) (are : AreGathered (arrivals records) names) where
  alias_known : (a b : List ℕ) → IsAlias records a b → AreKnown names (a, b)
  alias_known a b is =
      let front = records.capacitors ++ names_of_transistors records.transistors in
      let both = alias_names records.aliases (a, b) is in (
        are.whole a (In-append_right a front (names_of_aliases records.aliases) both.0),
        are.whole b (In-append_right b front (names_of_aliases records.aliases) both.1),
      )

  -- the names of each alias are known
  pub aliases_known : All (AreKnown names) records.aliases
  aliases_known = All-from_In (AreKnown names) records.aliases (λ pair here. alias_known pair.0 pair.1 here)

  abbrev pub pairs_of_aliases : List (ℕ × ℕ)
  pairs_of_aliases = map (numbers_in names) records.aliases

  pair_of_alias : (a b : List ℕ) → IsAlias records a b → IsPair pairs_of_aliases (number_in names a) (number_in names b)
  pair_of_alias a b is = In-map (numbers_in names) (a, b) records.aliases is

  alias_of_pair : (m n : ℕ) → IsPair pairs_of_aliases m n → IsAlias records (get_or names m []) (get_or names n [])
  alias_of_pair m n is =
      let source = In-map_source (numbers_in names) (m, n) records.aliases is in
      let pair = source.0 in
      let known = alias_known pair.0 pair.1 source.1.0 in
      let first : pair.0 ≡ get_or names m [] =
      sym (number_is names pair.0 known.0).is ∙ ap (λ (k : ℕ). get_or names k []) (ap (λ (p : ℕ × ℕ). p.0) source.1.1) in
      let second : pair.1 ≡ get_or names n [] =
      sym (number_is names pair.1 known.1).is ∙ ap (λ (k : ℕ). get_or names k []) (ap (λ (p : ℕ × ℕ). p.1) source.1.1) in
      subst (λ (b : List ℕ). IsAlias records (get_or names m []) b) second
      (subst (λ (a : List ℕ). IsAlias records a pair.1) first source.1.0)

  numbers_joined : (a b : List ℕ) → AreOfOneNode records a b → IsJoined (IsPair pairs_of_aliases) (number_in names a) (number_in names b)
  numbers_joined a b way =
      Chain-map (number_in names) (λ a b step. elim step [
        | inl is ↦ Chain-one (inl (pair_of_alias a b is))
        | inr is ↦ Chain-one (inr (pair_of_alias b a is))
      ]) way

  names_joined : (m n : ℕ) → IsJoined (IsPair pairs_of_aliases) m n → AreOfOneNode records (get_or names m []) (get_or names n [])
  names_joined m n way =
      Chain-map (λ (k : ℕ). get_or names k []) (λ m n step. elim step [
        | inl is ↦ Chain-one (inl (alias_of_pair m n is))
        | inr is ↦ Chain-one (inr (alias_of_pair n m is))
      ]) way

  module _ (labels : List ℕ) (count : ℕ) (long : length labels ≡ length names) (numbered : IsNumbered labels count)
      (divides : Divides labels (IsPair pairs_of_aliases)) where
    abbrev named : List (List ℕ × ℕ)
    named = zip names labels

    one_class : (a b : List ℕ) (v w : ℕ) → IsLabelled names labels v a → IsLabelled names labels w b → (v ≡ w) ↔ AreOfOneNode records a b
    one_class a b v w p q =
        let m = p.number in
        let n = q.number in
        let both = divides m n (omega (arith, p.is_number.within)) (omega (arith, q.is_number.within)) in
        let R : List ℕ → List ℕ → Type 0 = AreOfOneNode records in
        let J : ℕ → ℕ → Type 0 = IsJoined (IsPair pairs_of_aliases) in (
          (λ same.
              let way = names_joined m n (both.0 (p.label_is ∙ same ∙ sym q.label_is)) in
              subst (λ (y : List ℕ). R a y) q.is_number.is (subst (λ (x : List ℕ). R x (get_or names n [])) p.is_number.is way)),
          (λ way.
              let m_is = number_in-is names a m are.once p.is_number in
              let n_is = number_in-is names b n are.once q.is_number in
              let joins = subst (λ (y : ℕ). J m y) n_is (subst (λ (x : ℕ). J x (number_in names b)) m_is (numbers_joined a b way)) in
              sym p.label_is ∙ both.1 joins ∙ q.label_is),
        )

    -- the labels are the nodes
    pub nodes_made : AreNodesOf records count named
    nodes_made = record {
      named = λ name here.
          let at = number_is names name (are.whole name (to_arrivals records name here)) in
          let number = number_in names name in
          let is : IsLabelled names labels (get_or labels number 0) name = record { number = number; is_number = at; label_is = refl } in
          (get_or labels number 0, labelled_has names labels (get_or labels number 0) name long is);
      stands = λ name v has.
          let at = has_labelled names labels v name has in
          let inside : at.number < length labels = omega (arith, at.is_number.within) in
          let here = subst (λ (one : List ℕ). In one names) at.is_number.is (In-get_or names at.number [] at.is_number.within) in
          let below = subst (λ (label : ℕ). label < count) at.label_is (numbered.below at.number 0 inside) in
          (from_arrivals records name (are.sound name here), below);
      each_node = λ v below.
          let used = numbered.used v below in
          let inside : used.0 < length names = omega (arith, used.1.0.0) in
          let name = get_or names used.0 [] in (
            name,
            labelled_has names labels v name long (record {
              number = used.0;
              is_number = record { within = inside; is = refl };
              label_is = used.1.0.1;
            }),
          );
      classes = λ a b v w p q. one_class a b v w (has_labelled names labels v a p) (has_labelled names labels w b q);
    }

    -- The first number of the node is that of its name at this place.
    record IsFirstAt (v place : ℕ) : Type 0 where
      number : ℕ
      within : number < length names
      met : place < length (arrivals records)
      same : get_or (arrivals records) place [] ≡ get_or names number []
      least : IsLeast ◌≤◌ (HasMark labels v) number

    stands_again : (v place : ℕ) (n : ℕ) → n < length names → get_or labels n 0 ≡ v → place < length (arrivals records)
        → get_or (arrivals records) place [] ≡ get_or names n [] → StandsAt (arrivals records) named v place
    stands_again v place n within label met is = (
      get_or names n [],
      slice_get-get_or (arrivals records) place [] met ∙ ap (λ (name : List ℕ). Some name) is,
      labelled_has names labels v (get_or names n []) long
          (record { number = n; is_number = record { within = within; is = refl }; label_is = label }),
    )

    first_at : (v first : ℕ) → IsLeast ◌≤◌ (StandsAt (arrivals records) named v) first → IsFirstAt v first
    first_at v first least =
        let name = least.0.0 in
        let at = has_labelled names labels v name least.0.2 in
        let met = slice_get_within (arrivals records) first name least.0.1 in
        let same = get_or_from_slice_get (arrivals records) first name [] least.0.1 ∙ sym at.is_number.is in
        record {
          number = at.number;
          within = at.is_number.within;
          met = met;
          same = same;
          least = (
            (omega (arith, at.is_number.within), at.label_is),
            (λ m has. elim (cases_lt m at.number) [
              | inl less ↦ (let stands = are.in_order m at.number first less at.is_number.within met same in
                  let m_in : m < length names = omega (arith, at.is_number.within) in
                  let again = stands_again v stands.at m m_in has.1 (omega (arith, stands.before)) stands.is in
                  let after : first ≤ stands.at = least.1 stands.at again in
                  absurd (omega (arith, stands.before)))
              | inr more ↦ more
            ]),
          );
        }

    -- nodes are numbered in the order in which their names were met
    pub nodes_in_order : IsNumberedByCaps records named
    nodes_in_order = λ v w first other v_first w_first before.
        let p = first_at v first v_first in
        let q = first_at w other w_first in
        elim (cases_order v w) [
          | inl same ↦ (let again = subst (λ (u : ℕ). StandsAt (arrivals records) named u first) same v_first.0 in
              let after : other ≤ first = w_first.1 first again in absurd (omega arith))
          | inr (inl less) ↦ less
          | inr (inr more) ↦ (let below = numbered.in_order w v q.number p.number more q.least p.least in
              let stands = are.in_order q.number p.number first below p.within p.met p.same in
              let again = stands_again w stands.at q.number q.within q.least.0.1 (omega (arith, stands.before, p.met)) stands.is in
              let after : other ≤ stands.at = w_first.1 stands.at again in absurd (omega (arith, stands.before)))
        ]

-- the names of a sim file are those of its records
pub gathered_of : (sim : SimFile) (names : NodeNames) → AreNamesOf sim names → AreGathered (arrivals (records_of sim)) names.index
gathered_of sim names are =
    subst (λ (list : List (List ℕ)). AreGathered (arrivals (records_of sim)) list) (sym are.index) (gathered (arrivals (records_of sim)))

-- the names of each alias in the file are among them
pub file_aliases_known : (sim : SimFile) (names : NodeNames) (aliases : List (List ℕ × List ℕ)) → AreNamesOf sim names
    → aliases ≡ sim.aliases
    → All (AreKnown names.index) aliases
file_aliases_known sim names aliases are is =
    subst (λ (list : List (List ℕ × List ℕ)). All (AreKnown names.index) list) (sym is)
    (aliases_known (records_of sim) names.index (gathered_of sim names are))

-- the table that is made of the names and their labels
pub table_made : (sim : SimFile) (table : NodeTable) (aliases : List (List ℕ × List ℕ)) → AreNamesOf sim table.names → aliases ≡ sim.aliases
    → length table.labels.items ≡ length table.names.index → IsNumbered table.labels.items table.count
    → Divides table.labels.items (IsPair (map (numbers_in table.names.index) aliases)) → IsTableOf (records_of sim) table
table_made sim table aliases are is long numbered divides =
    let records = records_of sim in
    let names = table.names.index in
    let made = gathered_of sim table.names are in
    let joins = subst (λ (list : List (List ℕ × List ℕ)). Divides table.labels.items (IsPair (map (numbers_in names) list))) is divides in
    record {
      is_table = record { indexed = are.indexed; distinct = made.once; one_label = long; below = numbered.below };
      nodes = nodes_made records names made table.labels.items table.count long numbered joins;
      in_order = nodes_in_order records names made table.labels.items table.count long numbered joins;
    }
