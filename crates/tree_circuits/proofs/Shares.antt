-- Groups with what their members have, and what they add to it.
use Rattle.tree_circuits.proofs.Common.{◌≡◌, ℕ, ℤ, pos, ◌+ℤ◌, ◌-ℤ◌, Bool, cond, List, [], ◌∷◌, map, inl, inr, refl, ◌∙◌, ap, arith, flat_map, ints}
use Rattle.tree_circuits.proofs.Common.{In, sum_on, sum_on-append, sum_on-same, sum_passing}
use Rattle.tree_circuits.proofs.NamedSums.{passing_sum, passing_more}

-- a group by its name, with what each member has of a weight, what is to be added to these, and what the group has
pub record Shared : Type 0 where
  pub name : List ℕ
  pub members : List (List ℕ × ℤ)
  pub adds : ℤ
  pub whole : ℤ

-- what members have together
abbrev pub members_sum : List (List ℕ × ℤ) → ℤ
members_sum members = sum_on (λ one. one.1) members

-- The group adds what it has more than its members.
abbrev pub AddsTheRest : Shared → Type 0
AddsTheRest shared = shared.adds ≡ shared.whole -ℤ members_sum shared.members

-- the test says the same of the members as of the group
abbrev pub TakesWhole : (List ℕ → Bool) → Shared → Type 0
TakesWhole passes shared = (one : List ℕ × ℤ) → In one shared.members → passes one.0 ≡ passes shared.name

-- what the groups add whose names pass
abbrev pub adds_passing : (List ℕ → Bool) → List Shared → ℤ
adds_passing passes groups = sum_on (λ shared. cond (passes shared.name) shared.adds (pos 0)) groups

-- the groups' names with what they have
abbrev pub wholes_of : List Shared → List (List ℕ × ℤ)
wholes_of groups = map (λ shared. (shared.name, shared.whole)) groups

-- what members of one group have that pass
members_passing : (passes : List ℕ → Bool) (shared : Shared) → TakesWhole passes shared
    → sum_passing passes shared.members ≡ cond (passes shared.name) (members_sum shared.members) (pos 0)
members_passing passes shared whole =
    let Pair : Type 0 = List ℕ × ℤ in
    sum_on-same (λ (one : Pair). cond (passes one.0) one.1 (pos 0)) (λ (one : Pair). cond (passes shared.name) one.1 (pos 0)) shared.members
    (λ one here. ap (λ (b : Bool). cond b one.1 (pos 0)) (whole one here))
    ∙ passing_sum (passes shared.name) (λ (one : Pair). one.1) shared.members

regroup : (a b c d : ℤ) → (a +ℤ b) +ℤ (c +ℤ d) ≡ (a +ℤ c) +ℤ (b +ℤ d)
regroup a b c d = omega (arith, ints)

-- what members and groups have that pass, is what the groups have that pass
pub shares_close : (passes : List ℕ → Bool) (groups : List Shared) → ((shared : Shared) → In shared groups → TakesWhole passes shared)
    → ((shared : Shared) → In shared groups → AddsTheRest shared)
    → sum_passing passes (flat_map (λ shared. shared.members) groups) +ℤ adds_passing passes groups ≡ sum_passing passes (wholes_of groups)
shares_close passes [] takes rests = omega (arith, ints)
shares_close passes (shared ∷ groups) takes rests =
    let Pair : Type 0 = List ℕ × ℤ in
    let w : Pair → ℤ = λ one. cond (passes one.0) one.1 (pos 0) in
    let below = flat_map (λ (s : Shared). s.members) groups in
    let more = cond (passes shared.name) shared.adds (pos 0) in
    ap (λ z. z +ℤ (more +ℤ adds_passing passes groups)) (sum_on-append w shared.members below)
    ∙ regroup (sum_on w shared.members) (sum_on w below) more (adds_passing passes groups)
    ∙ ap (λ z. (z +ℤ more) +ℤ (sum_on w below +ℤ adds_passing passes groups)) (members_passing passes shared (takes shared (inl refl)))
    ∙ ap (λ z. z +ℤ (sum_on w below +ℤ adds_passing passes groups))
    (passing_more (passes shared.name) (members_sum shared.members) shared.adds shared.whole (rests shared (inl refl)))
    ∙ ap (λ z. cond (passes shared.name) shared.whole (pos 0) +ℤ z)
    (shares_close passes groups (λ s here. takes s (inr here)) (λ s here. rests s (inr here)))
