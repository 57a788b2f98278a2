-- Sums of numbers that stand beside names, and numbers that count where a test holds.
use Rattle.tree_circuits.proofs.Common.{◌≡◌, ℕ, ℤ, pos, ◌+ℤ◌, ◌-ℤ◌, Bool, true, false, cond, List, map, refl, sym, subst, arith, ints, In, Distinct}
use Rattle.tree_circuits.proofs.Common.{sum_on, In-map, In-map_source, sum_passing}
use Rattle.finite_sets.proofs.Sums.{sum_on-same_things, sum_on-zero}
use Rattle.finite_sets.proofs.Images.{Distinct-unmap}

-- a number where a test holds is that of the sum
pub passing_sum : {X : Type 0} (passes : Bool) (w : X → ℤ) (xs : List X) → sum_on (λ x. cond passes (w x) (pos 0)) xs ≡ cond passes (sum_on w xs) (pos 0)
passing_sum true w xs = refl
passing_sum false w xs = sum_on-zero xs

-- a number where a test holds, and more where it holds
pub passing_more : (passes : Bool) (part more whole : ℤ) → more ≡ whole -ℤ part
    → cond passes part (pos 0) +ℤ cond passes more (pos 0) ≡ cond passes whole (pos 0)
passing_more true part more whole is = omega (arith, ints, is)
passing_more false part more whole is = omega (arith, ints)

-- the names of a list of names with numbers
abbrev pub names_in : List (List ℕ × ℤ) → List (List ℕ)
names_in counted = map (λ one. one.0) counted

-- the same names, each once, with the same numbers have the same sums
pub sum_passing-same : (passes : List ℕ → Bool) (xs ys : List (List ℕ × ℤ)) → Distinct (names_in xs) → Distinct (names_in ys)
    → ((name : List ℕ) → In name (names_in xs) → In name (names_in ys)) → ((name : List ℕ) → In name (names_in ys) → In name (names_in xs))
    → ((one other : List ℕ × ℤ) → In one xs → In other ys → one.0 ≡ other.0 → one.1 ≡ other.1)
    → sum_passing passes xs ≡ sum_passing passes ys
sum_passing-same passes xs ys xs_differ ys_differ there back agree =
    let Pair : Type 0 = List ℕ × ℤ in
    let first : Pair → List ℕ = λ one. one.0 in
    sum_on-same_things (λ (one : Pair). cond (passes one.0) one.1 (pos 0)) xs ys
    (Distinct-unmap first xs xs_differ) (Distinct-unmap first ys ys_differ)
    (λ one here.
    let found = In-map_source first one.0 ys (there one.0 (In-map first one xs here)) in
    let P : Pair → Type 0 = λ pair. In pair ys in
    let value = agree one found.0 here found.1.0 (sym found.1.1) in
    subst P (λ k. (found.1.1 k, sym value k)) found.1.0)
    (λ other here.
    let found = In-map_source first other.0 xs (back other.0 (In-map first other ys here)) in
    let P : Pair → Type 0 = λ pair. In pair xs in
    let value = agree found.0 other found.1.0 here found.1.1 in
    subst P (λ k. (found.1.1 k, value k)) found.1.0)
