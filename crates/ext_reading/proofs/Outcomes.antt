-- What holds of the value of a result, where it has one.
use Rattle.ext_reading.proofs.Common.{◌≡◌, ◌<◌, ◌+◌, ℕ, suc, get_or, arith, Bool, true, false, cond, List, [], ◌∷◌, ◌++◌, Result, Ok, Err, inl, inr}
use Rattle.ext_reading.proofs.Common.{refl, subst, All, AllByRecursion, range_with_len, length-range_with_len, get_or-range_with_len, In}
use Rattle.ext_reading.proofs.Common.{In-push_cases, and_then}
use Rattle.std.specs.Prelude.{IfOk}
use Rattle.finite_sets.proofs.Members.{In-index}

-- where there is a value, it has the fact
abbrev pub OkHas : {X F : Type 0} → (X → Type 0) → Result X F → Type 0
OkHas P (Ok x) = P x
OkHas P (Err fault) = Unit {0}

-- one step and then another
pub next_has : {X Y F : Type 0} (P : X → Type 0) (Q : Y → Type 0) (found : Result X F) (next : X → Result Y F)
    → OkHas P found → ((x : X) → P x → OkHas Q (next x)) → OkHas Q (and_then found next)
next_has P Q (Ok x) next is then = then x is
next_has P Q (Err fault) next is then = tt

-- one step of which the next knows what it gave
pub given_has : {X Y F : Type 0} (Q : Y → Type 0) (found : Result X F) (next : X → Result Y F)
    → ((x : X) → found ≡ Ok x → OkHas Q (next x)) → OkHas Q (and_then found next)
given_has Q (Ok x) next then = then x refl
given_has Q (Err fault) next then = tt

-- a test that must pass
pub passed_has : {X F : Type 0} (P : X → Type 0) (test : Bool) (found : Result X F) (fault : F)
    → (test ≡ true → OkHas P found) → OkHas P (cond test found (Err fault))
passed_has P true found fault then = then refl
passed_has P false found fault then = tt

-- a test that must fail
pub failed_has : {X F : Type 0} (P : X → Type 0) (test : Bool) (found : Result X F) (fault : F)
    → (test ≡ false → OkHas P found) → OkHas P (cond test (Err fault) found)
failed_has P true found fault then = tt
failed_has P false found fault then = then refl

-- a value that is there has the fact
pub value_has : {X F : Type 0} (P : X → Type 0) (found : Result X F) (x : X) → OkHas P found → found ≡ Ok x → P x
value_has P found x is e = let P' = OkHas P in subst P' e is

-- each item has the fact
abbrev pub Each : {X : Type 0} → (X → Type 0) → List X → Type 0
Each {X} P xs = (x : X) → In x xs → P x

pub each_none : {X : Type 0} (P : X → Type 0) → Each P []
each_none P = λ x absent. absurd absent

pub each_push : {X : Type 0} (P : X → Type 0) (xs : List X) (y : X) → Each P xs → P y → Each P (xs ++ y ∷ [])
each_push P xs y all is = λ x h. elim (In-push_cases x xs y h) [ inl there ↦ all x there | inr e ↦ subst P e is ]

-- from a fact by places
pub each_of_All : {X : Type 0} (P : X → Type 0) (xs : List X) → All P xs → Each P xs
each_of_All P [] all = each_none P
each_of_All {X} P (y ∷ ys) all = λ x h. elim h [
  | inl e ↦ subst P e (all 0 y (omega arith))
  | inr there ↦ each_of_All P ys (λ k d m. all (suc k) d (omega arith)) x there
]

-- and by recursion
pub by_recursion : {X : Type 0} (P : X → Type 0) (xs : List X) → Each P xs → AllByRecursion P xs
by_recursion P [] all = tt
by_recursion P (x ∷ xs) all = (all x (inl refl), by_recursion P xs (λ y h. all y (inr h)))

-- a number of a range is below its end
pub range_in_bounds : (a n k : ℕ) → In k (range_with_len a n) → k < a + n
range_in_bounds a n k h =
    let found = In-index k (range_with_len a n) h in
    let long = length-range_with_len a n in
    let inside : found.0 < n = (let within = found.1.0 in omega (arith, within, long)) in
    let place : get_or (range_with_len a n) found.0 0 ≡ a + found.0 = get_or-range_with_len a n found.0 0 inside in
    let same = found.1.1 0 in
    omega (arith, place, same, inside)

-- what a value has besides
pub if_ok-more : {T E : Type 0} (P Q : T → Type 0) (result : Result T E) → ((x : T) → P x → Q x) → IfOk result P → IfOk result Q
if_ok-more P Q (Ok x) more has = more x has
if_ok-more P Q (Err e) more has = has
