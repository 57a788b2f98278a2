-- Tests along a list: what is found, the place of what is found, and what tests of all and of some say.
use Rattle.std.proofs.Common.{◌≡◌, ◌+◌, ◌<◌, ◌≤◌, ℕ, zero, suc, Bool, true, false, cond, Option, List, [], ◌∷◌, ◌++◌, map}
use Rattle.std.proofs.Common.{filter, length, get_or, drop, refl, sym, ap, subst, ◌∙◌, arith, inl, inr, add-one, drop-cons}
use Rattle.std.specs.Prelude.{◌&&◌, ◌||◌, All, Some, None, Result, Ok, Err, Decides, find, slice_get}
use Rattle.std.specs.List.{AllByRecursion, list_all, list_any, position_from, range_with_len}
use Rattle.std.specs.Option.{option_map, option_or}
use Rattle.std.specs.Result.{OnOk}
use Rattle.std.proofs.lemmas.Bool.{both_ways, cases_Bool, and_parts, or_cases, or_parts}
use Rattle.finite_sets.specs.Lists.{In}
use Rattle.finite_sets.proofs.Members.{In-get_or, In-index}

-- what holds of each thing in a list holds of all of it
pub All-from_In : {X : Type 0} (P : X → Type 0) (xs : List X) → ((x : X) → In x xs → P x) → All P xs
All-from_In P xs each = λ k d below. each (get_or xs k d) (In-get_or xs k d below)

-- what holds of all of a list holds of each thing in it
pub All-In : {X : Type 0} (P : X → Type 0) (xs : List X) (x : X) → All P xs → In x xs → P x
All-In P xs x all here = let at = In-index x xs here in subst P (at.1.1 x) (all at.0 x at.1.0)

-- what holds of both lists holds of one behind the other
pub AllByRecursion-append : {X : Type 0} (P : X → Type 0) (xs ys : List X) → AllByRecursion P xs → AllByRecursion P ys → AllByRecursion P (xs ++ ys)
AllByRecursion-append P [] ys first second = second
AllByRecursion-append P (x ∷ xs) ys first second = (first.0, AllByRecursion-append P xs ys first.1 second)

-- what holds of each thing in a list holds of all of it, told by recursion
pub AllByRecursion-from_In : {X : Type 0} (P : X → Type 0) (xs : List X) → ((x : X) → In x xs → P x) → AllByRecursion P xs
AllByRecursion-from_In P [] each = tt
AllByRecursion-from_In P (x ∷ xs) each = (each x (inl refl), AllByRecursion-from_In P xs (λ y later. each y (inr later)))

-- where each passes, all pass
pub list_all-from_In : {X : Type 0} (test : X → Bool) (xs : List X) → ((x : X) → In x xs → test x ≡ true) → list_all test xs ≡ true
list_all-from_In test [] each = refl
list_all-from_In test (x ∷ xs) each =
    ap (λ (t : Bool). t && list_all test xs) (each x (inl refl)) ∙ list_all-from_In test xs (λ y later. each y (inr later))

-- where all pass, each passes
pub list_all-In : {X : Type 0} (test : X → Bool) (xs : List X) (x : X) → list_all test xs ≡ true → In x xs → test x ≡ true
list_all-In test [] x all absent = absurd absent
list_all-In test (y ∷ ys) x all (inl same) = ap test (sym same) ∙ (and_parts (test y) (list_all test ys) all).0
list_all-In test (y ∷ ys) x all (inr later) = list_all-In test ys x (and_parts (test y) (list_all test ys) all).1 later

-- where none passes, each fails
pub list_any-In : {X : Type 0} (test : X → Bool) (xs : List X) (x : X) → list_any test xs ≡ false → In x xs → test x ≡ false
list_any-In test [] x none absent = absurd absent
list_any-In test (y ∷ ys) x none (inl same) = ap test (sym same) ∙ (or_parts (test y) (list_any test ys) none).0
list_any-In test (y ∷ ys) x none (inr later) = list_any-In test ys x (or_parts (test y) (list_any test ys) none).1 later

-- where some passes, one in the list does
pub list_any-source : {X : Type 0} (test : X → Bool) (xs : List X) → list_any test xs ≡ true → (x : X) × (In x xs × (test x ≡ true))
list_any-source test [] some = absurd (cc)
list_any-source test (x ∷ xs) some = elim (or_cases (test x) (list_any test xs) some) [
  | inl here ↦ (x, (inl refl, here))
  | inr later ↦ let found = list_any-source test xs later in (found.0, (inr found.1.0, found.1.1))
]

-- where one in the list passes, some passes
pub list_any-passes : {X : Type 0} (test : X → Bool) (xs : List X) (x : X) → In x xs → test x ≡ true → list_any test xs ≡ true
list_any-passes test xs x here passes = elim (cases_Bool (list_any test xs)) [
  | inl some ↦ some
  | inr none ↦ absurd (both_ways (test x) (list_any-In test xs x none here) passes)
]

-- where each fails, none passes
pub list_any-fails : {X : Type 0} (test : X → Bool) (xs : List X) → ((x : X) → In x xs → test x ≡ false) → list_any test xs ≡ false
list_any-fails test [] fails = refl
list_any-fails test (x ∷ xs) fails =
    ap (λ (t : Bool). t || list_any test xs) (fails x (inl refl)) ∙ list_any-fails test xs (λ y later. fails y (inr later))

-- where a test tells what is equal, what stands in a list is found by it
pub list_any-of_In : {X : Type 0} (eq : X → X → Bool) → ((a b : X) → Decides (eq a b) (a ≡ b)) → (x : X) (xs : List X) → In x xs
    → list_any (eq x) xs ≡ true
list_any-of_In eq decides x xs here = list_any-passes (eq x) xs x here ((decides x x).1 refl)

-- what is found by it stands in the list
pub In-from_list_any : {X : Type 0} (eq : X → X → Bool) → ((a b : X) → Decides (eq a b) (a ≡ b)) → (x : X) (xs : List X) → list_any (eq x) xs ≡ true
    → In x xs
In-from_list_any {X} eq decides x xs some =
    let found = list_any-source (eq x) xs some in
    let P : X → Type 0 = λ y. In y xs in subst P (sym ((decides x found.0).0 found.1.1)) found.1.0

-- what does not stand in a list is not found by it
pub list_any-of_absent : {X : Type 0} (eq : X → X → Bool) → ((a b : X) → Decides (eq a b) (a ≡ b)) → (x : X) (xs : List X) → (In x xs → ⊥)
    → list_any (eq x) xs ≡ false
list_any-of_absent eq decides x xs absent = elim (cases_Bool (list_any (eq x) xs)) [
  | inl some ↦ absurd (absent (In-from_list_any eq decides x xs some))
  | inr none ↦ none
]

-- what is not found by it does not stand in the list
pub absent-from_list_any : {X : Type 0} (eq : X → X → Bool) → ((a b : X) → Decides (eq a b) (a ≡ b)) → (x : X) (xs : List X)
    → list_any (eq x) xs ≡ false → In x xs → ⊥
absent-from_list_any eq decides x xs none here = both_ways (list_any (eq x) xs) none (list_any-of_In eq decides x xs here)

-- what is found in an image is the image of what is found in the list
pub find-map : {X Y : Type 0} (f : X → Y) (test : Y → Bool) (xs : List X) → find test (map f xs) ≡ option_map f (find (λ x. test (f x)) xs)
find-map f test [] = refl
find-map f test (x ∷ xs) = elim (cases_Bool (test (f x))) [
  | inl passes ↦ rw passes refl
  | inr fails ↦ rw fails (find-map f test xs)
]

-- what is found stands in the list
pub find-In : {X : Type 0} (test : X → Bool) (xs : List X) (x : X) → find test xs ≡ Some x → In x xs
find-In test [] x is = cc
find-In test (y ∷ ys) x is = elim (cases_Bool (test y)) [
  | inl passes ↦ let found : Some y ≡ Some x = rw passes at is in inl (cc)
  | inr fails ↦ inr (find-In test ys x (rw fails at is))
]

-- and passes
pub find-passes : {X : Type 0} (test : X → Bool) (xs : List X) (x : X) → find test xs ≡ Some x → test x ≡ true
find-passes test [] x is = cc
find-passes test (y ∷ ys) x is = elim (cases_Bool (test y)) [
  | inl passes ↦ let found : Some y ≡ Some x = rw passes at is in let same : y ≡ x = cc in ap test (sym same) ∙ passes
  | inr fails ↦ find-passes test ys x (rw fails at is)
]

-- what stands in a list in which nothing is found does not pass
pub find-none : {X : Type 0} (test : X → Bool) (xs : List X) (x : X) → find test xs ≡ None → In x xs → test x ≡ false
find-none test [] x none absent = absurd absent
find-none test (y ∷ ys) x none (inl same) = elim (cases_Bool (test y)) [
  | inl passes ↦ let found : Some y ≡ None = rw passes at none in absurd (cc)
  | inr fails ↦ ap test (sym same) ∙ fails
]
find-none test (y ∷ ys) x none (inr later) = elim (cases_Bool (test y)) [
  | inl passes ↦ let found : Some y ≡ None = rw passes at none in absurd (cc)
  | inr fails ↦ find-none test ys x (rw fails at none) later
]

-- where nothing passes, nothing is found
pub none_found : {X : Type 0} (test : X → Bool) (xs : List X) → ((x : X) → In x xs → test x ≡ false) → find test xs ≡ None
none_found test [] fails = refl
none_found test (y ∷ ys) fails = rw (fails y (inl refl)) (none_found test ys (λ x later. fails x (inr later)))

-- what passes at a place, where nothing before it does, is found
pub find-at : {X : Type 0} (test : X → Bool) (xs : List X) (k : ℕ) (x : X) → slice_get xs k ≡ Some x → test x ≡ true
    → ((j : ℕ) (y : X) → j < k → slice_get xs j ≡ Some y → test y ≡ false) → find test xs ≡ Some x
find-at test [] k x at passes before = cc
find-at {X} test (y ∷ ys) zero x at passes before =
    let same : y ≡ x = cc in ap (λ (t : Bool). cond t (Some y) (find test ys)) (ap test same ∙ passes) ∙ ap Some same
find-at test (y ∷ ys) (suc k) x at passes before =
    ap (λ (t : Bool). cond t (Some y) (find test ys)) (before 0 y (omega arith) refl)
    ∙ find-at test ys k x at passes (λ j z less there. before (suc j) z (omega arith) there)

-- the place of what is found lies in the list
pub position_from-below : {X : Type 0} (test : X → Bool) (n : ℕ) (xs : List X) (k : ℕ) → position_from test n xs ≡ Some k → k < n + length xs
position_from-below test n [] k found = absurd (cc)
position_from-below test n (x ∷ xs) k found = elim (cases_Bool (test x)) [
  | inl passes ↦ let here : Some n ≡ Some k = rw passes at found in let same : n ≡ k = cc in omega arith
  | inr fails ↦ let later = position_from-below test (n + 1) xs k (rw fails at found) in omega arith
]

-- what stands in a list in which no place is found does not pass
pub position_from-none : {X : Type 0} (test : X → Bool) (n : ℕ) (xs : List X) (x : X) → position_from test n xs ≡ None → In x xs → test x ≡ false
position_from-none test n [] x none absent = absurd absent
position_from-none test n (y ∷ ys) x none (inl same) = elim (cases_Bool (test y)) [
  | inl passes ↦ let found : Some n ≡ None = rw passes at none in absurd (cc)
  | inr fails ↦ ap test (sym same) ∙ fails
]
position_from-none test n (y ∷ ys) x none (inr later) = elim (cases_Bool (test y)) [
  | inl passes ↦ let found : Some n ≡ None = rw passes at none in absurd (cc)
  | inr fails ↦ position_from-none test (n + 1) ys x (rw fails at none) later
]

-- one more at the end, which fails, changes no place
pub position_from-push_fails : {X : Type 0} (test : X → Bool) (n : ℕ) (xs : List X) (y : X) → test y ≡ false
    → position_from test n (xs ++ y ∷ []) ≡ position_from test n xs
position_from-push_fails test n [] y fails = rw fails refl
position_from-push_fails test n (x ∷ xs) y fails = ap (λ (o : Option ℕ). cond (test x) (Some n) o) (position_from-push_fails test (n + 1) xs y fails)

-- and where no place was found before, one that passes has its own
pub position_from-push_passes : {X : Type 0} (test : X → Bool) (n : ℕ) (xs : List X) (y : X) → test y ≡ true → position_from test n xs ≡ None
    → position_from test n (xs ++ y ∷ []) ≡ Some (n + length xs)
position_from-push_passes test n [] y passes none = rw passes (ap (λ (k : ℕ). Some k) (omega arith))
position_from-push_passes test n (x ∷ xs) y passes none = elim (cases_Bool (test x)) [
  | inl here ↦ let found : Some n ≡ None = rw here at none in absurd (cc)
  | inr away ↦ rw away (position_from-push_passes test (n + 1) xs y passes (rw away at none) ∙ ap (λ (k : ℕ). Some k) (omega arith))
]

-- where there is nothing after a function, there was nothing before
pub option_map-none : {X Y : Type 0} (f : X → Y) (found : Option X) → option_map f found ≡ None → found ≡ None
option_map-none f None is = refl
option_map-none f (Some x) is = cc

-- where neither of two is taken, both are nothing
pub option_or-none : {X : Type 0} (first second : Option X) → option_or first second ≡ None → (first ≡ None) × (second ≡ None)
option_or-none None second is = (refl, is)
option_or-none (Some x) second is = cc

-- what follows from two facts of a value, where there is one
pub on_ok_both : {T E P Q R : Type 0} (result : Result T E) → (P → Q → R) → OnOk result P → OnOk result Q → OnOk result R
on_ok_both (Ok value) gives first second = gives first second
on_ok_both (Err error) gives first second = tt

-- what a filter keeps is no longer
pub length-filter : {X : Type 0} (test : X → Bool) (xs : List X) → length (filter test xs) ≤ length xs
length-filter test [] = omega arith
length-filter test (x ∷ xs) = let rest = length-filter test xs in elim (cases_Bool (test x)) [
  | inl passes ↦ rw passes (omega arith)
  | inr fails ↦ rw fails (omega arith)
]

-- a list of one thing
pub one_thing : {X : Type 0} (xs : List X) (d : X) → length xs ≡ 1 → xs ≡ get_or xs 0 d ∷ []
one_thing [] d one = absurd (omega arith)
one_thing (x ∷ []) d one = refl
one_thing (x ∷ y ∷ ys) d one = absurd (omega arith)

-- one more number at the end of a range
pub range_push : (a n : ℕ) → range_with_len a (n + 1) ≡ range_with_len a n ++ (a + n) ∷ []
range_push a n = ap (range_with_len a) (let next : n + 1 ≡ suc n = omega arith in next) ∙ one_more a n
  where
    one_more : (from more : ℕ) → range_with_len from (suc more) ≡ range_with_len from more ++ (from + more) ∷ []
    one_more from zero = ap (λ (k : ℕ). k ∷ []) (omega arith)
    one_more from (suc more) =
        ap (λ (v : List ℕ). from ∷ v) (one_more (from + 1) more ∙ ap (λ (k : ℕ). range_with_len (from + 1) more ++ k ∷ []) (omega arith))

-- the first number of a range, and the rest
pub range_split : (a n m : ℕ) → n ≡ m + 1 → range_with_len a n ≡ a ∷ range_with_len (a + 1) m
range_split a zero m more = absurd (omega arith)
range_split a (suc n) m more = ap (λ (k : ℕ). a ∷ range_with_len (a + 1) k) (omega arith)

-- what is left of a list, as its first thing and the rest
pub drop_split : {X : Type 0} (xs : List X) (i : ℕ) (x : X) → i < length xs → x ≡ get_or xs i x → drop i xs ≡ x ∷ drop (i + 1) xs
drop_split {X} xs i x inside is = rw add-one (drop-cons xs i x inside ∙ ap (λ (y : X). y ∷ drop (suc i) xs) (sym is))

-- one more number in a row
pub range_one_more : (n : ℕ) → range_with_len 0 (n + 1) ≡ range_with_len 0 n ++ n ∷ []
range_one_more n = range_push 0 n ∙ ap (λ (k : ℕ). range_with_len 0 n ++ k ∷ []) (omega arith)
