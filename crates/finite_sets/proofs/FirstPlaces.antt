-- The first places of lists at which tests pass.
use Rattle.std.proofs.Common.{◌≡◌, ◌+◌, ◌-◌, ◌<◌, ◌≤◌, ℕ, zero, suc, Bool, true, false, not, cond, ◌||◌, List, [], ◌∷◌, length, get_or, refl, sym, ap, ◌∙◌}
use Rattle.std.proofs.Common.{arith, inl, inr}
use Rattle.std.specs.Prelude.{Decides, Some, slice_get, unwrap_or, None}
use Rattle.std.specs.List.{list_any, position_from, position_or_len, position}
use Rattle.std.proofs.lemmas.Bool.{both_ways, cases_Bool, cases_lt, le-ltb, lt-ltb}
use Rattle.std.proofs.lemmas.List.Sums.{prefix_len-le-length}
use Rattle.finite_sets.specs.Lists.{In, Distinct}
use Rattle.finite_sets.proofs.Places.{one_place}
use Rattle.finite_sets.proofs.Searches.{list_any-In}

-- the first place is where a test passes and passed at no place before
pub first_place : {X : Type 0} (test : X → Bool) (xs : List X) (k : ℕ) (x : X) → slice_get xs k ≡ Some x → test x ≡ true
    → ((j : ℕ) (y : X) → j < k → slice_get xs j ≡ Some y → test y ≡ false) → position_or_len test xs ≡ k
first_place test [] k x at passes before = absurd (let no : ⊥ = cc in no)
first_place test (y ∷ ys) zero x at passes before =
    let same : y ≡ x = cc in
    ap (λ (t : Bool). cond (not t) (1 + position_or_len test ys) 0) (ap test same ∙ passes)
first_place test (y ∷ ys) (suc k) x at passes before =
    let rest = first_place test ys k x at passes (λ j z less there. before (suc j) z (omega arith) there) in
    ap (λ (t : Bool). cond (not t) (1 + position_or_len test ys) 0) (before 0 y (omega arith) refl) ∙ omega arith

-- where it passes nowhere, that is the length
pub no_place : {X : Type 0} (test : X → Bool) (xs : List X) → list_any test xs ≡ false → position_or_len test xs ≡ length xs
no_place test [] none = refl
no_place test (x ∷ xs) none = elim (cases_Bool (test x)) [
  | inl passes ↦ absurd (both_ways (test x) (list_any-In test (x ∷ xs) x none (inl refl)) passes)
  | inr fails ↦ (
      let rest = no_place test xs (ap (λ (t : Bool). t || list_any test xs) (sym fails) ∙ none) in
      ap (λ (t : Bool). cond (not t) (1 + position_or_len test xs) 0) fails ∙ omega arith)
]

-- where nothing stands twice, a thing is found where it stands
pub place_of : {X : Type 0} (eq : X → X → Bool) → ((a b : X) → Decides (eq a b) (a ≡ b)) → (xs : List X) (k : ℕ) (x : X) → Distinct xs
    → slice_get xs k ≡ Some x → position_or_len (eq x) xs ≡ k
place_of eq decides xs k x once at =
    first_place (eq x) xs k x at ((decides x x).1 refl) (λ j y less there. elim (cases_Bool (eq x y)) [
      | inl passes ↦ (
          let same : x ≡ y = (decides x y).0 passes in
          let one : j ≡ k = one_place xs j k x once (there ∙ ap Some (sym same)) at in
          absurd (omega arith))
      | inr fails ↦ fails
    ])

-- what stands in a list stands at its first place
pub found_at : {X : Type 0} (eq : X → X → Bool) → ((a b : X) → Decides (eq a b) (a ≡ b)) → (x : X) (xs : List X) → In x xs
    → slice_get xs (position_or_len (eq x) xs) ≡ Some x
found_at eq decides x [] among = absurd among
found_at {X} eq decides x (y ∷ ys) among = elim (cases_Bool (eq x y)) [
  | inl passes ↦
      ap (λ (t : Bool). slice_get (y ∷ ys) (cond (not t) (1 + position_or_len (eq x) ys) 0)) passes ∙ ap Some (sym ((decides x y).0 passes))
  | inr fails ↦ (
      let more : 1 + position_or_len (eq x) ys ≡ suc (position_or_len (eq x) ys) = omega arith in
      ap (λ (t : Bool). slice_get (y ∷ ys) (cond (not t) (1 + position_or_len (eq x) ys) 0)) fails ∙ ap (slice_get (y ∷ ys)) more
      ∙ found_at eq decides x ys (later among fails))
]
  where
    later : In x (y ∷ ys) → eq x y ≡ false → In x ys
    later (inl same) fails = absurd (both_ways (eq x y) fails ((decides x y).1 (sym same)))
    later (inr there) fails = there

-- the first place that passes
pub position_at : {X : Type 0} (test : X → Bool) (i : ℕ) (xs : List X) (j : ℕ) (d : X) → j < length xs → test (get_or xs j d) ≡ true
    → ((k : ℕ) → k < j → test (get_or xs k d) ≡ false) → position_from test i xs ≡ Some (i + j)
position_at test i [] j d inside here before = absurd (omega arith)
position_at test i (x ∷ xs) zero d inside here before = rw here (ap (λ (n : ℕ). Some n) (omega arith))
position_at test i (x ∷ xs) (suc j) d inside here before =
    rw (before 0 (omega arith)) (position_at test (i + 1) xs j d (omega arith) here (λ k below. before (suc k) (omega arith))
    ∙ ap (λ (n : ℕ). Some n) (omega arith))

-- a place that is found passes
pub position_found : {X : Type 0} (test : X → Bool) (i : ℕ) (xs : List X) (k : ℕ) (d : X) → position_from test i xs ≡ Some k
    → (i ≤ k) × (k < i + length xs) × (test (get_or xs (k - i) d) ≡ true)
position_found test i [] k d is = cc
position_found test i (x ∷ xs) k d is = elim (cases_Bool (test x)) [
  | inl passes ↦
      let same : Some i ≡ Some k = rw passes at is in
      let place : i ≡ k = cc in
      let first : k - i ≡ 0 = omega arith in
      (omega arith, omega arith, rw first passes)
  | inr fails ↦
      let found = position_found test (i + 1) xs k d (rw fails at is) in
      let low : i + 1 ≤ k = found.0 in
      let high : k < i + 1 + length xs = found.1 in
      let next : k - i ≡ suc (k - (i + 1)) = omega arith in
      (omega arith, omega arith, rw next found.2)
]

-- the place that is found, or else the length, is the first place or the length
pub found_or_length : {X : Type 0} (test : X → Bool) (xs : List X) → unwrap_or (position test xs) (length xs) ≡ position_or_len test xs
found_or_length test xs = elim (cases_lt (position_or_len test xs) (length xs)) [
  | inl below ↦ ap (λ (b : Bool). unwrap_or (cond b (Some (position_or_len test xs)) None) (length xs)) (lt-ltb (position_or_len test xs) (length xs) below)
  | inr past ↦ (
      let most = prefix_len-le-length (λ x. not (test x)) xs in
      let same : length xs ≡ position_or_len test xs = omega arith in
      ap (λ (b : Bool). unwrap_or (cond b (Some (position_or_len test xs)) None) (length xs)) (le-ltb (position_or_len test xs) (length xs) past) ∙ same)
]
