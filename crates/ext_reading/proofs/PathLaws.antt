-- Paths by their names.
use Rattle.ext_reading.proofs.Common.{◌≡◌, ◌<◌, ◌≤◌, ◌+◌, ◌-◌, ◌==◌, ℕ, Bool, true, false, cond, List, [], ◌∷◌, length, refl, sym, ap, ◌∙◌, arith}
use Rattle.ext_reading.proofs.Common.{take, drop, Some, None, nat_lt, position, position_or_len, before_first, nat_tests, slice_split_first}
use Rattle.ext_reading.proofs.Common.{slice_split_none, before, behind}
use Rattle.std.specs.List.{slice_split, after_first}
use Rattle.std.proofs.lemmas.List.{take_all, take_rest, drop_all}
use Rattle.std.proofs.lemmas.List.Sums.{fails_before_first}
use Rattle.ext_model.proofs.CutLaws.{behind-after}

place_is : (test : Bool) (k i : ℕ) → cond test (Some k) None ≡ Some i → (test ≡ true) × (k ≡ i)
place_is true k i e = (refl, cc)
place_is false k i e = absurd (let no : ⊥ = cc in no)

no_place : (test : Bool) (k : ℕ) → cond test (Some k) None ≡ None → test ≡ false
no_place true k e = absurd (let no : ⊥ = cc in no)
no_place false k e = refl

-- a list is split at the place that is found
pub split_found : {X : Type 0} (test : X → Bool) (xs : List X) (i : ℕ) → 0 < length xs → position test xs ≡ Some i
    → slice_split test xs ≡ before_first test xs ∷ slice_split test (after_first test xs)
split_found test [] i some e = absurd (omega arith)
split_found test (x ∷ xs) i some e =
    let found = place_is (nat_lt (position_or_len test (x ∷ xs)) (length (x ∷ xs))) (position_or_len test (x ∷ xs)) i e in
    slice_split_first test (x ∷ xs) x (let is = found.0 in grind (arith, nat_tests))

-- where no place is found, nothing is split
pub split_nowhere : {X : Type 0} (test : X → Bool) (xs : List X) → position test xs ≡ None → slice_split test xs ≡ xs ∷ []
split_nowhere test xs e =
    let none = no_place (nat_lt (position_or_len test xs) (length xs)) (position_or_len test xs) e in
    slice_split_none test xs (λ k d m. fails_before_first test xs k d (let far : length xs ≤ position_or_len test xs = grind (arith, nat_tests) in omega arith))

-- the parts on the two sides of the place
pub split_at_place : {X : Type 0} (test : X → Bool) (xs : List X) (i : ℕ) → position test xs ≡ Some i
    → slice_split test xs ≡ take i xs ∷ slice_split test (take (length xs - (i + 1)) (drop (i + 1) xs))
split_at_place test [] i e = absurd (let no : ⊥ = cc in no)
split_at_place test (x ∷ xs) i e =
    let found = place_is (nat_lt (position_or_len test (x ∷ xs)) (length (x ∷ xs))) (position_or_len test (x ∷ xs)) i e in
    split_found test (x ∷ xs) i (omega arith) e
    ∙ ap (λ (k : ℕ). take k (x ∷ xs) ∷ slice_split test (drop (k + 1) (x ∷ xs))) found.1
    ∙ ap (λ l. take i (x ∷ xs) ∷ slice_split test l) (sym (take_rest (x ∷ xs) (i + 1)))

-- what stands before the first such byte, and behind it, by its place
pub before_found : (mark : ℕ) (text : List ℕ) (at : ℕ) → position (λ byte. byte == mark) text ≡ Some at → take at text ≡ before mark text
before_found mark text at e =
    let test : ℕ → Bool = λ byte. byte == mark in
    let found = place_is (nat_lt (position_or_len test text) (length text)) (position_or_len test text) at e in
    ap (λ (k : ℕ). take k text) (sym found.1)

pub behind_found : (mark : ℕ) (text : List ℕ) (at : ℕ) → position (λ byte. byte == mark) text ≡ Some at
    → take (length text - (at + 1)) (drop (at + 1) text) ≡ behind mark text
behind_found mark text at e =
    let test : ℕ → Bool = λ byte. byte == mark in
    let found = place_is (nat_lt (position_or_len test text) (length text)) (position_or_len test text) at e in
    take_rest text (at + 1) ∙ (ap (λ (k : ℕ). drop (k + 1) text) (sym found.1) ∙ sym (behind-after mark text))

-- and where there is none
far : (test : ℕ → Bool) (text : List ℕ) → position test text ≡ None → length text ≤ position_or_len test text
far test text e = let none = no_place (nat_lt (position_or_len test text) (length text)) (position_or_len test text) e in grind (arith, nat_tests)

pub before_whole : (mark : ℕ) (text : List ℕ) → position (λ byte. byte == mark) text ≡ None → text ≡ before mark text
before_whole mark text e =
    let test : ℕ → Bool = λ byte. byte == mark in
    sym (take_all (position_or_len test text) text (far test text e))

pub behind_nothing : (mark : ℕ) (text : List ℕ) → position (λ byte. byte == mark) text ≡ None → [] ≡ behind mark text
behind_nothing mark text e =
    let test : ℕ → Bool = λ byte. byte == mark in
    let past = far test text e in
    sym (drop_all (position_or_len test text + 1) text (omega (arith, past))) ∙ sym (behind-after mark text)
