-- The first words of a line, one more at a time.
use Rattle.script_lines.proofs.Common.{◌≡◌, ◌∙◌, sym, ap, ℕ, ℤ, zero, suc, Bool, true, false, List, [], ◌∷◌, ◌++◌, Some, None, take, drop, map}
use Rattle.script_lines.proofs.Common.{arith, refl, length, ◌&&◌, if◌then◌else◌, list_all, and_from, behind, behind_word, is_number, number_in}
use Rattle.script_lines.proofs.Common.{begins_with_numbers, fitting, is_fitting}
use Rattle.std.proofs.Common.{◌+◌, ◌<◌}
use Rattle.std.proofs.Common.{set, add-one}
use Rattle.std.proofs.Math.Bool.{and-true}
use Rattle.std.proofs.lemmas.List.{take_more_set, map-append}
use Rattle.std.proofs.lemmas.List.Folds.{list_all-append}

behind-suc : (count : ℕ) (line : List ℕ) → behind_word (behind count line) ≡ behind (suc count) line
behind-suc zero line = refl
behind-suc (suc count) line = behind-suc count (behind_word line)

take-suc : (i : ℕ) (words : List (List ℕ)) (word : List ℕ) (more : List (List ℕ)) → drop i words ≡ word ∷ more → take (suc i) words ≡ take i words ++ word ∷ []
take-suc zero [] word more e = cc
take-suc zero (w ∷ words) word more e = let same : w ≡ word = cc in ap (λ (x : List ℕ). x ∷ []) same
take-suc (suc i) [] word more e = cc
take-suc (suc i) (w ∷ words) word more e = ap (λ (l : List (List ℕ)). w ∷ l) (take-suc i words word more e)

drop-suc : (i : ℕ) (words : List (List ℕ)) (word : List ℕ) (more : List (List ℕ)) → drop i words ≡ word ∷ more → drop (suc i) words ≡ more
drop-suc zero [] word more e = cc
drop-suc zero (w ∷ words) word more e = cc
drop-suc (suc i) [] word more e = cc
drop-suc (suc i) (w ∷ words) word more e = drop-suc i words word more e

pub second : (a b : Bool) → (a && b) ≡ true → b ≡ true
second true b p = p
second false b p = cc

pub first : (a b : Bool) → (a && b) ≡ true → a ≡ true
first true b p = refl
first false b p = p

pub second-fails : (a b : Bool) → b ≡ false → (a && b) ≡ false
second-fails true b p = p
second-fails false b p = refl

begins-suc : (i : ℕ) (words : List (List ℕ)) (word : List ℕ) (more : List (List ℕ)) → begins_with_numbers i words ≡ true →
    drop i words ≡ word ∷ more → is_number word ≡ true → begins_with_numbers (suc i) words ≡ true
begins-suc zero [] word more begun e good = cc
begins-suc zero (w ∷ words) word more begun e good = and_from (is_number w) true (let same : w ≡ word = cc in ap is_number same ∙ good) refl
begins-suc (suc i) [] word more begun e good = cc
begins-suc (suc i) (w ∷ words) word more begun e good =
    and_from (is_number w) (begins_with_numbers (suc i) words) (first (is_number w) (begins_with_numbers i words) begun)
    (begins-suc i words word more (second (is_number w) (begins_with_numbers i words) begun) e good)

-- one word more is taken off the line
pub behind-next : (count : ℕ) (line : List ℕ) → behind_word (behind count line) ≡ behind (count + 1) line
behind-next count line = rw add-one (behind-suc count line)

pub take-next : (i : ℕ) (words : List (List ℕ)) (word : List ℕ) (more : List (List ℕ)) → drop i words ≡ word ∷ more →
    take (i + 1) words ≡ take i words ++ word ∷ []
take-next i words word more e = rw add-one (take-suc i words word more e)

pub drop-next : (i : ℕ) (words : List (List ℕ)) (word : List ℕ) (more : List (List ℕ)) → drop i words ≡ word ∷ more → drop (i + 1) words ≡ more
drop-next i words word more e = rw add-one (drop-suc i words word more e)

pub begins-next : (i : ℕ) (words : List (List ℕ)) (word : List ℕ) (more : List (List ℕ)) → begins_with_numbers i words ≡ true →
    drop i words ≡ word ∷ more → is_number word ≡ true → begins_with_numbers (i + 1) words ≡ true
begins-next i words word more begun e good = rw add-one (begins-suc i words word more begun e good)

-- the line ends before the last of them
pub begins-ends : (i n : ℕ) (words : List (List ℕ)) → i < n → drop i words ≡ [] → begins_with_numbers n words ≡ false
begins-ends i zero words below e = absurd (omega arith)
begins-ends zero (suc n) [] below e = refl
begins-ends zero (suc n) (w ∷ words) below e = cc
begins-ends (suc i) (suc n) [] below e = refl
begins-ends (suc i) (suc n) (w ∷ words) below e = second-fails (is_number w) (begins_with_numbers n words) (begins-ends i n words (omega arith) e)

-- one of them is no number
pub begins-breaks : (i n : ℕ) (words : List (List ℕ)) (word : List ℕ) (more : List (List ℕ)) → i < n → drop i words ≡ word ∷ more →
    is_number word ≡ false → begins_with_numbers n words ≡ false
begins-breaks i zero words word more below e bad = absurd (omega arith)
begins-breaks zero (suc n) [] word more below e bad = refl
begins-breaks zero (suc n) (w ∷ words) word more below e bad =
    let same : is_number w ≡ false = (let one : w ≡ word = cc in ap is_number one ∙ bad) in ap (λ (b : Bool). b && begins_with_numbers n words) same
begins-breaks (suc i) (suc n) [] word more below e bad = refl
begins-breaks (suc i) (suc n) (w ∷ words) word more below e bad =
    second-fails (is_number w) (begins_with_numbers n words) (begins-breaks i n words word more (omega arith) e bad)

some_fits : (b : Bool) (z v : ℤ) → (if b then Some z else None) ≡ Some v → (b ≡ true) × (z ≡ v)
some_fits true z v e = (refl, (cc))
some_fits false z v e = cc

none_fits : (b : Bool) (z : ℤ) → (if b then Some z else None) ≡ None → b ≡ false
none_fits true z e = cc
none_fits false z e = refl

all-next : (i : ℕ) (words : List (List ℕ)) (word : List ℕ) (more : List (List ℕ)) → drop i words ≡ word ∷ more →
    list_all is_fitting (take (i + 1) words) ≡ (list_all is_fitting (take i words) && (is_fitting word && true))
all-next i words word more e = ap (list_all is_fitting) (take-next i words word more e) ∙ list_all-append is_fitting (take i words) (word ∷ [])

-- one number more is in the range
pub fit-some : (i : ℕ) (words : List (List ℕ)) (word : List ℕ) (more : List (List ℕ)) (v : ℤ) (fit : Bool) → drop i words ≡ word ∷ more →
    fitting (number_in word) ≡ Some v → fit ≡ list_all is_fitting (take i words) → fit ≡ list_all is_fitting (take (i + 1) words)
fit-some i words word more v fit e here known =
    let one : (is_fitting word && true) ≡ true = and_from (is_fitting word) true (some_fits (is_fitting word) (number_in word) v here).0 refl in
    sym (all-next i words word more e ∙ ap (λ (b : Bool). list_all is_fitting (take i words) && b) one
    ∙ and-true (list_all is_fitting (take i words)) ∙ sym known)

-- one number more is not
pub fit-none : (i : ℕ) (words : List (List ℕ)) (word : List ℕ) (more : List (List ℕ)) → drop i words ≡ word ∷ more →
    fitting (number_in word) ≡ None → list_all is_fitting (take (i + 1) words) ≡ false
fit-none i words word more e here =
    let one : (is_fitting word && true) ≡ false = ap (λ (b : Bool). b && true) (none_fits (is_fitting word) (number_in word) here) in
    all-next i words word more e ∙ second-fails (list_all is_fitting (take i words)) (is_fitting word && true) one

-- one number more is written down
pub values-some : (i : ℕ) (words : List (List ℕ)) (word : List ℕ) (more : List (List ℕ)) (v : ℤ) (values : List ℤ) → drop i words ≡ word ∷ more →
    fitting (number_in word) ≡ Some v → i < length values → take i values ≡ map number_in (take i words) →
    take (i + 1) (set values i v) ≡ map number_in (take (i + 1) words)
values-some i words word more v values e here below known =
    take_more_set values i v below
    ∙ ap (λ (l : List ℤ). l ++ v ∷ []) known
    ∙ ap (λ (z : ℤ). map number_in (take i words) ++ z ∷ []) (sym (some_fits (is_fitting word) (number_in word) v here).1)
    ∙ sym (map-append number_in (take i words) (word ∷ []))
    ∙ ap (map number_in) (sym (take-next i words word more e))
