-- The set of ids grows as the list of uses does.
use Rattle.mag_text.proofs.Common.{◌≡◌, ℕ, Bool, true, false, List, [], ◌∷◌, ◌++◌, refl, sym, ap, ◌∙◌, ◌||◌, not, list_any, bytes_eq, Global}
use Rattle.mag_text.proofs.Common.{same_text, CellUse, ids_of, has_id}
use Rattle.std.specs.Prelude.{Vec, MatchBool}
use Rattle.std.specs.List.Sorted.{IsPermutation}
use Rattle.std.proofs.lemmas.List.{map-append}
use Rattle.std.proofs.lemmas.List.Folds.{list_any-append}
use Rattle.std.proofs.lemmas.List.Sorted.{list_any-IsPermutation}
use Rattle.mag_text.specs.steps.UseIds.{AreIds}

abbrev is_word : List ℕ → Vec ℕ Global → Bool
is_word id word = bytes_eq id word.items

pub or_swapped : (x y : Bool) → (x || y) ≡ (y || (x || false))
or_swapped true true = refl
or_swapped true false = refl
or_swapped false true = refl
or_swapped false false = refl

pub or_same : (x y : Bool) → (x ≡ true → y ≡ true) → y ≡ (y || (x || false))
or_same true true implies = refl
or_same true false implies = implies refl
or_same false true implies = refl
or_same false false implies = refl

-- a use at the end has its id beside those of the others
pub has_id-push : (id : List ℕ) (uses : List CellUse) (placed : CellUse)
    → has_id id (uses ++ placed ∷ []) ≡ (has_id id uses || (bytes_eq id placed.id || false))
has_id-push id uses placed =
    ap (list_any (bytes_eq id)) (map-append (λ (u : CellUse). u.id) uses (placed ∷ [])) ∙ list_any-append (bytes_eq id) (ids_of uses) (placed.id ∷ [])

same_id : (a b : List ℕ) → bytes_eq a b ≡ true → a ≡ b
same_id a b is = same_text a b (sym is)

not_false : (b : Bool) → false ≡ not b → b ≡ true
not_false true none = refl
not_false false none = none

-- the set with one more word, or with a word that it has, has the ids of the uses with one more
pub AreIds-push : (key : Vec ℕ Global) (old new : List (Vec ℕ Global)) (uses : List CellUse) (placed : CellUse) (added : Bool)
    → AreIds old uses → key.items ≡ placed.id → added ≡ not (list_any (is_word key.items) old)
    → MatchBool added (IsPermutation (key ∷ old) new) (new ≡ old) → AreIds new (uses ++ placed ∷ [])
AreIds-push key old new uses placed true are is fresh put = λ id.
    sym (list_any-IsPermutation (is_word id) (key ∷ old) new put)
    ∙ ap (λ (b : Bool). bytes_eq id key.items || b) (are id)
    ∙ ap (λ (word : List ℕ). bytes_eq id word || has_id id uses) is
    ∙ or_swapped (bytes_eq id placed.id) (has_id id uses) ∙ sym (has_id-push id uses placed)
AreIds-push key old new uses placed false are is fresh put = λ id.
    let there : list_any (is_word key.items) old ≡ true = not_false _ fresh in
    let known : has_id placed.id uses ≡ true = sym (ap (λ (word : List ℕ). has_id word uses) is) ∙ sym (are key.items) ∙ there in
    ap (list_any (is_word id)) put ∙ are id
    ∙ or_same (bytes_eq id placed.id) (has_id id uses) (λ same. ap (λ (word : List ℕ). has_id word uses) (same_id id placed.id same) ∙ known)
    ∙ sym (has_id-push id uses placed)

-- the same, where the list of uses and the set are those that calls left
pub AreIds-added : (key : Vec ℕ Global) (old new : List (Vec ℕ Global)) (uses before after : List CellUse) (placed : CellUse) (added : Bool) (bytes : List ℕ)
    → AreIds old uses → key.items ≡ bytes → bytes ≡ placed.id → added ≡ not (list_any (is_word key.items) old)
    → MatchBool added (IsPermutation (key ∷ old) new) (new ≡ old) → before ≡ uses → after ≡ before ++ placed ∷ [] → AreIds new after
AreIds-added key old new uses before after placed added bytes are is of fresh put same pushed = λ id.
    let all : after ≡ uses ++ placed ∷ [] = pushed ∙ ap (λ (u : List CellUse). u ++ placed ∷ []) same in
    AreIds-push key old new uses placed added are (is ∙ of) fresh put id ∙ sym (ap (has_id id) all)
