-- The set of names grows as the list of cells does.
use Rattle.cell_loading.proofs.Common.{◌≡◌, ℕ, Bool, true, false, List, [], ◌∷◌, ◌++◌, refl, sym, ap, ◌∙◌, ◌||◌, list_any, bytes_eq, same_text}
use Rattle.cell_loading.proofs.Common.{map-append, CellBody, names_in}
use Rattle.std.specs.Prelude.{not, Vec, MatchBool}
use Rattle.std.specs.List.Sorted.{IsPermutation}
use Rattle.std.specs.declared.alloc.Global.{Global}
use Rattle.std.proofs.lemmas.List.Folds.{list_any-append}
use Rattle.std.proofs.lemmas.List.Sorted.{list_any-IsPermutation}
use Rattle.mag_text.proofs.UseIdLaws.{or_same, or_swapped}
use Rattle.cell_loading.specs.steps.ReadCells.{AreNamesOf}

abbrev is_word : List ℕ → Vec ℕ Global → Bool
is_word name word = bytes_eq name word.items

abbrev has_name : List ℕ → List (List ℕ × CellBody) → Bool
has_name name cells = list_any (bytes_eq name) (names_in cells)

-- a cell at the end has its name beside those of the others
has_name-push : (name : List ℕ) (cells : List (List ℕ × CellBody)) (cell : List ℕ × CellBody)
    → has_name name (cells ++ cell ∷ []) ≡ (has_name name cells || (bytes_eq name cell.0 || false))
has_name-push name cells cell =
    ap (list_any (bytes_eq name)) (map-append (λ (c : List ℕ × CellBody). c.0) cells (cell ∷ []))
    ∙ list_any-append (bytes_eq name) (names_in cells) (cell.0 ∷ [])

not_false : (b : Bool) → false ≡ not b → b ≡ true
not_false true none = refl
not_false false none = none

-- the set with one more word, or with a word that it has, has the names of the cells with one more
AreNamesOf-push : (key : Vec ℕ Global) (old new : List (Vec ℕ Global)) (cells : List (List ℕ × CellBody)) (cell : List ℕ × CellBody) (added : Bool)
    → AreNamesOf old cells → key.items ≡ cell.0 → added ≡ not (list_any (is_word key.items) old)
    → MatchBool added (IsPermutation (key ∷ old) new) (new ≡ old) → AreNamesOf new (cells ++ cell ∷ [])
AreNamesOf-push key old new cells cell true are is fresh put = λ name.
    sym (list_any-IsPermutation (is_word name) (key ∷ old) new put)
    ∙ ap (λ (b : Bool). bytes_eq name key.items || b) (are name)
    ∙ ap (λ (word : List ℕ). bytes_eq name word || has_name name cells) is
    ∙ or_swapped (bytes_eq name cell.0) (has_name name cells) ∙ sym (has_name-push name cells cell)
AreNamesOf-push key old new cells cell false are is fresh put = λ name.
    let there : list_any (is_word key.items) old ≡ true = not_false _ fresh in
    let known : has_name cell.0 cells ≡ true = sym (ap (λ (word : List ℕ). has_name word cells) is) ∙ sym (are key.items) ∙ there in
    ap (list_any (is_word name)) put ∙ are name
    ∙ or_same (bytes_eq name cell.0) (has_name name cells)
    (λ same. ap (λ (word : List ℕ). has_name word cells) (same_text name cell.0 (sym same)) ∙ known)
    ∙ sym (has_name-push name cells cell)

-- the same, where the list of cells and the set are those that calls left
pub AreNamesOf-added : (key : Vec ℕ Global) (old new : List (Vec ℕ Global)) (cells before after : List (List ℕ × CellBody)) (cell : List ℕ × CellBody)
    (added : Bool) (bytes : List ℕ) → AreNamesOf old cells → key.items ≡ bytes → bytes ≡ cell.0 → added ≡ not (list_any (is_word key.items) old)
    → MatchBool added (IsPermutation (key ∷ old) new) (new ≡ old) → before ≡ cells → after ≡ before ++ cell ∷ [] → AreNamesOf new after
AreNamesOf-added key old new cells before after cell added bytes are is of fresh put same pushed = λ name.
    let all : after ≡ cells ++ cell ∷ [] = pushed ∙ ap (λ (c : List (List ℕ × CellBody)). c ++ cell ∷ []) same in
    AreNamesOf-push key old new cells cell added are (is ∙ of) fresh put name ∙ sym (ap (has_name name) all)
