-- The paths of a lawful record are paths of its file.
use Rattle.ext_reading.proofs.Common.{◌≡◌, ◌+◌, ◌==◌, ◌&&◌, ◌||◌, ℕ, Bool, true, false, cond, List, [], ◌∷◌, ◌++◌, length, take, refl, sym, ap, ◌∙◌}
use Rattle.ext_reading.proofs.Common.{subst, arith, inl, inr, length-append, All, list_all, list_any, before_first, position_or_len, bytes_eq}
use Rattle.ext_reading.proofs.Common.{and_parts, nat_tests, list_any_none, list_all-append, slice_split_none, slice_split_at, position_or_len_is}
use Rattle.ext_reading.proofs.Common.{sum_by-cons, bytes_eq-Decides, In, All-from_In, list_any-of_absent, SLASH, is_word_byte, is_word, slashes_in}
use Rattle.ext_reading.proofs.Common.{is_node_name, path_text, is_among, is_slash, is_path, leads}
use Rattle.std.specs.List.{count_by, slice_split}
use Rattle.std.proofs.Math.Seq.{take-append_seam, get_or-append_seam}
use Rattle.std.proofs.Math.ListN.{get_or-append}
use Rattle.std.proofs.lemmas.List.Folds.{list_any-append}
use Rattle.ext_reading.proofs.Outcomes.{Each}
use Rattle.ext_reading.proofs.WrittenWords.{word_bytes, node_name_word}

-- a name that is there is among them, and one that is not is not
pub is_among-In : (name : List ℕ) (names : List (List ℕ)) → In name names → is_among name names ≡ true
is_among-In name [] h = absurd h
is_among-In name (n ∷ names) (inl e) = ap (λ (t : Bool). t || is_among name names) ((bytes_eq-Decides name n).1 (sym e))
is_among-In name (n ∷ names) (inr h) = later (bytes_eq name n) (is_among-In name names h)
  where
    later : (t : Bool) → is_among name names ≡ true → (t || is_among name names) ≡ true
    later true e = refl
    later false e = e

pub is_among-not : (name : List ℕ) (names : List (List ℕ)) → (In name names → ⊥) → is_among name names ≡ false
is_among-not name names absent = list_any-of_absent bytes_eq bytes_eq-Decides name names absent

-- the name of a node has no slash
no_slash_in : (name : List ℕ) → count_by is_slash name ≡ 0 → Each (λ byte. is_slash byte ≡ false) name
no_slash_in [] none = λ byte h. absurd h
no_slash_in (b ∷ name) none = λ byte h. step (is_slash b) refl (sym (sum_by-cons (λ x. cond (is_slash x) 1 0) b name) ∙ none) byte h (no_slash_in name)
  where
    step : (t : Bool) → is_slash b ≡ t → cond t 1 0 + count_by is_slash name ≡ 0 → (byte : ℕ) → In byte (b ∷ name)
        → (count_by is_slash name ≡ 0 → Each (λ byte. is_slash byte ≡ false) name) → is_slash byte ≡ false
    step true is e byte h later = absurd (omega arith)
    step false is e byte (inl same) later = subst (λ (k : ℕ). is_slash k ≡ false) same is
    step false is e byte (inr h) later = later (omega arith) byte h

pub no_slash : (name : List ℕ) → is_node_name name ≡ true → All (λ byte. is_slash byte ≡ false) name
no_slash name is =
    let none = (and_parts (is_word name) (slashes_in name == 0) is).1 in
    All-from_In (λ byte. is_slash byte ≡ false) name (no_slash_in name (let zero_is : slashes_in name ≡ 0 = grind (arith, nat_tests) in zero_is))

-- the names of a path
split_text : (ids : List (List ℕ)) (name : List ℕ) → Each (λ id. is_node_name id ≡ true) ids → is_node_name name ≡ true
    → slice_split is_slash (path_text ids name) ≡ ids ++ name ∷ []
split_text [] name all is = slice_split_none is_slash name (no_slash name is)
split_text (id ∷ ids) name all is =
    slice_split_at is_slash id SLASH (path_text ids name) (no_slash id (all id (inl refl))) refl
    ∙ ap (λ l. id ∷ l) (split_text ids name (λ n h. all n (inr h)) is)

all_named : (ids : List (List ℕ)) (name : List ℕ) → Each (λ id. is_node_name id ≡ true) ids → is_node_name name ≡ true
    → list_all is_node_name (ids ++ name ∷ []) ≡ true
all_named [] name all is = ap (λ (t : Bool). t && true) is
all_named (id ∷ ids) name all is =
    ap (λ (t : Bool). t && list_all is_node_name (ids ++ name ∷ [])) (all id (inl refl)) ∙ all_named ids name (λ n h. all n (inr h)) is

pub is_path-text : (ids : List (List ℕ)) (name : List ℕ) → Each (λ id. is_node_name id ≡ true) ids → is_node_name name ≡ true
    → is_path (path_text ids name) ≡ true
is_path-text ids name all is = ap (list_all is_node_name) (split_text ids name all is) ∙ all_named ids name all is

-- the bytes of a path
pub bytes_of_path : (ids : List (List ℕ)) (name : List ℕ) → Each (λ id. is_node_name id ≡ true) ids → is_node_name name ≡ true
    → list_all is_word_byte (path_text ids name) ≡ true
bytes_of_path [] name all is = word_bytes name (node_name_word name is)
bytes_of_path (id ∷ ids) name all is =
    list_all-append is_word_byte id (SLASH ∷ path_text ids name)
    ∙ (ap (λ (t : Bool). t && list_all is_word_byte (SLASH ∷ path_text ids name)) (word_bytes id (node_name_word id (all id (inl refl))))
    ∙ bytes_of_path ids name (λ n h. all n (inr h)) is)

-- a path with a slash, by its first name
pub slashed : (id rest : List ℕ) → list_any is_slash (id ++ SLASH ∷ rest) ≡ true
slashed id rest = list_any-append is_slash id (SLASH ∷ rest) ∙ either (list_any is_slash id)
  where
    either : (t : Bool) → (t || true) ≡ true
    either true = refl
    either false = refl

pub first_name_is : (id rest : List ℕ) → All (λ byte. is_slash byte ≡ false) id → before_first is_slash (id ++ SLASH ∷ rest) ≡ id
first_name_is id rest none =
    let place : position_or_len is_slash (id ++ SLASH ∷ rest) ≡ length id =
    position_or_len_is is_slash (id ++ SLASH ∷ rest) (length id) 0 (omega (arith, length-append id (SLASH ∷ rest)))
    (λ k below. ap is_slash (get_or-append id (SLASH ∷ rest) 0 k below) ∙ none k 0 below)
    (λ inside. ap is_slash (get_or-append_seam id SLASH rest 0)) in
    ap (λ (k : ℕ). take k (id ++ SLASH ∷ rest)) place ∙ take-append_seam id (SLASH ∷ rest)

pub leads-text : (elements names : List (List ℕ)) (id : List ℕ) (ids : List (List ℕ)) (name : List ℕ) → is_node_name id ≡ true → In id elements
    → leads elements names (path_text (id ∷ ids) name) ≡ true
leads-text elements names id ids name is there =
    let path = id ++ SLASH ∷ path_text ids name in
    ap (λ (t : Bool). cond t (is_among (before_first is_slash path) elements) (is_among path names)) (slashed id (path_text ids name))
    ∙ (ap (λ first. is_among first elements) (first_name_is id (path_text ids name) (no_slash id is)) ∙ is_among-In id elements there)

-- one without
pub is_path-name : (name : List ℕ) → is_node_name name ≡ true → is_path name ≡ true
is_path-name name is = is_path-text [] name (λ n h. absurd h) is

pub leads-name : (elements names : List (List ℕ)) (name : List ℕ) → is_node_name name ≡ true → In name names → leads elements names name ≡ true
leads-name elements names name is there =
    ap (λ (t : Bool). cond t (is_among (before_first is_slash name) elements) (is_among name names)) (list_any_none is_slash name (no_slash name is))
    ∙ is_among-In name names there
