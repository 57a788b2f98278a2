-- The second paths of a row of merges: each is of its form, and where each leads.
use Rattle.ext_reading.proofs.Common.{◌≡◌, ◌≤◌, ◌<◌, ◌&&◌, ◌==◌, ℕ, zero, suc, ℤ, pos, Bool, true, false, cond, Option, List, [], ◌∷◌, ◌++◌, refl}
use Rattle.ext_reading.proofs.Common.{sym, ap, ◌∙◌, subst, arith, inl, inr, append_assoc, IsTrue, length, length-append, Some, None, All, nat_le}
use Rattle.ext_reading.proofs.Common.{list_all, before_first, range_with_len, and_parts, le-leb, list_all-append, slice_split_at, All-from_In}
use Rattle.ext_reading.proofs.Common.{indices, decimal, SLASH, is_use_id, indexed_name, is_word_byte, is_word, slashes_in, is_node_name, raised}
use Rattle.ext_reading.proofs.Common.{Lacks, is_among, ElementRange, is_slash, is_path, leads, all_lead, IsElementRange, range_path, range_in}
use Rattle.ext_reading.proofs.Common.{second_of, count_of}
use Rattle.std.proofs.Common.{◌+ℤ◌}
use Rattle.std.proofs.lemmas.Bool.{and_from, eq-eqb}
use Rattle.ext_model.specs.LawfulArrays.{BeginsIndexed}
use Rattle.ext_model.proofs.ElementForms.{id_form, indexed_form}
use Rattle.ext_model.proofs.IndexedNames.{id_whole, number_whole}
use Rattle.ext_model.proofs.TextCuts.{lacks-append, no_slashes}
use Rattle.ext_reading.specs.declared.lines.Version as lines
use Rattle.ext_reading.proofs.Outcomes.{Each}
use Rattle.ext_reading.proofs.UseNames.{range_in-is, raised-is}
use Rattle.ext_reading.proofs.WrittenPaths.{no_slash, slashed, first_name_is}
use Rattle.ext_reading.proofs.WrittenWords.{word_bytes, node_name_word}

-- a text without a slash
each_whole : (text : List ℕ) → Lacks SLASH text → Each (λ byte. is_slash byte ≡ false) text
each_whole [] lacks = λ byte h. absurd h
each_whole (first ∷ text) lacks = λ byte h. elim h [
  | inl e ↦ subst (λ (k : ℕ). is_slash k ≡ false) e lacks.0
  | inr there ↦ each_whole text lacks.1 byte there
]

pub all_whole : (text : List ℕ) → Lacks SLASH text → All (λ byte. is_slash byte ≡ false) text
all_whole text lacks = All-from_In (λ byte. is_slash byte ≡ false) text (each_whole text lacks)

-- the path of a range is its name and what stands behind the slash
abbrev pub range_name : ElementRange → List ℕ
range_name range = range.id ++ 91 ∷ (decimal range.lo ++ 58 ∷ (decimal range.hi ++ 44 ∷ (decimal range.j ++ 93 ∷ [])))

pub range_path-name : (range : ElementRange) → range_path range ≡ range_name range ++ SLASH ∷ range.rest
range_path-name range = simp append_assoc

pub range_name-whole : (range : ElementRange) → IsTrue (is_use_id range.id) → Lacks SLASH (range_name range)
range_name-whole range is =
    let third = 44 ∷ (decimal range.j ++ 93 ∷ []) in
    let second = 58 ∷ (decimal range.hi ++ third) in
    lacks-append SLASH range.id (91 ∷ (decimal range.lo ++ second)) (id_whole range.id is) (
      refl,
      lacks-append SLASH (decimal range.lo) second (number_whole range.lo) (
        refl,
        lacks-append SLASH (decimal range.hi) third (number_whole range.hi)
            (refl, lacks-append SLASH (decimal range.j) (93 ∷ []) (number_whole range.j) (refl, tt)),
      ),
    )

-- the name of an element of an array has no slash
pub indexed_lacks : (id : List ℕ) (i j : ℤ) → IsTrue (is_use_id id) → Lacks SLASH (indexed_name id i j)
indexed_lacks id i j is =
    let last = decimal j ++ 93 ∷ [] in
    lacks-append SLASH id (91 ∷ (decimal i ++ 44 ∷ last)) (id_whole id is)
    (refl, lacks-append SLASH (decimal i) (44 ∷ last) (number_whole i) (refl, lacks-append SLASH (decimal j) (93 ∷ []) (number_whole j) (refl, tt)))

-- the bytes of a text in two parts
pub split_bytes : (front back : List ℕ) → list_all is_word_byte (front ++ back) ≡ true
    → (list_all is_word_byte front ≡ true) × (list_all is_word_byte back ≡ true)
split_bytes front back all =
    and_parts (list_all is_word_byte front) (list_all is_word_byte back) (sym (list_all-append is_word_byte front back) ∙ all)

pub joined_bytes : (front back : List ℕ) → list_all is_word_byte front ≡ true → list_all is_word_byte back ≡ true
    → list_all is_word_byte (front ++ back) ≡ true
joined_bytes front back one two =
    list_all-append is_word_byte front back ∙ and_from (list_all is_word_byte front) (list_all is_word_byte back) one two

-- the bytes of numbers are those of names
number_bytes : (id : List ℕ) → IsTrue (is_use_id id) → (z : ℤ) → list_all is_word_byte (decimal z) ≡ true
number_bytes id is z =
    let both = decimal z ++ 44 ∷ (decimal z ++ 93 ∷ []) in
    let all = word_bytes (indexed_name id z z) (node_name_word (indexed_name id z z) (indexed_form id z z is)) in
    (split_bytes (decimal z) (44 ∷ (decimal z ++ 93 ∷ [])) (split_bytes id (91 ∷ both) all).1).0

-- so the name of a range has the form of a name
pub range_named : (range : ElementRange) → IsTrue (is_use_id range.id) → is_node_name (range_name range) ≡ true
range_named range is =
    let name = range_name range in
    let id = range.id in
    let number = number_bytes id is in
    let third = 44 ∷ (decimal range.j ++ 93 ∷ []) in
    let second = 58 ∷ (decimal range.hi ++ third) in
    let first = 91 ∷ (decimal range.lo ++ second) in
    let bytes : list_all is_word_byte name ≡ true =
    joined_bytes id first (word_bytes id (node_name_word id (id_form id is)))
    (joined_bytes (decimal range.lo) second (number range.lo)
    (joined_bytes (decimal range.hi) third (number range.hi) (joined_bytes (decimal range.j) (93 ∷ []) (number range.j) refl))) in
    and_from (is_word name) (slashes_in name == 0)
    (and_from (nat_le 1 (length name)) (list_all is_word_byte name) (le-leb 1 (length name) (omega (arith, length-append id first))) bytes)
    (eq-eqb (slashes_in name) 0 (no_slashes name (range_name-whole range is)))

-- what stands behind the first name of a path is a path
pub path_rest : (name rest : List ℕ) → All (λ byte. is_slash byte ≡ false) name → is_path (name ++ SLASH ∷ rest) ≡ true → is_path rest ≡ true
path_rest name rest whole formed =
    let split = slice_split_at is_slash name SLASH rest whole refl in
    let both : (is_node_name name && is_path rest) ≡ true = ap (list_all is_node_name) (sym split) ∙ formed in
    (and_parts (is_node_name name) (is_path rest) both).1

rest_is : (range : ElementRange) → IsTrue (is_use_id range.id) → is_path (range_path range) ≡ true → is_path range.rest ≡ true
rest_is range is formed =
    let name = range_name range in
    path_rest name range.rest (all_whole name (range_name-whole range is)) (ap is_path (sym (range_path-name range)) ∙ formed)

-- a name before a path
pub path_with : (name rest : List ℕ) → is_node_name name ≡ true → is_path rest ≡ true → is_path (name ++ SLASH ∷ rest) ≡ true
path_with name rest is formed =
    ap (list_all is_node_name) (slice_split_at is_slash name SLASH rest (no_slash name is) refl) ∙ and_from (is_node_name name) (is_path rest) is formed

-- The paths of a row are some, of more than one the first has an index to raise, and each is of its form.
pub record AreSeconds (path : List ℕ) (range : Option ElementRange) : Type 0 where
  pub some : 1 ≤ count_of range
  pub indexed : 1 < count_of range → BeginsIndexed (second_of path range)
  pub paths : (n : ℕ) → n < count_of range → is_path (raised (second_of path range) n) ≡ true

first_alone : (path : List ℕ) → is_path path ≡ true → (n : ℕ) → n < 1 → is_path (raised path n) ≡ true
first_alone path formed zero below = formed
first_alone path formed (suc n) below = absurd (omega arith)

seconds_of : (version : Option lines.Version) (path : List ℕ) → is_path path ≡ true → (range : Option ElementRange) → range_in version path ≡ range
    → AreSeconds path range
seconds_of version path formed None e = record {
  some = omega arith;
  indexed = λ more. absurd (omega arith);
  paths = first_alone path formed;
}
seconds_of version path formed (Some range) e =
    let is = range_in-is version path range e in
    let rest = rest_is range is.0.id (ap is_path (sym is.1) ∙ formed) in
    record {
      some = omega arith;
      indexed = λ more. record {
        name = indexed_name range.id range.lo range.j;
        rest = range.rest;
        indexed = record {
          id = range.id;
          i = range.lo;
          j = range.j;
          id_form = is.0.id;
          i_fits = is.0.lo;
          j_fits = is.0.j;
          text = refl;
        };
        text = refl;
      };
      paths = λ n below. ap is_path (raised-is range.id range.lo range.j (SLASH ∷ range.rest) is.0.id is.0.lo n)
          ∙ path_with (indexed_name range.id (range.lo +ℤ pos n) range.j) range.rest (indexed_form range.id (range.lo +ℤ pos n) range.j is.0.id) rest;
    }

pub seconds_in : (version : Option lines.Version) (path : List ℕ) → is_path path ≡ true → AreSeconds path (range_in version path)
seconds_in version path formed = seconds_of version path formed (range_in version path) refl

-- a path whose first name is that of an element
pub leads-first : (elements names : List (List ℕ)) (name rest : List ℕ) → is_node_name name ≡ true
    → leads elements names (name ++ SLASH ∷ rest) ≡ is_among name elements
leads-first elements names name rest is =
    let path = name ++ SLASH ∷ rest in
    ap (λ (t : Bool). cond t (is_among (before_first is_slash path) elements) (is_among path names)) (slashed name rest)
    ∙ ap (λ (first : List ℕ). is_among first elements) (first_name_is name rest (no_slash name is))

all_same : (p q : ℕ → Bool) → ((n : ℕ) → p n ≡ q n) → (ns : List ℕ) → list_all p ns ≡ list_all q ns
all_same p q same [] = refl
all_same p q same (n ∷ ns) = ap (λ (t : Bool). t && list_all p ns) (same n) ∙ ap (λ (t : Bool). q n && t) (all_same p q same ns)

-- all elements of a row have these names
abbrev pub row_known : List (List ℕ) → List ℕ → ℤ → ℤ → ℤ → Bool
row_known elements id lo hi j = list_all (λ k. is_among (indexed_name id (lo +ℤ pos k) j) elements) (range_with_len 0 (indices lo hi))

-- the same of parts that are the same
pub row_known-same : (elements : List (List ℕ)) (known : Bool) (id given : List ℕ) (lo from hi to j row : ℤ) → known ≡ row_known elements given from to row
    → given ≡ id → from ≡ lo → to ≡ hi → row ≡ j → known ≡ row_known elements id lo hi j
row_known-same elements known id given lo from hi to j row is a b c d =
    is
    ∙ (ap (λ (x : List ℕ). row_known elements x from to row) a
    ∙ (ap (λ (x : ℤ). row_known elements id x to row) b ∙ (ap (λ (x : ℤ). row_known elements id lo x row) c ∙ ap (row_known elements id lo hi) d)))

-- the paths of a range lead where its elements are there
pub range_leads : (elements names : List (List ℕ)) (path : List ℕ) (range : ElementRange) → IsElementRange range
    → all_lead elements names (second_of path (Some range)) (count_of (Some range)) ≡ row_known elements range.id range.lo range.hi range.j
range_leads elements names path range is =
    all_same (λ n. leads elements names (raised (second_of path (Some range)) n))
    (λ n. is_among (indexed_name range.id (range.lo +ℤ pos n) range.j) elements)
    (λ n. ap (leads elements names) (raised-is range.id range.lo range.j (SLASH ∷ range.rest) is.id is.lo n)
    ∙ leads-first elements names (indexed_name range.id (range.lo +ℤ pos n) range.j) range.rest (indexed_form range.id (range.lo +ℤ pos n) range.j is.id))
    (range_with_len 0 (indices range.lo range.hi))
