-- What a table of rows of merges by their second members finds.
use Rattle.tile_members.proofs.Common.{◌≡◌, ◌+◌, ◌<◌, get_or, ℕ, zero, suc, Bool, false, cond, List, [], ◌∷◌, ◌++◌, length, drop, map, take, refl}
use Rattle.tile_members.proofs.Common.{sym, ap, ◌∙◌, inl, inr, arith, slice_get, flat_map, list_any, position_from, lookup, bytes_eq, cases_Bool}
use Rattle.tile_members.proofs.Common.{bytes_eq-Decides, MergeRow, MergeRec, plain_merges, raised, first_member, has_second}
use Rattle.std.proofs.Common.{◌||◌, add-one, drop-cons, true}
use Rattle.std.specs.Prelude.{Option, None, Some, Vec}
use Rattle.std.specs.List.{range_with_len}
use Rattle.std.specs.declared.alloc.Global.{Global}
use Rattle.std.proofs.lemmas.List.{map-append}
use Rattle.std.proofs.lemmas.List.Folds.{list_any-append}
use Rattle.indexmap.specs.IndexMap.{insert_entry}
use Rattle.ext_model.specs.Plain.{plain_merge}

-- ---- the first member, row by row

-- the merges of a row that has the member as a second say the row's first path, and those of another pass on
first_of_row : (row : MergeRow) (numbers : List ℕ) (rest : List MergeRec) (member : List ℕ)
    → first_member (map (plain_merge row) numbers ++ rest) member
    ≡ cond (list_any (λ (merge : MergeRec). bytes_eq member merge.second) (map (plain_merge row) numbers)) row.first (first_member rest member)
first_of_row row [] rest member = refl
first_of_row row (n ∷ numbers) rest member = elim (cases_Bool (bytes_eq member (raised row.second n))) [
  | inl passes ↦ rw passes refl
  | inr fails ↦ rw fails (first_of_row row numbers rest member)
]

-- so it goes by rows
first_by_row : (row : MergeRow) (rows : List MergeRow) (member : List ℕ)
    → first_member (flat_map plain_merges (row ∷ rows)) member
    ≡ cond (has_second member row) row.first (first_member (flat_map plain_merges rows) member)
first_by_row row rows member = first_of_row row (range_with_len 0 row.count) (flat_map plain_merges rows) member

-- The row with this number is the first that has the member as a second. The first of the rows has the first number.
pub record IsFirstRow (number : ℕ) (rows : List MergeRow) (member : List ℕ) (found : ℕ) : Type 0 where
  pub place : ℕ
  pub is : found ≡ number + place
  pub row : MergeRow
  pub there : slice_get rows place ≡ Some row
  pub first : row.first ≡ first_member (flat_map plain_merges rows) member

-- what is found is the first row with the member as a second
pub found_first : (number : ℕ) (rows : List MergeRow) (member : List ℕ) (found : ℕ) → position_from (has_second member) number rows ≡ Some found
    → IsFirstRow number rows member found
found_first number [] member found is = absurd (cc)
found_first number (row ∷ rows) member found is = elim (cases_Bool (has_second member row)) [
  | inl passes ↦
      let here : Some number ≡ Some found = rw passes at is in
      record {
        place = zero;
        is = let same : number ≡ found = cc in omega arith;
        row = row;
        there = refl;
        first = sym (first_by_row row rows member ∙ rw passes refl);
      }
  | inr fails ↦
      let rest = found_first (number + 1) rows member found (rw fails at is) in
      record {
        place = suc rest.place;
        is = let at = rest.is in omega arith;
        row = rest.row;
        there = rest.there;
        first = rest.first ∙ sym (first_by_row row rows member ∙ rw fails refl);
      }
]

-- where none is found the member is the first itself
pub found_none : (number : ℕ) (rows : List MergeRow) (member : List ℕ) → position_from (has_second member) number rows ≡ None
    → member ≡ first_member (flat_map plain_merges rows) member
found_none number [] member is = refl
found_none number (row ∷ rows) member is = elim (cases_Bool (has_second member row)) [
  | inl passes ↦ absurd (let none : Some number ≡ None = rw passes at is in cc)
  | inr fails ↦ found_none (number + 1) rows member (rw fails at is) ∙ sym (first_by_row row rows member ∙ rw fails refl)
]

-- ---- keys

-- a key of the table, with the number of a row
abbrev pub TableEntry : Type 0
TableEntry = Vec ℕ Global × ℕ

-- whether two keys have the same bytes
abbrev pub are_same_bytes : Vec ℕ Global → Vec ℕ Global → Bool
are_same_bytes key other = bytes_eq key.items other.items

-- whether the key has the bytes of the member
abbrev pub is_key_of : List ℕ → Vec ℕ Global → Bool
is_key_of member key = bytes_eq member key.items

-- once a key is inserted, it is found under its bytes
found_here : (member : List ℕ) (es : List TableEntry) (key : Vec ℕ Global) (number : ℕ) → bytes_eq member key.items ≡ true
    → lookup (is_key_of member) (insert_entry are_same_bytes es key number) ≡ Some number
found_here member [] key number passes = rw passes refl
found_here member (e ∷ es) key number passes = elim (cases_Bool (bytes_eq key.items e.0.items)) [
  | inl same ↦
      let alike : bytes_eq member e.0.items ≡ true = rw ((bytes_eq-Decides member key.items).0 passes) same in
      rw same (rw alike refl)
  | inr other ↦
      let unlike : bytes_eq member e.0.items ≡ false = rw ((bytes_eq-Decides member key.items).0 passes) other in
      rw other (rw unlike (found_here member es key number passes))
]

-- and under other bytes what was found before
found_elsewhere : (member : List ℕ) (es : List TableEntry) (key : Vec ℕ Global) (number : ℕ) → bytes_eq member key.items ≡ false
    → lookup (is_key_of member) (insert_entry are_same_bytes es key number) ≡ lookup (is_key_of member) es
found_elsewhere member [] key number fails = rw fails refl
found_elsewhere member (e ∷ es) key number fails = elim (cases_Bool (bytes_eq key.items e.0.items)) [
  | inl same ↦
      let unlike : bytes_eq member e.0.items ≡ false = rw (← (bytes_eq-Decides key.items e.0.items).0 same) fails in
      rw same (rw unlike refl)
  | inr other ↦ rw other (ap (λ (rest : Option ℕ). cond (bytes_eq member e.0.items) (Some e.1) rest) (found_elsewhere member es key number fails))
]

-- what is found once a key is inserted
pub found_then : (member : List ℕ) (es : List TableEntry) (key : Vec ℕ Global) (number : ℕ) (before : Option ℕ) → lookup (is_key_of member) es ≡ before
    → lookup (is_key_of member) (insert_entry are_same_bytes es key number) ≡ cond (bytes_eq member key.items) (Some number) before
found_then member es key number before was = elim (cases_Bool (bytes_eq member key.items)) [
  | inl passes ↦ found_here member es key number passes ∙ sym (rw passes refl)
  | inr fails ↦ found_elsewhere member es key number fails ∙ was ∙ sym (rw fails refl)
]

-- ---- a row more

-- whether one of the first merges of a row has the member as its second
abbrev pub has_early : List ℕ → MergeRow → ℕ → Bool
has_early member row count = list_any (λ (merge : MergeRec). bytes_eq member merge.second) (map (plain_merge row) (range_with_len 0 count))

-- one number more
range_more : (first count : ℕ) → range_with_len first (suc count) ≡ range_with_len first count ++ (first + count) ∷ []
range_more first zero = let same : first ≡ first + 0 = omega arith in ap (λ (n : ℕ). n ∷ []) same
range_more first (suc count) =
    let same : first + 1 + count ≡ first + suc count = omega arith in
    ap (λ (rest : List ℕ). first ∷ rest)
    (range_more (first + 1) count ∙ ap (λ (n : ℕ). range_with_len (first + 1) count ++ n ∷ []) same)

-- one merge more
early_more : (member : List ℕ) (row : MergeRow) (count : ℕ)
    → has_early member row (count + 1) ≡ (has_early member row count || bytes_eq member (raised row.second count))
early_more member row count =
    let has : MergeRec → Bool = λ merge. bytes_eq member merge.second in
    let whole : 0 + count ≡ count = omega arith in
    ap (λ (numbers : List ℕ). list_any has (map (plain_merge row) numbers))
    (ap (range_with_len 0) (add-one count) ∙ range_more 0 count ∙ ap (λ (n : ℕ). range_with_len 0 count ++ n ∷ []) whole)
    ∙ ap (list_any has) (map-append (plain_merge row) (range_with_len 0 count) (count ∷ []))
    ∙ list_any-append has (map (plain_merge row) (range_with_len 0 count)) (plain_merge row count ∷ [])
    ∙ ap (λ (last : Bool). has_early member row count || last) (or_false (bytes_eq member (raised row.second count)))
  where
    or_false : (test : Bool) → (test || false) ≡ test
    or_false true = refl
    or_false false = refl

-- one of two tests passes
either : (early here : Bool) (found before : Option ℕ) → cond here found (cond early found before) ≡ cond (early || here) found before
either true true found before = refl
either true false found before = refl
either false true found before = refl
either false false found before = refl

-- with one merge more of a row noted
pub early_next : (member : List ℕ) (row : MergeRow) (count : ℕ) (found before : Option ℕ)
    → cond (bytes_eq member (raised row.second count)) found (cond (has_early member row count) found before)
    ≡ cond (has_early member row (count + 1)) found before
early_next member row count found before =
    either (has_early member row count) (bytes_eq member (raised row.second count)) found before
    ∙ ap (λ (test : Bool). cond test found before) (sym (early_more member row count))

-- the first of the rows from a number on: the one with that number, or the first behind it
pub from_number : (member : List ℕ) (rows : List MergeRow) (number next : ℕ) (row : MergeRow) → number + 1 ≡ next → number < length rows
    → row ≡ get_or rows number row
    → position_from (has_second member) number (drop number rows)
    ≡ cond (has_second member row) (Some number) (position_from (has_second member) next (drop next rows))
from_number member rows number next row follows within is =
    ap (position_from (has_second member) number) (drop-cons rows number row within)
    ∙ ap (λ (r : MergeRow). position_from (has_second member) number (r ∷ drop (suc number) rows)) (sym is)
    ∙ ap (λ (n : ℕ). cond (has_second member row) (Some number) (position_from (has_second member) (number + 1) (drop n rows))) (sym (add-one number))
    ∙ ap (λ (n : ℕ). cond (has_second member row) (Some number) (position_from (has_second member) n (drop n rows))) follows
