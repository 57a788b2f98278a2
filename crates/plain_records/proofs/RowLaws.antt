-- The merges of elements by the rows of their records.
use Rattle.plain_records.proofs.Common.{◌≡◌, ℕ, ◌<◌, inl, inr, Bool, false, cond, ◌+◌, List, [], ◌∷◌, ◌++◌, length, map, get_or, take, sum_by, refl}
use Rattle.plain_records.proofs.Common.{sym, ◌∙◌, ap, arith, Option, Some, None, slice_get, flat_map, range_with_len, option_map, length-map}
use Rattle.plain_records.proofs.Common.{take_more, sum_by-cons, slice_get-map, same_Some, slice_get-map_source, CellExt, ArrayExt, plain}
use Rattle.plain_records.proofs.Common.{plain_merge, plain_merges, TooMany, Merges, MOST_MERGES, past, merge_count, plains, AreArrayRecords}
use Rattle.plain_records.proofs.Common.{with_merges, AreCalled, IsExpandedAt, capped, merges_in}
use Rattle.std.proofs.Common.{length-append}
use Rattle.std.proofs.lemmas.Bool.{cases_lt, lt-ltb, le-ltb}
use Rattle.std.proofs.lemmas.List.Concat.{flat_map-append}
use Rattle.std.proofs.lemmas.List.FromFn.{length-range_with_len}
use Rattle.finite_sets.proofs.Places.{map-pointwise}
use Rattle.finite_sets.proofs.Sums.{sum_by-map, sum_by-same}
use Rattle.ext_model.specs.declared.arrays.MergeRow.{MergeRow}
use Rattle.circuit_model.specs.Elements.{Element, elements_of}
use Rattle.plain_records.proofs.PlaceLaws.{array_of, own_array}
use Rattle.plain_records.proofs.ReachLaws.{element_form, elements-new, all_reached}

-- how many merges the cell of a record has, by its rows
abbrev pub size_of : List ArrayExt → CellExt → ℕ
size_of exts ext = elim (array_of exts ext.cell) [ None ↦ 0 | Some array ↦ merges_in array ]

size-own : (exts : List ArrayExt) → AreArrayRecords exts → (k : ℕ) (array : ArrayExt) (ext : CellExt) → slice_get exts k ≡ Some array
    → ext.cell ≡ array.cell → size_of exts ext ≡ merges_in array
size-own exts are k array ext at same =
    ap (λ (o : Option ArrayExt). elim o [ None ↦ 0 | Some array ↦ merges_in array ])
    (ap (array_of exts) same ∙ own_array exts are.cells_differ k array at)

-- there are as many records
pub as_many : (exts : List ArrayExt) (news : List CellExt) → AreCalled exts news → length news ≡ length exts
as_many exts news called = sym (length-map news (λ (z : CellExt). z.cell)) ∙ ap length called ∙ length-map exts (λ (z : ArrayExt). z.cell)

-- the merges of one row more
pub rows_more : (rows : List MergeRow) (i : ℕ) (row : MergeRow) → i < length rows → row ≡ get_or rows i row
    → length (flat_map plain_merges (take (i + 1) rows)) ≡ length (flat_map plain_merges (take i rows)) + row.count
rows_more rows i row within is =
    let split : flat_map plain_merges (take (i + 1) rows) ≡ flat_map plain_merges (take i rows) ++ (plain_merges row ++ []) =
    ap (flat_map plain_merges) (take_more rows i row within) ∙ flat_map-append plain_merges (take i rows) (get_or rows i row ∷ [])
    ∙ ap (λ z. flat_map plain_merges (take i rows) ++ (plain_merges z ++ [])) (sym is) in
    let one : length (plain_merges row ++ []) ≡ row.count =
    length-append (plain_merges row) [] ∙ ap (λ n. n + 0) (length-map (range_with_len 0 row.count) (plain_merge row) ∙ length-range_with_len 0 row.count)
    ∙ omega arith in
    ap length split ∙ length-append (flat_map plain_merges (take i rows)) (plain_merges row ++ [])
    ∙ ap (λ n. length (flat_map plain_merges (take i rows)) + n) one

-- the sizes by the records with arrays are those by records of the same cells
pub sizes_are : (exts : List ArrayExt) (news : List CellExt) → AreArrayRecords exts → AreCalled exts news → map merges_in exts ≡ map (size_of exts) news
sizes_are exts news are called =
    map-pointwise merges_in (size_of exts) exts news
    (sym (as_many exts news called))
    (λ k array ext at there. (let same : ext.cell ≡ array.cell =
    same_Some ext.cell array.cell
    (sym (slice_get-map (λ (z : CellExt). z.cell) news k ∙ ap (option_map (λ (z : CellExt). z.cell)) there)
    ∙ ap (λ l. slice_get l k) called
    ∙ slice_get-map (λ (z : ArrayExt). z.cell) exts k ∙ ap (option_map (λ (z : ArrayExt). z.cell)) at) in
    sym (size-own exts are k array ext at same)))

capped_sum : {X : Type 0} (f : X → ℕ) (xs : List X) → capped (sum_by (λ x. capped (f x)) xs) ≡ capped (sum_by f xs)
capped_sum f [] = refl
capped_sum f (x ∷ xs) =
    let more = capped_sum f xs in
    let one = sum_by-cons f x xs in
    let other = sum_by-cons (λ z. capped (f z)) x xs in
    omega (arith, more, one, other)

past_same : (a b : ℕ) → capped a ≡ capped b → past MOST_MERGES Merges a ≡ past MOST_MERGES Merges b
past_same a b same = elim (cases_lt MOST_MERGES a) [
  | inl more ↦
      ap (λ (t : Bool). cond t (Some (TooMany Merges)) None)
      (lt-ltb MOST_MERGES a more ∙ sym (lt-ltb MOST_MERGES b (omega (arith, more, same))))
  | inr few ↦
      ap (λ (t : Bool). cond t (Some (TooMany Merges)) None)
      (le-ltb MOST_MERGES a few ∙ sym (le-ltb MOST_MERGES b (omega (arith, few, same))))
]

-- sizes that are too many in a tree without merges are merges that are too many
pub row_fault : (exts : List ArrayExt) (root : ℕ) (news : List CellExt) → AreArrayRecords exts → IsExpandedAt false exts root news → (top : CellExt)
    → slice_get (plains exts) root ≡ Some top
    → past MOST_MERGES Merges (sum_by (λ element. size_of exts element.ext) (elements_of news (with_merges false top)))
    ≡ past MOST_MERGES Merges (merge_count (elements_of (plains exts) top))
row_fault exts root news are bare top at =
    let elements = elements_of (plains exts) top in
    let size : Element → ℕ = λ element. size_of exts element.ext in
    let own : Element → ℕ = λ element. length element.ext.merges in
    ap (λ l. past MOST_MERGES Merges (sum_by size l)) (elements-new false exts root news bare top at)
    ∙ ap (past MOST_MERGES Merges)
    (sum_by-map size (element_form false) elements
    ∙ sum_by-same (λ element. size (element_form false element)) (λ element. capped (own element)) elements
    (λ element here. (let is = all_reached false exts root news bare top at element here in
    let made = slice_get-map_source plain exts is.cell element.ext is.at in
    size-own exts are is.cell made.0 (with_merges false element.ext) made.1.0 (ap (λ (z : CellExt). z.cell) (sym made.1.1))
    ∙ ap (λ (z : CellExt). capped (length z.merges)) made.1.1)))
    ∙ past_same (sum_by (λ element. capped (own element)) elements) (merge_count elements) (capped_sum own elements)
