-- Merges have their rows in one way.
use Rattle.std.proofs.Common.{◌≡◌, ◌-◌, ◌<◌, ℕ, List, [], ◌∷◌, ◌++◌, All, inl, inr, length, get_or, refl, sym, subst, ap, ◌∙◌, arith, length-append}
use Rattle.std.specs.List.{flat_map}
use Rattle.std.proofs.lemmas.Bool.{cases_order}
use Rattle.std.proofs.lemmas.List.{append_cancel_left, get_or_append_left, get_or-append_right}
use Rattle.std.proofs.lemmas.List.Concat.{flat_map-cons}
use Rattle.std.proofs.lemmas.List.Elements.{All-head, All-tail}
use Rattle.std.proofs.lemmas.List.FromFn.{length-map-range_with_len, get_or-map-range_with_len}
use Rattle.ext_model.specs.declared.records.MergeRec.{MergeRec}
use Rattle.ext_model.specs.declared.arrays.MergeRow.{MergeRow}
use Rattle.ext_model.specs.LawfulArrays.{BeginsIndexed, IsMergeRow}
use Rattle.ext_model.specs.Plain.{plain_merge, plain_merges, raised}
use Rattle.ext_model.specs.Rows.{AreLongest, AreRowsOf}

-- the merges of rows
abbrev merges_of : List MergeRow → List MergeRec
merges_of rows = flat_map plain_merges rows

-- a row has as many merges as it counts
as_many : (row : MergeRow) → length (plain_merges row) ≡ row.count
as_many row = length-map-range_with_len (plain_merge row) 0 row.count

-- the merge of this number of a first row
at_row : (row : MergeRow) (rest : List MergeRec) (k : ℕ) (default : MergeRec) → k < row.count
    → get_or (plain_merges row ++ rest) k default ≡ plain_merge row k
at_row row rest k default within =
    get_or_append_left (plain_merges row) rest default k (let many = as_many row in omega (arith, within, many))
    ∙ get_or-map-range_with_len (plain_merge row) 0 row.count k k default within (omega arith)

-- and the one behind its last
at_next : (row : MergeRow) (rest : List MergeRec) (default : MergeRec) → get_or (plain_merges row ++ rest) row.count default ≡ get_or rest 0 default
at_next row rest default =
    let none : row.count - row.count ≡ 0 = omega arith in
    get_or-append_right (plain_merges row) rest row.count row.count default (as_many row) (omega arith)
    ∙ ap (λ (k : ℕ). get_or rest k default) none

-- the first merge of rows that begin with a row
starts : (row : MergeRow) (rows : List MergeRow) (default : MergeRec) → IsMergeRow row → get_or (merges_of (row ∷ rows)) 0 default ≡ plain_merge row 0
starts row rows default is =
    ap (λ (all : List MergeRec). get_or all 0 default) (flat_map-cons plain_merges row rows) ∙ at_row row (merges_of rows) 0 default is.some

-- rows that begin with one alike, of which the second's is longer: then the first ones are not the longest
shorter : (row other : MergeRow) (rows : List MergeRow) (rest : List MergeRec) → IsMergeRow row → IsMergeRow other → All IsMergeRow rows
    → AreLongest (row ∷ rows) → plain_merge row 0 ≡ plain_merge other 0 → plain_merges row ++ merges_of rows ≡ plain_merges other ++ rest
    → row.count < other.count → ⊥
shorter row other [] rest is other_is each longest alike same less =
    let long = ap length same in
    let one = length-append (plain_merges row) [] in
    let both = length-append (plain_merges other) rest in
    let many = as_many row in
    let more = as_many other in
    omega (arith, long, one, both, many, more, less)
shorter row other (next ∷ rows) rest is other_is each longest alike same less =
    let default = plain_merge row 0 in
    let meets : plain_merge next 0 ≡ plain_merge other row.count =
    sym (starts next rows default (All-head IsMergeRow next rows each)) ∙ sym (at_next row (merges_of (next ∷ rows)) default)
    ∙ ap (λ (all : List MergeRec). get_or all row.count default) same ∙ at_row other rest row.count default less in
    let some = is.some in
    let second : other.second ≡ row.second = sym (ap (λ (merge : MergeRec). merge.second) alike) in
    longest.0
    (record {
      indexed = subst BeginsIndexed second (other_is.indexed (omega (arith, some, less)));
      first = ap (λ (merge : MergeRec). merge.first) meets ∙ sym (ap (λ (merge : MergeRec). merge.first) alike);
      cap = ap (λ (merge : MergeRec). merge.cap) meets ∙ sym (ap (λ (merge : MergeRec). merge.cap) alike);
      measures = ap (λ (merge : MergeRec). merge.measures) meets ∙ sym (ap (λ (merge : MergeRec). merge.measures) alike);
      second = ap (λ (merge : MergeRec). merge.second) meets ∙ ap (λ (path : List ℕ). raised path row.count) second;
    })

-- rows behind the first
longest_rest : (row : MergeRow) (rows : List MergeRow) → AreLongest (row ∷ rows) → AreLongest rows
longest_rest row [] longest = tt
longest_rest row (next ∷ rows) longest = longest.1

-- rows without merges are none
none_left : (row : MergeRow) (rows : List MergeRow) → IsMergeRow row → [] ≡ merges_of (row ∷ rows) → ⊥
none_left row rows is none =
    let long = ap length (none ∙ flat_map-cons plain_merges row rows) in
    let both = length-append (plain_merges row) (merges_of rows) in
    let many = as_many row in
    let some = is.some in
    omega (arith, long, both, many, some)

-- rows of the same merges are as long
as_long : (row other : MergeRow) (rows others : List MergeRow) → All IsMergeRow (row ∷ rows) → All IsMergeRow (other ∷ others)
    → AreLongest (row ∷ rows) → AreLongest (other ∷ others) → plain_merge row 0 ≡ plain_merge other 0
    → plain_merges row ++ merges_of rows ≡ plain_merges other ++ merges_of others → row.count ≡ other.count
as_long row other rows others each other_each longest other_longest alike same =
    let is = All-head IsMergeRow row rows each in
    let other_is = All-head IsMergeRow other others other_each in
    elim (cases_order row.count other.count) [
      | inl equal ↦ equal
      | inr differ ↦ elim differ [
        | inl less ↦ absurd (shorter row other rows (merges_of others) is other_is (All-tail IsMergeRow row rows each) longest alike same less)
        | inr more ↦
            absurd (shorter other row others (merges_of rows) other_is is (All-tail IsMergeRow other others other_each) other_longest
            (sym alike) (sym same) more)
      ]
    ]

-- rows of the same merges are the same
unique : (rows others : List MergeRow) → All IsMergeRow rows → All IsMergeRow others → AreLongest rows → AreLongest others
    → merges_of rows ≡ merges_of others → rows ≡ others
unique [] [] each other_each longest other_longest same = refl
unique [] (other ∷ others) each other_each longest other_longest same =
    absurd (none_left other others (All-head IsMergeRow other others other_each) same)
unique (row ∷ rows) [] each other_each longest other_longest same =
    absurd (none_left row rows (All-head IsMergeRow row rows each) (sym same))
unique (row ∷ rows) (other ∷ others) each other_each longest other_longest same =
    let default = plain_merge row 0 in
    let alike : plain_merge row 0 ≡ plain_merge other 0 =
    sym (starts row rows default (All-head IsMergeRow row rows each)) ∙ ap (λ (all : List MergeRec). get_or all 0 default) same
    ∙ starts other others default (All-head IsMergeRow other others other_each) in
    let cut : plain_merges row ++ merges_of rows ≡ plain_merges other ++ merges_of others =
    sym (flat_map-cons plain_merges row rows) ∙ same ∙ flat_map-cons plain_merges other others in
    let count = as_long row other rows others each other_each longest other_longest alike cut in
    let one : row ≡ other = λ k. record {
      first = (alike k).first;
      second = (alike k).second;
      count = count k;
      cap = (alike k).cap;
      measures = (alike k).measures;
    } in
    let front : plain_merges row ≡ plain_merges other = ap plain_merges one in
    let behind : merges_of rows ≡ merges_of others =
    append_cancel_left (plain_merges row) (merges_of rows) (merges_of others)
    (cut ∙ ap (λ (list : List MergeRec). list ++ merges_of others) (sym front)) in
    let rest =
    unique rows others (All-tail IsMergeRow row rows each) (All-tail IsMergeRow other others other_each) (longest_rest row rows longest)
    (longest_rest other others other_longest) behind in
    λ k. one k ∷ rest k

pub rows_unique : (merges : List MergeRec) (rows others : List MergeRow) → AreRowsOf merges rows → AreRowsOf merges others → rows ≡ others
rows_unique merges rows others are other_are =
    unique rows others are.each other_are.each are.longest other_are.longest (are.are ∙ sym other_are.are)
