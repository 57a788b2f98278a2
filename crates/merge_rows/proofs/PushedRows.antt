-- Rows with a merge more.
use Rattle.std.proofs.Common.{◌≡◌, ◌↔◌, ◌+◌, ◌-◌, ◌<◌, ℕ, suc, Bool, IsTrue, List, [], ◌∷◌, ◌++◌, Some, length, get_or, set, refl, sym, subst, ap, ◌∙◌}
use Rattle.std.proofs.Common.{append_assoc, length-append, arith}
use Rattle.std.specs.List.{flat_map}
use Rattle.std.proofs.Math.Seq.{get_or-append_seam, set-append_seam}
use Rattle.std.proofs.lemmas.List.{flat_map_more}
use Rattle.std.proofs.lemmas.List.Elements.{All-pop, All-push}
use Rattle.std.proofs.lemmas.List.FromFn.{map-range_with_len_more}
use Rattle.ext_model.specs.declared.records.MergeRec.{MergeRec}
use Rattle.ext_model.specs.declared.arrays.MergeRow.{MergeRow}
use Rattle.ext_model.specs.LawfulArrays.{IsMergeRow}
use Rattle.ext_model.specs.Plain.{plain_merge, plain_merges}
use Rattle.ext_model.specs.Rows.{AreLongest, AreRowsOf, GoesOn}
use Rattle.merge_rows.specs.AddedMerges.{AddsToRows, GoesOnWithLast, IsLastLonger, longer, row_of}

-- the merge that goes on with a row is the next of its merges
plain_next : (row : MergeRow) (merge : MergeRec) → GoesOn row (row_of merge) → plain_merge row row.count ≡ merge
plain_next row merge on = λ k. record {
  first = sym on.first k;
  second = sym on.second k;
  cap = sym on.cap k;
  measures = sym on.measures k;
}

plain_more : (row : MergeRow) (merge : MergeRec) → GoesOn row (row_of merge)
    → plain_merges (longer row) ≡ plain_merges row ++ merge ∷ []
plain_more row merge on =
    map-range_with_len_more (plain_merge row) 0 row.count row.count (omega arith)
    ∙ ap (λ (last : MergeRec). plain_merges row ++ last ∷ []) (plain_next row merge on)

-- a row behind rows, and their merges
merges_behind : (rows : List MergeRow) (last : MergeRow)
    → flat_map plain_merges (rows ++ last ∷ []) ≡ flat_map plain_merges rows ++ plain_merges last
merges_behind rows last = sym (flat_map_more plain_merges [] rows last)

-- a longer row goes on with no row with which it does not go on itself
longest_longer : (front : List MergeRow) (last : MergeRow) → AreLongest (front ++ last ∷ []) → AreLongest (front ++ longer last ∷ [])
longest_longer [] last longest = tt
longest_longer (row ∷ []) last longest = (
  λ on. longest.0 (record { indexed = on.indexed; first = on.first; cap = on.cap; measures = on.measures; second = on.second }),
  tt,
)
longest_longer (row ∷ other ∷ front) last longest = (longest.0, longest_longer (other ∷ front) last longest.1)

-- a row more, which does not go on with the last
longest_more : (rows : List MergeRow) (next : MergeRow)
    → ((front : List MergeRow) (last : MergeRow) → rows ≡ front ++ last ∷ [] → GoesOn last next → ⊥) → AreLongest rows → AreLongest (rows ++ next ∷ [])
longest_more [] next stops longest = tt
longest_more (row ∷ []) next stops longest = (stops [] row refl, tt)
longest_more (row ∷ other ∷ rows) next stops longest = (
  longest.0,
  longest_more (other ∷ rows) next (λ front last is. stops (row ∷ front) last (ap (λ (rest : List MergeRow). row ∷ rest) is)) longest.1,
)

-- where the merge goes on with the last row, that row has one more
pub joined : (rows new : List MergeRow) (merge : MergeRec) → GoesOnWithLast rows merge → IsLastLonger rows new → AddsToRows (merge ∷ []) rows new
joined rows new merge goes longer_one = record {
  are = λ merges is.
      let front = goes.front in
      let last = goes.last in
      let one = longer last in
      let before = flat_map plain_merges front in
      let each = All-pop IsMergeRow rows front (Some last) goes.rows_are is.each in
      let were : before ++ plain_merges last ≡ merges = sym (merges_behind front last) ∙ ap (flat_map plain_merges) (sym goes.rows_are) ∙ is.are in
      subst (AreRowsOf (merges ++ merge ∷ [])) (sym (longer_one.is front last goes.rows_are))
      (record {
        each = All-push IsMergeRow front one each.0 (record { some = omega arith; indexed = λ more. goes.on.indexed });
        are =
            merges_behind front one ∙ ap (λ (row : List MergeRec). before ++ row) (plain_more last merge goes.on)
            ∙ sym (append_assoc before (plain_merges last) (merge ∷ [])) ∙ ap (λ (row : List MergeRec). row ++ merge ∷ []) were;
        longest = longest_longer front last (subst AreLongest goes.rows_are is.longest);
      });
}

-- and else it begins a row
pub begun : (rows : List MergeRow) (merge : MergeRec) → (GoesOnWithLast rows merge → ⊥) → AddsToRows (merge ∷ []) rows (rows ++ row_of merge ∷ [])
begun rows merge stops = record {
  are = λ merges is.
      let ends : (front : List MergeRow) (last : MergeRow) → rows ≡ front ++ last ∷ [] → GoesOn last (row_of merge) → ⊥ =
      λ front last rows_are on. stops (record { front = front; last = last; rows_are = rows_are; on = on }) in
      record {
        each = All-push IsMergeRow rows (row_of merge) is.each (record { some = omega arith; indexed = λ (more : 1 < 1). absurd (omega (arith, more)) });
        are = merges_behind rows (row_of merge) ∙ ap (λ (front : List MergeRec). front ++ merge ∷ []) is.are;
        longest = longest_more rows (row_of merge) ends is.longest;
      };
}

-- ---- the last of rows

-- rows of which there is one end with the last
ends_in : (rows : List MergeRow) (default : MergeRow) → 0 < length rows → (front : List MergeRow) × (rows ≡ front ++ get_or rows (length rows - 1) default ∷ [])
ends_in [] default some = absurd (omega (arith, some))
ends_in (row ∷ []) default some = ([], refl)
ends_in (row ∷ next ∷ rows) default some =
    let rest = ends_in (next ∷ rows) default (omega arith) in
    let same : suc (length (next ∷ rows) - 1) ≡ length (row ∷ next ∷ rows) - 1 = omega arith in (
      row ∷ rest.0,
      ap (λ (list : List MergeRow). row ∷ list) rest.1
          ∙ ap (λ (place : ℕ). row ∷ (rest.0 ++ get_or (row ∷ next ∷ rows) place default ∷ [])) same,
    )

-- the last row stands behind the others
last_is : (front : List MergeRow) (last default : MergeRow) (rows : List MergeRow) → rows ≡ front ++ last ∷ [] → get_or rows (length rows - 1) default ≡ last
last_is front last default rows rows_are =
    let long = ap length rows_are ∙ length-append front (last ∷ []) in
    let place : length rows - 1 ≡ length front = omega (arith, long) in
    (λ k. get_or (rows_are k) (place k) default) ∙ get_or-append_seam front last [] default

-- whether a merge goes on with the last row is whether it goes on with the last
on_last : (rows : List MergeRow) (last : MergeRow) (merge : MergeRec) → 0 < length rows → last ≡ get_or rows (length rows - 1) last
    → GoesOn last (row_of merge) ↔ GoesOnWithLast rows merge
on_last rows last merge some is =
    let ends = ends_in rows last some in (
      λ on. record { front = ends.0; last = last; rows_are = ends.1 ∙ ap (λ (row : MergeRow). ends.0 ++ row ∷ []) (sym is); on = on },
      λ goes. subst (λ (row : MergeRow). GoesOn row (row_of merge)) (sym (is ∙ last_is goes.front goes.last last rows goes.rows_are)) goes.on,
    )

-- there is no last of no rows
pub no_last : (rows : List MergeRow) (merge : MergeRec) → length rows ≡ 0 → GoesOnWithLast rows merge → ⊥
no_last rows merge none goes =
    let long = ap length goes.rows_are ∙ length-append goes.front (goes.last ∷ []) in
    omega (arith, none, long)

-- the last row is made longer where it stands
pub last_longer : (rows : List MergeRow) (many : ℕ) (now : MergeRow) (count : ℕ) → many ≡ length rows → now ≡ get_or rows (many - 1) now
    → count ≡ now.count + 1
    → IsLastLonger rows (set rows (many - 1)
    (record { first = now.first; second = now.second; count = count; cap = now.cap; measures = now.measures }))
last_longer rows many now count are is more = record {
  is = λ front last rows_are.
      let one : now ≡ last = is ∙ ap (λ (all : ℕ). get_or rows (all - 1) now) are ∙ last_is front last now rows rows_are in
      let long = ap length rows_are ∙ length-append front (last ∷ []) in
      let place : many - 1 ≡ length front = omega (arith, are, long) in
      let made : ◌≡◌ {A = MergeRow} (record { first = now.first; second = now.second; count = count; cap = now.cap; measures = now.measures }) (longer last) =
      λ k. record {
        first = (one k).first;
        second = (one k).second;
        count = (more ∙ ap (λ (row : MergeRow). row.count + 1) one) k;
        cap = (one k).cap;
        measures = (one k).measures;
      } in
      (λ k. set (rows_are k) (place k) (made k)) ∙ set-append_seam front last [] (longer last);
}

-- no rows stay none
pub none_longer : (rows : List MergeRow) → length rows ≡ 0 → IsLastLonger rows rows
none_longer rows none = record {
  is = λ front last rows_are.
      let long = ap length rows_are ∙ length-append front (last ∷ []) in
      absurd (omega (arith, none, long));
}

-- the last row with which a merge goes on, as a test of it finds
pub last_tested : (rows : List MergeRow) (last : MergeRow) (merge : MergeRec) → 0 < length rows
    → last ≡ get_or rows (length rows - 1) last → (test : Bool) → IsTrue test ↔ GoesOn last (row_of merge) → IsTrue test ↔ GoesOnWithLast rows merge
last_tested rows last merge some is test tested =
    let same = on_last rows last merge some is in
    (λ yes. same.0 (tested.0 yes), λ goes. tested.1 (same.1 goes))
