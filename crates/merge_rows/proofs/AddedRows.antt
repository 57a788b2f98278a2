-- Merges that are added to rows, one after the other.
use Rattle.std.proofs.Common.{◌≡◌, List, [], ◌++◌, sym, refl, subst, append_assoc, append-nil}
use Rattle.std.proofs.lemmas.List.Elements.{All-nil}
use Rattle.ext_model.specs.declared.records.MergeRec.{MergeRec}
use Rattle.ext_model.specs.declared.arrays.MergeRow.{MergeRow}
use Rattle.ext_model.specs.LawfulArrays.{IsMergeRow}
use Rattle.ext_model.specs.Rows.{AreRowsOf}
use Rattle.merge_rows.specs.AddedMerges.{AddsToRows}

-- no merges
pub add_none : (rows : List MergeRow) → AddsToRows [] rows rows
add_none rows = record { are = λ merges is. subst (λ (list : List MergeRec). AreRowsOf list rows) (sym (append-nil merges)) is }

-- some merges, and others behind them
pub add_then : (first second : List MergeRec) (old middle new : List MergeRow) → AddsToRows first old middle → AddsToRows second middle new
    → AddsToRows (first ++ second) old new
add_then first second old middle new here there = record {
  are = λ merges is.
      subst (λ (list : List MergeRec). AreRowsOf list new) (append_assoc merges first second) (there.are (merges ++ first) (here.are merges is));
}

-- the same merges
pub add_same : (added others : List MergeRec) (old new : List MergeRow) → added ≡ others → AddsToRows added old new → AddsToRows others old new
add_same added others old new same adds = subst (λ (list : List MergeRec). AddsToRows list old new) same adds

-- what is added to no rows has the rows that it makes
pub rows_made : (added : List MergeRec) (rows : List MergeRow) → AddsToRows added [] rows → AreRowsOf added rows
rows_made added rows adds = adds.are [] (record { each = All-nil IsMergeRow; are = refl; longest = tt })
