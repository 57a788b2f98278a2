-- Rows of merges.
use Rattle.std.specs.Prelude.{◌≡◌, List, [], ◌∷◌, All}
use Rattle.std.specs.List.{flat_map}
use Rattle.ext_model.specs.declared.records.MergeRec.{MergeRec}
use Rattle.ext_model.specs.declared.arrays.MergeRow.{MergeRow}
use Rattle.ext_model.specs.LawfulArrays.{BeginsIndexed, IsMergeRow}
use Rattle.ext_model.specs.Plain.{plain_merges, raised}

-- The second row goes on with the first: it has the same first path and adds the same, and its second path is the first one's with an
-- index raised by the length of the row.
pub record GoesOn (row next : MergeRow) : Type 0 where
  pub indexed : BeginsIndexed row.second
  pub first : next.first ≡ row.first
  pub cap : next.cap ≡ row.cap
  pub measures : next.measures ≡ row.measures
  pub second : next.second ≡ raised row.second row.count

-- None of the rows goes on with the one before it.
abbrev pub AreLongest : List MergeRow → Type 0
AreLongest [] = Unit {0}
AreLongest (row ∷ []) = Unit {0}
AreLongest (row ∷ next ∷ rows) = (GoesOn row next → ⊥) × AreLongest (next ∷ rows)

-- The merges, one by one in their order, make these rows, each as long as it can be.
pub record AreRowsOf (merges : List MergeRec) (rows : List MergeRow) : Type 0 where
  pub each : All IsMergeRow rows
  pub are : flat_map plain_merges rows ≡ merges
  pub longest : AreLongest rows
