-- Up to which row columns are covered.
use Rattle.std.specs.Prelude.{◌≡◌, ◌⊎◌, ℤ, ◌≤ℤ◌, ◌<ℤ◌, Bool, true, ◌&&◌, int_le, int_lt, if◌then◌else◌, Option, Some, None, List}
use Rattle.std.specs.Int.{int_max}
use Rattle.geo_core.specs.FiniteSets.Lists.{In}
use Rattle.geo_strips.specs.declared.coverage.Gap.{Gap}
use Rattle.geo_strips.specs.declared.coverage.Coverage.{Coverage, Even, Cut'}

-- the row below which a column is covered
abbrev pub until : Coverage → ℤ → ℤ
until (Even row) x = row
until (Cut' p at least most left right) x = int_max least (if int_lt x at then until left x else until right x)

-- the row below which all columns are covered for sure
abbrev pub least_of : Coverage → ℤ
least_of (Even row) = row
least_of (Cut' p at least most left right) = least

-- the row beyond which no column is covered
abbrev pub most_of : Coverage → ℤ
most_of (Even row) = row
most_of (Cut' p at least most left right) = most

-- in each fork no column is covered beyond what is written there
abbrev pub IsTopped : Coverage → Type 0
IsTopped (Even row) = Unit {0}
IsTopped (Cut' p at least most left right) =
    (least ≤ℤ most) × (most_of left ≤ℤ most) × (most_of right ≤ℤ most) × IsTopped left × IsTopped right

-- a fork cuts the columns at v
abbrev pub IsCut : Coverage → ℤ → Type 0
IsCut (Even row) v = ⊥
IsCut (Cut' p at least most left right) v = (v ≡ at) ⊎ (((v <ℤ at) × IsCut left v) ⊎ ((at <ℤ v) × IsCut right v))

-- the bound is none, or the columns are cut there
abbrev pub IsCutAt : Coverage → Option ℤ → Type 0
IsCutAt coverage None = Unit {0}
IsCutAt coverage (Some v) = IsCut coverage v

-- the column is on or after the first bound
abbrev pub is_from : Option ℤ → ℤ → Bool
is_from None x = true
is_from (Some from) x = int_le from x

-- the column is before the second bound
abbrev pub is_before : Option ℤ → ℤ → Bool
is_before None x = true
is_before (Some to) x = int_lt x to

-- the row of a column, after the columns between the bounds are covered below the row `top`
abbrev pub raised : Option ℤ → Option ℤ → ℤ → ℤ → ℤ → ℤ
raised from to top x row = if is_from from x && is_before to x then int_max row top else row

-- the bound, if there is one, lies before the cut
abbrev pub begins_before : Option ℤ → ℤ → Bool
begins_before None at = true
begins_before (Some from) at = int_lt from at

-- the bound, if there is one, lies after the cut
abbrev pub ends_after : Option ℤ → ℤ → Bool
ends_after None at = true
ends_after (Some to) at = int_lt at to

-- the bound, if it lies after the cut
abbrev pub begin_after : Option ℤ → ℤ → Option ℤ
begin_after None at = None
begin_after (Some from) at = if int_lt at from then Some from else None

-- the bound, if it lies before the cut
abbrev pub end_before : Option ℤ → ℤ → Option ℤ
end_before None at = None
end_before (Some to) at = if int_lt to at then Some to else None

-- after the columns between the bounds are covered below the row `top`, at the same cuts
pub record IsRaised (from to : Option ℤ) (top : ℤ) (old new : Coverage) : Type 0 where
  pub rows : (x : ℤ) → until new x ≡ raised from to top x (until old x)
  pub cuts : (v : ℤ) → IsCut old v → IsCut new v
  pub topped : IsTopped new

-- some gap of the list has the column
abbrev pub HaveColumn : List Gap → ℤ → Type 0
HaveColumn gaps x = (gap : Gap) × (In gap gaps × (gap.from ≤ℤ x) × (x <ℤ gap.to))

-- the new list has the columns of the old one and those with P
pub record AddsColumns (P : ℤ → Type 0) (old new : List Gap) : Type 0 where
  pub kept : (x : ℤ) → HaveColumn old x → HaveColumn new x
  pub added : (x : ℤ) → P x → HaveColumn new x
  pub only : (x : ℤ) → HaveColumn new x → HaveColumn old x ⊎ P x

-- the column is from `from` on and before `to`, and not covered in the row
pub record IsGap (coverage : Coverage) (from to row x : ℤ) : Type 0 where
  pub after : from ≤ℤ x
  pub before : x <ℤ to
  pub uncovered : until coverage x ≤ℤ row
