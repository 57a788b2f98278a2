-- How many rectangles cover each column of a row, and which columns are shared.
use Rattle.std.specs.Prelude.{◌≡◌, ◌⊎◌, ◌↔◌, ℕ, suc, ◌+◌, ℤ, pos, ◌+ℤ◌, ◌≤ℤ◌, ◌<ℤ◌, neg_ℤ, ◌^◌}
use Rattle.std.specs.Prelude.{Bool, true, false, ◌&&◌, int_le, int_lt, if◌then◌else◌, Option, Some, None}
use Rattle.std.specs.Int.{int_max, int_min}
use Rattle.std.specs.Ordering.{int_cmp}
use Rattle.std.specs.BTreeMap.{get}
use Rattle.geo_strips.specs.Coverage.{is_from, is_before}
use Rattle.geo_strips.specs.RowRuns.{Row, IsInRow, AreRuns, Changes}
use Rattle.interact.specs.declared.counts.Bounds.{Bounds}
use Rattle.interact.specs.declared.counts.Counts.{Counts, Even, Cut'}
use Rattle.interact.specs.declared.counts.Fork.{Fork}
use Rattle.interact.specs.declared.counts.SharedRuns.{SharedRuns}

-- how many rectangles cover the column
abbrev pub count_of : Counts → ℤ → ℤ
count_of (Even column) x = column.count
count_of (Cut' p at extra all bounds left right) x = extra +ℤ (if int_lt x at then count_of left x else count_of right x)

-- what is said of all, or else of one
abbrev pub told_or : Option Bool → Bool → Bool
told_or None one = one
told_or (Some all) one = all

-- whether the column was shared when the counts were settled last
abbrev pub is_shared : Counts → ℤ → Bool
is_shared (Even column) x = column.shared
is_shared (Cut' p at extra all bounds left right) x = told_or all (if int_lt x at then is_shared left x else is_shared right x)

-- farther than any count comes
abbrev pub far : ℤ
far = pos (2 ^ 62)

-- the bounds if all columns are shared, or none
abbrev pub of_all : Bool → Bounds → Bounds
of_all shared bounds = record {
  least = bounds.least;
  most = bounds.most;
  least_shared = if shared then bounds.least else far;
  most_lone = if shared then neg_ℤ far else bounds.most;
}

-- the bounds if this is said of all columns
abbrev pub of_told : Option Bool → Bounds → Bounds
of_told None bounds = bounds
of_told (Some shared) bounds = of_all shared bounds

-- what is known of the columns
abbrev pub bounds_of : Counts → Bounds
bounds_of (Even column) =
    of_all column.shared (record { least = column.count; most = column.count; least_shared = column.count; most_lone = column.count })
bounds_of (Cut' p at extra all bounds left right) = bounds

-- the bounds once so many rectangles more cover all columns
abbrev pub shifted : ℤ → Bounds → Bounds
shifted more bounds = record {
  least = bounds.least +ℤ more;
  most = bounds.most +ℤ more;
  least_shared = bounds.least_shared +ℤ more;
  most_lone = bounds.most_lone +ℤ more;
}

-- the bounds of both columns
abbrev pub joined : Bounds → Bounds → Bounds
joined a b = record {
  least = int_min a.least b.least;
  most = int_max a.most b.most;
  least_shared = int_min a.least_shared b.least_shared;
  most_lone = int_max a.most_lone b.most_lone;
}

-- the bounds hold for columns with these counts, of which these are shared
pub record AreBounds (bounds : Bounds) (count : ℤ → ℤ) (shared : ℤ → Bool) : Type 0 where
  pub least : (x : ℤ) → bounds.least ≤ℤ count x
  pub most : (x : ℤ) → count x ≤ℤ bounds.most
  pub least_shared : (x : ℤ) → shared x ≡ true → bounds.least_shared ≤ℤ count x
  pub most_lone : (x : ℤ) → shared x ≡ false → count x ≤ℤ bounds.most_lone

-- in each fork the bounds hold
abbrev pub IsTold : Counts → Type 0
IsTold (Even column) = Unit {0}
IsTold (Cut' p at extra all bounds left right) =
    AreBounds bounds (count_of (Cut' p at extra all bounds left right)) (is_shared (Cut' p at extra all bounds left right))
    × IsTold left × IsTold right

-- how many cuts there are
abbrev pub forks : Counts → ℕ
forks (Even column) = 0
forks (Cut' p at extra all bounds left right) = suc (forks left + forks right)

-- a fork cuts the columns at v
abbrev pub IsCut : Counts → ℤ → Type 0
IsCut (Even column) v = ⊥
IsCut (Cut' p at extra all bounds left right) v = (v ≡ at) ⊎ (((v <ℤ at) × IsCut left v) ⊎ ((at <ℤ v) × IsCut right v))

-- the bound is none, or the columns are cut there
abbrev pub IsCutAt : Counts → Option ℤ → Type 0
IsCutAt counts None = Unit {0}
IsCutAt counts (Some v) = IsCut counts v

-- no rectangle covers any column, and none is shared
pub record IsFresh (fresh : Counts) : Type 0 where
  pub counts : (x : ℤ) → count_of fresh x ≡ pos 0
  pub lone : (x : ℤ) → is_shared fresh x ≡ false
  pub told : IsTold fresh

-- so many rectangles more cover the columns between the bounds
pub record IsAdded (from to : Option ℤ) (more : ℤ) (old new : Counts) : Type 0 where
  pub counts : (x : ℤ) → count_of new x ≡ (if is_from from x && is_before to x then count_of old x +ℤ more else count_of old x)
  pub shared : (x : ℤ) → is_shared new x ≡ is_shared old x
  pub cuts : (v : ℤ) → IsCut old v → IsCut new v
  pub told : IsTold new

-- all columns are shared, or none
pub record IsOfAll (all : Bool) (old new : Counts) : Type 0 where
  pub counts : (x : ℤ) → count_of new x ≡ count_of old x
  pub shared : (x : ℤ) → is_shared new x ≡ all
  pub cuts : (v : ℤ) → IsCut old v → IsCut new v
  pub told : IsTold new
  pub as_many : forks new ≡ forks old

-- the counts are the same, and what was said of all columns is said of each
pub record IsSide (all : Option Bool) (old new : Counts) : Type 0 where
  pub counts : (x : ℤ) → count_of new x ≡ count_of old x
  pub shared : (x : ℤ) → is_shared new x ≡ told_or all (is_shared old x)
  pub cuts : (v : ℤ) → IsCut old v → IsCut new v
  pub told : IsTold new
  pub as_many : forks new ≡ forks old

-- the sides of a fork say themselves which columns are shared
pub record IsPushed (old new : Fork) : Type 0 where
  pub at : new.at ≡ old.at
  pub extra : new.extra ≡ old.extra
  pub all : new.all ≡ None
  pub bounds : new.bounds ≡ old.bounds
  pub left : IsSide old.all old.left new.left
  pub right : IsSide old.all old.right new.right

-- the bounds of the whole, as the sides and the fork say
abbrev pub refreshed : Fork → Fork
refreshed fork = record fork { bounds = of_told fork.all (shifted fork.extra (joined (bounds_of fork.left) (bounds_of fork.right))) }

-- the runs of the row
abbrev pub row_of : SharedRuns → Row
row_of runs = get int_cmp runs.runs

-- At the row, the columns from `from` on and before `to` that two or more cover are shared and in runs, and no others of these
-- are. `above` rectangles cover all of them besides those that are counted.
pub record IsSettled (above from to row : ℤ) (old new : Counts) (before after : SharedRuns) : Type 0 where
  pub counts : (x : ℤ) → count_of new x ≡ count_of old x
  pub shared : (x : ℤ) → from ≤ℤ x → x <ℤ to → is_shared new x ≡ int_le (pos 2) (above +ℤ count_of old x)
  pub cuts : (v : ℤ) → IsCut old v → IsCut new v
  pub told : IsTold new
  pub apart : AreRuns (row_of after)
  pub changes : Changes row (row_of before) (row_of after) before.ended.items after.ended.items
  pub inside : (x : ℤ) → from ≤ℤ x → x <ℤ to → IsInRow (row_of after) x ↔ (pos 2 ≤ℤ (above +ℤ count_of old x))
  pub outside : (x : ℤ) → (x <ℤ from) ⊎ (to ≤ℤ x) → IsInRow (row_of after) x ↔ IsInRow (row_of before) x
