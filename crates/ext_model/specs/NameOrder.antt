-- The name order: global names first and generated ones last, then by the number of slashes, then by length, then by bytes.
use Rattle.std.specs.Prelude.{◌≡◌, ℕ, false, List, ◌∷◌, length}
use Rattle.std.specs.declared.cmp.Ordering.{Ordering}
use Rattle.std.specs.Ordering.{nat_cmp, is_gt}
use Rattle.std.specs.Cmp.Lexicographic.{slice_cmp}
use Rattle.ext_model.specs.declared.names.NameKind.{NameKind}
use Rattle.ext_model.specs.declared.names.NameKind.TheVariants.{Global, Label, Generated}
use Rattle.ext_model.specs.NodeNames.{name_kind, slashes_in}

-- how many kinds come before it
abbrev pub kind_rank : NameKind → ℕ
kind_rank Global = 0
kind_rank Label = 1
kind_rank Generated = 2

-- the numbers by which names of one kind are compared, the first that differs deciding
abbrev pub rank_within_kind : List ℕ → List ℕ
rank_within_kind name = slashes_in name ∷ length name ∷ name

-- the numbers by which names are compared
abbrev pub name_rank : List ℕ → List ℕ
name_rank name = kind_rank (name_kind name) ∷ rank_within_kind name

-- which of two names of one kind stands first
abbrev pub order_within_kind : List ℕ → List ℕ → Ordering
order_within_kind a b = slice_cmp nat_cmp (rank_within_kind a) (rank_within_kind b)

-- which of two names stands first
abbrev pub name_cmp : List ℕ → List ℕ → Ordering
name_cmp a b = slice_cmp nat_cmp (name_rank a) (name_rank b)

-- The first name stands before the second, or they are one name.
abbrev pub StandsNoLater : List ℕ → List ℕ → Type 0
StandsNoLater a b = is_gt (name_cmp a b) ≡ false
