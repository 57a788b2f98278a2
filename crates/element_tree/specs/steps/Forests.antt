-- What is true of the branches of all records.
use Rattle.std.specs.Prelude.{◌≡◌, ℕ, suc, ◌+◌, if◌then◌else◌, Some, List, [], ◌∷◌, length, sum_by, slice_get}
use Rattle.std.specs.Ordering.{is_lt}
use Rattle.name_index.specs.FiniteSets.Lists.{In}
use Rattle.ext_model.specs.declared.records.UseRec.{UseRec}
use Rattle.ext_model.specs.declared.records.CellExt.{CellExt}
use Rattle.ext_model.specs.NameParts.{element_cmp}
use Rattle.element_tree.specs.Graphs.{children_of}
use Rattle.element_tree.specs.declared.tree.Branch.{Branch}
use Rattle.element_tree.specs.Trees.{branches_of}
use Rattle.element_tree.specs.steps.Links.{Link, links_from}
use Rattle.element_tree.specs.Sizes.{Fits, value_at}

-- The branches lead to the children, each behind all elements of those before it.
abbrev pub AreSteps : (ℕ → ℕ) → ℕ → List ℕ → List Branch → Type 0
AreSteps size start [] [] = Unit {0}
AreSteps size start [] (branch ∷ branches) = ⊥
AreSteps size start (child ∷ children) [] = ⊥
AreSteps size start (child ∷ children) (branch ∷ branches) =
    (branch.child ≡ child) × (branch.step ≡ start) × AreSteps size (start + size child) children branches

-- how many elements are at or below the uses with lesser names
abbrev pub lesser : (ℕ → ℕ) → List ℕ → List Link → ℕ
lesser size id links = sum_by (λ link. if is_lt (element_cmp link.used.id id) then size link.branch.child else 0) links

-- The branches are those of the uses, which lead to the children.
pub record AreBranchesOf (size : ℕ → ℕ) (uses : List UseRec) (children : List ℕ) (branches : List Branch) : Type 0 where
  pub steps : AreSteps size 1 children branches
  pub ranks : (link : Link) → In link (links_from 0 uses branches)
      → link.branch.rank_step ≡ suc (lesser size link.used.id (links_from 0 uses branches))

-- Each record that fits has its branches.
pub record AreBranches (exts : List CellExt) (children : List (List ℕ)) (order sizes : List ℕ) (branches : List (List Branch)) : Type 0 where
  pub long : length branches ≡ length exts
  pub right : (cell : ℕ) (ext : CellExt) → Fits order sizes cell → slice_get exts cell ≡ Some ext
      → AreBranchesOf (value_at sizes) ext.uses (children_of children cell) (branches_of branches cell)
