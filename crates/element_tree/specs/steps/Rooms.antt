-- What is true of branches as far as elements are added by them, and of the element at which this begins.
use Rattle.std.specs.Prelude.{◌≡◌, ℕ, suc, ◌<◌, ◌≤◌, ◌+◌, ◌*◌, pos, neg_ℤ, ◌≤ℤ◌, Some, List, [], ◌∷◌, length, map, sum_by, slice_get}
use Rattle.name_index.specs.FiniteSets.Lists.{In, Distinct}
use Rattle.geo_core.specs.declared.transforms.Transform.{Transform}
use Rattle.ext_model.specs.declared.records.CellExt.{CellExt}
use Rattle.ext_model.specs.declared.limits.TheConstants.{ELEMENT_EDGE}
use Rattle.ext_model.specs.Lawful.{IsPlacement}
use Rattle.circuit_model.specs.declared.limits.TheConstants.{LONGEST_CHAIN, MOST_FLAT_ELEMENTS}
use Rattle.circuit_model.specs.Elements.{ext_of}
use Rattle.element_tree.specs.declared.tree.Branch.{Branch}
use Rattle.element_tree.specs.declared.tree.TreeElement.{TreeElement}
use Rattle.element_tree.specs.Trees.{branches_of}
use Rattle.element_tree.specs.steps.Links.{Link, links_of}
use Rattle.element_tree.specs.Sizes.{Fits, value_at}
use Rattle.element_tree.specs.steps.Forests.{lesser}

-- The displacement is no longer than so many of uses.
pub record MovesByAtMost (count : ℕ) (transform : Transform) : Type 0 where
  pub left : neg_ℤ (pos (count * ELEMENT_EDGE)) ≤ℤ transform.dx
  pub right : transform.dx ≤ℤ pos (count * ELEMENT_EDGE)
  pub down : neg_ℤ (pos (count * ELEMENT_EDGE)) ≤ℤ transform.dy
  pub up : transform.dy ≤ℤ pos (count * ELEMENT_EDGE)

-- The elements of the links stand one behind the other.
abbrev pub AreInSteps : (ℕ → ℕ) → ℕ → List Link → Type 0
AreInSteps size start [] = Unit {0}
AreInSteps size start (link ∷ links) = (link.branch.step ≡ start) × AreInSteps size (start + size link.branch.child) links

-- The links of records that fit: they lead to the records of their cells, which fit and have shorter chains.
pub record AreForest (exts : List CellExt) (branches : List (List Branch)) (order sizes : List ℕ) (length_of : ℕ → ℕ) : Type 0 where
  pub long : length branches ≡ length exts
  pub within : (cell : ℕ) → Fits order sizes cell → cell < length exts
  pub some : (cell : ℕ) → Fits order sizes cell → 0 < length_of cell
  pub paired : (cell : ℕ) (ext : CellExt) → Fits order sizes cell → slice_get exts cell ≡ Some ext
      → length (branches_of branches cell) ≡ length ext.uses
  pub leads : (cell : ℕ) (link : Link) → Fits order sizes cell → In link (links_of exts branches cell)
      → slice_get exts link.branch.child ≡ ext_of exts link.used.cell
  pub fits : (cell : ℕ) (link : Link) → Fits order sizes cell → In link (links_of exts branches cell) → Fits order sizes link.branch.child
  pub shorter : (cell : ℕ) (link : Link) → Fits order sizes cell → In link (links_of exts branches cell)
      → length_of link.branch.child < length_of cell
  pub sized : (cell : ℕ) → Fits order sizes cell
      → value_at sizes cell ≡ suc (sum_by (λ link. value_at sizes link.branch.child) (links_of exts branches cell))
  pub steps : (cell : ℕ) → Fits order sizes cell → AreInSteps (value_at sizes) 1 (links_of exts branches cell)
  pub ranks : (cell : ℕ) (link : Link) → Fits order sizes cell → In link (links_of exts branches cell)
      → link.branch.rank_step ≡ suc (lesser (value_at sizes) link.used.id (links_of exts branches cell))
  pub names : (cell : ℕ) → Fits order sizes cell → Distinct (map (λ link. link.used.id) (links_of exts branches cell))
  pub placed : (cell : ℕ) (link : Link) → Fits order sizes cell → In link (links_of exts branches cell) → IsPlacement ELEMENT_EDGE link.used.six

-- There is room for an element with this number and all below it, through at most so many records.
pub record HasRoom (exts : List CellExt) (branches : List (List Branch)) (levels number : ℕ) (flat : TreeElement) : Type 0 where
  pub order : List ℕ
  pub sizes : List ℕ
  pub length_of : ℕ → ℕ
  pub forest : AreForest exts branches order sizes length_of
  pub fits : Fits order sizes flat.cell
  pub numbers : number + value_at sizes flat.cell ≤ MOST_FLAT_ELEMENTS
  pub ranks : flat.rank + value_at sizes flat.cell ≤ MOST_FLAT_ELEMENTS
  pub deep : flat.depth + levels ≤ LONGEST_CHAIN
  pub moves : MovesByAtMost flat.depth flat.to_root
