-- The uses of records together with their branches, and the chains of them that lead to elements.
use Rattle.std.specs.Prelude.{ℕ, zero, suc, ◌+◌, List, [], ◌∷◌, map, length, slice_get}
use Rattle.std.specs.List.{flat_map}
use Rattle.geo_core.specs.Images.{composed, identity}
use Rattle.ext_model.specs.declared.records.UseRec.{UseRec}
use Rattle.ext_model.specs.declared.records.CellExt.{CellExt}
use Rattle.circuit_model.specs.Elements.{of_option, transform_of}
use Rattle.element_tree.specs.declared.tree.Branch.{Branch}
use Rattle.element_tree.specs.declared.tree.TreeElement.{TreeElement}
use Rattle.element_tree.specs.Trees.{branches_of}

-- A use of a record: its number there, the use and its branch.
pub record Link : Type 0 where
  pub at : ℕ
  pub used : UseRec
  pub branch : Branch

-- the uses with their branches, numbered from one on
abbrev pub links_from : ℕ → List UseRec → List Branch → List Link
links_from at [] branches = []
links_from at (used ∷ uses) [] = []
links_from at (used ∷ uses) (branch ∷ branches) = record { at = at; used = used; branch = branch } ∷ links_from (suc at) uses branches

-- the uses of a record with their branches
unfoldable pub links_of : List CellExt → List (List Branch) → ℕ → List Link
links_of exts branches cell = of_option (λ ext. links_from 0 ext.uses (branches_of branches cell)) (slice_get exts cell)

-- the chains of uses from a record on, through at most so many records, depth first: the empty one leads to the record itself
unfoldable pub chains_below : ℕ → (ℕ → List Link) → ℕ → List (List Link)
chains_below zero links cell = []
chains_below (suc levels) links cell = [] ∷ flat_map (λ link. map (λ chain. link ∷ chain) (chains_below levels links link.branch.child)) (links cell)

-- what the tree has of the root
abbrev pub top_flat : ℕ → TreeElement
top_flat root = record { cell = root; parent = 0; at = 0; depth = 0; bytes = 0; rank = 0; to_root = identity }

-- what the tree has of the element at a link of another, which has this number
abbrev pub flat_below : ℕ → TreeElement → Link → TreeElement
flat_below number flat link = record {
  cell = link.branch.child;
  parent = number;
  at = link.at;
  depth = flat.depth + 1;
  bytes = flat.bytes + suc (length link.used.id);
  rank = flat.rank + link.branch.rank_step;
  to_root = composed (transform_of link.used.six) flat.to_root;
}

-- what the tree has of the element along a chain from another, which has this number
abbrev pub flat_along : ℕ → TreeElement → List Link → TreeElement
flat_along number flat [] = flat
flat_along number flat (link ∷ chain) = flat_along (number + link.branch.step) (flat_below number flat link) chain

-- what the tree has of an element with this number and of all below it
abbrev pub flats_below : ℕ → (ℕ → List Link) → ℕ → TreeElement → List TreeElement
flats_below levels links number flat = map (flat_along number flat) (chains_below levels links flat.cell)
