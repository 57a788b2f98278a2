-- The cells at and above a cell, as the tree has them and as they are seen.
use Rattle.ext_cache.proofs.Common.{◌≡◌, ℕ, List, sym, subst, stay, go, IsAtOrBelow, IsAbove, children_in, LibraryParts, IsLawfulLibrary, seen}
use Rattle.finite_sets.specs.Chain.{Chain}
use Rattle.finite_sets.proofs.Chains.{Chain-push}
use Rattle.tree_merges.specs.CellTree.Additions.{children_of}
use Rattle.tree_merges.proofs.CellTree.GraphLaws.{graph_uses, uses_graph}
use Rattle.tree_merges.proofs.CellLibrary.AddedCells.{children_seen}

-- a chain read backward, each step of which goes over to one of the other relation
turned : {R S : ℕ → ℕ → Type 0} → ((a b : ℕ) → R a b → S b a) → {a b : ℕ} → Chain R a b → Chain S b a
turned over stay = stay
turned over (go {a = a} {b = b} step rest) = Chain-push (turned over rest) (over a b step)

-- the children that are seen are those of the tree
seen_children : (library : LibraryParts) → IsLawfulLibrary library → children_in (seen library) ≡ children_of library.tree.cells
seen_children library lawful = children_seen library.contents library.tree.cells lawful.so_many

-- what stands above a cell in the tree is seen to have the cell at or below itself
pub above_leads_down : (library : LibraryParts) (cell key : ℕ) → IsLawfulLibrary library → IsAbove library.tree.cells cell key
    → IsAtOrBelow (children_in (seen library)) key cell
above_leads_down library cell key lawful above =
    subst (λ (children : List (List ℕ)). IsAtOrBelow children key cell) (sym (seen_children library lawful))
    (turned (λ lower upper used. uses_graph library.tree.cells upper lower used) above)

-- and what is seen to have the cell at or below itself stands above it in the tree
pub leads_down_from_above : (library : LibraryParts) (cell key : ℕ) → IsLawfulLibrary library → IsAtOrBelow (children_in (seen library)) key cell
    → IsAbove library.tree.cells cell key
leads_down_from_above library cell key lawful below =
    turned (λ upper lower used. graph_uses library.tree.cells upper lower used)
    (subst (λ (children : List (List ℕ)). IsAtOrBelow children key cell) (seen_children library lawful) below)
