-- How long the chains are from each record on, and how many elements are at or below it, as far as numbers of records say.
use Rattle.std.specs.Prelude.{◌≡◌, ℕ, suc, ◌≤◌, min, List, [], ◌∷◌, map, length, reverse, sum, slice_index_or}
use Rattle.name_index.specs.FiniteSets.Lists.{In}
use Rattle.ext_model.specs.declared.records.CellExt.{CellExt}
use Rattle.circuit_model.specs.declared.limits.TheConstants.{LONGEST_CHAIN, MOST_FLAT_ELEMENTS}
use Rattle.circuit_model.specs.Refusals.{greatest}
use Rattle.element_tree.specs.declared.graph.RecordGraph.{RecordGraph}
use Rattle.element_tree.specs.Graphs.{IsGraphOf, children_of}

-- It is the graph of the records at and below some root.
pub record IsSomeGraph (exts : List CellExt) (graph : RecordGraph) : Type 0 where
  pub root : ℕ
  pub is : IsGraphOf exts root graph

-- the number of a record, which is 1 where it has none
abbrev pub value_at : List ℕ → ℕ → ℕ
value_at values cell = slice_index_or values cell 1

-- the number of a record by those of its children: how many records the longest chain from it has
abbrev pub chain_from : List ℕ → ℕ
chain_from lengths = suc (greatest lengths)

-- the number of a record by those of its children: how many elements are at or below it, or one more than the most
abbrev pub size_from : List ℕ → ℕ
size_from sizes = min (suc MOST_FLAT_ELEMENTS) (suc (sum sizes))

-- The number of each of the records is what these of its children make it.
abbrev pub AreMeasured : (List ℕ → ℕ) → List (List ℕ) → List ℕ → List ℕ → Type 0
AreMeasured from children values [] = Unit {0}
AreMeasured from children values (cell ∷ done) =
    (value_at values cell ≡ from (map (value_at values) (children_of children cell))) × AreMeasured from children values done

-- Each record that is reached has its number, and each that isn't has one too.
pub record AreMeasuredIn (from : List ℕ → ℕ) (graph : RecordGraph) (values : List ℕ) : Type 0 where
  pub long : length values ≡ length graph.children
  pub measured : AreMeasured from graph.children values (reverse graph.order)

-- The record is reached, and no more elements are at or below it than a tree may have.
pub record Fits (order sizes : List ℕ) (cell : ℕ) : Type 0 where
  pub reached : In cell order
  pub small : value_at sizes cell ≤ MOST_FLAT_ELEMENTS

-- The sizes are those of records whose chains are short below the root.
pub record AreSizes (graph : RecordGraph) (root : ℕ) (sizes : List ℕ) : Type 0 where
  pub sized : AreMeasuredIn size_from graph sizes
  pub lengths : List ℕ
  pub measured : AreMeasuredIn chain_from graph lengths
  pub short : value_at lengths root ≤ LONGEST_CHAIN
  pub fits : Fits graph.order sizes root
