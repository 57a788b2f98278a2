-- The circuit of a stack has a node for each row and each column.
use Rattle.stack_nodes.proofs.Common.{◌≡◌, ◌<◌, ◌+◌, ℕ, List, length, refl, subst, arith, inl, inr, false, Some, codes, cases_Bool, RawTech, Place}
use Rattle.stack_nodes.proofs.Common.{LibraryView, Circuit, NodeRec, is_global, slashes_in, names_of, tile_name, HasOwnName}
use Rattle.std.specs.List.{flat_map, list_any}
use Rattle.std.specs.Str.{bytes_eq}
use Rattle.std.proofs.lemmas.Slice.Eq.{bytes_eq-Decides}
use Rattle.tech_model.specs.Types.{has_name, layer_named}
use Rattle.tech_model.proofs.GeoCore.FiniteSets.Images.{In-flat_map, In-flat_map_source}
use Rattle.tech_model.proofs.GeoCore.FiniteSets.Searches.{In-from_list_any, absent-from_list_any, position_from-below}
use Rattle.layout_gen.specs.Generated.{diff_name, poly_name}
use Rattle.library_trees.specs.NamedCells.{named_tree_at}
use Rattle.library_trees.specs.TreeRecords.TreeCircuits.{IsFlatCircuit}
use Rattle.stack_nodes.specs.StackNodes.{HasNodeOfName, IsStackCircuit, OfRowsAndColumns, StackCircuitsHaveTheirNodes}
use Rattle.stack_nodes.proofs.StackNames.{HasFlatName, column_name_is, named_in_stack, row_name_is, tile_path}
use Rattle.stack_nodes.proofs.StackTrees.{stack_is, stack_tree}
use Rattle.stack_nodes.proofs.TileNodes.{diff_named, poly_named, tile_body}

-- a layer that a technology names is one of its layers
layer_below : (raw : RawTech) (word : List ℕ) (layer : ℕ) → layer_named raw word ≡ Some layer → layer < length raw.layers
layer_below raw word layer is = let below = position_from-below (has_name word) 0 raw.layers layer is in omega (arith, below)

-- a node has the name, where it can't be that none has it
one_has : (nodes : List NodeRec) (name : List ℕ) → ¬ (HasNodeOfName nodes name → ⊥) → HasNodeOfName nodes name
one_has nodes name some = elim (cases_Bool (list_any (bytes_eq name) (flat_map names_of nodes))) [
  | inl there ↦ (
      let source = In-flat_map_source names_of name nodes (In-from_list_any bytes_eq bytes_eq-Decides name (flat_map names_of nodes) there) in
      record { node = source.0; listed = source.1.0; named = source.1.1 })
  | inr absent ↦ absurd (some (λ has.
      absent-from_list_any bytes_eq bytes_eq-Decides name (flat_map names_of nodes) absent (In-flat_map names_of has.node name nodes has.listed has.named)))
]

module _ (before : LibraryView) (n : ℕ) (circuit : Circuit) (is : IsStackCircuit before n circuit) where
  abbrev raw : RawTech
  raw = before.tech

  abbrev poly : ℕ
  poly = is.made.poly

  abbrev diff : ℕ
  diff = is.made.diff

  abbrev count : ℕ
  count = length before.cells

  pub poly_below : poly < length raw.layers
  poly_below = layer_below before.tech poly_name is.made.poly is.made.poly_is

  pub diff_below : diff < length raw.layers
  diff_below = layer_below before.tech diff_name is.made.diff is.made.diff_is

  -- it is the circuit of the tree of rows of tiles
  pub is_of_tree : IsFlatCircuit raw (stack_tree raw poly diff n count) circuit
  is_of_tree =
      subst (λ tree. IsFlatCircuit before.tech tree circuit) (stack_is before is.made.poly is.made.diff n)
      (subst (λ (after : LibraryView). IsFlatCircuit after.tech (named_tree_at after (length before.cells + 2)) circuit) is.made.is is.is_circuit)

  -- a name of a flat node is a name of a node of the circuit
  flat_name_stands : (name : List ℕ) → HasFlatName raw is.well_formed is.rules.own_sets poly diff n count poly_below diff_below name
      → HasNodeOfName circuit.nodes name
  flat_name_stands name has =
      let record_there = is_of_tree.whole has.place has.material in
      record { node = record_there.node; listed = record_there.listed; named = (record_there.is.names name).1 has.named }

  -- a name that a node of the tile has is one of the circuit, with the names of a row and a tile before it
  tile_name_stands : (i j : ℕ) → i < n → j < n → (name : List ℕ) → slashes_in name ≡ 0 → is_global name ≡ false
      → (((place : Place) → HasOwnName raw (tile_body count tile_name raw poly diff) place name → ⊥) → ⊥)
      → HasNodeOfName circuit.nodes (tile_path i j name)
  tile_name_stands i j i_below j_below name whole local named =
      one_has circuit.nodes (tile_path i j name) (λ none.
      named (λ place own. none (flat_name_stands (tile_path i j name)
      (named_in_stack raw is.well_formed is.rules.own_sets poly diff n count poly_below diff_below i j i_below j_below name place own whole local))))

  rows_and_columns : OfRowsAndColumns (HasNodeOfName circuit.nodes) n
  rows_and_columns = record {
    rows = λ j below.
        subst (HasNodeOfName circuit.nodes) (row_name_is j)
        (tile_name_stands 0 j (omega (arith, below)) below (codes "w") refl refl
        (poly_named raw is.well_formed is.rules poly diff poly_below diff_below count tile_name));
    columns = λ i below.
        subst (HasNodeOfName circuit.nodes) (column_name_is i)
        (tile_name_stands i 0 below (omega (arith, below)) (codes "b") refl refl
        (diff_named raw is.well_formed is.rules poly diff poly_below diff_below count tile_name));
  }

-- the circuit of a stack has its nodes
pub stack_circuits_have_their_nodes : StackCircuitsHaveTheirNodes
stack_circuits_have_their_nodes before n circuit is = rows_and_columns before n circuit is
