-- Nothing refuses that the cells are added which are made, but too many edits.
use Rattle.layout_gen.proofs.Common.{◌≡◌, ◌+◌, ◌≤◌, ◌∙◌, ℕ, suc, List, [], ◌∷◌, ◌++◌, length, Some, None, refl, sym, ap, subst, arith, inl, inr, All}
use Rattle.layout_gen.proofs.Common.{IsTrue, codes, slice_get, unwrap_or, option_or, In, Rect, Label, RawTech, Place, Size, MayCome, IsLawfulTree}
use Rattle.layout_gen.proofs.Common.{Tree, MOST_CELLS, MOST_EDITS, LibraryParts, seen, count_seen, TileLayers, MADE_CELLS, MOST_TILES, AreLayers}
use Rattle.layout_gen.proofs.Common.{AreMade, AreNew, IsMade, array_use, IsGenerated}
use Rattle.std.proofs.Common.{◌⊎◌, zero, length-append, map}
use Rattle.std.proofs.lemmas.Option.{same_Some}
use Rattle.cell_library.specs.CellPaint.Paints.{layout_of}
use Rattle.cell_library.specs.CellBodies.declared.bodies.CellBody.{CellBody}
use Rattle.cell_library.specs.CellBodies.Bodies.{IsBody}
use Rattle.cell_library.specs.CellBodies.Numbers.{is_label_area}
use Rattle.cell_library.specs.CellTree.Sizes.{CellState, size_at, size_of}
use Rattle.cell_library.specs.declared.faults.LibFault.{LibFault}
use Rattle.cell_library.specs.declared.faults.LibFault.TheVariants as library_fault
use Rattle.cell_library.specs.declared.limits.LibraryLimit.TheVariants.{Edits}
use Rattle.cell_library.specs.steps.AddedCells.{AreCellsAdded, contents_with, held_from, kept_uses, new_views}
use Rattle.cell_library.specs.Additions.{AddAllIsRefused, CanBeAdded, first_scale, kept_use, with_all}
use Rattle.cell_library.specs.Libraries.{IsLawfulLibrary}
use Rattle.cell_library.specs.Limits.{AreStatesOf}
use Rattle.cell_library.specs.OwnBoxes.{OwnBoxIs}
use Rattle.cell_library.specs.Refusals.{EditIsRefused, HasFaultOrLacksMemory}
use Rattle.cell_library.proofs.AddedCells.{all_added_unrefused, all_names, cells_fit}
use Rattle.cell_library.proofs.ArrivingUses.{cell_may_come}
use Rattle.layout_gen.specs.Generated.{no_paint, row_grid, row_name, stack_grid, tile_labels, tile_layout, tile_name}
use Rattle.layout_gen.proofs.MadeCells.{all_three, can_be_listed, listed, listed_generated, row_uses, stack_uses}
use Rattle.layout_gen.proofs.Sizes.{made_sizes, made_within, row_size, row_state, size_of_use, stack_state, tile_box, tile_box_is, tile_fits}
use Rattle.layout_gen.proofs.Sizes.{tile_size, tile_size_is}
use Rattle.layout_gen.proofs.Trees.{new_size, old_size, unedited, unedited_lawful, with_cells, with_cells_lawful}

-- the library as if it had never been edited
abbrev unedited_library : LibraryParts → LibraryParts
unedited_library library = record { tech = library.tech; scale = library.scale; contents = library.contents; tree = unedited library.tree }

unedited_library_lawful : (library : LibraryParts) → IsLawfulLibrary library → IsLawfulLibrary (unedited_library library)
unedited_library_lawful library lawful = record {
  well_formed = lawful.well_formed;
  rules = lawful.rules;
  so_many = lawful.so_many;
  few = lawful.few;
  names_differ = lawful.names_differ;
  each = lawful.each;
  boxes = lawful.boxes;
  ids = lawful.ids;
  scale = lawful.scale;
  tree = unedited_lawful library.tree lawful.tree;
}

near_labels : (raw : RawTech) (body : CellBody) → IsBody raw body → All (λ (label : Label). IsTrue (is_label_area label.area)) body.labels
near_labels raw body is k d below = (is.labels k d below).area

-- a body without paint and labels has no box of its own
empty_box : (raw : RawTech) (body : CellBody) → ((place : Place) → layout_of body.paint place ≡ no_paint place) → body.labels ≡ []
    → OwnBoxIs (layout_of body.paint) body.labels None
empty_box raw body bare none has = elim has [
  | inl material ↦ material.1 (bare material.0)
  | inr label ↦ subst (λ (labels : List Label). In label.0 labels) none label.1
]

-- the cells that are made, as the tree has them
abbrev states_made : Rect → ℕ → ℕ → List CellState
states_made box count n = record { own = Some box; uses = [] } ∷ row_state count n ∷ stack_state (count + 1) n ∷ []

-- their sizes are right
sizes_made : (tree : Tree) (lawful : IsLawfulTree tree) (box : Rect) (count n : ℕ) → count ≡ length tree.cells
    → (may : All (MayCome (length (tree.cells ++ states_made box count n))) (states_made box count n)) → (j : ℕ) (cell : CellState)
    → slice_get (states_made box count n) j ≡ Some cell
    → size_at (made_sizes box count (count + 1) n) j ≡ size_of (size_at (tree.sizes ++ made_sizes box count (count + 1) n)) cell
sizes_made tree lawful box count n many may zero cell is =
    let sizes : ℕ → Size = size_at (tree.sizes ++ made_sizes box count (count + 1) n) in
    tile_size_is sizes box ∙ ap (size_of sizes) (same_Some _ _ is)
sizes_made tree lawful box count n many may (suc zero) cell is =
    let made = made_sizes box count (count + 1) n in
    let sizes : ℕ → Size = size_at (tree.sizes ++ made) in
    size_of_use sizes (codes "t") count (row_grid n) (tile_size box)
    (new_size tree lawful (states_made box count n) made refl may count 0 (omega (arith, many)))
    ∙ ap (size_of sizes) (same_Some _ _ is)
sizes_made tree lawful box count n many may (suc (suc zero)) cell is =
    let made = made_sizes box count (count + 1) n in
    let sizes : ℕ → Size = size_at (tree.sizes ++ made) in
    size_of_use sizes (codes "r") (count + 1) (stack_grid n) (row_size box count n)
    (new_size tree lawful (states_made box count n) made refl may (count + 1) 1 (omega (arith, many)))
    ∙ ap (size_of sizes) (same_Some _ _ is)
sizes_made tree lawful box count n many may (suc (suc (suc j))) cell is = absurd (cc)

module _ (library : LibraryParts) (lawful : IsLawfulLibrary library) (layers : TileLayers) (n : ℕ) (some : 1 ≤ n) (few : n ≤ MOST_TILES)
    (new : AreNew (seen library)) (are : AreLayers library.tech layers) (room : length library.contents + MADE_CELLS ≤ MOST_CELLS)
    (tile row stack : CellBody)
    (tile_is : IsMade library.tech (tile_layout library.tech layers.poly.0 layers.diff.0) (tile_labels layers.poly.0 layers.diff.0) []
    (unwrap_or library.scale (1, 1)) tile)
    (row_is : IsMade library.tech no_paint [] (array_use tile_name (codes "t") (row_grid n) ∷ []) (unwrap_or library.scale (1, 1)) row)
    (stack_is : IsMade library.tech no_paint [] (array_use row_name (codes "r") (stack_grid n) ∷ []) (unwrap_or library.scale (1, 1)) stack) where
  can : CanBeAdded (seen library) (listed tile row stack)
  can = can_be_listed library lawful layers n some few new are room tile row stack tile_is row_is stack_is

  -- the own boxes and the uses of the cells
  states_are : AreStatesOf (new_views library.contents (listed tile row stack))
      (states_made (tile_box tile_is.box layers.poly.0 layers.diff.0) (length (seen library).cells) n)
  states_are =
      let contents = contents_with library.contents (listed tile row stack) in
      let count = length (seen library).cells in
      let names = all_names library lawful (listed tile row stack) can in
      let poly = layers.poly.0 in
      let diff = layers.diff.0 in (
        subst (λ (labels : List Label). OwnBoxIs (layout_of tile.paint) labels (Some (tile_box tile_is.box poly diff))) (sym tile_is.labels_are)
            (tile_box_is (layout_of tile.paint) tile_is.box poly diff tile_is.box_is),
        ap (kept_uses contents) (sym tile_is.uses_are),
        (
          empty_box library.tech row row_is.own_is row_is.labels_are,
          sym (ap (λ (all : List (List ℕ)). map (kept_use all) row.uses) names
              ∙ row_uses library lawful layers n some few new are room tile row stack tile_is row_is stack_is),
          (
            empty_box library.tech stack stack_is.own_is stack_is.labels_are,
            sym (ap (λ (all : List (List ℕ)). map (kept_use all) stack.uses) names
                ∙ stack_uses library lawful layers n some few new are room tile row stack tile_is row_is stack_is),
            tt,
          ),
        ),
      )

  -- the cells may come to the tree
  may_come : All (MayCome (length (library.tree.cells ++ states_made (tile_box tile_is.box layers.poly.0 layers.diff.0) (length (seen library).cells) n)))
      (states_made (tile_box tile_is.box layers.poly.0 layers.diff.0) (length (seen library).cells) n)
  may_come =
      let cells = listed tile row stack in
      let contents = contents_with library.contents cells in
      let count = length (seen library).cells in
      let box = tile_box tile_is.box layers.poly.0 layers.diff.0 in
      let states = states_made box count n in
      let fit = cells_fit library lawful cells can in
      let many : length contents ≡ length (library.tree.cells ++ states) =
      (let a = length-append library.contents (map held_from cells) in
      let b = length-append library.tree.cells states in
      let d = lawful.so_many in
      omega arith) in
      let none : List ℕ × CellBody = (tile_name, tile) in
      subst (λ (total : ℕ). All (MayCome total) states) many
      (all_three (MayCome (length contents)) (record { own = Some box; uses = [] }) (row_state count n) (stack_state (count + 1) n)
      (cell_may_come contents tile.paint.kinds (layout_of tile.paint) tile.labels tile.uses (record { own = Some box; uses = [] }) states_are.0
      tile_is.sound (near_labels library.tech tile (can.bodies 0 none (omega arith))) (fit.uses 0 none (omega arith)) states_are.1)
      (cell_may_come contents row.paint.kinds (layout_of row.paint) row.labels row.uses (row_state count n) states_are.2.0
      row_is.sound (near_labels library.tech row (can.bodies 1 none (omega arith))) (fit.uses 1 none (omega arith)) states_are.2.1)
      (cell_may_come contents stack.paint.kinds (layout_of stack.paint) stack.labels stack.uses (stack_state (count + 1) n) states_are.2.2.0
      stack_is.sound (near_labels library.tech stack (can.bodies 2 none (omega arith))) (fit.uses 2 none (omega arith)) states_are.2.2.1))

  -- the tree would be lawful then
  tree_then : IsLawfulTree (with_cells (unedited library.tree) (states_made (tile_box tile_is.box layers.poly.0 layers.diff.0) (length (seen library).cells) n)
      (made_sizes (tile_box tile_is.box layers.poly.0 layers.diff.0) (length (seen library).cells) (length (seen library).cells + 1) n))
  tree_then =
      let count = length (seen library).cells in
      let box = tile_box tile_is.box layers.poly.0 layers.diff.0 in
      let tree = unedited library.tree in
      let tree_lawful = unedited_lawful library.tree lawful.tree in
      let many : count ≡ length library.tree.cells = count_seen library ∙ sym lawful.so_many in
      with_cells_lawful tree tree_lawful (states_made box count n) (made_sizes box count (count + 1) n) refl may_come
      (sizes_made tree tree_lawful box count n many may_come)
      (made_within box count (count + 1) n some few
      (tile_fits library.tech (layout_of tile.paint) tile_is.box layers.poly.0 layers.diff.0 tile_is.own_is tile_is.box_is))

  -- what would become of an unedited library
  would_come : AreCellsAdded (listed tile row stack) library.scale (option_or library.scale (first_scale (listed tile row stack))) library.contents
      (contents_with library.contents (listed tile row stack)) (unedited library.tree)
      (with_cells (unedited library.tree) (states_made (tile_box tile_is.box layers.poly.0 layers.diff.0) (length (seen library).cells) n)
      (made_sizes (tile_box tile_is.box layers.poly.0 layers.diff.0) (length (seen library).cells) (length (seen library).cells + 1) n))
  would_come =
      let count = length (seen library).cells in
      let box = tile_box tile_is.box layers.poly.0 layers.diff.0 in
      let tree = unedited library.tree in
      let tree_lawful = unedited_lawful library.tree lawful.tree in
      record {
        edits = omega arith;
        scale_is = refl;
        contents = refl;
        tree = record {
          states = states_made box count n;
          are = states_are;
          added = record {
            cells = refl;
            sizes = λ key below. old_size tree tree_lawful (states_made box count n) (made_sizes box count (count + 1) n) refl may_come key below;
            edits = refl;
            stamps = refl;
          };
        };
      }

  -- nothing refuses them but the number of edits
  pub listed_unrefused : (fault : LibFault) → AddAllIsRefused (seen library) (listed tile row stack) fault → ⊥
  listed_unrefused fault refused =
      let tree = unedited library.tree in
      all_added_unrefused (unedited_library library) (unedited_library_lawful library lawful) (listed tile row stack) can
      (option_or library.scale (first_scale (listed tile row stack))) (contents_with library.contents (listed tile row stack))
      (with_cells tree (states_made (tile_box tile_is.box layers.poly.0 layers.diff.0) (length (seen library).cells) n)
      (made_sizes (tile_box tile_is.box layers.poly.0 layers.diff.0) (length (seen library).cells) (length (seen library).cells + 1) n))
      would_come tree_then fault (inr ((λ full. absurd (omega arith)), refused))

-- ---- the cells as a list

module _ (library : LibraryParts) (lawful : IsLawfulLibrary library) (layers : TileLayers) (n : ℕ) (some : 1 ≤ n) (few : n ≤ MOST_TILES)
    (cells : List (List ℕ × CellBody)) (new : AreNew (seen library)) (are : AreLayers library.tech layers)
    (room : length library.contents + MADE_CELLS ≤ MOST_CELLS) (made : AreMade library.tech layers (unwrap_or library.scale (1, 1)) n cells) where
  -- they may be added
  pub can_be_added : CanBeAdded (seen library) cells
  can_be_added =
      subst (CanBeAdded (seen library)) (sym made.are)
      (can_be_listed library lawful layers n some few new are room made.tile made.row made.stack made.tile_is made.row_is made.stack_is)

  -- and are what they should be then
  pub generated : IsGenerated (seen library) n (with_all (seen library) cells)
  generated =
      subst (λ (list : List (List ℕ × CellBody)). IsGenerated (seen library) n (with_all (seen library) list)) (sym made.are)
      (listed_generated library lawful layers n some few new are room made.tile made.row made.stack made.tile_is made.row_is made.stack_is)

  pub three_cells : length cells ≡ MADE_CELLS
  three_cells = ap length made.are

  -- what refuses them is want of memory, or the number of edits
  pub refused_for : (edits : ℕ) (fault : LibFault) → HasFaultOrLacksMemory (EditIsRefused edits (AddAllIsRefused (seen library) cells)) fault
      → (fault ≡ library_fault.Memory) ⊎ ((edits ≡ MOST_EDITS) × (fault ≡ library_fault.TooMany Edits))
  refused_for edits fault (inl memory) = inl memory
  refused_for edits fault (inr (inl full)) = inr full
  refused_for edits fault (inr (inr later)) =
      absurd (listed_unrefused library lawful layers n some few new are room made.tile made.row made.stack made.tile_is made.row_is made.stack_is fault
      (subst (λ (list : List (List ℕ × CellBody)). AddAllIsRefused (seen library) list fault) made.are later.1))
