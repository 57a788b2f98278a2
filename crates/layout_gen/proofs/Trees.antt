-- A lawful tree stays lawful with cells at the end whose sizes keep within the limits.
use Rattle.layout_gen.proofs.Common.{◌≡◌, ◌+◌, ◌<◌, ◌≤◌, ◌∙◌, ℕ, suc, List, [], ◌∷◌, ◌++◌, length, Some, refl, sym, ap, subst, arith, inl, inr, All}
use Rattle.layout_gen.proofs.Common.{slice_get, MOST_USES, Dimension, Size, MayCome, IsLawfulTree, Tree}
use Rattle.std.proofs.Common.{◌-◌, zero, length-append, map}
use Rattle.std.proofs.lemmas.Bool.{cases_lt}
use Rattle.std.proofs.lemmas.List.{get_or-append-add, get_or-append_right, get_or_append_left, length-map}
use Rattle.std.proofs.lemmas.Option.{get_or_from_slice_get, slice_get_within}
use Rattle.finite_sets.proofs.Places.{slice_get-append_cases}
use Rattle.cell_library.specs.CellTree.Sizes.{AreSizes, AreUsesBelow, CellState, IsWithin, no_size, size_at, size_of}
use Rattle.cell_library.specs.CellTree.Trees.{IsLawfulCell, stamp_at}
use Rattle.cell_library.proofs.CellTree.SizeLaws.{size_of-same}

-- one stamp for all
one_stamp : {X : Type 0} (xs : List X) (edits key : ℕ) → stamp_at (map (λ _. edits) xs) key ≤ edits
one_stamp [] edits key = omega arith
one_stamp (x ∷ xs) edits zero = omega arith
one_stamp (x ∷ xs) edits (suc key) = one_stamp xs edits key

-- the tree as if it had never been edited
abbrev pub unedited : Tree → Tree
unedited tree = record { cells = tree.cells; sizes = tree.sizes; stamps = map (λ _. 0) tree.cells; edits = 0 }

pub unedited_lawful : (tree : Tree) → IsLawfulTree tree → IsLawfulTree (unedited tree)
unedited_lawful tree lawful = record {
  cells = lawful.cells;
  each = lawful.each;
  sizes = lawful.sizes;
  stamps = length-map tree.cells (λ _. 0);
  past = λ key. one_stamp tree.cells 0 key;
}

-- the tree with these cells, of these sizes, at the end
abbrev pub with_cells : Tree → List CellState → List Size → Tree
with_cells tree more sizes =
    record { cells = tree.cells ++ more; sizes = tree.sizes ++ sizes; stamps = tree.stamps ++ map (λ _. suc tree.edits) more; edits = suc tree.edits }

module _ (tree : Tree) (lawful : IsLawfulTree tree) (more : List CellState) (sizes : List Size) (long : length sizes ≡ length more)
    (may : All (MayCome (length (tree.cells ++ more))) more) where
  -- what holds of cells that were there and of cells that may come holds of all
  each_cell : (P : CellState → Type 0) → ((key : ℕ) (cell : CellState) → slice_get tree.cells key ≡ Some cell → P cell)
      → ((cell : CellState) → MayCome (length (tree.cells ++ more)) cell → P cell)
      → (key : ℕ) (cell : CellState) → slice_get (tree.cells ++ more) key ≡ Some cell → P cell
  each_cell P old comes key cell is = elim (slice_get-append_cases tree.cells more key cell is) [
    | inl was ↦ old key cell was
    | inr new ↦
        comes cell (subst (MayCome (length (tree.cells ++ more))) (get_or_from_slice_get more new.0 cell cell new.2)
        (may new.0 cell (slice_get_within more new.0 cell new.2)))
  ]

  -- the size of a cell that was there
  pub old_size : (key : ℕ) → key < length tree.cells → size_at (tree.sizes ++ sizes) key ≡ size_at tree.sizes key
  old_size key below =
      let count = lawful.sizes.count in
      get_or_append_left tree.sizes sizes no_size key (omega arith)

  -- and of one that comes
  pub new_size : (key j : ℕ) → key ≡ length tree.cells + j → size_at (tree.sizes ++ sizes) key ≡ size_at sizes j
  new_size key j is =
      let count = lawful.sizes.count in
      let place : key ≡ length tree.sizes + j = omega arith in
      ap (size_at (tree.sizes ++ sizes)) place ∙ get_or-append-add tree.sizes sizes j no_size

  sizes_right : ((j : ℕ) (cell : CellState) → slice_get more j ≡ Some cell → size_at sizes j ≡ size_of (size_at (tree.sizes ++ sizes)) cell)
      → AreSizes (tree.cells ++ more) (tree.sizes ++ sizes)
  sizes_right right key cell is = elim (slice_get-append_cases tree.cells more key cell is) [
    | inl was ↦
        old_size key (slice_get_within tree.cells key cell was) ∙ lawful.sizes.right key cell was
        ∙ size_of-same (size_at tree.sizes) (size_at (tree.sizes ++ sizes)) cell
        (λ k entry stands. sym (old_size entry.1.child.0 (lawful.cells.uses key cell was k entry stands).1))
    | inr new ↦ new_size key new.0 new.1 ∙ right new.0 cell new.2
  ]

  sizes_within : ((dimension : Dimension) (j : ℕ) → IsWithin dimension (size_at sizes j)) → (dimension : Dimension) (key : ℕ)
      → IsWithin dimension (size_at (tree.sizes ++ sizes) key)
  sizes_within within dimension key = elim (cases_lt key (length tree.sizes)) [
    | inl low ↦ subst (IsWithin dimension) (sym (get_or_append_left tree.sizes sizes no_size key low)) (lawful.sizes.within dimension key)
    | inr high ↦
        subst (IsWithin dimension) (sym (get_or-append_right tree.sizes sizes (length tree.sizes) key no_size refl high))
        (within dimension (key - length tree.sizes))
  ]

  stamps_past : (key : ℕ) → stamp_at (tree.stamps ++ map (λ _. suc tree.edits) more) key ≤ suc tree.edits
  stamps_past key = elim (cases_lt key (length tree.stamps)) [
    | inl low ↦
        let old = lawful.past key in
        let same : stamp_at (tree.stamps ++ map (λ _. suc tree.edits) more) key ≡ stamp_at tree.stamps key =
        get_or_append_left tree.stamps (map (λ _. suc tree.edits) more) 0 key low in
        omega arith
    | inr high ↦
        let new = one_stamp more (suc tree.edits) (key - length tree.stamps) in
        let same : stamp_at (tree.stamps ++ map (λ _. suc tree.edits) more) key ≡ stamp_at (map (λ _. suc tree.edits) more) (key - length tree.stamps) =
        get_or-append_right tree.stamps (map (λ _. suc tree.edits) more) (length tree.stamps) key 0 refl high in
        omega arith
  ]

  pub with_cells_lawful : ((j : ℕ) (cell : CellState) → slice_get more j ≡ Some cell → size_at sizes j ≡ size_of (size_at (tree.sizes ++ sizes)) cell)
      → ((dimension : Dimension) (j : ℕ) → IsWithin dimension (size_at sizes j)) → IsLawfulTree (with_cells tree more sizes)
  with_cells_lawful right within =
      let many = length-append tree.cells more in
      let many_sizes = length-append tree.sizes sizes in
      let many_stamps = length-append tree.stamps (map (λ _. suc tree.edits) more) in
      let some_stamps = length-map more (λ (_ : CellState). suc tree.edits) in
      let count = lawful.sizes.count in
      let stamps = lawful.stamps in
      record {
        cells = record {
          few = each_cell (λ cell. length cell.uses ≤ MOST_USES) lawful.cells.few (λ cell comes. comes.few);
          uses = each_cell (λ cell. AreUsesBelow (length (tree.cells ++ more)) cell.uses)
              (λ key cell is k entry stands. let old = lawful.cells.uses key cell is k entry stands in (old.0, omega (arith, old.1, many)))
              (λ cell comes. comes.uses);
        };
        each = each_cell IsLawfulCell lawful.each (λ cell comes. comes.lawful);
        sizes = record { count = omega arith; right = sizes_right right; within = sizes_within within };
        stamps = omega arith;
        past = stamps_past;
      }
