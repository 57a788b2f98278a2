-- What it means to add cells to a library all at once: which may be added, what becomes of the library, and what refuses them.
use Rattle.std.specs.Prelude.{◌≡◌, ◌⊎◌, ◌<◌, ◌≤◌, ℕ, suc, IsTrue, List, [], ◌∷◌, ◌++◌, length, map, Option, Some, None, unwrap_or, All}
use Rattle.std.specs.List.{position_or_len}
use Rattle.std.specs.Option.{option_or}
use Rattle.std.specs.Str.{bytes_eq}
use Rattle.geo_core.specs.FiniteSets.Lists.{In, Distinct}
use Rattle.ext_model.specs.TextScan.PlainNames.{is_plain_name}
use Rattle.geo_core.specs.Images.{identity}
use Rattle.cell_bodies.specs.CellPaint.Paints.{layout_of}
use Rattle.cell_tree.specs.declared.limits.TheConstants.{MOST_USES}
use Rattle.cell_tree.specs.declared.sizes.Dimension.TheVariants.{Depth as DepthOf, Elements as ElementsOf, Hull}
use Rattle.cell_tree.specs.declared.use_tables.UseBody.{UseBody}
use Rattle.cell_tree.specs.Additions.{IsBelowItself as StandsBelowItself, IsFirstBelowItself as StandsFirstBelowItself}
use Rattle.cell_bodies.specs.declared.bodies.CellBody.{CellBody}
use Rattle.cell_bodies.specs.declared.bodies.CellUse.{CellUse}
use Rattle.cell_bodies.specs.Bodies.{IsBody}
use Rattle.cell_library.specs.declared.faults.LibFault.{LibFault}
use Rattle.cell_library.specs.declared.faults.LibFault.TheVariants.{OutOfRange, Cycle, TooMany}
use Rattle.cell_library.specs.declared.limits.LibraryLimit.TheVariants.{Depth, Elements}
use Rattle.cell_library.specs.declared.limits.TheConstants.{MOST_CELLS}
use Rattle.cell_library.specs.Views.{CellView, LibraryView, names_of, view_at}
use Rattle.cell_library.specs.Edits.{transform_of}
use Rattle.cell_library.specs.Libraries.{LibraryParts, edits_of}
use Rattle.cell_library.specs.Limits.{GoesPast}
use Rattle.cell_library.specs.Refusals.{FirstOf, NothingElse, uses_of}

-- the names of the cells of the library and of those that are added
abbrev pub names_with : LibraryView → List (List ℕ × CellBody) → List (List ℕ)
names_with view cells = names_of view.cells ++ map (λ cell. cell.0) cells

-- a use as a library has it: its child by position, and its six numbers as a transform
abbrev pub kept_use : List (List ℕ) → CellUse → List ℕ × UseBody
kept_use names used = (
  used.id,
  record {
    child = record { 0 = position_or_len (bytes_eq used.cell) names };
    placed = unwrap_or (transform_of used.six) identity;
    grid = used.grid;
  },
)

-- a cell as a library has it
abbrev pub kept_cell : List (List ℕ) → List ℕ × CellBody → CellView
kept_cell names cell =
    record { name = cell.0; own = layout_of cell.1.paint; labels = cell.1.labels; uses = map (kept_use names) cell.1.uses }

-- the scale of the first cell
abbrev pub first_scale : List (List ℕ × CellBody) → Option (ℕ × ℕ)
first_scale [] = None
first_scale (cell ∷ cells) = Some cell.1.scale

-- The cells come last, in their order. The library's scale is that of its first cell.
abbrev pub with_all : LibraryView → List (List ℕ × CellBody) → LibraryView
with_all view cells =
    record {
      tech = view.tech;
      scale = option_or view.scale (first_scale cells);
      cells = view.cells ++ map (kept_cell (names_with view cells)) cells;
    }

-- The cells may be added: there are some, their names are new and differ, there are no more cells than there may be, each use names one
-- of them or a cell of the library, each body is of its form and has no more uses than it may have, and there is one scale.
pub record CanBeAdded (view : LibraryView) (cells : List (List ℕ × CellBody)) : Type 0 where
  pub some : 0 < length cells
  pub names : All (λ cell. IsTrue (is_plain_name cell.0)) cells
  pub names_differ : Distinct (names_with view cells)
  pub few : length (names_with view cells) ≤ MOST_CELLS
  pub children : All (λ cell. All (λ used. In used.cell (names_with view cells)) cell.1.uses) cells
  pub bodies : All (λ cell. IsBody view.tech cell.1) cells
  pub few_uses : All (λ cell. length cell.1.uses ≤ MOST_USES) cells
  pub one_scale : All (λ cell. Some cell.1.scale ≡ option_or view.scale (first_scale cells)) cells

-- Cells came: they are the next edit, whose number is the stamp of each, and no other stamp changed.
pub record AreNextCells (old new : LibraryParts) (cells : List (List ℕ × CellBody)) : Type 0 where
  pub edits : edits_of new ≡ suc (edits_of old)
  pub stamps : new.tree.stamps ≡ old.tree.stamps ++ map (λ _. edits_of new) cells

-- the children of each cell, in the order of its uses
abbrev pub children_in : LibraryView → List (List ℕ)
children_in view = map (λ cell. map (λ entry. entry.1.child.0) cell.uses) view.cells

-- A cell stands below itself: it uses itself, or a cell that stands above it.
abbrev pub IsBelowItself : LibraryView → ℕ → Type 0
IsBelowItself view cell = StandsBelowItself (map uses_of view.cells) cell

-- It is the first such cell.
abbrev pub IsFirstBelowItself : LibraryView → ℕ → Type 0
IsFirstBelowItself view cell = StandsFirstBelowItself (map uses_of view.cells) cell

-- The end of `load`: some cell would stand below itself, and the first is told; some cell would stand too deep, have too many elements,
-- or have too far a hull.
abbrev pub AddAllIsRefused : LibraryView → List (List ℕ × CellBody) → LibFault → Type 0
AddAllIsRefused view cells told =
    let after = with_all view cells in
    ((cell : ℕ) × IsFirstBelowItself after cell × (told ≡ Cycle (view_at after cell).name))
    ⊎ (((cell : ℕ) → IsBelowItself after cell → ⊥)
    × FirstOf (GoesPast DepthOf after) (TooMany Depth)
    (FirstOf (GoesPast ElementsOf after) (TooMany Elements)
    (FirstOf (GoesPast Hull after) OutOfRange
    NothingElse)) told)
