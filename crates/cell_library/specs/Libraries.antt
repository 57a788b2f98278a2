-- What a library keeps, what is seen of it, and which libraries are lawful.
use Rattle.std.specs.Prelude.{◌≡◌, ◌<◌, ◌≤◌, ℕ, suc, IsTrue, List, [], ◌∷◌, ◌++◌, length, map, Option, MatchOption, All, refl}
use Rattle.std.specs.Coded.{Coded, code_by, coded×, coded_list, coded_ℕ, coded_option}
use Rattle.geo_core.specs.FiniteSets.Lists.{Distinct}
use Rattle.ext_model.specs.TextScan.PlainNames.{is_plain_name}
use Rattle.tech_model.specs.declared.raw.RawTech.{RawTech}
use Rattle.tech_model.specs.contracts.raw.RawTech.{the_row as raw_row}
use Rattle.tech_model.specs.WellFormed.{IsWellFormed}
use Rattle.tech_model.specs.Rules.{KeepsRules}
use Rattle.cell_bodies.specs.Bodies.{IsLabel}
use Rattle.cell_bodies.specs.Numbers.{is_scale_number}
use Rattle.cell_bodies.specs.Words.{is_use_id}
use Rattle.cell_tree.specs.declared.use_tables.UseBody.{UseBody}
use Rattle.cell_tree.specs.contracts.trees.CellTree.{the_row as tree_row}
use Rattle.cell_tree.specs.Sizes.{CellState}
use Rattle.cell_tree.specs.Trees.{Tree, IsLawfulTree, RaisesStamps}
use Rattle.cell_library.specs.declared.limits.TheConstants.{MOST_CELLS}
use Rattle.cell_library.specs.Contents.{Held, held_code}
use Rattle.cell_library.specs.Limits.{AreStatesOf}
use Rattle.cell_library.specs.Seen.{cell_views}
use Rattle.cell_library.specs.Views.{CellView, LibraryView}

-- the technology, the scale, what each cell has of its own, and the tree of the cells
pub record LibraryParts : Type 0 where
  pub tech : RawTech
  pub scale : Option (ℕ × ℕ)
  pub contents : List Held
  pub tree : Tree

-- they are stored as the tuple of them
abbrev pub parts_code : Coded LibraryParts
parts_code =
    code_by (RawTech × (Option (ℕ × ℕ) × (List Held × Tree)))
    (coded× raw_row.coded (coded× (coded_option (coded× coded_ℕ coded_ℕ)) (coded× (coded_list held_code) tree_row.coded)))
    (λ l. (l.tech, (l.scale, (l.contents, l.tree)))) (λ p. record { tech = p.0; scale = p.1.0; contents = p.1.1.0; tree = p.1.1.1 }) (λ _. refl)

-- the uses of each cell
abbrev pub uses_in : List CellState → List (List (List ℕ × UseBody))
uses_in cells = map (λ cell. cell.uses) cells

-- the cells that are seen
abbrev pub cells_seen : List Held → Tree → List CellView
cells_seen contents tree = cell_views contents (uses_in tree.cells)

-- what is seen of a library
abbrev pub seen : LibraryParts → LibraryView
seen library = record { tech = library.tech; scale = library.scale; cells = cells_seen library.contents library.tree }

-- how many edits there were
abbrev pub edits_of : LibraryParts → ℕ
edits_of library = library.tree.edits

-- What a cell has of its own is lawful: its name is plain, its paint was made with the technology, and its labels are of their form.
pub record IsLawfulHeld (raw : RawTech) (held : Held) : Type 0 where
  pub name : IsTrue (is_plain_name held.name)
  pub kinds : held.paint.kinds ≡ raw.types
  pub planes : length held.paint.planes ≡ length raw.planes
  pub labels : All (IsLabel raw) held.labels

-- there is a scale exactly where there are cells, and its numbers are in range
abbrev pub IsLawfulScale : Option (ℕ × ℕ) → ℕ → Type 0
IsLawfulScale scale count =
    MatchOption scale (count ≡ 0) (λ numbers. (0 < count) × IsTrue (is_scale_number numbers.0) × IsTrue (is_scale_number numbers.1))

-- The ids of the uses of a cell are of their form.
abbrev pub HasUseIds : CellState → Type 0
HasUseIds cell = All (λ entry. IsTrue (is_use_id entry.0)) cell.uses

-- A lawful library. The tree says that uses are lawful and their children are cells, that no cell is its own descendant, and that the
-- limits on uses, chains, elements and hulls are kept.
pub record IsLawfulLibrary (library : LibraryParts) : Type 0 where
  pub well_formed : IsWellFormed library.tech
  pub rules : KeepsRules library.tech
  pub so_many : length library.tree.cells ≡ length library.contents
  pub few : length library.contents ≤ MOST_CELLS
  pub names_differ : Distinct (map (λ held. held.name) library.contents)
  pub each : All (IsLawfulHeld library.tech) library.contents
  pub boxes : AreStatesOf (cells_seen library.contents library.tree) library.tree.cells
  pub ids : All HasUseIds library.tree.cells
  pub scale : IsLawfulScale library.scale (length library.contents)
  pub tree : IsLawfulTree library.tree

-- ---- edits

-- An edit of a cell was made: it is the next edit, it raises the stamps of the cell and of all above it, and changes no other stamp.
pub record IsNextEdit (old new : LibraryParts) (cell : ℕ) : Type 0 where
  pub edits : edits_of new ≡ suc (edits_of old)
  pub stamps : RaisesStamps old.tree.cells cell old.tree.stamps new.tree.stamps (edits_of new)

-- A cell came: it is the next edit, whose number is the cell's stamp.
pub record IsNextCell (old new : LibraryParts) : Type 0 where
  pub edits : edits_of new ≡ suc (edits_of old)
  pub stamps : new.tree.stamps ≡ old.tree.stamps ++ edits_of new ∷ []

-- Nothing is seen to have changed, stamps, hulls and the number of edits among it.
pub record IsSame (old new : LibraryParts) : Type 0 where
  pub seen : seen new ≡ seen old
  pub tree : new.tree ≡ old.tree
