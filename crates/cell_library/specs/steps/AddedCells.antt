-- What cells that come all at once do to the parts of a library.
use Rattle.std.specs.Prelude.{◌≡◌, ◌<◌, ◌≤◌, ℕ, IsTrue, List, ◌++◌, length, map, drop, Option, All}
use Rattle.std.specs.Option.{option_or}
use Rattle.geo_core.specs.FiniteSets.Lists.{In, Distinct}
use Rattle.cell_bodies.specs.declared.bodies.CellBody.{CellBody}
use Rattle.cell_bodies.specs.declared.bodies.CellUse.{CellUse}
use Rattle.cell_bodies.specs.Bodies.{IsUse, ids_of}
use Rattle.cell_bodies.specs.Numbers.{is_label_area}
use Rattle.cell_tree.specs.declared.faults.TreeFault.{TreeFault}
use Rattle.cell_tree.specs.declared.limits.TheConstants.{MOST_USES}
use Rattle.cell_tree.specs.declared.use_tables.UseBody.{UseBody}
use Rattle.cell_tree.specs.Additions.{AreAdded, MayAllCome, RefusesAll}
use Rattle.cell_tree.specs.Sizes.{CellState}
use Rattle.cell_tree.specs.Trees.{Tree}
use Rattle.cell_library.specs.declared.faults.LibFault.{LibFault}
use Rattle.cell_library.specs.declared.limits.TheConstants.{MOST_EDITS}
use Rattle.cell_library.specs.Additions.{first_scale, kept_cell, kept_use}
use Rattle.cell_library.specs.steps.CellEdits.{of_tree}
use Rattle.cell_library.specs.Contents.{Held}
use Rattle.cell_library.specs.Limits.{AreStatesOf}
use Rattle.cell_library.specs.Seen.{cell_views}
use Rattle.cell_library.specs.Views.{CellView}

-- what a cell that comes has of its own
abbrev pub held_from : List ℕ × CellBody → Held
held_from cell = record { name = cell.0; paint = cell.1.paint; labels = cell.1.labels }

-- the contents, and those of the cells that come
abbrev pub contents_with : List Held → List (List ℕ × CellBody) → List Held
contents_with contents cells = contents ++ map held_from cells

-- the names of the cells
abbrev pub names_in : List Held → List (List ℕ)
names_in contents = map (λ held. held.name) contents

-- uses as a library has them whose cells have these contents
abbrev pub kept_uses : List Held → List CellUse → List (List ℕ × UseBody)
kept_uses contents uses = map (kept_use (names_in contents)) uses

-- the cells that come to these contents, as the library has them
abbrev pub new_views : List Held → List (List ℕ × CellBody) → List CellView
new_views contents cells = map (kept_cell (names_in (contents_with contents cells))) cells

-- The cells with the contents from this position on and these uses, as the library has them.
abbrev pub views_from : List Held → ℕ → List (List CellUse) → List CellView
views_from contents first all_uses = cell_views (drop first contents) (map (kept_uses contents) all_uses)

-- The uses are of their form, no more than there may be, their ids differ, and each is of a cell of these names.
pub record AreUsesAmong (names : List (List ℕ)) (uses : List CellUse) : Type 0 where
  pub each : All IsUse uses
  pub ids_differ : Distinct (ids_of uses)
  pub few : length uses ≤ MOST_USES
  pub children : All (λ used. In used.cell names) uses

-- The labels of a cell lie within the range of paint, and none is turned inside out.
abbrev pub HasNearLabels : Held → Type 0
HasNearLabels held = All (λ label. IsTrue (is_label_area label.area)) held.labels

-- The cells may come to these contents: the names of all differ, labels lie within the range, and uses are of cells that are there then.
pub record AreFitFor (contents : List Held) (cells : List (List ℕ × CellBody)) : Type 0 where
  pub names_differ : Distinct (names_in (contents_with contents cells))
  pub labels : All HasNearLabels (contents_with contents cells)
  pub uses : All (λ cell. AreUsesAmong (names_in (contents_with contents cells)) cell.1.uses) cells

-- Cells with these boxes and uses came to the tree.
pub record AreInTree (views : List CellView) (before after : Tree) : Type 0 where
  pub states : List CellState
  pub are : AreStatesOf views states
  pub added : AreAdded before after states

-- The tree refuses these cells, where cells have these contents.
pub record TreeRefusesAll (contents : List Held) (views : List CellView) (tree : Tree) (told : LibFault) : Type 0 where
  pub states : List CellState
  pub are : AreStatesOf views states
  pub may : MayAllCome tree states
  pub fault : TreeFault
  pub refuses : RefusesAll tree states fault
  pub told_is : told ≡ of_tree contents fault

-- The cells came: their contents last, the tree has them, and the first of a library gave the scale.
pub record AreCellsAdded (cells : List (List ℕ × CellBody)) (scale wider : Option (ℕ × ℕ)) (old new : List Held) (before after : Tree) : Type 0 where
  pub edits : before.edits < MOST_EDITS
  pub scale_is : wider ≡ option_or scale (first_scale cells)
  pub contents : new ≡ contents_with old cells
  pub tree : AreInTree (new_views old cells) before after
