-- The cells of a stack use none from before, so a log keeps its versions while they come.
use Rattle.extract_commands.proofs.Common.{◌≡◌, ◌<◌, ◌+◌, ◌∙◌, ℕ, List, [], ◌∷◌, length, refl, sym, arith, IsLawfulView, IsLawfulLibrary}
use Rattle.extract_commands.proofs.Common.{LibraryParts, seen, CellView, count_seen, array_cell, row_grid, row_name, stack_grid, stack_name}
use Rattle.extract_commands.proofs.Common.{tile_cell, Inverses, kept_versions}
use Rattle.std.proofs.Common.{◌≤◌}
use Rattle.std.specs.Prelude.{All, Option, None, Some, codes, unwrap_or}
use Rattle.std.proofs.lemmas.List.Elements.{All-cons, All-nil}
use Rattle.layout_gen.specs.CellLibrary.CellTree.declared.use_tables.UseBody.{UseBody}
use Rattle.layout_gen.specs.CellLibrary.Libraries.{IsLawfulScale}
use Rattle.layout_gen.specs.Generated.{IsGenerated}
use Rattle.workspace.specs.UndoLog.Inverses.{CellsCame}
use Rattle.workspace.proofs.UndoLog.CameLaws.{cells_come}
use Rattle.workspace.proofs.UndoLog.LeadLaws.{versions_unique}
use Rattle.workspace.proofs.VersionLaws.{KeepsSome}

-- a library that has cells has a scale
scale_stays : (scale : Option (ℕ × ℕ)) (count : ℕ) → IsLawfulScale scale count → 0 < count → Some (unwrap_or scale (1, 1)) ≡ scale
scale_stays None count none some = absurd (omega (arith, none, some))
scale_stays (Some numbers) count lawful some = refl

-- the uses of a cell are of cells from this one on
abbrev UsesFrom : ℕ → CellView → Type 0
UsesFrom first cell = All (λ (entry : List ℕ × UseBody). first ≤ entry.1.child.0) cell.uses

module _ (old new : LibraryParts) (n : ℕ) (lawful : IsLawfulLibrary old) (generated : IsGenerated (seen old) n (seen new)) where
  cells_came : CellsCame (seen old) (seen new)
  cells_came =
      let view = seen old in
      let first = length view.cells in
      let tile = tile_cell view.tech generated.poly generated.diff in
      let row = array_cell row_name (codes "t") first (row_grid n) in
      let stack = array_cell stack_name (codes "r") (first + 1) (stack_grid n) in
      let of_use : List ℕ × UseBody → Type 0 = λ entry. first ≤ entry.1.child.0 in
      record {
        more = tile ∷ row ∷ stack ∷ [];
        cells = λ i. (generated.is i).cells;
        tech = λ i. (generated.is i).tech;
        scale = λ some. (λ i. (generated.is i).scale)
            ∙ scale_stays old.scale (length old.contents) lawful.scale (omega (arith, some, count_seen old));
        apart = All-cons (UsesFrom first) tile (row ∷ stack ∷ []) (All-nil of_use)
            (All-cons (UsesFrom first) row (stack ∷ []) (All-cons of_use _ [] (omega arith) (All-nil of_use))
            (All-cons (UsesFrom first) stack [] (All-cons of_use _ [] (omega arith) (All-nil of_use)) (All-nil (UsesFrom first))));
      }

  -- the log keeps its versions
  pub keeps_still : (log : Inverses) → IsLawfulView (seen new) → KeepsSome (seen old) log → KeepsSome (seen new) log
  keeps_still log after (versions, keeps) = (versions, cells_come (seen old) (seen new) log versions cells_came after keeps)

  -- which are the same
  pub same_versions : (log : Inverses) → IsLawfulView (seen new) → KeepsSome (seen old) log → kept_versions (seen new) log ≡ kept_versions (seen old) log
  same_versions log after (versions, keeps) =
      sym (versions_unique (seen new) log versions (cells_come (seen old) (seen new) log versions cells_came after keeps))
      ∙ versions_unique (seen old) log versions keeps
