-- One thing is told of a cell of a lawful library.
use Rattle.library_commands.proofs.Common.{◌≡◌, ◌<◌, inl, inr, ℕ, List, [], ◌∷◌, length, ap, sym, ◌∙◌, arith, Store, ReportLine, IsLawfulLibrary}
use Rattle.library_commands.proofs.Common.{LibraryParts, seen, LibraryView, view_at, count_seen, UncleanCellsBelowAreUnique, Look, Tells}
use Rattle.std.proofs.Common.{map}
use Rattle.geo_core.specs.declared.squares.Rect.{Rect}
use Rattle.uniqueness.proofs.CleanBelow.{none_unclean}
use Rattle.uniqueness.proofs.LawfulUses.{uses_lead_to_cells}
use Rattle.uniqueness.proofs.OneText.{one_text}
use Rattle.workspace.specs.Offending.{offending_line}
use Rattle.uniqueness.proofs.SameNodes.{node_records_are_one}
use Rattle.look_commands.specs.declared.looks.Look.TheVariants.{Nodes, Save, Squares}
use Rattle.look_commands.specs.CommandNodes.{TellsNodes, node_lines}
use Rattle.look_commands.specs.CommandSave.{SavesCell, cell_store}
use Rattle.look_commands.specs.CommandSquares.{TellsSquares}

-- the nodes
same_nodes : (library : LibraryView) (cell : ℕ) (lines more : List ReportLine) → TellsNodes library cell lines → TellsNodes library cell more → lines ≡ more
same_nodes library cell lines more p q =
    let at = view_at library cell in
    p.2 ∙ ap node_lines (node_records_are_one library.tech at.own at.labels p.0 q.0 p.1 q.1) ∙ sym q.2

module _ (library : LibraryParts) (lawful : IsLawfulLibrary library) (cell : ℕ) (within : cell < length (seen library).cells) (name : List ℕ) where
  there : cell < length library.contents
  there = omega (arith, within, count_seen library)

  -- the text
  same_save : (lines more : List ReportLine) (stores others : List Store) → SavesCell (seen library) cell name lines stores
      → SavesCell (seen library) cell name more others → (lines ≡ more) × (stores ≡ others)
  same_save lines more stores others p q =
      let text = one_text (seen library) cell p.0 q.0 (uses_lead_to_cells library lawful) p.1 q.1 in
      (p.2 ∙ sym q.2, p.3 ∙ ap (λ (one : List ℕ). cell_store name one ∷ []) text ∙ sym q.3)

  -- that nothing offends below it, or which squares do
  same_squares : UncleanCellsBelowAreUnique → (lines more : List ReportLine) → TellsSquares (seen library) cell name lines
      → TellsSquares (seen library) cell name more → lines ≡ more
  same_squares one lines more (inl p) (inl q) = p.1 ∙ sym q.1
  same_squares one lines more (inl p) (inr q) = absurd (none_unclean library lawful cell q.cell q.squares there p.0 q.unclean)
  same_squares one lines more (inr p) (inl q) = absurd (none_unclean library lawful cell p.cell p.squares there q.0 p.unclean)
  same_squares one lines more (inr p) (inr q) =
      let view = seen library in
      let same = one view cell p.cell q.cell p.squares q.squares p.unclean q.unclean in
      p.are
      ∙ ap (λ (at : ℕ). map (offending_line view.tech (view_at view at).name) p.squares) same.0
      ∙ ap (λ (squares : List (ℕ × Rect)). map (offending_line view.tech (view_at view q.cell).name) squares) same.1
      ∙ sym q.are

  -- so each look tells one thing
  pub same_look : UncleanCellsBelowAreUnique → (look : Look) (lines more : List ReportLine) (stores others : List Store)
      → Tells look (seen library) cell name lines stores → Tells look (seen library) cell name more others → (lines ≡ more) × (stores ≡ others)
  same_look one Nodes lines more stores others p q = (same_nodes (seen library) cell lines more p.0 q.0, p.1 ∙ sym q.1)
  same_look one Save lines more stores others p q = same_save lines more stores others p q
  same_look one Squares lines more stores others p q = (same_squares one lines more p.0 q.0, p.1 ∙ sym q.1)
