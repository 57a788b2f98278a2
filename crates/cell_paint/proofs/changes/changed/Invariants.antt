-- Of the pieces below the index those that change are found, and what is known of types is right.
use Rattle.cell_paint.proofs.Common.{◌≡◌, length, take, kind_after, AreKnown, changed_pieces, kinds_on, layout_on}
use Rattle.tech_model.specs.Columns.{brushed_column}
use Rattle.cell_paint.proofs.changes.changed.Given as goal

abbrev pub invariant-loop-piece : goal.invariant-loop-piece
invariant-loop-piece l = record {
  long : length l.known ≡ 256;
  known : AreKnown (kinds_on (layout_on l.planes) l.plane)
      (kind_after (brushed_column l.stroke.tech.now l.stroke.brush l.stroke.layer.0) (layout_on l.planes) l.plane) l.known;
  found : l.found.items
      ≡ changed_pieces (kind_after (brushed_column l.stroke.tech.now l.stroke.brush l.stroke.layer.0) (layout_on l.planes) l.plane)
      (take l.piece-index l.pieces);
}
