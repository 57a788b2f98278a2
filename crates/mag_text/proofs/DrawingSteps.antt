-- How far the rectangles of a list are painted, where those of one layer that follow each other are painted together.
use Rattle.mag_text.proofs.Common.{◌≡◌, ℕ, List, take, Rect, RawTech, Place, Layout, Drawn, painted_all}
use Rattle.cell_library.specs.CellPaint.Painting.{with_all_painted}
use Rattle.mag_text.specs.Drawings.{drawn_at}

-- the rectangles before an index are painted once those that are gathered are
abbrev pub AreGathered : RawTech → List Drawn → ℕ → List Rect → Layout → Type 0
AreGathered raw drawn index areas layout =
    (place : Place) → with_all_painted raw (drawn_at drawn index).layer.0 areas layout place ≡ painted_all raw (take index drawn) place
