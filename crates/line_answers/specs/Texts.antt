-- Texts that several commands write.
use Rattle.std.specs.Prelude.{ℕ, List, ◌++◌, codes}
use Rattle.text_scan.specs.Decimal.{decimal}
use Rattle.geo_core.specs.declared.squares.Rect.{Rect}

-- the four numbers of a rectangle, a blank before each
abbrev pub bounds_text : Rect → List ℕ
bounds_text area =
    codes " " ++ decimal area.xlo ++ codes " " ++ decimal area.ylo ++ codes " " ++ decimal area.xhi ++ codes " " ++ decimal area.yhi
