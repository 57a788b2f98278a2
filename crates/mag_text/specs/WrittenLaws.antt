-- What written lines say.
use Rattle.std.specs.Prelude.{◌≡◌, ℕ, ℤ, true, List, Some, Ok}
use Rattle.geo_core.specs.declared.grids.Grid.{Grid}
use Rattle.geo_core.specs.declared.squares.Rect.{Rect}
use Rattle.geo_core.specs.Areas.{has_square}
use Rattle.text_scan.specs.PlainNames.{is_plain_name}
use Rattle.tech_model.specs.declared.raw.Label.{Label as OneLabel}
use Rattle.tech_model.specs.declared.raw.RawTech.{RawTech}
use Rattle.tech_model.specs.WellFormed.{IsWellFormed}
use Rattle.cell_library.specs.CellPaint.Painting.{is_in_range}
use Rattle.cell_library.specs.CellBodies.Bodies.{IsLabel}
use Rattle.cell_library.specs.CellBodies.Words.{is_use_id}
use Rattle.cell_library.specs.CellBodies.Numbers.{is_grid, is_placing}
use Rattle.mag_text.specs.declared.files.MagLine.TheVariants.{Area, Label, Use, Array, Transform, Box}
use Rattle.mag_text.specs.LineForms.{says}
use Rattle.mag_text.specs.WrittenTexts.{area_line, grid_line, transform_line, box_line, use_line, label_line}

-- Written lines, each of a lawful thing, say by themselves what they were written from.
pub record SayWhatTheyWereWrittenFrom (raw : RawTech) : Type 0 where
  pub area : (area : Rect) → is_in_range area ≡ true → has_square area ≡ true → says raw (area_line area) ≡ Ok (Area (Ok area))
  pub box : (hull : Rect) → is_in_range hull ≡ true → says raw (box_line (Some hull)) ≡ Ok Box
  pub grid : (grid : Grid) → is_grid grid ≡ true → says raw (grid_line grid) ≡ Ok (Array (Ok grid))
  pub transform : (six : List ℤ) → is_placing six ≡ true → says raw (transform_line six) ≡ Ok (Transform (Ok six))
  pub name : (cell id : List ℕ) → is_plain_name cell ≡ true → is_use_id id ≡ true → says raw (use_line cell id) ≡ Ok (Use cell id)
  pub label : IsWellFormed raw → (label : OneLabel) → IsLabel raw label → says raw (label_line raw label) ≡ Ok (Label (Ok label))
