-- The bodies that cells may have.
use Rattle.std.specs.Prelude.{◌≡◌, ◌<◌, ℕ, IsTrue, List, length, map, All, IfSome}
use Rattle.geo_core.specs.FiniteSets.Lists.{Distinct}
use Rattle.ext_model.specs.TextScan.PlainNames.{is_plain_name}
use Rattle.tech_model.specs.declared.raw.Label.{Label}
use Rattle.tech_model.specs.declared.raw.RawTech.{RawTech}
use Rattle.cell_bodies.specs.declared.bodies.CellBody.{CellBody}
use Rattle.cell_bodies.specs.declared.bodies.CellUse.{CellUse}
use Rattle.cell_bodies.specs.Words.{is_use_id, is_label_text}
use Rattle.cell_bodies.specs.Numbers.{is_grid, is_placing, is_position, is_label_area, is_scale_number}

-- a use whose words and numbers are of their forms
pub record IsUse (placed : CellUse) : Type 0 where
  pub cell : IsTrue (is_plain_name placed.cell)
  pub id : IsTrue (is_use_id placed.id)
  pub six : IsTrue (is_placing placed.six)
  pub grid : IfSome placed.grid (λ grid. IsTrue (is_grid grid))

-- a label whose layer, if it has one, is the technology's, and whose words and numbers are of their forms
pub record IsLabel (raw : RawTech) (label : Label) : Type 0 where
  pub layer : IfSome label.layer (λ layer. layer.0 < length raw.layers)
  pub area : IsTrue (is_label_area label.area)
  pub position : IsTrue (is_position label.position)
  pub text : IsTrue (is_label_text label.text)

-- the ids of uses
abbrev pub ids_of : List CellUse → List (List ℕ)
ids_of uses = map (λ placed. placed.id) uses

-- A body that a cell may have: paint of the technology, uses with ids of their own, labels and a scale. It may have more uses than a
-- library takes.
pub record IsBody (raw : RawTech) (body : CellBody) : Type 0 where
  pub kinds : body.paint.kinds ≡ raw.types
  pub planes : length body.paint.planes ≡ length raw.planes
  pub uses : All IsUse body.uses
  pub ids_differ : Distinct (ids_of body.uses)
  pub labels : All (IsLabel raw) body.labels
  pub numerator : IsTrue (is_scale_number body.scale.0)
  pub denominator : IsTrue (is_scale_number body.scale.1)
