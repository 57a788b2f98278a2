-- The elements of a use of its form are lawful uses.
use Rattle.ext_model.proofs.Common.{inl, inr, subst, IsTrue, In, Grid}
use Rattle.std.specs.Prelude.{Option, Some, None}
use Rattle.geo_core.proofs.FiniteSets.Members.{In-map_source}
use Rattle.text_scan.specs.PlainNames.{is_plain_name}
use Rattle.geo_core.specs.Elements.{elements_of}
use Rattle.ext_model.specs.declared.records.UseRec.{UseRec}
use Rattle.ext_model.specs.declared.arrays.ArrayUse.{ArrayUse}
use Rattle.ext_model.specs.Lawful.{IsLawfulUse}
use Rattle.ext_model.specs.LawfulArrays.{HasIdForm, IsArrayUse}
use Rattle.ext_model.specs.Plain.{plain_uses, uses_of_grid, element_use}
use Rattle.ext_model.proofs.ElementForms.{indexed_form, whole_form}
use Rattle.ext_model.proofs.NearSteps.{element_placement, use_placement}

use_at : (used : ArrayUse) → IsTrue (is_plain_name used.cell) → IsArrayUse used → (grid : Option Grid) → HasIdForm grid used.id
    → (one : UseRec) → In one (uses_of_grid used grid) → IsLawfulUse one
use_at used cell is None form one (inl same) =
    subst IsLawfulUse same (record { cell = cell; id = whole_form used.id form; six = use_placement used.six is.six })
use_at used cell is None form one (inr none) = absurd none
use_at used cell is (Some grid) form one here =
    let made = In-map_source (element_use used) one (elements_of grid) here in
    subst IsLawfulUse made.1.1
    (record {
      cell = cell;
      id = indexed_form used.id made.0.0 made.0.1 form.0;
      six = element_placement used.six grid is.six form.1 made.0 made.1.0;
    })

-- each element of a use of its form, of a cell with a plain name, is a lawful use
pub elements_are_lawful : (used : ArrayUse) → IsTrue (is_plain_name used.cell) → IsArrayUse used → (one : UseRec) → In one (plain_uses used)
    → IsLawfulUse one
elements_are_lawful used cell is one here = use_at used cell is used.grid is.id one here
