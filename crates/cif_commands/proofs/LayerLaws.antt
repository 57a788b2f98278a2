-- The lines of an expanded text tell its layers, and no shelf has to answer for them.
use Rattle.cif_commands.proofs.Common.{◌≡◌, ◌∙◌, ℕ, ℤ, List, [], ◌∷◌, length, map, refl, sym, ap, subst, zip, sum_on, area_of, ReportLine, CifParts}
use Rattle.cif_commands.proofs.Common.{IsMeant, LayerStrips, IsExpanded, reply, HasSquares, TellsLayers, layer_line, stat_lines, layer_area}
use Rattle.std.proofs.lemmas.List.{length-map}
use Rattle.geo_core.proofs.FiniteSets.Places.{slice_get-map_source}
use Rattle.line_answers.proofs.InsideLaws.{both_inside, no_lines_inside, reply_inside}
use Rattle.line_answers.specs.LineEffects.{IsOfInside}
use Rattle.cif_commands.specs.CommandCifstat.{sum_text}
use Rattle.cif_commands.proofs.StripTotals.{strips_total}

-- the areas of the strips of layers
abbrev strips_area : LayerStrips → ℤ
strips_area layer = sum_on area_of layer.strips

-- names and areas side by side
zip_areas : (layers : List LayerStrips) → zip (map (λ (layer : LayerStrips). layer.name) layers) (map strips_area layers) ≡ map layer_area layers
zip_areas [] = refl
zip_areas (layer ∷ layers) = ap (λ (rest : List (List ℕ × ℤ)). layer_area layer ∷ rest) (zip_areas layers)

-- the lines of an expanded text
pub layers_told : (cif : CifParts) (name : List ℕ) (layers : List LayerStrips) (lines : List ReportLine) → IsExpanded cif layers
    → lines ≡ stat_lines name (map layer_area layers) → TellsLayers cif name lines
layers_told cif name layers lines is are = record {
  areas = map strips_area layers;
  one_each = length-map layers strips_area ∙ sym (length-map layers (λ (layer : LayerStrips). layer.name))
      ∙ ap (λ (names : List (List ℕ)). length names) is.names;
  each = λ place area there.
      let (layer, (at, same)) = slice_get-map_source strips_area layers place area there in
      subst (HasSquares (IsMeant cif place)) same (strips_total (IsMeant cif place) layer.strips (is.strips place layer at));
  are = are ∙ ap (stat_lines name) (sym (zip_areas layers) ∙ ap (λ (names : List (List ℕ)). zip names (map strips_area layers)) is.names);
}

-- ---- no shelf has to answer for what is told

each_inside : (layers : List (List ℕ × ℤ)) → IsOfInside (map layer_line layers)
each_inside [] = no_lines_inside
each_inside (layer ∷ layers) = let rest = each_inside layers in record { present = rest.present; fits = rest.fits }

pub layers_inside : (name : List ℕ) (layers : List (List ℕ × ℤ)) (lines : List ReportLine) → lines ≡ stat_lines name layers → IsOfInside lines
layers_inside name layers lines are =
    subst (λ (all : List ReportLine). IsOfInside all) (sym are)
    (both_inside (map layer_line layers) (reply (sum_text name (length layers)) ∷ []) (each_inside layers)
    (reply_inside (sum_text name (length layers)) [] no_lines_inside))
