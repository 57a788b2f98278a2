use Rattle.cif_commands.proofs.Common.{◌≡◌, map, rules, subst, sym, All, stat_lines, layer_area}
use Rattle.cif_commands.specs.steps.Layers.{HasNearStrips}
use Rattle.cif_commands.proofs.CifstatLaws.{cif_told}
use Rattle.cif_commands.proofs.LayerLaws.{layers_inside, layers_told}
use Rattle.cif_commands.proofs.NearStrips.{near_layers}
use Rattle.cif_commands.proofs.command_cifstat.measure_cif.Goals as goal

pub stat_lines-requires : goal.stat_lines-requires
stat_lines-requires c =
    subst (All HasNearStrips) (sym c.as_slice.ensures.value) (near_layers c.args.cif.now c.in-Ok.layers.items c.in-Ok.ensures)

pub returns-in_ok-stat_lines-in-Ok-clause-effect : goal.returns-in_ok-stat_lines-in-Ok-clause-effect
returns-in_ok-stat_lines-in-Ok-clause-effect c file =
    let name = c.args.name.now in
    let layers = c.in-Ok.layers.items in
    let lines : c.told.result.lines.items ≡ stat_lines name (map layer_area layers) = search rules in
    cif_told c.args.number name file c.told.result c.args.cif.now c.in-Ok.ensures.within c.in-Ok.ensures.in_range
    (layers_told c.args.cif.now name layers c.told.result.lines.items c.in-Ok.ensures lines) c.told.ensures.stores

pub returns-in_ok-stat_lines-in-Ok-clause-inside : goal.returns-in_ok-stat_lines-in-Ok-clause-inside
returns-in_ok-stat_lines-in-Ok-clause-inside c =
    let name = c.args.name.now in
    let layers = c.in-Ok.layers.items in
    let lines : c.told.result.lines.items ≡ stat_lines name (map layer_area layers) = search rules in
    layers_inside name (map layer_area layers) c.told.result.lines.items lines
