use Rattle.layout_gen.proofs.Common.{ℕ, sym, subst, unwrap_or, RawTech, AreLayers, AreMade}
use Rattle.std.specs.Prelude.{IfOk}
use Rattle.layout_gen.proofs.bodies.cells_for.Goals as goal

pub made_cells-requires-clause-layers : goal.made_cells-requires-clause-layers
made_cells-requires-clause-layers c = subst (λ (raw : RawTech). AreLayers raw c.args.layers.now) (sym c.tech.ensures) c.requires.layers

pub returns : goal.returns
returns c =
    let wanted = unwrap_or c.args.library.now.scale (1, 1) in
    subst (λ (raw : RawTech). IfOk c.made_cells.result (λ cells. AreMade raw c.args.layers.now wanted c.args.n cells.items)) c.tech.ensures
    (subst (λ (scale : ℕ × ℕ). IfOk c.made_cells.result (λ cells. AreMade c.tech.result.now c.args.layers.now scale c.args.n cells.items))
    c.next_scale-scale.ensures c.made_cells.ensures)
