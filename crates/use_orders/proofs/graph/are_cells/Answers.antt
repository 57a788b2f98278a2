use Rattle.use_orders.proofs.Common.{◌≡◌, true, false, refl, arith}
use Rattle.use_orders.proofs.Closed.{cells_more, cells_not, cells_all}
use Rattle.use_orders.proofs.graph.are_cells.Goals as goal

pub returns-then-not-uses_cells : goal.returns-then-not-uses_cells
returns-then-not-uses_cells g c = (
  (λ no. absurd (let f : false ≡ true = no in cc)),
  (λ are. absurd (cells_not (g.G.UseGraph.children c.args.graph.now) c.parents.parent c.uses_cells.result c.uses_cells.ensures.1 c.if-not-uses_cells.true are)),
)

pub parents-preserved : goal.parents-preserved
parents-preserved g c =
    cells_more (g.G.UseGraph.children c.args.graph.now) c.parents.parent c.uses_cells.result c.uses_cells.ensures.0 c.if-not-uses_cells.false
    c.parents.invariant

pub returns : goal.returns
returns g c = (
  (λ _. cells_all (g.G.UseGraph.children c.args.graph.now) c.parents.parent (omega arith) c.parents.invariant),
  (λ _. refl),
)
