use Rattle.use_orders.proofs.Common.{◌≡◌, true, false, refl, arith}
use Rattle.use_orders.proofs.Closed.{uses_within, use_outside}
use Rattle.use_orders.proofs.graph.uses_cells.Goals as goal

pub returns-then-child-count : goal.returns-then-child-count
returns-then-child-count g c = (
  (λ no. absurd (let f : false ≡ true = no in cc)),
  (λ within. absurd (use_outside (g.G.UseGraph.children c.args.graph.now) c.args.parent c.uses.place c.child.result _ (omega arith) c.child.ensures
      (omega arith) within)),
)

pub returns : goal.returns
returns g c = (
  (λ _. uses_within (g.G.UseGraph.children c.args.graph.now) c.args.parent c.uses.place _ (omega arith) c.uses.invariant),
  (λ _. refl),
)
