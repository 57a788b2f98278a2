-- The order of cells that come, and the first cell that stands below itself.
use Rattle.cell_tree.proofs.Common.{inl, inr, ℕ, ◌<◌, ◌≤◌, List, take, sym, ◌∙◌, arith, cases_lt, In, CellState, Uses, IsAbove, at, StandsBefore}
use Rattle.cell_tree.proofs.Common.{children_of, IsNewOrder}
use Rattle.std.proofs.lemmas.List.{length-take, get_or-take}
use Rattle.geo_core.specs.FiniteSets.Chain.{Chain}
use Rattle.geo_core.specs.FiniteSets.Chain.Chain.{stay, go}
use Rattle.geo_core.specs.FiniteSets.Least.{IsLeast}
use Rattle.geo_core.proofs.FiniteSets.Chains.{Chain-push}
use Rattle.geo_core.proofs.FiniteSets.Distincts.{Distinct-places}
use Rattle.geo_core.proofs.FiniteSets.Members.{In-get_or, In-index}
use Rattle.use_orders.specs.NewCells.{IsOwnDescendant, IsChildrenFirst}
use Rattle.use_orders.specs.Uses.{UsesCell, UsesNewCell}
use Rattle.use_orders.proofs.Acyclic.{own_by_new}
use Rattle.cell_tree.specs.Additions.{IsBelowItself, IsFirstBelowItself}
use Rattle.cell_tree.proofs.GraphLaws.{graph_uses, uses_graph, length-children_of}

-- what stands in the front of an order stands before a place of it
stands_front : (order : List ℕ) (place key : ℕ) → In key (take place order) → StandsBefore order place key
stands_front order place key stands =
    let j = In-index key (take place order) stands in
    let early : j.0 < place = omega (arith, j.1.0, length-take place order) in
    record { place = j.0; before = early; is = sym (get_or-take place order j.0 0 early) ∙ j.1.1 0 }

module _ (cells : List CellState) (first : ℕ) (old : (key child : ℕ) → key < first → Uses cells key child → child < first) where
  -- The new cells in an order in which children stand first.
  pub new_order_of : (order : List ℕ) → IsChildrenFirst (children_of cells) first order → IsNewOrder cells first order
  new_order_of order o =
      record {
        within = λ place before. omega (arith, (o.each.2 (at order place) (In-get_or order place 0 before)).1, length-children_of cells);
        new = λ place before. (o.each.2 (at order place) (In-get_or order place 0 before)).0;
        once = λ p q early within. Distinct-places order p q 0 o.each.0 early within;
        all = λ key new within.
            let i = In-index key order (o.each.1 key (new, omega (arith, within, length-children_of cells))) in
            record { place = i.0; before = i.1.0; is = i.1.1 0 };
        behind = λ place child before uses. elim (cases_lt child first) [
          | inl was ↦ inl was
          | inr new ↦ inr (stands_front order place child (o.behind place child before
              ((o.each.2 (at order place) (In-get_or order place 0 before)).0, new, uses_graph cells (at order place) child uses)))
        ];
        old = old;
      }

  up : {a b : ℕ} → Chain (UsesNewCell (children_of cells) first) a b → IsAbove cells b a
  up stay = stay
  up (go {a = a} {b = b} step rest) = Chain-push (up rest) (graph_uses cells a b step.2)

  down : {a b : ℕ} → IsAbove cells a b → Chain (UsesCell (children_of cells)) b a
  down stay = stay
  down (go {a = a} {b = b} uses rest) = Chain-push (down rest) (uses_graph cells b a uses)

  -- The least new cell that is its own descendant is the first of all that stand below themselves.
  pub first_below : ((key : ℕ) → key < first → IsBelowItself cells key → ⊥) → (cell : ℕ) → IsLeast ◌≤◌ (IsOwnDescendant (children_of cells) first) cell
      → IsFirstBelowItself cells cell
  first_below acyclic cell least =
      record {
        below = record { child = least.0.0; used = graph_uses cells cell least.0.0 least.0.1.0.2; above = up least.0.1.1 };
        first = λ other lower below. elim (cases_lt other first) [
          | inl was ↦ acyclic other was below
          | inr new ↦
              let own = own_by_new (children_of cells) first (λ parent child early uses. old parent child early (graph_uses cells parent child uses)) other new
              (below.child, (uses_graph cells other below.child below.used, down below.above)) in
              omega (arith, lower, least.1 other own)
        ];
      }
