use Rattle.cell_tree.proofs.Common.{◌++◌, ◌∷◌, [], refl, ap, sym, subst, ◌∙◌, arith, ℕ, List, None, UseBody, cond-true, TreeCell, IsReady, IsWhole}
use Rattle.cell_tree.proofs.StateLaws.{whole_same}
use Rattle.cell_tree.proofs.AddLaws.{added_whole}
use Rattle.cell_tree.proofs.trees.CellTree.add_cell.Goals as goal

pub invariant_of-self-2 : goal.invariant_of-self-2
invariant_of-self-2 c =
    let new : TreeCell = record { own = None; uses = c.new.result; users = c.new-2.result } in
    let ok = c.push.ensures.succeeds (omega (arith, c.in_ok-reserve-2.ensures.ok)) in
    let items = c.push.ensures.items ∙ cond-true _ _ _ ok ∙ ap (λ (cells : List TreeCell). cells ++ new ∷ []) c.reserve-2.ensures.items in
    subst (λ (cells : List TreeCell). IsWhole cells c.add.new.self) (sym items)
    (added_whole c.self.inside.cells.items c.reserve.new.self c.add.new.self
    (whole_same c.self.inside.cells.items c.self.invariant refl (λ key. refl)
    c.reserve.ensures.same
    (subst (IsReady c.reserve.new.self) c.self.invariant.ready.sizes c.reserve.ensures.ready))
    new (ap (λ (uses : List (List ℕ × UseBody)). record { own = None; uses = uses }) c.new.ensures) c.new-2.ensures.empty c.add.ensures.sizes
    c.add.ensures.stamps c.add.ensures.edits c.add.ensures.ready)
