use Rattle.cell_tree.proofs.Common.{◌≡◌, suc, List, ◌∷◌, ◌++◌, All, sym, ap, subst, ◌∙◌, arith, TreeCell, states, IsLawfulCell, new_states}
use Rattle.cell_tree.proofs.Common.{AreBehind}
use Rattle.cell_tree.specs.declared.new_cells.NewCell.{NewCell}
use Rattle.cell_tree.specs.Additions.{new_state}
use Rattle.cell_tree.proofs.PushLaws.{behind_none, behind_next, come_next}
use Rattle.cell_tree.proofs.additions.push_all.Goals as goal

pub loop-cell-init : goal.loop-cell-init
loop-cell-init c =
    let gives = c.into_iter-cell-iterator.ensures.into_iter_gives in
    record {
      behind = behind_none c.args.cells.now.items c.requires.users;
      come = ap (λ (rest : List NewCell). states c.args.cells.now.items ++ new_states rest) gives.0;
      ids = subst (λ (rest : List NewCell). All IsLawfulCell (new_states rest)) (sym gives.0) c.requires.ids;
    }

pub keep-requires : goal.keep-requires
keep-requires c =
    let ids : All IsLawfulCell (new_states (c.in-Some.cell ∷ c.next.new.self.rest.items)) =
    subst (λ (rest : List NewCell). All IsLawfulCell (new_states rest)) c.in-Some.ensures.steps.0 c.loop-cell.invariant.ids in
    (ids 0 (new_state c.in-Some.cell) (omega arith)).ids

pub loop-cell-preserved : goal.loop-cell-preserved
loop-cell-preserved c =
    let ids : All IsLawfulCell (new_states (c.in-Some.cell ∷ c.next.new.self.rest.items)) =
    subst (λ (rest : List NewCell). All IsLawfulCell (new_states rest)) c.in-Some.ensures.steps.0 c.loop-cell.invariant.ids in
    let come : states c.loop-cell.cells.items ++ new_state c.in-Some.cell ∷ new_states c.next.new.self.rest.items ≡ states c.args.cells.now.items
    ++ new_states c.args.new.items =
    ap (λ (rest : List NewCell). states c.loop-cell.cells.items ++ new_states rest) (sym c.in-Some.ensures.steps.0) ∙ c.loop-cell.invariant.come in
    record {
      behind = subst (AreBehind c.args.cells.now.items) (sym c.in_ok-push.ensures.pushed)
          (behind_next c.args.cells.now.items c.loop-cell.cells.items c.in_ok-kept.kept (new_state c.in-Some.cell) c.loop-cell.invariant.behind
          c.in_ok-kept.ensures);
      come = ap (λ (cells : List TreeCell). states cells ++ new_states c.next.new.self.rest.items) c.in_ok-push.ensures.pushed
          ∙ come_next c.args.cells.now.items c.loop-cell.cells.items c.in_ok-kept.kept (new_state c.in-Some.cell) c.loop-cell.invariant.behind
          c.in_ok-kept.ensures
          (new_states c.next.new.self.rest.items) _ come;
      ids = λ k d low. ids (suc k) d (omega (arith, low));
    }
