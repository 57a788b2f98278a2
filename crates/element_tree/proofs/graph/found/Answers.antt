use Rattle.element_tree.proofs.Common.{◌∷◌, ◌++◌, [], List, ℕ, Some, None, sym, ap, ◌∙◌, append-nil}
use Rattle.std.specs.declared.alloc.Global.{Global}
use Rattle.std.specs.Prelude.{Vec}
use Rattle.element_tree.proofs.Cells.{found_more}
use Rattle.element_tree.proofs.graph.found.Goals as goal
use Rattle.element_tree.proofs.graph.found.Goals.{in-Some+in_ok-push, in_default}

pub loop-goal-preserved : goal.loop-goal-preserved
loop-goal-preserved c =
    elim c.match-goal.branch [
      | in-Some+in_ok-push w ↦
          ap (λ (v : Vec ℕ Global). v.items) w.children-is ∙ w.in_ok-push.ensures.items
          ∙ ap (λ (children : List ℕ). children ++ w.in-Some.child ∷ []) c.loop-goal.invariant
          ∙ sym (found_more c.args.goals.now c.loop-goal.goal-index (Some w.in-Some.child) None c.loop-goal-test.true w.in-Some.is)
      | in_default w ↦
          ap (λ (v : Vec ℕ Global). v.items) w.children-is ∙ c.loop-goal.invariant
          ∙ sym (append-nil _)
          ∙ sym (found_more c.args.goals.now c.loop-goal.goal-index None None c.loop-goal-test.true w.in_default.is)
    ]
