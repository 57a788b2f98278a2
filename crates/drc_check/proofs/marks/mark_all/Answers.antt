use Rattle.drc_check.proofs.Common.{◌≡◌, ◌<◌, inl, inr, true, length, get_or, take, ap, subst, ◌∙◌, rules, set, take_more, In, In-push_cases, TypeId}
use Rattle.drc_check.proofs.Common.{IsMarkedType}
use Rattle.drc_check.proofs.MarkLaws.{mark_kept, mark_set}
use Rattle.drc_check.proofs.marks.mark_all.Goals as goal

pub loop-kind-preserved : goal.loop-kind-preserved
loop-kind-preserved c =
    let kinds = c.args.kinds.now in
    let marks = c.loop-kind.marks.items in
    let at = c.loop-kind.kind-index in
    let none : TypeId = record { 0 = 0 } in
    let number = c.from.result in
    let so_far = c.loop-kind.invariant in
    let inside : number < length marks = search rules in
    record {
      long = so_far.long;
      marked = λ kind among.
          elim (In-push_cases kind (take at kinds) (get_or kinds at none) (subst (In kind) (take_more kinds at none c.loop-kind-test.true) among)) [
            | inl earlier ↦ mark_kept marks number kind.0 inside (so_far.marked kind earlier)
            | inr same ↦
                let is : number ≡ kind.0 = c.from.ensures ∙ ap (λ (t : TypeId). t.0) same in
                subst (IsMarkedType (set marks number true)) is (mark_set marks number inside)
          ];
      kept = λ other was. mark_kept marks number other inside (so_far.kept other was);
    }
