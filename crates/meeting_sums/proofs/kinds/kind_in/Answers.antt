use Rattle.meeting_sums.proofs.Common.{sym, ap, ◌∙◌, arith, get_or_default, PartKind}
use Rattle.meeting_sums.proofs.KindLaws.{kind_at_cut, none_at_cut}
use Rattle.meeting_sums.proofs.kinds.kind_in.Goals as goal
use Rattle.meeting_sums.proofs.kinds.kind_in.Goals.{else-place-kinds-via-then-place-kinds+else-kinds-place, else-place-kinds-via-else-place-kinds}

pub returns-then-kinds-place : goal.returns-then-kinds-place
returns-then-kinds-place c =
    let kinds = c.args.kinds.now in
    let place = c.parts_before-place.result in
    let cut = c.parts_before-place.ensures in
    kind_at_cut kinds c.args.part place cut.within cut.before cut.after c.requires _ c.if-place-kinds.true c.if-kinds-place.true

pub returns-else-place-kinds : goal.returns-else-place-kinds
returns-else-place-kinds c =
    let kinds = c.args.kinds.now in
    let place = c.parts_before-place.result in
    let cut = c.parts_before-place.ensures in
    elim c.else-place-kinds.branch [
      | else-place-kinds-via-then-place-kinds+else-kinds-place w ↦ sym (none_at_cut kinds c.args.part place cut.within cut.before cut.after c.requires
          (λ d below same. w.if-kinds-place.false (sym (ap (λ (e : PartKind). e.part) (get_or_default kinds place d _ below)) ∙ same)))
      | else-place-kinds-via-else-place-kinds w ↦ sym (none_at_cut kinds c.args.part place cut.within cut.before cut.after c.requires
          (λ d below. absurd (let past = w.if-place-kinds.false in omega (arith, below, past))))
    ]
