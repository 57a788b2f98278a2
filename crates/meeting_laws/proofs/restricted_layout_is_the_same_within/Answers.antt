use Rattle.meeting_laws.proofs.Common.{Passes}
use Rattle.meeting_laws.proofs.RestrictionLaws.{layout_inside, layout_elsewhere}
use Rattle.meeting_laws.proofs.restricted_layout_is_the_same_within.Goals as goal

pub returns : goal.returns
returns c =
    let raw = c.args.tech.now in
    λ within parts others restricted place. (
      (λ inside. layout_inside (Passes within) parts others restricted raw place inside),
      (λ outside. layout_elsewhere (Passes within) parts others restricted raw place outside),
    )
