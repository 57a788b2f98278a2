use Rattle.meeting_laws.proofs.Common.{Passes}
use Rattle.meeting_laws.proofs.QuantityLaws.{area_counted, perimeter_counted, capacitance_counted}
use Rattle.meeting_laws.proofs.meetings_are_counted.Goals as goal

pub returns : goal.returns
returns c =
    let raw = c.args.tech.now in
    λ within parts others holds restricted. (
      (λ class out. (
        area_counted (Passes within) parts others restricted raw holds class out,
        perimeter_counted (Passes within) parts others restricted raw holds class out,
      )),
      (λ classes out. capacitance_counted (Passes within) parts others restricted raw holds classes out),
    )
