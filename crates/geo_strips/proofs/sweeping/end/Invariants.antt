use Rattle.geo_strips.proofs.Common.{◌≡◌, take, row_of}
use Rattle.geo_strips.proofs.SweepLaws.{IsEnding}
use Rattle.geo_strips.proofs.sweeping.end.Given as goal

abbrev pub invariant-loop-gap : goal.invariant-loop-gap
invariant-loop-gap l = record {
  ending : IsEnding l.event.row (take l.gap-index l.gap-items) (row_of l.initial.sweep) (row_of l.sweep) l.initial.sweep.found.items l.sweep.found.items;
  same : l.sweep.coverage ≡ l.initial.sweep.coverage;
}
