use Rattle.rect_contacts.proofs.Common.{int_cmp, get, extent, IsSmall}
use Rattle.geo_core.specs.declared.limits.TheConstants.{PLANE_EDGE}
use Rattle.rect_contacts.proofs.RowLaws.{FindsMet}
use Rattle.rect_contacts.proofs.actives.add_met.Given as goal

abbrev pub invariant-loop-to : goal.invariant-loop-to
invariant-loop-to l = record {
  small : IsSmall l.x;
  found : FindsMet l.event (get int_cmp l.others) l.x l.initial.pairs.items l.pairs.items;
}

abbrev pub decreases-loop-to : goal.decreases-loop-to
decreases-loop-to l = extent l.x PLANE_EDGE
