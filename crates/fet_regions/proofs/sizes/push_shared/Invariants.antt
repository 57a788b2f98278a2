use Rattle.fet_regions.proofs.Common.{◌≡◌, ◌++◌, take, shared_amounts}
use Rattle.fet_regions.proofs.sizes.push_shared.Given as goal

abbrev pub invariant-loop-contact : goal.invariant-loop-contact
invariant-loop-contact l = l.amounts.items ≡ l.initial.amounts.items ++ shared_amounts l.tiles l.labels (take l.contact-index l.contacts)
