use Rattle.fet_regions.proofs.Common.{◌≡◌, take, alike_pairs}
use Rattle.fet_regions.proofs.channels.alike_pairs.Given as goal

abbrev pub invariant-loop-contact : goal.invariant-loop-contact
invariant-loop-contact l = l.pairs.items ≡ alike_pairs l.tiles (take l.contact-index l.contacts)
