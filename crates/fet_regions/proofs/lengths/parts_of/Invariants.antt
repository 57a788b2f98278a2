use Rattle.fet_regions.proofs.Common.{◌≡◌, take, parts_of, terminal_in}
use Rattle.fet_regions.proofs.lengths.parts_of.Given as goal

abbrev pub invariant-loop-contact : goal.invariant-loop-contact
invariant-loop-contact l = l.parts.items ≡ parts_of (terminal_in l.roles) l.tiles l.labels (take l.contact-index l.contacts)
