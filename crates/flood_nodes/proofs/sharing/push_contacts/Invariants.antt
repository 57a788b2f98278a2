use Rattle.flood_nodes.proofs.Common.{◌≡◌, ◌++◌, map, take, shifted}
use Rattle.flood_nodes.proofs.sharing.push_contacts.Given as goal

abbrev pub invariant-loop-contact : goal.invariant-loop-contact
invariant-loop-contact l = l.contacts.items ≡ l.initial.contacts.items ++ map (shifted l.start) (take l.contact-index l.found)
