use Rattle.flood_nodes.proofs.RunLaws.{HasShared}
use Rattle.flood_nodes.proofs.sharing.contacts_of.Given as goal

abbrev pub invariant-loop-plane : goal.invariant-loop-plane
invariant-loop-plane l = HasShared l.tiles l.plane l.start l.contacts.items
