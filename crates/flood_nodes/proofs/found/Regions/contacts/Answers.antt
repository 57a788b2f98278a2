use Rattle.flood_nodes.proofs.Common.{List, sym, subst, Lists, Contact, IsTileContact}
use Rattle.flood_nodes.proofs.Renumbering.{contacts_listed}
use Rattle.flood_nodes.proofs.found.Regions.contacts.Goals as goal

pub returns : goal.returns
returns c =
    let self = c.args.self.now in
    subst (λ (v : List Contact). Lists (IsTileContact self.tiles) v) (sym c.items.ensures) (contacts_listed self.tiles self.contacts self.shared)
