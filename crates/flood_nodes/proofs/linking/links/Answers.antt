use Rattle.flood_nodes.proofs.LinkLaws.{pairs_within, links_join}
use Rattle.flood_nodes.proofs.linking.links.Goals as goal

pub connected-requires : goal.connected-requires
connected-requires c =
    let adds = rw c.in_ok-pairs.ensures at c.in_ok-add_all_stacked.ensures in
    rw c.as_slice.ensures.value (pairs_within c.args.tech.now c.args.tiles.now c.args.contacts.now _ c.requires.well_formed c.requires.typed
    c.requires.contacts adds)

pub returns : goal.returns
returns c =
    let adds = rw c.in_ok-pairs.ensures at c.in_ok-add_all_stacked.ensures in
    rw (c.in_ok-links.ensures, c.as_slice.ensures.value) (links_join c.args.tech.now c.args.tiles.now c.args.contacts.now _ c.requires.well_formed
    c.requires.typed c.requires.contacts adds)
