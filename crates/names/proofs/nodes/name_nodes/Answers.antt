use Rattle.names.proofs.Common.{◌≡◌, ◌<◌, ℕ, List, Option, None, length, IsTrue, sym, subst, arith, All, IfSome, In, Divides, IsPair, is_type}
use Rattle.names.proofs.Common.{RegionTile, AreUnattached, AreTextsOf, AreCountedOn, AreFirstTiles, AreNodesOf, key_at, AreNamedNodes}
use Rattle.names.proofs.AttachmentLists.{pairs_below, named_below, firsts_have}
use Rattle.names.proofs.NamedNodeLaws.{named_nodes_are, unattached_are}
use Rattle.names.proofs.nodes.name_nodes.Goals as goal

pub classes-requires : goal.classes-requires
classes-requires c =
    let tiles = c.args.regions.now.tiles in
    let count = c.args.regions.now.count in
    let on : AreCountedOn c.args.tech.now tiles c.args.labels.now c.in_ok-counted.counted =
    subst (λ (v : List RegionTile). AreCountedOn c.args.tech.now v c.args.labels.now c.in_ok-counted.counted) c.items-tiles.ensures c.in_ok-counted.ensures in
    subst (All (λ (pair : ℕ × ℕ). (pair.0 < count) × (pair.1 < count))) (sym c.as_slice.ensures.value)
    (pairs_below c.args.tech.now tiles c.args.labels.now on.found count c.args.regions.now.sound on.attached c.in_ok-counted.counted.named.items
    c.in_ok-counted.counted.pairs.items on.are)

pub nodes_of-requires-clause-kinds : goal.nodes_of-requires-clause-kinds
nodes_of-requires-clause-kinds c =
    let firsts = c.in_ok-firsts.firsts.items in
    let slice = c.as_slice-2.result.now in
    let IsTyped = λ (tile : RegionTile). IsTrue (is_type c.args.tech.now tile.kind.0) in
    let are : AreFirstTiles slice (λ tile. In tile c.args.regions.now.tiles) firsts =
    subst (λ (v : List RegionTile). AreFirstTiles slice (λ tile. In tile v) firsts) c.items-tiles.ensures c.in_ok-firsts.ensures in
    subst (All IsTyped) (sym c.as_slice-3.ensures.value) (firsts_have IsTyped slice c.args.regions.now.tiles firsts are c.requires.kinds)

pub nodes_of-requires-clause-region_in : goal.nodes_of-requires-clause-region_in
nodes_of-requires-clause-region_in c =
    let firsts = c.in_ok-firsts.firsts.items in
    let slice = c.as_slice-2.result.now in
    let labels = c.in_ok-labelling.labelling.labels in
    let InRange = λ (tile : RegionTile). tile.region < length labels.items in
    let len = c.in_ok-labelling.ensures.len in
    let ok = labels.ok in
    let are : AreFirstTiles slice (λ tile. In tile c.args.regions.now.tiles) firsts =
    subst (λ (v : List RegionTile). AreFirstTiles slice (λ tile. In tile v) firsts) c.items-tiles.ensures c.in_ok-firsts.ensures in
    subst (All InRange) (sym c.as_slice-3.ensures.value) (firsts_have InRange slice c.args.regions.now.tiles firsts are
    (λ k d less. let numbered = (c.args.regions.now.sound k d less).numbered in omega (arith, len, ok, numbered)))

pub nodes_of-requires-clause-named_in : goal.nodes_of-requires-clause-named_in
nodes_of-requires-clause-named_in c =
    let tiles = c.args.regions.now.tiles in
    let count = c.args.regions.now.count in
    let labels = c.in_ok-labelling.labelling.labels in
    let len = c.in_ok-labelling.ensures.len in
    let ok = labels.ok in
    let long : length labels.items ≡ count = omega (arith, len, ok) in
    let on : AreCountedOn c.args.tech.now tiles c.args.labels.now c.in_ok-counted.counted =
    subst (λ (v : List RegionTile). AreCountedOn c.args.tech.now v c.args.labels.now c.in_ok-counted.counted) c.items-tiles.ensures c.in_ok-counted.ensures in
    subst (All (λ (region : Option ℕ). IfSome region (λ r. r < length labels.items))) (sym c.as_slice-4.ensures.value)
    (named_below c.args.tech.now tiles c.args.labels.now on.found count c.args.regions.now.sound on.attached c.in_ok-counted.counted.named.items
    c.in_ok-counted.counted.pairs.items on.are (length labels.items) long)

pub returns-clause-nodes : goal.returns-clause-nodes
returns-clause-nodes c = λ layout are.
    let raw = c.args.tech.now in
    let tiles = c.args.regions.now.tiles in
    let count = c.args.regions.now.count in
    let labels = c.args.labels.now in
    let named = c.in_ok-counted.counted.named.items in
    let pairs = c.in_ok-counted.counted.pairs.items in
    let made = c.in_ok-labelling.labelling.labels in
    let classes = made.items in
    let firsts = c.in_ok-firsts.firsts.items in
    let nodes = c.in_ok-nodes.nodes.items in
    let len = c.in_ok-labelling.ensures.len in
    let ok = made.ok in
    let long : length classes ≡ count = omega (arith, len, ok) in
    let on : AreCountedOn raw tiles labels c.in_ok-counted.counted =
    subst (λ (v : List RegionTile). AreCountedOn raw v labels c.in_ok-counted.counted) c.items-tiles.ensures c.in_ok-counted.ensures in
    let divides : Divides classes (IsPair pairs) =
    subst (λ (v : List (ℕ × ℕ)). Divides classes (IsPair v)) c.as_slice.ensures.value c.in_ok-labelling.ensures.divides in
    let firsts_are : AreFirstTiles classes (λ tile. In tile tiles) firsts = subst (λ (v : List ℕ). AreFirstTiles v (λ tile. In tile tiles) firsts)
    c.as_slice-2.ensures.value
    (subst (λ (v : List RegionTile). AreFirstTiles c.as_slice-2.result.now (λ tile. In tile v) firsts) c.items-tiles.ensures c.in_ok-firsts.ensures) in
    let nodes_are : AreNodesOf raw labels classes named firsts nodes = subst (λ (v : List RegionTile). AreNodesOf raw labels classes named v nodes)
    c.as_slice-3.ensures.value
    (subst (λ (v : List (Option ℕ)). AreNodesOf raw labels classes v c.as_slice-3.result.now nodes) c.as_slice-4.ensures.value c.in_ok-nodes.ensures) in
    subst (AreNamedNodes raw layout labels tiles) (sym c.of.ensures)
    (named_nodes_are raw c.lists_fit.ensures layout labels tiles count are on.found on.attached.each named pairs on.are classes long divides firsts nodes
    firsts_are nodes_are)

pub returns-clause-unattached : goal.returns-clause-unattached
returns-clause-unattached c = λ layout are.
    let raw = c.args.tech.now in
    let tiles = c.args.regions.now.tiles in
    let count = c.args.regions.now.count in
    let labels = c.args.labels.now in
    let named = c.in_ok-counted.counted.named.items in
    let pairs = c.in_ok-counted.counted.pairs.items in
    let texts = c.in_ok-unattached.unattached.items in
    let on : AreCountedOn raw tiles labels c.in_ok-counted.counted =
    subst (λ (v : List RegionTile). AreCountedOn raw v labels c.in_ok-counted.counted) c.items-tiles.ensures c.in_ok-counted.ensures in
    let left : AreTextsOf labels (λ index. (index < length labels) × (key_at named index ≡ None)) texts =
    subst (λ (v : List (Option ℕ)). AreTextsOf labels (λ index. (index < length labels) × (key_at v index ≡ None)) texts) c.as_slice-5.ensures.value
    c.in_ok-unattached.ensures in
    subst (AreUnattached raw layout labels) (sym c.of-2.ensures)
    (unattached_are raw c.lists_fit.ensures layout labels tiles count are on.found on.attached.each named pairs on.are texts left)
