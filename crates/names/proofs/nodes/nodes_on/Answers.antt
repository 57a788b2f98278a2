use Rattle.names.proofs.Common.{◌≡◌, ◌<◌, List, ℕ, Vec, Global, length, get_or, sym, ◌∙◌, ap, subst, arith, All, get_or_default, tile_at, no_tile}
use Rattle.names.proofs.Common.{class_of, IsNodeOn}
use Rattle.names.proofs.NodeLists.{nodes_more, nodes_all}
use Rattle.names.proofs.nodes.nodes_on.Goals as goal

pub loop-tile-preserved : goal.loop-tile-preserved
loop-tile-preserved c =
    let raw = c.args.tech.now in
    let labels = c.args.labels.now in
    let firsts = c.args.firsts.now in
    let classes = c.args.classes.now in
    let regions = c.args.regions.now in
    let indices = c.args.indices.now in
    let n = c.loop-tile.tile-index in
    let below = c.loop-tile-test.true in
    let tile = tile_at firsts n in
    let class = class_of classes tile in
    let regions_in : class < length regions = c.requires.class_in tile.region 0 (c.requires.region_in n no_tile below) in
    let many = c.requires.so_many in
    let d = c.index-regions-class.result in
    let e = c.index-indices-class.result in
    let node = c.in_ok-node_on.field-0 in
    let is_regions : c.as_slice-regions.result.now ≡ (get_or regions class d).items = c.as_slice-regions.ensures.value
    ∙ ap (λ (v : Vec ℕ Global). v.items) c.index-regions-class.is in
    let is_indices : c.as_slice-indices.result.now ≡ (get_or indices class e).items = c.as_slice-indices.ensures.value
    ∙ ap (λ (v : Vec ℕ Global). v.items) c.index-indices-class.is in
    let made : IsNodeOn raw labels tile (get_or regions class d).items (get_or indices class e).items node =
    subst (λ (v : List ℕ). IsNodeOn raw labels tile v (get_or indices class e).items node) is_regions
    (subst (λ (v : List ℕ). IsNodeOn raw labels tile c.as_slice-regions.result.now v node) is_indices c.in_ok-node_on.ensures) in
    nodes_more raw labels firsts classes regions indices n tile d e c.loop-tile.nodes.items c.push.new.self.items node below
    (get_or_default firsts n no_tile tile below) regions_in (omega (arith, many, regions_in)) made c.in_ok-push.ensures.items c.loop-tile.invariant

pub node_on-requires-clause-within : goal.node_on-requires-clause-within
node_on-requires-clause-within c =
    let n = c.loop-tile.tile-index in
    let below = c.loop-tile-test.true in
    let tile = tile_at c.args.firsts.now n in
    let class = class_of c.args.classes.now tile in
    let regions_in : class < length c.args.regions.now = c.requires.class_in tile.region 0 (c.requires.region_in n no_tile below) in
    let many = c.requires.so_many in
    let e = c.index-indices-class.result in
    subst (All (λ (k : ℕ). k < length c.args.labels.now)) (sym (c.as_slice-indices.ensures.value ∙ ap (λ (v : Vec ℕ Global). v.items) c.index-indices-class.is))
    (c.requires.within class e (omega (arith, many, regions_in)))

pub returns : goal.returns
returns c =
    let past = c.loop-tile-test.false in
    let here = c.loop-tile.auto.tile-index-end in
    nodes_all c.args.tech.now c.args.labels.now c.args.firsts.now c.args.classes.now c.args.regions.now c.args.indices.now c.loop-tile.tile-index
    c.loop-tile.nodes.items (omega (arith, past, here)) c.loop-tile.invariant
