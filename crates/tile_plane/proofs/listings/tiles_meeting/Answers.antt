use Rattle.tile_plane.proofs.Common.{ℕ, ◌+◌, ◌<◌, List, length, sym, subst, arith, In, In-get_or}
use Rattle.tile_plane.proofs.QueueLaws.{IsQueue, queue_begins, queue_goes_on, queue_ends}
use Rattle.tile_plane.proofs.FollowerLaws.{near_within}
use Rattle.tile_plane.proofs.listings.tiles_meeting.Goals as goal

pub loop-index-init : goal.loop-index-init
loop-index-init c = queue_begins c.args.store.now c.args.area.now c.requires.proper.wide c.in_ok-found.found.items c.in_ok-found.ensures

pub push_followers-requires-clause-meets : goal.push_followers-requires-clause-meets
push_followers-requires-clause-meets c =
    let found = c.loop-index.found in
    let test = c.loop-index-test.true in
    let below : c.loop-index.index < length found.items = omega (arith, c.len.ensures) in
    c.loop-index.invariant.meets c.index-id.result.now
    (subst (λ (v : ℕ). In v found.items) (sym c.index-id.ensures) (In-get_or found.items c.loop-index.index c.index-id.result.now below))

pub loop-index-preserved : goal.loop-index-preserved
loop-index-preserved c =
    let tiles = c.args.store.now in
    let area = c.args.area.now in
    let found = c.loop-index.found in
    let test = c.loop-index-test.true in
    let below : c.loop-index.index < length found.items = omega (arith, c.len.ensures) in
    let adds = c.in_ok-push_followers.ensures in
    subst (λ (v : List ℕ). IsQueue tiles area v (c.loop-index.index + 1)) (sym adds.joined)
    (queue_goes_on tiles area c.requires.partition found.items c.loop-index.index c.index-id.result.now c.loop-index.invariant below c.index-id.ensures
    adds.more adds.lists)

pub returns : goal.returns
returns c =
    let area = c.args.area.now in
    let found = c.loop-index.found in
    let test = c.loop-index-test.false in
    queue_ends c.args.store.now area found.items c.loop-index.index c.requires.partition (near_within area c.requires.near) c.loop-index.invariant
    (omega (arith, c.len.ensures))
