use Rattle.tile_plane.proofs.Common.{subst, arith, ints, Square, tile_at, IsTaken, Owns}
use Rattle.tile_plane.proofs.TileLaws.{owner_taken}
use Rattle.tile_plane.proofs.PieceLaws.{IsAtBand, walk_starts, walk_near, walk_owns, walk_begins, walk_band_near, walk_band_owns, walk_band_free, walk_whole, walk_taken, walk_on, walk_ends}
use Rattle.tile_plane.proofs.pieces.set_bands.Goals as goal
use Rattle.tile_plane.proofs.pieces.set_bands.Goals.{In_ok-id}

pub bands-init : goal.bands-init
bands-init c =
    walk_starts c.args.piece.now c.find-id.result c.args.store.now c.requires.partition c.requires.stitches c.requires.proper c.requires.state
    (subst (λ (s : Square). Owns c.args.store.now c.find-id.result s) c.corner.ensures c.find-id.ensures)

pub lowest_band-band-requires-clause-near : goal.lowest_band-band-requires-clause-near
lowest_band-band-requires-clause-near c = walk_near c.bands.invariant c.requires.proper c.requires.near

pub lowest_band-band-requires-clause-owns : goal.lowest_band-band-requires-clause-owns
lowest_band-band-requires-clause-owns c =
    let test = c.bands-test.true in
    walk_owns c.bands.invariant c.requires.proper c.requires.near (omega (arith, ints))

pub lowest_band-band-requires-clause-begins : goal.lowest_band-band-requires-clause-begins
lowest_band-band-requires-clause-begins c =
    let test = c.bands-test.true in
    walk_begins c.bands.invariant c.requires.proper c.requires.near (omega (arith, ints))

pub set_band-requires-clause-near : goal.set_band-requires-clause-near
set_band-requires-clause-near c =
    let test = c.bands-test.true in
    let is = c.lowest_band-band.ensures in
    walk_band_near c.bands.invariant c.requires.proper c.requires.near (omega (arith, ints)) is.band is.above is.within is.high

pub set_band-requires-clause-owns : goal.set_band-requires-clause-owns
set_band-requires-clause-owns c =
    let test = c.bands-test.true in
    let is = c.lowest_band-band.ensures in
    walk_band_owns c.bands.invariant c.requires.proper c.requires.near (omega (arith, ints)) is.band is.above is.within is.high

pub set_band-requires-clause-free : goal.set_band-requires-clause-free
set_band-requires-clause-free c =
    let test = c.bands-test.true in
    let is = c.lowest_band-band.ensures in
    walk_band_free c.bands.invariant c.requires.proper c.requires.near (omega (arith, ints)) is.band is.above is.within is.high

-- the band is laid, and its tile reaches up to the next one
whole : (c : In_ok-id) → IsAtBand c.lowest_band-band.result (tile_at c.set_band.new.store c.in_ok-id.id)
whole c =
    let test = c.bands-test.true in
    let is = c.lowest_band-band.ensures in
    let made = c.in_ok-id.ensures in
    walk_whole c.bands.invariant c.requires.proper c.requires.near (omega (arith, ints)) is.band is.above is.within is.high made.partition made.laid

taken : (c : In_ok-id) → IsTaken c.set_band.new.store c.in_ok-id.id
taken c =
    let test = c.bands-test.true in
    let is = c.lowest_band-band.ensures in
    let made = c.in_ok-id.ensures in
    walk_taken c.bands.invariant c.requires.proper c.requires.near (omega (arith, ints)) is.band is.above is.within is.high made.partition made.laid

pub above_of-id-requires-clause-taken : goal.above_of-id-requires-clause-taken
above_of-id-requires-clause-taken c = taken (goal.at.above_of-id-requires-clause-taken c).In_ok-id

pub above_of-id-requires-clause-from : goal.above_of-id-requires-clause-from
above_of-id-requires-clause-from c = (whole (goal.at.above_of-id-requires-clause-from c).In_ok-id).from

pub above_of-id-requires-clause-to : goal.above_of-id-requires-clause-to
above_of-id-requires-clause-to c = (whole (goal.at.above_of-id-requires-clause-to c).In_ok-id).to

pub bands-preserved-then-rest : goal.bands-preserved-then-rest
bands-preserved-then-rest c =
    let test = c.bands-test.true in
    let is = c.lowest_band-band.ensures in
    let made = c.in_ok-id.ensures in
    walk_on c.bands.invariant c.requires.proper c.requires.near (omega (arith, ints)) is.band is.above is.within is.high made.partition made.laid
    c.above_of-id.result c.above_band-rest.result c.above_band-rest.ensures made.stitches (owner_taken _ _ _ c.above_of-id.ensures)
    (λ less. c.above_of-id.ensures)

pub bands-preserved : goal.bands-preserved
bands-preserved c =
    let test = c.bands-test.true in
    let is = c.lowest_band-band.ensures in
    let made = c.in_ok-id.ensures in
    let done = c.if-rest.false in
    walk_on c.bands.invariant c.requires.proper c.requires.near (omega (arith, ints)) is.band is.above is.within is.high made.partition made.laid
    c.in_ok-id.id c.above_band-rest.result c.above_band-rest.ensures made.stitches (taken (goal.at.bands-preserved c).In_ok-id)
    (λ less. absurd (omega (arith, ints)))

pub returns-clause-banded : goal.returns-clause-banded
returns-clause-banded c =
    let test = c.bands-test.false in
    walk_ends c.bands.invariant c.requires.proper c.requires.near (omega (arith, ints))
