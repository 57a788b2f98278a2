use Rattle.names.proofs.Common.{get_or, refl, arith, tile_at}
use Rattle.names.proofs.BlockLaws.{no_block}
use Rattle.names.proofs.TakingLaws.{taken_none, taken_more, taken_past, taken_all}
use Rattle.names.proofs.attaching.least_taken.Goals as goal

pub loop-at-init : goal.loop-at-init
loop-at-init c = record { within = omega arith; least = taken_none c.args.tech.now c.args.label.now c.args.tiles.now }

pub loop-at-preserved-then-is_beaten : goal.loop-at-preserved-then-is_beaten
loop-at-preserved-then-is_beaten c =
    let tiles = c.args.tiles.now in
    let at = c.loop-at.at in
    let block = get_or c.args.blocks.now at no_block in
    let is = c.requires.blocks.each at no_block c.loop-at-test.true in
    record {
      within = is.ends;
      least = taken_past c.args.tech.now c.args.label.now tiles at block c.loop-at.found is (c.is_beaten.ensures c.if-is_beaten.true) c.loop-at.invariant.least;
    }

pub loop-at-smaller-then-is_beaten : goal.loop-at-smaller-then-is_beaten
loop-at-smaller-then-is_beaten c =
    let is = c.requires.blocks.each c.loop-at.at no_block c.loop-at-test.true in
    let up = is.some in
    let ends = is.ends in
    omega (arith, up, ends)

pub loop-at-preserved : goal.loop-at-preserved
loop-at-preserved c =
    let at = c.loop-at.at in
    let below = c.loop-at-test.true in
    rw (c.earlier-found.ensures, c.attachment_on.ensures) (record {
      within = omega (arith, below);
      least = taken_more c.args.tech.now c.args.label.now c.args.tiles.now at (tile_at c.args.tiles.now at) refl c.loop-at.found c.loop-at.invariant.least;
    })

pub returns : goal.returns
returns c =
    let past = c.loop-at-test.false in
    let within = c.loop-at.invariant.within in
    taken_all c.args.tech.now c.args.label.now c.args.tiles.now c.loop-at.at c.loop-at.found (omega (arith, past, within)) c.loop-at.invariant.least
