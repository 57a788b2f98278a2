use Rattle.hier_merge.proofs.Common.{[], List, length, sym, subst, arith, All, AllPairs, slice_index_or, In-get_or, All-from_In, AreDisjoint, IsNear}
use Rattle.hier_merge.proofs.Common.{IsProper, TypedStack, AreTypedStacks, typed_stack_areas, HasTiles, AreTilePieces}
use Rattle.meeting_laws.specs.Offences.TypedStacks.{AreByPart}
use Rattle.hier_merge.proofs.JoinedPieces.{no_pieces}
use Rattle.hier_merge.proofs.SeamLaws.{pieces_to_end, pieces_to_seam, seam_at_start, tiles_to_seam, typed_pieces}
use Rattle.hier_merge.proofs.plane_pieces.plane_pieces.Goals as goal

pub loop-seam-init : goal.loop-seam-init
loop-seam-init c = record {
  seam = seam_at_start c.args.tiles.now;
  later = λ k from below. omega arith;
  pieces = subst (AreTilePieces c.args.tech.now c.args.plane []) (sym c.new-stacks.ensures.items) (no_pieces c.args.tech.now c.args.plane);
  have = subst (All (HasTiles c.args.tiles.now 0 0 c.args.plane)) (sym c.new-stacks.ensures.items)
      (All-from_In (HasTiles c.args.tiles.now 0 0 c.args.plane) [] (λ piece none. absurd none));
}

pub add_pieces-requires-clause-order : goal.add_pieces-requires-clause-order
add_pieces-requires-clause-order c = c.loop-seam.invariant.later c.loop-seam.seam-index (omega arith) c.loop-seam-test.true

pub add_pieces-requires-clause-within : goal.add_pieces-requires-clause-within
add_pieces-requires-clause-within c =
    let seams = c.args.seams.now in
    let place = c.loop-seam.seam-index in
    (c.requires.seams.each (slice_index_or seams place 0) (In-get_or seams place 0 c.loop-seam-test.true)).within

pub loop-seam-preserved : goal.loop-seam-preserved
loop-seam-preserved c =
    let so_far = c.loop-seam.invariant in
    let seams = c.args.seams.now in
    let place = c.loop-seam.seam-index in
    let next = slice_index_or seams place 0 in
    let below = c.loop-seam-test.true in
    let order = so_far.later place (omega arith) below in
    record {
      seam = c.requires.seams.each next (In-get_or seams place 0 below);
      later = λ k from less. c.requires.seams.rising place k 0 (omega (arith, from)) less;
      pieces = pieces_to_seam c.args.tech.now c.args.plane c.args.tiles.now c.loop-seam.start next c.loop-seam.stacks.items
          c.add_pieces.new.stacks.items so_far.seam order so_far.pieces c.in_ok-add_pieces.ensures;
      have = tiles_to_seam c.args.tech.now c.args.plane c.args.tiles.now c.loop-seam.start next c.loop-seam.stacks.items c.add_pieces.new.stacks.items
          so_far.seam order so_far.have c.in_ok-add_pieces.ensures;
    }

pub offending_stacks-requires-clause-sound : goal.offending_stacks-requires-clause-sound
offending_stacks-requires-clause-sound c =
    let found = c.add_pieces-2.new.stacks.items in
    let pieces = pieces_to_end c.args.tech.now c.args.plane c.args.tiles.now c.loop-seam.start c.loop-seam.stacks.items found c.loop-seam.invariant.seam
    c.loop-seam.invariant.pieces c.in_ok-add_pieces-2.ensures in
    let are = typed_pieces c.args.tech.now c.args.plane c.args.tiles.now found pieces.stand c.requires.typed in
    subst (All (λ (s : TypedStack). IsProper s.area × IsNear s.area × AreByPart s.kinds)) (sym c.as_slice.ensures.value)
    (All-from_In (λ (s : TypedStack). IsProper s.area × IsNear s.area × AreByPart s.kinds) found (λ s among.
    let is = are.each s among in
    (is.proper, is.near, is.ordered)))

pub offending_stacks-requires-clause-apart : goal.offending_stacks-requires-clause-apart
offending_stacks-requires-clause-apart c =
    let found = c.add_pieces-2.new.stacks.items in
    let pieces = pieces_to_end c.args.tech.now c.args.plane c.args.tiles.now c.loop-seam.start c.loop-seam.stacks.items found c.loop-seam.invariant.seam
    c.loop-seam.invariant.pieces c.in_ok-add_pieces-2.ensures in
    let are = typed_pieces c.args.tech.now c.args.plane c.args.tiles.now found pieces.stand c.requires.typed in
    subst (λ (stacks : List TypedStack). AllPairs AreDisjoint (typed_stack_areas stacks)) (sym c.as_slice.ensures.value) are.apart

pub returns : goal.returns
returns c =
    let raw = c.args.tech.now in
    let tiles = c.args.tiles.now in
    let plane = c.args.plane in
    let so_far = c.loop-seam.invariant in
    let found = c.add_pieces-2.new.stacks.items in
    let pieces = pieces_to_end raw plane tiles c.loop-seam.start c.loop-seam.stacks.items found so_far.seam so_far.pieces c.in_ok-add_pieces-2.ensures in
    record {
      stand = pieces.stand;
      members = tiles_to_seam raw plane tiles c.loop-seam.start (length tiles) c.loop-seam.stacks.items found so_far.seam so_far.seam.within so_far.have
          c.in_ok-add_pieces-2.ensures;
      strips_are = λ parts are.
          c.in_ok-offending.ensures parts plane (subst (AreTypedStacks raw parts plane) (sym c.as_slice.ensures.value) are);
    }
