use Rattle.names.proofs.Common.{◌<◌, sym, ◌∙◌, arith, false≢true, tile_at, no_tile, class_of}
use Rattle.names.proofs.FirstTileLaws.{marked_none, marked_again, marked_new, firsts_none, firsts_again, firsts_new, firsts_all}
use Rattle.names.proofs.first_tiles.first_of_classes.Goals as goal
use Rattle.names.proofs.first_tiles.first_of_classes.Goals.{then-not-index+in_ok-push, else-not-index}

pub loop-tile-init : goal.loop-tile-init
loop-tile-init c = record {
  marks = marked_none c.args.classes.now c.args.sorted.now c.args.count c.in_ok-seen.seen.items c.in_ok-seen.ensures.one_each c.in_ok-seen.ensures.unset;
  firsts = firsts_none c.args.classes.now c.args.sorted.now c.new-firsts.result.items c.new-firsts.ensures.items;
}

pub loop-tile-preserved : goal.loop-tile-preserved
loop-tile-preserved c =
    let classes = c.args.classes.now in
    let sorted = c.args.sorted.now in
    let n = c.loop-tile.tile-index in
    let below = c.loop-tile-test.true in
    let marks = c.loop-tile.invariant.marks in
    let class = class_of classes (tile_at sorted n) in
    let set = c.index.result.now in
    let in_range : class < c.args.count = c.requires.classes (tile_at sorted n).region 0 (c.requires.regions n no_tile below) in
    elim c.if-not-index.branch [
      | then-not-index+in_ok-push w ↦ rw (w.seen-is, w.firsts-is) (record {
        marks = marked_new classes sorted n c.args.count c.loop-tile.seen.items in_range marks;
        firsts = firsts_new classes sorted c.requires.sorted n below c.loop-tile.firsts.items c.loop-tile.invariant.firsts w.push.new.self.items
            (λ known. false≢true (sym w.if-not-index.true ∙ c.index.ensures ∙ (marks.marked class set in_range).1 known)) w.in_ok-push.ensures.items;
      })
      | else-not-index w ↦
          let is = sym c.index.ensures ∙ w.if-not-index.false in
          rw (w.seen-is, w.firsts-is) (record {
            marks = marked_again classes sorted n c.args.count c.loop-tile.seen.items set in_range is marks;
            firsts = firsts_again classes sorted c.requires.sorted n below c.loop-tile.firsts.items c.loop-tile.invariant.firsts
                ((marks.marked class set in_range).0 is);
          })
    ]

pub returns : goal.returns
returns c =
    let past = c.loop-tile-test.false in
    let here = c.loop-tile.auto.tile-index-end in
    firsts_all c.args.classes.now c.args.sorted.now c.loop-tile.tile-index c.loop-tile.firsts.items (omega (arith, past, here)) c.loop-tile.invariant.firsts
