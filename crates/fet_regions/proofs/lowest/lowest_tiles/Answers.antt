use Rattle.fet_regions.proofs.Common.{◌≡◌, ℕ, ◌+◌, ◌<◌, ◌≤◌, Bool, false, true, List, length, get_or, sym, ◌∙◌, ap, subst, arith, Vec, Global}
use Rattle.fet_regions.proofs.Common.{slice_index, In-get_or, AreCorners, channel_in, Corner}
use Rattle.std.proofs.Math.ListN.{set}
use Rattle.std.proofs.lemmas.List.{get_or_default}
use Rattle.fet_regions.proofs.LowestLaws.{IsWalked, no_corner, walked_none, walked_seen, walked_new, walked_all}
use Rattle.fet_regions.proofs.lowest.lowest_tiles.Goals as goal
use Rattle.fet_regions.proofs.lowest.lowest_tiles.Goals.{then-not-index+in_ok-push, else-not-index}

pub loop-corner-init : goal.loop-corner-init
loop-corner-init c =
    let tiles = c.args.tiles.now in
    let corners = c.deref-corner-items.result.now in
    let test = channel_in c.args.roles.now in
    let are = subst (AreCorners test tiles) (sym c.deref-corner-items.ensures.value) c.in_ok-corners.ensures.corners in
    walked_none test tiles c.args.labels.now c.args.count corners are c.in_ok-seen.seen.items c.new-lowest.result.items
    (c.in_ok-seen.ensures.items_if_clones_equal (λ y e. e)) c.new-lowest.ensures.items

pub loop-corner-preserved : goal.loop-corner-preserved
loop-corner-preserved c =
    let tiles = c.args.tiles.now in
    let labels = c.args.labels.now in
    let count = c.args.count in
    let corners = c.deref-corner-items.result.now in
    let test = channel_in c.args.roles.now in
    let are = subst (AreCorners test tiles) (sym c.deref-corner-items.ensures.value) c.in_ok-corners.ensures.corners in
    let i = c.loop-corner.corner-index in
    let seen = c.loop-corner.seen.items in
    let lowest = c.loop-corner.lowest.items in
    let inside : i < length corners = c.loop-corner-test.true in
    let corner : Corner = get_or corners i no_corner in
    let within = (are.others corner (In-get_or corners i no_corner inside)).within in
    let long = c.requires.long in
    let label = slice_index labels corner.tile in
    let below : label < count = c.requires.below corner.tile 0 (omega (arith, within, long)) in
    let many = c.loop-corner.invariant.so_many in
    let read : c.index.result.now ≡ get_or seen label false = c.index.ensures
    ∙ get_or_default seen label c.index.result.now false (omega (arith, below, many)) in
    elim c.if-not-index.branch [
      | then-not-index+in_ok-push w ↦
          subst (λ (s : List Bool). IsWalked tiles labels count corners (i + 1) s c.if-not-index.lowest.items)
          (sym (ap (λ (v : Vec Bool Global). v.items) w.seen-is))
          (subst (λ (l : List ℕ). IsWalked tiles labels count corners (i + 1) (set seen label true) l)
          (sym (ap (λ (v : Vec ℕ Global). v.items) w.lowest-is ∙ w.in_ok-push.ensures.items))
          (walked_new test tiles labels count corners are i seen lowest c.loop-corner.invariant inside below (sym read ∙ w.if-not-index.true)))
      | else-not-index w ↦
          subst (λ (s : List Bool). IsWalked tiles labels count corners (i + 1) s c.if-not-index.lowest.items)
          (sym (ap (λ (v : Vec Bool Global). v.items) w.seen-is))
          (subst (λ (l : List ℕ). IsWalked tiles labels count corners (i + 1) seen l) (sym (ap (λ (v : Vec ℕ Global). v.items) w.lowest-is))
          (walked_seen test tiles labels count corners are i seen lowest c.loop-corner.invariant (sym read ∙ w.if-not-index.false)))
    ]

pub returns : goal.returns
returns c =
    let tiles = c.args.tiles.now in
    let labels = c.args.labels.now in
    let count = c.args.count in
    let corners = c.deref-corner-items.result.now in
    let test = channel_in c.args.roles.now in
    let are = subst (AreCorners test tiles) (sym c.deref-corner-items.ensures.value) c.in_ok-corners.ensures.corners in
    let past : length corners ≤ c.loop-corner.corner-index = c.loop-corner-test.false in
    let here : c.loop-corner.corner-index ≤ length corners = c.loop-corner.auto.corner-index-end in
    let all : c.loop-corner.corner-index ≡ length corners = omega (arith, past, here) in
    walked_all test tiles labels count corners are c.loop-corner.seen.items c.loop-corner.lowest.items
    (subst (λ (n : ℕ). IsWalked tiles labels count corners n c.loop-corner.seen.items c.loop-corner.lowest.items) all c.loop-corner.invariant)
