use Rattle.fet_regions.proofs.Common.{◌≡◌, ℕ, ◌∷◌, ◌++◌, [], true, false, map, filter, length, sym, ◌∙◌, ap, arith, Vec, Global, range_with_len}
use Rattle.fet_regions.proofs.Common.{append-nil, tile_at, corner_at, channel_corners, channel_in, Corner}
use Rattle.fet_regions.proofs.LowestLaws.{corners_taken, corners_sorted, corners_within}
use Rattle.fet_regions.proofs.lowest.sorted_corners.Goals as goal
use Rattle.fet_regions.proofs.lowest.sorted_corners.Goals.{then-is_channel+in_ok-push, else-is_channel}

pub loop-place-preserved : goal.loop-place-preserved
loop-place-preserved c =
    let tiles = c.args.tiles.now in
    let i = c.loop-place.place in
    let taken = corners_taken (channel_in c.args.roles.now) tiles i c.loop-place.corners.items c.if-is_channel.corners.items in
    elim c.if-is_channel.branch [
      | then-is_channel+in_ok-push w ↦ taken true (sym w.if-is_channel.true ∙ c.is_channel.ensures) c.loop-place.invariant
          (ap (λ (v : Vec Corner Global). v.items) w.corners-is ∙ w.in_ok-push.ensures.items
          ∙ ap (λ (corner : Corner). c.loop-place.corners.items ++ corner ∷ []) w.corner_of.ensures)
      | else-is_channel w ↦ taken false (sym w.if-is_channel.false ∙ c.is_channel.ensures) c.loop-place.invariant
          (ap (λ (v : Vec Corner Global). v.items) w.corners-is ∙ sym (append-nil c.loop-place.corners.items))
    ]

pub returns : goal.returns
returns c =
    let tiles = c.args.tiles.now in
    let test = channel_in c.args.roles.now in
    let past = c.loop-place-test.false in
    let here = c.loop-place.auto.place-end in
    let all : c.loop-place.place ≡ length tiles = omega (arith, past, here) in
    let is : c.loop-place.corners.items ≡ channel_corners test tiles = c.loop-place.invariant
    ∙ ap (λ (n : ℕ). filter (λ corner. test (tile_at tiles corner.tile).kind.0) (map (corner_at tiles) (range_with_len 0 n))) all in
    let are = corners_sorted test tiles c.loop-place.corners.items c.sort_unstable.new.self.items is c.sort_unstable.ensures.permutation
    c.sort_unstable.ensures.sorted in
    record { corners = are; within = corners_within test tiles c.sort_unstable.new.self.items are }
