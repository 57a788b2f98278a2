use Rattle.run_plane.proofs.Common.{◌≡◌, ◌+◌, ◌≤◌, ◌<◌, ℤ, pos, ◌-ℤ◌, ◌≤ℤ◌, ◌<ℤ◌, List, [], ◌++◌, length, map, take, drop, get_or, sym, ◌∙◌, ap}
use Rattle.run_plane.proofs.Common.{subst, arith, rules, w64, All, int_min, int_max, to_z-of_z, get_or_default, Piece, Run, Row, no_row, piece_of}
use mir.Val.{to_z, of_z}
use Rattle.run_plane.proofs.PieceLaws.{AreCovered, covered_none, covered_more, covered_all}
use Rattle.run_plane.proofs.listings.pieces_between.Goals as goal

pub loop-index-init : goal.loop-index-init
loop-index-init c =
    let rows = c.args.rows.now in
    let low = c.args.low in
    let high = c.args.high in
    let count = c.rows_up_to.result in
    let below : All (λ (row : Row). row.ylo ≤ℤ low) (take count rows) = search rules in
    let above : All (λ (row : Row). low <ℤ row.ylo) (drop count rows) = search rules in
    let none = covered_none rows low high c.requires.rising count c.saturating_sub-first.result below above
    c.rows_up_to.ensures.within c.saturating_sub-first.ensures in
    subst (λ (pieces : List Piece). AreCovered rows (to_z w64 (of_z w64 low)) (to_z w64 (of_z w64 high)) c.saturating_sub-first.result pieces)
    (sym c.new-pieces.ensures.items)
    (subst (λ (z : ℤ). AreCovered rows z (to_z w64 (of_z w64 high)) c.saturating_sub-first.result []) (sym (to_z-of_z w64 low c.ranges.low))
    (subst (λ (z : ℤ). AreCovered rows low z c.saturating_sub-first.result []) (sym (to_z-of_z w64 high c.ranges.high)) none))

pub loop-index-preserved : goal.loop-index-preserved
loop-index-preserved c =
    let rows = c.args.rows.now in
    let low = to_z w64 (of_z w64 c.args.low) in
    let high = to_z w64 (of_z w64 c.args.high) in
    let k = c.loop-index.index in
    let top = c.top_of-top.result in
    let p : k < length rows = (let within = c.rows_up_to-last.ensures.within in omega arith) in
    let row = get_or rows k no_row in
    let next : k + 1 < length rows → top ≡ (get_or rows (k + 1) no_row).ylo = c.top_of-top.ensures.next in
    let last : length rows ≤ k + 1 → top ≡ high = λ q. c.top_of-top.ensures.last q in
    let pieces = c.loop-index.pieces.items in
    let got = c.index-rows-index.result in
    let same_row : got ≡ row = c.index-rows-index.is ∙ get_or_default rows k got no_row p in
    let ylo : c.max.result ≡ int_max row.ylo low = search rules in
    let yhi : c.min.result ≡ int_min top high = search rules in
    let runs : c.items.result.now ≡ row.runs = c.items.ensures ∙ ap (λ (r : Row). r.runs) same_row in
    let pushed : c.push_runs.new.pieces.items ≡ pieces ++ map (piece_of c.max.result c.min.result) c.items.result.now = search rules in
    let added : c.push_runs.new.pieces.items ≡ c.loop-index.pieces.items ++ map (piece_of (int_max row.ylo low) (int_min top high)) row.runs =
    pushed ∙ ap (λ (z : ℤ). pieces ++ map (piece_of z c.min.result) c.items.result.now) ylo
    ∙ ap (λ (z : ℤ). pieces ++ map (piece_of (int_max row.ylo low) z) c.items.result.now) yhi
    ∙ ap (λ (v : List Run). pieces ++ map (piece_of (int_max row.ylo low) (int_min top high)) v) runs in
    subst (AreCovered rows low high (k + 1)) (sym added) (covered_more rows low high c.requires.rising k top c.loop-index.pieces.items p next last
    c.loop-index.invariant)

pub returns : goal.returns
returns c =
    let rows = c.args.rows.now in
    let low = c.args.low in
    let high = c.args.high in
    let k = c.loop-index.index in
    let pieces = c.loop-index.pieces.items in
    let covered = subst (λ (z : ℤ). AreCovered rows low z k pieces) (to_z-of_z w64 high c.ranges.high)
    (subst (λ (z : ℤ). AreCovered rows z (to_z w64 (of_z w64 high)) k pieces) (to_z-of_z w64 low c.ranges.low) c.loop-index.invariant) in
    let above : All (λ (row : Row). (high -ℤ pos 1) <ℤ row.ylo) (drop c.rows_up_to-last.result rows) = search rules in
    covered_all rows low high c.requires.rising k c.rows_up_to-last.result pieces covered c.loop-index-test.false above
