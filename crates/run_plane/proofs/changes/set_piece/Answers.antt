use Rattle.run_plane.proofs.Common.{◌≡◌, ◌<◌, ◌≤◌, ◌≤ℤ◌, ◌<ℤ◌, ◌-ℤ◌, pos, inr, List, length, get_or, take, drop, sym, ◌∙◌, ap, subst, arith, rules}
use Rattle.run_plane.proofs.Common.{All, get_or_default, In-get_or, Row, edge, AreRuns, no_row}
use Rattle.run_plane.proofs.RowLaws.{row_facts}
use Rattle.run_plane.proofs.SettingLaws.{set_all}
use Rattle.run_plane.proofs.changes.set_piece.Goals as goal

pub with_piece-requires-clause-ordered : goal.with_piece-requires-clause-ordered
with_piece-requires-clause-ordered c =
    let olds = c.args.found.now.items in
    let news = c.loop-index.found.items in
    let k = c.loop-index.index in
    let long : length news ≡ length olds = c.loop-index.invariant.long in
    let bound : c.rows_up_to-last.result ≤ length olds = subst (λ (v : List Row). c.rows_up_to-last.result ≤ length v) c.as_slice-2.ensures.value
    c.rows_up_to-last.ensures.within in
    let p : k < length olds = omega arith in
    let q : k < length news = omega arith in
    let here : c.index_mut-row.result.now ≡ get_or olds k no_row =
    c.index_mut-row.ensures.value ∙ get_or_default news k _ no_row q ∙ c.loop-index.invariant.rest k (inr (omega arith)) in
    let runs : c.items.result.now ≡ (get_or olds k no_row).runs = c.items.ensures ∙ ap (λ (r : Row). r.runs) here in
    subst (AreRuns edge) (sym runs) (row_facts edge olds (get_or olds k no_row) c.requires.rising (In-get_or olds k no_row p)).runs

pub returns : goal.returns
returns c =
    let olds = c.args.found.now.items in
    let news = c.loop-index.found.items in
    let piece = c.args.piece.now in
    let first = c.rows_up_to-first.result in
    let last = c.rows_up_to-last.result in
    let q : first ≤ length olds = subst (λ (v : List Row). first ≤ length v) c.as_slice.ensures.value c.rows_up_to-first.ensures.within in
    let r : last ≤ length olds = subst (λ (v : List Row). last ≤ length v) c.as_slice-2.ensures.value c.rows_up_to-last.ensures.within in
    let below' : All (λ (row : Row). row.ylo ≤ℤ (piece.area.ylo -ℤ pos 1)) (take first c.as_slice.result.now) = search rules in
    let from_on' : All (λ (row : Row). (piece.area.ylo -ℤ pos 1) <ℤ row.ylo) (drop first c.as_slice.result.now) = search rules in
    let up_to' : All (λ (row : Row). row.ylo ≤ℤ (piece.area.yhi -ℤ pos 1)) (take last c.as_slice-2.result.now) = search rules in
    let above' : All (λ (row : Row). (piece.area.yhi -ℤ pos 1) <ℤ row.ylo) (drop last c.as_slice-2.result.now) = search rules in
    let below = subst (λ (v : List Row). All (λ (row : Row). row.ylo ≤ℤ (piece.area.ylo -ℤ pos 1)) (take first v)) c.as_slice.ensures.value below' in
    let from_on = subst (λ (v : List Row). All (λ (row : Row). (piece.area.ylo -ℤ pos 1) <ℤ row.ylo) (drop first v)) c.as_slice.ensures.value from_on' in
    let up_to = subst (λ (v : List Row). All (λ (row : Row). row.ylo ≤ℤ (piece.area.yhi -ℤ pos 1)) (take last v)) c.as_slice-2.ensures.value up_to' in
    let above = subst (λ (v : List Row). All (λ (row : Row). (piece.area.yhi -ℤ pos 1) <ℤ row.ylo) (drop last v)) c.as_slice-2.ensures.value above' in
    set_all piece first last c.loop-index.index olds news c.requires.proper q r below from_on up_to above c.loop-index-test.false
    c.loop-index.auto.index-end c.loop-index.invariant
