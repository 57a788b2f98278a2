use Rattle.run_plane.proofs.Common.{◌≡◌, ◌-◌, suc, ◌<◌, ◌≤ℤ◌, ◌<ℤ◌, [], take, drop, length, sym, ◌∙◌, ap, arith, rules, ℕ, All, Row, top_runs}
use Rattle.run_plane.proofs.RowLaws.{runs_at_count, top_at}
use Rattle.run_plane.proofs.rows.runs_at.Goals as goal

pub returns-then-count-eq0 : goal.returns-then-count-eq0
returns-then-count-eq0 c =
    let count = c.rows_up_to-count.result in
    let rows = c.args.rows.now in
    let y = c.args.y in
    let below : All (λ (row : Row). row.ylo ≤ℤ y) (take count rows) = search rules in
    let above : All (λ (row : Row). y <ℤ row.ylo) (drop count rows) = search rules in
    sym (runs_at_count rows count y below above ∙ ap (λ (k : ℕ). top_runs [] (take k rows)) c.if-count-eq0.true)

pub returns-else-count-eq0 : goal.returns-else-count-eq0
returns-else-count-eq0 c =
    let count = c.rows_up_to-count.result in
    let rows = c.args.rows.now in
    let y = c.args.y in
    let within = c.rows_up_to-count.ensures.within in
    let some = c.if-count-eq0.false in
    let less : count - 1 < length rows = omega arith in
    let next : count ≡ suc (count - 1) = omega arith in
    let below : All (λ (row : Row). row.ylo ≤ℤ y) (take count rows) = search rules in
    let above : All (λ (row : Row). y <ℤ row.ylo) (drop count rows) = search rules in
    c.items.ensures ∙ sym (runs_at_count rows count y below above ∙ ap (λ (k : ℕ). top_runs [] (take k rows)) next ∙ top_at [] rows (count - 1)
    c.index-rows-count.result less)
