use Rattle.cell_library.proofs.Common.{◌≡◌, ◌+◌, ◌-◌, ◌<◌, ◌≤◌, ℕ, List, [], ◌∷◌, ◌++◌, length, map, take, drop, sym, ap, subst, ◌∙◌, arith, All}
use Rattle.cell_library.proofs.Common.{NewCell, MayCome, new_states, kept_uses, held_at, AreStatesOf, cell_views}
use Rattle.std.proofs.Common.{length-drop}
use Rattle.cell_library.proofs.ArrivingCells.{all_more, cell_more, held_there}
use Rattle.cell_library.proofs.additions.cells_from.Goals as goal

pub loop-position-preserved : goal.loop-position-preserved
loop-position-preserved c =
    let contents = c.args.contents.now in
    let all_uses = c.args.all_uses.now in
    let first = c.args.first in
    let position = c.loop-position.position in
    let done = c.loop-position.cells.items in
    let cell = c.in_ok-cell.cell in
    let k : ℕ = position - first in
    let before : first ≤ position = c.loop-position.auto.position in
    let below : position < length contents = (let end = c.len-position-end.ensures in let test = c.loop-position-test.true in omega arith) in
    let so_many = c.requires.so_many in
    let rest_long = length-drop first contents in
    let next : k + 1 ≡ position + 1 - first = omega arith in
    let more = cell_more (drop first contents) all_uses done k (held_at contents position) c.index-all_uses-position.result cell (kept_uses contents)
    (omega arith) (omega arith) (held_there contents first position before below) (sym c.index-all_uses-position.is) c.loop-position.invariant.states
    c.in_ok-cell.ensures.own (c.in_ok-cell.ensures.uses ∙ ap (kept_uses contents) c.items-uses.ensures) in
    record {
      states = subst (λ (cells : List NewCell).
          AreStatesOf (cell_views (take (position + 1 - first) (drop first contents)) (map (kept_uses contents) (take (position + 1 - first) all_uses)))
          (new_states cells)) (sym c.in_ok-push.ensures.items)
          (subst (λ (n : ℕ). AreStatesOf (cell_views (take n (drop first contents)) (map (kept_uses contents) (take n all_uses)))
          (new_states (done ++ cell ∷ []))) next more);
      lawful = subst (λ (cells : List NewCell). All (MayCome (length contents)) (new_states cells)) (sym c.in_ok-push.ensures.items)
          (all_more (MayCome (length contents)) done cell c.loop-position.invariant.lawful c.in_ok-cell.ensures.lawful);
    }
