use Rattle.flatten.proofs.Common.{◌≡◌, ◌+◌, ◌-◌, ℤ, ◌+ℤ◌, length, refl, sym, ◌∙◌, ap, arith, rules, to_z, of_z, Some, slice_get, w128, set}
use Rattle.flatten.proofs.Common.{to_z-of_z, slice_get_read, same_Some, Side}
use Rattle.flatten.proofs.JoinLaws.{with_side_same, with_side_new, with_side_first}
use Rattle.flatten.proofs.sides.push_side.Goals as goal
use Rattle.flatten.proofs.sides.push_side.Goals.{else-count-gt0-via-then-count-gt0+else-index-side, else-count-gt0-via-else-count-gt0}

pub returns-then-index-side : goal.returns-then-index-side
returns-then-index-side c =
    let joined = c.args.joined.now.items in
    let side : Side = c.args.side in
    let i = c.len-count.result - 1 in
    let last : Side = c.index_mut.result.now in
    let some = c.if-count-gt0.true in
    let many = c.len-count.ensures in
    let stored = c.args.joined.now.ok.0 in
    let ends : i + 1 ≡ length joined = omega (arith, some, many, stored) in
    let at : slice_get joined i ≡ Some last = slice_get_read joined (length joined) i last refl (omega (arith, ends)) c.index_mut.ensures.value in
    let same_read : c.index.result.now ≡ last = same_Some c.index.result.now last
    (sym (slice_get_read joined (length joined) i c.index.result.now refl (omega (arith, ends)) c.index.ensures) ∙ at) in
    let same : last.node ≡ side.node = ap (λ (s : Side). s.node) (sym same_read) ∙ c.if-index-side.true in
    let place : length joined - 1 ≡ i = omega (arith, ends) in
    let fits = c.requires last (ap (slice_get joined) place ∙ at) in
    let a : to_z w128 (of_z w128 last.length) ≡ last.length = to_z-of_z w128 last.length (search rules) in
    let b : to_z w128 (of_z w128 side.length) ≡ side.length = to_z-of_z w128 side.length (search rules) in
    let sum : to_z w128 (of_z w128 (to_z w128 (of_z w128 last.length) +ℤ to_z w128 (of_z w128 side.length))) ≡ last.length +ℤ side.length =
    ap (λ (z : ℤ). to_z w128 (of_z w128 (z +ℤ to_z w128 (of_z w128 side.length)))) a ∙ ap (λ (z : ℤ). to_z w128 (of_z w128 (last.length +ℤ z))) b
    ∙ to_z-of_z w128 (last.length +ℤ side.length) fits in
    let with_length : ℤ → Side = λ z. record { node = last.node; length = z } in
    ap (λ (z : ℤ). set joined i (with_length z)) sum ∙ sym (with_side_same joined i last side ends at same)

pub returns-in_ok-push : goal.returns-in_ok-push
returns-in_ok-push c =
    let joined = c.args.joined.now.items in
    let side : Side = c.args.side in
    let i = c.len-count.result - 1 in
    let many = c.len-count.ensures in
    let stored = c.args.joined.now.ok.0 in
    c.in_ok-push.ensures.items
    ∙ elim c.else-count-gt0.branch [
      | else-count-gt0-via-then-count-gt0+else-index-side w ↦
          (let some = w.if-count-gt0.true in
          let ends : i + 1 ≡ length joined = omega (arith, some, many, stored) in
          let at : slice_get joined i ≡ Some w.index.result.now = slice_get_read joined (length joined) i w.index.result.now refl
          (omega (arith, ends)) w.index.ensures in
          sym (with_side_new joined i w.index.result.now side ends at w.if-index-side.false))
      | else-count-gt0-via-else-count-gt0 w ↦
          (let none = w.if-count-gt0.false in sym (with_side_first joined side (omega (arith, none, many, stored))))
    ]
