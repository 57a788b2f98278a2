use Rattle.cell_records.proofs.Common.{◌≡◌, ℕ, ℤ, pos, ◌+ℤ◌, Bool, get_or, take, to_z, of_z, rules, sym, ◌∙◌, ap, cond, get, w128, nat_cmp, Some}
use Rattle.cell_records.proofs.Common.{slice_index, to_z-of_z, sum_on, length_in}
use Rattle.std.specs.Prelude.{Option, unwrap_or}
use Rattle.cell_records.proofs.JoinedLaws.{told_or, told_more, part_fits, is_key}
use Rattle.cell_records.proofs.joining.lengths_of.Goals as goal

pub overflow_add-before : goal.overflow_add-before
overflow_add-before c =
    let numbers = c.args.numbers.now in
    let ts = c.args.terminals.now in
    let i = c.loop-terminal.terminal-index in
    let t : ℕ × ℤ = get_or ts i (0, pos 0) in
    let number = slice_index numbers t.0 in
    let before : c.length_at-before.result ≡ sum_on (length_in numbers number) (take i ts) = c.length_at-before.ensures
    ∙ ap (λ (v : Option ℤ). unwrap_or v (pos 0)) (c.loop-terminal.invariant number) ∙ told_or numbers (take i ts) number in
    let value : to_z w128 (of_z w128 t.1) ≡ t.1 = to_z-of_z w128 t.1 (search rules) in
    let was : to_z w128 (of_z w128 c.length_at-before.result) ≡ sum_on (length_in numbers number) (take i ts) =
    to_z-of_z w128 c.length_at-before.result (search rules) ∙ before in
    rw (value, was) (part_fits numbers ts i (0, pos 0) c.loop-terminal-test.true c.requires.some c.requires.small)

pub loop-terminal-preserved : goal.loop-terminal-preserved
loop-terminal-preserved c =
    let numbers = c.args.numbers.now in
    let ts = c.args.terminals.now in
    let i = c.loop-terminal.terminal-index in
    let t : ℕ × ℤ = get_or ts i (0, pos 0) in
    let number = slice_index numbers t.0 in
    let inside = c.loop-terminal-test.true in
    let before : c.length_at-before.result ≡ sum_on (length_in numbers number) (take i ts) = c.length_at-before.ensures
    ∙ ap (λ (v : Option ℤ). unwrap_or v (pos 0)) (c.loop-terminal.invariant number) ∙ told_or numbers (take i ts) number in
    let value : to_z w128 (of_z w128 t.1) ≡ t.1 = to_z-of_z w128 t.1 (search rules) in
    let was : to_z w128 (of_z w128 c.length_at-before.result) ≡ sum_on (length_in numbers number) (take i ts) =
    to_z-of_z w128 c.length_at-before.result (search rules) ∙ before in
    let sum = sum_on (length_in numbers number) (take i ts) +ℤ t.1 in
    let all : to_z w128 (of_z w128 sum) ≡ sum = to_z-of_z w128 sum (part_fits numbers ts i (0, pos 0) inside c.requires.some c.requires.small) in
    let updates = rw (value, was, all) at c.in_ok-insert.ensures.updates.0 in
    told_more numbers ts i (0, pos 0) (get nat_cmp c.loop-terminal.lengths) (get nat_cmp c.insert.new.self) sum inside c.loop-terminal.invariant
    (ap (λ (z : ℤ). z +ℤ t.1) (sym before ∙ c.length_at-before.ensures))
    (λ q. updates q ∙ ap (λ (b : Bool). cond b (Some sum) (get nat_cmp c.loop-terminal.lengths q)) (is_key number q))
