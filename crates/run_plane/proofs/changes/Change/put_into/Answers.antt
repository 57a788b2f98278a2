use Rattle.run_plane.proofs.Common.{◌≡◌, ◌≤◌, ◌+◌, ◌-◌, ℕ, ◌++◌, length, subst, ap, ◌∙◌, arith, rules}
use Rattle.std.specs.Prelude.{IsOk, vec_len, vec_capacity}
use Rattle.run_plane.proofs.CommitLaws.{committed}
use Rattle.run_plane.proofs.changes.Change.put_into.Goals as goal

pub returns-clause-rows : goal.returns-clause-rows
returns-clause-rows c =
    let rows = c.args.rows.now in
    let change = c.args.self.now in
    let room = c.requires.room in
    let fits : vec_len c.truncate.new.self + vec_len change.rows ≤ vec_capacity c.truncate.new.self = omega arith in
    let ok : IsOk c.append.result = c.append.ensures.succeeds fits in
    let joined : c.append.new.self.items ≡ c.truncate.new.self.items ++ change.rows.items = search rules in
    let long : vec_len rows ≡ length rows.items = rows.ok.0 in
    let within : change.until ≤ length rows.items = subst (λ (n : ℕ). change.until ≤ n) long c.requires.within in
    let above : c.len.result - change.until ≡ length rows.items - change.until = ap (λ (n : ℕ). n - change.until) (c.len.ensures ∙ long) in
    committed rows.items change.rows.items c.rotate_left.new.self.items c.truncate.new.self.items c.append.new.self.items c.rotate_left-2.new.self.items
    change.from change.until (c.len.result - change.until) c.requires.in_order within above c.rotate_left.ensures.items c.truncate.ensures.items joined
    c.rotate_left-2.ensures.items
