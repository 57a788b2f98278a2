use Rattle.geo_strips.proofs.Common.{◌≡◌, arith, to_z, of_z, refl, w64, int_cmp, get, ints, to_z-of_z, Run}
use Rattle.geo_strips.proofs.RowLaws.{not_eq, placed}
use Rattle.geo_strips.proofs.row_runs.place.Goals as goal

pub returns-in_ok-insert : goal.returns-in_ok-insert
returns-in_ok-insert c =
    let from : to_z w64 (of_z w64 c.args.from) ≡ c.args.from = to_z-of_z w64 c.args.from c.ranges.from in
    let to : to_z w64 (of_z w64 c.args.to) ≡ c.args.to = to_z-of_z w64 c.args.to c.ranges.to in
    let row : to_z w64 (of_z w64 c.args.row) ≡ c.args.row = to_z-of_z w64 c.args.row c.ranges.row in
    let run : Run = record { to = c.args.to; since = c.args.row } in
    let u = rw (from, to, row) at c.in_ok-insert.ensures.updates in
    placed c.args.from c.args.to c.args.row run (get int_cmp c.args.runs.now) (get int_cmp c.insert.new.self) (omega (arith, ints, c.if-from-to.true))
    c.requires.apart c.requires.clear refl refl
    u.1 (λ a other. u.2 a (not_eq c.args.from a other))
