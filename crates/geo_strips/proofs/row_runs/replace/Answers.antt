use Rattle.geo_strips.proofs.Common.{◌≡◌, to_z, of_z, refl, w64, int_cmp, get, to_z-of_z, Run}
use Rattle.geo_strips.proofs.RowLaws.{not_eq, replaced}
use Rattle.geo_strips.proofs.row_runs.replace.Goals as goal

pub returns : goal.returns
returns c =
    let from : to_z w64 (of_z w64 c.args.from) ≡ c.args.from = to_z-of_z w64 c.args.from c.ranges.from in
    let to : to_z w64 (of_z w64 c.args.to) ≡ c.args.to = to_z-of_z w64 c.args.to c.ranges.to in
    let row : to_z w64 (of_z w64 c.args.row) ≡ c.args.row = to_z-of_z w64 c.args.row c.ranges.row in
    let run : Run = record { to = c.args.to; since = c.args.row } in
    let u = rw (from, to, row) at c.in_ok-insert.ensures.updates in
    replaced c.args.from c.args.to c.args.row run (get int_cmp c.args.runs.now) (get int_cmp c.insert.new.self) c.requires.long
    c.requires.apart c.requires.clear refl refl u.1 (λ a other. u.2 a (not_eq c.args.from a other))
