-- What is settled from the first column to the last is settled in the whole row.
use Rattle.interact.proofs.Common.{◌≡◌, rules, w64, to_z, of_z, refl, to_z-of_z, Sweep}
use Rattle.std.proofs.lemmas.Result.{on_ok_weaker}
use Rattle.interact.proofs.SweepLaws.{row_settled}
use Rattle.interact.proofs.sweep.settle.Goals as goal

pub returns : goal.returns
returns c =
    let old = c.args.sweep.now in
    let row : to_z w64 (of_z w64 old.row) ≡ old.row = to_z-of_z w64 old.row (search rules) in
    let new : Sweep = record { row = old.row; counts = c.settle.new.self; shared = c.settle.new.shared } in
    on_ok_weaker c.settle.result (row_settled old new refl) (rw row at c.settle.ensures)
