use Rattle.cell_records.proofs.Common.{◌≡◌, ◌<◌, ℕ, length, get_or, FetRec, Fet, IsRecordOfFet}
use Rattle.cell_records.proofs.fet_records.fet_records.Given as goal

abbrev pub invariant-loop-fet : goal.invariant-loop-fet
invariant-loop-fet l = record {
  so_many : length l.records.items ≡ l.fet-index;
  each : (k : ℕ) (fet : Fet) (rec : FetRec) → k < l.fet-index → IsRecordOfFet l.raw l.nodes l.numbers (get_or l.fets k fet) (get_or l.records.items k rec);
}
