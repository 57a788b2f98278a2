use Rattle.ext_cache.proofs.Common.{◌≡◌, ◌≤◌, ℕ, length, map, take, vec_capacity, IsSome, entry_in, AreLent}
use Rattle.ext_cache.proofs.LendingLaws.{cells_of}
use Rattle.ext_cache.proofs.caches.Cache.lend.Given as goal

-- the records of the cells so far are lent, no cell is left without an entry, and there is room for the others
abbrev pub invariant-loop-cell : goal.invariant-loop-cell
invariant-loop-cell l = record {
  lent : AreLent l.fn.self l.exts.items l.notes.items l.self;
  cells : cells_of l.notes.items ≡ map (λ cell. cell.0) (take l.cell-index l.cells);
  kept : (cell : ℕ) → IsSome (entry_in l.fn.self cell) → IsSome (entry_in l.self cell);
  exts : length l.exts.items ≤ l.cell-index;
  notes : length l.notes.items ≤ l.cell-index;
  room_in_exts : length l.cells ≤ vec_capacity l.exts;
  room_in_notes : length l.cells ≤ vec_capacity l.notes;
}
