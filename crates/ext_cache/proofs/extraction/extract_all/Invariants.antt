use Rattle.ext_cache.proofs.Common.{ℕ, ◌≤◌, ◌+◌, length, take, vec_capacity, seen, IsWorkOfAll, dirty_cells}
use Rattle.tree_merges.proofs.HierMerge.CleanOrders.{numbers}
use Rattle.ext_cache.proofs.LoopLaws.{IsMadeTo}
use Rattle.ext_cache.proofs.WorkLaws.{HasWorkOf}
use Rattle.ext_cache.proofs.extraction.extract_all.Given as goal

-- new records were made of the dirty cells so far, what was told and logged of them has room for the others, and the steps are theirs
abbrev pub invariant-loop-cell : goal.invariant-loop-cell
invariant-loop-cell g l = record {
  made : IsMadeTo l.library (numbers l.order) l.cell-index l.fn.cache l.cache l.told.items l.log.items;
  logged : length l.log.items ≤ l.cell-index;
  told : length l.told.items ≤ l.cell-index;
  room_in_log : length l.order ≤ vec_capacity l.log;
  room_in_told : length l.order ≤ vec_capacity l.told;
  work : HasWorkOf (seen l.library) (dirty_cells l.library l.fn.cache (take l.cell-index (numbers l.order))) l.fn.steps l.steps;
  steps : (work : ℕ) → IsWorkOfAll (seen l.library) (dirty_cells l.library l.fn.cache (take l.cell-index (numbers l.order))) work
      → l.steps ≤ l.fn.steps + work;
}
