use Rattle.geo_strips.proofs.Common.{int_cmp, get, AreRuns, Changes}
use Rattle.std.specs.BTreeMap.{btree_map_len}
use Rattle.geo_strips.proofs.RowLaws.{IsTaking}
use Rattle.geo_strips.proofs.row_runs.take.Given as goal

abbrev pub invariant-loop-start : goal.invariant-loop-start
invariant-loop-start l = record {
  taking : IsTaking l.from l.to l.left l.right (get int_cmp l.initial.runs) (get int_cmp l.runs);
  apart : AreRuns (get int_cmp l.runs);
  changes : Changes l.row (get int_cmp l.initial.runs) (get int_cmp l.runs) l.initial.found.items l.found.items;
}

abbrev pub decreases-loop-start : goal.decreases-loop-start
decreases-loop-start l = btree_map_len l.runs
