use Rattle.cell_library.proofs.Common.{◌-◌, length, map, take, drop, All, MayCome, new_states, kept_uses, AreStatesOf, cell_views}
use Rattle.cell_library.proofs.additions.cells_from.Given as goal

-- the cells so far are those of their contents and uses
abbrev pub invariant-loop-position : goal.invariant-loop-position
invariant-loop-position l = record {
  states : AreStatesOf
      (cell_views (take (l.position - l.first) (drop l.first l.contents)) (map (kept_uses l.contents) (take (l.position - l.first) l.all_uses)))
      (new_states l.cells.items);
  lawful : All (MayCome (length l.contents)) (new_states l.cells.items);
}
