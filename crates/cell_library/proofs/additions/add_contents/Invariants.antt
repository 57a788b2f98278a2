use Rattle.cell_library.proofs.Common.{◌≡◌, ◌++◌, length, map, contents_with}
use Rattle.std.specs.Vec.Iter.{into_iter_items, into_iter_len}
use Rattle.cell_library.proofs.additions.add_contents.Given as goal

-- the contents of the cells so far came, and the others are still to come
abbrev pub invariant-loop-name : goal.invariant-loop-name
invariant-loop-name l = record {
  rest : l.yielded ++ into_iter_items l.name-iterator ≡ l.fn.cells.items;
  count : into_iter_len l.name-iterator ≡ length (into_iter_items l.name-iterator);
  contents : l.contents ≡ contents_with l.fn.contents l.yielded;
  uses : l.all_uses.items ≡ map (λ cell. cell.1.uses) l.yielded;
}
