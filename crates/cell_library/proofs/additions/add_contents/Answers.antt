use Rattle.cell_library.proofs.Common.{ℕ, List, ◌++◌, sym, ap, ◌∙◌, CellBody, position_of}
use Rattle.std.specs.Vec.Iter.{into_iter_items}
use Rattle.cell_library.proofs.ArrivingCells.{next_is_new}
use Rattle.cell_library.proofs.additions.add_contents.Goals as goal

pub push-requires : goal.push-requires
push-requires c =
    let so_far = c.loop-name.invariant in
    ap (position_of c.in-Some.name) so_far.contents
    ∙ next_is_new c.args.contents.now c.loop-name.yielded (c.in-Some.name, c.in-Some.body) (into_iter_items c.next.new.self) c.args.cells.items
    (ap (λ (rest : List (List ℕ × CellBody)). c.loop-name.yielded ++ rest) (sym c.in-Some.ensures.steps.0) ∙ so_far.rest) c.requires
