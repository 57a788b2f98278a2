use Rattle.cell_library.proofs.Common.{◌≡◌, ◌+◌, suc, length, sym, subst, ◌∙◌, arith, parts_in, LibraryParts, seen, element_count, view_at}
use Rattle.cell_library.specs.LayoutTrees.{tree_at}
use Rattle.cell_library.proofs.ElementCounts.{part_count}
use Rattle.cell_library.proofs.reader.Reader.part_count.Goals as goal

pub returns : goal.returns
unfolding tree_at
returns c =
    let library : LibraryParts = c.self.inside.library.now in
    let one_more : 1 + c.element_count.result ≡ suc (element_count (view_at (seen library) c.args.cell.0).uses) =
    omega (arith, c.element_count.ensures.count) in
    subst (λ (l : LibraryParts). 1 + c.element_count.result ≡ length (parts_in l.tech (tree_at (seen l) c.args.cell.0))) c.self.view_is
    (one_more ∙ sym (part_count library.tech (seen library) 63 c.args.cell.0))
