use Rattle.cell_library.proofs.Common.{◌+◌, ◌*◌, ◌≤◌, [], ◌∷◌, ◌++◌, length, subst, sym, ap, ◌∙◌, arith, MOST_ELEMENTS_BELOW, size_at, displacements}
use Rattle.cell_library.proofs.Common.{Rect, UseStart}
use Rattle.cell_library.proofs.UseSums.{use_ends, use_known}
use Rattle.cell_library.proofs.UseTreeLaws.{first_more}
use Rattle.cell_library.proofs.use_trees.UseTree.of.Goals as goal

pub box_of-requires : goal.box_of-requires
box_of-requires c =
    let at = use_known _ _ c.loop-k.k c.use_of-used.result.now c.requires.lawful c.requires.cell c.use_of-used.ensures in
    record { lawful = c.requires.lawful; child = at.child; used = at.lawful }

pub behind-start-requires : goal.behind-start-requires
behind-start-requires c =
    let tree = c.args.tree.now in
    let used = c.use_of-used.result.now in
    let at = use_known tree c.args.cell.0 c.loop-k.k used c.requires.lawful c.requires.cell c.use_of-used.ensures in
    let ends = use_ends tree c.args.cell.0 c.loop-k.k used c.requires.lawful c.requires.cell at in
    record {
      lawful = c.requires.lawful;
      child = at.child;
      used = at.lawful;
      elements = subst (λ (start : UseStart). start.elements + length (displacements used.grid) ≤ MOST_ELEMENTS_BELOW)
          (sym c.loop-k.invariant.start_is) ends.elements;
      standing = subst (λ (start : UseStart). start.standing + length (displacements used.grid) * (size_at tree.sizes used.child.0).elements
          ≤ MOST_ELEMENTS_BELOW) (sym c.loop-k.invariant.start_is) ends.standing;
    }

pub loop-k-preserved : goal.loop-k-preserved
loop-k-preserved c =
    let used = c.use_of-used.result.now in
    let at = use_known c.args.tree.now c.args.cell.0 c.loop-k.k used c.requires.lawful c.requires.cell c.use_of-used.ensures in
    first_more c.args.tree.now c.args.cell.0 c.loop-k.k (c.loop-k.k + 1) used c.loop-k.boxes.items c.push.new.self.items c.loop-k.starts.items
    c.push-in-loop-k.new.self.items c.loop-k.start c.behind-start.result c.loop-k.invariant at (omega arith)
    (c.in_ok-push.ensures.items ∙ ap (λ (box : Rect). c.loop-k.boxes.items ++ box ∷ []) c.box_of.ensures)
    c.in_ok-push-2.ensures.items c.behind-start.ensures
