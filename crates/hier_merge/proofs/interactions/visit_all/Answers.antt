use Rattle.hier_merge.proofs.Common.{◌≡◌, ◌+◌, ◌++◌, List, length, pos, ap, subst, ◌∙◌, arith, slice_index_or, Rect, CellTree, PartTile}
use Rattle.hier_merge.proofs.Common.{LibraryParts, seen, tree_at, IsVisit}
use Rattle.hier_merge.proofs.SeamLaws.{next_seams}
use Rattle.hier_merge.proofs.VisitLaws.{before_counted, next_added, next_counted, work_taken}
use Rattle.hier_merge.proofs.interactions.visit_all.Goals as goal

-- what is past the last area
abbrev no_area : Rect
no_area = record { xlo = pos 0; ylo = pos 0; xhi = pos 0; yhi = pos 0 }

pub returns-in_err-found-clause-steps : goal.returns-in_err-found-clause-steps
returns-in_err-found-clause-steps g c = λ work over.
    let library = c.args.library.now in
    before_counted library.tech (tree_at (seen library) c.args.cell.0) c.args.areas.now c.loop-area.area-index c.loop-area.tiles.items c.args.steps.now
    c.loop-area.steps c.visit.new.steps work c.loop-area.invariant.visits c.loop-area.invariant.steps c.in_err-found.ensures.refused over

pub returns-in_err-extend_from_slice-clause-steps : goal.returns-in_err-extend_from_slice-clause-steps
returns-in_err-extend_from_slice-clause-steps g c = λ work over.
    let library = c.args.library.now in
    let tree : CellTree = tree_at (seen library) c.args.cell.0 in
    let found = c.in_ok-found.found.items in
    let visit =
    subst (λ (l : LibraryParts). IsVisit l.tech (tree_at (seen l) c.args.cell.0)
    (slice_index_or c.args.areas.now c.loop-area.area-index no_area) found) c.loop-area.invariant.same
    (record { lists = c.in_ok-found.ensures.tiles; sets = c.in_ok-found.ensures.sets }) in
    next_counted library.tech tree c.args.areas.now c.loop-area.area-index c.loop-area.tiles.items found c.args.steps.now c.loop-area.steps
    c.visit.new.steps work no_area c.loop-area-test.true c.loop-area.invariant.visits c.loop-area.invariant.steps visit c.in_ok-found.ensures.steps over

pub returns-in_err-add_seam-clause-steps : goal.returns-in_err-add_seam-clause-steps
returns-in_err-add_seam-clause-steps g c = λ work over.
    let library = c.args.library.now in
    let tree : CellTree = tree_at (seen library) c.args.cell.0 in
    let found = c.in_ok-found.found.items in
    let visit =
    subst (λ (l : LibraryParts). IsVisit l.tech (tree_at (seen l) c.args.cell.0)
    (slice_index_or c.args.areas.now c.loop-area.area-index no_area) found) c.loop-area.invariant.same
    (record { lists = c.in_ok-found.ensures.tiles; sets = c.in_ok-found.ensures.sets }) in
    next_counted library.tech tree c.args.areas.now c.loop-area.area-index c.loop-area.tiles.items found c.args.steps.now c.loop-area.steps
    c.visit.new.steps work no_area c.loop-area-test.true c.loop-area.invariant.visits c.loop-area.invariant.steps visit c.in_ok-found.ensures.steps over

pub loop-area-preserved : goal.loop-area-preserved
loop-area-preserved g c =
    let library = c.args.library.now in
    let tree : CellTree = tree_at (seen library) c.args.cell.0 in
    let found = c.in_ok-found.found.items in
    let visit =
    subst (λ (l : LibraryParts). IsVisit l.tech (tree_at (seen l) c.args.cell.0)
    (slice_index_or c.args.areas.now c.loop-area.area-index no_area) found) c.loop-area.invariant.same
    (record { lists = c.in_ok-found.ensures.tiles; sets = c.in_ok-found.ensures.sets }) in
    let next =
    next_added library.tech tree c.args.areas.now c.loop-area.area-index c.loop-area.tiles.items found c.extend_from_slice.new.self.items c.args.steps.now
    c.loop-area.steps c.visit.new.steps no_area c.loop-area-test.true c.loop-area.invariant.visits c.loop-area.invariant.steps visit
    (c.in_ok-extend_from_slice.ensures.items ∙ ap (λ (more : List PartTile). c.loop-area.tiles.items ++ more) c.as_slice.ensures.value)
    c.in_ok-found.ensures.steps in
    let added = c.in_ok-extend_from_slice.ensures.items ∙ ap (λ (more : List PartTile). c.loop-area.tiles.items ++ more) c.as_slice.ensures.value in
    let end : c.len.result ≡ length c.extend_from_slice.new.self.items = omega (arith, c.len.ensures, c.extend_from_slice.new.self.ok.0) in
    record {
      same = c.visit.ensures.same ∙ c.loop-area.invariant.same;
      visits = next.0;
      steps = next.1;
      seams = λ pairs.
          next_seams library.tech tree c.args.areas.now c.loop-area.area-index c.loop-area.tiles.items found c.extend_from_slice.new.self.items
          c.loop-area.seams.items c.add_seam.new.seams.items c.len.result no_area pairs c.loop-area-test.true c.loop-area.invariant.visits visit added end
          (c.loop-area.invariant.seams pairs) c.in_ok-add_seam.ensures;
    }

pub returns-clause-steps : goal.returns-clause-steps
returns-clause-steps g c = λ work over.
    let library = c.args.library.now in
    let tree : CellTree = tree_at (seen library) c.args.cell.0 in
    let taken = work_taken library.tech tree c.args.areas.now c.loop-area.area-index c.loop-area.tiles.items work c.loop-area.invariant.visits over in
    let steps : c.loop-area.steps ≡ c.args.steps.now + length c.loop-area.tiles.items = c.loop-area.invariant.steps in
    omega (arith, steps, taken)
