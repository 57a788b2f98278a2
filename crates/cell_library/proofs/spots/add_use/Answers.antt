use Rattle.cell_library.proofs.Common.{◌≡◌, ◌+◌, ◌*◌, ◌≤◌, ℕ, length, sym, subst, ◌∙◌, arith, Elements, MOST_ELEMENTS_BELOW, size_at, displacements}
use Rattle.cell_library.proofs.Common.{UseSearch, spots_at, AddsSpots, IsApart}
use Rattle.cell_library.proofs.RowSpots.{few_displacements, use_added, use_dropped}
use Rattle.cell_library.proofs.VisitLaws.{hull_spans}
use Rattle.cell_library.proofs.spots.add_use.Goals as goal

pub returns-in-None : goal.returns-in-None
returns-in-None c =
    let from = c.args.from.now in
    let used = c.args.used.now in
    use_dropped c.args.tree.now.sizes from.part_step (size_at c.args.tree.now.sizes used.child.0).elements from.outer used from.part from.element
    c.args.back
    c.args.found.now.items (sym c.hull.ensures ∙ c.in-None.is)

pub overflow_cast-search : goal.overflow_cast-search
overflow_cast-search c = omega (arith, c.elements.ensures, c.requires.lawful.sizes.within Elements c.args.used.now.child.0)

pub add_elements-requires : goal.add_elements-requires
add_elements-requires c =
    let size : c.elements.result ≡ (size_at c.args.tree.now.sizes c.args.used.now.child.0).elements = c.elements.ensures in
    record {
      lawful = c.requires.used;
      moves = c.requires.moves;
      few = few_displacements c.args.used.now c.requires.used;
      parts = c.requires.parts;
      elements = subst (λ (n : ℕ). c.args.from.now.element + length (displacements c.args.used.now.grid) * n ≤ MOST_ELEMENTS_BELOW)
          (sym size) c.requires.elements;
      hull = hull_spans c.args.tree.now c.args.used.now.child.0 c.in-Some.hull c.requires.lawful (sym c.hull.ensures ∙ c.in-Some.is);
      back = c.requires.back;
    }

pub returns : goal.returns
returns c =
    let from = c.args.from.now in
    let used = c.args.used.now in
    let sizes = c.args.tree.now.sizes in
    let size : c.elements.result ≡ (size_at sizes used.child.0).elements = c.elements.ensures in
    let search : UseSearch = record {
      used = used;
      outer = from.outer;
      part = from.part;
      part_step = from.part_step;
      element = from.element;
      size = c.elements.result;
      hull = c.in-Some.hull;
      back = c.args.back;
    } in
    subst (λ (n : ℕ). AddsSpots (IsApart sizes from.outer c.args.back) (spots_at from.part_step n from.outer used
    (displacements used.grid) from.part from.element)
    c.args.found.now.items c.add_elements.new.found.items) size
    (use_added sizes search c.args.found.now.items c.add_elements.new.found.items (sym c.hull.ensures ∙ c.in-Some.is) c.in_ok-add_elements.ensures)
