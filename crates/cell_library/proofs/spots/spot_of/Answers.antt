use Rattle.cell_library.proofs.Common.{◌≡◌, ◌+◌, ◌*◌, ◌≤◌, ℕ, ℤ, length, sym, ap, subst, ◌∙◌, arith, Some, slice_get, slice_get_within}
use Rattle.cell_library.proofs.Common.{mul-le-mul_right, R0, Transform, composed, MovesInReach, transform_of, MOST_ELEMENTS_BELOW, displacements}
use Rattle.cell_library.proofs.Common.{UseSearch, element_transform, HasRoomFor}
use Rattle.cell_library.proofs.GridSpots.{element_moves, little_in_reach, step_in_reach, step_small}
use Rattle.cell_library.proofs.RowSpots.{kept, kept_step}
use Rattle.cell_library.proofs.spots.spot_of.Goals as goal

-- What is known of an element of a use that is looked for.
record Stands (from : UseSearch) (k : ℕ) (step : ℤ × ℤ) : Type 0 where
  kept_is : transform_of R0 (kept step.0) (kept step.1) ≡ transform_of R0 step.0 step.1
  first : MovesInReach (transform_of R0 step.0 step.1)
  placed : MovesInReach (element_transform from.used.placed step)
  part : from.part + k * from.part_step ≤ MOST_ELEMENTS_BELOW
  element : from.element + k * from.size ≤ MOST_ELEMENTS_BELOW

stands : (from : UseSearch) (k : ℕ) (step : ℤ × ℤ) → HasRoomFor from → slice_get (displacements from.used.grid) k ≡ Some step → Stands from k step
stands from k step room is =
    let small = step_small from.used.grid k step room.lawful.grid is in
    let keeps = kept_step step small in
    let below = slice_get_within (displacements from.used.grid) k step is in
    let less : k ≤ length (displacements from.used.grid) = omega (arith, below) in
    record {
      kept_is = λ i. transform_of R0 (keeps.0 i) (keeps.1 i);
      first = step_in_reach step small;
      placed = little_in_reach (element_transform from.used.placed step) (element_moves from.used k step room.lawful is);
      part = omega (arith, mul-le-mul_right from.part_step less, room.parts);
      element = omega (arith, mul-le-mul_right from.size less, room.elements);
    }

-- the transform of the element, where its displacement came through 64 bits
placed_is : (from : UseSearch) (k : ℕ) (step : ℤ × ℤ) (placed : Transform) → Stands from k step
    → placed ≡ composed (transform_of R0 (kept step.0) (kept step.1)) from.used.placed → placed ≡ element_transform from.used.placed step
placed_is from k step placed at is = is ∙ ap (λ (t : Transform). composed t from.used.placed) at.kept_is

pub overflow_cast-k : goal.overflow_cast-k
overflow_cast-k c = omega (arith, slice_get_within _ c.args.k _ c.requires.stands, c.requires.room.few)

pub then-requires-clause-inner_move : goal.then-requires-clause-inner_move
then-requires-clause-inner_move c =
    let at = stands c.args.from.now c.args.k (c.args.dx, c.args.dy) c.requires.room c.requires.stands in
    subst MovesInReach (sym at.kept_is) at.first

pub then-requires-2-clause-inner_move : goal.then-requires-2-clause-inner_move
then-requires-2-clause-inner_move c =
    let at = stands c.args.from.now c.args.k (c.args.dx, c.args.dy) c.requires.room c.requires.stands in
    subst MovesInReach (sym (placed_is _ _ _ c.then.result at c.then.ensures.value)) at.placed

pub overflow_mul-result : goal.overflow_mul-result
overflow_mul-result c = omega (arith, (stands _ c.args.k _ c.requires.room c.requires.stands).part)

pub overflow_add-result : goal.overflow_add-result
overflow_add-result c = omega (arith, (stands _ c.args.k _ c.requires.room c.requires.stands).part)

pub overflow_mul-result-2 : goal.overflow_mul-result-2
overflow_mul-result-2 c = omega (arith, (stands _ c.args.k _ c.requires.room c.requires.stands).element)

pub overflow_add-result-2 : goal.overflow_add-result-2
overflow_add-result-2 c = omega (arith, (stands _ c.args.k _ c.requires.room c.requires.stands).element)

pub returns : goal.returns
returns c =
    let step : ℤ × ℤ = (c.args.dx, c.args.dy) in
    let at = stands c.args.from.now c.args.k step c.requires.room c.requires.stands in
    let whole : c.then-2.result ≡ composed (element_transform c.args.from.now.used.placed step) c.args.from.now.outer =
    c.then-2.ensures.value ∙ ap (λ (t : Transform). composed t c.args.from.now.outer) (placed_is _ _ _ c.then.result at c.then.ensures.value) in
    λ i. record {
      cell = c.args.from.now.used.child;
      to_top = whole i;
      part = c.args.from.now.part + c.args.k * c.args.from.now.part_step;
      element = c.args.from.now.element + c.args.k * c.args.from.now.size;
    }
