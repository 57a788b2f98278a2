use Rattle.cell_loading.proofs.Common.{◌∙◌, ℕ, List, [], ◌∷◌, sym, ap, arith, None, StopsAsking, after_fetches, CellBody, seen, cell_files}
use Rattle.cell_loading.proofs.Common.{files_read, names_left}
use Rattle.session_model.specs.steps.Stops.{kinds_of_told}
use Rattle.session_model.proofs.FetchLaws.{calm_from, calm_then}
use Rattle.session_model.proofs.FileTreeLaws.{stops_asking_later}
use Rattle.session_model.proofs.StopLaws.{refusal_weaker}
use Rattle.cell_loading.specs.Loads.{cause_of_load}
use Rattle.cell_loading.proofs.ReadingLaws.{files_same, goes_on_then}
use Rattle.cell_loading.proofs.WalkLaws.{all_are_read, all_came, none_left, so_far_at_root}
use Rattle.cell_loading.proofs.loading.read_below.Goals as goal

pub read-requires-clause-so_far : goal.read-requires-clause-so_far
read-requires-clause-so_far g c =
    so_far_at_root c.args.library.now c.args.root.now c.lawful.ensures c.requires.root c.new-walk.result.cells c.new-walk.result.frames.items
    c.in_ok-name.name
    c.new-walk.ensures.cells c.new-walk.ensures.frames c.in_ok-name.ensures

pub steps-preserved : goal.steps-preserved
steps-preserved g c = record {
  so_far = c.in_default-step.ensures.so_far;
  frames = c.in_default-step.ensures.frames;
  some = omega (arith, c.steps.invariant.some, c.in_default-step.ensures.kept);
  calm = calm_then g.F.Shelf c.args.shelf.now c.steps.shelf c.step.new.shelf c.steps.invariant.calm
      (calm_from g.F.Shelf c.steps.shelf c.step.new.shelf (kinds_of_told cause_of_load) None c.in_default-step.ensures.causes);
  files = c.step.ensures.files ∙ c.steps.invariant.files;
  asked = c.in_default-step.ensures.asked (g.F.Shelf.fetch_plan c.args.shelf.now) c.steps.invariant.asked;
  goes_on = λ files told.
      let here = c.steps.invariant.goes_on files told in
      goes_on_then files (seen c.args.library.now) [] (c.args.root.now ∷ []) (names_left c.steps.walk.cells c.steps.walk.frames.items)
      (names_left c.step.new.self.cells c.step.new.self.frames.items) c.steps.walk.cells c.step.new.self.cells here
      (c.in_default-step.ensures.goes_on files here.read_after (c.steps.invariant.files ∙ told) here.are_bodies);
}

pub returns-in-Err-step-clause-refused : goal.returns-in-Err-step-clause-refused
returns-in-Err-step-clause-refused g c files told =
    let view = seen c.args.library.now in
    let here = c.steps.invariant.goes_on files told in
    let left = names_left c.steps.walk.cells c.steps.walk.frames.items in
    let old = g.F.Shelf.fetch_plan c.args.shelf.now in
    let middle = g.F.Shelf.fetch_plan c.steps.shelf in
    let new = g.F.Shelf.fetch_plan c.step.new.shelf in
    let files_are = files_same view here.read_after c.steps.walk.cells here.are_bodies in
    refusal_weaker c.in-Err-step.stop (StopsAsking (cell_files view) files here.read_after left middle new)
    (StopsAsking (cell_files view) files [] (c.args.root.now ∷ []) old new)
    (λ fault stops. stops_asking_later (cell_files view) files [] here.read_after (c.args.root.now ∷ []) left old middle new fault here.leads
    (λ first asked. c.steps.invariant.asked ∙ (λ i. after_fetches (asked i) (sym files_are i))) stops)
    (c.in-Err-step.ensures.stops files here.read_after (c.steps.invariant.files ∙ told) here.are_bodies)

pub returns-clause-asked : goal.returns-clause-asked
returns-clause-asked g c =
    c.steps.invariant.asked ∙ ap (λ (cells : List (List ℕ × CellBody)). after_fetches (g.F.Shelf.fetch_plan c.args.shelf.now) (files_read cells))
    (sym c.into_vec.ensures)

pub returns-clause-read : goal.returns-clause-read
returns-clause-read g c files told =
    all_are_read files (seen c.args.library.now) c.args.root.now c.steps.walk.cells c.into_vec.result.items
    (names_left c.steps.walk.cells c.steps.walk.frames.items)
    (none_left c.steps.walk.cells c.steps.walk.frames.items _ c.is_empty.result c.is_empty.ensures c.steps-test.false c.steps.walk.frames.ok.0)
    c.into_vec.ensures (c.steps.invariant.goes_on files told)

pub returns-clause-addable : goal.returns-clause-addable
returns-clause-addable g c =
    all_came (seen c.args.library.now) c.steps.walk.cells c.into_vec.result.items (names_left c.steps.walk.cells c.steps.walk.frames.items)
    (none_left c.steps.walk.cells c.steps.walk.frames.items _ c.is_empty.result c.is_empty.ensures c.steps-test.false c.steps.walk.frames.ok.0)
    c.into_vec.ensures c.steps.invariant.so_far c.steps.invariant.some
