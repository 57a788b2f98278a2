-- The runs of what two of the grown boxes cover make its strips.
use Rattle.interact.proofs.Common.{List, ◌∙◌, subst, All, Rect, widened, LiesWithin, IsInTwo, AreRunBars, IsShared}
use Rattle.std.proofs.lemmas.Result.{IfOk-weaker}
use Rattle.geo_strips.specs.Bars.{AreStripsOf}
use Rattle.geo_core.specs.Strips.{IsStrips}
use Rattle.geo_strips.proofs.StripListLaws.{strips_of_bars}
use Rattle.interact.proofs.Sharings.{strips_lie_within}
use Rattle.interact.proofs.sharing.areas.Goals as goal

pub returns-clause-strips : goal.returns-clause-strips
returns-clause-strips c =
    let boxes = c.args.boxes.now in
    let bars = c.in_ok-runs.runs.items in
    let grown = c.as_slice.ensures.value ∙ c.in_ok-widened.ensures in
    let runs = subst (λ (rects : List Rect). AreRunBars (IsInTwo rects) bars) grown c.in_ok-runs.ensures in
    IfOk-weaker c.strips_of_runs.result (λ found. AreStripsOf bars found.items) (λ found. IsStrips (IsShared boxes) found.items)
    (λ found made. strips_of_bars (IsShared boxes) bars found.items runs made) c.strips_of_runs.ensures

pub returns-clause-within : goal.returns-clause-within
returns-clause-within c =
    let boxes = c.args.boxes.now in
    IfOk-weaker c.strips_of_runs.result (λ found. IsStrips (IsShared boxes) found.items)
    (λ found. (around : Rect) → All (λ area. LiesWithin (widened area) around) boxes → All (λ area. LiesWithin area around) found.items)
    (λ found strips around all. strips_lie_within boxes found.items around strips all) (returns-clause-strips c)
