-- The runs of what the rectangles cover make its strips.
use Rattle.std.proofs.lemmas.Result.{IfOk-weaker}
use Rattle.geo_strips.proofs.Common.{AreStripsOf, IsInUnion, IsStrips}
use Rattle.geo_strips.proofs.StripListLaws.{strips_of_bars}
use Rattle.geo_strips.proofs.strip_lists.strips.Goals as goal

pub returns : goal.returns
returns c =
    let union = IsInUnion c.args.rects.now in
    let runs = c.in_ok-runs.runs.items in
    IfOk-weaker c.strips_of_runs.result (λ found. AreStripsOf runs found.items) (λ found. IsStrips union found.items)
    (λ found are. strips_of_bars union runs found.items c.in_ok-runs.ensures are) c.strips_of_runs.ensures
