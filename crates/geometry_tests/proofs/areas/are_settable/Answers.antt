use Rattle.std.proofs.Common.{List, ◌∙◌, subst}
use Rattle.std.specs.Prelude.{All, AllPairs}
use Rattle.geo_core.specs.declared.squares.Rect.{Rect}
use Rattle.geo_core.specs.Covering.{IsProper}
use Rattle.geo_core.specs.Areas.{AreDisjoint, IsNear}
use Rattle.geometry_tests.proofs.PieceRects.{All-from_rects, AllPairs-from_rects}
use Rattle.geometry_tests.proofs.areas.are_settable.Goals as goal

pub returns-clause-proper : goal.returns-clause-proper
returns-clause-proper c = λ fit. All-from_rects IsProper c.args.pieces.now
    (subst (λ (rects : List Rect). All IsProper rects) (c.as_slice.ensures.value ∙ c.in_ok-rects.ensures) (c.are_several.ensures.proper fit))

pub returns-clause-near : goal.returns-clause-near
returns-clause-near c = λ fit. All-from_rects IsNear c.args.pieces.now
    (subst (λ (rects : List Rect). All IsNear rects) (c.as_slice.ensures.value ∙ c.in_ok-rects.ensures) (c.are_several.ensures.near fit))

pub returns-clause-apart : goal.returns-clause-apart
returns-clause-apart c = λ fit. AllPairs-from_rects AreDisjoint c.args.pieces.now
    (subst (λ (rects : List Rect). AllPairs AreDisjoint rects) (c.as_slice.ensures.value ∙ c.in_ok-rects.ensures) (c.are_several.ensures.apart fit))
