use Rattle.drc_check.proofs.Common.{◌≡◌, ℤ, List, sym, ap, subst, ◌∙◌, rules, of_z, to_z, to_z-of_z, All, IfOk, Rect, IsProper, IsInUnion, IsStrips}
use Rattle.drc_check.proofs.Common.{SET_EDGE, IsBounded, TypeId, RuleKind, areas_of_list, ViolatesBy}
use mir.Syntax.{w64}
use mir.Val.{SFits}
use Rattle.square_sets.specs.Boxes.{IsTooNarrow, IsTooNear, IsTooTight}
use Rattle.drc_check.proofs.AreaLaws.{areas_bounded, areas_proper}
use Rattle.drc_check.proofs.checking.strips_of.Goals as goal

pub narrow-requires-clause-bounded : goal.narrow-requires-clause-bounded
narrow-requires-clause-bounded c =
    let rule = c.args.rule.now in
    let pieces = c.args.pieces.now in
    let is : c.as_slice.result.now ≡ areas_of_list rule.first_plane rule.first pieces =
    c.as_slice.ensures.value ∙ c.in_ok-first.ensures ∙ ap (λ (kinds : List TypeId). areas_of_list rule.first_plane kinds pieces) c.items.ensures in
    subst (All (IsBounded SET_EDGE)) (sym is) (areas_bounded pieces c.requires.sound rule.first_plane rule.first)

pub returns-in-Width : goal.returns-in-Width
returns-in-Width c =
    let rule = c.args.rule.now in
    let fits : SFits w64 rule.d = search rules in
    let same : to_z w64 (of_z w64 rule.d) ≡ rule.d = to_z-of_z w64 rule.d fits in
    let pieces = c.args.pieces.now in
    let first = areas_of_list rule.first_plane rule.first pieces in
    let second = areas_of_list rule.second_plane rule.second pieces in
    let is : c.as_slice.result.now ≡ first =
    c.as_slice.ensures.value ∙ c.in_ok-first.ensures ∙ ap (λ (kinds : List TypeId). areas_of_list rule.first_plane kinds pieces) c.items.ensures in
    subst (λ (kind : RuleKind). IfOk c.narrow.result (λ found. IsStrips (ViolatesBy kind (IsInUnion first) (IsInUnion second) rule.d) found.items))
    (sym c.in-Width.is)
    (subst (λ (areas : List Rect). IfOk c.narrow.result (λ found. IsStrips (IsTooNarrow (IsInUnion areas) rule.d) found.items)) is
    (subst (λ (d : ℤ). IfOk c.narrow.result (λ found. IsStrips (IsTooNarrow (IsInUnion c.as_slice.result.now) d) found.items)) same c.narrow.ensures))

pub tight-requires-clause-proper : goal.tight-requires-clause-proper
tight-requires-clause-proper c =
    let rule = c.args.rule.now in
    let pieces = c.args.pieces.now in
    let is : c.as_slice-in-Spacing.result.now ≡ areas_of_list rule.first_plane rule.first pieces =
    c.as_slice-in-Spacing.ensures.value ∙ c.in_ok-first.ensures
    ∙ ap (λ (kinds : List TypeId). areas_of_list rule.first_plane kinds pieces) c.items.ensures in
    subst (All IsProper) (sym is) (areas_proper pieces c.requires.sound rule.first_plane rule.first)

pub tight-requires-clause-bounded : goal.tight-requires-clause-bounded
tight-requires-clause-bounded c =
    let rule = c.args.rule.now in
    let pieces = c.args.pieces.now in
    let is : c.as_slice-in-Spacing.result.now ≡ areas_of_list rule.first_plane rule.first pieces =
    c.as_slice-in-Spacing.ensures.value ∙ c.in_ok-first.ensures
    ∙ ap (λ (kinds : List TypeId). areas_of_list rule.first_plane kinds pieces) c.items.ensures in
    subst (All (IsBounded SET_EDGE)) (sym is) (areas_bounded pieces c.requires.sound rule.first_plane rule.first)

pub returns-in-Spacing : goal.returns-in-Spacing
returns-in-Spacing c =
    let rule = c.args.rule.now in
    let fits : SFits w64 rule.d = search rules in
    let same : to_z w64 (of_z w64 rule.d) ≡ rule.d = to_z-of_z w64 rule.d fits in
    let pieces = c.args.pieces.now in
    let first = areas_of_list rule.first_plane rule.first pieces in
    let second = areas_of_list rule.second_plane rule.second pieces in
    let is : c.as_slice-in-Spacing.result.now ≡ first =
    c.as_slice-in-Spacing.ensures.value ∙ c.in_ok-first.ensures
    ∙ ap (λ (kinds : List TypeId). areas_of_list rule.first_plane kinds pieces) c.items.ensures in
    subst (λ (kind : RuleKind). IfOk c.tight.result (λ found. IsStrips (ViolatesBy kind (IsInUnion first) (IsInUnion second) rule.d) found.items))
    (sym c.in-Spacing.is)
    (subst (λ (areas : List Rect). IfOk c.tight.result (λ found. IsStrips (IsTooTight (IsInUnion areas) rule.d) found.items)) is
    (subst (λ (d : ℤ). IfOk c.tight.result (λ found. IsStrips (IsTooTight (IsInUnion c.as_slice-in-Spacing.result.now) d) found.items)) same c.tight.ensures))

pub near-requires-clause-proper : goal.near-requires-clause-proper
near-requires-clause-proper c =
    let rule = c.args.rule.now in
    let pieces = c.args.pieces.now in
    let is : c.as_slice-in-Separation-2.result.now ≡ areas_of_list rule.second_plane rule.second pieces =
    c.as_slice-in-Separation-2.ensures.value ∙ c.in_ok-second-in-Separation.ensures
    ∙ ap (λ (kinds : List TypeId). areas_of_list rule.second_plane kinds pieces) c.items-in-Separation.ensures in
    subst (All IsProper) (sym is) (areas_proper pieces c.requires.sound rule.second_plane rule.second)

pub near-requires-clause-bounded : goal.near-requires-clause-bounded
near-requires-clause-bounded c =
    let rule = c.args.rule.now in
    let pieces = c.args.pieces.now in
    let is : c.as_slice-in-Separation-2.result.now ≡ areas_of_list rule.second_plane rule.second pieces =
    c.as_slice-in-Separation-2.ensures.value ∙ c.in_ok-second-in-Separation.ensures
    ∙ ap (λ (kinds : List TypeId). areas_of_list rule.second_plane kinds pieces) c.items-in-Separation.ensures in
    subst (All (IsBounded SET_EDGE)) (sym is) (areas_bounded pieces c.requires.sound rule.second_plane rule.second)

pub returns : goal.returns
returns c =
    let rule = c.args.rule.now in
    let fits : SFits w64 rule.d = search rules in
    let same : to_z w64 (of_z w64 rule.d) ≡ rule.d = to_z-of_z w64 rule.d fits in
    let pieces = c.args.pieces.now in
    let first = areas_of_list rule.first_plane rule.first pieces in
    let second = areas_of_list rule.second_plane rule.second pieces in
    let is : c.as_slice-in-Separation.result.now ≡ first =
    c.as_slice-in-Separation.ensures.value ∙ c.in_ok-first.ensures
    ∙ ap (λ (kinds : List TypeId). areas_of_list rule.first_plane kinds pieces) c.items.ensures in
    let is' : c.as_slice-in-Separation-2.result.now ≡ second =
    c.as_slice-in-Separation-2.ensures.value ∙ c.in_ok-second-in-Separation.ensures
    ∙ ap (λ (kinds : List TypeId). areas_of_list rule.second_plane kinds pieces) c.items-in-Separation.ensures in
    subst (λ (kind : RuleKind). IfOk c.near.result (λ found. IsStrips (ViolatesBy kind (IsInUnion first) (IsInUnion second) rule.d) found.items))
    (sym c.in-Separation.is)
    (subst (λ (areas : List Rect). IfOk c.near.result (λ found. IsStrips (IsTooNear (IsInUnion areas) (IsInUnion second) rule.d) found.items)) is
    (subst (λ (areas : List Rect). IfOk c.near.result
    (λ found. IsStrips (IsTooNear (IsInUnion c.as_slice-in-Separation.result.now) (IsInUnion areas) rule.d) found.items)) is'
    (subst (λ (d : ℤ). IfOk c.near.result
    (λ found. IsStrips (IsTooNear (IsInUnion c.as_slice-in-Separation.result.now) (IsInUnion c.as_slice-in-Separation-2.result.now) d) found.items)) same
    c.near.ensures)))
