-- What of a set lies in no box inside it is too narrow.
use Rattle.square_sets.proofs.Common.{◌≡◌, List, w64, to_z, of_z, sym, subst, rules, to_z-of_z, All, IfOk-weaker, Rect, IsInUnion, IsStrips}
use Rattle.square_sets.proofs.Common.{strips_same, SET_EDGE, LiesInBox, IsInFirstAlone, IsBounded}
use Rattle.square_sets.specs.Boxes.{IsTooNarrow}
use Rattle.square_sets.proofs.BoxLaws.{narrow_same}
use Rattle.square_sets.proofs.ErosionLaws.{strips_again, strips_cover, strips_within}
use Rattle.square_sets.proofs.checks.narrow.Goals as goal

pub opening-requires-clause-strips : goal.opening-requires-clause-strips
opening-requires-clause-strips c =
    subst (λ (v : List Rect). IsStrips (IsInUnion v) v) (sym c.as_slice.ensures.value)
    (strips_again (IsInUnion c.args.set.now) c.in_ok-whole.whole.items c.in_ok-whole.ensures)

pub opening-requires-clause-bounded : goal.opening-requires-clause-bounded
opening-requires-clause-bounded c =
    subst (All (IsBounded SET_EDGE)) (sym c.as_slice.ensures.value)
    (strips_within c.args.set.now c.in_ok-whole.whole.items _ c.requires.bounded c.in_ok-whole.ensures)

pub returns : goal.returns
returns c =
    let S = IsInUnion c.args.set.now in
    let d = c.args.d in
    let fits : to_z w64 (of_z w64 d) ≡ d = to_z-of_z w64 d (search rules) in
    let whole = c.in_ok-whole.whole.items in
    let boxes = c.in_ok-boxes.boxes.items in
    let opened = (strips_cover (LiesInBox (IsInUnion whole) d) boxes (rw (fits, c.as_slice.ensures.value) at c.in_ok-boxes.ensures)).1 in
    let narrow = narrow_same (IsInUnion whole) S d (strips_cover S whole c.in_ok-whole.ensures).1 in
    IfOk-weaker c.difference.result _ (λ found. IsStrips (IsTooNarrow S d) found.items)
    (λ found. strips_same (IsInFirstAlone whole boxes) (IsTooNarrow S d)
    (λ square a. narrow.to square (a.0, λ box. a.1 (opened.back square box)))
    (λ square n. let inside = narrow.back square n in (inside.0, λ u. inside.1 (opened.to square u))) found.items)
    (rw (c.as_slice-2.ensures.value, c.as_slice-3.ensures.value) at c.difference.ensures)
