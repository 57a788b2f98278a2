use Rattle.cell_paint.proofs.Common.{◌≡◌, ◌∙◌, true, List, sym, ap, subst, rules, Vec, Global, Square, Rect, Piece, Covers, TypeId}
use Rattle.cell_paint.proofs.Common.{with_columns_where, is_in_some, paint_range, layout_on, AreSettable, AreAllSet}
use Rattle.tech_model.specs.Columns.{brushed_column}
use Rattle.cell_paint.proofs.AreaLaws.{fitting_covered}
use Rattle.cell_paint.proofs.PaintLaws.{whole_same, all_settable, changed_alike, stroke_done}
use Rattle.cell_paint.proofs.paints.change_planes.Goals as goal

pub reserve_all-requires-clause-settable : goal.reserve_all-requires-clause-settable
reserve_all-requires-clause-settable c =
    let stroke = c.args.stroke.now in
    let old = layout_on c.args.planes.now in
    subst (λ (changes : List (Vec Piece Global)). AreSettable changes) (sym c.as_slice-2.ensures.value)
    (all_settable old (with_columns_where (brushed_column stroke.tech.now stroke.brush stroke.layer.0) (is_in_some c.as_slice.result.now) old)
    c.in_ok-changes.changes.items
    c.in_ok-changes.ensures.changes)

pub returns-in_err-reserve_all-clause-whole : goal.returns-in_err-reserve_all-clause-whole
returns-in_err-reserve_all-clause-whole c =
    whole_same c.args.stroke.now.tech.now.types c.args.planes.now c.reserve_all.new.planes (search rules) c.reserve_all.ensures.same c.requires.whole

pub commit_all-requires-clause-settable : goal.commit_all-requires-clause-settable
commit_all-requires-clause-settable c =
    let stroke = c.args.stroke.now in
    let old = layout_on c.args.planes.now in
    subst (λ (changes : List (Vec Piece Global)). AreSettable changes) (sym c.as_slice-3.ensures.value)
    (all_settable old (with_columns_where (brushed_column stroke.tech.now stroke.brush stroke.layer.0) (is_in_some c.as_slice.result.now) old)
    c.in_ok-changes.changes.items
    c.in_ok-changes.ensures.changes)

-- the strips cover what the areas cover
strips_same : (areas strips found : List Rect) → found ≡ strips → ((square : Square) → is_in_some strips square ≡ is_in_some areas square)
    → (square : Square) → is_in_some found square ≡ is_in_some areas square
strips_same areas strips found is same square = ap (λ (list : List Rect). is_in_some list square) is ∙ same square

pub returns-clause-changed : goal.returns-clause-changed
returns-clause-changed c =
    let stroke = c.args.stroke.now in
    let change : List TypeId → List TypeId = brushed_column stroke.tech.now stroke.brush stroke.layer.0 in
    let changes = c.in_ok-changes.changes in
    let cover = strips_same c.args.areas.now c.in_ok-apart.apart.items c.as_slice.result.now c.as_slice.ensures.value c.in_ok-apart.ensures.same in
    let within : (square : Square) → is_in_some c.as_slice.result.now square ≡ true → Covers paint_range square =
    λ square is. fitting_covered c.args.areas.now square c.requires.fits (sym (cover square) ∙ is) in
    let done = stroke_done stroke.brush stroke.tech.now stroke.layer.0 (is_in_some c.as_slice.result.now) c.args.planes.now c.reserve_all.new.planes
    c.commit_all.new.planes changes.items c.raw.ensures.well_formed c.requires.layer c.requires.whole within
    (sym changes.ok.0 ∙ c.in_ok-changes.ensures.one_each)
    c.in_ok-changes.ensures.changes (search rules) c.reserve_all.ensures.same
    (subst (λ (set : List (Vec Piece Global)). AreAllSet c.reserve_all.new.planes c.commit_all.new.planes set) c.as_slice-3.ensures.value
    c.commit_all.ensures) in
    λ place. done.0 place ∙ changed_alike change (is_in_some c.as_slice.result.now) (is_in_some c.args.areas.now) (layout_on c.args.planes.now) cover place

pub returns-clause-whole : goal.returns-clause-whole
returns-clause-whole c =
    let stroke = c.args.stroke.now in
    let changes = c.in_ok-changes.changes in
    let cover = strips_same c.args.areas.now c.in_ok-apart.apart.items c.as_slice.result.now c.as_slice.ensures.value c.in_ok-apart.ensures.same in
    let within : (square : Square) → is_in_some c.as_slice.result.now square ≡ true → Covers paint_range square =
    λ square is. fitting_covered c.args.areas.now square c.requires.fits (sym (cover square) ∙ is) in
    (stroke_done stroke.brush stroke.tech.now stroke.layer.0 (is_in_some c.as_slice.result.now) c.args.planes.now c.reserve_all.new.planes
    c.commit_all.new.planes changes.items c.raw.ensures.well_formed c.requires.layer c.requires.whole within
    (sym changes.ok.0 ∙ c.in_ok-changes.ensures.one_each)
    c.in_ok-changes.ensures.changes (search rules) c.reserve_all.ensures.same
    (subst (λ (set : List (Vec Piece Global)). AreAllSet c.reserve_all.new.planes c.commit_all.new.planes set) c.as_slice-3.ensures.value
    c.commit_all.ensures)).1
