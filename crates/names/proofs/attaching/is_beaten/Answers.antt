use Rattle.names.proofs.Common.{◌≡◌, false, sym, ◌∙◌, ap, Rect, Square, has_square, common_rect, corner_of, touched, stands_earlier}
use Rattle.std.proofs.lemmas.Bool.{not-true}
use Rattle.names.proofs.TakingLaws.{beaten_apart, beaten_later}
use Rattle.names.proofs.attaching.is_beaten.Goals as goal

pub returns-then-not-has_square : goal.returns-then-not-has_square
returns-then-not-has_square c = λ _.
    let common : c.common-common.result ≡ common_rect (touched c.args.label.now.area) c.args.block.now.area = c.common-common.ensures
    ∙ ap (λ (r : Rect). common_rect r c.args.block.now.area) c.touched.ensures in
    beaten_apart c.args.tech.now c.args.label.now c.args.block.now c.args.found
    (sym (ap has_square common) ∙ sym c.has_square.ensures ∙ c.if-not-has_square.true)

pub returns-in-Some : goal.returns-in-Some
returns-in-Some c = λ test.
    let common : c.common-common.result ≡ common_rect (touched c.args.label.now.area) c.args.block.now.area = c.common-common.ensures
    ∙ ap (λ (r : Rect). common_rect r c.args.block.now.area) c.touched.ensures in
    let corner = c.corner.ensures ∙ ap corner_of common in
    let found = c.in-Some.found in
    let plane = c.args.block.now.plane in
    let later : stands_earlier (record { plane = plane; square = corner_of (common_rect (touched c.args.label.now.area) c.args.block.now.area); region = 0 })
    found ≡ false =
    sym (ap (λ (s : Square). stands_earlier (record { plane = plane; square = s; region = 0 }) found) corner) ∙ sym c.stands_earlier.ensures
    ∙ not-true c.stands_earlier.result test in
    rw c.in-Some.is (beaten_later c.args.tech.now c.args.label.now c.args.block.now found 0 c.if-not-block.false later)
