use Rattle.std.proofs.Common.{◌≡◌, ◌∙◌, ◌++◌, ℕ, ℤ, List, ap, codes, of_z, rules, to_z, w64}
use Rattle.std.proofs.lemmas.Result.{IfOk-weaker}
use Rattle.text_scan.specs.Decimal.{decimal}
use Rattle.line_answers.proofs.TextLaws.{four_numbers}
use Rattle.line_answers.proofs.texts.append_bounds.Goals as goal

-- a number is written as it is passed
as_passed : (text written : List ℕ) (passed number : ℤ) → passed ≡ number → written ≡ text ++ (codes " " ++ decimal passed)
    → written ≡ text ++ (codes " " ++ decimal number)
as_passed text written passed number same is = is ∙ ap (λ (z : ℤ). text ++ (codes " " ++ decimal z)) same

pub returns : goal.returns
returns c =
    let area = c.args.area.now in
    let text = c.args.text.now.items in
    let one = c.append_number.new.text.items in
    let two = c.append_number-2.new.text.items in
    let three = c.append_number-3.new.text.items in
    let xlo : to_z w64 (of_z w64 area.xlo) ≡ area.xlo = search rules in
    let ylo : to_z w64 (of_z w64 area.ylo) ≡ area.ylo = search rules in
    let xhi : to_z w64 (of_z w64 area.xhi) ≡ area.xhi = search rules in
    let yhi : to_z w64 (of_z w64 area.yhi) ≡ area.yhi = search rules in
    IfOk-weaker c.append_number-4.result _ _
    (λ _ is. four_numbers (codes " ") text (decimal area.xlo) (decimal area.ylo) (decimal area.xhi) (decimal area.yhi)
    one two three c.append_number-4.new.text.items
    (as_passed text one _ _ xlo c.in_ok-append_number.ensures)
    (as_passed one two _ _ ylo c.in_ok-append_number-2.ensures)
    (as_passed two three _ _ xhi c.in_ok-append_number-3.ensures)
    (as_passed three c.append_number-4.new.text.items _ _ yhi is))
    c.append_number-4.ensures
