use Rattle.std.proofs.Common.{◌≡◌, ◌↔◌, ℤ, IsTrue, rules, sym, subst, ◌∙◌}
use Rattle.std.specs.Int.{w32, w64}
use Rattle.std.specs.Int.RustNames.{FitsSigned}
use Rattle.std.proofs.lemmas.Int.{to_z-of_z}
use Rattle.text_scan.specs.Decimal.{decimal}
use Rattle.merge_rows.proofs.IndexedPaths.{index_read, index_refused}
use Rattle.merge_rows.proofs.paths.is_index.Goals as goal

pub returns-in-Ok : goal.returns-in-Ok
returns-in-Ok c =
    let z = c.in-Ok.index in
    let word = c.args.word.now in
    let fits : FitsSigned w64 z = search rules in
    let test =
    subst (λ (y : ℤ). IsTrue c.is_text_of_index.result ↔ (FitsSigned w32 y × (word ≡ decimal y))) (to_z-of_z w64 z fits) c.is_text_of_index.ensures in
    let read = index_read word z (sym c.number.ensures ∙ c.in-Ok.is) in
    (λ yes. read.0 (test.0 yes), λ is. test.1 (read.1 is))

pub returns-in-Err : goal.returns-in-Err
returns-in-Err c = (λ yes. cc, λ is. absurd (index_refused c.args.word.now c.in-Err.field-0 (sym c.number.ensures ∙ c.in-Err.is) is))
