use Rattle.tech_draft.proofs.Common.{sym, ◌∙◌, ◌<◌, ap, ℕ, arith, length, rules}
use Rattle.std.specs.Prelude.{◌==◌}
use borrow.Author.Tests.{ltb-true}
use Rattle.tech_draft.proofs.WordLaws.{ends_in_hash-last}
use Rattle.tech_draft.proofs.words.ends_in_hash.Goals as goal

pub returns-in-Some : goal.returns-in-Some
returns-in-Some c =
    let i = c.in-Some.ensures.item in
    let some : 0 < length c.args.text.now = search (rules, ltb-true) in
    ap (λ (byte : ℕ). byte == 35) i.1 ∙ sym (ends_in_hash-last c.args.text.now _ c.in-Some.field-0.now (omega arith))
