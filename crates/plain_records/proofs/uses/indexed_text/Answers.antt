use Rattle.plain_records.proofs.Common.{◌≡◌, ℕ, ℤ, List, [], ◌∷◌, ◌++◌, to_z, of_z, w64, ap, ◌∙◌, arith, rules, ints, to_z-of_z}
use Rattle.std.specs.Int.{w128}
use Rattle.std.specs.Int.RustNames.{FitsSigned}
use Rattle.std.proofs.lemmas.List.{append_assoc}
use Rattle.text_scan.specs.Decimal.{decimal}
use Rattle.plain_records.proofs.uses.indexed_text.Goals as goal

-- the parts one after another
joined : (id first second : List ℕ)
    → ((((id ++ 91 ∷ []) ++ first) ++ 44 ∷ []) ++ second) ++ 93 ∷ [] ≡ id ++ 91 ∷ (first ++ 44 ∷ (second ++ 93 ∷ []))
joined id first second = simp append_assoc

-- an index stays the same in more bits
widened : (z : ℤ) → FitsSigned w64 z → to_z w128 (of_z w128 (to_z w64 (of_z w64 z))) ≡ z
widened z fits =
    ap (λ (y : ℤ). to_z w128 (of_z w128 y)) (to_z-of_z w64 z fits) ∙ to_z-of_z w128 z (omega (arith, ints, fits))

pub returns : goal.returns
returns c =
    let all = joined c.args.id.now (decimal c.args.i) (decimal c.args.j) in
    let i = widened c.args.i (search rules) in
    let j = widened c.args.j (search rules) in
    cc (
      c.in_ok-text.ensures.items,
      c.in_ok-push.ensures.items,
      c.in_ok-append_decimal.ensures.ok,
      c.in_ok-push-2.ensures.items,
      c.in_ok-append_decimal-2.ensures.ok,
      c.in_ok-push-3.ensures.items,
    )
