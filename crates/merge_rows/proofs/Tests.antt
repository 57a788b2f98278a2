-- What tests tell.
use Rattle.std.proofs.Common.{◌≡◌, ◌↔◌, ◌&&◌, ℕ, ℤ, Bool, List, Option, Some, Result, Ok, Err, IsTrue, ◌∙◌, sym, subst, ap}
use Rattle.std.specs.Bool.{Decides}
use Rattle.std.specs.Option.{SomeIff}
use Rattle.std.specs.Ordering.{int_eq}
use Rattle.std.specs.Result.{IfOk}
use Rattle.std.proofs.lemmas.Bool.Decides.{Decides-int_eq, Decides-and}

-- texts are tested by one that is the first's
pub told_same : (test : Bool) (text other wanted : List ℕ) → wanted ≡ text → Decides test (text ≡ other) → IsTrue test ↔ (other ≡ wanted)
told_same test text other wanted is decides = (λ yes. sym (is ∙ decides.0 yes), λ same. decides.1 (sym is ∙ sym same))

-- pairs of numbers are tested by their numbers
pub pair_test : (one other : ℤ × ℤ) → Decides (int_eq one.0 other.0 && int_eq one.1 other.1) (one ≡ other)
pair_test one other =
    let both =
    Decides-and (int_eq one.0 other.0) (int_eq one.1 other.1) (Decides-int_eq one.0 other.0) (Decides-int_eq one.1 other.1) in (
      λ yes. (let same = both.0 yes in λ k. (same.0 k, same.1 k)),
      λ same. both.1 (ap (λ (pair : ℤ × ℤ). pair.0) same, ap (λ (pair : ℤ × ℤ). pair.1) same),
    )

-- what follows of the value of a result
pub with_value : {T E : Type 0} {P Q : T → Type 0} (result : Result T E) → ((value : T) → P value → Q value) → IfOk result P → IfOk result Q
with_value (Ok value) follows is = follows value is
with_value (Err error) follows is = tt

-- a count that is known is the one that was asked for
pub counted : (found : Option ℕ) (P : Type 0) (count wanted : ℕ) → SomeIff found P wanted → found ≡ Some count → count ≡ wanted
counted found P count wanted is some = (subst (λ (other : Option ℕ). SomeIff other P wanted) some is).1
