-- The least thing with a fact: laws of `IsLeast`.
use Rattle.std.proofs.Common.{◌≡◌}
use Rattle.finite_sets.specs.Least.{IsLeast}

-- there is at most one, under an order in which no two things stand each before the other
pub IsLeast-unique : {X : Type 0} (le : X → X → Type 0) (P : X → Type 0) → ((a b : X) → le a b → le b a → a ≡ b) → (a b : X) → IsLeast le P a
    → IsLeast le P b → a ≡ b
IsLeast-unique le P anti a b l m = anti a b (l.1 b m.0) (m.1 a l.0)

-- the same set under another fact
pub IsLeast-iff : {X : Type 0} (le : X → X → Type 0) (P Q : X → Type 0) → ((x : X) → P x → Q x) → ((x : X) → Q x → P x) → (a : X) → IsLeast le P a
    → IsLeast le Q a
IsLeast-iff le P Q there back a l = (there a l.0, (λ b q. l.1 b (back b q)))
