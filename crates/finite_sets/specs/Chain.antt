-- Ways from one thing to another.
use Rattle.std.specs.Prelude.{◌⊎◌}

-- a way from one to the other by steps of R
pub data Chain {X : Type 0} (R : X → X → Type 0) : X → X → Type 0 where
  stay : {a : X} → Chain R a a
  go : {a b c : X} → R a b → Chain R b c → Chain R a c

-- a step of R from one to the other, or back
abbrev pub EitherWay : {X : Type 0} → (X → X → Type 0) → X → X → Type 0
EitherWay R a b = R a b ⊎ R b a
