-- Two lists whose things go along with each other.
use Rattle.std.specs.Prelude.{List, [], ◌∷◌}

-- The relation holds of the first of both lists, of the second of both, and so on, and neither has more.
abbrev pub AreOneForOne : {X Y : Type 0} → (X → Y → Type 0) → List X → List Y → Type 0
AreOneForOne R [] [] = Unit {0}
AreOneForOne R [] (y ∷ ys) = ⊥
AreOneForOne R (x ∷ xs) [] = ⊥
AreOneForOne R (x ∷ xs) (y ∷ ys) = R x y × AreOneForOne R xs ys
