-- What the first thing of a list gives that gives something.
use Rattle.std.specs.Prelude.{Option, None, List, [], ◌∷◌}
use Rattle.std.specs.Option.{option_or}

-- what the first thing of a list gives that gives something
abbrev pub first_some : {X Y : Type 0} → (X → Option Y) → List X → Option Y
first_some f [] = None
first_some f (x ∷ xs) = option_or (f x) (first_some f xs)
