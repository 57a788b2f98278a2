-- What the first thing of a list gives that gives something: laws of `first_some`.
use Rattle.std.proofs.Common.{◌≡◌, ℕ, ◌+◌, Option, Some, List, [], ◌∷◌, ◌++◌, inl, inr, take, drop, refl, sym, ◌∙◌, ap}
use Rattle.std.specs.Prelude.{None, slice_get}
use Rattle.std.specs.Option.{option_or}
use Rattle.finite_sets.specs.Lists.{In}
use Rattle.finite_sets.specs.First.{first_some}
use Rattle.finite_sets.proofs.Places.{cut-slice_get}
use Rattle.finite_sets.proofs.Searches.{option_or-none}

-- where no thing gives anything, nothing is given
pub first_some-none : {X Y : Type 0} (f : X → Option Y) (xs : List X) → ((x : X) → In x xs → f x ≡ None) → first_some f xs ≡ None
first_some-none f [] none = refl
first_some-none {X} {Y} f (x ∷ xs) none =
    ap (λ (o : Option Y). option_or o (first_some f xs)) (none x (inl refl)) ∙ first_some-none f xs (λ y later. none y (inr later))

-- where nothing is given, no thing gives anything
pub first_some-none_In : {X Y : Type 0} (f : X → Option Y) (xs : List X) → first_some f xs ≡ None → (x : X) → In x xs → f x ≡ None
first_some-none_In f [] none x here = absurd here
first_some-none_In f (y ∷ ys) none x (inl same) = ap f (sym same) ∙ (option_or-none (f y) (first_some f ys) none).0
first_some-none_In f (y ∷ ys) none x (inr later) = first_some-none_In f ys (option_or-none (f y) (first_some f ys) none).1 x later

-- what a thing gives where none before it gives anything
pub first_some-cut : {X Y : Type 0} (f : X → Option Y) (front back : List X) (x : X) (y : Y) → ((z : X) → In z front → f z ≡ None) → f x ≡ Some y
    → first_some f (front ++ (x ∷ back)) ≡ Some y
first_some-cut {X} {Y} f [] back x y none gives = ap (λ (o : Option Y). option_or o (first_some f back)) gives
first_some-cut {X} {Y} f (z ∷ front) back x y none gives =
    ap (λ (o : Option Y). option_or o (first_some f (front ++ (x ∷ back)))) (none z (inl refl))
    ∙ first_some-cut f front back x y (λ a later. none a (inr later)) gives

-- the same of a thing at a place
pub first_some-at : {X Y : Type 0} (f : X → Option Y) (xs : List X) (k : ℕ) (x : X) (y : Y) → slice_get xs k ≡ Some x
    → ((z : X) → In z (take k xs) → f z ≡ None) → f x ≡ Some y → first_some f xs ≡ Some y
first_some-at f xs k x y at none gives = ap (first_some f) (cut-slice_get xs k x at) ∙ first_some-cut f (take k xs) (drop (k + 1) xs) x y none gives
