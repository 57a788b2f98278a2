-- What stands at a place of a list.
use Rattle.name_classes.proofs.Common.{◌≡◌, ◌+◌, ℕ, List, [], ◌∷◌, ◌++◌, length, map, sym, ◌∙◌, ap, subst, arith, Option, Some, slice_get}
use Rattle.name_classes.proofs.Common.{slice_get_within, slice_get-map, option_map, Distinct, one_place, slice_get-below, slice_get-one}
use Rattle.partition.proofs.FiniteSets.OneForOne.{AreOneForOne-push, AreOneForOne-from_places, AreOneForOne-there}

-- there is a thing at each place
pub at_place : {X Y : Type 0} (xs : List X) (ys : List Y) (k : ℕ) (y : Y) → length ys ≡ length xs → slice_get ys k ≡ Some y
    → (x : X) × (slice_get xs k ≡ Some x)
at_place xs ys k y long is = slice_get-below xs k (omega (arith, slice_get_within ys k y is, long))

-- what holds of the things of two lists, place by place, and of one more of each
pub slice_get-push_both : {X Y : Type 0} (R : X → Y → Type 0) (xs : List X) (ys : List Y) (x : X) (y : Y) → length ys ≡ length xs
    → ((k : ℕ) (a : X) (b : Y) → slice_get xs k ≡ Some a → slice_get ys k ≡ Some b → R a b) → R x y
    → (k : ℕ) (a : X) (b : Y) → slice_get (xs ++ x ∷ []) k ≡ Some a → slice_get (ys ++ y ∷ []) k ≡ Some b → R a b
slice_get-push_both R xs ys x y long each last k a b at_a at_b =
    let both = AreOneForOne-push R xs ys x y (AreOneForOne-from_places R xs ys (sym long) each) last in
    let there = AreOneForOne-there R (xs ++ x ∷ []) (ys ++ y ∷ []) both k a at_a in
    subst (R a) (slice_get-one (ys ++ y ∷ []) k there.0 b there.1 at_b) there.2

-- in a list in which no two things have one image, things with one image stand at one place
pub place_of_image : {X Y : Type 0} (f : X → Y) (xs : List X) (i j : ℕ) (x y : X) → Distinct (map f xs) → slice_get xs i ≡ Some x → slice_get xs j ≡ Some y
    → f x ≡ f y → i ≡ j
place_of_image {X} {Y} f xs i j x y apart is other same =
    one_place (map f xs) i j (f x) apart (slice_get-map f xs i ∙ ap (λ (o : Option X). option_map f o) is)
    (slice_get-map f xs j ∙ ap (λ (o : Option X). option_map f o) other ∙ ap (λ (z : Y). Some z) (sym same))
