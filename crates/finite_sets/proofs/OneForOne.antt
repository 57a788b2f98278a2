-- Lists whose things go along with each other: laws of `AreOneForOne`.
use Rattle.std.proofs.Common.{◌≡◌, ℕ, zero, suc, Some, List, [], ◌∷◌, ◌++◌, map, length, inl, inr, refl, ap, subst, arith}
use Rattle.std.specs.Prelude.{slice_get}
use Rattle.finite_sets.specs.Lists.{In}
use Rattle.finite_sets.specs.OneForOne.{AreOneForOne}

-- they are equally long
pub AreOneForOne-length : {X Y : Type 0} (R : X → Y → Type 0) (xs : List X) (ys : List Y) → AreOneForOne R xs ys → length xs ≡ length ys
AreOneForOne-length R [] [] are = refl
AreOneForOne-length R [] (y ∷ ys) are = absurd are
AreOneForOne-length R (x ∷ xs) [] are = absurd are
AreOneForOne-length R (x ∷ xs) (y ∷ ys) are = ap suc (AreOneForOne-length R xs ys are.1)

-- two lists behind two others
pub AreOneForOne-append : {X Y : Type 0} (R : X → Y → Type 0) (xs more : List X) (ys others : List Y) → AreOneForOne R xs ys
    → AreOneForOne R more others → AreOneForOne R (xs ++ more) (ys ++ others)
AreOneForOne-append R [] more [] others first second = second
AreOneForOne-append R [] more (y ∷ ys) others first second = absurd first
AreOneForOne-append R (x ∷ xs) more [] others first second = absurd first
AreOneForOne-append R (x ∷ xs) more (y ∷ ys) others first second = (first.0, AreOneForOne-append R xs more ys others first.1 second)

-- one more at the end of both
pub AreOneForOne-push : {X Y : Type 0} (R : X → Y → Type 0) (xs : List X) (ys : List Y) (x : X) (y : Y) → AreOneForOne R xs ys → R x y
    → AreOneForOne R (xs ++ x ∷ []) (ys ++ y ∷ [])
AreOneForOne-push R xs ys x y are one = AreOneForOne-append R xs (x ∷ []) ys (y ∷ []) are (one, tt)

-- the image of the first list
pub AreOneForOne-map : {X Y Z : Type 0} (R : X → Y → Type 0) (S : Z → Y → Type 0) (f : X → Z) → ((x : X) (y : Y) → R x y → S (f x) y)
    → (xs : List X) (ys : List Y) → AreOneForOne R xs ys → AreOneForOne S (map f xs) ys
AreOneForOne-map R S f over [] [] are = tt
AreOneForOne-map R S f over [] (y ∷ ys) are = absurd are
AreOneForOne-map R S f over (x ∷ xs) [] are = absurd are
AreOneForOne-map R S f over (x ∷ xs) (y ∷ ys) are = (over x y are.0, AreOneForOne-map R S f over xs ys are.1)

-- a weaker relation
pub AreOneForOne-weaker : {X Y : Type 0} (R S : X → Y → Type 0) → ((x : X) (y : Y) → R x y → S x y) → (xs : List X) (ys : List Y)
    → AreOneForOne R xs ys → AreOneForOne S xs ys
AreOneForOne-weaker R S over [] [] are = tt
AreOneForOne-weaker R S over [] (y ∷ ys) are = absurd are
AreOneForOne-weaker R S over (x ∷ xs) [] are = absurd are
AreOneForOne-weaker R S over (x ∷ xs) (y ∷ ys) are = (over x y are.0, AreOneForOne-weaker R S over xs ys are.1)

-- what stands in the second list goes along with something of the first
pub AreOneForOne-source : {X Y : Type 0} (R : X → Y → Type 0) (xs : List X) (ys : List Y) → AreOneForOne R xs ys → (y : Y) → In y ys
    → (x : X) × In x xs × R x y
AreOneForOne-source R [] [] are y none = absurd none
AreOneForOne-source R [] (other ∷ ys) are y here = absurd are
AreOneForOne-source R (x ∷ xs) [] are y here = absurd are
AreOneForOne-source R (x ∷ xs) (other ∷ ys) are y (inl same) = (x, inl refl, subst (R x) same are.0)
AreOneForOne-source R (x ∷ xs) (other ∷ ys) are y (inr later) =
    let found = AreOneForOne-source R xs ys are.1 y later in (found.0, inr found.1, found.2)

-- what stands in the first list goes along with something of the second
pub AreOneForOne-image : {X Y : Type 0} (R : X → Y → Type 0) (xs : List X) (ys : List Y) → AreOneForOne R xs ys → (x : X) → In x xs
    → (y : Y) × In y ys × R x y
AreOneForOne-image R [] [] are x none = absurd none
AreOneForOne-image R [] (y ∷ ys) are x none = absurd none
AreOneForOne-image R (other ∷ xs) [] are x here = absurd are
AreOneForOne-image {X} R (other ∷ xs) (y ∷ ys) are x (inl same) = let P : X → Type 0 = λ z. R z y in (y, inl refl, subst P same are.0)
AreOneForOne-image R (other ∷ xs) (y ∷ ys) are x (inr later) =
    let found = AreOneForOne-image R xs ys are.1 x later in (found.0, inr found.1, found.2)

-- what stands at a place of the first list goes along with what stands there in the second
pub AreOneForOne-there : {X Y : Type 0} (R : X → Y → Type 0) (xs : List X) (ys : List Y) → AreOneForOne R xs ys → (k : ℕ) (x : X)
    → slice_get xs k ≡ Some x → (y : Y) × (slice_get ys k ≡ Some y) × R x y
AreOneForOne-there R [] ys are k x is = cc
AreOneForOne-there R (other ∷ xs) [] are k x is = absurd are
AreOneForOne-there {X} R (other ∷ xs) (y ∷ ys) are zero x is =
    let P : X → Type 0 = λ z. R z y in let same : other ≡ x = cc in (y, refl, subst P same are.0)
AreOneForOne-there R (other ∷ xs) (y ∷ ys) are (suc k) x is = AreOneForOne-there R xs ys are.1 k x is

-- what stands at a place of the second list goes along with what stands there in the first
pub AreOneForOne-back : {X Y : Type 0} (R : X → Y → Type 0) (xs : List X) (ys : List Y) → AreOneForOne R xs ys → (k : ℕ) (y : Y)
    → slice_get ys k ≡ Some y → (x : X) × (slice_get xs k ≡ Some x) × R x y
AreOneForOne-back R xs [] are k y is = cc
AreOneForOne-back R [] (other ∷ ys) are k y is = absurd are
AreOneForOne-back R (x ∷ xs) (other ∷ ys) are zero y is = let same : other ≡ y = cc in (x, refl, subst (R x) same are.0)
AreOneForOne-back R (x ∷ xs) (other ∷ ys) are (suc k) y is = AreOneForOne-back R xs ys are.1 k y is

-- two lists of one length where what stands at each place of the one goes along with what stands there in the other
pub AreOneForOne-from_places : {X Y : Type 0} (R : X → Y → Type 0) (xs : List X) (ys : List Y) → length xs ≡ length ys
    → ((k : ℕ) (x : X) (y : Y) → slice_get xs k ≡ Some x → slice_get ys k ≡ Some y → R x y) → AreOneForOne R xs ys
AreOneForOne-from_places R [] [] long each = tt
AreOneForOne-from_places R [] (y ∷ ys) long each = absurd (omega (arith, long))
AreOneForOne-from_places R (x ∷ xs) [] long each = absurd (omega (arith, long))
AreOneForOne-from_places R (x ∷ xs) (y ∷ ys) long each =
    (each 0 x y refl refl, AreOneForOne-from_places R xs ys (omega (arith, long)) (λ k a b p q. each (suc k) a b p q))
