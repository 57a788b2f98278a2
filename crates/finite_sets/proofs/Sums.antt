-- Sums over lists: laws of `sum_on`.
use Rattle.std.proofs.Common.{◌≡◌, ℕ, suc, ◌+◌, ◌*◌, ℤ, pos, ◌+ℤ◌, ◌-ℤ◌, ◌*ℤ◌, ◌≤ℤ◌, Bool, true, false, cond, List, []}
use Rattle.std.proofs.Common.{◌∷◌, ◌++◌, inl, inr, map, filter, length, refl, sym, ◌∙◌, ap, subst, arith}
use Rattle.std.specs.Prelude.{IsPermutation, Some, slice_get}
use Rattle.std.specs.List.{flat_map, sum_by}
use Rattle.std.proofs.Math.IntN.{*ℤ_comm}
use Rattle.std.proofs.lemmas.Int.{ints}
use Rattle.std.proofs.lemmas.List.Sorted.{sum_by-IsPermutation}
use Rattle.std.proofs.lemmas.List.Sums.{sum_by-append, sum_by-cons}
use borrow.Author.Differences.{up, down}
use Rattle.finite_sets.specs.Lists.{In, Distinct}
use Rattle.finite_sets.specs.Total.{sum_on}
use Rattle.finite_sets.proofs.Distincts.{cut_at, In-cut_cases, In-cut_rest, Distinct-cut}

-- the sum over one list and then another
pub sum_on-append : {X : Type 0} (w : X → ℤ) (xs ys : List X) → sum_on w (xs ++ ys) ≡ sum_on w xs +ℤ sum_on w ys
sum_on-append w [] ys = omega (arith, ints)
sum_on-append w (x ∷ xs) ys = ap (λ z. w x +ℤ z) (sum_on-append w xs ys) ∙ omega (arith, ints)

-- the sum with one more at the end
pub sum_on-push : {X : Type 0} (w : X → ℤ) (xs : List X) (y : X) → sum_on w (xs ++ y ∷ []) ≡ sum_on w xs +ℤ w y
sum_on-push w xs y = sum_on-append w xs (y ∷ []) ∙ omega (arith, ints)

-- the sum over an image
pub sum_on-map : {X Y : Type 0} (f : X → Y) (w : Y → ℤ) (xs : List X) → sum_on w (map f xs) ≡ sum_on (λ x. w (f x)) xs
sum_on-map f w [] = refl
sum_on-map f w (x ∷ xs) = ap (λ z. w (f x) +ℤ z) (sum_on-map f w xs)

-- weights that agree on what stands in the list
pub sum_on-same : {X : Type 0} (v w : X → ℤ) (xs : List X) → ((x : X) → In x xs → v x ≡ w x) → sum_on v xs ≡ sum_on w xs
sum_on-same v w [] h = refl
sum_on-same v w (x ∷ xs) h = ap (λ z. z +ℤ sum_on v xs) (h x (inl refl)) ∙ ap (λ z. w x +ℤ z) (sum_on-same v w xs (λ y i. h y (inr i)))

-- the weight zero
pub sum_on-zero : {X : Type 0} (xs : List X) → sum_on (λ x. pos 0) xs ≡ pos 0
sum_on-zero [] = refl
sum_on-zero (x ∷ xs) = ap (λ z. pos 0 +ℤ z) (sum_on-zero xs) ∙ omega (arith, ints)

-- a weight that is zero on what stands in the list
pub sum_on-nothing : {X : Type 0} (w : X → ℤ) (xs : List X) → ((x : X) → In x xs → w x ≡ pos 0) → sum_on w xs ≡ pos 0
sum_on-nothing w xs h = sum_on-same w (λ x. pos 0) xs h ∙ sum_on-zero xs

-- the sum of two weights
pub sum_on-add : {X : Type 0} (v w : X → ℤ) (xs : List X) → sum_on (λ x. v x +ℤ w x) xs ≡ sum_on v xs +ℤ sum_on w xs
sum_on-add v w [] = omega (arith, ints)
sum_on-add v w (x ∷ xs) = ap (λ z. (v x +ℤ w x) +ℤ z) (sum_on-add v w xs) ∙ omega (arith, ints)

-- the difference of two weights
pub sum_on-sub : {X : Type 0} (v w : X → ℤ) (xs : List X) → sum_on (λ x. v x -ℤ w x) xs ≡ sum_on v xs -ℤ sum_on w xs
sum_on-sub v w [] = omega (arith, ints)
sum_on-sub v w (x ∷ xs) = ap (λ z. (v x -ℤ w x) +ℤ z) (sum_on-sub v w xs) ∙ omega (arith, ints)

-- sums over two lists change places
pub sum_on-swap : {X Y : Type 0} (w : X → Y → ℤ) (xs : List X) (ys : List Y) → sum_on (λ x. sum_on (w x) ys) xs ≡ sum_on (λ y. sum_on (λ x. w x y) xs) ys
sum_on-swap w [] ys = sym (sum_on-zero ys)
sum_on-swap w (x ∷ xs) ys = ap (λ z. sum_on (w x) ys +ℤ z) (sum_on-swap w xs ys) ∙ sym (sum_on-add (w x) (λ y. sum_on (λ a. w a y) xs) ys)

-- the weight of one counts the places
pub sum_on-count : {X : Type 0} (xs : List X) → sum_on (λ x. pos 1) xs ≡ pos (length xs)
sum_on-count [] = refl
sum_on-count (x ∷ xs) = ap (λ z. pos 1 +ℤ z) (sum_on-count xs) ∙ omega (arith, ints)

-- what a filter keeps counts, and the rest counts nothing
pub sum_on-filter : {X : Type 0} (test : X → Bool) (w : X → ℤ) (xs : List X) → sum_on w (filter test xs) ≡ sum_on (λ x. cond (test x) (w x) (pos 0)) xs
sum_on-filter test w [] = refl
sum_on-filter {X} test w (x ∷ xs) =
    let rest = sum_on-filter test w xs in
    let after = sum_on (λ y. cond (test y) (w y) (pos 0)) xs in
    elim (test x) as (λ b. sum_on w (cond b (x ∷ filter test xs) (filter test xs)) ≡ cond b (w x) (pos 0) +ℤ after)
    [ true ↦ ap (λ z. w x +ℤ z) rest | false ↦ rest ∙ omega (arith, ints) ]

sum_on-cut : {X : Type 0} (w : X → ℤ) (front back : List X) (x : X) → sum_on w (front ++ (x ∷ back)) ≡ w x +ℤ sum_on w (front ++ back)
sum_on-cut w [] back x = refl
sum_on-cut w (y ∷ ys) back x = ap (λ z. w y +ℤ z) (sum_on-cut w ys back x) ∙ omega (arith, ints)

-- a sum over the same things, each once, is the same
pub sum_on-same_things : {X : Type 0} (w : X → ℤ) (xs ys : List X) → Distinct xs → Distinct ys
    → ((a : X) → In a xs → In a ys) → ((a : X) → In a ys → In a xs) → sum_on w xs ≡ sum_on w ys
sum_on-same_things w [] [] d e there back = refl
sum_on-same_things w [] (y ∷ ys) d e there back = absurd (back y (inl refl))
sum_on-same_things {X} w (x ∷ xs) ys d e there back =
    let c = cut_at x ys (there x (inl refl)) in
    let front = c.0 in let rear = c.1.0 in
    let parts = Distinct-cut front rear x (subst Distinct c.1.1.whole e) in
    let there_rest : (a : X) → In a xs → In a (front ++ rear) = λ a h.
    elim (In-cut_cases front rear x a (subst (In a) c.1.1.whole (there a (inr h))))
    [ inl q ↦ absurd (d.0 (subst (λ z. In z xs) (sym q) h)) | inr k ↦ k ] in
    let back_rest : (a : X) → In a (front ++ rear) → In a xs = λ a h.
    elim (back a (subst (In a) (sym c.1.1.whole) (In-cut_rest front rear x a h)))
    [ inl q ↦ absurd (parts.0 (subst (λ z. In z (front ++ rear)) (sym q) h)) | inr k ↦ k ] in
    ap (λ z. w x +ℤ z) (sum_on-same_things w xs (front ++ rear) d.1 parts.1 there_rest back_rest)
    ∙ sym (sum_on-cut w front rear x) ∙ ap (sum_on w) (sym c.1.1.whole)

-- a weight that is nowhere less has no less a sum
pub sum_on-le : {X : Type 0} (v w : X → ℤ) (xs : List X) → ((x : X) → In x xs → v x ≤ℤ w x) → sum_on v xs ≤ℤ sum_on w xs
sum_on-le v w [] h = omega (arith, ints)
sum_on-le v w (x ∷ xs) h = let first = h x (inl refl) in let rest = sum_on-le v w xs (λ y i. h y (inr i)) in omega (arith, ints)

distributes : (k a b : ℤ) → (k *ℤ a) +ℤ (k *ℤ b) ≡ k *ℤ (a +ℤ b)
distributes k a b =
    let sum : up (a +ℤ b) + (down a + down b) ≡ down (a +ℤ b) + (up a + up b) = omega (arith, ints) in
    omega (arith, ints, ap (λ z. up k * z) sum, ap (λ z. down k * z) sum)

-- a weight so many times
pub sum_on-scale : {X : Type 0} (k : ℤ) (w : X → ℤ) (xs : List X) → sum_on (λ x. k *ℤ w x) xs ≡ k *ℤ sum_on w xs
sum_on-scale k w [] = omega (arith, ints)
sum_on-scale k w (x ∷ xs) = ap (λ z. (k *ℤ w x) +ℤ z) (sum_on-scale k w xs) ∙ distributes k (w x) (sum_on w xs)

-- a weight so many times, told from the right
pub sum_on-scale_right : {X : Type 0} (w : X → ℤ) (k : ℤ) (xs : List X) → sum_on (λ x. w x *ℤ k) xs ≡ sum_on w xs *ℤ k
sum_on-scale_right w k xs =
    sum_on-same (λ x. w x *ℤ k) (λ x. k *ℤ w x) xs (λ x here. *ℤ_comm (w x) k) ∙ sum_on-scale k w xs ∙ *ℤ_comm k (sum_on w xs)

-- the sum over lists one behind the other
pub sum_on-flat_map : {X Y : Type 0} (f : X → List Y) (w : Y → ℤ) (xs : List X) → sum_on w (flat_map f xs) ≡ sum_on (λ x. sum_on w (f x)) xs
sum_on-flat_map f w [] = refl
sum_on-flat_map f w (x ∷ xs) = sum_on-append w (f x) (flat_map f xs) ∙ ap (λ z. sum_on w (f x) +ℤ z) (sum_on-flat_map f w xs)

-- a sum is that of what is above zero without that of what is below it
pub sum_on-parts : {X : Type 0} (w : X → ℤ) (xs : List X) → sum_on w xs ≡ pos (sum_by (λ x. up (w x)) xs) -ℤ pos (sum_by (λ x. down (w x)) xs)
sum_on-parts w [] = omega (arith, ints)
sum_on-parts w (x ∷ xs) =
    let rest = sum_on-parts w xs in
    let a = sum_by-cons (λ y. up (w y)) x xs in
    let b = sum_by-cons (λ y. down (w y)) x xs in
    omega (arith, ints, rest, a, b)

-- a sum is the same in any order
pub sum_on-permutation : {X : Type 0} (w : X → ℤ) (xs ys : List X) → IsPermutation xs ys → sum_on w ys ≡ sum_on w xs
sum_on-permutation w xs ys moved =
    let a = sum_by-IsPermutation (λ x. up (w x)) xs ys moved in
    let b = sum_by-IsPermutation (λ x. down (w x)) xs ys moved in
    sum_on-parts w ys ∙ ap (λ n. pos n -ℤ pos (sum_by (λ x. down (w x)) ys)) a
    ∙ ap (λ n. pos (sum_by (λ x. up (w x)) xs) -ℤ pos n) b ∙ sym (sum_on-parts w xs)

-- numbers that agree on a list have one sum
pub sum_by-same : {X : Type 0} (f g : X → ℕ) (xs : List X) → ((x : X) → In x xs → f x ≡ g x) → sum_by f xs ≡ sum_by g xs
sum_by-same f g [] same = refl
sum_by-same f g (x ∷ xs) same =
    sum_by-cons f x xs ∙ ap (λ n. n + sum_by f xs) (same x (inl refl))
    ∙ ap (λ n. g x + n) (sum_by-same f g xs (λ y later. same y (inr later))) ∙ sym (sum_by-cons g x xs)

-- the sum over an image
pub sum_by-map : {X Y : Type 0} (f : Y → ℕ) (g : X → Y) (xs : List X) → sum_by f (map g xs) ≡ sum_by (λ x. f (g x)) xs
sum_by-map f g [] = refl
sum_by-map f g (x ∷ xs) = sum_by-cons f (g x) (map g xs) ∙ ap (λ n. f (g x) + n) (sum_by-map f g xs) ∙ sym (sum_by-cons (λ y. f (g y)) x xs)

-- the sum over lists one behind the other
pub sum_by-flat_map : {X Y : Type 0} (f : Y → ℕ) (g : X → List Y) (xs : List X) → sum_by f (flat_map g xs) ≡ sum_by (λ x. sum_by f (g x)) xs
sum_by-flat_map f g [] = refl
sum_by-flat_map f g (x ∷ xs) =
    sum_by-append f (g x) (flat_map g xs) ∙ ap (λ n. sum_by f (g x) + n) (sum_by-flat_map f g xs) ∙ sym (sum_by-cons (λ y. sum_by f (g y)) x xs)

-- two lists of one length whose things count alike place by place
pub sum_by-pointwise : {X Y : Type 0} (f : X → ℕ) (g : Y → ℕ) (xs : List X) (ys : List Y) → length xs ≡ length ys
    → ((k : ℕ) (x : X) (y : Y) → slice_get xs k ≡ Some x → slice_get ys k ≡ Some y → f x ≡ g y) → sum_by f xs ≡ sum_by g ys
sum_by-pointwise f g [] [] long same = refl
sum_by-pointwise f g [] (y ∷ ys) long same = absurd (omega (arith, long))
sum_by-pointwise f g (x ∷ xs) [] long same = absurd (omega (arith, long))
sum_by-pointwise f g (x ∷ xs) (y ∷ ys) long same =
    sum_by-cons f x xs ∙ ap (λ n. n + sum_by f xs) (same 0 x y refl refl)
    ∙ ap (λ n. g y + n) (sum_by-pointwise f g xs ys (omega (arith, long)) (λ k a b h i. same (suc k) a b h i)) ∙ sym (sum_by-cons g y ys)
