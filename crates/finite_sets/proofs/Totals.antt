-- Sums over finite sets: laws of `Total`.
use Rattle.std.proofs.Common.{◌≡◌, ℤ, pos, ◌+ℤ◌, ◌-ℤ◌, ◌*ℤ◌, ◌≤ℤ◌, Bool, true, false, cond, List, [], ◌∷◌}
use Rattle.std.proofs.Common.{◌++◌, ◌⊎◌, inl, inr, map, filter, length, refl, sym, ◌∙◌, ap, subst, arith}
use Rattle.std.proofs.lemmas.Int.{ints}
use Rattle.finite_sets.specs.Lists.{In, Distinct, Lists}
use Rattle.finite_sets.specs.Total.{sum_on, Total}
use Rattle.finite_sets.proofs.Listings.{Lists-none, Lists-iff, Lists-append, Lists-filter, Lists-map, Lists-image}
use Rattle.finite_sets.proofs.Sums.{sum_on-append, sum_on-map, sum_on-same, sum_on-add, sum_on-sub}
use Rattle.finite_sets.proofs.Sums.{sum_on-le, sum_on-scale, sum_on-count, sum_on-filter, sum_on-same_things}

-- a set has one sum of a weight
pub Total-unique : {X : Type 0} (P : X → Type 0) (w : X → ℤ) (m n : ℤ) → Total P w m → Total P w n → m ≡ n
Total-unique P w m n s t =
    sym s.1.1 ∙ sum_on-same_things w s.0 t.0 s.1.0.0 t.1.0.0 (λ a h. t.1.0.1 a (s.1.0.2 a h)) (λ a h. s.1.0.1 a (t.1.0.2 a h)) ∙ t.1.1

-- any list of the set gives its sum
pub Total-of_list : {X : Type 0} (P : X → Type 0) (w : X → ℤ) (n : ℤ) (xs : List X) → Total P w n → Lists P xs → sum_on w xs ≡ n
Total-of_list P w n xs t l = Total-unique P w (sum_on w xs) n (xs, (l, refl)) t

-- a list of the set has its total
pub Total-from_list : {X : Type 0} (P : X → Type 0) (w : X → ℤ) (xs : List X) → Lists P xs → Total P w (sum_on w xs)
Total-from_list P w xs l = (xs, (l, refl))

-- the same number, written otherwise
pub Total-at : {X : Type 0} (P : X → Type 0) (w : X → ℤ) (m n : ℤ) → m ≡ n → Total P w m → Total P w n
Total-at P w m n e t = (t.0, (t.1.0, t.1.1 ∙ e))

-- the empty set
pub Total-none : {X : Type 0} (P : X → Type 0) (w : X → ℤ) → ((x : X) → P x → ⊥) → Total P w (pos 0)
Total-none P w none = ([], (Lists-none P none, refl))

-- equivalent facts have one total
pub Total-iff : {X : Type 0} (P Q : X → Type 0) (w : X → ℤ) (n : ℤ) → ((x : X) → P x → Q x) → ((x : X) → Q x → P x) → Total P w n → Total Q w n
Total-iff P Q w n there back t = (t.0, (Lists-iff P Q t.0 there back t.1.0, t.1.1))

-- weights that agree on the set have one total
pub Total-same : {X : Type 0} (P : X → Type 0) (v w : X → ℤ) (n : ℤ) → ((x : X) → P x → v x ≡ w x) → Total P v n → Total P w n
Total-same P v w n h t = (t.0, (t.1.0, sym (sum_on-same v w t.0 (λ x i. h x (t.1.0.2 x i))) ∙ t.1.1))

-- the union of two sets with nothing in common
pub Total-union : {X : Type 0} (P Q : X → Type 0) (w : X → ℤ) (m n : ℤ) → ((x : X) → P x → Q x → ⊥) → Total P w m → Total Q w n
    → Total (λ x. P x ⊎ Q x) w (m +ℤ n)
Total-union P Q w m n apart s t =
    (s.0 ++ t.0, (Lists-append P Q s.0 t.0 apart s.1.0 t.1.0, sum_on-append w s.0 t.0 ∙ ap (λ z. z +ℤ sum_on w t.0) s.1.1 ∙ ap (λ z. m +ℤ z) t.1.1))

-- the image of a set under a map that takes its things to different ones
pub Total-map : {X Y : Type 0} (P : X → Type 0) (f : X → Y) (w : Y → ℤ) (n : ℤ) → ((a b : X) → P a → P b → f a ≡ f b → a ≡ b)
    → Total P (λ x. w (f x)) n → Total (λ y. (x : X) × (P x × (f x ≡ y))) w n
Total-map P f w n one t = (map f t.0, (Lists-map P f t.0 one t.1.0, sum_on-map f w t.0 ∙ t.1.1))

-- the image of a set under a map that has an inverse
pub Total-image : {X Y : Type 0} (P : X → Type 0) (f : X → Y) (back : Y → X) (w : Y → ℤ) (n : ℤ) → ((x : X) → back (f x) ≡ x) → ((y : Y) → f (back y) ≡ y)
    → Total P (λ x. w (f x)) n → Total (λ y. P (back y)) w n
Total-image P f back w n one two t = (map f t.0, (Lists-image P f back t.0 one two t.1.0, sum_on-map f w t.0 ∙ t.1.1))

-- the total of a sum of two weights is the sum of their totals
pub Total-add : {X : Type 0} (P : X → Type 0) (v w : X → ℤ) (m n : ℤ) → Total P v m → Total P w n → Total P (λ x. v x +ℤ w x) (m +ℤ n)
Total-add P v w m n s t =
    (s.0, (s.1.0, sum_on-add v w s.0 ∙ ap (λ z. z +ℤ sum_on w s.0) s.1.1 ∙ ap (λ z. m +ℤ z) (Total-of_list P w n s.0 t s.1.0)))

-- and of a difference the difference
pub Total-sub : {X : Type 0} (P : X → Type 0) (v w : X → ℤ) (m n : ℤ) → Total P v m → Total P w n → Total P (λ x. v x -ℤ w x) (m -ℤ n)
Total-sub P v w m n s t =
    (s.0, (s.1.0, sum_on-sub v w s.0 ∙ ap (λ z. z -ℤ sum_on w s.0) s.1.1 ∙ ap (λ z. m -ℤ z) (Total-of_list P w n s.0 t s.1.0)))

-- the part of a set that passes a test
pub Total-filter : {X : Type 0} (P : X → Type 0) (test : X → Bool) (w : X → ℤ) (n : ℤ) → Total P (λ x. cond (test x) (w x) (pos 0)) n
    → Total (λ x. P x × (test x ≡ true)) w n
Total-filter P test w n t = (filter test t.0, (Lists-filter P test t.0 t.1.0, sum_on-filter test w t.0 ∙ t.1.1))

-- and back, for a set whose things can be listed
pub Total-unfilter : {X : Type 0} (P : X → Type 0) (test : X → Bool) (w : X → ℤ) (n : ℤ) (xs : List X) → Lists P xs
    → Total (λ x. P x × (test x ≡ true)) w n → Total P (λ x. cond (test x) (w x) (pos 0)) n
Total-unfilter P test w n xs l t =
    (xs, (l, sym (sum_on-filter test w xs) ∙ Total-of_list (λ x. P x × (test x ≡ true)) w n (filter test xs) t (Lists-filter P test xs l)))

gate : (b : Bool) (a : ℤ) → (b ≡ false → a ≡ pos 0) → a ≡ cond b a (pos 0)
gate true a h = refl
gate false a h = h refl

-- where the weight is zero on what fails the test, that may be left out
pub Total-support : {X : Type 0} (P : X → Type 0) (test : X → Bool) (w : X → ℤ) (n : ℤ) → ((x : X) → P x → test x ≡ false → w x ≡ pos 0) → Total P w n
    → Total (λ x. P x × (test x ≡ true)) w n
Total-support P test w n zero t = Total-filter P test w n (Total-same P w (λ x. cond (test x) (w x) (pos 0)) n (λ x p. gate (test x) (w x) (zero x p)) t)

-- the totals of the parts that different labels mark add up
pub Total-parts : {X L : Type 0} (P : X → Type 0) (label : X → L) (w : X → ℤ) (part : L → ℤ) (labels : List L) → Distinct labels
    → ((l : L) → In l labels → Total (λ x. P x × (l ≡ label x)) w (part l))
    → Total (λ x. P x × In (label x) labels) w (sum_on part labels)
Total-parts P label w part [] d parts = Total-none (λ x. P x × In (label x) []) w (λ x h. h.1)
Total-parts {X} {L} P label w part (l ∷ labels) d parts =
    let First : X → Type 0 = λ x. P x × (l ≡ label x) in
    let Rest : X → Type 0 = λ x. P x × In (label x) labels in
    Total-iff (λ x. First x ⊎ Rest x) (λ x. P x × In (label x) (l ∷ labels)) w (sum_on part (l ∷ labels))
    (λ x h. elim h [ inl f ↦ (f.0, inl f.1) | inr r ↦ (r.0, inr r.1) ])
    (λ x h. elim h.1 [ inl e ↦ inl (h.0, e) | inr k ↦ inr (h.0, k) ])
    (Total-union First Rest w (part l) (sum_on part labels)
    (λ x f r. let Q : L → Type 0 = λ z. In z labels in d.0 (subst Q (sym f.1) r.1))
    (parts l (inl refl))
    (Total-parts P label w part labels d.1 (λ k i. parts k (inr i))))

-- a weight that is nowhere less on the set has no less a total
pub Total-le : {X : Type 0} (P : X → Type 0) (v w : X → ℤ) (m n : ℤ) → ((x : X) → P x → v x ≤ℤ w x) → Total P v m → Total P w n → m ≤ℤ n
Total-le P v w m n h s t =
    let le = sum_on-le v w s.0 (λ x i. h x (s.1.0.2 x i)) in
    let other = Total-of_list P w n s.0 t s.1.0 in
    omega (arith, ints, s.1.1)

-- the total of a weight so many times
pub Total-scale : {X : Type 0} (P : X → Type 0) (k : ℤ) (w : X → ℤ) (n : ℤ) → Total P w n → Total P (λ x. k *ℤ w x) (k *ℤ n)
Total-scale P k w n t = (t.0, (t.1.0, sum_on-scale k w t.0 ∙ ap (λ z. k *ℤ z) t.1.1))

-- the weight of one counts a set
pub Total-count : {X : Type 0} (P : X → Type 0) (xs : List X) → Lists P xs → Total P (λ x. pos 1) (pos (length xs))
Total-count P xs l = (xs, (l, sum_on-count xs))

-- two lists of one set are equally long
pub length-same_set : {X : Type 0} (P : X → Type 0) (xs ys : List X) → Lists P xs → Lists P ys → length xs ≡ length ys
length-same_set P xs ys l m = omega (arith, ints, Total-unique P (λ x. pos 1) (pos (length xs)) (pos (length ys)) (Total-count P xs l) (Total-count P ys m))
