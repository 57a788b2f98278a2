-- Lists in which nothing stands twice: laws of `Distinct`.
use Rattle.std.proofs.Common.{◌≡◌, ◌≢◌, ℕ, zero, suc, ◌<◌, ◌≤◌, Bool, true, false, cond, List, [], ◌∷◌, ◌++◌, ◌⊎◌}
use Rattle.std.proofs.Common.{inl, inr, map, filter, length, get_or, refl, sym, ap, subst, arith, length-append}
use Rattle.finite_sets.specs.Lists.{In, Distinct}
use Rattle.finite_sets.proofs.Members.{In-append_cases, In-append_left, In-append_right, In-map_source, In-filter_source, In-get_or, In-index}

-- lists with nothing in common, one after the other
pub Distinct-append : {X : Type 0} (xs ys : List X) → Distinct xs → Distinct ys → ((x : X) → In x xs → In x ys → ⊥) → Distinct (xs ++ ys)
Distinct-append [] ys d e apart = e
Distinct-append (x ∷ xs) ys d e apart = (
  (λ h. elim (In-append_cases x xs ys h) [ inl k ↦ d.0 k | inr k ↦ apart x (inl refl) k ]),
  Distinct-append xs ys d.1 e (λ y h k. apart y (inr h) k),
)

-- one more at the end
pub Distinct-push : {X : Type 0} (xs : List X) (y : X) → Distinct xs → (In y xs → ⊥) → Distinct (xs ++ y ∷ [])
Distinct-push {X} xs y d new =
    Distinct-append xs (y ∷ []) d ((λ h. h), tt)
    (λ x h k. elim k [ inl e ↦ let P : X → Type 0 = λ z. In z xs in new (subst P (sym e) h) | inr n ↦ n ])

-- a first part
pub Distinct-append_left : {X : Type 0} (xs ys : List X) → Distinct (xs ++ ys) → Distinct xs
Distinct-append_left [] ys d = tt
Distinct-append_left (x ∷ xs) ys d = ((λ h. d.0 (In-append_left x xs ys h)), Distinct-append_left xs ys d.1)

-- a last part
pub Distinct-append_right : {X : Type 0} (xs ys : List X) → Distinct (xs ++ ys) → Distinct ys
Distinct-append_right [] ys d = d
Distinct-append_right (x ∷ xs) ys d = Distinct-append_right xs ys d.1

-- nothing stands in both parts
pub Distinct-append_apart : {X : Type 0} (xs ys : List X) → Distinct (xs ++ ys) → (x : X) → In x xs → In x ys → ⊥
Distinct-append_apart [] ys d x h k = h
Distinct-append_apart {X} (a ∷ xs) ys d x (inl e) k = let P : X → Type 0 = λ z. In z ys in d.0 (In-append_right a xs ys (subst P (sym e) k))
Distinct-append_apart (a ∷ xs) ys d x (inr h) k = Distinct-append_apart xs ys d.1 x h k

-- an image, where what stands in the list has different images
pub Distinct-map : {X Y : Type 0} (f : X → Y) (xs : List X) → ((a b : X) → In a xs → In b xs → f a ≡ f b → a ≡ b) → Distinct xs → Distinct (map f xs)
Distinct-map f [] one d = tt
Distinct-map {X} f (x ∷ xs) one d = (
  (λ h. let s = In-map_source f (f x) xs h in let P : X → Type 0 = λ z. In z xs in
      d.0 (subst P (one s.0 x (inr s.1.0) (inl refl) s.1.1) s.1.0)),
  Distinct-map f xs (λ a b h k e. one a b (inr h) (inr k) e) d.1,
)

-- what passes a test
pub Distinct-filter : {X : Type 0} (test : X → Bool) (xs : List X) → Distinct xs → Distinct (filter test xs)
Distinct-filter test [] d = tt
Distinct-filter {X} test (x ∷ xs) d =
    let rest = Distinct-filter test xs d.1 in
    elim (test x) as (λ b. Distinct (cond b (x ∷ filter test xs) (filter test xs)))
    [ true ↦ ((λ h. d.0 (In-filter_source test x xs h)), rest) | false ↦ rest ]

-- by index: at two places stand two things
pub Distinct-places : {X : Type 0} (xs : List X) (i j : ℕ) (d : X) → Distinct xs → i < j → j < length xs → get_or xs i d ≢ get_or xs j d
Distinct-places [] i j d t l h e = omega arith
Distinct-places (x ∷ xs) i zero d t l h e = omega arith
Distinct-places {X} (x ∷ xs) zero (suc j) d t l h e = let P : X → Type 0 = λ z. In z xs in t.0 (subst P (sym e) (In-get_or xs j d (omega arith)))
Distinct-places (x ∷ xs) (suc i) (suc j) d t l h e = Distinct-places xs i j d t.1 (omega arith) (omega arith) e

-- and back
pub Distinct-from_places : {X : Type 0} (xs : List X) → ((i j : ℕ) (d : X) → i < j → j < length xs → get_or xs i d ≢ get_or xs j d) → Distinct xs
Distinct-from_places [] apart = tt
Distinct-from_places (x ∷ xs) apart = (
  (λ h. let k = In-index x xs h in apart 0 (suc k.0) x (omega arith) (omega (arith, k.1.0)) (sym (k.1.1 x))),
  Distinct-from_places xs (λ i j d l h. apart (suc i) (suc j) d (omega arith) (omega arith)),
)

-- a list cut at one of its places
pub record IsCut {X : Type 0} (x : X) (xs front back : List X) : Type 0 where
  pub whole : xs ≡ front ++ (x ∷ back)

-- what stands in a list is a place to cut it
pub cut_at : {X : Type 0} (x : X) (xs : List X) → In x xs → (front : List X) × ((back : List X) × IsCut x xs front back)
cut_at x [] h = absurd h
cut_at x (y ∷ ys) (inl e) = ([], (ys, record { whole = ap (λ z. z ∷ ys) e }))
cut_at x (y ∷ ys) (inr h) = let c = cut_at x ys h in (y ∷ c.0, (c.1.0, record { whole = ap (λ z. y ∷ z) c.1.1.whole }))

-- what stands in a list with a cut is the thing there, or stands in the rest
pub In-cut_cases : {X : Type 0} (front back : List X) (x a : X) → In a (front ++ (x ∷ back)) → (x ≡ a) ⊎ In a (front ++ back)
In-cut_cases [] back x a h = h
In-cut_cases (y ∷ ys) back x a (inl e) = inr (inl e)
In-cut_cases (y ∷ ys) back x a (inr h) = elim (In-cut_cases ys back x a h) [ inl e ↦ inl e | inr k ↦ inr (inr k) ]

-- the rest stands in the list
pub In-cut_rest : {X : Type 0} (front back : List X) (x a : X) → In a (front ++ back) → In a (front ++ (x ∷ back))
In-cut_rest [] back x a h = inr h
In-cut_rest (y ∷ ys) back x a (inl e) = inl e
In-cut_rest (y ∷ ys) back x a (inr h) = inr (In-cut_rest ys back x a h)

-- and so does the thing at the cut
pub In-cut : {X : Type 0} (front back : List X) (x : X) → In x (front ++ (x ∷ back))
In-cut [] back x = inl refl
In-cut (y ∷ ys) back x = inr (In-cut ys back x)

-- the thing at the cut stands nowhere else
pub Distinct-cut : {X : Type 0} (front back : List X) (x : X) → Distinct (front ++ (x ∷ back)) → (In x (front ++ back) → ⊥) × Distinct (front ++ back)
Distinct-cut [] back x d = d
Distinct-cut {X} (y ∷ ys) back x d =
    let r = Distinct-cut ys back x d.1 in
    let P : X → Type 0 = λ a. In a (ys ++ (x ∷ back)) in (
      elim [ inl e ↦ d.0 (subst P (sym e) (In-cut ys back x)) | inr h ↦ r.0 h ],
      ((λ h. d.0 (In-cut_rest ys back x y h)), r.1),
    )

-- different things of one list are no more than the list has places
pub length-distinct : {X : Type 0} (xs ys : List X) → Distinct xs → ((a : X) → In a xs → In a ys) → length xs ≤ length ys
length-distinct [] ys d within = omega arith
length-distinct {X} (x ∷ xs) ys d within =
    let c = cut_at x ys (within x (inl refl)) in
    let front = c.0 in let back = c.1.0 in
    let P : List X → X → Type 0 = λ l a. In a l in
    let rest : (a : X) → In a xs → In a (front ++ back) = λ a h.
    elim (In-cut_cases front back x a (subst (λ l. P l a) c.1.1.whole (within a (inr h))))
    [ inl e ↦ absurd (d.0 (subst (λ z. In z xs) (sym e) h)) | inr k ↦ k ] in
    let shorter = length-distinct xs (front ++ back) d.1 rest in
    omega (arith, shorter, ap length c.1.1.whole, length-append front (x ∷ back), length-append front back)
