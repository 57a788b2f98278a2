-- The lists of finite sets: laws of `Lists`.
use Rattle.std.proofs.Common.{◌≡◌, ◌≤◌, Bool, true, List, [], ◌∷◌, ◌++◌, ◌⊎◌, inl, inr, map, filter, length, subst}
use Rattle.finite_sets.specs.Lists.{In, Distinct, Lists}
use Rattle.finite_sets.proofs.Members.{In-append_cases, In-append_left, In-append_right, In-map, In-map_source, In-filter, In-filter_source, In-filter_passes}
use Rattle.finite_sets.proofs.Distincts.{Distinct-append, Distinct-map, Distinct-filter, length-distinct}

-- nothing has the fact
pub Lists-none : {X : Type 0} (P : X → Type 0) → ((x : X) → P x → ⊥) → Lists P []
Lists-none P none = (tt, none, (λ x h. absurd h))

-- one thing has the fact
pub Lists-one : {X : Type 0} (x : X) → Lists (λ y. x ≡ y) (x ∷ [])
Lists-one x = (((λ h. h), tt), (λ y e. inl e), (λ y h. elim h [ inl e ↦ e | inr n ↦ absurd n ]))

-- what stands in a list
pub Lists-In : {X : Type 0} (xs : List X) → Distinct xs → Lists (λ x. In x xs) xs
Lists-In xs d = (d, (λ x h. h), (λ x h. h))

-- the same set under another fact
pub Lists-iff : {X : Type 0} (P Q : X → Type 0) (xs : List X) → ((x : X) → P x → Q x) → ((x : X) → Q x → P x) → Lists P xs → Lists Q xs
Lists-iff P Q xs there back l = (l.0, (λ x q. l.1 x (back x q)), (λ x h. there x (l.2 x h)))

-- the union of two sets with nothing in common
pub Lists-append : {X : Type 0} (P Q : X → Type 0) (xs ys : List X) → ((x : X) → P x → Q x → ⊥) → Lists P xs → Lists Q ys → Lists (λ x. P x ⊎ Q x) (xs ++ ys)
Lists-append P Q xs ys apart l m = (
  Distinct-append xs ys l.0 m.0 (λ x h k. apart x (l.2 x h) (m.2 x k)),
  (λ x h. elim h [ inl p ↦ In-append_left x xs ys (l.1 x p) | inr q ↦ In-append_right x xs ys (m.1 x q) ]),
  (λ x h. elim (In-append_cases x xs ys h) [ inl k ↦ inl (l.2 x k) | inr k ↦ inr (m.2 x k) ]),
)

-- the things of a set that pass a test
pub Lists-filter : {X : Type 0} (P : X → Type 0) (test : X → Bool) (xs : List X) → Lists P xs → Lists (λ x. P x × (test x ≡ true)) (filter test xs)
Lists-filter P test xs l = (
  Distinct-filter test xs l.0,
  (λ x h. In-filter test x xs (l.1 x h.0) h.1),
  (λ x h. (l.2 x (In-filter_source test x xs h), In-filter_passes test x xs h)),
)

-- the image of a set under a map that takes its things to different ones
pub Lists-map : {X Y : Type 0} (P : X → Type 0) (f : X → Y) (xs : List X) → ((a b : X) → P a → P b → f a ≡ f b → a ≡ b) → Lists P xs
    → Lists (λ y. (x : X) × (P x × (f x ≡ y))) (map f xs)
Lists-map {X} {Y} P f xs one l =
    let Q : Y → Y → Type 0 = λ y z. In z (map f xs) in (
      Distinct-map f xs (λ a b h k e. one a b (l.2 a h) (l.2 b k) e) l.0,
      (λ y h. subst (λ z. In z (map f xs)) h.1.1 (In-map f h.0 xs (l.1 h.0 h.1.0))),
      (λ y h. let s = In-map_source f y xs h in (s.0, (l.2 s.0 s.1.0, s.1.1))),
    )

-- the image of a set under a map that has an inverse
pub Lists-image : {X Y : Type 0} (P : X → Type 0) (f : X → Y) (back : Y → X) (xs : List X)
    → ((x : X) → back (f x) ≡ x) → ((y : Y) → f (back y) ≡ y) → Lists P xs → Lists (λ y. P (back y)) (map f xs)
Lists-image {X} {Y} P f back xs one two l = (
  Distinct-map f xs (λ a b h k e. cc (one a, one b)) l.0,
  (λ y p. subst (λ z. In z (map f xs)) (two y) (In-map f (back y) xs (l.1 (back y) p))),
  (λ y h. let s = In-map_source f y xs h in
      let e : s.0 ≡ back y = cc (one s.0, s.1.1) in subst P e (l.2 s.0 s.1.0)),
)

-- a part of a set has no longer a list
pub length-lists : {X : Type 0} (P Q : X → Type 0) (xs ys : List X) → ((x : X) → P x → Q x) → Lists P xs → Lists Q ys → length xs ≤ length ys
length-lists P Q xs ys part l m = length-distinct xs ys l.0 (λ a h. m.1 a (part a (l.2 a h)))
