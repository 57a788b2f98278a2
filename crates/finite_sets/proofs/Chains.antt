-- Ways by steps of a relation: laws of `Chain`.
use Rattle.std.proofs.Common.{◌≡◌, inl, inr, refl, ◌∙◌, subst}
use Rattle.finite_sets.specs.Chain.{Chain, EitherWay}
use Rattle.finite_sets.specs.Chain.Chain.{stay, go}

-- one step
pub Chain-one : {X : Type 0} {R : X → X → Type 0} {a b : X} → R a b → Chain R a b
Chain-one r = go r stay

-- one chain and then another
pub Chain-append : {X : Type 0} {R : X → X → Type 0} {a b c : X} → Chain R a b → Chain R b c → Chain R a c
Chain-append stay d = d
Chain-append (go r c) d = go r (Chain-append c d)

-- one more step at the end
pub Chain-push : {X : Type 0} {R : X → X → Type 0} {a b c : X} → Chain R a b → R b c → Chain R a c
Chain-push c r = Chain-append c (go r stay)

-- equal things are joined
pub Chain-same : {X : Type 0} (R : X → X → Type 0) (a b : X) → a ≡ b → Chain R a b
Chain-same {X} R a b e = let P : X → Type 0 = λ z. Chain R a z in subst P e stay

-- a chain of a symmetric relation, turned back
pub Chain-back : {X : Type 0} {R : X → X → Type 0} → ((a b : X) → R a b → R b a) → {a b : X} → Chain R a b → Chain R b a
Chain-back turn stay = stay
Chain-back turn (go {a = a} {b = b} r c) = Chain-append (Chain-back turn c) (go (turn a b r) stay)

-- each step goes over to a chain of the other relation
pub Chain-map : {X Y : Type 0} {R : X → X → Type 0} {S : Y → Y → Type 0} (f : X → Y) → ((a b : X) → R a b → Chain S (f a) (f b)) → {a b : X}
    → Chain R a b → Chain S (f a) (f b)
Chain-map f over stay = stay
Chain-map f over (go {a = a} {b = b} r c) = Chain-append (over a b r) (Chain-map f over c)

-- each step of the one is a chain of the other
pub Chain-through : {X : Type 0} {R S : X → X → Type 0} → ((a b : X) → R a b → Chain S a b) → {a b : X} → Chain R a b → Chain S a b
Chain-through over stay = stay
Chain-through over (go {a = a} {b = b} r c) = Chain-append (over a b r) (Chain-through over c)

-- a relation that the other implies
pub Chain-weaker : {X : Type 0} {R S : X → X → Type 0} → ((a b : X) → R a b → S a b) → {a b : X} → Chain R a b → Chain S a b
Chain-weaker over stay = stay
Chain-weaker over (go {a = a} {b = b} r c) = go (over a b r) (Chain-weaker over c)

-- what each step keeps, a chain keeps
pub Chain-keeps : {X Y : Type 0} {R : X → X → Type 0} (f : X → Y) → ((a b : X) → R a b → f a ≡ f b) → {a b : X} → Chain R a b → f a ≡ f b
Chain-keeps f keeps stay = refl
Chain-keeps f keeps (go {a = a} {b = b} r c) = keeps a b r ∙ Chain-keeps f keeps c

-- a fact that each step carries on
pub Chain-carries : {X : Type 0} {R : X → X → Type 0} (P : X → Type 0) → ((a b : X) → R a b → P a → P b) → {a b : X} → Chain R a b → P a → P b
Chain-carries P carry stay p = p
Chain-carries P carry (go {a = a} {b = b} r c) p = Chain-carries P carry c (carry a b r p)

-- a step either way, turned
pub EitherWay-back : {X : Type 0} (R : X → X → Type 0) (a b : X) → EitherWay R a b → EitherWay R b a
EitherWay-back R a b (inl r) = inr r
EitherWay-back R a b (inr r) = inl r

-- a chain of steps either way, turned back
pub Chain-either_back : {X : Type 0} (R : X → X → Type 0) {a b : X} → Chain (EitherWay R) a b → Chain (EitherWay R) b a
Chain-either_back R c = Chain-back (EitherWay-back R) c

-- where each step of R gives a chain either way of S, each chain does
pub Chain-either_through : {X : Type 0} (R S : X → X → Type 0) → ((a b : X) → R a b → Chain (EitherWay S) a b) → {a b : X} → Chain (EitherWay R) a b
    → Chain (EitherWay S) a b
Chain-either_through R S over c =
    Chain-through (λ a b h. elim h [ inl r ↦ over a b r | inr r ↦ Chain-either_back S (over b a r) ]) c
