-- The four edges at which two rectangles can touch: laws of `shared_beside` and `shared_upon`.
use Rattle.rect_contacts.proofs.Common.{◌≡◌, ◌≢◌, ℤ, pos, ◌≤ℤ◌, ◌<ℤ◌, Bool, true, false, ◌⊎◌, inl, inr, refl, sym, subst, arith, false≢true, ints}
use Rattle.rect_contacts.proofs.Common.{Rect, IsProper, shared_length}
use Rattle.std.proofs.Common.{cond, Decides}
use Rattle.std.specs.Ordering.{int_eq}
use Rattle.std.proofs.lemmas.Bool.Decides.{Decides-int_eq}
use Rattle.rect_contacts.specs.Contacts.{overlap, shared_beside, shared_upon}
use Rattle.rect_contacts.proofs.Intervals.{overlap-not_negative, overlap-from_before_to, overlap-to_after_from}

-- a choice by whether two integers are equal
chosen : (m n v : ℤ) → ((m ≡ n) × (cond (int_eq m n) v (pos 0) ≡ v)) ⊎ ((m ≢ n) × (cond (int_eq m n) v (pos 0) ≡ pos 0))
chosen m n v = go (int_eq m n) (Decides-int_eq m n)
  where
    go : (b : Bool) → Decides b (m ≡ n) → ((m ≡ n) × (cond b v (pos 0) ≡ v)) ⊎ ((m ≢ n) × (cond b v (pos 0) ≡ pos 0))
    go true d = inl (d.0 refl, refl)
    go false d = inr ((λ e. false≢true (d.1 e)), refl)

-- the edges are on one line, or nothing is shared
pub shared_beside-cases : (a b : Rect)
    → ((a.xhi ≡ b.xlo) × (shared_beside a b ≡ overlap a.ylo a.yhi b.ylo b.yhi)) ⊎ ((a.xhi ≢ b.xlo) × (shared_beside a b ≡ pos 0))
unfolding shared_beside
shared_beside-cases a b = chosen a.xhi b.xlo (overlap a.ylo a.yhi b.ylo b.yhi)

-- the same for upper and lower edges
pub shared_upon-cases : (a b : Rect) → ((a.yhi ≡ b.ylo) × (shared_upon a b ≡ overlap a.xlo a.xhi b.xlo b.xhi)) ⊎ ((a.yhi ≢ b.ylo) × (shared_upon a b ≡ pos 0))
unfolding shared_upon
shared_upon-cases a b = chosen a.yhi b.ylo (overlap a.xlo a.xhi b.xlo b.xhi)

-- what is shared is not negative
pub shared_beside-not_negative : (a b : Rect) → pos 0 ≤ℤ shared_beside a b
shared_beside-not_negative a b = elim (shared_beside-cases a b) [
  | inl k ↦ subst (λ (z : ℤ). pos 0 ≤ℤ z) (sym k.1) (overlap-not_negative a.ylo a.yhi b.ylo b.yhi)
  | inr k ↦ let none : shared_beside a b ≡ pos 0 = k.1 in omega (arith, ints)
]

-- the same for upper and lower edges
pub shared_upon-not_negative : (a b : Rect) → pos 0 ≤ℤ shared_upon a b
shared_upon-not_negative a b = elim (shared_upon-cases a b) [
  | inl k ↦ subst (λ (z : ℤ). pos 0 ≤ℤ z) (sym k.1) (overlap-not_negative a.xlo a.xhi b.xlo b.xhi)
  | inr k ↦ let none : shared_upon a b ≡ pos 0 = k.1 in omega (arith, ints)
]

-- whichever rectangle is named first
pub shared_length-comm : (a b : Rect) → shared_length a b ≡ shared_length b a
shared_length-comm a b = omega (arith, ints)

-- a rectangle that lies upon another does not lie beside it
pub upon_not_beside : (a b : Rect) → pos 0 <ℤ shared_upon a b → shared_beside a b ≡ pos 0
upon_not_beside a b h = elim (shared_beside-cases a b) [
  | inr k ↦ k.1
  | inl k ↦ elim (shared_upon-cases a b) [
    | inr l ↦ let none : shared_upon a b ≡ pos 0 = l.1 in absurd (omega (arith, ints))
    | inl l ↦
        let common : pos 0 <ℤ overlap a.xlo a.xhi b.xlo b.xhi = subst (λ (z : ℤ). pos 0 <ℤ z) l.1 h in
        let meets : a.xhi ≡ b.xlo = k.0 in
        let inside : b.xlo <ℤ a.xhi = overlap-to_after_from a.xlo a.xhi b.xlo b.xhi common in
        absurd (omega (arith, ints))
  ]
]

-- where one stands upon the other, the other is not beside it
pub upon_not_beside_back : (a b : Rect) → pos 0 <ℤ shared_upon a b → shared_beside b a ≡ pos 0
upon_not_beside_back a b h = elim (shared_beside-cases b a) [
  | inr k ↦ k.1
  | inl k ↦ elim (shared_upon-cases a b) [
    | inr l ↦ let none : shared_upon a b ≡ pos 0 = l.1 in absurd (omega (arith, ints))
    | inl l ↦
        let common : pos 0 <ℤ overlap a.xlo a.xhi b.xlo b.xhi = subst (λ (z : ℤ). pos 0 <ℤ z) l.1 h in
        let meets : b.xhi ≡ a.xlo = k.0 in
        let inside : a.xlo <ℤ b.xhi = overlap-from_before_to a.xlo a.xhi b.xlo b.xhi common in
        absurd (omega (arith, ints))
  ]
]

-- a rectangle shares nothing with itself
shared_beside-same : (a : Rect) → IsProper a → shared_beside a a ≡ pos 0
shared_beside-same a p = elim (shared_beside-cases a a) [
  | inl k ↦ let wide : a.xlo <ℤ a.xhi = p.wide in let same : a.xhi ≡ a.xlo = k.0 in absurd (omega (arith, ints))
  | inr k ↦ k.1
]

shared_upon-same : (a : Rect) → IsProper a → shared_upon a a ≡ pos 0
shared_upon-same a p = elim (shared_upon-cases a a) [
  | inl k ↦ let high : a.ylo <ℤ a.yhi = p.high in let same : a.yhi ≡ a.ylo = k.0 in absurd (omega (arith, ints))
  | inr k ↦ k.1
]

-- a rectangle shares nothing with itself
pub shared_length-same : (a : Rect) → IsProper a → shared_length a a ≡ pos 0
shared_length-same a p = let one = shared_beside-same a p in let other = shared_upon-same a p in omega (arith, ints)

-- no two rectangles share less than nothing
pub shared_length-not_negative : (a b : Rect) → pos 0 ≤ℤ shared_length a b
shared_length-not_negative a b =
    let m = shared_beside-not_negative a b in let n = shared_beside-not_negative b a in
    let u = shared_upon-not_negative a b in let v = shared_upon-not_negative b a in omega (arith, ints)
