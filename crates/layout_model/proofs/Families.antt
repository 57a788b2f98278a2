-- Sums over sets that are made of several sets with nothing in common.
use Rattle.std.proofs.Common.{◌≡◌, ℤ, pos, Bool, true, false, cond, List, [], ◌∷◌, ◌⊎◌, inl, inr, refl, sym, subst}
use Rattle.geo_core.specs.FiniteSets.Lists.{In, Distinct}
use Rattle.geo_core.specs.FiniteSets.Total.{sum_on, Total}
use Rattle.geo_core.proofs.FiniteSets.Totals.{Total-none, Total-iff, Total-union}

-- x is in one of the sets of these labels
pub record InFamily {X L : Type 0} (Set : L → X → Type 0) (labels : List L) (x : X) : Type 0 where
  pub label : L
  pub among : In label labels
  pub inside : Set label x

later : {X L : Type 0} (Set : L → X → Type 0) (l : L) (labels : List L) (x : X) → InFamily Set labels x → InFamily Set (l ∷ labels) x
later Set l labels x h = record { label = h.label; among = inr h.among; inside = h.inside }

first_or_later : {X L : Type 0} (Set : L → X → Type 0) (l : L) (labels : List L) (x : X) → InFamily Set (l ∷ labels) x → Set l x ⊎ InFamily Set labels x
first_or_later {X} {L} Set l labels x h = elim h.among [
  | inl e ↦ inl (subst (λ (k : L). Set k x) (sym e) h.inside)
  | inr among ↦ inr (record { label = h.label; among = among; inside = h.inside })
]

-- the total of a family is the sum of the totals of its sets
pub Total-family : {X L : Type 0} (Set : L → X → Type 0) (w : X → ℤ) (part : L → ℤ) (labels : List L) → Distinct labels
    → ((k l : L) (x : X) → Set k x → Set l x → k ≡ l)
    → ((l : L) → In l labels → Total (Set l) w (part l))
    → Total (InFamily Set labels) w (sum_on part labels)
Total-family Set w part [] distinct apart parts = Total-none (InFamily Set []) w (λ x h. h.among)
Total-family {X} {L} Set w part (l ∷ labels) distinct apart parts =
    Total-iff (λ x. Set l x ⊎ InFamily Set labels x) (InFamily Set (l ∷ labels)) w (sum_on part (l ∷ labels))
    (λ x h. elim h [ inl first ↦ record { label = l; among = inl refl; inside = first } | inr rest ↦ later Set l labels x rest ])
    (λ x h. first_or_later Set l labels x h)
    (Total-union (Set l) (InFamily Set labels) w (part l) (sum_on part labels)
    (λ x first rest. distinct.0 (subst (λ (k : L). In k labels) (sym (apart l rest.label x first rest.inside)) rest.among))
    (parts l (inl refl))
    (Total-family Set w part labels distinct.1 apart (λ k among. parts k (inr among))))

-- a set that a test lets through or not
pub Total-gated : {X : Type 0} (Given : Type 0) (Set : X → Type 0) (w : X → ℤ) (n : ℤ) (test : Bool) → (test ≡ true → Given) → (Given → test ≡ true)
    → Total Set w n → Total (λ x. Given × Set x) w (cond test n (pos 0))
Total-gated Given Set w n true there back total = Total-iff Set (λ x. Given × Set x) w n (λ x h. (there refl, h)) (λ x h. h.1) total
Total-gated Given Set w n false there back total = Total-none (λ x. Given × Set x) w (λ x h. cc (back h.0))
