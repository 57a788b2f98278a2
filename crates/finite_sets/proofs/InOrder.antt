-- Lists in an order: laws of `IsInOrder`, and that in a strict order there is one list of the same things.
use Rattle.std.proofs.Common.{◌≡◌, List, [], ◌∷◌, inl, inr, refl, sym, ◌∙◌, subst}
use Rattle.finite_sets.specs.Laws.{IsTransitive}
use Rattle.finite_sets.specs.Lists.{In, Distinct}
use Rattle.finite_sets.specs.Order.{IsInOrder}
use Rattle.finite_sets.proofs.Pairs.{Pairwise}

-- where each thing stands before the next, each stands before all that follow
pub Pairwise-from_order : {X : Type 0} (R : X → X → Type 0) → IsTransitive R → (xs : List X) → IsInOrder R xs → Pairwise R xs
Pairwise-from_order R through [] ordered = tt
Pairwise-from_order R through (x ∷ []) ordered = ((λ y here. absurd here), tt)
Pairwise-from_order R through (x ∷ next ∷ xs) ordered =
    let rest = Pairwise-from_order R through (next ∷ xs) ordered.1 in (
      (λ y here. elim here [
        | inl this ↦ subst (R x) this ordered.0
        | inr later ↦ through x next y ordered.0 (rest.0 y later)
      ]),
      rest,
    )

-- where each thing stands before all that follow, each stands before the next
pub order-from_Pairwise : {X : Type 0} (R : X → X → Type 0) (xs : List X) → Pairwise R xs → IsInOrder R xs
order-from_Pairwise R [] ordered = tt
order-from_Pairwise R (x ∷ []) ordered = tt
order-from_Pairwise R (x ∷ next ∷ xs) ordered = (ordered.0 next (inl refl), order-from_Pairwise R (next ∷ xs) ordered.1)

module _ {X : Type 0} (R : X → X → Type 0) (strict : (a : X) → R a a → ⊥) where
  -- in a strict order nothing stands twice
  pub Distinct-by_order : (xs : List X) → Pairwise R xs → Distinct xs
  Distinct-by_order [] ordered = tt
  Distinct-by_order (x ∷ xs) ordered = ((λ here. strict x (ordered.0 x here)), Distinct-by_order xs ordered.1)

  -- behind first things that are equal, what stands in the one list stands in the other
  rest_within : (x y : X) (xs ys : List X) → x ≡ y → Pairwise R (x ∷ xs) → ((z : X) → In z (x ∷ xs) → In z (y ∷ ys)) → (z : X) → In z xs → In z ys
  rest_within x y xs ys first ordered there z here = elim (there z (inr here)) [
    | inl same ↦ absurd (strict z (subst (λ (a : X). R a z) (first ∙ same) (ordered.0 z here)))
    | inr later ↦ later
  ]

  -- two lists in one strict order that have the same things are one
  pub same_by_order : IsTransitive R → (xs ys : List X) → Pairwise R xs → Pairwise R ys → ((x : X) → In x xs → In x ys) → ((x : X) → In x ys → In x xs)
      → xs ≡ ys
  same_by_order through [] [] p q there back = refl
  same_by_order through [] (y ∷ ys) p q there back = absurd (back y (inl refl))
  same_by_order through (x ∷ xs) [] p q there back = absurd (there x (inl refl))
  same_by_order through (x ∷ xs) (y ∷ ys) p q there back =
      let first : x ≡ y = elim (there x (inl refl)) [
        | inl same ↦ sym same
        | inr behind ↦ elim (back y (inl refl)) [
          | inl same ↦ same
          | inr after ↦ absurd (strict x (through x y x (p.0 y after) (q.0 x behind)))
        ]
      ] in
      let rest = same_by_order through xs ys p.1 q.1 (rest_within x y xs ys first p there) (rest_within y x ys xs (sym first) q back) in
      (λ i. first i ∷ rest i)
