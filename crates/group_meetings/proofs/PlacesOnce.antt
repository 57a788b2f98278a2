-- Lists of places that have each place once.
use Rattle.group_meetings.proofs.Common.{◌≡◌, ◌⊎◌, ℕ, ℤ, List, [], ◌∷◌, inl, inr, ap, subst, ◌∙◌, arith, ints, cases_eq, In, Distinct, Place}
use Rattle.std.specs.Ordering.{int_eq}
use Rattle.std.proofs.lemmas.Bool.{cases_Bool}
use Rattle.tech_model.proofs.GeoCore.SquareLaws.{square_is}
use Rattle.group_meetings.proofs.FloodNodes.TileEdges.{place_on}

-- Two things are one, or they differ.
abbrev pub AreTold : Type 0 → Type 0
AreTold X = (a b : X) → (a ≡ b) ⊎ (a ≡ b → ⊥)

-- The list has the same things, each once.
pub record IsOnceEach {X : Type 0} (xs ys : List X) : Type 0 where
  pub once : Distinct ys
  pub there : (x : X) → In x xs → In x ys
  pub back : (x : X) → In x ys → In x xs

-- a thing stands in a list, or does not
in_or_not : {X : Type 0} → AreTold X → (x : X) (xs : List X) → In x xs ⊎ (In x xs → ⊥)
in_or_not told x [] = inr (λ none. none)
in_or_not told x (y ∷ ys) = elim (told y x) [
  | inl same ↦ inl (inl same)
  | inr differ ↦ elim (in_or_not told x ys) [
    | inl later ↦ inl (inr later)
    | inr absent ↦ inr (λ listed. elim listed [ inl same ↦ differ same | inr later ↦ absent later ])
  ]
]

-- each list has one with the same things, each once
pub once_each : {X : Type 0} → AreTold X → (xs : List X) → (ys : List X) × IsOnceEach xs ys
once_each told [] = ([], record { once = tt; there = λ x none. none; back = λ x none. none })
once_each {X} told (x ∷ xs) =
    let rest = once_each told xs in
    elim (in_or_not told x rest.0) [
      | inl listed ↦ (
        rest.0,
        record {
          once = rest.1.once;
          there = λ y here. elim here [ inl same ↦ (let P : X → Type 0 = λ z. In z rest.0 in subst P same listed) | inr later ↦ rest.1.there y later ];
          back = λ y here. inr (rest.1.back y here);
        },
      )
      | inr absent ↦ (
        x ∷ rest.0,
        record {
          once = (absent, rest.1.once);
          there = λ y here. elim here [ inl same ↦ inl same | inr later ↦ inr (rest.1.there y later) ];
          back = λ y here. elim here [ inl same ↦ inl same | inr later ↦ inr (rest.1.back y later) ];
        },
      )
    ]

-- two integers are one, or they differ
int_told : AreTold ℤ
int_told a b = elim (cases_Bool (int_eq a b)) [ inl test ↦ inl (grind (arith, ints)) | inr test ↦ inr (λ same. grind (arith, ints)) ]

-- two places are one, or they differ
pub place_told : AreTold Place
place_told a b = elim (cases_eq a.plane b.plane) [
  | inr apart ↦ inr (λ same. apart (ap (λ (p : Place). p.plane) same))
  | inl planes ↦ elim (int_told a.square.x b.square.x) [
    | inr apart ↦ inr (λ same. apart (ap (λ (p : Place). p.square.x) same))
    | inl columns ↦ elim (int_told a.square.y b.square.y) [
      | inr apart ↦ inr (λ same. apart (ap (λ (p : Place). p.square.y) same))
      | inl rows ↦
          inl (ap (λ (plane : ℕ). place_on plane a.square) planes ∙ ap (place_on b.plane) (square_is a.square b.square columns rows))
    ]
  ]
]
