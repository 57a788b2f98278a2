-- Things that are told apart, and lists of those that have a fact.
use Rattle.piece_groups.proofs.Common.{◌⊎◌, ℕ, List, [], ◌∷◌, inl, inr, refl, sym, subst, cases_eq, In}
use Rattle.finite_sets.specs.Lists.{Lists}
use Rattle.group_meetings.proofs.PlacesOnce.{AreTold, once_each}

-- two lists of things that are told apart are one, or they differ
list_told : {X : Type 0} → AreTold X → AreTold (List X)
list_told told [] [] = inl refl
list_told told [] (y ∷ ys) = inr (λ same. cc)
list_told told (x ∷ xs) [] = inr (λ same. cc)
list_told told (x ∷ xs) (y ∷ ys) = elim (told x y) [
  | inr differ ↦ inr (λ same. differ (cc))
  | inl first ↦ elim (list_told told xs ys) [ inr differ ↦ inr (λ same. differ (cc)) | inl rest ↦ inl (cc) ]
]

-- two names are one, or they differ
pub name_told : AreTold (List ℕ)
name_told = list_told cases_eq

-- The fact holds of the thing, or it does not.
abbrev pub IsDecided : {X : Type 0} → (X → Type 0) → Type 0
IsDecided {X} P = (x : X) → P x ⊎ (P x → ⊥)

-- something in the list has the fact, or nothing has it
pub some_or_none : {X : Type 0} (P : X → Type 0) → IsDecided P → (xs : List X) → ((x : X) × In x xs × P x) ⊎ ((x : X) → In x xs → P x → ⊥)
some_or_none P decided [] = inr (λ x none. absurd none)
some_or_none {X} P decided (y ∷ ys) = elim (decided y) [
  | inl here ↦ inl (y, inl refl, here)
  | inr not_here ↦ elim (some_or_none P decided ys) [
    | inl found ↦ inl (found.0, inr found.1, found.2)
    | inr none ↦ inr (λ x listed has. elim listed [ inl same ↦ not_here (subst P (sym same) has) | inr later ↦ none x later has ])
  ]
]

-- The second list has what the first has of the things with the fact.
record AreThoseWith {X : Type 0} (P : X → Type 0) (xs ys : List X) : Type 0 where
  have : (x : X) → In x ys → P x
  all : (x : X) → In x xs → P x → In x ys

-- the things of a list that have the fact
those_with : {X : Type 0} (P : X → Type 0) → IsDecided P → (xs : List X) → (ys : List X) × AreThoseWith P xs ys
those_with P decided [] = ([], record { have = λ x none. absurd none; all = λ x none. absurd none })
those_with {X} P decided (y ∷ ys) =
    let rest = those_with P decided ys in
    elim (decided y) [
      | inl here ↦ (
        y ∷ rest.0,
        record {
          have = λ x listed. elim listed [ inl same ↦ subst P same here | inr later ↦ rest.1.have x later ];
          all = λ x listed has. elim listed [ inl same ↦ inl same | inr later ↦ inr (rest.1.all x later has) ];
        },
      )
      | inr not_here ↦ (
        rest.0,
        record {
          have = rest.1.have;
          all = λ x listed has. elim listed [
            | inl same ↦ absurd (not_here (subst P (sym same) has))
            | inr later ↦ rest.1.all x later has
          ];
        },
      )
    ]

-- the things with a fact can be listed where they are among finitely many
pub listed_with : {X : Type 0} → AreTold X → (P : X → Type 0) → IsDecided P → (xs : List X) → ((x : X) → P x → In x xs) → (ys : List X) × Lists P ys
listed_with told P decided xs among =
    let those = those_with P decided xs in
    let once = once_each told those.0 in (
      once.0,
      (once.1.once, (λ x has. once.1.there x (those.1.all x (among x has) has)), (λ x listed. those.1.have x (once.1.back x listed))),
    )
