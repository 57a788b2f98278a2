-- The texts of labels at the indices that have a fact, as the indices are gone through.
use Rattle.names.proofs.Common.{◌≡◌, ◌<◌, ◌+◌, ℕ, true, false, Option, Some, None, List, [], ◌∷◌, ◌++◌, get_or, inl, inr, arith, refl, sym, subst}
use Rattle.names.proofs.Common.{◌∙◌, ap, cases_eq, all_pairs_push, none-some, In, In-get_or, In-push_cases, In-push, In-append_left, Label}
use Rattle.names.proofs.Common.{AreTextsOf, text_at, key_at}
use Rattle.std.specs.Prelude.{is_some}
use Rattle.std.proofs.lemmas.List.{map_push}
use Rattle.geo_core.proofs.FiniteSets.Distincts.{Distinct-push}
use Rattle.geo_core.proofs.FiniteSets.Listings.{Lists-none, Lists-iff}

-- the index stands before this one, and the label at it names nothing
abbrev pub IsLeftBelow : List (Option ℕ) → ℕ → ℕ → Type 0
IsLeftBelow named n index = (index < n) × (key_at named index ≡ None)

module _ (labels : List Label) where
  -- the same indices by another fact
  pub texts_by : (P Q : ℕ → Type 0) (texts : List (List ℕ)) → ((k : ℕ) → P k → Q k) → ((k : ℕ) → Q k → P k) → AreTextsOf labels P texts
      → AreTextsOf labels Q texts
  texts_by P Q texts there back are = record {
    indices = are.indices;
    listed = Lists-iff P Q are.indices there back are.listed;
    in_order = are.in_order;
    are = are.are;
  }

  -- no label was looked at
  pub texts_none : (named : List (Option ℕ)) (texts : List (List ℕ)) → texts ≡ [] → AreTextsOf labels (IsLeftBelow named 0) texts
  texts_none named texts none = record {
    indices = [];
    listed = Lists-none (IsLeftBelow named 0) (λ k left. let less = left.0 in absurd (omega arith));
    in_order = λ i j d less below. absurd (omega arith);
    are = none;
  }

  -- one more label, which names something
  pub texts_same : (named : List (Option ℕ)) (n region : ℕ) (texts : List (List ℕ)) → key_at named n ≡ Some region
      → AreTextsOf labels (IsLeftBelow named n) texts
      → AreTextsOf labels (IsLeftBelow named (n + 1)) texts
  texts_same named n region texts names are = texts_by (IsLeftBelow named n) (IsLeftBelow named (n + 1)) texts
      (λ k left. let less = left.0 in (omega arith, left.1))
      (λ k left. let less = left.0 in elim (cases_eq k n) [
        | inl at ↦ absurd (none-some region (sym left.1 ∙ ap (key_at named) at ∙ names))
        | inr other ↦ (omega arith, left.1)
      ]) are

  -- one more label, which names nothing
  pub texts_more : (named : List (Option ℕ)) (n : ℕ) (texts new : List (List ℕ)) → key_at named n ≡ None → new ≡ texts ++ text_at labels n ∷ []
      → AreTextsOf labels (IsLeftBelow named n) texts → AreTextsOf labels (IsLeftBelow named (n + 1)) new
  texts_more named n texts new none added are =
      let indices = are.indices in
      record {
        indices = indices ++ n ∷ [];
        listed = (
          Distinct-push indices n are.listed.0 (λ among. let left = are.listed.2 n among in let less = left.0 in absurd (omega arith)),
          (λ k left. let less = left.0 in elim (cases_eq k n) [
            | inl at ↦ subst (λ (i : ℕ). In i (indices ++ n ∷ [])) (sym at) (In-push indices n)
            | inr other ↦ In-append_left k indices (n ∷ []) (are.listed.1 k (omega arith, left.1))
          ]),
          (λ k among. elim (In-push_cases k indices n among) [
            | inl before ↦ let left = are.listed.2 k before in let less = left.0 in (omega arith, left.1)
            | inr at ↦ (omega arith, sym (ap (key_at named) at) ∙ none)
          ]),
        );
        in_order = all_pairs_push ◌<◌ indices n are.in_order (λ k d inside. (are.listed.2 (get_or indices k d) (In-get_or indices k d inside)).0);
        are = added ∙ ap (λ (v : List (List ℕ)). v ++ text_at labels n ∷ []) are.are ∙ sym (map_push (text_at labels) indices n);
      }

-- what the test of an option says
pub none_from_test : (o : Option ℕ) → is_some o ≡ false → o ≡ None
none_from_test None is = refl
none_from_test (Some x) is = cc

pub some_from_test : (o : Option ℕ) → is_some o ≡ true → (x : ℕ) × (o ≡ Some x)
some_from_test None is = cc
some_from_test (Some x) is = (x, refl)
