-- What a binary search among texts in order tells.
use Rattle.full_names.proofs.Common.{◌≡◌, ℕ, inl, inr, List, Option, Some, Result, Ok, Err, length, map, get_or, sym, ◌∙◌, ap, subst, arith}
use Rattle.full_names.proofs.Common.{slice_get, IsTotalOrder, option_map, is_lt, Ordering, Less, Equal, Greater, cases_lt, tied_itself}
use Rattle.full_names.proofs.Common.{slice_get-map, get_or_from_slice_get, In, In-map_source, In-index, slice_get-below}
use Rattle.std.specs.Prelude.{IfSome, IfNone}
use Rattle.std.specs.List.Sorted.{IsBinarySearchResult, IsSearchInRange, IsSorted}
use Rattle.std.specs.Result.{result_ok}
use Rattle.std.proofs.lemmas.List.Sorted.{searchable_from_sorted}
use Rattle.full_names.proofs.Lookups.{sorted_unmap}

-- Of things that are in the order of their texts, an order that tells texts apart.
module _ {X : Type 0} (text_of : X → List ℕ) (cmp : List ℕ → List ℕ → Ordering) (total : IsTotalOrder cmp)
    (exact : (a b : List ℕ) → cmp a b ≡ Equal → a ≡ b) where
  abbrev Answers : List X → List ℕ → Result ℕ ℕ → Type 0
  Answers xs text r = IsSearchInRange r (length xs) × IsBinarySearchResult (λ x. cmp (text_of x) text) xs r

  -- what is found has the text
  pub text_found : (xs : List X) (text : List ℕ) (r : Result ℕ ℕ) (o : Option ℕ) → o ≡ result_ok r → Answers xs text r
      → IfSome o (λ place. slice_get (map text_of xs) place ≡ Some text)
  text_found xs text (Ok place) o is answers =
      let there = slice_get-below xs place answers.0 in
      let here = get_or_from_slice_get xs place there.0 there.0 there.1 in
      let same = exact (text_of there.0) text (subst (λ (x : X). cmp (text_of x) text ≡ Equal) here (answers.1 there.0)) in
      subst (λ (p : Option ℕ). IfSome p (λ place. slice_get (map text_of xs) place ≡ Some text)) (sym is)
      (slice_get-map text_of xs place ∙ ap (option_map text_of) there.1 ∙ ap Some same)
  text_found xs text (Err place) o is answers =
      subst (λ (p : Option ℕ). IfSome p (λ place. slice_get (map text_of xs) place ≡ Some text)) (sym is) tt

  tied : (text other : List ℕ) → other ≡ text → cmp other text ≡ Equal
  tied text other same = ap (λ (t : List ℕ). cmp t text) same ∙ tied_itself total text

  -- where nothing is found none has the text
  pub text_missing : (xs : List X) (text : List ℕ) (r : Result ℕ ℕ) (o : Option ℕ) → o ≡ result_ok r → IsSorted cmp (map text_of xs) → Answers xs text r
      → IfNone o (In text (map text_of xs) → ⊥)
  text_missing xs text (Ok place) o is sorted answers =
      subst (λ (p : Option ℕ). IfNone p (In text (map text_of xs) → ⊥)) (sym is) tt
  text_missing xs text (Err place) o is sorted answers =
      let parts = answers.1 (searchable_from_sorted total text_of xs text (sorted_unmap text_of (λ a b. is_lt (cmp a b)) xs sorted)) in
      subst (λ (p : Option ℕ). IfNone p (In text (map text_of xs) → ⊥)) (sym is)
      (λ here.
      let source = In-map_source text_of text xs here in
      let at = In-index source.0 xs source.1.0 in
      let equal = tied text (text_of source.0) source.1.1 in
      let there : get_or xs at.0 source.0 ≡ source.0 = at.1.1 source.0 in
      elim (cases_lt at.0 place) as (λ _. ⊥) [
        | inl before ↦ (let less : cmp (text_of (get_or xs at.0 source.0)) text ≡ Less = parts.0 at.0 source.0 (omega arith) before in
            let other = subst (λ (x : X). cmp (text_of x) text ≡ Less) there less in cc)
        | inr behind ↦ (let greater : cmp (text_of (get_or xs at.0 source.0)) text ≡ Greater = parts.1 at.0 source.0 behind at.1.0 in
            let other = subst (λ (x : X). cmp (text_of x) text ≡ Greater) there greater in cc)
      ])
