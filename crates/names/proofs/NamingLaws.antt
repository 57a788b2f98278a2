-- The names of nodes: texts in name order, each once.
use Rattle.names.proofs.Common.{◌≡◌, ℕ, Bool, true, List, map, inl, inr, refl, sym, subst, ◌∙◌, ap, IsPermutation, is_eq, Less, Equal, Greater}
use Rattle.names.proofs.Common.{cases_Bool, false≢true, tied_itself, IsPermutation-sym, In, In-permutation, Label, name_cmp, name_cmp_total, text_at}
use Rattle.std.proofs.Common.{Ordering}
use Rattle.std.specs.Prelude.{IsSorted}
use Rattle.std.specs.Cmp.{IsEquivalence}
use Rattle.std.specs.List.{dedup}
use Rattle.std.specs.List.Sorted.{IsStrictlySortedBy}
use Rattle.std.specs.Ordering.{eq_by_cmp}
use Rattle.std.proofs.lemmas.Bool.{false_from_ne_true}
use Rattle.std.proofs.lemmas.List.Kept.{Contains-dedup, Contains-from_dedup, IsStrictlySortedBy-dedup}
use Rattle.std.proofs.lemmas.Map.Keys.{Less-from_sorted}
use Rattle.geo_core.proofs.FiniteSets.Members.{In-map, In-map_source, In-from_Contains, Contains-from_In}
use Rattle.ext_model.proofs.NameOrders.{name_cmp_exact}
use Rattle.names.specs.steps.Groups.{AreNamesAt}

equal_from_test : (order : Ordering) → is_eq order ≡ true → order ≡ Equal
equal_from_test Less is = absurd (false≢true is)
equal_from_test Equal is = refl
equal_from_test Greater is = absurd (false≢true is)

-- a test that holds of equal texts alone, and of each, holds where names tie
ties_by : (test : List ℕ → List ℕ → Bool) → ((x y : List ℕ) → test x y ≡ true → x ≡ y) → ((x : List ℕ) → test x x ≡ true) → (x y : List ℕ)
    → test x y ≡ eq_by_cmp name_cmp x y
ties_by test same itself x y = elim (cases_Bool (eq_by_cmp name_cmp x y)) [
  | inl tie ↦ (let one = name_cmp_exact x y (equal_from_test (name_cmp x y) tie) in ap (test x) (sym one) ∙ itself x ∙ sym tie)
  | inr apart ↦ false_from_ne_true (test x y) (λ holds. let one = same x y holds in
      false≢true (sym apart ∙ sym (ap (eq_by_cmp name_cmp x) one) ∙ ap is_eq (tied_itself name_cmp_total x))) ∙ sym apart
]

module _ (labels : List Label) (indices : List ℕ) (texts sorted names : List (List ℕ)) (test : List ℕ → List ℕ → Bool) (equivalence : IsEquivalence test)
    (same : (x y : List ℕ) → test x y ≡ true → x ≡ y) (are : texts ≡ map (text_at labels) indices) (moved : IsPermutation texts sorted)
    (in_order : IsSorted name_cmp sorted) (kept : names ≡ dedup test sorted) where
  -- the texts of labels, sorted and each kept once, are their names
  pub names_kept : AreNamesAt labels indices names
  names_kept = record {
    sound = λ name among.
        let in_sorted = In-from_Contains name sorted
        (Contains-from_dedup test sorted name (Contains-from_In name (dedup test sorted) (subst (In name) kept among))) in
        let in_texts = In-permutation name sorted texts (IsPermutation-sym texts sorted moved) in_sorted in
        let source = In-map_source (text_at labels) name indices (subst (In name) are in_texts) in
        (source.0, source.1.0, source.1.1);
    whole = λ index among.
        let name = text_at labels index in
        let in_texts = subst (In name) (sym are) (In-map (text_at labels) index indices among) in
        let in_sorted = In-permutation name texts sorted moved in_texts in
        subst (In name) (sym kept) (In-from_Contains name (dedup test sorted)
        (Contains-dedup equivalence same sorted name (Contains-from_In name sorted in_sorted)));
    in_order = λ i j d less below.
        let strict = subst (IsStrictlySortedBy name_cmp) (sym kept) (IsStrictlySortedBy-dedup name_cmp_total {E = test}
        (ties_by test same (λ x. equivalence.refl x)) sorted in_order) in
        Less-from_sorted name_cmp names i j d strict less below;
  }
