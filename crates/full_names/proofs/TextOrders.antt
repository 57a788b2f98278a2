-- The texts of a record's own names, in order.
use Rattle.full_names.proofs.Common.{◌≡◌, ◌≢◌, ℕ, ◌<◌, Bool, true, List, length, get_or, filter, inl, inr, sym, ◌∙◌, ap, arith, Less, Equal, Greater}
use Rattle.full_names.proofs.Common.{nat_cmp-IsAntisymmetric, slice_cmp-IsAntisymmetric, nat_cmp, ordering_reverse, slice_cmp, cases_lt, nat_tests}
use Rattle.full_names.proofs.Common.{nat_list_cmp_total, tied_itself, IsPermutation-sym, In, Distinct, In-permutation, In-filter, In-filter_source}
use Rattle.full_names.proofs.Common.{In-filter_passes, IsSorted-pairs, AllPairs-permutation, CellExt, node_names, OwnName, is_wanted, texts_of}
use Rattle.full_names.proofs.Common.{AreOwnNames}
use Rattle.std.specs.Prelude.{AllPairs}
use Rattle.ext_model.proofs.FiniteSets.Distincts.{Distinct-filter, Distinct-places}
use Rattle.full_names.proofs.GlobalLaws.{less_from_reverse}

less_is : (m n : ℕ) → m < n → nat_cmp m n ≡ Less
less_is m n h = grind (arith, nat_tests)

more_is : (m n : ℕ) → n < m → nat_cmp m n ≡ Greater
more_is m n h = grind (arith, nat_tests)

same_is : (m n : ℕ) → m ≡ n → nat_cmp m n ≡ Equal
same_is m n h = grind (arith, nat_tests)

module _ (global : Bool) (ext : CellExt) (names : List OwnName) (are : AreOwnNames global ext names) where
  -- a name of the kind stands among the names
  pub text_stands : (text : List ℕ) → In text (node_names ext) → is_wanted global text ≡ true → In text (texts_of names)
  text_stands text here wanted = In-permutation text (filter (is_wanted global) (node_names ext)) (texts_of names) are.moved
      (In-filter (is_wanted global) text (node_names ext) here wanted)

  back : (text : List ℕ) → In text (texts_of names) → In text (filter (is_wanted global) (node_names ext))
  back text here = In-permutation text (texts_of names) (filter (is_wanted global) (node_names ext))
      (IsPermutation-sym (filter (is_wanted global) (node_names ext)) (texts_of names) are.moved) here

  pub text_is_name : (text : List ℕ) → In text (texts_of names) → In text (node_names ext)
  text_is_name text here = In-filter_source (is_wanted global) text (node_names ext) (back text here)

  pub text_is_wanted : (text : List ℕ) → In text (texts_of names) → is_wanted global text ≡ true
  text_is_wanted text here = In-filter_passes (is_wanted global) text (node_names ext) (back text here)

  module _ (differ : Distinct (node_names ext)) where
    texts_differ : AllPairs (λ a b. a ≢ b) (texts_of names)
    texts_differ = AllPairs-permutation (λ (a b : List ℕ). a ≢ b) (λ a b apart same. apart (sym same)) (filter (is_wanted global) (node_names ext))
        (texts_of names) are.moved
        (λ i j d less below. Distinct-places (filter (is_wanted global) (node_names ext)) i j d (Distinct-filter (is_wanted global)
        (node_names ext) differ) less below)

    text_less : (i j : ℕ) (d : List ℕ) → i < j → j < length (texts_of names)
        → slice_cmp nat_cmp (get_or (texts_of names) i d) (get_or (texts_of names) j d) ≡ Less
    text_less i j d less below =
        let a = get_or (texts_of names) i d in
        let b = get_or (texts_of names) j d in
        less_from_reverse (slice_cmp nat_cmp a b) (slice_cmp nat_cmp b a) (nat_list_cmp_total.antisymm a b)
        (IsSorted-pairs (slice_cmp nat_cmp) nat_list_cmp_total (texts_of names) are.in_order i j d less below)
        (λ tied. texts_differ i j d less below (sym (slice_cmp-IsAntisymmetric nat_cmp-IsAntisymmetric b a tied)))

    -- places compare as the texts there
    pub places_compare : (i j : ℕ) (d : List ℕ) → i < length (texts_of names) → j < length (texts_of names)
        → nat_cmp i j ≡ slice_cmp nat_cmp (get_or (texts_of names) i d) (get_or (texts_of names) j d)
    places_compare i j d within inside =
        let a = get_or (texts_of names) i d in
        let b = get_or (texts_of names) j d in
        elim (cases_lt i j) [
          | inl less ↦ less_is i j less ∙ sym (text_less i j d less inside)
          | inr not_less ↦ (elim (cases_lt j i) [
            | inl more ↦ more_is i j more ∙ sym (nat_list_cmp_total.antisymm a b ∙ ap ordering_reverse (text_less j i d more within))
            | inr not_more ↦ (let same : i ≡ j = omega arith in
                same_is i j same
                ∙ sym (ap (λ (k : ℕ). slice_cmp nat_cmp (get_or (texts_of names) k d) b) same ∙ tied_itself nat_list_cmp_total b))
          ])
        ]
