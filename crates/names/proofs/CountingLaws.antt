-- Labels that are counted one after another.
use Rattle.names.proofs.Common.{◌≡◌, ◌≢◌, ◌<◌, ◌+◌, ◌⊎◌, ℕ, Bool, true, false, Option, Some, None, List, [], ◌∷◌, ◌++◌, length, get_or, inl, inr}
use Rattle.names.proofs.Common.{arith, refl, sym, subst, ◌∙◌, ap, nat_cmp, Ordering, Less, Equal, Greater, slice_cmp, nat_cmp-IsAntisymmetric}
use Rattle.names.proofs.Common.{slice_cmp-IsAntisymmetric, cases_eq, tied_itself, get_or_append_left, get_or_push, length_push, none-some, same_Some}
use Rattle.names.proofs.Common.{EitherWay, In, Chain-one, Chain-append, Chain-same, Chain-weaker, In-append_left, IsJoined, IsPair, is_global}
use Rattle.names.proofs.Common.{IsCounted, IsNamed, ShareText, AreCounted}
use Rattle.std.specs.Option.{unwrap_or}
use Rattle.std.proofs.lemmas.Cmp.{nat_list_cmp_total}
use Rattle.geo_core.proofs.FiniteSets.Chains.{Chain-either_back}
use Rattle.geo_core.proofs.FiniteSets.Members.{In-append_right, In-append_cases}
use Rattle.names.specs.steps.CountedLabels.{counted_region, joined_pair, IsFirstRegion}

-- two texts are one or not
pub same_or_not : (a b : List ℕ) → (a ≡ b) ⊎ (a ≢ b)
same_or_not a b = by_order (slice_cmp nat_cmp a b) refl
  where
    itself : a ≡ b → slice_cmp nat_cmp a b ≡ Equal
    itself e = sym (ap (slice_cmp nat_cmp a) e) ∙ tied_itself nat_list_cmp_total a

    by_order : (order : Ordering) → slice_cmp nat_cmp a b ≡ order → (a ≡ b) ⊎ (a ≢ b)
    by_order Less is = inr (λ e. let tied : Less ≡ Equal = sym is ∙ itself e in absurd (cc))
    by_order Equal is = inl (slice_cmp-IsAntisymmetric nat_cmp-IsAntisymmetric a b is)
    by_order Greater is = inr (λ e. let tied : Greater ≡ Equal = sym is ∙ itself e in absurd (cc))

module _ (texts : ℕ → List ℕ) (founds : ℕ → Option ℕ) where
  -- what the first labels say of a text: the region of the first of them with it that attaches, if one does
  abbrev pub IsFirstOf : ℕ → List ℕ → Option ℕ → Type 0
  IsFirstOf n text None = (k : ℕ) → k < n → texts k ≡ text → founds k ≡ None
  IsFirstOf n text (Some region) = (k : ℕ) × ((k < n) × IsFirstRegion texts founds text region k)

  -- The first labels were counted.
  pub record HasCounted (n : ℕ) (first : List ℕ → Option ℕ) (named : List (Option ℕ)) (pairs : List (ℕ × ℕ)) : Type 0 where
    pub so_many : length named ≡ n
    pub firsts : (text : List ℕ) → IsFirstOf n text (first text)
    pub each : (k : ℕ) → k < n → IsNamed texts founds k (get_or named k None)
    pub sound : (r s : ℕ) → IsPair pairs r s → ShareText texts founds n r s
    pub joined : (k r s : ℕ) → k < n → is_global (texts k) ≡ true → founds k ≡ Some s → first (texts k) ≡ Some r → IsJoined (IsPair pairs) r s

  -- no label was counted
  pub counted_none : (first : List ℕ → Option ℕ) (named : List (Option ℕ)) (pairs : List (ℕ × ℕ)) → ((text : List ℕ) → first text ≡ None) → named ≡ []
      → pairs ≡ [] → HasCounted 0 first named pairs
  counted_none first named pairs no_first no_named no_pairs = record {
    so_many = ap length no_named;
    firsts = λ text. subst (IsFirstOf 0 text) (sym (no_first text)) (λ k below. absurd (omega arith));
    each = λ k below. absurd (omega arith);
    sound = λ r s pair. absurd (subst (λ (ps : List (ℕ × ℕ)). IsPair ps r s) no_pairs pair);
    joined = λ k r s below. absurd (omega arith);
  }

  share_more : (n r s : ℕ) → ShareText texts founds n r s → ShareText texts founds (n + 1) r s
  share_more n r s share = let one = share.one_below in let other = share.other_below in record {
    one = share.one;
    other = share.other;
    one_below = omega arith;
    other_below = omega arith;
    same = share.same;
    global = share.global;
    here = share.here;
    there = share.there;
  }

  -- a first region, and one more label with another text or without a region
  first_more : (n : ℕ) (text : List ℕ) (found : Option ℕ) → (texts n ≡ text → founds n ≡ None) → IsFirstOf n text found → IsFirstOf (n + 1) text found
  first_more n text None no_more first = λ k below same. elim (cases_eq k n) [
    | inl at ↦ ap founds at ∙ no_more (sym (ap texts at) ∙ same)
    | inr other ↦ first k (omega arith) same
  ]
  first_more n text (Some region) no_more first = let below = first.1.0 in (first.0, (omega arith, first.1.1))

  -- what stands at an index once one more was added
  named_more : (n : ℕ) (named : List (Option ℕ)) (one : Option ℕ) → length named ≡ n → ((k : ℕ) → k < n → IsNamed texts founds k (get_or named k None))
      → IsNamed texts founds n one → (k : ℕ) → k < n + 1 → IsNamed texts founds k (get_or (named ++ one ∷ []) k None)
  named_more n named one many each here k below = elim (cases_eq k n) [
    | inl at ↦ subst (IsNamed texts founds k) (sym (get_or_push named one None k (many ∙ sym at))) (subst (λ (i : ℕ). IsNamed texts founds i one) (sym at) here)
    | inr other ↦ subst (IsNamed texts founds k) (sym (get_or_append_left named (one ∷ []) None k (omega arith))) (each k (omega arith))
  ]

  -- one more label that attaches nowhere
  pub counted_nowhere : (n : ℕ) (first : List ℕ → Option ℕ) (named new : List (Option ℕ)) (pairs : List (ℕ × ℕ)) → founds n ≡ None → new ≡ named ++ None ∷ []
      → HasCounted n first named pairs → HasCounted (n + 1) first new pairs
  counted_nowhere n first named new pairs nowhere added has = subst (λ (v : List (Option ℕ)). HasCounted (n + 1) first v pairs) (sym added) (record {
    so_many = length_push named None ∙ ap (λ (k : ℕ). k + 1) has.so_many;
    firsts = λ text. first_more n text (first text) (λ same. nowhere) (has.firsts text);
    each = named_more n named None has.so_many has.each (inl nowhere);
    sound = λ r s pair. share_more n r s (has.sound r s pair);
    joined = λ k r s below global found is. elim (cases_eq k n) [
      | inl at ↦ absurd (none-some s (sym nowhere ∙ sym (ap founds at) ∙ found))
      | inr other ↦ has.joined k r s (omega arith) global found is
    ];
  })

  module _ (n region : ℕ) (first later : List ℕ → Option ℕ) (named new : List (Option ℕ)) (old pairs : List (ℕ × ℕ)) (one : Option ℕ)
      (here : founds n ≡ Some region) (counted : IsCounted (texts n) region first later old pairs one) (added : new ≡ named ++ one ∷ [])
      (has : HasCounted n first named old) where
    -- the first region of this label's text, as it was and as it is
    first_here : (found : Option ℕ) → IsFirstOf n (texts n) found → IsFirstOf (n + 1) (texts n) (Some (unwrap_or found region))
    first_here None none = (n, (omega arith, record { is = refl; attaches = here; first = λ k below same. none k below same }))
    first_here (Some r) before = let below = before.1.0 in (before.0, (omega arith, before.1.1))

    firsts_then : (text : List ℕ) → IsFirstOf (n + 1) text (later text)
    firsts_then text = elim (same_or_not text (texts n)) [
      | inl same ↦ subst (λ (t : List ℕ). IsFirstOf (n + 1) t (later t)) (sym same)
          (subst (IsFirstOf (n + 1) (texts n)) (sym counted.here) (first_here (first (texts n)) (has.firsts (texts n))))
      | inr other ↦ subst (IsFirstOf (n + 1) text) (sym (counted.elsewhere text other))
          (first_more n text (first text) (λ same. absurd (other (sym same))) (has.firsts text))
    ]

    named_here : (global : Bool) (found : Option ℕ) → is_global (texts n) ≡ global → IsFirstOf n (texts n) found
        → IsNamed texts founds n (counted_region global found region)
    named_here global None is none = (here, inr (λ k below same. none k below same))
    named_here true (Some r) is before = (here, inl is)
    named_here false (Some r) is before =
        let attaches = before.1.1.attaches in
        inr (is, (before.0, before.1.0, before.1.1.is, (λ none. none-some r (sym none ∙ attaches))))

    sound_pair : (global : Bool) (found : Option ℕ) → is_global (texts n) ≡ global → IsFirstOf n (texts n) found → (r s : ℕ)
        → IsPair (joined_pair global found region) r s → ShareText texts founds (n + 1) r s
    sound_pair global None is none r s pair = absurd pair
    sound_pair false (Some f) is before r s pair = absurd pair
    sound_pair true (Some f) is before r s (inr pair) = absurd pair
    sound_pair true (Some f) is before r s (inl same) =
        let below = before.1.0 in
        record {
          one = before.0;
          other = n;
          one_below = omega arith;
          other_below = omega arith;
          same = before.1.1.is;
          global = ap is_global before.1.1.is ∙ is;
          here = before.1.1.attaches ∙ ap (λ (p : ℕ × ℕ). Some p.0) same;
          there = here ∙ ap (λ (p : ℕ × ℕ). Some p.1) same;
        }

    sound_then : (r s : ℕ) → IsPair pairs r s → ShareText texts founds (n + 1) r s
    sound_then r s pair =
        let more = joined_pair (is_global (texts n)) (first (texts n)) region in
        elim (In-append_cases {X = ℕ × ℕ} (r, s) old more (subst (λ (ps : List (ℕ × ℕ)). IsPair ps r s) counted.pairs pair)) [
          | inl before ↦ share_more n r s (has.sound r s before)
          | inr now ↦ sound_pair (is_global (texts n)) (first (texts n)) refl (has.firsts (texts n)) r s now
        ]

    kept : (r s : ℕ) → IsJoined (IsPair old) r s → IsJoined (IsPair pairs) r s
    kept r s joined =
        let more = joined_pair (is_global (texts n)) (first (texts n)) region in
        let pair : (a b : ℕ) → IsPair old a b → IsPair pairs a b = λ a b p. subst (λ (ps : List (ℕ × ℕ)). IsPair ps a b) (sym counted.pairs)
        (In-append_left {X = ℕ × ℕ} (a, b) old more p) in
        Chain-weaker (λ a b either. elim either [ inl p ↦ inl (pair a b p) | inr p ↦ inr (pair b a p) ]) joined

    -- the first region of a text, and one that another label of it attaches to
    joined_here : (found : Option ℕ) → first (texts n) ≡ found → is_global (texts n) ≡ true → (r : ℕ) → Some (unwrap_or found region) ≡ Some r
        → IsJoined (IsPair pairs) r region
    joined_here None is global r same = Chain-same (EitherWay (IsPair pairs)) r region (sym (same_Some region r same))
    joined_here (Some f) is global r same =
        let pair : In {X = ℕ × ℕ} (f, region) (joined_pair (is_global (texts n)) (first (texts n)) region) = rw (global, is) (inl refl) in
        let there : IsPair pairs f region = subst (λ (ps : List (ℕ × ℕ)). IsPair ps f region) (sym counted.pairs)
        (In-append_right {X = ℕ × ℕ} (f, region) old (joined_pair (is_global (texts n)) (first (texts n)) region) pair) in
        subst (λ (k : ℕ). IsJoined (IsPair pairs) k region) (same_Some f r same) (Chain-one (inl there))

    joined_before : (k s r : ℕ) → k < n → is_global (texts k) ≡ true → founds k ≡ Some s → texts k ≡ texts n → (found : Option ℕ) → first (texts n) ≡ found
        → IsFirstOf n (texts n) found → Some (unwrap_or found region) ≡ Some r → IsJoined (IsPair pairs) r s
    joined_before k s r below global attaches same None is none told = absurd (none-some s (sym (none k below same) ∙ attaches))
    joined_before k s r below global attaches same (Some f) is before told =
        kept r s (has.joined k r s below global attaches (ap first same ∙ is ∙ told))

    joined_then : (k r s : ℕ) → k < n + 1 → is_global (texts k) ≡ true → founds k ≡ Some s → later (texts k) ≡ Some r → IsJoined (IsPair pairs) r s
    joined_then k r s below global attaches told = elim (cases_eq k n) [
      | inl at ↦
          let told_here = sym counted.here ∙ sym (ap (λ (i : ℕ). later (texts i)) at) ∙ told in
          let mine : region ≡ s = same_Some region s (sym here ∙ sym (ap founds at) ∙ attaches) in
          subst (IsJoined (IsPair pairs) r) mine
          (joined_here (first (texts n)) refl (sym (ap (λ (i : ℕ). is_global (texts i)) at) ∙ global) r told_here)
      | inr other ↦ elim (same_or_not (texts k) (texts n)) [
        | inl same ↦ joined_before k s r (omega arith) global attaches same (first (texts n)) refl (has.firsts (texts n))
            (sym counted.here ∙ sym (ap later same) ∙ told)
        | inr apart ↦ kept r s (has.joined k r s (omega arith) global attaches (sym (counted.elsewhere (texts k) apart) ∙ told))
      ]
    ]

    -- one more label that attaches
    pub counted_one : HasCounted (n + 1) later new pairs
    counted_one = subst (λ (v : List (Option ℕ)). HasCounted (n + 1) later v pairs) (sym added) (record {
      so_many = length_push named one ∙ ap (λ (k : ℕ). k + 1) has.so_many;
      firsts = firsts_then;
      each = named_more n named one has.so_many has.each (subst (IsNamed texts founds n) (sym counted.value)
          (named_here (is_global (texts n)) (first (texts n)) refl (has.firsts (texts n))));
      sound = sound_then;
      joined = joined_then;
    })

  -- all labels were counted
  pub counted_all : (n count : ℕ) (first : List ℕ → Option ℕ) (named : List (Option ℕ)) (pairs : List (ℕ × ℕ)) → n ≡ count → HasCounted n first named pairs
      → AreCounted texts founds count named pairs
  counted_all n count first named pairs all has = subst (λ (k : ℕ). AreCounted texts founds k named pairs) all (record {
    so_many = has.so_many;
    each = has.each;
    sound = has.sound;
    whole = λ r s share. by_first r s share (first (texts share.other)) refl (has.firsts (texts share.other));
  })
    where
      by_first : (r s : ℕ) (share : ShareText texts founds n r s) (found : Option ℕ) → first (texts share.other) ≡ found
          → IsFirstOf n (texts share.other) found → IsJoined (IsPair pairs) r s
      by_first r s share None is none = absurd (none-some s (sym (none share.other share.other_below refl) ∙ share.there))
      by_first r s share (Some f) is before = Chain-append
          (Chain-either_back (IsPair pairs) (has.joined share.one f r share.one_below share.global share.here (ap first share.same ∙ is)))
          (has.joined share.other f s share.other_below (sym (ap is_global share.same) ∙ share.global) share.there is)
