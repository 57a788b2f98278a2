-- Before a walk.
use Rattle.use_orders.proofs.Common.{◌≡◌, ℕ, ◌<◌, ◌≤◌, false, List, [], ◌⊎◌, inl, inr, refl, sym, ap, arith, length, ◌∙◌, range_with_len, cases_lt}
use Rattle.use_orders.proofs.Common.{length-range_with_len, get_or-range_with_len, Mark, Unmet, Open, Listed, walk_mark, IsWalking, IsThorough}
use Rattle.std.proofs.Common.{map}
use Rattle.std.proofs.lemmas.Bool.{lt-ltb, le-ltb}
use Rattle.std.proofs.lemmas.List.{append-nil, get_or-map, get_or_past, length-map}
use Rattle.use_orders.specs.steps.Walks.{mark_before}
use Rattle.use_orders.proofs.Listed.{In-old, In-listed_cases, Distinct-numbers}

mark_before_old : (first c : ℕ) → c < first → mark_before first c ≡ Listed
mark_before_old first c lt = rw (lt-ltb c first lt) refl

mark_before_new : (first c : ℕ) → first ≤ c → mark_before first c ≡ Unmet
mark_before_new first c ge = rw (le-ltb c first ge) refl

module _ (first count : ℕ) where
  abbrev before : List Mark
  before = map (mark_before first) (range_with_len 0 count)

  mark_within : (c : ℕ) → c < count → walk_mark before c ≡ mark_before first c
  mark_within c lt =
      get_or-map (mark_before first) (range_with_len 0 count) c 0 Unmet (omega (arith, lt, length-range_with_len 0 count))
      ∙ ap (mark_before first) (get_or-range_with_len 0 count c 0 lt ∙ (omega arith))

  length_before : length before ≡ count
  length_before = length-map (range_with_len 0 count) (mark_before first) ∙ length-range_with_len 0 count

  -- a cell is listed or unmet
  mark_cases : (c : ℕ) → ((c < first) × (walk_mark before c ≡ Listed)) ⊎ (walk_mark before c ≡ Unmet)
  mark_cases c = elim (cases_lt c count) [
    | inl lt ↦ elim (cases_lt c first) [
      | inl old ↦ inl (old, mark_within c lt ∙ mark_before_old first c old)
      | inr new ↦ inr (mark_within c lt ∙ mark_before_new first c new)
    ]
    | inr ge ↦ inr (get_or_past before c Unmet (omega (arith, length_before)))
  ]

  pub starts_at_rest : (children : List (List ℕ)) → length children ≡ count → first ≤ count
      → IsWalking children first (record { marks = before; way = []; order = []; is_cyclic = false })
  starts_at_rest children len few = record {
    fits = omega (arith, len, length_before);
    listed = λ c e. elim (mark_cases c) [ inl old ↦ In-old first [] c old.0 | inr free ↦ absurd (let f : Unmet ≡ Listed = sym free ∙ e in cc) ];
    marked = λ c h. elim (In-listed_cases first [] c h) [
      | inl old ↦ mark_within c (omega arith) ∙ mark_before_old first c old
      | inr none ↦ absurd none
    ];
    on_way = λ c e. elim (mark_cases c) [
      | inl old ↦ absurd (let f : Listed ≡ Open = sym old.1 ∙ e in cc)
      | inr free ↦ absurd (let f : Unmet ≡ Open = sym free ∙ e in cc)
    ];
    are_open = λ c h. absurd h;
    once = tt;
    distinct = rw (append-nil (range_with_len 0 first)) (Distinct-numbers first);
    nested = tt;
    within = λ o h. absurd h;
  }

  pub starts_thorough : (children : List (List ℕ)) → IsThorough children first (record { marks = before; way = []; order = []; is_cyclic = false })
  starts_thorough children = record {
    closed = λ x y h step. absurd h;
    followed = λ o h k l. absurd h;
    together = λ x v h c. absurd h;
  }
