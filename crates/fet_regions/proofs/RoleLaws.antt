-- What is a channel or a terminal is a type of the technology, and no channel is its own terminal.
use Rattle.fet_regions.proofs.Common.{◌≡◌, ◌≢◌, ℕ, ◌+◌, ◌<◌, Bool, true, false, eqb, ◌&&◌, List, map, get_or, IsTrue, refl, sym, ◌∙◌, ap, subst}
use Rattle.fet_regions.proofs.Common.{arith, inl, inr, [], list_any, range_with_len, cases_Bool, cases_lt, and_parts, In, In-index, RawTech, TypeId}
use Rattle.fet_regions.proofs.Common.{KeepsRules, is_channel, is_terminal, same_from_test}
use Rattle.std.proofs.lemmas.List.{get_or_past}
use Rattle.std.proofs.lemmas.List.FromFn.{get_or-map-range_with_len, length-map-range_with_len}
use Rattle.finite_sets.proofs.Searches.{list_any-source}
use Rattle.tech_model.specs.declared.limits.TheConstants.{MOST_TYPES}
use Rattle.tech_model.specs.declared.raw.FetRule.{FetRule}
use Rattle.tech_model.specs.Types.{is_type}
use Rattle.tech_model.specs.WellFormed.{IsFet, IsWellFormed}
use Rattle.tech_model.proofs.WellFormedLaws.{type_bounds}
use Rattle.tech_model.proofs.WithinLaws.{fet_no_terminal}

module _ (raw : RawTech) (well : IsWellFormed raw) where
  rule_is : (fet : FetRule) → In fet raw.fets → IsFet raw fet
  rule_is fet i = let x = In-index fet raw.fets i in subst (IsFet raw) (x.1.1 fet) (well.fets x.0 fet x.1.0)

  -- channels are of types
  pub channel_type : (kind : ℕ) → is_channel raw kind ≡ true → IsTrue (is_type raw kind)
  channel_type kind e =
      let x = list_any-source (λ (fet : FetRule). eqb fet.kind.0 kind) raw.fets e in
      subst (λ (k : ℕ). IsTrue (is_type raw k)) (same_from_test x.0.kind.0 kind x.1.1) (rule_is x.0 x.1.0).kind

  terminal_rule : (channel kind : ℕ) → is_terminal raw channel kind ≡ true
      → (fet : FetRule) × (In fet raw.fets × ((fet.kind.0 ≡ channel) × ((t : TypeId) × (In t fet.terminals × (t.0 ≡ kind)))))
  terminal_rule channel kind e =
      let x = list_any-source (λ (fet : FetRule). eqb fet.kind.0 channel && list_any (λ (t : TypeId). eqb t.0 kind) fet.terminals) raw.fets e in
      let tests = and_parts (eqb x.0.kind.0 channel) (list_any (λ (t : TypeId). eqb t.0 kind) x.0.terminals) x.1.1 in
      let y = list_any-source (λ (t : TypeId). eqb t.0 kind) x.0.terminals tests.1 in
      (x.0, (x.1.0, (same_from_test x.0.kind.0 channel tests.0, (y.0, (y.1.0, same_from_test y.0.0 kind y.1.1)))))

  -- terminals are of types
  pub terminal_type : (channel kind : ℕ) → is_terminal raw channel kind ≡ true → IsTrue (is_type raw kind)
  terminal_type channel kind e =
      let x = terminal_rule channel kind e in
      let t = x.1.1.1.0 in
      let at = In-index t x.0.terminals x.1.1.1.1.0 in
      subst (λ (k : ℕ). IsTrue (is_type raw k)) x.1.1.1.1.1
      (subst (λ (u : TypeId). IsTrue (is_type raw u.0)) (at.1.1 t) ((rule_is x.0 x.1.0).terminals at.0 t at.1.0))

  terminal_channel : (channel kind : ℕ) → is_terminal raw channel kind ≡ true → IsTrue (is_type raw channel)
  terminal_channel channel kind e =
      let x = terminal_rule channel kind e in subst (λ (k : ℕ). IsTrue (is_type raw k)) x.1.1.0 (rule_is x.0 x.1.0).kind

  -- types are not space
  pub type_not_space : (kind : ℕ) → IsTrue (is_type raw kind) → kind ≢ 0
  type_not_space kind is e = let bounds = type_bounds raw kind is in omega (arith, bounds.0, e)

  -- no channel is a terminal beside itself
  pub channel_apart : KeepsRules raw → (kind : ℕ) → is_terminal raw kind kind ≡ false
  channel_apart rules kind = elim (cases_Bool (is_terminal raw kind kind)) [
    | inr fails ↦ fails
    | inl holds ↦
        (let x = terminal_rule kind kind holds in
        let t = x.1.1.1.0 in
        absurd (fet_no_terminal raw well rules x.0 t x.1.0 x.1.1.1.1.0 (type_id t x.0.kind (x.1.1.1.1.1 ∙ sym x.1.1.0))))
  ]
    where
      type_id : (s t : TypeId) → s.0 ≡ t.0 → s ≡ t
      type_id s t e = let same : record { 0 = s.0 } ≡ record { 0 = t.0 } = rw e refl in same

  below_rows : (kind : ℕ) → IsTrue (is_type raw kind) → kind < MOST_TYPES + 1
  below_rows kind is = let bounds = type_bounds raw kind is in let limit = well.types_limit in omega (arith, bounds.1, limit)

  -- a table by type number says what holds of all numbers
  tabled : (test : ℕ → Bool) → ((kind : ℕ) → test kind ≡ true → IsTrue (is_type raw kind)) → (kind : ℕ)
      → get_or (map test (range_with_len 0 (MOST_TYPES + 1))) kind false ≡ test kind
  tabled test typed kind = elim (cases_lt kind (MOST_TYPES + 1)) [
    | inl below ↦ get_or-map-range_with_len test 0 (MOST_TYPES + 1) kind kind false below (omega arith)
    | inr past ↦
        (let long = length-map-range_with_len test 0 (MOST_TYPES + 1) in
        get_or_past (map test (range_with_len 0 (MOST_TYPES + 1))) kind false (omega (arith, past, long)) ∙ sym (elim (cases_Bool (test kind)) [
          | inr fails ↦ fails
          | inl holds ↦ absurd (let less = below_rows kind (typed kind holds) in omega (arith, less, past))
        ]))
  ]

  pub channels_tabled : (kind : ℕ) → get_or (map (is_channel raw) (range_with_len 0 (MOST_TYPES + 1))) kind false ≡ is_channel raw kind
  channels_tabled = tabled (is_channel raw) channel_type

  pub terminals_tabled : (channel kind : ℕ)
      → get_or (get_or (map (λ (c : ℕ). map (is_terminal raw c) (range_with_len 0 (MOST_TYPES + 1))) (range_with_len 0 (MOST_TYPES + 1))) channel []) kind false
      ≡ is_terminal raw channel kind
  terminals_tabled channel kind =
      let row : ℕ → List Bool = λ c. map (is_terminal raw c) (range_with_len 0 (MOST_TYPES + 1)) in
      elim (cases_lt channel (MOST_TYPES + 1)) [
        | inl below ↦ ap (λ (r : List Bool). get_or r kind false) (get_or-map-range_with_len row 0 (MOST_TYPES + 1) channel channel [] below (omega arith))
            ∙ tabled (is_terminal raw channel) (terminal_type channel) kind
        | inr past ↦
            (let long = length-map-range_with_len row 0 (MOST_TYPES + 1) in
            ap (λ (r : List Bool). get_or r kind false) (get_or_past (map row (range_with_len 0 (MOST_TYPES + 1))) channel [] (omega (arith, past, long)))
            ∙ sym (elim (cases_Bool (is_terminal raw channel kind)) [
              | inr fails ↦ fails
              | inl holds ↦ absurd (let less = below_rows channel (terminal_channel channel kind holds) in omega (arith, less, past))
            ]))
      ]
