-- The rules of a technology: what is found of them names types, and where nothing is found they hold.
use Rattle.tech_model.proofs.Common.{◌≡◌, ◌<◌, ◌&&◌, ◌==◌, ℕ, true, false, Option, List, [], ◌∷◌, length, map, get_or, refl, sym, ap, subst, ◌∙◌}
use Rattle.tech_model.proofs.Common.{arith, inl, inr, Some, None, All, IsTrue, find, not, nat_lt, flat_map, option_map, option_or, cases_Bool}
use Rattle.tech_model.proofs.Common.{and_parts, and_from, eqb-true, eq-eqb, true≢false, In, pairs_of, In-map, In-get_or, find-In, find-none, All-In}
use Rattle.tech_model.proofs.Common.{TypeId, FetRule, RawTech, is_type, plane_of, parts_of, is_fet_name, IsWellFormed, IsFet, HaveOwnSets, types_of}
use Rattle.tech_model.proofs.Common.{have_one_set, is_bad_terminal, are_within, widenings, breaks_law}
use Rattle.std.proofs.lemmas.Bool.{cases_order, ltb-true, not-true, lt-ltb, not-false}
use Rattle.geo_core.proofs.FiniteSets.Members.{In-append_left, In-append_right, In-append_cases, In-map_source, In-filter, In-filter_source, In-filter_passes}
use Rattle.geo_core.proofs.FiniteSets.Ranges.{In-pairs_of, In-pairs_of_first, In-pairs_of_second}
use Rattle.geo_core.proofs.FiniteSets.Searches.{none_found, option_or-none, option_map-none}
use Rattle.geo_core.proofs.FiniteSets.Images.{In-flat_map, In-flat_map_source}
use Rattle.tech_model.specs.declared.faults.TechFault.{TechFault}
use Rattle.tech_model.specs.Types.{connects, is_within}
use Rattle.tech_model.specs.Rules.{FetsAreApart, FetsAreNamed, IsMonotone, KeepsRules, fet_terminals}
use Rattle.tech_model.specs.Rules.{same_set_fault, fet_terminal_fault, fet_name_fault, monotone_fault, rule_fault}
use Rattle.tech_model.proofs.TypeLaws.{connects_types, within_type}
use Rattle.tech_model.proofs.WellFormedLaws.{In-range_with_len, range_bounds, type_bounds, type_from_bounds}

-- the numbers of the types are those that are types
pub In-types_of : (raw : RawTech) (t : ℕ) → IsTrue (is_type raw t) → In t (types_of raw)
In-types_of raw t is = let bounds = type_bounds raw t is in In-range_with_len 1 (length raw.types) t bounds.0 (omega (arith, bounds.1))

-- the listed types are types
pub types_of-type : (raw : RawTech) (t : ℕ) → In t (types_of raw) → IsTrue (is_type raw t)
types_of-type raw t is = let bounds = range_bounds 1 (length raw.types) t is in type_from_bounds raw t bounds.0 (omega (arith, bounds.1))

-- what is found among pairs of types are types
pub pair_types : (raw : RawTech) (pair : ℕ × ℕ) → In pair (pairs_of (types_of raw) (types_of raw)) → IsTrue (is_type raw pair.0) × IsTrue (is_type raw pair.1)
pair_types raw pair is = (
  types_of-type raw pair.0 (In-pairs_of_first pair (types_of raw) (types_of raw) is),
  types_of-type raw pair.1
      (In-pairs_of_second pair (types_of raw) (types_of raw) is),
)

-- both of a widening are types
pub widening_types : (raw : RawTech) (pair : ℕ × ℕ) → In pair (widenings raw) → IsTrue (is_type raw pair.0) × IsTrue (is_type raw pair.1)
widening_types raw pair is = pair_types raw pair (In-filter_source (are_within raw) pair (pairs_of (types_of raw) (types_of raw)) is)

-- the same of two types and what they are within
pub break_types : (raw : RawTech) (all : List (ℕ × ℕ)) (two : (ℕ × ℕ) × (ℕ × ℕ)) → all ≡ widenings raw → find (breaks_law raw) (pairs_of all all) ≡ Some two
    → (IsTrue (is_type raw two.0.0) × IsTrue (is_type raw two.0.1)) × (IsTrue (is_type raw two.1.0) × IsTrue (is_type raw two.1.1))
break_types raw all two same found =
    let is = find-In (breaks_law raw) (pairs_of all all) two found in (
      widening_types raw two.0 (subst (In two.0) same (In-pairs_of_first two all all is)),
      widening_types raw two.1
          (subst (In two.1) same (In-pairs_of_second two all all is)),
    )

-- the types of a transistor and its terminal
pub terminal_types : (raw : RawTech) (pair : TypeId × TypeId) → IsWellFormed raw → In pair (fet_terminals raw)
    → IsTrue (is_type raw pair.0.0) × IsTrue (is_type raw pair.1.0)
terminal_types raw pair w is =
    let found = In-flat_map_source (λ (fet : FetRule). map (λ t. (fet.kind, t)) fet.terminals) pair raw.fets is in
    let fet : FetRule = found.0 in
    let terminal = In-map_source (λ (t : TypeId). (fet.kind, t)) pair fet.terminals found.1.1 in
    let is_fet = All-In (IsFet raw) raw.fets fet w.fets found.1.0 in
    let end = All-In (λ (t : TypeId). IsTrue (is_type raw t.0)) fet.terminals terminal.0 is_fet.terminals terminal.1.0 in
    subst (λ (p : TypeId × TypeId). IsTrue (is_type raw p.0.0) × IsTrue (is_type raw p.1.0)) terminal.1.1 (is_fet.kind, end)

-- ---- where no fault is found

own_sets_below : (raw : RawTech) → same_set_fault raw ≡ None → (s t : ℕ) → s < t → IsTrue (is_type raw s) → IsTrue (is_type raw t)
    → plane_of raw s ≡ plane_of raw t → parts_of raw s ≡ parts_of raw t → ⊥
own_sets_below raw none s t below s_is t_is planes sets =
    let absent = find-none (have_one_set raw) (pairs_of (types_of raw) (types_of raw)) (s, t) (option_map-none _ _ none)
    (In-pairs_of s t (types_of raw) (types_of raw) (In-types_of raw s s_is) (In-types_of raw t t_is)) in
    let present : have_one_set raw (s, t) ≡ true =
    and_from (nat_lt s t && plane_of raw s == plane_of raw t) (parts_of raw s == parts_of raw t)
    (and_from (nat_lt s t) (plane_of raw s == plane_of raw t) (lt-ltb s t below) (eq-eqb (plane_of raw s) (plane_of raw t) planes))
    (eq-eqb (parts_of raw s) (parts_of raw t) sets) in
    true≢false (sym present ∙ absent)

own_sets_hold : (raw : RawTech) → same_set_fault raw ≡ None → HaveOwnSets raw
own_sets_hold raw none s t s_is t_is planes sets = elim (cases_order s t) [
  | inl same ↦ same
  | inr (inl below) ↦ absurd (own_sets_below raw none s t below s_is t_is planes sets)
  | inr (inr above) ↦ absurd (own_sets_below raw none t s above t_is s_is (sym planes) (sym sets))
]

fets_apart_hold : (raw : RawTech) → fet_terminal_fault raw ≡ None → FetsAreApart raw
fets_apart_hold raw none = λ i fet' i_below j t' j_below.
    let fet = get_or raw.fets i fet' in
    let t = get_or fet.terminals j t' in
    find-none (is_bad_terminal raw) (fet_terminals raw) (fet.kind, t) (option_map-none _ _ none)
    (In-flat_map (λ (fet : FetRule). map (λ t. (fet.kind, t)) fet.terminals) fet (fet.kind, t) raw.fets (In-get_or raw.fets i fet' i_below)
    (In-map (λ (t : TypeId). (fet.kind, t)) t fet.terminals (In-get_or fet.terminals j t' j_below)))

fets_named_hold : (raw : RawTech) → fet_name_fault raw ≡ None → FetsAreNamed raw
fets_named_hold raw none = λ i fet' below.
    let fet = get_or raw.fets i fet' in
    not-false (is_fet_name fet.name) (find-none (λ (fet : FetRule). not (is_fet_name fet.name)) raw.fets fet (option_map-none _ _ none)
    (In-get_or raw.fets i fet' below))

In-widenings : (raw : RawTech) (s t : ℕ) → IsTrue (is_type raw s) → IsTrue (is_within raw s t) → In (s, t) (widenings raw)
In-widenings raw s t s_is within =
    In-filter (are_within raw) (s, t) (pairs_of (types_of raw) (types_of raw))
    (In-pairs_of s t (types_of raw) (types_of raw) (In-types_of raw s s_is) (In-types_of raw t (within_type raw s t s_is within))) within

monotone_holds : (raw : RawTech) → monotone_fault raw ≡ None → IsMonotone raw
monotone_holds raw none s t wide_s wide_t s_within t_within joined =
    let types = connects_types raw s t joined in
    let two : (ℕ × ℕ) × (ℕ × ℕ) = ((s, wide_s), (t, wide_t)) in
    let absent = find-none (breaks_law raw) (pairs_of (widenings raw) (widenings raw)) two (option_map-none _ _ none)
    (In-pairs_of (s, wide_s) (t, wide_t) (widenings raw) (widenings raw) (In-widenings raw s wide_s types.0 s_within)
    (In-widenings raw t wide_t types.1 t_within)) in
    elim (cases_Bool (connects raw wide_s wide_t)) [
      | inl holds ↦ holds
      | inr fails ↦ absurd (true≢false (sym (and_from (connects raw s t) (not (connects raw wide_s wide_t)) joined (ap not fails)) ∙ absent))
    ]

-- a technology without a fault keeps the rules
pub rules_hold : (raw : RawTech) → rule_fault raw ≡ None → KeepsRules raw
rules_hold raw none =
    let first = option_or-none (same_set_fault raw) _ none in
    let second = option_or-none (fet_terminal_fault raw) _ first.1 in
    let third = option_or-none (fet_name_fault raw) (monotone_fault raw) second.1 in
    record {
      own_sets = own_sets_hold raw first.0;
      fets_apart = fets_apart_hold raw second.0;
      fets_named = fets_named_hold raw third.0;
      monotone = monotone_holds raw third.1;
    }

-- ---- where the rules are kept

no_same_set : (raw : RawTech) → HaveOwnSets raw → same_set_fault raw ≡ None
no_same_set raw own = ap (option_map _) (none_found (have_one_set raw) (pairs_of (types_of raw) (types_of raw))
    (λ pair is. elim (cases_Bool (have_one_set raw pair)) [
      | inr fails ↦ fails
      | inl holds ↦
          let types = pair_types raw pair is in
          let front = and_parts (nat_lt pair.0 pair.1 && plane_of raw pair.0 == plane_of raw pair.1) (parts_of raw pair.0 == parts_of raw pair.1) holds in
          let parts = and_parts (nat_lt pair.0 pair.1) (plane_of raw pair.0 == plane_of raw pair.1) front.0 in
          let below : pair.0 < pair.1 = ltb-true pair.0 pair.1 parts.0 in
          let same : pair.0 ≡ pair.1 = own pair.0 pair.1 types.0 types.1 (eqb-true _ _ parts.1) (eqb-true _ _ front.1) in
          absurd (omega arith)
    ]))

no_terminal : (raw : RawTech) → FetsAreApart raw → fet_terminal_fault raw ≡ None
no_terminal raw apart = ap (option_map _) (none_found (is_bad_terminal raw) (fet_terminals raw) (λ pair is.
    let found = In-flat_map_source (λ (fet : FetRule). map (λ t. (fet.kind, t)) fet.terminals) pair raw.fets is in
    let fet : FetRule = found.0 in
    let terminal = In-map_source (λ (t : TypeId). (fet.kind, t)) pair fet.terminals found.1.1 in
    let each = All-In (λ (fet : FetRule). All (λ (t : TypeId). connects raw fet.kind.0 t.0 ≡ false) fet.terminals) raw.fets fet apart found.1.0 in
    subst (λ (p : TypeId × TypeId). is_bad_terminal raw p ≡ false) terminal.1.1
    (All-In (λ (t : TypeId). connects raw fet.kind.0 t.0 ≡ false) fet.terminals terminal.0 each terminal.1.0)))

no_name : (raw : RawTech) → FetsAreNamed raw → fet_name_fault raw ≡ None
no_name raw named = ap (option_map _) (none_found (λ (fet : FetRule). not (is_fet_name fet.name)) raw.fets
    (λ fet is. ap not (All-In (λ (fet : FetRule). IsTrue (is_fet_name fet.name)) raw.fets fet named is)))

no_break : (raw : RawTech) → IsMonotone raw → monotone_fault raw ≡ None
no_break raw law = ap (option_map _) (none_found (breaks_law raw) (pairs_of (widenings raw) (widenings raw)) (λ two is. elim (cases_Bool (breaks_law raw two)) [
  | inr fails ↦ fails
  | inl holds ↦
      let parts = and_parts (connects raw two.0.0 two.1.0) (not (connects raw two.0.1 two.1.1)) holds in
      let all = pairs_of (types_of raw) (types_of raw) in
      let first = In-filter_passes (are_within raw) two.0 all (In-pairs_of_first two (widenings raw) (widenings raw) is) in
      let second = In-filter_passes (are_within raw) two.1 all (In-pairs_of_second two (widenings raw) (widenings raw) is) in
      absurd (true≢false (sym (law two.0.0 two.1.0 two.0.1 two.1.1 first second parts.0) ∙ not-true (connects raw two.0.1 two.1.1) parts.1))
]))

-- where the rules hold no fault is found
pub no_rule_broken : (raw : RawTech) → KeepsRules raw → rule_fault raw ≡ None
no_rule_broken raw rules =
    ap (λ (fault : Option TechFault). option_or fault (option_or (fet_terminal_fault raw) (option_or (fet_name_fault raw) (monotone_fault raw))))
    (no_same_set raw rules.own_sets)
    ∙ ap (λ (fault : Option TechFault). option_or fault (option_or (fet_name_fault raw) (monotone_fault raw))) (no_terminal raw rules.fets_apart)
    ∙ ap (λ (fault : Option TechFault). option_or fault (monotone_fault raw)) (no_name raw rules.fets_named)
    ∙ no_break raw rules.monotone
