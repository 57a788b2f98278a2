-- Pairs, classes and transistors that a line adds fit the lists.
use Rattle.tech_draft.proofs.Common.{◌≡◌, ◌<◌, ◌≤◌, ◌==◌, ℕ, Bool, true, false, List, [], ◌∷◌, ◌++◌, length, map, get_or, set, refl, sym, ap, subst}
use Rattle.tech_draft.proofs.Common.{◌∙◌, arith, inl, inr, All, IsTrue, Option, Some, None, Result, Ok, Err, fold, not, nat_le, is_some}
use Rattle.tech_draft.proofs.Common.{if◌then◌else◌, ok_or, cases_Bool, cases_lt, and_parts, eq-eqb, eqb-true, eqb-false, true≢false, length_push}
use Rattle.tech_draft.proofs.Common.{length-set, All-push, All-set, All-nil, all_pairs_push, In, Distinct, Distinct-push, In-get_or, In-map_source}
use Rattle.tech_draft.proofs.Common.{list_any-In, position_from-none, is_plain_name, TypeId, ClassRec, FetRule, RawTech, TechFault, BadForm}
use Rattle.tech_draft.proofs.Common.{MOST_CLASSES, MOST_FETS, is_type, plane_of, IsPair, IsClass, IsFet, AreApart, is_entry_list, pieces_of}
use Rattle.tech_draft.proofs.Common.{measure_in, entry_types, has_type, types_of_list, type_of_word, with_pair, with_partners, with_pairs, fet_with}
use Rattle.tech_draft.proofs.Common.{HasSoundLayers, HasSoundRules}
use Rattle.std.proofs.Common.{◌&&◌, ℤ, pos, negsuc}
use Rattle.std.proofs.lemmas.Bool.{leb-true}
use Rattle.std.proofs.lemmas.Iterator.Adapters.{position_from-zero}
use Rattle.std.proofs.lemmas.List.{map_push, get_or_past}
use Rattle.text_scan.specs.Numbers.{number_of}
use Rattle.text_scan.specs.declared.numeral.NumFault.{NumFault}
use Rattle.tech_model.specs.declared.limits.TheConstants.{LARGEST_MEASURE}
use Rattle.tech_model.specs.Forms.{is_naming_label}
use Rattle.tech_draft.specs.Words.{is_entry, within_largest}
use Rattle.tech_draft.specs.WordRules.{breaks, refuse}
use Rattle.tech_draft.specs.declared.draft.word_rules.WordRule.TheVariants.{Meaningless, Classed}
use Rattle.tech_draft.specs.Lookups.{class_of, is_classed}
use Rattle.tech_draft.specs.ListLines.{has_pair, class_with, no_class, class_at, is_fet_form, has_fet}
use Rattle.tech_draft.proofs.Keeps.{rules_in, apart_set, places-keep, same_places}
use Rattle.tech_draft.proofs.LookupLaws.{word_type, list_source, list_type, list_types}
use Rattle.tech_draft.proofs.Refusals.{none_breaks}

-- the technology with other pairs, classes and transistors
abbrev pub with_lists : RawTech → List (TypeId × TypeId) → List ClassRec → List FetRule → RawTech
with_lists raw pairs classes fets = record raw { pairs = pairs; classes = classes; fets = fets }

-- they are sound where they fit the lists of before
pub lists-rules : (raw : RawTech) (pairs : List (TypeId × TypeId)) (classes : List ClassRec) (fets : List FetRule) → All (IsPair raw) pairs
    → length classes ≤ MOST_CLASSES → All (IsClass raw) classes → AreApart (λ class. class.types) classes
    → length fets ≤ MOST_FETS → All (IsFet raw) fets → Distinct (map (λ fet. fet.kind) fets)
    → HasSoundRules (with_lists raw pairs classes fets)
lists-rules raw pairs classes fets =
    let next = with_lists raw pairs classes fets in rules_in raw next (places-keep raw next (same_places raw.types))

-- ---- pairs

one_more : (raw : RawTech) (s t : TypeId) (pairs : List (TypeId × TypeId)) → IsTrue (is_type raw s.0) → IsTrue (is_type raw t.0)
    → All (IsPair raw) pairs → All (IsPair raw) (with_pair raw s pairs t)
one_more raw s t pairs s_is t_is all = elim (cases_Bool (plane_of raw s.0 == plane_of raw t.0 && not (has_pair pairs s t))) [
  | inl new ↦
      let parts = and_parts (plane_of raw s.0 == plane_of raw t.0) (not (has_pair pairs s t)) new in
      rw new (All-push (IsPair raw) pairs (s, t) all
      (record { first = s_is; second = t_is; plane = eqb-true (plane_of raw s.0) (plane_of raw t.0) parts.0 }))
  | inr old ↦ rw old all
]

partners : (raw : RawTech) (s : TypeId) (seconds : List TypeId) (pairs : List (TypeId × TypeId)) → IsTrue (is_type raw s.0)
    → ((t : TypeId) → In t seconds → IsTrue (is_type raw t.0))
    → All (IsPair raw) pairs → All (IsPair raw) (fold (with_pair raw s) pairs seconds)
partners raw s [] pairs s_is each all = all
partners raw s (t ∷ seconds) pairs s_is each all = partners raw s seconds (with_pair raw s pairs t) s_is (λ u is. each u (inr is))
    (one_more raw s t pairs s_is (each t (inl refl)) all)

all_partners : (raw : RawTech) (seconds firsts : List TypeId) (pairs : List (TypeId × TypeId))
    → ((t : TypeId) → In t firsts → IsTrue (is_type raw t.0)) → ((t : TypeId) → In t seconds → IsTrue (is_type raw t.0))
    → All (IsPair raw) pairs → All (IsPair raw) (fold (with_partners raw seconds) pairs firsts)
all_partners raw seconds [] pairs ones others all = all
all_partners raw seconds (s ∷ firsts) pairs ones others all =
    all_partners raw seconds firsts (with_partners raw seconds pairs s) (λ u is. ones u (inr is)) others
    (partners raw s seconds pairs (ones s (inl refl)) others all)

-- pairs stay sound with those of two lists
pub connect_rules : (raw : RawTech) (first second : List ℕ) → HasSoundLayers raw → HasSoundRules raw
    → HasSoundRules (with_lists raw (with_pairs raw (types_of_list raw first) (types_of_list raw second)) raw.classes raw.fets)
connect_rules raw first second layers rules =
    let firsts = types_of_list raw first in
    let seconds = types_of_list raw second in
    lists-rules raw (with_pairs raw firsts seconds) raw.classes raw.fets
    (all_partners raw seconds firsts raw.pairs (λ t is. list_type raw first t layers is)
    (λ t is. list_type raw second t layers is) rules.pairs)
    rules.classes_limit rules.classes rules.classes_apart rules.fets_limit rules.fets rules.fets_differ

-- ---- classes

measured : (n value : ℕ) (small : Bool) → nat_le n LARGEST_MEASURE ≡ small
    → ok_or {E = TechFault} (if small then Some n else None) BadForm ≡ Ok value → value ≤ LARGEST_MEASURE
measured n value true small is = let same : n ≡ value = cc in omega (arith, same, leb-true n LARGEST_MEASURE small)
measured n value false small is = absurd (cc)

within : (number : Result ℤ NumFault) (value : ℕ) → ok_or {E = TechFault} (within_largest number) BadForm ≡ Ok value
    → value ≤ LARGEST_MEASURE
within (Ok (pos n)) value is = measured n value (nat_le n LARGEST_MEASURE) refl is
within (Ok (negsuc n)) value is = absurd (cc)
within (Err fault) value is = absurd (cc)

-- a number that a word writes for a class is at most the largest
pub measure-small : (word : List ℕ) (value : ℕ) → measure_in word ≡ Ok value → value ≤ LARGEST_MEASURE
measure-small word value is = within (number_of word) value is

none_of : {X : Type 0} (o : Option X) → is_some o ≡ false → o ≡ None
none_of None none = refl
none_of (Some x) none = absurd (cc)

-- a type that is in no class stands in none
unclassed : (raw : RawTech) (t : TypeId) (class : ClassRec) → is_some (class_of raw t) ≡ false → In class raw.classes → In t class.types → ⊥
unclassed raw t class none class_in is =
    let test : ClassRec → Bool = λ class. has_type class.types t in
    let found = sym (position_from-zero test raw.classes) ∙ none_of (class_of raw t) none in
    true≢false (sym (eq-eqb t.0 t.0 refl)
    ∙ list_any-In (λ (u : TypeId). u.0 == t.0) class.types t (position_from-none test 0 raw.classes class found class_in) is)

free_type : (raw : RawTech) (entry : List ℕ) (t : TypeId) → is_classed raw entry ≡ false → In t (entry_types raw entry)
    → is_some (class_of raw t) ≡ false
unfolding is_classed
free_type raw entry t none is = list_any-In (λ (t : TypeId). is_some (class_of raw t)) (entry_types raw entry) t none is

-- classes stay sound with a new one, whose types are in none
pub class_rules : (raw : RawTech) (list : List ℕ) (value : ℕ) → HasSoundLayers raw → HasSoundRules raw
    → refuse raw Classed (pieces_of list) ≡ Ok tt
    → length raw.classes < MOST_CLASSES → value ≤ LARGEST_MEASURE
    → HasSoundRules (with_lists raw raw.pairs (raw.classes ++ class_with (types_of_list raw list) value ∷ []) raw.fets)
class_rules raw list value layers rules free few small =
    let class : ClassRec = class_with (types_of_list raw list) value in
    lists-rules raw raw.pairs (raw.classes ++ class ∷ []) raw.fets rules.pairs (omega (arith, few, length_push raw.classes class))
    (All-push (IsClass raw) raw.classes class rules.classes
    (record { value = small; per_area = omega arith; per_perimeter = omega arith; types = list_types raw list layers }))
    (all_pairs_push (λ (a b : ClassRec). (y : TypeId) → In y a.types → In y b.types → ⊥) raw.classes class rules.classes_apart
    (λ k d below t in_old in_new.
    let source = list_source raw list t in_new in
    unclassed raw t (get_or raw.classes k d)
    (free_type raw source.0 t (none_breaks raw Classed (pieces_of list) free source.0 source.1) source.2)
    (In-get_or raw.classes k d below) in_old))
    rules.fets_limit rules.fets rules.fets_differ

class_at-is : (raw : RawTech) (class : ℕ) → HasSoundRules raw → IsClass raw (class_at raw class)
class_at-is raw class rules = elim (cases_lt class (length raw.classes)) [
  | inl below ↦ rules.classes class no_class below
  | inr past ↦ subst (IsClass raw) (sym (get_or_past raw.classes class no_class past))
      (record {
        value = omega arith;
        per_area = omega arith;
        per_perimeter = omega arith;
        types = All-nil
            (λ (t : TypeId). IsTrue (is_type raw t.0));
      })
]

-- the class with these capacitances
abbrev capacitive : RawTech → ℕ → ℕ → ℕ → ClassRec
capacitive raw per_area per_perimeter class = record (class_at raw class) { per_area = per_area; per_perimeter = per_perimeter }

-- classes stay sound where one gets its capacitances
pub cap_rules : (raw : RawTech) (per_area per_perimeter class : ℕ) → HasSoundRules raw → per_area ≤ LARGEST_MEASURE
    → per_perimeter ≤ LARGEST_MEASURE
    → HasSoundRules (with_lists raw raw.pairs (set raw.classes class (capacitive raw per_area per_perimeter class)) raw.fets)
cap_rules raw per_area per_perimeter class rules area_small perimeter_small =
    let was = class_at-is raw class rules in
    let changed : ClassRec = capacitive raw per_area per_perimeter class in
    lists-rules raw raw.pairs (set raw.classes class changed) raw.fets rules.pairs
    (omega (arith, length-set raw.classes class changed, rules.classes_limit))
    (All-set (IsClass raw) raw.classes class changed
    (record { value = was.value; per_area = area_small; per_perimeter = perimeter_small; types = was.types }) rules.classes)
    (apart_set (λ (class : ClassRec). class.types) raw.classes class changed no_class refl rules.classes_apart)
    rules.fets_limit rules.fets rules.fets_differ

-- ---- transistors

-- rules stay sound with a new one, for a type that has none
pub fet_rules : (raw : RawTech) (kind list name substrate : List ℕ) → HasSoundLayers raw → HasSoundRules raw
    → is_fet_form kind list name substrate ≡ true
    → breaks raw Meaningless kind ≡ false → has_fet raw (type_of_word raw kind) ≡ false → length raw.fets < MOST_FETS
    → HasSoundRules (with_lists raw raw.pairs raw.classes (raw.fets ++ fet_with raw kind list name substrate ∷ []))
fet_rules raw kind list name substrate layers rules good some new few =
    let label = and_parts (is_entry kind && is_entry_list list && is_plain_name name) (is_naming_label substrate) good in
    let plain = and_parts (is_entry kind && is_entry_list list) (is_plain_name name) label.0 in
    let fet : FetRule = fet_with raw kind list name substrate in
    lists-rules raw raw.pairs raw.classes (raw.fets ++ fet ∷ []) rules.pairs rules.classes_limit rules.classes rules.classes_apart
    (omega (arith, few, length_push raw.fets fet))
    (All-push (IsFet raw) raw.fets fet rules.fets
    (record { kind = word_type raw kind layers some; terminals = list_types raw list layers; name = plain.1; substrate = label.1 }))
    (subst (λ (kinds : List TypeId). Distinct kinds) (sym (map_push (λ (f : FetRule). f.kind) raw.fets fet))
    (Distinct-push (map (λ (f : FetRule). f.kind) raw.fets) fet.kind rules.fets_differ (λ is.
    let source = In-map_source (λ (f : FetRule). f.kind) fet.kind raw.fets is in
    let apart = list_any-In (λ (f : FetRule). f.kind.0 == (type_of_word raw kind).0) raw.fets source.0 new source.1.0 in
    eqb-false source.0.kind.0 (type_of_word raw kind).0 apart (ap (λ (t : TypeId). t.0) source.1.1))))
