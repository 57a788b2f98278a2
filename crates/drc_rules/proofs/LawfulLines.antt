-- What a line says is a lawful rule.
use Rattle.std.proofs.Common.{◌≡◌, ◌<◌, ◌≤◌, ◌+◌, ◌==◌, ◌&&◌, ℕ, Bool, true, false, List, [], ◌∷◌, length, Result, Ok, Err, refl, sym, subst, arith, inl, inr}
use Rattle.std.specs.Prelude.{All, IsTrue, IfOk, IfSome, Option, Some, None, ℤ, pos, ◌≤ℤ◌, int_le, if◌then◌else◌, codes}
use Rattle.std.specs.List.{list_any, list_all}
use Rattle.std.specs.Option.{option_map_or}
use Rattle.std.specs.Str.{bytes_eq}
use Rattle.std.proofs.lemmas.Bool.{cases_Bool, and_parts, eqb-true}
use Rattle.std.proofs.lemmas.Int.{ints}
use Rattle.std.proofs.lemmas.Result.{IfOk-at_ok}
use Rattle.std.proofs.lemmas.List.Elements.{All-nil, All-cons}
use Rattle.std.proofs.lemmas.List.Sums.{AllPass-from_list_all}
use Rattle.text_scan.specs.Numbers.{number_of}
use Rattle.text_scan.specs.Words.{words_of}
use Rattle.text_scan.specs.declared.numeral.NumFault.{NumFault}
use Rattle.text_form.specs.SaidLines.{and_then, AreSaid}
use Rattle.tech_model.specs.GeoCore.FiniteSets.Lists.{In}
use Rattle.tech_model.proofs.GeoCore.FiniteSets.Searches.{All-from_In, All-In}
use Rattle.tech_model.specs.declared.raw.TypeId.{TypeId}
use Rattle.tech_model.specs.declared.raw.RawTech.{RawTech}
use Rattle.tech_model.specs.Types.{is_type, is_on, plane_of, images_of, layer_named, no_layer}
use Rattle.tech_model.specs.WellFormed.{IsWellFormed}
use Rattle.tech_draft.specs.Words.{has_slash, name_part, plane_part, pieces_of}
use Rattle.tech_draft.specs.Lookups.{plane_named, named_types, first_on, type_on, entry_types, types_of_list}
use Rattle.tech_draft.proofs.LookupLaws.{layer_named-below, list_source}
use Rattle.drc_rules.specs.declared.rules.Rule.{Rule}
use Rattle.drc_rules.specs.declared.rules.RuleKind.{RuleKind}
use Rattle.drc_rules.specs.declared.rules.RuleKind.TheVariants.{Width, Spacing}
use Rattle.drc_rules.specs.declared.faults.DrcFault.{DrcFault}
use Rattle.drc_rules.specs.declared.faults.DrcFault.TheVariants.{Form, NoLayer}
use Rattle.drc_rules.specs.declared.limits.TheConstants.{LARGEST_DISTANCE, MOST_RULES}
use Rattle.drc_rules.specs.RuleLines.{is_list, is_number, means_nothing, unless_malformed, types_in, one_plane, distance_in, unless_in_both}
use Rattle.drc_rules.specs.RuleLines.{one_list_rule, two_list_rule, one_list_line, two_list_line, rule_line, words_say, is_comment, line_says}
use Rattle.drc_rules.specs.RuleFiles.{rules_of, rules_among}
use Rattle.drc_rules.specs.LawfulRules.{AreTypesOn, IsLawfulRule}
use Rattle.drc_rules.proofs.FileLaws.{rules_of-Ok}

from_le_true : (x y : ℤ) → int_le x y ≡ true → x ≤ℤ y
from_le_true x y test = grind (arith, ints)

module _ (raw : RawTech) (fits : IsWellFormed raw) where
  -- ---- one step of a line, and those behind it

  then_lawful : {A : Type 0} (P : A → Type 0) (found : Result A DrcFault) (next : A → Result Rule DrcFault)
      → IfOk found P → ((x : A) → P x → IfOk (next x) (IsLawfulRule raw)) → IfOk (and_then found next) (IsLawfulRule raw)
  then_lawful P (Ok x) next holds lawful = lawful x holds
  then_lawful P (Err fault) next holds lawful = tt

  test_lawful : (found : Result (Unit {0}) DrcFault) (next : Result Rule DrcFault)
      → IfOk next (IsLawfulRule raw) → IfOk (and_then found (λ _. next)) (IsLawfulRule raw)
  test_lawful (Ok x) next lawful = lawful
  test_lawful (Err fault) next lawful = tt

  abbrev IsType : TypeId → Type 0
  IsType t = IsTrue (is_type raw t.0)

  -- ---- what an entry means are types

  images : (found : Option ℕ) (t : TypeId) → ((layer : ℕ) → found ≡ Some layer → layer < length raw.layers)
      → In t (option_map_or (images_of raw) found []) → IsType t
  images None t below is = absurd is
  images (Some layer) t below is = All-In IsType (images_of raw layer) t (fits.layers layer no_layer (below layer refl)).images is

  named : (word : List ℕ) (t : TypeId) → In t (named_types raw word) → IsType t
  named word t is = images (layer_named raw word) t (λ layer found. layer_named-below raw word layer found) is

  among : (plane : ℕ) (types : List TypeId) (t : TypeId) → In t (first_on raw plane types) → In t types
  among plane [] t is = is
  among plane (u ∷ types) t is = elim (cases_Bool (plane_of raw u.0 == plane)) [
    | inl here ↦ elim (rw here at is) [ inl same ↦ inl same | inr none ↦ absurd none ]
    | inr other ↦ inr (among plane types t (rw other at is))
  ]

  on_plane : (plane : Option ℕ) (types : List TypeId) (t : TypeId) → In t (type_on raw plane types) → In t types
  on_plane None types t is = absurd is
  on_plane (Some plane) types t is = among plane types t is

  entry : (word : List ℕ) (t : TypeId) → In t (entry_types raw word) → IsType t
  entry word t is = elim (cases_Bool (has_slash word)) [
    | inl slash ↦ named (name_part word) t
        (on_plane (plane_named raw (plane_part word)) (named_types raw (name_part word)) t (rw slash at is))
    | inr plain ↦ named word t (rw plain at is)
  ]

  list : (text : List ℕ) → All IsType (types_of_list raw text)
  list text = All-from_In IsType (types_of_list raw text) (λ t is. let source = list_source raw text t is in entry source.0 t source.2)

  -- ---- the parts of a rule

  types_in-types : (text : List ℕ) → IfOk (types_in raw text) (All IsType)
  types_in-types text = step (list_any (means_nothing raw) (pieces_of text))
    where
      step : (test : Bool) → IfOk (if test then Err NoLayer else Ok (types_of_list raw text)) (All IsType)
      step true = tt
      step false = list text

  one_plane-on : (types : List TypeId) → All IsType types → IfOk (one_plane raw types) (λ plane. AreTypesOn raw plane types)
  one_plane-on [] all = tt
  one_plane-on (t ∷ types) all = elim (cases_Bool (list_all (is_on raw (plane_of raw t.0)) types)) [
    | inl same ↦ rw same (record {
      below = fits.type_planes t.0 (all 0 t (omega arith));
      are = all;
      placed = All-cons (λ (u : TypeId). plane_of raw u.0 ≡ plane_of raw t.0) t types refl
          (λ k d below. eqb-true (plane_of raw _) (plane_of raw t.0) (AllPass-from_list_all (is_on raw (plane_of raw t.0)) types same k d below));
    })
    | inr other ↦ rw other tt
  ]

  abbrev IsDistance : ℤ → Type 0
  IsDistance d = (pos 1 ≤ℤ d) × (d ≤ℤ LARGEST_DISTANCE)

  distance_in-within : (read : Result ℤ NumFault) → IfOk (distance_in read) IsDistance
  distance_in-within (Err fault) = tt
  distance_in-within (Ok d) = elim (cases_Bool (int_le (pos 1) d && int_le d LARGEST_DISTANCE)) [
    | inl within ↦
        let both = and_parts (int_le (pos 1) d) (int_le d LARGEST_DISTANCE) within in
        rw within (from_le_true (pos 1) d both.0, from_le_true d LARGEST_DISTANCE both.1)
    | inr other ↦ rw other tt
  ]

  -- ---- rules

  one_list-lawful : (kind : RuleKind) (text d : List ℕ) → IfOk (one_list_rule raw kind text d) (IsLawfulRule raw)
  one_list-lawful kind text d =
      test_lawful (unless_malformed (is_list text && is_number (number_of d))) _ (
      then_lawful (All IsType) (types_in raw text) _ (types_in-types text) (λ types are.
      then_lawful (λ plane. AreTypesOn raw plane types) (one_plane raw types) _ (one_plane-on types are) (λ plane on.
      then_lawful IsDistance (distance_in (number_of d)) _ (distance_in-within (number_of d)) (λ n within. record {
        first = on;
        second = record {
          below = on.below;
          are = All-nil IsType;
          placed = All-nil (λ (t : TypeId). plane_of raw t.0 ≡ plane);
        };
        least = within.0;
        most = within.1;
      }))))

  two_list-lawful : (first second d : List ℕ) → IfOk (two_list_rule raw first second d) (IsLawfulRule raw)
  two_list-lawful first second d =
      test_lawful (unless_malformed (is_list first && is_list second && is_number (number_of d))) _ (
      then_lawful (All IsType) (types_in raw first) _ (types_in-types first) (λ types are.
      then_lawful (All IsType) (types_in raw second) _ (types_in-types second) (λ others others_are.
      then_lawful (λ plane. AreTypesOn raw plane types) (one_plane raw types) _ (one_plane-on types are) (λ plane on.
      then_lawful (λ plane. AreTypesOn raw plane others) (one_plane raw others) _ (one_plane-on others others_are) (λ other_plane others_on.
      then_lawful IsDistance (distance_in (number_of d)) _ (distance_in-within (number_of d)) (λ n within.
      test_lawful (unless_in_both types others) _ (record { first = on; second = others_on; least = within.0; most = within.1 })))))))

  -- ---- lines

  one_list_line-lawful : (kind : RuleKind) (words : List (List ℕ)) → IfOk (one_list_line raw kind words) (IsLawfulRule raw)
  one_list_line-lawful kind [] = tt
  one_list_line-lawful kind (text ∷ []) = tt
  one_list_line-lawful kind (text ∷ d ∷ []) = one_list-lawful kind text d
  one_list_line-lawful kind (text ∷ d ∷ word ∷ words) = tt

  two_list_line-lawful : (words : List (List ℕ)) → IfOk (two_list_line raw words) (IsLawfulRule raw)
  two_list_line-lawful [] = tt
  two_list_line-lawful (first ∷ []) = tt
  two_list_line-lawful (first ∷ second ∷ []) = tt
  two_list_line-lawful (first ∷ second ∷ d ∷ []) = two_list-lawful first second d
  two_list_line-lawful (first ∷ second ∷ d ∷ word ∷ words) = tt

  rule_line-lawful : (key : List ℕ) (words : List (List ℕ)) → IfOk (rule_line raw key words) (IsLawfulRule raw)
  rule_line-lawful key words = step (bytes_eq key (codes "width")) (bytes_eq key (codes "spacing")) (bytes_eq key (codes "separation"))
    where
      step : (width spacing separation : Bool)
          → IfOk (if width then one_list_line raw Width words else (if spacing then one_list_line raw Spacing words
          else (if separation then two_list_line raw words else Err Form))) (IsLawfulRule raw)
      step true spacing separation = one_list_line-lawful Width words
      step false true separation = one_list_line-lawful Spacing words
      step false false true = two_list_line-lawful words
      step false false false = tt

  -- a rule is lawful, if the line says one
  abbrev IsLawfulSaid : Option Rule → Type 0
  IsLawfulSaid said = IfSome said (IsLawfulRule raw)

  told : (found : Result Rule DrcFault) → IfOk found (IsLawfulRule raw) → IfOk (and_then found (λ rule. Ok (Some rule))) IsLawfulSaid
  told (Ok rule) lawful = lawful
  told (Err fault) lawful = tt

  words_say-lawful : (words : List (List ℕ)) → IfOk (words_say raw words) IsLawfulSaid
  words_say-lawful [] = tt
  words_say-lawful (key ∷ words) = told (rule_line raw key words) (rule_line-lawful key words)

  line_says-lawful : (line : List ℕ) → IfOk (line_says raw line) IsLawfulSaid
  line_says-lawful line = step (is_comment line)
    where
      step : (comment : Bool) → IfOk (if comment then Ok None else words_say raw (words_of line)) IsLawfulSaid
      step true = tt
      step false = words_say-lawful (words_of line)

  -- ---- files

  all-lawful : (number : ℕ) (lines : List (List ℕ)) (said : List (Option Rule)) → AreSaid (λ number. line_says raw) number lines said
      → All (IsLawfulRule raw) (rules_among said)
  all-lawful number [] [] are = All-nil (IsLawfulRule raw)
  all-lawful number [] (x ∷ said) are = absurd are
  all-lawful number (line ∷ lines) [] are = absurd are
  all-lawful number (line ∷ lines) (None ∷ said) are = all-lawful (number + 1) lines said are.1
  all-lawful number (line ∷ lines) (Some rule ∷ said) are =
      All-cons (IsLawfulRule raw) rule (rules_among said) (IfOk-at_ok IsLawfulSaid are.0 (line_says-lawful line))
      (all-lawful (number + 1) lines said are.1)

-- The rules of a file are lawful for a technology.
pub rules_of-lawful : (raw : RawTech) (text : List ℕ) (rules : List Rule) → IsWellFormed raw → rules_of raw text ≡ Ok rules
    → All (IsLawfulRule raw) rules
rules_of-lawful raw text rules fits e =
    let say = (rules_of-Ok raw text rules).0 e in
    subst (All (IsLawfulRule raw)) (sym say.rules_are) (all-lawful raw fits 1 _ say.said say.fine)

-- There are not too many of them.
pub rules_of-few : (raw : RawTech) (text : List ℕ) (rules : List Rule) → rules_of raw text ≡ Ok rules → length rules ≤ MOST_RULES
rules_of-few raw text rules e = ((rules_of-Ok raw text rules).0 e).few
