-- What a line of the sections `connect` and `extract` asks for and adds.
--     connect    LIST LIST
--     extract    resist LIST VALUE
--                cap LIST PER_AREA PER_PERIMETER
--                fet TYPE LIST NAME SUBSTRATE
use Rattle.std.specs.Prelude.{◌==◌, ◌&&◌, ◌||◌, not, nat_lt, nat_le, if◌then◌else◌, ℕ, Bool, List, [], ◌∷◌, ◌++◌, length, fold}
use Rattle.std.specs.Prelude.{slice_index_or, slice_set, Option, Some, None, Result, Ok, Err, codes}
use Rattle.std.specs.List.{list_any, list_all}
use Rattle.std.specs.Str.{bytes_eq}
use Rattle.text_scan.specs.PlainNames.{is_plain_name}
use Rattle.text_form.specs.SaidLines.{and_then}
use Rattle.tech_model.specs.declared.raw.TypeId.{TypeId}
use Rattle.tech_model.specs.declared.raw.ClassRec.{ClassRec}
use Rattle.tech_model.specs.declared.raw.FetRule.{FetRule}
use Rattle.tech_model.specs.declared.raw.RawTech.{RawTech}
use Rattle.tech_model.specs.declared.faults.TechFault.{TechFault}
use Rattle.tech_model.specs.declared.faults.TechFault.TheVariants.{BadForm, Twice, TooMany}
use Rattle.tech_model.specs.declared.faults.LimitedList.TheVariants.{Classes, Fets}
use Rattle.tech_model.specs.declared.limits.TheConstants.{MOST_CLASSES, MOST_FETS}
use Rattle.tech_model.specs.Forms.{is_naming_label}
use Rattle.tech_model.specs.Types.{plane_of}
use Rattle.tech_draft.specs.Drafts.{Drafted}
use Rattle.tech_draft.specs.Words.{is_entry, is_entry_list, pieces_of, name_part, measure_in}
use Rattle.tech_draft.specs.Lookups.{entry_types, has_type, types_of_list, type_of_word, class_of}
use Rattle.tech_draft.specs.WordRules.{refuse, check_entries}
use Rattle.tech_draft.specs.declared.draft.word_rules.WordRule.TheVariants.{Classed}

-- ---- pairs

abbrev pub has_pair : List (TypeId × TypeId) → TypeId → TypeId → Bool
has_pair pairs s t = list_any (λ pair. pair.0.0 == s.0 && pair.1.0 == t.0) pairs

-- the pair at the end, where the two stand on one plane and it is not there
abbrev pub with_pair : RawTech → TypeId → List (TypeId × TypeId) → TypeId → List (TypeId × TypeId)
with_pair raw s pairs t =
    if plane_of raw s.0 == plane_of raw t.0 && not (has_pair pairs s t) then (pairs ++ (s, t) ∷ []) else pairs

abbrev pub with_partners : RawTech → List TypeId → List (TypeId × TypeId) → TypeId → List (TypeId × TypeId)
with_partners raw seconds pairs s = fold (with_pair raw s) pairs seconds

-- each type of the first list with each of the second
abbrev pub with_pairs : RawTech → List TypeId → List TypeId → List (TypeId × TypeId)
with_pairs raw firsts seconds = fold (with_partners raw seconds) raw.pairs firsts

abbrev pub with_pair_list : Drafted → List (TypeId × TypeId) → Drafted
with_pair_list draft pairs = record draft { raw = record draft.raw { pairs = pairs } }

abbrev pub connected : Drafted → List ℕ → List ℕ → Result Drafted TechFault
connected draft first second =
    if not (is_entry_list first) || not (is_entry_list second)
    then Err BadForm
    else and_then (check_entries draft.raw (pieces_of first ++ pieces_of second))
    (λ _. Ok (with_pair_list draft (with_pairs draft.raw (types_of_list draft.raw first) (types_of_list draft.raw second))))

unfoldable pub connect_line : Drafted → List (List ℕ) → Result Drafted TechFault
connect_line draft (first ∷ second ∷ []) = connected draft first second
connect_line draft _ = Err BadForm

-- ---- classes

abbrev pub class_with : List TypeId → ℕ → ClassRec
class_with types value = record { value = value; per_area = 0; per_perimeter = 0; types = types }

abbrev pub with_class : Drafted → List TypeId → ℕ → Drafted
with_class draft types value = record draft { raw = record draft.raw { classes = draft.raw.classes ++ class_with types value ∷ [] } }

-- no type is in two classes
abbrev pub new_class : Drafted → List ℕ → ℕ → Result Drafted TechFault
new_class draft list value =
    if not (is_entry_list list)
    then Err BadForm
    else and_then (check_entries draft.raw (pieces_of list)) (λ _.
    and_then (refuse draft.raw Classed (pieces_of list)) (λ _.
    if nat_le MOST_CLASSES (length draft.raw.classes)
    then Err (TooMany Classes)
    else Ok (with_class draft (types_of_list draft.raw list) value)))

unfoldable pub resist_line : Drafted → List (List ℕ) → Result Drafted TechFault
resist_line draft (list ∷ value ∷ []) = and_then (measure_in value) (new_class draft list)
resist_line draft _ = Err BadForm

-- ---- capacitances

abbrev pub no_class : ClassRec
no_class = record { value = 0; per_area = 0; per_perimeter = 0; types = [] }

abbrev pub class_at : RawTech → ℕ → ClassRec
class_at raw class = slice_index_or raw.classes class no_class

abbrev pub if_holding : RawTech → List TypeId → Option ℕ → Option ℕ
if_holding raw types None = None
if_holding raw types (Some class) = if list_all (has_type (class_at raw class).types) types then Some class else None

-- the class that all these types belong to
abbrev pub shared_class : RawTech → List TypeId → Option ℕ
shared_class raw [] = None
shared_class raw (t ∷ types) = if_holding raw types (class_of raw t)

abbrev pub first_entry : List ℕ → List ℕ
first_entry list = slice_index_or (pieces_of list) 0 []

abbrev pub is_capped : Drafted → ℕ → Bool
is_capped draft class = list_any (λ capped. capped == class) draft.capped

-- a class has one `cap` line
abbrev pub uncapped : Drafted → List ℕ → Option ℕ → Result ℕ TechFault
uncapped draft list None = Err BadForm
uncapped draft list (Some class) = if is_capped draft class then Err (Twice (name_part (first_entry list))) else Ok class

-- the class has these numbers
abbrev pub with_capacitance : Drafted → ℕ → ℕ → ℕ → Drafted
with_capacitance draft per_area per_perimeter class =
    record draft {
      raw = record draft.raw {
        classes = slice_set draft.raw.classes class
            (record (class_at draft.raw class) { per_area = per_area; per_perimeter = per_perimeter });
      };
      capped = draft.capped ++ class ∷ [];
    }

abbrev pub new_capacitance : Drafted → List ℕ → ℕ → ℕ → Result Drafted TechFault
new_capacitance draft list per_area per_perimeter =
    if not (is_entry_list list)
    then Err BadForm
    else and_then (check_entries draft.raw (pieces_of list)) (λ _.
    and_then (uncapped draft list (shared_class draft.raw (types_of_list draft.raw list)))
    (λ class. Ok (with_capacitance draft per_area per_perimeter class)))

unfoldable pub cap_line : Drafted → List (List ℕ) → Result Drafted TechFault
cap_line draft (list ∷ area ∷ perimeter ∷ []) =
    and_then (measure_in area) (λ per_area. and_then (measure_in perimeter) (new_capacitance draft list per_area))
cap_line draft _ = Err BadForm

-- ---- transistors

abbrev pub is_fet_form : List ℕ → List ℕ → List ℕ → List ℕ → Bool
is_fet_form kind list name substrate =
    is_entry kind && is_entry_list list && is_plain_name name && is_naming_label substrate

abbrev pub has_fet : RawTech → TypeId → Bool
has_fet raw t = list_any (λ fet. fet.kind.0 == t.0) raw.fets

abbrev pub with_rule : Drafted → FetRule → Drafted
with_rule draft fet = record draft { raw = record draft.raw { fets = draft.raw.fets ++ fet ∷ [] } }

abbrev pub fet_with : RawTech → List ℕ → List ℕ → List ℕ → List ℕ → FetRule
fet_with raw kind list name substrate =
    record { kind = type_of_word raw kind; terminals = types_of_list raw list; name = name; substrate = substrate }

-- a transistor's type is one type, and has one rule
abbrev pub check_fet : RawTech → List ℕ → Result (Unit {0}) TechFault
check_fet raw kind =
    if nat_lt 1 (length (entry_types raw kind)) then Err BadForm
    else if has_fet raw (type_of_word raw kind) then Err (Twice (name_part kind))
    else if nat_le MOST_FETS (length raw.fets) then Err (TooMany Fets)
    else Ok tt

abbrev pub new_fet : Drafted → List ℕ → List ℕ → List ℕ → List ℕ → Result Drafted TechFault
new_fet draft kind list name substrate =
    if not (is_fet_form kind list name substrate)
    then Err BadForm
    else and_then (check_entries draft.raw (kind ∷ pieces_of list)) (λ _.
    and_then (check_fet draft.raw kind) (λ _. Ok (with_rule draft (fet_with draft.raw kind list name substrate))))

unfoldable pub fet_line : Drafted → List (List ℕ) → Result Drafted TechFault
fet_line draft (kind ∷ list ∷ name ∷ substrate ∷ []) = new_fet draft kind list name substrate
fet_line draft _ = Err BadForm

-- what the first word of a line of `extract` says that the line is: other lines add nothing
unfoldable pub extract_line : Drafted → List (List ℕ) → Result Drafted TechFault
extract_line draft [] = Ok draft
extract_line draft (key ∷ words) =
    if bytes_eq key (codes "resist") then resist_line draft words
    else if bytes_eq key (codes "cap") then cap_line draft words
    else if bytes_eq key (codes "fet") then fet_line draft words
    else Ok draft
