-- What a line of a file of rules says by itself, or the first fault in it.
--
--     width LIST D               wherever the list is, a box of D by D squares fits inside it
--     spacing LIST D             wherever the list is not, a box of D by D squares fits outside it
--     separation LIST LIST D     no square of the first list has one of the second within D columns and D rows
--
-- A line whose first byte is `#`, or that is blank, is read over. LIST is entries with commas between: NAME means all images of the layer
-- with that name or alias, NAME/PLANE its image on the plane.
use Rattle.std.specs.Prelude.{◌==◌, ◌&&◌, ◌||◌, not, ℕ, ℤ, pos, int_le, Bool, true, false, if◌then◌else◌, List, [], ◌∷◌, length, codes}
use Rattle.std.specs.Prelude.{Option, Some, None, Result, Ok, Err}
use Rattle.std.specs.List.{list_any, list_all}
use Rattle.std.specs.Str.{bytes_eq}
use Rattle.text_scan.specs.Words.{words_of}
use Rattle.text_scan.specs.Numbers.{number_of}
use Rattle.text_scan.specs.PlainNames.{is_plain_name}
use Rattle.text_scan.specs.declared.numeral.NumFault.{NumFault}
use Rattle.text_scan.specs.declared.numeral.NumFault.TheVariants.{Empty, Digit, Range}
use Rattle.text_form.specs.SaidLines.{and_then}
use Rattle.tech_model.specs.declared.raw.TypeId.{TypeId}
use Rattle.tech_model.specs.declared.raw.RawTech.{RawTech}
use Rattle.tech_model.specs.Types.{plane_of, is_on}
use Rattle.tech_draft.specs.Words.{has_slash, name_part, plane_part, pieces_of}
use Rattle.tech_draft.specs.Lookups.{entry_types, has_type, types_of_list}
use Rattle.drc_rules.specs.declared.rules.Rule.{Rule}
use Rattle.drc_rules.specs.declared.rules.RuleKind.{RuleKind}
use Rattle.drc_rules.specs.declared.rules.RuleKind.TheVariants.{Width, Spacing, Separation}
use Rattle.drc_rules.specs.declared.faults.DrcFault.{DrcFault}
use Rattle.drc_rules.specs.declared.faults.DrcFault.TheVariants.{Form, NoLayer, TwoPlanes, Distance, InBoth}
use Rattle.drc_rules.specs.declared.limits.TheConstants.{LARGEST_DISTANCE}

-- ---- the form of a line

-- a plain name, or two with one slash between: no operator of a technology's lists may stand here
abbrev pub is_entry : List ℕ → Bool
is_entry entry = is_plain_name (name_part entry) && (not (has_slash entry) || is_plain_name (plane_part entry))

abbrev pub is_list : List ℕ → Bool
is_list list = list_all is_entry (pieces_of list)

-- The word is a number in decimal. One past 64 bits is a number too.
abbrev pub is_number : Result ℤ NumFault → Bool
is_number (Ok n) = true
is_number (Err Range) = true
is_number (Err Empty) = false
is_number (Err Digit) = false

abbrev pub unless_malformed : Bool → Result (Unit {0}) DrcFault
unless_malformed fine = if fine then Ok tt else Err Form

-- ---- what the words of a line mean

abbrev pub means_nothing : RawTech → List ℕ → Bool
means_nothing raw entry = length (entry_types raw entry) == 0

-- the types of a list, each of whose entries means one or more
abbrev pub types_in : RawTech → List ℕ → Result (List TypeId) DrcFault
types_in raw list = if list_any (means_nothing raw) (pieces_of list) then Err NoLayer else Ok (types_of_list raw list)

-- The one plane of the types of a list. A list always has a type.
abbrev pub one_plane : RawTech → List TypeId → Result ℕ DrcFault
one_plane raw [] = Err NoLayer
one_plane raw (t ∷ types) = if list_all (is_on raw (plane_of raw t.0)) types then Ok (plane_of raw t.0) else Err TwoPlanes

-- a distance that a rule may have
abbrev pub distance_in : Result ℤ NumFault → Result ℤ DrcFault
distance_in (Ok n) = if int_le (pos 1) n && int_le n LARGEST_DISTANCE then Ok n else Err Distance
distance_in (Err fault) = Err Distance

abbrev pub unless_in_both : List TypeId → List TypeId → Result (Unit {0}) DrcFault
unless_in_both first second = if list_any (has_type second) first then Err InBoth else Ok tt

-- ---- lines

-- a rule of one list
abbrev pub one_list_rule : RawTech → RuleKind → List ℕ → List ℕ → Result Rule DrcFault
one_list_rule raw kind list d =
    and_then (unless_malformed (is_list list && is_number (number_of d))) (λ _.
    and_then (types_in raw list) (λ types.
    and_then (one_plane raw types) (λ plane.
    and_then (distance_in (number_of d)) (λ n.
    Ok (record { kind = kind; first = types; first_plane = plane; second = []; second_plane = plane; d = n })))))

-- A rule of two lists: each kind of fault that a list may have is looked for in both lists before the next kind is.
abbrev pub two_list_rule : RawTech → List ℕ → List ℕ → List ℕ → Result Rule DrcFault
two_list_rule raw first second d =
    and_then (unless_malformed (is_list first && is_list second && is_number (number_of d))) (λ _.
    and_then (types_in raw first) (λ types.
    and_then (types_in raw second) (λ others.
    and_then (one_plane raw types) (λ plane.
    and_then (one_plane raw others) (λ other_plane.
    and_then (distance_in (number_of d)) (λ n.
    and_then (unless_in_both types others) (λ _.
    Ok (record { kind = Separation; first = types; first_plane = plane; second = others; second_plane = other_plane; d = n }))))))))

-- what a line says behind its first word
abbrev pub one_list_line : RawTech → RuleKind → List (List ℕ) → Result Rule DrcFault
one_list_line raw kind (list ∷ d ∷ []) = one_list_rule raw kind list d
one_list_line raw kind _ = Err Form

abbrev pub two_list_line : RawTech → List (List ℕ) → Result Rule DrcFault
two_list_line raw (first ∷ second ∷ d ∷ []) = two_list_rule raw first second d
two_list_line raw _ = Err Form

abbrev pub rule_line : RawTech → List ℕ → List (List ℕ) → Result Rule DrcFault
rule_line raw key words =
    if bytes_eq key (codes "width") then one_list_line raw Width words
    else (if bytes_eq key (codes "spacing") then one_list_line raw Spacing words
    else (if bytes_eq key (codes "separation") then two_list_line raw words else Err Form))

abbrev pub words_say : RawTech → List (List ℕ) → Result (Option Rule) DrcFault
words_say raw [] = Ok None
words_say raw (key ∷ words) = and_then (rule_line raw key words) (λ rule. Ok (Some rule))

abbrev pub is_comment : List ℕ → Bool
is_comment [] = false
is_comment (byte ∷ bytes) = byte == 35

-- the rule of a line, none where the line is read over; or the line's first fault
abbrev pub line_says : RawTech → List ℕ → Result (Option Rule) DrcFault
line_says raw line = if is_comment line then Ok None else words_say raw (words_of line)
