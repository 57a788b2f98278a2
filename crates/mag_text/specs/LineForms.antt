-- What a line of a mag text behind the first says by itself, wherever it stands.
--
--     tech NAME                                        the technology, which may have any name
--     timestamp N                                      the time of the last change
--     magscale N D                                     the scale
--     << NAME >>                                       a group, or the end
--     rect XBOT YBOT XTOP YTOP                         a rectangle
--     rlabel LAYER XBOT YBOT XTOP YTOP POSITION TEXT   a label, whose text may have blanks
--     use CELL ID ..                                   a use, whose further words are read over
--     array XLO XHI XSEP YLO YHI YSEP                  its grid
--     transform A B C D E F                            where it stands
--     box XBOT YBOT XTOP YTOP                          its box, which is read over
--
-- A line that is blank, or begins with `#`, says nothing. A line that begins with `tri`, `flabel` or `port` is not here. Any other line, and
-- one with a wrong number of words or a word that is not of its form, is bad. What is wrong with a line of its form, an unknown layer first,
-- then a number out of range, an empty rectangle or a wrong orientation, counts only where the line may stand.
use Rattle.std.specs.Prelude.{◌==◌, ◌&&◌, ◌||◌, ℕ, Bool, false, if◌then◌else◌, List, [], ◌∷◌, Option, Some, None, Result, Ok, Err, codes}
use Rattle.std.specs.Option.{ok_or, option_map}
use Rattle.std.specs.List.{list_any}
use Rattle.std.specs.Str.{bytes_eq}
use Rattle.geo_core.specs.declared.squares.Rect.{Rect}
use Rattle.text_scan.specs.Numbers.{number_of}
use Rattle.text_scan.specs.PlainNames.{is_plain_name}
use Rattle.text_scan.specs.Words.{words_of}
use Rattle.text_form.specs.SaidLines.{and_then}
use Rattle.tech_model.specs.declared.raw.Label.{Label as OneLabel}
use Rattle.tech_model.specs.declared.raw.LayerId.{LayerId}
use Rattle.tech_model.specs.declared.raw.RawTech.{RawTech}
use Rattle.tech_model.specs.Types.{layer_named, layer_number}
use Rattle.cell_library.specs.CellBodies.Words.{is_use_id, is_label_text, without_outer_blanks}
use Rattle.mag_text.specs.declared.faults.MagFault.{MagFault}
use Rattle.mag_text.specs.declared.faults.MagFault.TheVariants.{BadLine, NoLayer, NotHere}
use Rattle.mag_text.specs.declared.files.Group.{Group as OneGroup}
use Rattle.mag_text.specs.declared.files.Group.TheVariants.{Paint, Labels, ReadOver}
use Rattle.mag_text.specs.declared.files.MagLine.{MagLine}
use Rattle.mag_text.specs.declared.files.MagLine.TheVariants.{Nothing, Tech, Timestamp, Scale, Group, End, Area, Label, Use, Array, Transform, Box}
use Rattle.mag_text.specs.NumberForms.{Four, Six, is_decimal, are_four_decimal, are_six_decimal, number_in, scale_in, position_in, rect_in, if_painted}
use Rattle.mag_text.specs.NumberForms.{if_touched, grid_in, six_in}
use Rattle.mag_text.specs.WordForms.{after_word, after_words}

-- what a line of its form says, and a bad line where it is not
abbrev pub if_form : Bool → MagLine → Result MagLine MagFault
if_form form said = if form then Ok said else Err BadLine

-- the layer that a word names
abbrev pub layer_in : RawTech → List ℕ → Result LayerId MagFault
layer_in raw word = ok_or (option_map layer_number (layer_named raw word)) NoLayer

-- the layer of a label: `space` is none
abbrev pub label_layer_in : RawTech → List ℕ → Result (Option LayerId) MagFault
label_layer_in raw word = if bytes_eq word (codes "space") then Ok None else and_then (layer_in raw word) (λ layer. Ok (Some layer))

abbrev pub tech_line : List (List ℕ) → Result MagLine MagFault
tech_line (name ∷ []) = Ok Tech
tech_line _ = Err BadLine

abbrev pub timestamp_line : List (List ℕ) → Result MagLine MagFault
timestamp_line (time ∷ []) = if_form (is_decimal (number_of time)) (Timestamp (number_in (number_of time)))
timestamp_line _ = Err BadLine

abbrev pub scale_line : List (List ℕ) → Result MagLine MagFault
scale_line (n ∷ d ∷ []) = if_form (is_decimal (number_of n) && is_decimal (number_of d)) (Scale (scale_in (number_of n) (number_of d)))
scale_line _ = Err BadLine

-- names of groups that are read over
abbrev pub read_over_names : List (List ℕ)
read_over_names = codes "checkpaint" ∷ codes "error_p" ∷ codes "error_s" ∷ codes "error_ps" ∷ codes "properties" ∷ []

abbrev pub is_read_over_name : List ℕ → Bool
is_read_over_name name = list_any (bytes_eq name) read_over_names

-- the group of this name
abbrev pub group_named : RawTech → List ℕ → Result OneGroup MagFault
group_named raw name =
    if bytes_eq name (codes "labels") then Ok Labels
    else if is_read_over_name name then Ok ReadOver
    else and_then (layer_in raw name) (λ layer. Ok (Paint layer))

abbrev pub group_line : RawTech → List (List ℕ) → Result MagLine MagFault
group_line raw (name ∷ closing ∷ []) =
    if_form (bytes_eq closing (codes ">>")) (if bytes_eq name (codes "end") then End else Group (group_named raw name))
group_line raw _ = Err BadLine

-- four words as numbers, and six: that each is decimal is part of a line's form
unfoldable pub if_four : Four → Result Four MagFault
if_four words = if are_four_decimal words then Ok words else Err BadLine

unfoldable pub if_six : Six → Result Six MagFault
if_six words = if are_six_decimal words then Ok words else Err BadLine

abbrev pub four_numbers : List (List ℕ) → Result Four MagFault
four_numbers (a ∷ b ∷ c ∷ d ∷ []) = if_four (number_of a, number_of b, number_of c, number_of d)
four_numbers _ = Err BadLine

abbrev pub six_numbers : List (List ℕ) → Result Six MagFault
six_numbers (a ∷ b ∷ c ∷ d ∷ e ∷ f ∷ []) = if_six (number_of a, number_of b, number_of c, number_of d, number_of e, number_of f)
six_numbers _ = Err BadLine

abbrev pub area_line : List (List ℕ) → Result MagLine MagFault
area_line words = and_then (four_numbers words) (λ edges. Ok (Area (and_then (rect_in edges) if_painted)))

-- the layer and the rectangle of a label
abbrev pub label_place : RawTech → List ℕ → Result Rect MagFault → Result (Option LayerId × Rect) MagFault
label_place raw layer area =
    and_then (label_layer_in raw layer) (λ layer. and_then area (λ area. and_then (if_touched area) (λ area. Ok (layer, area))))

-- the label that stands there
abbrev pub label_at : Result (Option LayerId × Rect) MagFault → ℕ → List ℕ → Result OneLabel MagFault
label_at place position text = and_then place (λ place. Ok (record { layer = place.0; area = place.1; position = position; text = text }))

-- the line of a label, where its edges are decimal, the position is one and the text that of a label
unfoldable pub label_line_of : RawTech → List ℕ → Four → Option ℕ → List ℕ → Result MagLine MagFault
label_line_of raw layer edges None text = Err BadLine
label_line_of raw layer edges (Some position) text =
    if_form (are_four_decimal edges && is_label_text text) (Label (label_at (label_place raw layer (rect_in edges)) position text))

-- what a line of these words says behind the first two edges of a label, where the text follows the position
unfoldable pub label_behind : RawTech → List ℕ → List ℕ → List ℕ → List (List ℕ) → List ℕ → Result MagLine MagFault
label_behind raw layer xbot ybot (xtop ∷ ytop ∷ position ∷ words) text =
    label_line_of raw layer (number_of xbot, number_of ybot, number_of xtop, number_of ytop) (position_in (number_of position)) text
label_behind raw layer xbot ybot _ text = Err BadLine

-- the same behind the first word of the line
abbrev pub label_line : RawTech → List (List ℕ) → List ℕ → Result MagLine MagFault
label_line raw (layer ∷ xbot ∷ ybot ∷ words) text = label_behind raw layer xbot ybot words text
label_line raw _ text = Err BadLine

-- the text of a label, where this follows the first word of its line
abbrev pub label_text : List ℕ → List ℕ
label_text rest = without_outer_blanks (after_words 6 rest)

abbrev pub use_line : List (List ℕ) → Result MagLine MagFault
use_line (cell ∷ id ∷ words) = if_form (is_plain_name cell && is_use_id id) (Use cell id)
use_line _ = Err BadLine

abbrev pub array_line : List (List ℕ) → Result MagLine MagFault
array_line words = and_then (six_numbers words) (λ numbers. Ok (Array (grid_in numbers)))

abbrev pub transform_line : List (List ℕ) → Result MagLine MagFault
transform_line words = and_then (six_numbers words) (λ numbers. Ok (Transform (six_in numbers)))

abbrev pub box_line : List (List ℕ) → Result MagLine MagFault
box_line words = and_then (four_numbers words) (λ edges. Ok Box)

-- lines that begin with these are not here
abbrev pub is_left_out : List ℕ → Bool
is_left_out key = bytes_eq key (codes "tri") || bytes_eq key (codes "flabel") || bytes_eq key (codes "port")

abbrev pub other_line : List ℕ → Result MagLine MagFault
other_line key = if is_left_out key then Err NotHere else Err BadLine

-- a line of a header, by its first word and what follows it
abbrev pub header_line : List ℕ → List ℕ → Result MagLine MagFault
header_line key rest =
    if bytes_eq key (codes "tech") then tech_line (words_of rest)
    else if bytes_eq key (codes "timestamp") then timestamp_line (words_of rest)
    else if bytes_eq key (codes "magscale") then scale_line (words_of rest)
    else other_line key

-- or one of a use
abbrev pub line_of_use : List ℕ → List ℕ → Result MagLine MagFault
line_of_use key rest =
    if bytes_eq key (codes "use") then use_line (words_of rest)
    else if bytes_eq key (codes "array") then array_line (words_of rest)
    else if bytes_eq key (codes "transform") then transform_line (words_of rest)
    else if bytes_eq key (codes "box") then box_line (words_of rest)
    else header_line key rest

-- or one of a group
unfoldable pub line_by_key : RawTech → List ℕ → List ℕ → Result MagLine MagFault
line_by_key raw key rest =
    if bytes_eq key (codes "rect") then area_line (words_of rest)
    else if bytes_eq key (codes "rlabel") then label_line raw (words_of rest) (label_text rest)
    else if bytes_eq key (codes "<<") then group_line raw (words_of rest)
    else line_of_use key rest

abbrev pub begins_with_hash : List ℕ → Bool
begins_with_hash [] = false
begins_with_hash (byte ∷ bytes) = byte == 35

-- what a line of these words says, of which this follows the first
abbrev pub words_say : RawTech → List (List ℕ) → List ℕ → Result MagLine MagFault
words_say raw [] rest = Ok Nothing
words_say raw (key ∷ words) rest = line_by_key raw key rest

-- what a line says
abbrev pub says : RawTech → List ℕ → Result MagLine MagFault
says raw line = if begins_with_hash line then Ok Nothing else words_say raw (words_of line) (after_word line)
