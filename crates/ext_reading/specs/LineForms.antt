-- What a line of a circuit file says by itself, or that it has no form.
--
--     tech NAME                                              the header, in any order
--     timestamp ..
--     version WORD
--     style ..
--     scale ..
--     resistclasses VALUE ..
--     use CELL ID a b c d e f                                a use
--     use CELL ID[xlo:xhi:xsep][ylo:yhi:ysep] a b c d e f    an array, in version 2
--     node NAME WORD C x y TYPE a1 p1 .. aN pN               a node
--     equiv NAME ALIAS                                       another name of a node
--     fet KIND x y x+1 y+1 AREA PERIMETER SUBSTRATE GATE n WORD TERMINAL LENGTH WORD ..
--     merge PATH PATH C a1 p1 .. aN pN
--
-- A WORD may be any word, and behind `timestamp`, `style` and `scale` any words may stand. A blank line says nothing. That a number is out
-- of its range is no matter of form.
use Rattle.std.specs.Prelude.{◌&&◌, ◌||◌, ◌⊎◌, IsTrue, ℕ, ℤ, Bool, if◌then◌else◌, List, [], ◌∷◌, ◌++◌, Option, Some, None, Result, Ok, Err, codes}
use Rattle.std.specs.Str.{bytes_eq}
use Rattle.text_scan.specs.Words.{words_of}
use Rattle.text_form.specs.SaidLines.{and_then}
use Rattle.ext_model.specs.ElementNames.{is_use_id, IsIndexed}
use Rattle.ext_model.specs.Plain.{before, behind}
use Rattle.ext_reading.specs.declared.faults.ExtReadFault.{ExtReadFault}
use Rattle.ext_reading.specs.declared.faults.ExtReadFault.TheVariants.{BadLine}
use Rattle.ext_reading.specs.declared.lines.Corners.{Corners}
use Rattle.ext_reading.specs.declared.lines.SideLine.{SideLine}
use Rattle.ext_reading.specs.declared.lines.HeaderLine.{HeaderLine}
use Rattle.ext_reading.specs.declared.lines.HeaderLine.TheVariants.{Tech, Timestamp, Version, Style, Scale, Classes}
use Rattle.ext_reading.specs.declared.lines.Version as lines
use Rattle.ext_reading.specs.declared.lines.Version.TheVariants.{One, Two, Other}
use Rattle.ext_reading.specs.declared.lines.UseName.{UseName}
use Rattle.ext_reading.specs.declared.lines.ExtLine.{ExtLine}
use Rattle.ext_reading.specs.declared.lines.ExtLine.TheVariants.{Nothing, Header, Use, Node, Equiv, Fet, Merge}
use Rattle.ext_reading.specs.Parts.{word_in, cell_in, is_indexed, substrate_in, node_name_in, path_in, numeral_in, numerals_in, is_next}

-- the technology's name
abbrev pub tech_line : List (List ℕ) → Result HeaderLine ExtReadFault
tech_line (name ∷ []) = and_then (word_in name) (λ name. Ok (Tech name))
tech_line _ = Err BadLine

-- the version that a word says
abbrev pub version_of : List ℕ → lines.Version
version_of word = if bytes_eq word (codes "1") then One else if bytes_eq word (codes "2") then Two else Other

-- any one word
abbrev pub version_line : List (List ℕ) → Result HeaderLine ExtReadFault
version_line (word ∷ []) = Ok (Version (version_of word))
version_line _ = Err BadLine

-- the values of the classes, of which there may be none
abbrev pub classes_line : List (List ℕ) → Result HeaderLine ExtReadFault
classes_line words = and_then (numerals_in words) (λ values. Ok (Classes values))

-- the six numbers of a use
abbrev pub Six : Type 0
Six = Option ℤ × Option ℤ × Option ℤ × Option ℤ × Option ℤ × Option ℤ

abbrev pub six_numerals : List (List ℕ) → Result Six ExtReadFault
six_numerals (a ∷ b ∷ c ∷ d ∷ e ∷ f ∷ []) =
    and_then (numeral_in a) (λ a.
    and_then (numeral_in b) (λ b.
    and_then (numeral_in c) (λ c.
    and_then (numeral_in d) (λ d.
    and_then (numeral_in e) (λ e.
    and_then (numeral_in f) (λ f.
    Ok (a, b, c, d, e, f)))))))
six_numerals _ = Err BadLine

-- the numbers of one direction of a grid: `lo:hi:sep`
abbrev pub Span : Type 0
Span = Option ℤ × Option ℤ × Option ℤ

abbrev pub span_in : List ℕ → Result Span ExtReadFault
span_in text =
    and_then (numeral_in (before 58 text)) (λ lo.
    and_then (numeral_in (before 58 (behind 58 text))) (λ hi.
    and_then (numeral_in (behind 58 (behind 58 text))) (λ sep.
    Ok (lo, hi, sep))))

-- the name of an array, where the word is this id with these two texts in brackets behind it
abbrev pub array_in : List ℕ → List ℕ → List ℕ → List ℕ → Result UseName ExtReadFault
array_in word id x y =
    if is_use_id id && bytes_eq word (id ++ 91 ∷ (x ++ 93 ∷ 91 ∷ (y ++ 93 ∷ [])))
    then and_then (span_in x) (λ x.
    and_then (span_in y) (λ y.
    Ok (record { id = id; grid = Some (x.0, x.1, x.2, y.0, y.1, y.2) })))
    else Err BadLine

-- the name of a use: an id, one with two indices, or that of an array
abbrev pub use_name_in : List ℕ → Result UseName ExtReadFault
use_name_in word =
    if is_use_id word || is_indexed word then Ok (record { id = word; grid = None })
    else array_in word (before 91 word) (before 93 (behind 91 word)) (before 93 (behind 91 (behind 91 word)))

-- The id is one of a use of this form: that of an array is the id alone, and another one may have indices of its own.
abbrev pub HasNameForm : Option Six → List ℕ → Type 0
HasNameForm None id = IsTrue (is_use_id id) ⊎ IsIndexed id
HasNameForm (Some numbers) id = IsTrue (is_use_id id)

-- the name of a use, where the line says one, has its form
abbrev pub NamesUse : ExtLine → Type 0
NamesUse (Use line) = HasNameForm line.name.grid line.name.id
NamesUse said = Unit {0}

abbrev pub use_line : List (List ℕ) → Result ExtLine ExtReadFault
use_line (cell ∷ name ∷ words) =
    and_then (cell_in cell) (λ cell.
    and_then (use_name_in name) (λ name.
    and_then (six_numerals words) (λ six.
    Ok (Use (record { cell = cell; name = name; six = six })))))
use_line _ = Err BadLine

-- a node with these measures
abbrev pub node_of : List ℕ → List ℕ → List ℕ → List ℕ → List ℕ → List (Option ℤ) → Result ExtLine ExtReadFault
node_of name cap x y kind measures =
    and_then (node_name_in name) (λ name.
    and_then (numeral_in cap) (λ cap.
    and_then (numeral_in x) (λ x.
    and_then (numeral_in y) (λ y.
    and_then (word_in kind) (λ kind.
    Ok (Node (record { name = name; cap = cap; x = x; y = y; kind = kind; measures = measures })))))))

abbrev pub node_line : List (List ℕ) → Result ExtLine ExtReadFault
node_line (name ∷ resistance ∷ cap ∷ x ∷ y ∷ kind ∷ words) =
    and_then (numerals_in words) (λ measures. node_of name cap x y kind measures)
node_line _ = Err BadLine

abbrev pub equiv_line : List (List ℕ) → Result ExtLine ExtReadFault
equiv_line (name ∷ alias ∷ []) = and_then (node_name_in name) (λ name. and_then (node_name_in alias) (λ alias. Ok (Equiv name alias)))
equiv_line _ = Err BadLine

-- a gate or a terminal, with its length
abbrev pub side_in : List ℕ → List ℕ → Result SideLine ExtReadFault
side_in node length = and_then (node_name_in node) (λ node. and_then (numeral_in length) (λ length. Ok (record { node = node; length = length })))

-- the terminals that words say, behind these: for each its node, its length, and a word that is read over
abbrev pub sides_from : List SideLine → List (List ℕ) → Result (List SideLine) ExtReadFault
sides_from sides [] = Ok sides
sides_from sides (node ∷ length ∷ word ∷ words) = and_then (side_in node length) (λ side. sides_from (sides ++ side ∷ []) words)
sides_from sides _ = Err BadLine

-- the far corner is one to the right of the point and one above it
abbrev pub are_corners : Corners → Bool
are_corners corners = is_next corners.x corners.far_x && is_next corners.y corners.far_y

abbrev pub if_corners : Corners → Result Corners ExtReadFault
if_corners corners = if are_corners corners then Ok corners else Err BadLine

abbrev pub corners_in : List ℕ → List ℕ → List ℕ → List ℕ → Result Corners ExtReadFault
corners_in x y far_x far_y =
    and_then (numeral_in x) (λ x.
    and_then (numeral_in y) (λ y.
    and_then (numeral_in far_x) (λ far_x.
    and_then (numeral_in far_y) (λ far_y.
    if_corners (record { x = x; y = y; far_x = far_x; far_y = far_y })))))

-- a transistor at its place, behind which its area, its perimeter, its substrate, its gate and its terminals stand
abbrev pub fet_at : List ℕ → Corners → List (List ℕ) → Result ExtLine ExtReadFault
fet_at kind corners (area ∷ perimeter ∷ substrate ∷ gate ∷ length ∷ word ∷ words) =
    and_then (numeral_in area) (λ area.
    and_then (numeral_in perimeter) (λ perimeter.
    and_then (substrate_in substrate) (λ substrate.
    and_then (side_in gate length) (λ gate.
    and_then (sides_from [] words) (λ terminals.
    Ok (Fet (record {
      kind = kind;
      corners = corners;
      area = area;
      perimeter = perimeter;
      substrate = substrate;
      gate = gate;
      terminals = terminals;
    })))))))
fet_at kind corners _ = Err BadLine

abbrev pub fet_line : List (List ℕ) → Result ExtLine ExtReadFault
fet_line (kind ∷ x ∷ y ∷ far_x ∷ far_y ∷ words) =
    and_then (word_in kind) (λ kind. and_then (corners_in x y far_x far_y) (λ corners. fet_at kind corners words))
fet_line _ = Err BadLine

abbrev pub merge_line : List (List ℕ) → Result ExtLine ExtReadFault
merge_line (first ∷ second ∷ cap ∷ words) =
    and_then (path_in first) (λ first.
    and_then (path_in second) (λ second.
    and_then (numeral_in cap) (λ cap.
    and_then (numerals_in words) (λ measures.
    Ok (Merge (record { first = first; second = second; cap = cap; measures = measures }))))))
merge_line _ = Err BadLine

-- a line of the header
abbrev pub header_line : Result HeaderLine ExtReadFault → Result ExtLine ExtReadFault
header_line header = and_then header (λ header. Ok (Header header))

-- a line behind the header, by its first word
abbrev pub body_line : List ℕ → List (List ℕ) → Result ExtLine ExtReadFault
body_line key words =
    if bytes_eq key (codes "use") then use_line words
    else if bytes_eq key (codes "node") then node_line words
    else if bytes_eq key (codes "equiv") then equiv_line words
    else if bytes_eq key (codes "fet") then fet_line words
    else if bytes_eq key (codes "merge") then merge_line words
    else Err BadLine

-- a line by its first word
abbrev pub line_by_key : List ℕ → List (List ℕ) → Result ExtLine ExtReadFault
line_by_key key words =
    if bytes_eq key (codes "tech") then header_line (tech_line words)
    else if bytes_eq key (codes "timestamp") then Ok (Header Timestamp)
    else if bytes_eq key (codes "version") then header_line (version_line words)
    else if bytes_eq key (codes "style") then Ok (Header Style)
    else if bytes_eq key (codes "scale") then Ok (Header Scale)
    else if bytes_eq key (codes "resistclasses") then header_line (classes_line words)
    else body_line key words

abbrev pub words_say : List (List ℕ) → Result ExtLine ExtReadFault
words_say [] = Ok Nothing
words_say (key ∷ words) = line_by_key key words

-- what the line says
abbrev pub says : List ℕ → Result ExtLine ExtReadFault
says line = words_say (words_of line)
