-- The commands of a CIF text that is written, each on a line.
use Rattle.std.specs.Prelude.{◌&&◌, ◌++◌, ◌∷◌, [], ℕ, ℤ, pos, negsuc, neg_ℤ, ◌+ℤ◌, ◌-ℤ◌, ◌*ℤ◌, Bool, if◌then◌else◌, List, map, codes}
use Rattle.std.specs.Ordering.{int_eq}
use Rattle.text_scan.specs.Decimal.{decimal}
use Rattle.text_scan.specs.Written.{line_of}
use Rattle.geo_core.specs.declared.orients.Orient.{Orient}
use Rattle.geo_core.specs.declared.squares.Rect.{Rect}
use Rattle.geo_core.specs.declared.transforms.Transform.{Transform}
use Rattle.geo_core.specs.Orientation.{matrix}

-- a command: its words with a blank between two, and a semicolon
abbrev pub command : List (List ℕ) → List ℕ
command words = line_of words ++ codes ";"

-- a command of a word and numbers
abbrev pub numbers_command : List ℕ → List ℤ → List ℕ
numbers_command key numbers = command (key ∷ map decimal numbers)

-- `DS n 1 2;` begins symbol n, in which all lengths stand twice
abbrev pub start_command : ℕ → List ℕ
start_command number = numbers_command (codes "DS") (pos number ∷ pos 1 ∷ pos 2 ∷ [])

-- `9 NAME;` names it
abbrev pub name_command : List ℕ → List ℕ
name_command name = command (codes "9" ∷ name ∷ [])

-- the name of the layer of part k: `Pk`
abbrev pub part_name : ℕ → List ℕ
part_name k = codes "P" ++ decimal (pos k)

-- `L Pk;`: the boxes behind it are of part k
abbrev pub layer_command : ℕ → List ℕ
layer_command k = command (codes "L" ∷ part_name k ∷ [])

-- `B l w x y;`: the length and the width of a box, and its centre, all twice
abbrev pub box_command : Rect → List ℕ
box_command area =
    numbers_command (codes "B")
    ((pos 2 *ℤ (area.xhi -ℤ area.xlo)) ∷ (pos 2 *ℤ (area.yhi -ℤ area.ylo)) ∷ (area.xlo +ℤ area.xhi) ∷ (area.ylo +ℤ area.yhi) ∷ [])

-- a part has lines where it has a box
abbrev pub part_lines : ℕ → List Rect → List (List ℕ)
part_lines part [] = []
part_lines part (area ∷ areas) = layer_command part ∷ map box_command (area ∷ areas)

-- the orientation mirrors: the determinant of its matrix is -1
abbrev pub is_reflection : Orient → Bool
is_reflection orient =
    int_eq (((matrix orient).a *ℤ (matrix orient).e) -ℤ ((matrix orient).b *ℤ (matrix orient).d)) (negsuc 0)

-- `M X` turns the x axis round before anything else
abbrev pub mirror_words : Orient → List (List ℕ)
mirror_words orient = if is_reflection orient then codes "M" ∷ codes "X" ∷ [] else []

-- where the x axis goes, if it was not turned round first
abbrev pub direction : Orient → ℤ × ℤ
direction orient =
    if is_reflection orient then (neg_ℤ (matrix orient).a, neg_ℤ (matrix orient).d) else ((matrix orient).a, (matrix orient).d)

-- that is where it was
abbrev pub stays : Orient → Bool
stays orient = int_eq (direction orient).0 (pos 1) && int_eq (direction orient).1 (pos 0)

-- `R p q` turns the x axis that way, and is not there where it stays
abbrev pub turn_words : Orient → List (List ℕ)
turn_words orient =
    if stays orient
    then []
    else codes "R" ∷ map decimal ((direction orient).0 ∷ (direction orient).1 ∷ [])

-- `T X Y` moves by twice the displacement
abbrev pub shift_words : Transform → List (List ℕ)
shift_words element = codes "T" ∷ map decimal ((pos 2 *ℤ element.dx) ∷ (pos 2 *ℤ element.dy) ∷ [])

-- `C n M X R p q T X Y;` calls symbol n as an element stands
abbrev pub call_command : ℕ → Transform → List ℕ
call_command number element =
    command
    (codes "C" ∷ decimal (pos number) ∷ (mirror_words element.orient ++ (turn_words element.orient ++ shift_words element)))

-- `DF;` ends a symbol
abbrev pub finish_command : List ℕ
finish_command = command (codes "DF" ∷ [])

-- `C n;` calls symbol n as it is
abbrev pub plain_call : ℕ → List ℕ
plain_call number = numbers_command (codes "C") (pos number ∷ [])

-- `E` ends the text
abbrev pub end_line : List ℕ
end_line = codes "E"
