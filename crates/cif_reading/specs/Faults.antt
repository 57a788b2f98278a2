-- What may be wrong with a command where it stands.
use Rattle.std.specs.Prelude.{◌&&◌, ◌||◌, not, ℤ, pos, int_le, is_some, Bool, true, false, if◌then◌else◌, List, [], ◌∷◌, Option, Some, None}
use Rattle.std.specs.List.{list_all}
use Rattle.cif_forms.specs.declared.commands.CifCommand.{CifCommand}
use Rattle.cif_forms.specs.declared.commands.CifCommand.TheVariants.{Empty, End, LeftOut as SaidLeftOut, Other, Layer, Start, Finish, Area, Call}
use Rattle.cif_forms.specs.declared.commands.SaidMove.{SaidMove}
use Rattle.cif_reading.specs.declared.faults.CifFault.{CifFault}
use Rattle.cif_reading.specs.declared.faults.CifFault.TheVariants.{Form, LeftOut, NoSymbol, SymbolTwice, NotWhole, Range, NoLayer}
use Rattle.cif_reading.specs.declared.limits.TheConstants.{MOST_FACTOR}
use Rattle.cif_reading.specs.Boxes.{area_is_in_range, area_is_whole, has_short_side, is_in_range}
use Rattle.cif_reading.specs.SaidSteps.{call_is_in_range, is_along_axis, move_is_whole}
use Rattle.cif_reading.specs.Drafts.{Draft, has_symbol, scale_of}

-- a command of a kind that is left out, a box with a direction, and a call with a turn that is not along an axis
unfoldable pub uses_what_is_left_out : CifCommand → Bool
uses_what_is_left_out SaidLeftOut = true
uses_what_is_left_out (Area l w x y direction) = direction
uses_what_is_left_out (Call n moves more) = not (list_all is_along_axis moves)
uses_what_is_left_out command = false

-- A command may stand without a semicolon: nothing but blanks, and the end of the text.
abbrev pub needs_no_semicolon : CifCommand → Bool
needs_no_semicolon Empty = true
needs_no_semicolon End = true
needs_no_semicolon command = false

-- the semicolon of a command is missing
unfoldable pub lacks_semicolon : Bool → CifCommand → Bool
lacks_semicolon closed command = not (closed || needs_no_semicolon command)

-- a number of a scale
abbrev pub is_factor : ℤ → Bool
is_factor z = int_le (pos 1) z && int_le z (pos MOST_FACTOR)

-- a box of this length and width, with this centre
abbrev pub area_faults : Draft → ℤ → ℤ → ℤ → ℤ → List (Bool × CifFault)
area_faults draft l w x y =
    (has_short_side l w, Form)
    ∷ (not (area_is_in_range l w x y), Range)
    ∷ (not (is_some draft.layer), NoLayer)
    ∷ (not (area_is_whole (scale_of draft.opened) l w x y), NotWhole) ∷ []

-- a call of the symbol of this number with these steps, behind which something else stands or not
abbrev pub call_faults : Draft → ℤ → List SaidMove → Bool → List (Bool × CifFault)
call_faults draft n moves more =
    (more, Form)
    ∷ (not (call_is_in_range n moves), Range)
    ∷ (not (has_symbol n draft.symbols), NoSymbol)
    ∷ (not (list_all (move_is_whole (scale_of draft.opened)) moves), NotWhole) ∷ []

-- the start of a symbol of this number, with the scale a / b
abbrev pub start_faults : Draft → ℤ → ℤ → ℤ → List (Bool × CifFault)
start_faults draft n a b =
    (is_some draft.opened || not (is_factor a && is_factor b), Form)
    ∷ (not (is_in_range n), Range)
    ∷ (has_symbol n draft.symbols, SymbolTwice) ∷ []

-- the faults that a command may have by what was read before it
abbrev pub faults_there : Draft → CifCommand → List (Bool × CifFault)
faults_there draft Other = (true, Form) ∷ []
faults_there draft (Layer name) = (not (is_some name), Form) ∷ []
faults_there draft (Start n a b) = start_faults draft n a b
faults_there draft Finish = (not (is_some draft.opened), Form) ∷ []
faults_there draft End = (is_some draft.opened, Form) ∷ []
faults_there draft (Area l w x y direction) = area_faults draft l w x y
faults_there draft (Call n moves more) = call_faults draft n moves more
faults_there draft command = []

-- What may be wrong with a command, in the order in which it is told, and whether it is.
abbrev pub faults_of : Draft → Bool → CifCommand → List (Bool × CifFault)
faults_of draft closed command = (uses_what_is_left_out command, LeftOut) ∷ (lacks_semicolon closed command, Form) ∷ faults_there draft command

abbrev pub first_fault : List (Bool × CifFault) → Option CifFault
first_fault [] = None
first_fault (may ∷ faults) = if may.0 then Some may.1 else first_fault faults

-- the fault that is told of a command, which a semicolon ends or not
abbrev pub fault_in : Draft → Bool → CifCommand → Option CifFault
fault_in draft closed command = first_fault (faults_of draft closed command)
