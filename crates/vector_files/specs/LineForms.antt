-- What a line of a vector file says by itself, or the first fault in it.
--
--     set NODE LEVEL       the node becomes an input at 0, 1 or X
--     free NODE            the node stores charge again
--     size NODE SIZE       the node's size is 1, 2 or 3
--     phase                a phase is run
--     show NODE ..         the states of one node or more are told
--
-- A node is named by any of its names. A line that begins with `#`, or is blank, is read over. A line of another form has the fault
-- `Vector`, and so has one that would change power or ground, under whichever name, whether or not the network has them. Else the first
-- name on the line that the network does not have is the fault.
use Rattle.std.specs.Prelude.{◌==◌, ◌&&◌, ◌||◌, ℕ, Bool, false, if◌then◌else◌, List, [], ◌∷◌, Option, Some, None, Result, Ok, Err, codes}
use Rattle.std.specs.List.{list_any}
use Rattle.std.specs.Option.{ok_or, option_map}
use Rattle.std.specs.Str.{bytes_eq}
use Rattle.text_scan.specs.Words.{words_of}
use Rattle.text_form.specs.SaidLines.{and_then}
use Rattle.switch_net.specs.declared.switches.Level.{Level}
use Rattle.switch_net.specs.declared.switches.Level.TheVariants.{Zero, One, X}
use Rattle.vector_files.specs.declared.faults.VecFault.{VecFault}
use Rattle.vector_files.specs.declared.faults.VecFault.TheVariants.{Vector, NoNode}
use Rattle.vector_files.specs.declared.files.VecLine.{VecLine}
use Rattle.vector_files.specs.declared.files.VecLine.TheVariants.{Set, Free, Size, Phase, Show}

-- the node of a name, if the network has the name
abbrev pub node_named : List (List ℕ × ℕ) → List ℕ → Option ℕ
node_named [] name = None
node_named (named ∷ names) name = if bytes_eq named.0 name then Some named.1 else node_named names name

-- the node of a name that a line has
abbrev pub node_in : List (List ℕ × ℕ) → List ℕ → Result ℕ VecFault
node_in names name = ok_or (node_named names name) (NoNode name)

-- the level that a word writes
abbrev pub level_of : List ℕ → Option Level
level_of word =
    if bytes_eq word (codes "0") then Some Zero
    else (if bytes_eq word (codes "1") then Some One else (if bytes_eq word (codes "X") then Some X else None))

abbrev pub level_in : List ℕ → Result Level VecFault
level_in word = ok_or (level_of word) Vector

-- the size that a word writes
abbrev pub size_of : List ℕ → Option ℕ
size_of word =
    if bytes_eq word (codes "1") then Some 1
    else (if bytes_eq word (codes "2") then Some 2 else (if bytes_eq word (codes "3") then Some 3 else None))

abbrev pub size_in : List ℕ → Result ℕ VecFault
size_in word = ok_or (size_of word) Vector

-- the names of power and ground
abbrev pub is_rail_name : List ℕ → Bool
is_rail_name name = bytes_eq name (codes "Vdd!") || bytes_eq name (codes "GND!")

-- the node has one of these names
abbrev pub is_rail : List (List ℕ × ℕ) → ℕ → Bool
is_rail names v = list_any (λ named. is_rail_name named.0 && named.1 == v) names

abbrev pub unless_rail : List (List ℕ × ℕ) → ℕ → Result ℕ VecFault
unless_rail names v = if is_rail names v then Err Vector else Ok v

-- the node of the name, which a line changes: neither power nor ground
abbrev pub changed_node : List (List ℕ × ℕ) → List ℕ → Result ℕ VecFault
changed_node names name = if is_rail_name name then Err Vector else and_then (node_in names name) (unless_rail names)

-- what a line says behind its first word
abbrev pub set_line : List (List ℕ × ℕ) → List (List ℕ) → Result VecLine VecFault
set_line names (name ∷ level ∷ []) =
    and_then (level_in level) (λ x. and_then (changed_node names name) (λ v. Ok (Set v x)))
set_line names _ = Err Vector

abbrev pub free_line : List (List ℕ × ℕ) → List (List ℕ) → Result VecLine VecFault
free_line names (name ∷ []) = and_then (changed_node names name) (λ v. Ok (Free v))
free_line names _ = Err Vector

abbrev pub size_line : List (List ℕ × ℕ) → List (List ℕ) → Result VecLine VecFault
size_line names (name ∷ size ∷ []) =
    and_then (size_in size) (λ k. and_then (changed_node names name) (λ v. Ok (Size v k)))
size_line names _ = Err Vector

abbrev pub phase_line : List (List ℕ) → Result VecLine VecFault
phase_line [] = Ok Phase
phase_line _ = Err Vector

-- the names that are asked for, each with its node
abbrev pub asked_in : List (List ℕ × ℕ) → List (List ℕ) → Result (List (List ℕ × ℕ)) VecFault
asked_in names [] = Ok []
asked_in names (name ∷ rest) = and_then (node_in names name) (λ v. and_then (asked_in names rest) (λ asked. Ok ((name, v) ∷ asked)))

abbrev pub show_line : List (List ℕ × ℕ) → List (List ℕ) → Result VecLine VecFault
show_line names [] = Err Vector
show_line names (name ∷ rest) = and_then (asked_in names (name ∷ rest)) (λ asked. Ok (Show asked))

-- what a line of these words says
abbrev pub command_line : List (List ℕ × ℕ) → List ℕ → List (List ℕ) → Result VecLine VecFault
command_line names key words =
    if bytes_eq key (codes "set") then set_line names words
    else (if bytes_eq key (codes "free") then free_line names words
    else (if bytes_eq key (codes "size") then size_line names words
    else (if bytes_eq key (codes "phase") then phase_line words
    else (if bytes_eq key (codes "show") then show_line names words else Err Vector))))

abbrev pub words_say : List (List ℕ × ℕ) → List (List ℕ) → Result (Option VecLine) VecFault
words_say names [] = Ok None
words_say names (key ∷ words) = and_then (command_line names key words) (λ said. Ok (Some said))

abbrev pub is_comment : List ℕ → Bool
is_comment [] = false
is_comment (byte ∷ bytes) = byte == 35

-- what a line says, if it is not read over
abbrev pub line_says : List (List ℕ × ℕ) → List ℕ → Result (Option VecLine) VecFault
line_says names line = if is_comment line then Ok None else words_say names (words_of line)

-- what the line of this number says, with the number
abbrev pub says : List (List ℕ × ℕ) → ℕ → List ℕ → Result (Option (ℕ × VecLine)) VecFault
says names number line = and_then (line_says names line) (λ said. Ok (option_map (λ x. (number, x)) said))
