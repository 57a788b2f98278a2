-- CIF texts as they are written: a command and its semicolon on each line, and `E` on the last. A command's words stand apart by one blank.
use Rattle.std.specs.Prelude.{◌≡◌, not, ℕ, FitsSigned, Bool, true, List, [], ◌∷◌, ◌++◌, map, codes, Result, Ok, Err, ⊤}
use Rattle.std.specs.Int.{w32}
use Rattle.std.specs.List.{list_all, AllByRecursion}
use Rattle.text_scan.specs.Decimal.{decimal}
use Rattle.text_scan.specs.Written.{text_of}
use Rattle.text_form.specs.declared.reading.At.{At}
use Rattle.text_form.specs.SaidLines.{and_then}
use Rattle.cif_forms.specs.declared.commands.SaidMove.{SaidMove}
use Rattle.cif_forms.specs.declared.commands.SaidMove.TheVariants.{Shift, MirrorX, MirrorY, Toward}
use Rattle.cif_forms.specs.Bytes.{is_mark}

-- a byte that is no parenthesis and ends no command
abbrev pub is_unmarked : ℕ → Bool
is_unmarked byte = not (is_mark byte)

-- all bytes are such bytes
abbrev pub is_unmarked_text : List ℕ → Bool
is_unmarked_text bytes = list_all is_unmarked bytes

-- commands, or words, of such bytes
abbrev pub AreUnmarked : List (List ℕ) → Type 0
AreUnmarked texts = AllByRecursion (λ text. is_unmarked_text text ≡ true) texts

-- a command with its semicolon
abbrev pub with_semicolon : List ℕ → List ℕ
with_semicolon command = command ++ 59 ∷ []

-- the text of these commands
abbrev pub written_text : List (List ℕ) → List ℕ
written_text commands = text_of (map with_semicolon commands ++ codes "E" ∷ [])

-- What stands between the semicolons of such a text: each command, of which the first has this in front and all others have the line feed of the
-- line before; and last `E` and a line feed.
abbrev pub written_parts : List ℕ → List (List ℕ) → List (List ℕ)
written_parts front [] = (front ++ (codes "E" ++ 10 ∷ [])) ∷ []
written_parts front (command ∷ commands) = (front ++ command) ∷ written_parts (10 ∷ []) commands

-- what commands make of a state, one after another, each with its semicolon; or the fault of the first faulty one
abbrev pub first_fault_of : {S F : Type 0} → (S → List ℕ → Bool → Result S F) → S → List (List ℕ) → Result S F
first_fault_of step state [] = Ok state
first_fault_of step state (command ∷ commands) = and_then (step state command true) (λ next. first_fault_of step next commands)

-- the same result without the line of its fault
abbrev pub without_line : {S F : Type 0} → Result S (At F) → Result S F
without_line (Ok state) = Ok state
without_line (Err at) = Err at.fault

-- a step does not look at a line feed before a command
abbrev pub LooksPastLineFeeds : {S F : Type 0} → (S → List ℕ → Bool → Result S F) → Type 0
LooksPastLineFeeds {S} step = (state : S) (bytes : List ℕ) (closed : Bool) → step state (10 ∷ bytes) closed ≡ step state bytes closed

-- a step of a call as it is written
abbrev pub move_words : SaidMove → List (List ℕ)
move_words (Shift x y) = codes "T" ∷ map decimal (x ∷ y ∷ [])
move_words MirrorX = codes "M" ∷ codes "X" ∷ []
move_words MirrorY = codes "M" ∷ codes "Y" ∷ []
move_words (Toward p q) = codes "R" ∷ map decimal (p ∷ q ∷ [])

-- its numbers have 32 bits
abbrev pub MoveFits : SaidMove → Type 0
MoveFits (Shift x y) = FitsSigned w32 x × FitsSigned w32 y
MoveFits MirrorX = ⊤
MoveFits MirrorY = ⊤
MoveFits (Toward p q) = FitsSigned w32 p × FitsSigned w32 q
