-- `tech f`: reads the technology of f.tech.
use Rattle.std.specs.Prelude.{◌≡◌, ℕ, List, [], ◌∷◌, ◌++◌, Result, Ok, Err, Some, None, MatchOption, codes}
use Rattle.outside_io.specs.Files.{Files}
use Rattle.session_model.specs.declared.fetching.FetchFault.{FetchFault}
use Rattle.session_model.specs.Effects.{Effect}
use Rattle.session_model.specs.Fetches.{text_in}
use Rattle.tech_model.specs.declared.raw.RawTech.{RawTech}
use Rattle.tech_file.specs.declared.reading.TechAt.{TechAt}
use Rattle.tech_file.specs.Reading.{technology_of}
use Rattle.line_answers.specs.LineEffects.{accepted, refused, reply}
use Rattle.line_answers.specs.Refusals.{file_refusal}
use Rattle.workspace.specs.LibraryAnswers.Refusals.{tech_again, tech_refusal}
use Rattle.workspace.specs.LibraryAnswers.Replies.{tech_text}
use Rattle.workspace.specs.States.{State, begun_with}

-- the file of a technology
abbrev pub tech_file : List ℕ → List ℕ
tech_file name = name ++ codes ".tech"

-- what reading a technology's text does: a library over its technology is edited from now on
abbrev pub tech_effect : ℕ → List ℕ → Result RawTech TechAt → Effect State
tech_effect number file (Ok raw) = accepted (Some (begun_with raw)) (reply (tech_text raw) ∷ []) (file ∷ [])
tech_effect number file (Err at) = refused number None (tech_refusal file at) (file ∷ [])

-- what asking for a technology's file does
abbrev pub file_effect : ℕ → List ℕ → Result (List ℕ) FetchFault → Effect State
file_effect number file (Ok text) = tech_effect number file (technology_of text)
file_effect number file (Err fault) = refused number None (file_refusal file fault) (file ∷ [])

-- One technology is read.
abbrev pub TechMeans : ℕ → State → Files → List ℕ → Effect State → Type 0
TechMeans number state files name effect =
    MatchOption state
    (effect ≡ file_effect number (tech_file name) (text_in files (tech_file name)))
    (λ work. effect ≡ refused number state tech_again [])
