-- What is appended to a text that is written.
use Rattle.std.specs.Prelude.{ℕ, List, ◌∷◌, ◌++◌, [], flat_map}
use Rattle.text_scan.specs.Written.{line_of}
use Rattle.ext_model.specs.declared.records.NodeRec.{NodeRec}
use Rattle.ext_text.specs.WrittenTexts.{node_lines, lines_text}

-- a line with its line feed
abbrev pub whole_line : List (List ℕ) → List ℕ
whole_line words = line_of words ++ 10 ∷ []

-- the lines of nodes, each with those of its aliases
abbrev pub nodes_text : List NodeRec → List ℕ
nodes_text nodes = flat_map (λ node. lines_text (node_lines node)) nodes
