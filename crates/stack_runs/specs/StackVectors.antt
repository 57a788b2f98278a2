-- The vectors that are run on the network of a stack of n rows of n tiles.
use Rattle.std.specs.Prelude.{ℕ, zero, suc, pos, List, [], ◌∷◌, ◌++◌, codes}
use Rattle.std.specs.Option.{option_map_or}
use Rattle.text_scan.specs.Decimal.{decimal}
use Rattle.switch_net.specs.declared.switches.Level.{Level}
use Rattle.switch_net.specs.declared.switches.Level.TheVariants.{Zero, One}
use Rattle.vector_files.specs.declared.files.VecLine.{VecLine}
use Rattle.vector_files.specs.declared.files.VecLine.TheVariants.{Set, Phase}
use Rattle.vector_files.specs.declared.files.Vectors.{Vectors}
use Rattle.vector_files.specs.LineForms.{node_named}

-- the poly of the row of this number, by its name in the row's first tile
abbrev pub row_name : ℕ → List ℕ
row_name j = codes "r[0," ++ decimal (pos j) ++ codes "]/t[0,0]/w"

-- the diffusion of the column of this number, by its name in the column's lowest tile
abbrev pub column_name : ℕ → List ℕ
column_name i = codes "r[0,0]/t[" ++ decimal (pos i) ++ codes ",0]/b"

-- The line that sets the node of the name, where the network has the name. It stands in no file, and so it has the number 0.
abbrev pub set_named : List (List ℕ × ℕ) → Level → List ℕ → List (ℕ × VecLine)
set_named names level name = option_map_or (λ v. (0, Set v level) ∷ []) (node_named names name) []

-- the lines of the numbers below n, in the order of the numbers
abbrev pub lines_below : (ℕ → List (ℕ × VecLine)) → ℕ → List (ℕ × VecLine)
lines_below lines zero = []
lines_below lines (suc n) = lines_below lines n ++ lines n

-- the lines that set rows to one
abbrev pub row_lines : List (List ℕ × ℕ) → ℕ → List (ℕ × VecLine)
row_lines names n = lines_below (λ j. set_named names One (row_name j)) n

-- the lines that set columns to zero
abbrev pub column_lines : List (List ℕ × ℕ) → ℕ → List (ℕ × VecLine)
column_lines names n = lines_below (λ i. set_named names Zero (column_name i)) n

-- Each row is set to one and then each column to zero, and one phase is run.
abbrev pub stack_vectors : List (List ℕ × ℕ) → ℕ → Vectors
stack_vectors names n = record { lines = row_lines names n ++ column_lines names n ++ (0, Phase) ∷ [] }
