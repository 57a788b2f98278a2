-- The names of nodes without labels.
use Rattle.std.specs.Prelude.{ℕ, ℤ, pos, negsuc, suc, List, ◌++◌, codes}
use Rattle.text_scan.specs.Decimal.{decimal}
use Rattle.geo_core.specs.declared.squares.Square.{Square}
use Rattle.tech_model.specs.declared.raw.RawTech.{RawTech}
use Rattle.tech_model.specs.Types.{layer_at, layer_of, first_name}

-- a coordinate in a name: a negative number is written with `n` for its sign
abbrev pub coordinate_text : ℤ → List ℕ
coordinate_text (pos n) = decimal (pos n)
coordinate_text (negsuc n) = codes "n" ++ decimal (pos (suc n))

-- `TYPE_X_Y#`: the first name of the type's layer, and a square
abbrev pub generated_name : RawTech → ℕ → Square → List ℕ
generated_name raw kind square =
    first_name (layer_at raw (layer_of raw kind)) ++ codes "_" ++ coordinate_text square.x ++ codes "_" ++ coordinate_text square.y ++ codes "#"
