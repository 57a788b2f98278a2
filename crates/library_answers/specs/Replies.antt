-- The replies to commands that change the library.
use Rattle.std.specs.Prelude.{ℕ, pos, List, ◌++◌, length, codes}
use Rattle.text_scan.specs.Decimal.{decimal}
use Rattle.tech_model.specs.declared.raw.RawTech.{RawTech}

-- `tech NAME: T types C classes F fets`, where the name is the technology's
abbrev pub tech_text : RawTech → List ℕ
tech_text raw =
    codes "tech " ++ raw.name ++ codes ": " ++ decimal (pos (length raw.types)) ++ codes " types "
    ++ decimal (pos (length raw.classes)) ++ codes " classes " ++ decimal (pos (length raw.fets)) ++ codes " fets"

-- `load c: K cells`
abbrev pub loaded_text : List ℕ → ℕ → List ℕ
loaded_text cell count = codes "load " ++ cell ++ codes ": " ++ decimal (pos count) ++ codes " cells"
