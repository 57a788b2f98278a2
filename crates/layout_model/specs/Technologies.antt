-- What a technology says of the circuit in a layout.
use Rattle.std.specs.Prelude.{ℕ, ℤ, pos, ◌+ℤ◌, ◌*ℤ◌, ◌==◌, Bool, List, [], ◌∷◌, map}
use Rattle.std.specs.List.{list_any}
use Rattle.tech_model.specs.declared.raw.ClassRec.{ClassRec}
use Rattle.tech_model.specs.declared.raw.RawTech.{RawTech}
use Rattle.tech_model.specs.Types.{layer_at, layer_of, first_name, connects}

-- A class of tile types that are measured together, with the capacitance of its material in attofarads.
pub record Class : Type 0 where
  pub contains : ℕ → Bool
  pub per_area : ℤ
  pub per_perimeter : ℤ

-- what circuits are told by: the names of tile types, which of them connect, and the classes
pub record Technology : Type 0 where
  -- the name by which a tile type is written
  pub word : ℕ → List ℕ
  -- which tile types connect; space connects to nothing
  pub connects : ℕ → ℕ → Bool
  pub classes : List Class

-- The capacitance of a set of places with these areas and perimeters, a pair for each class.
abbrev pub capacitance : List Class → List (ℤ × ℤ) → ℤ
capacitance [] measures = pos 0
capacitance (class ∷ classes) [] = pos 0
capacitance (class ∷ classes) (measure ∷ measures) =
    ((measure.0 *ℤ class.per_area) +ℤ (measure.1 *ℤ class.per_perimeter)) +ℤ capacitance classes measures

-- the class of a technology's record
abbrev pub class_of : ClassRec → Class
class_of rec = record {
  contains = λ kind. list_any (λ t. t.0 == kind) rec.types;
  per_area = pos rec.per_area;
  per_perimeter = pos rec.per_perimeter;
}

-- What the lists of a technology say of circuits. A tile type is written by the first name of its layer.
abbrev pub rules_of : RawTech → Technology
rules_of raw = record {
  word = λ kind. first_name (layer_at raw (layer_of raw kind));
  connects = connects raw;
  classes = map class_of raw.classes;
}
