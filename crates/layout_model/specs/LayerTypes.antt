-- Layers as layouts, and what is asked of them: their types are those of a technology, each on its plane.
use Rattle.std.specs.Prelude.{◌≡◌, ◌≢◌, ℕ, if◌then◌else◌, IsTrue, Option, Some, None}
use Rattle.geo_core.specs.declared.squares.Square.{Square}
use Rattle.geo_core.specs.declared.squares.Rect.{Rect}
use Rattle.geo_core.specs.Covering.{is_covered}
use Rattle.tech_model.specs.declared.raw.RawTech.{RawTech}
use Rattle.tech_model.specs.Types.{is_type, plane_of}
use Rattle.layout_model.specs.Places.{Place}
use Rattle.layout_model.specs.Layouts.{Layout, IsMaterial}

-- the type at each plane and square of layers, if it is defined
abbrev pub Kinds : Type 0
Kinds = ℕ → Square → Option ℕ

-- the type where it is defined, and space where it is not
abbrev pub or_space : Option ℕ → ℕ
or_space None = 0
or_space (Some kind) = kind

-- what is seen of layers inside an area, as a layout
abbrev pub seen_in : Rect → Kinds → Layout
seen_in area kinds place = if is_covered area place.square then or_space (kinds place.plane place.square) else 0

-- Each type that stands somewhere is the technology's, and of its plane.
abbrev pub AreTypesOf : RawTech → Kinds → Type 0
AreTypesOf raw kinds = (plane : ℕ) (square : Square) (kind : ℕ) → kinds plane square ≡ Some kind → kind ≢ 0
    → IsTrue (is_type raw kind) × (plane_of raw kind ≡ plane)

-- Each type of the layout is the technology's, and of its plane.
abbrev pub HasTypesOf : RawTech → Layout → Type 0
HasTypesOf raw layout = (place : Place) → IsMaterial layout place → IsTrue (is_type raw (layout place)) × (plane_of raw (layout place) ≡ place.plane)
