-- What a CIF text means: squares of layers.
use Rattle.std.specs.Prelude.{◌≡◌, ◌==◌, ℕ, pos, if◌then◌else◌, List, [], ◌∷◌, fold, slice_get, Option, Some, None}
use Rattle.finite_sets.specs.Lists.{In}
use Rattle.geo_core.specs.declared.orients.Orient.{Orient}
use Rattle.geo_core.specs.declared.orients.Orient.TheVariants.{R0, R90, R180, R270, Mx, My}
use Rattle.geo_core.specs.declared.squares.Rect.{Rect}
use Rattle.geo_core.specs.declared.squares.Square.{Square}
use Rattle.geo_core.specs.declared.transforms.Transform.{Transform}
use Rattle.geo_core.specs.Covering.{Covers}
use Rattle.geo_core.specs.Images.{composed, identity, rect_image}
use Rattle.cif_model.specs.Cifs.{CifParts}
use Rattle.cif_model.specs.declared.cifs.CifItem.{CifItem}
use Rattle.cif_model.specs.declared.cifs.CifItem.TheVariants.{Area, Call}
use Rattle.cif_model.specs.declared.cifs.CifMove.{CifMove}
use Rattle.cif_model.specs.declared.cifs.CifMove.TheVariants.{Shift, MirrorX, MirrorY, Turn}
use Rattle.cif_model.specs.declared.cifs.CifSymbol.{CifSymbol}

abbrev pub turned : ℕ → Orient
turned quarters = if quarters == 0 then R0 else if quarters == 1 then R90 else if quarters == 2 then R180 else R270

-- a step of a call as a transform: `M X` turns x round
abbrev pub transform_of : CifMove → Transform
transform_of (Shift x y) = record { orient = R0; dx = x; dy = y }
transform_of MirrorX = record { orient = My; dx = pos 0; dy = pos 0 }
transform_of MirrorY = record { orient = Mx; dx = pos 0; dy = pos 0 }
transform_of (Turn quarters) = record { orient = turned quarters; dx = pos 0; dy = pos 0 }

-- all steps, one after another
abbrev pub moved : List CifMove → Transform
moved moves = fold (λ placed move. composed placed (transform_of move)) identity moves

-- what the symbols of a text have in the place of this number
abbrev pub items_at : Option CifSymbol → List CifItem
items_at None = []
items_at (Some symbol) = symbol.items

-- The box stands among the items under a list of calls, each told by its place among the items of its caller: it is the box of an area,
-- moved by the calls from the inmost outward.
abbrev pub StandsUnder : List CifSymbol → ℕ → List ℕ → List CifItem → Rect → Type 0
StandsUnder symbols layer [] items box = In (Area layer box) items
StandsUnder symbols layer (place ∷ calls) items box =
    (symbol : ℕ) × ((moves : List CifMove) × ((inner : Rect)
    × ((slice_get items place ≡ Some (Call symbol moves))
    × (StandsUnder symbols layer calls (items_at (slice_get symbols symbol)) inner
    × (box ≡ rect_image (moved moves) inner)))))

-- some box of the layer covers the square, under some list of calls from the top level
abbrev pub IsMeant : CifParts → ℕ → Square → Type 0
IsMeant cif layer square = (calls : List ℕ) × ((box : Rect) × (StandsUnder cif.symbols layer calls cif.top box × Covers box square))

-- the squares that a text gives to a layer by its name: none if it names no such layer
abbrev pub Means : CifParts → List ℕ → Square → Type 0
Means cif name square = (layer : ℕ) × ((slice_get cif.layers layer ≡ Some name) × IsMeant cif layer square)
