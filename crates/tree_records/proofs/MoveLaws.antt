-- Places that go to the cell above and back, with what is beside them.
use Rattle.std.proofs.Common.{◌≡◌, ap}
use Rattle.offences.specs.GeoCore.declared.squares.Square.{Square}
use Rattle.offences.specs.GeoCore.declared.transforms.Transform.{Transform}
use Rattle.offences.specs.GeoCore.Images.{image, inverted}
use Rattle.offences.proofs.GeoCore.ImageLaws.{image-back, image-forth, neighbours-image}
use Rattle.offences.specs.LayoutModel.Places.{Place, AreNeighbours, AreStacked}
use Rattle.offences.specs.LayoutModel.CellTrees.{place_back}
use Rattle.tree_records.specs.NamedTrees.{place_forth}

-- a place on the plane with this square
abbrev moved_to : Place → Square → Place
moved_to place square = record { plane = place.plane; square = square }

-- a place goes to the cell above and comes back
pub back_from_above : (placed : Transform) (place : Place) → place_back placed (place_forth placed place) ≡ place
back_from_above placed place = ap (moved_to place) (image-back placed place.square)

-- and a place of the cell above goes back and comes again
pub above_from_back : (placed : Transform) (place : Place) → place_forth placed (place_back placed place) ≡ place
above_from_back placed place = ap (moved_to place) (image-forth placed place.square)

-- neighbours go to neighbours
pub neighbours_above : (placed : Transform) (a b : Place) → AreNeighbours a b → AreNeighbours (place_forth placed a) (place_forth placed b)
neighbours_above placed a b near = (near.0, neighbours-image placed a.square b.square near.1)

-- and come back to neighbours
pub neighbours_back : (placed : Transform) (a b : Place) → AreNeighbours a b → AreNeighbours (place_back placed a) (place_back placed b)
neighbours_back placed a b near = (near.0, neighbours-image (inverted placed) a.square b.square near.1)

-- squares of two planes upon each other stay so
pub stacked_above : (placed : Transform) (a b : Place) → AreStacked a b → AreStacked (place_forth placed a) (place_forth placed b)
stacked_above placed a b near = (near.0, ap (image placed) near.1)

-- and so they do on the way back
pub stacked_back : (placed : Transform) (a b : Place) → AreStacked a b → AreStacked (place_back placed a) (place_back placed b)
stacked_back placed a b near = (near.0, ap (image (inverted placed)) near.1)
