-- The places with material of a layout that an area holds.
use Rattle.piece_groups.proofs.Common.{◌<◌, ℕ, List, length, map, subst, flat_map, range_with_len, In, In-map, RawTech, IsWellFormed, Layout}
use Rattle.piece_groups.proofs.Common.{IsMaterial, Place}
use Rattle.finite_sets.proofs.Images.{In-flat_map}
use Rattle.geo_core.specs.declared.squares.Rect.{Rect}
use Rattle.geo_core.specs.Covering.{Covers}
use Rattle.meeting_sums.specs.RectContacts.Squares.{squares_of}
use Rattle.meeting_sums.proofs.RectContacts.BothWays.{Lists-below}
use Rattle.meeting_sums.proofs.RectContacts.Leading.{Lists-squares_of}
use Rattle.group_meetings.specs.LayoutModel.LayerTypes.{HasTypesOf}
use Rattle.meeting_sums.specs.Offences.TypedStacks.{on_plane}

-- the places of an area on a plane
abbrev places_on : Rect → ℕ → List Place
places_on area plane = map (on_plane plane) (squares_of area)

-- the places of an area on the planes of a technology
abbrev pub places_in : RawTech → Rect → List Place
places_in raw area = flat_map (places_on area) (range_with_len 0 (length raw.planes))

-- the places with material of a layout with types of the technology are among those of an area that holds them
pub material_in_area : (raw : RawTech) → IsWellFormed raw → (layout : Layout) → HasTypesOf raw layout → (area : Rect)
    → ((place : Place) → IsMaterial layout place → Covers area place.square) → (place : Place) → IsMaterial layout place
    → In place (places_in raw area)
material_in_area raw formed layout types area inside place material =
    let typed = types place material in
    let below : place.plane < length raw.planes =
    subst (λ (plane : ℕ). plane < length raw.planes) typed.1 (formed.type_planes (layout place) typed.0) in
    let square = (Lists-squares_of area).1 place.square (inside place material) in
    In-flat_map (places_on area) place.plane place (range_with_len 0 (length raw.planes)) ((Lists-below (length raw.planes)).1 place.plane below)
    (In-map (on_plane place.plane) place.square (squares_of area) square)
