-- Links between tiles.
use Rattle.std.specs.Prelude.{◌↔◌, slice_index, ◌≡◌, ◌≢◌, ◌⊎◌, ℕ, pos, ◌<ℤ◌, Bool, IsTrue, List, slice_get, Some}
use Rattle.geo_core.specs.FiniteSets.Chain.{EitherWay}
use Rattle.geo_core.specs.declared.squares.Square.{Square}
use Rattle.geo_core.specs.Covering.{Covers}
use Rattle.rect_contacts.specs.Contacts.{shared_length}
use Rattle.layout_model.specs.Places.{Place}
use Rattle.layout_model.specs.Layouts.{Layout}
use Rattle.layout_model.specs.Links.{AreOneNode}
use Rattle.layout_model.specs.RegionTiles.{LiesIn}
use Rattle.layout_model.specs.declared.region_tiles.RegionTile.{RegionTile}

-- A square of both rectangles.
pub record HaveCommonSquare (a b : RegionTile) : Type 0 where
  pub square : Square
  pub in_first : Covers a.area square
  pub in_second : Covers b.area square

-- They share part of an edge on one plane, or have a square in common on two planes.
abbrev pub Meet : RegionTile → RegionTile → Type 0
Meet a b = ((a.plane ≡ b.plane) × (pos 0 <ℤ shared_length a.area b.area)) ⊎ ((a.plane ≢ b.plane) × HaveCommonSquare a b)

-- The tiles at these indices meet.
pub record MeetAt (tiles : List RegionTile) (i j : ℕ) : Type 0 where
  pub first : RegionTile
  pub second : RegionTile
  pub first_there : slice_get tiles i ≡ Some first
  pub second_there : slice_get tiles j ≡ Some second
  pub meet : Meet first second

-- The tiles at these indices meet, and their types connect.
pub record AreLinkedTiles (connects : ℕ → ℕ → Bool) (tiles : List RegionTile) (i j : ℕ) : Type 0 where
  pub first : RegionTile
  pub second : RegionTile
  pub first_there : slice_get tiles i ≡ Some first
  pub second_there : slice_get tiles j ≡ Some second
  pub connected : IsTrue (connects first.kind.0 second.kind.0)
  pub meet : Meet first second

-- Each of these links joins linked tiles, and each two linked tiles have one.
pub record JoinTiles (connects : ℕ → ℕ → Bool) (tiles : List RegionTile) (Link : ℕ → ℕ → Type 0) : Type 0 where
  pub sound : (i j : ℕ) → Link i j → AreLinkedTiles connects tiles i j
  pub whole : (i j : ℕ) → i ≢ j → AreLinkedTiles connects tiles i j → EitherWay Link i j

-- two tiles have one number exactly where a chain of links leads from a place of the one to a place of the other
abbrev pub NumbersNodes : (ℕ → ℕ → Bool) → Layout → List RegionTile → List ℕ → Type 0
NumbersNodes connects layout tiles numbers =
    (i j : ℕ) (a b : Place) → LiesIn tiles i a → LiesIn tiles j b → (slice_index numbers i ≡ slice_index numbers j) ↔ AreOneNode connects layout a b
