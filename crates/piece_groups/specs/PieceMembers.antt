-- The members of a cell that stand in the pieces at which its parts meet.
use Rattle.std.specs.Prelude.{◌≡◌, ◌<◌, ℕ, List, length, Some, slice_get}
use Rattle.finite_sets.specs.Lists.{In, Distinct}
use Rattle.geo_core.specs.Covering.{Covers}
use Rattle.tech_model.specs.declared.raw.RawTech.{RawTech}
use Rattle.group_meetings.specs.LayoutModel.Places.{Place}
use Rattle.meeting_sums.specs.Offences.declared.plane_stacks.PlaneStack.{PlaneStack}
use Rattle.meeting_sums.specs.Offences.declared.stacks.PartKind.{PartKind}
use Rattle.group_meetings.specs.TreeRecords.NamedTrees.{NamedTree}
use Rattle.group_meetings.specs.Members.{IsMemberOfPart}

-- The place lies in the piece at this index.
pub record LiesInPiece (stacks : List PlaneStack) (index : ℕ) (place : Place) : Type 0 where
  pub piece : PlaneStack
  pub there : slice_get stacks index ≡ Some piece
  pub plane : place.plane ≡ piece.plane
  pub covers : Covers piece.stack.area place.square

-- The part has material in the piece at this index.
pub record StandsInPiece (stacks : List PlaneStack) (index part : ℕ) : Type 0 where
  pub piece : PlaneStack
  pub there : slice_get stacks index ≡ Some piece
  pub entry : PartKind
  pub listed : In entry piece.stack.kinds
  pub is : entry.part ≡ part

-- The member of this name is of a part that has material in the piece at this index, and has each place of the piece.
pub record IsMemberInPiece (raw : RawTech) (tree : NamedTree) (stacks : List PlaneStack) (index part : ℕ) (name : List ℕ) : Type 0 where
  pub stands : StandsInPiece stacks index part
  pub has : (place : Place) → LiesInPiece stacks index place → IsMemberOfPart raw tree part place name

-- The member with this number stands in the piece, with this part.
pub record IsNumberedIn (raw : RawTech) (tree : NamedTree) (stacks : List PlaneStack) (names : List (List ℕ)) (index part number : ℕ) : Type 0 where
  pub name : List ℕ
  pub there : slice_get names number ≡ Some name
  pub is : IsMemberInPiece raw tree stacks index part name

-- These are the names of the members that stand in the pieces, each once, and the pairs tell by their numbers and indices which stand in
-- which: a member of each part in each piece in which the part has material.
pub record AreMembersInPieces (raw : RawTech) (tree : NamedTree) (stacks : List PlaneStack) (names : List (List ℕ)) (pairs : List (ℕ × ℕ))
    : Type 0 where
  pub distinct : Distinct names
  pub sound : (number index : ℕ) → In {X = ℕ × ℕ} (number, index) pairs → (part : ℕ) × IsNumberedIn raw tree stacks names index part number
  pub whole : (index part : ℕ) → StandsInPiece stacks index part
      → (number : ℕ) × In {X = ℕ × ℕ} (number, index) pairs × IsNumberedIn raw tree stacks names index part number
  pub used : (number : ℕ) → number < length names → (index : ℕ) × In {X = ℕ × ℕ} (number, index) pairs
