-- Pieces of which fewer are wanted, and pieces that are joined.
use Rattle.drc_check.proofs.Common.{◌⊎◌, inl, inr, List, [], ◌++◌, In, In-append_cases, RawTech, TypeId, Place, SetLayout, ListedPiece}
use Rattle.drc_check.proofs.Common.{AreListedPieces}
use Rattle.finite_sets.proofs.Members.{In-append_left, In-append_right}
use Rattle.drc_check.specs.steps.Pieces.{HasPieceAt}

-- a piece that is found among some is found among more
pub found_among : (some all : List ListedPiece) (place : Place) (kind : TypeId) → ((piece : ListedPiece) → In piece some → In piece all)
    → HasPieceAt some place kind → HasPieceAt all place kind
found_among some all place kind more has =
    record { piece = has.piece; among = more has.piece has.among; plane = has.plane; is = has.is; covers = has.covers }

module _ (raw : RawTech) (sets : SetLayout) where
  -- where nothing is wanted there need be no piece
  pub no_pieces : (Wanted : Place → TypeId → Type 0) → ((place : Place) (kind : TypeId) → Wanted place kind → ⊥) → AreListedPieces raw sets Wanted []
  no_pieces Wanted none = record {
    proper = λ piece among. absurd among;
    sound = λ piece among. absurd among;
    whole = λ place kind wanted. absurd (none place kind wanted);
  }

  -- the pieces are those of fewer types too
  pub pieces_for : (Wanted Less : Place → TypeId → Type 0) (pieces : List ListedPiece)
      → ((place : Place) (kind : TypeId) → Less place kind → Wanted place kind)
      → AreListedPieces raw sets Wanted pieces → AreListedPieces raw sets Less pieces
  pieces_for Wanted Less pieces less are =
      record { proper = are.proper; sound = are.sound; whole = λ place kind wanted. are.whole place kind (less place kind wanted) }

  -- pieces of some types and of others are pieces of all
  pub pieces_joined : (First Second All : Place → TypeId → Type 0) (first second : List ListedPiece)
      → ((place : Place) (kind : TypeId) → All place kind → First place kind ⊎ Second place kind)
      → AreListedPieces raw sets First first → AreListedPieces raw sets Second second → AreListedPieces raw sets All (first ++ second)
  pieces_joined First Second All first second either are are' = record {
    proper = λ piece among. elim (In-append_cases piece first second among) [
      | inl here ↦ are.proper piece here
      | inr there ↦ are'.proper piece there
    ];
    sound = λ piece among. elim (In-append_cases piece first second among) [
      | inl here ↦ are.sound piece here
      | inr there ↦ are'.sound piece there
    ];
    whole = λ place kind wanted is. elim (either place kind wanted) [
      | inl one ↦ found_among first (first ++ second) place kind (λ piece. In-append_left piece first second) (are.whole place kind one is)
      | inr other ↦ found_among second (first ++ second) place kind (λ piece. In-append_right piece first second) (are'.whole place kind other is)
    ];
  }
