-- The pairs of members and pieces by the tiles that cover these: they tell which members stand in which pieces.
use Rattle.tree_merges.proofs.Common.{◌≡◌, ◌+◌, ◌<◌, ℕ, zero, suc, List, [], ◌∷◌, length, Some, inl, inr, refl, sym, ap, subst, ◌∙◌, arith}
use Rattle.tree_merges.proofs.Common.{slice_get, slice_index, slice_get_within, slice_get-get_or, get_or_from_slice_get, In, Covers, In-index}
use Rattle.tree_merges.proofs.Common.{In-map_source, All-In, RawTech, CellTree, PlaneStack, NamedTree, AreMeetingPieces, HasCoveringTiles, PartTile}
use Rattle.tree_merges.proofs.Common.{AreTileMembers, member_pairs, pairs_from, piece_pairs}
use Rattle.finite_sets.proofs.Members.{In-append_cases, In-append_left, In-append_right, In-get_or, In-map}
use Rattle.hier_merge.specs.MeetingPieces.{CoversPiece}
use Rattle.piece_groups.specs.PieceMembers.{AreMembersInPieces, IsNumberedIn}

-- The member with this number has the tile that covers the piece at the index, as one of the piece's own.
record IsOfTile (numbers : List ℕ) (stacks : List PlaneStack) (number index : ℕ) : Type 0 where
  pub piece : PlaneStack
  pub there : slice_get stacks index ≡ Some piece
  pub tile : ℕ
  pub listed : In tile piece.stack.members
  pub is : number ≡ slice_index numbers tile

-- ---- which pairs there are

-- the pairs of a piece, by its tiles
pair_of_tile : (numbers : List ℕ) (index : ℕ) (piece : PlaneStack) (tile : ℕ) → In tile piece.stack.members
    → In {X = ℕ × ℕ} (slice_index numbers tile, index) (piece_pairs numbers index piece)
pair_of_tile numbers index piece tile listed =
    In-map {Y = ℕ × ℕ} (λ t. (slice_index numbers t, index)) tile piece.stack.members listed

-- the tile of a member of a piece gives a pair
pair_there : (numbers : List ℕ) (from : ℕ) (stacks : List PlaneStack) (offset index : ℕ) → index ≡ from + offset → (piece : PlaneStack)
    → slice_get stacks offset ≡ Some piece → (tile : ℕ) → In tile piece.stack.members
    → In {X = ℕ × ℕ} (slice_index numbers tile, index) (pairs_from numbers from stacks)
pair_there numbers from [] offset index at piece there tile listed = cc
pair_there numbers from (first ∷ rest) zero index at piece there tile listed =
    let same : first ≡ piece = cc in
    let here : from ≡ index = omega (arith, at) in
    In-append_left (slice_index numbers tile, index) (piece_pairs numbers from first)
    (pairs_from numbers (suc from) rest)
    (subst (λ (p : PlaneStack). In {X = ℕ × ℕ} (slice_index numbers tile, index) (piece_pairs numbers from p))
    (sym same)
    (subst (λ (i : ℕ). In {X = ℕ × ℕ} (slice_index numbers tile, i) (piece_pairs numbers from piece))
    here (pair_of_tile numbers from piece tile listed)))
pair_there numbers from (first ∷ rest) (suc offset) index at piece there tile listed =
    In-append_right (slice_index numbers tile, index) (piece_pairs numbers from first)
    (pairs_from numbers (suc from) rest)
    (pair_there numbers (suc from) rest offset index (omega (arith, at)) piece there tile listed)

-- and each pair is of one
pair_source : (numbers : List ℕ) (from : ℕ) (stacks : List PlaneStack) (number index : ℕ)
    → In {X = ℕ × ℕ} (number, index) (pairs_from numbers from stacks)
    → (offset : ℕ) × (index ≡ from + offset) × IsOfTile numbers stacks number offset
pair_source numbers from [] number index among = absurd among
pair_source numbers from (first ∷ rest) number index among =
    elim (In-append_cases (number, index) (piece_pairs numbers from first) (pairs_from numbers (suc from) rest) among) [
      | inl here ↦
          let source = In-map_source {Y = ℕ × ℕ} (λ t. (slice_index numbers t, from)) (number, index)
          first.stack.members here in
          let at : from ≡ index = ap (λ (pair : ℕ × ℕ). pair.1) source.1.1 in (
            0,
            omega (arith, at),
            record {
              piece = first;
              there = refl;
              tile = source.0;
              listed = source.1.0;
              is = sym (ap (λ (pair : ℕ × ℕ). pair.0) source.1.1);
            },
          )
      | inr further ↦
          let later = pair_source numbers (suc from) rest number index further in
          let of = later.2 in (
            suc later.0,
            omega (arith, later.1),
            record { piece = of.piece; there = of.there; tile = of.tile; listed = of.listed; is = of.is },
          )
    ]

-- ---- the members that they tell

module _ (raw : RawTech) (tree : NamedTree) (cells : CellTree) (tiles : List PartTile) (stacks : List PlaneStack)
    (names : List (List ℕ)) (numbers : List ℕ) (pieces : AreMeetingPieces raw cells tiles stacks)
    (members : AreTileMembers raw tree tiles names numbers) where
  -- the member of a tile that covers a piece stands there, as one of the tile's part
  numbered : (index : ℕ) (piece : PlaneStack) → slice_get stacks index ≡ Some piece → (tile : ℕ) → (covers : CoversPiece tiles piece tile)
      → IsNumberedIn raw tree stacks names index covers.tile.part (slice_index numbers tile)
  numbered index piece there tile covers =
      let has = members.each tile covers.tile covers.there in
      record {
        name = has.name;
        there = has.there;
        is = record {
          stands = record { piece = piece; there = there; entry = covers.entry; listed = covers.listed; is = covers.part };
          has = λ place lies.
              let same : lies.piece ≡ piece = one_piece lies.piece piece (sym lies.there ∙ there) in
              let inside = subst (λ (p : PlaneStack). (place.plane ≡ p.plane) × Covers p.stack.area place.square) same (lies.plane, lies.covers) in
              has.has place (record { plane = inside.0 ∙ sym covers.plane; covers = covers.covers place.square inside.1 });
        };
      }
    where
      one_piece : (a b : PlaneStack) → Some a ≡ Some b → a ≡ b
      one_piece a b same = cc

  covering_at : (index : ℕ) (piece : PlaneStack) → slice_get stacks index ≡ Some piece → HasCoveringTiles tiles piece
  covering_at index piece there =
      All-In (HasCoveringTiles tiles) stacks piece pieces.covered
      (subst (λ (one : PlaneStack). In one stacks) (get_or_from_slice_get stacks index piece piece there)
      (In-get_or stacks index piece (slice_get_within stacks index piece there)))

  -- each member that is listed has a pair
  paired : (number : ℕ) → number < length names → (index : ℕ) × In {X = ℕ × ℕ} (number, index) (member_pairs numbers stacks)
  paired number below =
      let place = In-index number numbers (members.used number below) in
      let some = pieces.all_cover place.0 (let long = members.one_each in let within = place.1.0 in omega (arith, long, within)) in
      let at = In-index some.piece stacks some.listed in
      let is : slice_index numbers place.0 ≡ number = place.1.1 0 in (
        at.0,
        subst (λ (n : ℕ). In {X = ℕ × ℕ} (n, at.0) (member_pairs numbers stacks)) is
            (pair_there numbers 0 stacks at.0 at.0 (omega arith) some.piece
            (slice_get-get_or stacks at.0 some.piece at.1.0 ∙ ap (λ (p : PlaneStack). Some p) (at.1.1 some.piece)) place.0 some.is_member),
      )

  pub members_in_pieces : AreMembersInPieces raw tree stacks names (member_pairs numbers stacks)
  members_in_pieces = record {
    distinct = members.distinct;
    sound = λ number index among.
        let source = pair_source numbers 0 stacks number index among in
        let of = source.2 in
        let at : source.0 ≡ index = omega (arith, source.1) in
        let covers = (covering_at source.0 of.piece of.there).each of.tile of.listed in (
          covers.tile.part,
          subst (λ (n : ℕ). IsNumberedIn raw tree stacks names index covers.tile.part n) (sym of.is)
              (subst (λ (i : ℕ). IsNumberedIn raw tree stacks names i covers.tile.part (slice_index numbers of.tile))
              at (numbered source.0 of.piece of.there of.tile covers)),
        );
    whole = λ index part stands.
        let found = (covering_at index stands.piece stands.there).every stands.entry stands.listed in
        let number = slice_index numbers found.0 in (
          number,
          pair_there numbers 0 stacks index index (omega arith) stands.piece stands.there found.0 found.1,
          subst (λ (p : ℕ). IsNumberedIn raw tree stacks names index p number) (found.3 ∙ stands.is)
              (numbered index stands.piece stands.there found.0 found.2),
        );
    used = paired;
  }
