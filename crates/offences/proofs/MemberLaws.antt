-- The members of pieces, and parts whose tiles are put in another order.
use Rattle.offences.proofs.Common.{◌≡◌, ◌≢◌, ◌<◌, ℕ, List, [], length, map, sym, ap, subst, All, AllPairs, range_with_len, In, All-from_In, All-In}
use Rattle.offences.proofs.Common.{Rect, IsNear, Covers, Place, Stack, IsStack, AreStacks, RawTech, SetTile, TypedStack, SetLayout, HaveTypes}
use Rattle.offences.proofs.Common.{tile_part, tile_parts, StandsFor, StandForAll, StandForTiles, AreTypedStacks, HasMembers}
use Rattle.std.specs.Prelude.{IsPermutation}
use Rattle.std.proofs.Math.Path.{fun_ext}
use Rattle.std.proofs.lemmas.List.Sorted.{IsPermutation-sym, All-permutation}
use Rattle.geo_core.proofs.FiniteSets.Members.{In-permutation}
use Rattle.offences.proofs.StackLaws.{tile_areas, covers_tile, covers_at, members_within}
use Rattle.offences.proofs.TileLaws.{HasTile, part_bit, part_kept}
use Rattle.offences.proofs.UnionLaws.{same_sets}

-- the piece of a stack has its members, and those cover it
members_of_stack : (raw : RawTech) (plane : ℕ) (tiles : List SetTile) (stack : Stack) → IsStack (tile_areas tiles) stack → (typed_stack : TypedStack)
    → StandsFor raw plane tiles stack typed_stack → HasMembers tiles typed_stack
members_of_stack raw plane tiles stack is typed_stack stands =
    let same : typed_stack.members ≡ stack.members.items = stands.members in
    record {
      rising = subst (AllPairs ◌<◌) (sym same) is.ordered;
      some = subst (λ (members : List ℕ). members ≢ []) (sym same) is.some;
      within = λ member h. All-In (λ (m : ℕ). m < length tiles) stack.members.items member (members_within tiles stack is) (subst (In member) same h);
      cover = λ member h square covers. (covers_tile tiles member square
          (is.members member (subst (In member) same h) square (subst (λ (r : Rect). Covers r square) stands.area covers))).1;
      all = λ member square below covers inside. subst (In member) (sym same)
          (is.others member square (subst (λ (r : Rect). Covers r square) stands.area covers) (covers_at tiles member square below inside));
    }

-- and so has each piece of the stacks
pub have_members : (raw : RawTech) (plane : ℕ) (tiles : List SetTile) (stacks : List Stack) → AreStacks (tile_areas tiles) stacks
    → (typed_stacks : List TypedStack) → StandForAll raw plane tiles stacks typed_stacks → All (HasMembers tiles) typed_stacks
have_members raw plane tiles stacks are typed_stacks stand = All-from_In (HasMembers tiles) typed_stacks (λ typed_stack h.
    let of = stand.each typed_stack h in
    members_of_stack raw plane tiles of.stack (are.each of.stack of.listed) typed_stack of.stands)

module _ (tiles others : List SetTile) (plane part : ℕ) (place : Place) (i : ℕ) where
  -- a tile with the bit is one of the others, where they have all of these
  tile_among : ((tile : SetTile) → In tile tiles → In tile others) → HasTile tiles plane part place i → HasTile others plane part place i
  tile_among here has = record {
    tile = has.tile;
    listed = here has.tile has.listed;
    of_part = has.of_part;
    same_plane = has.same_plane;
    covers = has.covers;
    bit = has.bit;
  }

module _ (tiles sorted : List SetTile) (moved : IsPermutation tiles sorted) (plane : ℕ) where
  same_part : (part : ℕ) → tile_part tiles plane part ≡ tile_part sorted plane part
  same_part part = fun_ext (λ place. same_sets (tile_part tiles plane part place) (tile_part sorted plane part place)
      (λ i bit. part_kept sorted plane part place i (tile_among tiles sorted plane part place i
      (λ tile. In-permutation tile tiles sorted moved) (part_bit tiles plane part place i bit)))
      (λ i bit. part_kept tiles plane part place i (tile_among sorted tiles plane part place i
      (λ tile. In-permutation tile sorted tiles (IsPermutation-sym tiles sorted moved)) (part_bit sorted plane part place i bit))))

  -- the parts are the same in any order of the tiles
  pub same_parts : (count : ℕ) → tile_parts tiles plane count ≡ tile_parts sorted plane count
  same_parts count = ap (λ (f : ℕ → SetLayout). map f (range_with_len 0 count)) (fun_ext same_part)

-- pieces of the parts that tiles make are those of the tiles in another order
pub of_moved : (raw : RawTech) (plane : ℕ) (tiles sorted : List SetTile) → IsPermutation tiles sorted → (read : List SetTile) → read ≡ sorted
    → (typed_stacks : List TypedStack) → StandForTiles raw plane read typed_stacks → StandForTiles raw plane tiles typed_stacks
of_moved raw plane tiles sorted moved read is typed_stacks stand count of_parts types =
    let same = same_parts tiles sorted moved plane count in
    subst (λ (parts : List SetLayout). AreTypedStacks raw parts plane typed_stacks) (sym same)
    (subst (λ (ts : List SetTile). StandForTiles raw plane ts typed_stacks) is stand count
    (All-permutation (λ (tile : SetTile). (tile.part < count) × IsNear tile.area) tiles sorted moved of_parts)
    (subst (HaveTypes raw) same types))
