-- A part of one tile is given to another, which holds it: along which sides stitches are to be mended then, and that all are right once they are.
use Rattle.tile_plane.proofs.Common.{◌≡◌, ◌⊎◌, inl, inr, ℕ, ℤ, pos, ◌-ℤ◌, sym, ◌∙◌, ap, subst, arith, ints, by_lt_z, Square, Rect, LiesWithin}
use Rattle.tile_plane.proofs.Common.{Covers, IsProper, plane_range, AreSame, Tile, Tiles, tile_at, IsTaken, Owns, Leads, IsPartition, HasStitches}
use Rattle.tile_plane.proofs.Common.{value_at, square_at, IsHandedOver, opposite, Side, Above, Right, Below, Left, stitch_of, square_of}
use Rattle.tile_plane.proofs.Common.{AreRedirected, IsSideOf, IsEnd, along, end_of, first_of, HasLine, square_beside}
use Rattle.tile_plane.proofs.TileLaws.{owner_taken}
use Rattle.tile_plane.proofs.SideLaws.{apart}
use Rattle.tile_plane.proofs.WalkLaws.{first_square}
use Rattle.tile_plane.proofs.HandLaws.{covers_or_not, hand_partition, areas_hand}
use Rattle.tile_plane.proofs.MendedLaws.{square_same}
use Rattle.tile_plane.proofs.ValueLaws.{same_by_owners}

-- the stitches of the tile lead where they should, apart from those to squares of the part
abbrev pub LeadsElsewhere : Rect → Tiles → Tile → Type 0
LeadsElsewhere part tiles tile = (side : Side) → (Covers part (square_of side tile) → ⊥) → Leads tiles (stitch_of side tile) (square_of side tile)

-- all stitches of a tile that has its own lead where they should
pub own_stitches : (tiles : Tiles) (k : ℕ) → HasStitches tiles → IsTaken tiles k → (side : Side)
    → Leads tiles (stitch_of side (tile_at tiles k)) (square_of side (tile_at tiles k))
own_stitches tiles k stitches taken Above = stitches.above k taken
own_stitches tiles k stitches taken Right = stitches.right k taken
own_stitches tiles k stitches taken Below = stitches.below k taken
own_stitches tiles k stitches taken Left = stitches.left k taken

-- no square beside an area is in it
beside_off : (side : Side) (area : Rect) (c : ℤ) → Covers area (square_beside side area c) → ⊥
beside_off Above area c covers = omega (arith, ints)
beside_off Right area c covers = omega (arith, ints)
beside_off Below area c covers = omega (arith, ints)
beside_off Left area c covers = omega (arith, ints)

-- the square of an area beside that to which its stitch leads
corner : Side → Rect → Square
corner Above area = square_at (area.xhi -ℤ pos 1) (area.yhi -ℤ pos 1)
corner Right area = square_at (area.xhi -ℤ pos 1) (area.yhi -ℤ pos 1)
corner Below area = square_at area.xlo area.ylo
corner Left area = square_at area.xlo area.ylo

corner_in : (side : Side) (area : Rect) → IsProper area → Covers area (corner side area)
unfolding corner
corner_in Above area proper = omega (arith, ints)
corner_in Right area proper = omega (arith, ints)
corner_in Below area proper = omega (arith, ints)
corner_in Left area proper = omega (arith, ints)

-- a stitch into a part comes from it or from beside it
stitch_from : (side : Side) (part : Rect) (tile : Tile) → IsProper tile.area → Covers part (square_of side tile) → Covers part (corner side tile.area)
    ⊎ (HasLine side part (first_of side tile.area) × Covers tile.area (square_beside (opposite side) part (first_of side tile.area)))
unfolding corner
stitch_from Above part tile proper covers = by_lt_z (tile.area.yhi -ℤ pos 1) part.ylo
    (λ under. inr ((omega (arith, ints), omega (arith, ints)), omega (arith, ints))) (λ over. inl (omega (arith, ints)))
stitch_from Right part tile proper covers = by_lt_z (tile.area.xhi -ℤ pos 1) part.xlo
    (λ under. inr ((omega (arith, ints), omega (arith, ints)), omega (arith, ints))) (λ over. inl (omega (arith, ints)))
stitch_from Below part tile proper covers = by_lt_z tile.area.ylo part.yhi
    (λ under. inl (omega (arith, ints))) (λ over. inr ((omega (arith, ints), omega (arith, ints)), omega (arith, ints)))
stitch_from Left part tile proper covers = by_lt_z tile.area.xlo part.xhi
    (λ under. inl (omega (arith, ints))) (λ over. inr ((omega (arith, ints), omega (arith, ints)), omega (arith, ints)))

-- none at a side comes from a tile that ends there with the part
pub end_off : (side : Side) (part : Rect) (tile : Tile) → Covers part (square_of side tile) → end_of side tile.area ≡ end_of side part → ⊥
end_off Above part tile covers edge = omega (arith, ints)
end_off Right part tile covers edge = omega (arith, ints)
end_off Below part tile covers edge = omega (arith, ints)
end_off Left part tile covers edge = omega (arith, ints)

-- the part, which another tile had, is held by the tile of this number, and no stitch is wrong but those to its squares
pub record IsGiven (part : Rect) (id : ℕ) (old new : Tiles) : Type 0 where
  pub proper : IsProper part
  pub inside : LiesWithin part plane_range
  pub hand : IsHandedOver part id old new
  pub holds : LiesWithin part (tile_at new id).area
  pub leads : (k : ℕ) → IsTaken new k → LeadsElsewhere part old (tile_at new k)

module _ {part : Rect} {id : ℕ} {old new : Tiles} (partition : IsPartition old) (given : IsGiven part id old new) where
  pub given_partition : IsPartition new
  given_partition = hand_partition part id old new partition given.hand given.inside

  holder_taken : IsTaken new id
  holder_taken = let proper = given.proper in let holds = given.holds in omega (arith, ints)

  pub leads_still : (j : ℕ) (s : Square) → Leads old j s → (Covers part s → ⊥) → Leads new j s
  leads_still j s leads off inside = given.hand.kept j s (leads inside) off

  -- a stitch that leads past the part
  stitch_leads : (k : ℕ) (s : Square) (side : Side) → Owns new k s → (Covers part (square_of side (tile_at new k)) → ⊥)
      → Leads new (stitch_of side (tile_at new k)) (square_of side (tile_at new k))
  stitch_leads k s side owns off = leads_still _ _ (given.leads k (owner_taken new k s owns) side off) off

  -- the part reaches this side of the holder
  pub given_side : (side : Side) (first : ℕ) → end_of side (tile_at new id).area ≡ end_of side part
      → Leads old first (square_beside side part (first_of side part)) → IsSideOf side new part first id
  given_side side first edge leads = record {
    proper = given.proper;
    within = given.holds;
    edge = edge;
    leads = leads_still first _ leads (beside_off side part _);
    onward = λ k c line owns. stitch_leads k _ (along side) owns (apart c given_partition holder_taken given.holds side edge line owns);
  }

  -- a stitch at this side into the part, which comes from beside it
  pub stitch_into : (side : Side) (k : ℕ) → end_of side (tile_at new id).area ≡ end_of side part → IsTaken new k → Covers part (square_of side (tile_at new k))
      → ((c : ℤ) → HasLine side part c → Owns new k (square_beside (opposite side) part c) → stitch_of side (tile_at new k) ≡ id)
      → stitch_of side (tile_at new k) ≡ id
  stitch_into side k edge taken covers before = elim (stitch_from side part (tile_at new k) taken.proper covers) [
    | inl inside ↦ (
        let same = given.hand.taker k _ (record { covers = corner_in side (tile_at new k).area taken.proper }) inside in
        absurd (end_off side part (tile_at new k) covers (ap (λ (v : ℕ). end_of side (tile_at new v).area) same ∙ edge)))
    | inr beside ↦ before _ beside.0 (record { covers = beside.1 })
  ]

  -- all stitches to squares of the part are redirected to the holder
  module _ {last : Tiles} (redirected : AreRedirected part id new last) where
    last_hand : IsHandedOver part id old last
    last_hand = areas_hand new last (λ k. (redirected.alike k).area) part id old given.hand

    pub last_partition : IsPartition last
    last_partition = hand_partition part id old last partition last_hand given.inside

    last_leads : (side : Side) (k : ℕ) → IsTaken last k → Leads last (stitch_of side (tile_at last k)) (square_of side (tile_at last k))
    last_leads side k taken inside =
        let area = (redirected.alike k).area in
        let was : IsTaken new k = record { proper = subst IsProper area taken.proper } in
        let at : square_of side (tile_at last k) ≡ square_of side (tile_at new k) = square_same side (tile_at last k) (tile_at new k) area in
        elim (covers_or_not part (square_of side (tile_at last k))) [
          | inl covers ↦ subst (λ (v : ℕ). Owns last v (square_of side (tile_at last k))) (sym (redirected.inside side k was (subst (Covers part) at covers)))
              (last_hand.given _ covers)
          | inr off ↦ (
              let elsewhere : Covers part (square_of side (tile_at new k)) → ⊥ = λ covers. off (subst (Covers part) (sym at) covers) in
              let led = given.leads k was side elsewhere (subst (Covers plane_range) at inside) in
              subst (λ (v : ℕ). Owns last v (square_of side (tile_at last k))) (sym (redirected.outside side k elsewhere))
              (last_hand.kept _ _ (subst (Owns old (stitch_of side (tile_at new k))) (sym at) led) off))
        ]

    pub last_stitches : HasStitches last
    last_stitches = record { above = last_leads Above; right = last_leads Right; below = last_leads Below; left = last_leads Left }

    -- where the holder has the value of the tile that had the part, and no other tile's has changed, no square's has
    pub last_values : (donor : ℕ) → ((s : Square) → Covers part s → Owns old donor s) → (tile_at last id).value ≡ (tile_at old donor).value
        → ((k : ℕ) → IsTaken old k → IsTaken last k → (tile_at last k).value ≡ (tile_at old k).value) → AreSame (value_at old) (value_at last)
    last_values donor had value values = same_by_owners old last partition last_partition (λ k s owns. elim (covers_or_not part s) [
      | inl covers ↦ (donor, had s covers, ap (λ (v : ℕ). (tile_at last v).value) (last_hand.taker k s owns covers) ∙ value)
      | inr off ↦ (let was = last_hand.source k s owns off in (k, was, values k (owner_taken old k s was) (owner_taken last k s owns)))
    ])

-- the part is an end of the holder, whose stitches are right
module _ {end : Tile} {id : ℕ} {old new : Tiles} (partition : IsPartition old) (given : IsGiven end.area id old new)
    (leads : LeadsElsewhere end.area old end) where
  own_side : (side : Side) → end_of side (tile_at new id).area ≡ end_of side end.area → IsSideOf side new end.area (stitch_of side end) id
  own_side side edge = given_side partition given side _ edge (subst (Leads old (stitch_of side end)) (first_square side end)
      (leads side (λ covers. beside_off side end.area _ (subst (Covers end.area) (first_square side end) covers))))

  pub given_end : (side : Side) → end_of side (tile_at new id).area ≡ end_of side end.area
      → end_of (along side) (tile_at new id).area ≡ end_of (along side) end.area
      → end_of (opposite (along side)) (tile_at new id).area ≡ end_of (opposite (along side)) end.area
      → ((k : ℕ) → IsTaken new k → Covers end.area (square_of side (tile_at new k)) → stitch_of side (tile_at new k) ≡ id)
      → IsEnd side new end id
  given_end side outer near far inner =
      record { outer = own_side side outer; near = own_side (along side) near; far = own_side (opposite (along side)) far; inner = inner }
