-- A tile is cut in two: the part that is cut off goes to a number that had no tile.
use Rattle.tile_plane.proofs.Common.{◌≡◌, ◌≢◌, inl, inr, ℕ, ℤ, pos, ◌-ℤ◌, ◌<ℤ◌, refl, sym, ◌∙◌, ap, subst, arith, cases_eq, ints, by_lt_z, Square}
use Rattle.tile_plane.proofs.Common.{Rect, LiesWithin, Covers, IsProper, AreSame, Tile, Tiles, tile_at, IsTaken, Owns, Leads, IsPartition}
use Rattle.tile_plane.proofs.Common.{HasStitches, IsPut, value_at, square_at, AreAlike, IsHandedOver, opposite, low_of, part_at, square_at_cut, Side}
use Rattle.tile_plane.proofs.Common.{Above, Right, Below, Left, stitch_of, square_of, AreRedirected, IsEnd, along, end_of, HasLine, square_beside}
use Rattle.tile_plane.specs.steps.Cuts.{high_of, IsInTwo, IsCutAt}
use Rattle.tile_plane.proofs.TileLaws.{owner_taken}
use Rattle.tile_plane.proofs.RowCuts.{IsSamePlane}
use Rattle.tile_plane.proofs.GivenLaws.{LeadsElsewhere, own_stitches, IsGiven, given_partition, given_end, stitch_into, last_partition, last_stitches, last_values}

-- the tile of the first number has the rest now, and the second, which had no tile, the part
pub record IsSplit (old new : Tiles) (id other : ℕ) (rest part : Tile) : Type 0 where
  pub taken : IsTaken old id
  pub free : IsTaken old other → ⊥
  pub here : tile_at new id ≡ rest
  pub there : tile_at new other ≡ part
  pub others : (k : ℕ) → k ≢ id → k ≢ other → tile_at new k ≡ tile_at old k
  pub whole : (s : Square) → Covers (tile_at old id).area s → (Covers part.area s → ⊥) → Covers rest.area s
  pub rest_in : (s : Square) → Covers rest.area s → Covers (tile_at old id).area s
  pub part_in : (s : Square) → Covers part.area s → Covers (tile_at old id).area s
  pub apart : (s : Square) → Covers rest.area s → Covers part.area s → ⊥

-- the tile is still there once the part is put to the other number
pub put_keeps : {old mid : Tiles} {id other : ℕ} {part : Tile} → IsTaken old id → (IsTaken old other → ⊥) → IsPut other part old mid → IsTaken mid id
put_keeps {old = old} {id = id} taken free put = record {
  proper = subst (λ (t : Tile). IsProper t.area) (sym (put.others id (λ e. free (subst (IsTaken old) e taken)))) taken.proper;
}

-- what putting the part and then the rest does
pub split_by_puts : {old mid new : Tiles} {id other : ℕ} {rest part : Tile} → IsTaken old id → (IsTaken old other → ⊥) → IsPut other part old mid
    → IsPut id rest mid new
    → ((s : Square) → Covers (tile_at old id).area s → (Covers part.area s → ⊥) → Covers rest.area s)
    → ((s : Square) → Covers rest.area s → Covers (tile_at old id).area s)
    → ((s : Square) → Covers part.area s → Covers (tile_at old id).area s) → ((s : Square) → Covers rest.area s → Covers part.area s → ⊥)
    → IsSplit old new id other rest part
split_by_puts {old = old} {other = other} taken free put_part put_rest whole rest_in part_in apart = record {
  taken = taken;
  free = free;
  here = put_rest.here;
  there = put_rest.others other (λ e. free (subst (IsTaken old) (sym e) taken)) ∙ put_part.here;
  others = λ k p q. put_rest.others k p ∙ put_part.others k q;
  whole = whole;
  rest_in = rest_in;
  part_in = part_in;
  apart = apart;
}

module _ {old new : Tiles} {id other : ℕ} {rest part : Tile} (partition : IsPartition old) (split : IsSplit old new id other rest part) where
  rest_of : (s : Square) → Owns new id s → Covers rest.area s
  rest_of s owns = subst (λ (t : Tile). Covers t.area s) split.here owns.covers

  part_of : (s : Square) → Owns new other s → Covers part.area s
  part_of s owns = subst (λ (t : Tile). Covers t.area s) split.there owns.covers

  old_of : (k : ℕ) (s : Square) → k ≢ id → k ≢ other → Owns new k s → Owns old k s
  old_of k s p q owns = record { covers = subst (λ (t : Tile). Covers t.area s) (split.others k p q) owns.covers }

  split_hand : IsHandedOver part.area other old new
  split_hand = record {
    given = λ s covers. record { covers = subst (λ (t : Tile). Covers t.area s) (sym split.there) covers };
    taker = λ k s owns covers. elim (cases_eq k other) [
      | inl e ↦ e
      | inr q ↦ elim (cases_eq k id) [
        | inl e ↦ absurd (split.apart s (rest_of s (subst (λ (v : ℕ). Owns new v s) e owns)) covers)
        | inr p ↦ absurd (p (partition.one k id s (old_of k s p q owns) (record { covers = split.part_in s covers })))
      ]
    ];
    kept = λ k s owns off. elim (cases_eq k other) [
      | inl e ↦ absurd (split.free (subst (IsTaken old) e (owner_taken old k s owns)))
      | inr q ↦ elim (cases_eq k id) [
        | inl e ↦ (
            let c = (subst (λ (v : ℕ). Owns old v s) e owns).covers in
            subst (λ (v : ℕ). Owns new v s) (sym e) (record { covers = subst (λ (t : Tile). Covers t.area s) (sym split.here) (split.whole s c off) }))
        | inr p ↦ record { covers = subst (λ (t : Tile). Covers t.area s) (sym (split.others k p q)) owns.covers }
      ]
    ];
    source = λ k s owns off. elim (cases_eq k other) [
      | inl e ↦ absurd (off (part_of s (subst (λ (v : ℕ). Owns new v s) e owns)))
      | inr q ↦ elim (cases_eq k id) [
        | inl e ↦ subst (λ (v : ℕ). Owns old v s) (sym e) (record { covers = split.rest_in s (rest_of s (subst (λ (v : ℕ). Owns new v s) e owns)) })
        | inr p ↦ old_of k s p q owns
      ]
    ];
  }

  -- the stitches of the rest and of the part are right, apart from those to squares of the part
  split_given : HasStitches old → IsProper part.area → LeadsElsewhere part.area old rest → LeadsElsewhere part.area old part
      → IsGiven part.area other old new
  split_given stitches proper rest_leads part_leads = record {
    proper = proper;
    inside = (
        let within = partition.within id split.taken in
        let low = split.part_in (square_at part.area.xlo part.area.ylo) (omega (arith, ints)) in
        let high = split.part_in (square_at (part.area.xhi -ℤ pos 1) (part.area.yhi -ℤ pos 1)) (omega (arith, ints)) in
        omega (arith, ints));
    hand = split_hand;
    holds = (let is = ap (λ (t : Tile). t.area) split.there in subst (LiesWithin part.area) (sym is) (omega (arith, ints)));
    leads = λ k taken. elim (cases_eq k other) [
      | inl e ↦ subst (LeadsElsewhere part.area old) (sym (ap (tile_at new) e ∙ split.there)) part_leads
      | inr q ↦ elim (cases_eq k id) [
        | inl e ↦ subst (LeadsElsewhere part.area old) (sym (ap (tile_at new) e ∙ split.here)) rest_leads
        | inr p ↦ (
            let is = split.others k p q in
            subst (LeadsElsewhere part.area old) (sym is)
            (λ side off. own_stitches old k stitches (record { proper = subst (λ (t : Tile). IsProper t.area) is taken.proper }) side))
      ]
    ];
  }

  -- once all stitches into the part are redirected
  module _ (given : IsGiven part.area other old new) {last : Tiles} (redirected : AreRedirected part.area other new last) where
    split_partition : IsPartition last
    split_partition = last_partition partition given redirected

    split_stitches : HasStitches last
    split_stitches = last_stitches partition given redirected

    -- the rest and the part have the value of the tile
    split_values : rest.value ≡ (tile_at old id).value → part.value ≡ (tile_at old id).value → AreSame (value_at old) (value_at last)
    split_values rest_value part_value = last_values partition given redirected id (λ s covers. record { covers = split.part_in s covers })
        ((redirected.alike other).value ∙ ap (λ (t : Tile). t.value) split.there ∙ part_value)
        (λ k taken _. (redirected.alike k).value ∙ elim (cases_eq k other) [
          | inl e ↦ absurd (split.free (subst (IsTaken old) e taken))
          | inr q ↦ elim (cases_eq k id) [
            | inl e ↦ ap (λ (v : ℕ). (tile_at new v).value) e ∙ ap (λ (t : Tile). t.value) split.here ∙ rest_value
                ∙ ap (λ (v : ℕ). (tile_at old v).value) (sym e)
            | inr p ↦ ap (λ (t : Tile). t.value) (split.others k p q)
          ]
        ])

    split_others : (k : ℕ) → k ≢ id → k ≢ other → AreAlike (tile_at old k) (tile_at last k)
    split_others k p q = let is = split.others k p q in let alike = redirected.alike k in
        record { area = alike.area ∙ ap (λ (t : Tile). t.area) is; value = alike.value ∙ ap (λ (t : Tile). t.value) is }

-- The tile is read and cut: what is cut off goes to a number that had no tile, and then the rest is put. Two functions tell what they are of a tile.
pub record IsCutOff (old mid new : Tiles) (id other : ℕ) (tile part rest : Tile) (part_of rest_of : Tile → Tile) : Type 0 where
  pub partition : IsPartition old
  pub stitches : HasStitches old
  pub taken : IsTaken old id
  pub is : tile ≡ tile_at old id
  pub is_part : part ≡ part_of tile
  pub is_rest : rest ≡ rest_of tile
  pub free : IsTaken old other → ⊥
  pub put_part : IsPut other part old mid
  pub put_rest : IsPut id rest mid new

-- what is cut off and the rest are all of the tile and its value, and their stitches are right but those to what is cut off
pub record IsHalved (old new : Tiles) (id other : ℕ) (part rest : Tile) : Type 0 where
  pub partition : IsPartition old
  pub split : IsSplit old new id other rest part
  pub given : IsGiven part.area other old new
  pub rest_value : rest.value ≡ (tile_at old id).value
  pub part_value : part.value ≡ (tile_at old id).value

module _ {old mid new : Tiles} {id other : ℕ} {tile part rest : Tile} {part_of rest_of : Tile → Tile}
    (off : IsCutOff old mid new id other tile part rest part_of rest_of) where
  part_is : part ≡ part_of (tile_at old id)
  part_is = off.is_part ∙ ap part_of off.is

  halve : IsProper (part_of (tile_at old id)).area
      → ((s : Square) → Covers (tile_at old id).area s → (Covers (part_of (tile_at old id)).area s → ⊥) → Covers (rest_of (tile_at old id)).area s)
      → ((s : Square) → Covers (rest_of (tile_at old id)).area s → Covers (tile_at old id).area s)
      → ((s : Square) → Covers (part_of (tile_at old id)).area s → Covers (tile_at old id).area s)
      → ((s : Square) → Covers (rest_of (tile_at old id)).area s → Covers (part_of (tile_at old id)).area s → ⊥)
      → LeadsElsewhere (part_of (tile_at old id)).area old (rest_of (tile_at old id))
      → LeadsElsewhere (part_of (tile_at old id)).area old (part_of (tile_at old id))
      → (rest_of (tile_at old id)).value ≡ (tile_at old id).value → (part_of (tile_at old id)).value ≡ (tile_at old id).value
      → IsHalved old new id other (part_of (tile_at old id)) (rest_of (tile_at old id))
  halve proper whole rest_in part_in apart rest_leads part_leads rest_value part_value = record {
    partition = off.partition;
    split = split;
    given = split_given off.partition split off.stitches proper rest_leads part_leads;
    rest_value = rest_value;
    part_value = part_value;
  } where
    split : IsSplit old new id other (rest_of (tile_at old id)) (part_of (tile_at old id))
    split = split_by_puts off.taken off.free (subst (λ (t : Tile). IsPut other t old mid) part_is off.put_part)
        (subst (λ (t : Tile). IsPut id t mid new) (off.is_rest ∙ ap rest_of off.is) off.put_rest) whole rest_in part_in apart

  module _ (halved : IsHalved old new id other (part_of (tile_at old id)) (rest_of (tile_at old id))) where
    cut_partition : IsPartition new
    cut_partition = given_partition off.partition halved.given

    -- once all stitches into what was cut off are redirected
    module _ {last : Tiles} (all : AreRedirected part.area other new last) where
      cut_redirected : AreRedirected (part_of (tile_at old id)).area other new last
      cut_redirected = subst (λ (t : Tile). AreRedirected t.area other new last) part_is all

      cut_same : IsSamePlane old last
      cut_same = record {
        partition = split_partition off.partition halved.split halved.given cut_redirected;
        stitches = split_stitches off.partition halved.split halved.given cut_redirected;
        same = split_values off.partition halved.split halved.given cut_redirected halved.rest_value halved.part_value;
      }

      rest_alike : AreAlike (rest_of (tile_at old id)) (tile_at last id)
      rest_alike = record {
        area = (cut_redirected.alike id).area ∙ ap (λ (t : Tile). t.area) halved.split.here;
        value = (cut_redirected.alike id).value ∙ ap (λ (t : Tile). t.value) halved.split.here;
      }

      part_alike : AreAlike (part_of (tile_at old id)) (tile_at last other)
      part_alike = record {
        area = (cut_redirected.alike other).area ∙ ap (λ (t : Tile). t.area) halved.split.there;
        value = (cut_redirected.alike other).value ∙ ap (λ (t : Tile). t.value) halved.split.there;
      }

      others_alike : (k : ℕ) → k ≢ id → k ≢ other → AreAlike (tile_at old k) (tile_at last k)
      others_alike = split_others off.partition halved.split halved.given cut_redirected

-- A tile is cut: the part at the side goes to the number that had no tile. Beside the part, where the cut begins, is the tile `near`, and beside
-- the rest the tile `far`.
pub record IsCutting (side : Side) (old mid new : Tiles) (id other near far : ℕ) (at : ℤ) (tile part rest : Tile) : Type 0 where
  pub off : IsCutOff old mid new id other tile part rest (part_at side at id near) (part_at (opposite side) at other far)
  pub from : low_of side (tile_at old id).area <ℤ at
  pub to : at <ℤ high_of side (tile_at old id).area
  pub near_leads : Leads old near (square_at_cut side (tile_at old id).area at)
  pub far_leads : Leads old far (square_at_cut (opposite side) (tile_at old id).area at)

pub low_back : (side : Side) (area : Rect) {at : ℤ} → low_of side area <ℤ at → low_of (opposite side) area <ℤ at
low_back Above area from = from
low_back Right area from = from
low_back Below area from = from
low_back Left area from = from

pub high_back : (side : Side) (area : Rect) {at : ℤ} → at <ℤ high_of side area → at <ℤ high_of (opposite side) area
high_back Above area to = to
high_back Right area to = to
high_back Below area to = to
high_back Left area to = to

module _ (tile : Tile) (at : ℤ) (n m : ℕ) where
  part_value : (side : Side) → (part_at side at n m tile).value ≡ tile.value
  part_value Above = refl
  part_value Right = refl
  part_value Below = refl
  part_value Left = refl

  part_stitch : (side : Side) → stitch_of side (part_at (opposite side) at n m tile) ≡ n
  part_stitch Above = refl
  part_stitch Right = refl
  part_stitch Below = refl
  part_stitch Left = refl

  pub part_proper : (side : Side) → IsProper tile.area → low_of side tile.area <ℤ at → at <ℤ high_of side tile.area → IsProper (part_at side at n m tile).area
  part_proper Above proper from to = omega (arith, ints)
  part_proper Right proper from to = omega (arith, ints)
  part_proper Below proper from to = omega (arith, ints)
  part_proper Left proper from to = omega (arith, ints)

  part_in : (side : Side) → low_of side tile.area <ℤ at → at <ℤ high_of side tile.area → (s : Square) → Covers (part_at side at n m tile).area s
      → Covers tile.area s
  part_in Above from to s covers = omega (arith, ints)
  part_in Right from to s covers = omega (arith, ints)
  part_in Below from to s covers = omega (arith, ints)
  part_in Left from to s covers = omega (arith, ints)

  pub part_within : {range : Rect} (side : Side) → LiesWithin tile.area range → low_of side tile.area <ℤ at → at <ℤ high_of side tile.area
      → LiesWithin (part_at side at n m tile).area range
  part_within Above within from to = omega (arith, ints)
  part_within Right within from to = omega (arith, ints)
  part_within Below within from to = omega (arith, ints)
  part_within Left within from to = omega (arith, ints)

  module _ (k l : ℕ) where
    parts_apart : (side : Side) (s : Square) → Covers (part_at (opposite side) at k l tile).area s → Covers (part_at side at n m tile).area s → ⊥
    parts_apart Above s p q = omega (arith, ints)
    parts_apart Right s p q = omega (arith, ints)
    parts_apart Below s p q = omega (arith, ints)
    parts_apart Left s p q = omega (arith, ints)

    parts_whole : (side : Side) (s : Square) → Covers tile.area s → (Covers (part_at side at n m tile).area s → ⊥)
        → Covers (part_at (opposite side) at k l tile).area s
    parts_whole Above s covers off = by_lt_z s.y at (λ under. omega (arith, ints)) (λ over. absurd (off (omega (arith, ints))))
    parts_whole Right s covers off = by_lt_z s.x at (λ before. omega (arith, ints)) (λ after. absurd (off (omega (arith, ints))))
    parts_whole Below s covers off = by_lt_z s.y at (λ under. absurd (off (omega (arith, ints)))) (λ over. omega (arith, ints))
    parts_whole Left s covers off = by_lt_z s.x at (λ before. absurd (off (omega (arith, ints)))) (λ after. omega (arith, ints))

    -- the stitch of the rest across the cut leads into the part
    rest_across : (side : Side) → IsProper tile.area → low_of side tile.area <ℤ at → at <ℤ high_of side tile.area
        → Covers (part_at side at n m tile).area (square_of (opposite (opposite side)) (part_at (opposite side) at k l tile))
    rest_across Above proper from to = omega (arith, ints)
    rest_across Right proper from to = omega (arith, ints)
    rest_across Below proper from to = omega (arith, ints)
    rest_across Left proper from to = omega (arith, ints)

    -- what is beside the part across the cut is the rest
    rest_beside : (side : Side) (c : ℤ) → low_of side tile.area <ℤ at → at <ℤ high_of side tile.area → HasLine side (part_at side at n m tile).area c
        → Covers (part_at (opposite side) at k l tile).area (square_beside (opposite side) (part_at side at n m tile).area c)
    rest_beside Above c from to line = omega (arith, ints)
    rest_beside Right c from to line = omega (arith, ints)
    rest_beside Below c from to line = omega (arith, ints)
    rest_beside Left c from to line = omega (arith, ints)

  -- the stitch of the part across the cut leads into the tile
  part_across : (side : Side) → IsProper tile.area → low_of side tile.area <ℤ at → at <ℤ high_of side tile.area
      → Covers tile.area (square_of (opposite side) (part_at side at n m tile))
  part_across Above proper from to = omega (arith, ints)
  part_across Right proper from to = omega (arith, ints)
  part_across Below proper from to = omega (arith, ints)
  part_across Left proper from to = omega (arith, ints)

-- what is cut off or the rest has right stitches, where the one across the cut is
module _ {old : Tiles} {id n m : ℕ} (at : ℤ) {area : Rect} (stitches : HasStitches old) (taken : IsTaken old id) where
  half_leads : (side : Side) → Leads old m (square_at_cut side (tile_at old id).area at)
      → ((Covers area (square_of (opposite side) (part_at side at n m (tile_at old id))) → ⊥)
      → Leads old n (square_of (opposite side) (part_at side at n m (tile_at old id))))
      → LeadsElsewhere area old (part_at side at n m (tile_at old id))
  half_leads Above beside across Above off = stitches.above id taken
  half_leads Above beside across Right off = stitches.right id taken
  half_leads Above beside across Below off = across off
  half_leads Above beside across Left off = beside
  half_leads Right beside across Above off = stitches.above id taken
  half_leads Right beside across Right off = stitches.right id taken
  half_leads Right beside across Below off = beside
  half_leads Right beside across Left off = across off
  half_leads Below beside across Above off = across off
  half_leads Below beside across Right off = beside
  half_leads Below beside across Below off = stitches.below id taken
  half_leads Below beside across Left off = stitches.left id taken
  half_leads Left beside across Above off = beside
  half_leads Left beside across Right off = across off
  half_leads Left beside across Below off = stitches.below id taken
  half_leads Left beside across Left off = stitches.left id taken

module _ {side : Side} {old mid new : Tiles} {id other near far : ℕ} {at : ℤ} {tile part rest : Tile}
    (cut : IsCutting side old mid new id other near far at tile part rest) where
  part_leads : LeadsElsewhere (part_at side at id near (tile_at old id)).area old (part_at side at id near (tile_at old id))
  part_leads = half_leads at cut.off.stitches cut.off.taken side cut.near_leads
      (λ off inside. record { covers = part_across _ _ _ _ side cut.off.taken.proper cut.from cut.to })

  halved : IsHalved old new id other (part_at side at id near (tile_at old id)) (part_at (opposite side) at other far (tile_at old id))
  halved = halve cut.off (part_proper _ _ _ _ side cut.off.taken.proper cut.from cut.to) (parts_whole _ _ _ _ _ _ side)
      (part_in _ _ _ _ (opposite side) (low_back side _ cut.from) (high_back side _ cut.to)) (part_in _ _ _ _ side cut.from cut.to)
      (parts_apart _ _ _ _ _ _ side)
      (half_leads at cut.off.stitches cut.off.taken (opposite side) cut.far_leads
      (λ off. absurd (off (rest_across _ _ _ _ _ _ side cut.off.taken.proper cut.from cut.to))))
      part_leads (part_value _ _ _ _ (opposite side)) (part_value _ _ _ _ side)

  pub cutting_partition : IsPartition new
  cutting_partition = cut_partition cut.off halved

  -- a tile that has a square of the rest is the rest, whose stitch across the cut leads to the part
  rest_leads : (k : ℕ) (s : Square) → Owns new k s → Covers (part_at (opposite side) at other far (tile_at old id)).area s
      → stitch_of side (tile_at new k) ≡ other
  rest_leads k s owns covers =
      ap (λ (v : ℕ). stitch_of side (tile_at new v))
      (cutting_partition.one k id s owns (record { covers = subst (λ (t : Tile). Covers t.area s) (sym halved.split.here) covers }))
      ∙ ap (stitch_of side) halved.split.here ∙ part_stitch _ _ _ _ side

  -- once all stitches into the part are redirected
  module _ {last : Tiles} (all : AreRedirected part.area other new last) where
    pub cutting_same : IsSamePlane old last
    cutting_same = cut_same cut.off halved all

    cut_rest : AreAlike (part_at (opposite side) at other far (tile_at old id)) (tile_at last id)
    cut_rest = rest_alike cut.off halved all

    cut_part : AreAlike (part_at side at id near (tile_at old id)) (tile_at last other)
    cut_part = part_alike cut.off halved all

    -- the part is the second of the two, or the first
    part_after : IsInTwo id id other (part_at (opposite side) at other far (tile_at old id)).area (part_at side at id near (tile_at old id)).area old last
    part_after = record {
      free = inl (refl, cut.off.free);
      low = cut_rest.area;
      high = cut_part.area;
      low_value = cut_rest.value ∙ part_value _ _ _ _ (opposite side);
      high_value = cut_part.value ∙ part_value _ _ _ _ side;
      others = others_alike cut.off halved all;
    }

    part_before : IsInTwo id other id (part_at side at id near (tile_at old id)).area (part_at (opposite side) at other far (tile_at old id)).area old last
    part_before = let whole = part_after in record {
      free = inr (refl, cut.off.free);
      low = whole.high;
      high = whole.low;
      low_value = whole.high_value;
      high_value = whole.low_value;
      others = λ k n m. whole.others k m n;
    }

module _ {old mid new : Tiles} {id other near far : ℕ} {at : ℤ} {tile part rest : Tile} where
  -- it is the end at the side that goes to the new number, and stitches from the rest lead into it
  end_is : (side : Side) → IsCutting side old mid new id other near far at tile part rest → IsEnd side new (part_at side at id near (tile_at old id)) other
  end_is side cut = given_end cut.off.partition (halved cut).given (part_leads cut) side (ends side) (ends (along side)) (ends (opposite (along side)))
      (λ k its covers. stitch_into cut.off.partition (halved cut).given side k (ends side) its covers
      (λ c line owns. rest_leads cut k _ owns (rest_beside _ _ _ _ _ _ side c cut.from cut.to line))) where
        ends : (s : Side) → end_of s (tile_at new other).area ≡ end_of s (part_at side at id near (tile_at old id)).area
        ends s = ap (λ (t : Tile). end_of s t.area) (halved cut).split.there

  pub cutting_end : (side : Side) → IsCutting side old mid new id other near far at tile part rest → IsEnd side new part other
  cutting_end side cut = subst (λ (t : Tile). IsEnd side new t other) (sym (part_is cut.off)) (end_is side cut)

  pub cutting_cut : (side : Side) → IsCutting side old mid new id other near far at tile part rest → {last : Tiles}
      → AreRedirected part.area other new last → IsCutAt side id other at old last
  cutting_cut Above cut all = part_after cut all
  cutting_cut Right cut all = part_after cut all
  cutting_cut Below cut all = part_before cut all
  cutting_cut Left cut all = part_before cut all
