-- Two tiles are joined: the squares of the second go to the first, and its number has none.
use Rattle.tile_plane.proofs.Common.{◌≡◌, ◌≢◌, inl, inr, ℕ, ℤ, pos, ◌-ℤ◌, refl, sym, ◌∙◌, ap, subst, arith, cases_eq, ints, by_lt_z, Square, Rect}
use Rattle.tile_plane.proofs.Common.{LiesWithin, Covers, IsProper, AreSame, Tile, Tiles, tile_at, IsTaken, Owns, IsPartition, HasStitches, IsPut}
use Rattle.tile_plane.proofs.Common.{value_at, square_at, AreAlike, IsHandedOver, opposite, Side, Above, Right, Below, Left, AreRedirected, IsEnd}
use Rattle.tile_plane.proofs.Common.{along, end_of, HasLine, square_beside}
use Rattle.tile_plane.specs.steps.Cuts.{stretched, IsJoined}
use Rattle.tile_plane.specs.steps.Sides.{IsUpward, StandsAt}
use Rattle.tile_plane.proofs.TileLaws.{owner_taken}
use Rattle.tile_plane.proofs.RowCuts.{IsSamePlane}
use Rattle.tile_plane.proofs.GivenLaws.{LeadsElsewhere, own_stitches, IsGiven, end_off, given_partition, stitch_into, given_end, last_partition, last_stitches, last_values}

-- the first tile is the whole of both now
pub record IsJoin (old new : Tiles) (id other : ℕ) (whole : Tile) : Type 0 where
  pub taken : IsTaken old id
  pub other_taken : IsTaken old other
  pub gone : IsTaken new other → ⊥
  pub here : tile_at new id ≡ whole
  pub others : (k : ℕ) → k ≢ id → k ≢ other → tile_at new k ≡ tile_at old k
  pub id_in : (s : Square) → Covers (tile_at old id).area s → Covers whole.area s
  pub other_in : (s : Square) → Covers (tile_at old other).area s → Covers whole.area s
  pub only : (s : Square) → Covers whole.area s → (Covers (tile_at old other).area s → ⊥) → Covers (tile_at old id).area s

module _ {old new : Tiles} {id other : ℕ} {whole : Tile} (partition : IsPartition old) (join : IsJoin old new id other whole) where
  whole_owns : (s : Square) → Covers whole.area s → Owns new id s
  whole_owns s covers = record { covers = subst (λ (t : Tile). Covers t.area s) (sym join.here) covers }

  join_hand : IsHandedOver (tile_at old other).area id old new
  join_hand = record {
    given = λ s covers. whole_owns s (join.other_in s covers);
    taker = λ k s owns covers. elim (cases_eq k other) [
      | inl e ↦ absurd (join.gone (subst (IsTaken new) e (owner_taken new k s owns)))
      | inr q ↦ elim (cases_eq k id) [
        | inl e ↦ e
        | inr p ↦ (
            let was : Owns old k s = record { covers = subst (λ (t : Tile). Covers t.area s) (join.others k p q) owns.covers } in
            absurd (q (partition.one k other s was (record { covers = covers }))))
      ]
    ];
    kept = λ k s owns off. elim (cases_eq k other) [
      | inl e ↦ absurd (off (subst (λ (v : ℕ). Owns old v s) e owns).covers)
      | inr q ↦ elim (cases_eq k id) [
        | inl e ↦ subst (λ (v : ℕ). Owns new v s) (sym e) (whole_owns s (join.id_in s (subst (λ (v : ℕ). Owns old v s) e owns).covers))
        | inr p ↦ record { covers = subst (λ (t : Tile). Covers t.area s) (sym (join.others k p q)) owns.covers }
      ]
    ];
    source = λ k s owns off. elim (cases_eq k other) [
      | inl e ↦ absurd (join.gone (subst (IsTaken new) e (owner_taken new k s owns)))
      | inr q ↦ elim (cases_eq k id) [
        | inl e ↦ (
            let covers = subst (λ (t : Tile). Covers t.area s) join.here (subst (λ (v : ℕ). Owns new v s) e owns).covers in
            subst (λ (v : ℕ). Owns old v s) (sym e) (record { covers = join.only s covers off }))
        | inr p ↦ record { covers = subst (λ (t : Tile). Covers t.area s) (join.others k p q) owns.covers }
      ]
    ];
  }

  -- the stitches of the whole are right, apart from those to squares of the second tile
  join_given : HasStitches old → LeadsElsewhere (tile_at old other).area old whole → IsGiven (tile_at old other).area id old new
  join_given stitches whole_leads = record {
    proper = join.other_taken.proper;
    inside = partition.within other join.other_taken;
    hand = join_hand;
    holds = (
        let proper = join.other_taken.proper in
        let low = join.other_in (square_at (tile_at old other).area.xlo (tile_at old other).area.ylo) (omega (arith, ints)) in
        let high = join.other_in (square_at ((tile_at old other).area.xhi -ℤ pos 1) ((tile_at old other).area.yhi -ℤ pos 1)) (omega (arith, ints)) in
        subst (λ (t : Tile). LiesWithin (tile_at old other).area t.area) (sym join.here) (omega (arith, ints)));
    leads = λ k taken. elim (cases_eq k other) [
      | inl e ↦ absurd (join.gone (subst (IsTaken new) e taken))
      | inr q ↦ elim (cases_eq k id) [
        | inl e ↦ subst (LeadsElsewhere (tile_at old other).area old) (sym (ap (tile_at new) e ∙ join.here)) whole_leads
        | inr p ↦ (
            let is = join.others k p q in
            subst (LeadsElsewhere (tile_at old other).area old) (sym is)
            (λ side off. own_stitches old k stitches (record { proper = subst (λ (t : Tile). IsProper t.area) is taken.proper }) side))
      ]
    ];
  }

  -- once all stitches into it are redirected
  module _ (given : IsGiven (tile_at old other).area id old new) {last : Tiles} (redirected : AreRedirected (tile_at old other).area id new last) where
    join_gone : IsTaken last other → ⊥
    join_gone taken = join.gone (record { proper = subst IsProper (redirected.alike other).area taken.proper })

    -- both tiles and the whole have one value
    join_values : whole.value ≡ (tile_at old id).value → (tile_at old other).value ≡ (tile_at old id).value → AreSame (value_at old) (value_at last)
    join_values value same = last_values partition given redirected other (λ s covers. record { covers = covers })
        ((redirected.alike id).value ∙ ap (λ (t : Tile). t.value) join.here ∙ value ∙ sym same)
        (λ k taken last_taken. (redirected.alike k).value ∙ elim (cases_eq k id) [
          | inl e ↦ ap (λ (v : ℕ). (tile_at new v).value) e ∙ ap (λ (t : Tile). t.value) join.here ∙ value ∙ ap (λ (v : ℕ). (tile_at old v).value) (sym e)
          | inr p ↦ elim (cases_eq k other) [
            | inl e ↦ absurd (join_gone (subst (IsTaken last) e last_taken))
            | inr q ↦ ap (λ (t : Tile). t.value) (join.others k p q)
          ]
        ])

    join_others : (k : ℕ) → k ≢ id → k ≢ other → AreAlike (tile_at old k) (tile_at last k)
    join_others k p q = let is = join.others k p q in let alike = redirected.alike k in
        record { area = alike.area ∙ ap (λ (t : Tile). t.area) is; value = alike.value ∙ ap (λ (t : Tile). t.value) is }

-- the area from where the first begins to where the second ends
abbrev pub rounded : Rect → Rect → Rect
rounded first second = record first { xhi = second.xhi; yhi = second.yhi }

-- it is both of them and nothing else
pub record IsRound (first second : Rect) : Type 0 where
  pub first_in : (s : Square) → Covers first s → Covers (rounded first second) s
  pub second_in : (s : Square) → Covers second s → Covers (rounded first second) s
  pub only : (s : Square) → Covers (rounded first second) s → (Covers second s → ⊥) → Covers first s

pub whole_proper : {first second : Rect} → IsRound first second → IsProper first → IsProper (rounded first second)
whole_proper {first = first} round proper =
    let low = round.first_in (square_at first.xlo first.ylo) (omega (arith, ints)) in
    omega (arith, ints)

-- the whole of two tiles
abbrev pub whole_of : Tile → Tile → Tile
whole_of tile part = record tile { area = rounded tile.area part.area; above = part.above; right = part.right }

-- Both are read, the whole is put, and the second is taken away.
pub record IsJoining (old mid new : Tiles) (id other : ℕ) (tile part whole : Tile) : Type 0 where
  pub partition : IsPartition old
  pub stitches : HasStitches old
  pub taken : IsTaken old id
  pub other_taken : IsTaken old other
  pub two : id ≢ other
  pub round : IsRound (tile_at old id).area (tile_at old other).area
  pub value : (tile_at old other).value ≡ (tile_at old id).value
  pub is : tile ≡ tile_at old id
  pub is_part : part ≡ tile_at old other
  pub is_whole : whole ≡ whole_of tile part
  pub put : IsPut id whole old mid
  pub gone : IsTaken new other → ⊥
  pub removed : (k : ℕ) → k ≢ other → tile_at new k ≡ tile_at mid k

module _ {old mid new : Tiles} {id other : ℕ} {tile part whole : Tile} (joining : IsJoining old mid new id other tile part whole) where
  whole_join : IsJoin old new id other (whole_of (tile_at old id) (tile_at old other))
  whole_join = record {
    taken = joining.taken;
    other_taken = joining.other_taken;
    gone = joining.gone;
    here = joining.removed id joining.two ∙ joining.put.here ∙ joining.is_whole ∙ ap (λ (t : Tile). whole_of t part) joining.is
        ∙ ap (whole_of (tile_at old id)) joining.is_part;
    others = λ k p q. joining.removed k q ∙ joining.put.others k p;
    id_in = joining.round.first_in;
    other_in = joining.round.second_in;
    only = joining.round.only;
  }

  whole_given : IsGiven (tile_at old other).area id old new
  whole_given = join_given joining.partition whole_join joining.stitches leads where
    leads : LeadsElsewhere (tile_at old other).area old (whole_of (tile_at old id) (tile_at old other))
    leads Above off = joining.stitches.above other joining.other_taken
    leads Right off = joining.stitches.right other joining.other_taken
    leads Below off = joining.stitches.below id joining.taken
    leads Left off = joining.stitches.left id joining.taken

  pub whole_partition : IsPartition new
  whole_partition = given_partition joining.partition whole_given

  -- a tile with a square of the whole ends where the second does at the latest
  whole_ends : (k : ℕ) (s : Square) → Owns new k s → Covers (rounded (tile_at old id).area (tile_at old other).area) s
      → (tile_at new k).area ≡ rounded (tile_at old id).area (tile_at old other).area
  whole_ends k s owns covers = ap (λ (v : ℕ). (tile_at new v).area) (whole_partition.one k id s owns (whole_owns joining.partition whole_join s covers))
      ∙ ap (λ (t : Tile). t.area) whole_join.here

  -- once all stitches into the second are redirected
  module _ {last : Tiles} (all : AreRedirected part.area id new last) where
    whole_redirected : AreRedirected (tile_at old other).area id new last
    whole_redirected = subst (λ (t : Tile). AreRedirected t.area id new last) joining.is_part all

    pub whole_same : IsSamePlane old last
    whole_same = record {
      partition = last_partition joining.partition whole_given whole_redirected;
      stitches = last_stitches joining.partition whole_given whole_redirected;
      same = join_values joining.partition whole_join whole_given whole_redirected refl joining.value;
    }

    whole_gone : IsTaken last other → ⊥
    whole_gone = join_gone joining.partition whole_join whole_given whole_redirected

    whole_alike : AreAlike (whole_of (tile_at old id) (tile_at old other)) (tile_at last id)
    whole_alike = record {
      area = (whole_redirected.alike id).area ∙ ap (λ (t : Tile). t.area) whole_join.here;
      value = (whole_redirected.alike id).value ∙ ap (λ (t : Tile). t.value) whole_join.here;
    }

    whole_others : (k : ℕ) → k ≢ id → k ≢ other → AreAlike (tile_at old k) (tile_at last k)
    whole_others = join_others joining.partition whole_join whole_given whole_redirected

-- an area does not end where it begins
ends_apart : (side : Side) (area : Rect) → IsProper area → end_of (opposite side) area ≡ end_of side area → ⊥
ends_apart Above area proper same = omega (arith, ints)
ends_apart Right area proper same = omega (arith, ints)
ends_apart Below area proper same = omega (arith, ints)
ends_apart Left area proper same = omega (arith, ints)

-- two areas of which the second stands upon the first or to its right
module _ (first second : Rect) where
  -- what goes round both ends where the second does
  round_ends : (side : Side) → IsUpward side → end_of (along side) second ≡ end_of (along side) first
      → (end_of side (rounded first second) ≡ end_of side second) × (end_of (along side) (rounded first second) ≡ end_of (along side) second)
      × (end_of (opposite (along side)) (rounded first second) ≡ end_of (opposite (along side)) second)
  round_ends Above up low = (refl, sym low, refl)
  round_ends Right up low = (refl, sym low, refl)
  round_ends Below up low = absurd up
  round_ends Left up low = absurd up

  round_stretched : (side : Side) → IsUpward side → end_of (opposite (along side)) second ≡ end_of (opposite (along side)) first
      → rounded first second ≡ stretched side first second
  round_stretched Above up high = ap (λ (z : ℤ). record (rounded first second) { xhi = z }) high
  round_stretched Right up high = ap (λ (z : ℤ). record (rounded first second) { yhi = z }) high
  round_stretched Below up high = absurd up
  round_stretched Left up high = absurd up

  round_at : (side : Side) → IsUpward side → IsProper first → IsProper second → end_of (opposite side) second ≡ end_of side first
      → end_of (along side) second ≡ end_of (along side) first → end_of (opposite (along side)) second ≡ end_of (opposite (along side)) first
      → IsRound first second
  round_at Above up proper more meet low high = record {
    first_in = λ s covers. omega (arith, ints);
    second_in = λ s covers. omega (arith, ints);
    only = λ s covers off. by_lt_z s.y first.yhi (λ under. omega (arith, ints)) (λ over. absurd (off (omega (arith, ints))));
  }
  round_at Right up proper more meet low high = record {
    first_in = λ s covers. omega (arith, ints);
    second_in = λ s covers. omega (arith, ints);
    only = λ s covers off. by_lt_z s.x first.xhi (λ before. omega (arith, ints)) (λ after. absurd (off (omega (arith, ints))));
  }
  round_at Below up proper more meet low high = absurd up
  round_at Left up proper more meet low high = absurd up

  -- what touches the second where both meet is the first
  round_beside : (side : Side) → IsUpward side → IsProper first → IsProper second → end_of (opposite side) second ≡ end_of side first
      → end_of (along side) second ≡ end_of (along side) first → (c : ℤ) → HasLine side second c
      → Covers (rounded first second) (square_beside (opposite side) second c)
  round_beside Above up proper more meet low c line = omega (arith, ints)
  round_beside Right up proper more meet low c line = omega (arith, ints)
  round_beside Below up proper more meet low c line = absurd up
  round_beside Left up proper more meet low c line = absurd up

module _ {side : Side} {old : Tiles} {id other : ℕ} (up : IsUpward side) (stands : StandsAt side old id other) where
  pub join_two : id ≢ other
  join_two e = ends_apart side _ stands.taken.proper (ap (λ (v : ℕ). end_of (opposite side) (tile_at old v).area) e ∙ stands.meet)

  pub join_round : IsRound (tile_at old id).area (tile_at old other).area
  join_round = round_at _ _ side up stands.taken.proper stands.other_taken.proper stands.meet stands.low stands.high

  -- the second is the end of the whole
  module _ {mid new : Tiles} {tile part whole : Tile} (joining : IsJoining old mid new id other tile part whole) where
    ends : (s : Side) → end_of s (rounded (tile_at old id).area (tile_at old other).area) ≡ end_of s (tile_at old other).area
        → end_of s (tile_at new id).area ≡ end_of s (tile_at old other).area
    ends s e = ap (λ (t : Tile). end_of s t.area) (whole_join joining).here ∙ e

    pub join_end : IsEnd side new part id
    join_end = let e = round_ends _ _ side up stands.low in subst (λ (t : Tile). IsEnd side new t id) (sym joining.is_part) (given_end joining.partition
        (whole_given joining) (λ s off. own_stitches old other joining.stitches joining.other_taken s) side (ends side e.0) (ends (along side) e.1)
        (ends (opposite (along side)) e.2)
        (λ k its covers. stitch_into joining.partition (whole_given joining) side k (ends side e.0) its covers
        (λ c line owns. absurd (end_off side _ (tile_at new k) covers (ap (end_of side) (whole_ends joining k _ owns
        (round_beside _ _ side up stands.taken.proper stands.other_taken.proper stands.meet stands.low c line)) ∙ e.0)))))

    pub join_joined : {last : Tiles} → AreRedirected part.area id new last → IsJoined side id other old last
    join_joined all = record {
      gone = whole_gone joining all;
      whole = (whole_alike joining all).area ∙ round_stretched _ _ side up stands.high;
      value = (whole_alike joining all).value;
      others = whole_others joining all;
    }
