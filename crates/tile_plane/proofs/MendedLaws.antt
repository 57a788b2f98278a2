-- Mending the three sides of an end one after the other redirects all stitches into it.
use Rattle.tile_plane.proofs.Common.{◌≡◌, ◌⊎◌, inl, inr, ℕ, ℤ, pos, ◌-ℤ◌, refl, sym, ◌∙◌, ap, subst, arith, ints, Square, Rect, LiesWithin, Covers}
use Rattle.tile_plane.proofs.Common.{IsProper, Tile, Tiles, tile_at, IsTaken, Owns, Leads, IsPartition, square_at, AreAlike, opposite, Side, Above}
use Rattle.tile_plane.proofs.Common.{Right, Below, Left, stitch_of, square_of, with_stitch, LeadTo, AreRedirected, IsSideOf, IsEnd, along, end_of}
use Rattle.tile_plane.proofs.Common.{HasLine, square_beside}
use Rattle.tile_plane.proofs.HandLaws.{partition_moves}
use Rattle.tile_plane.proofs.SideLaws.{apart}

-- the tiles have the same areas
abbrev pub HaveSameAreas : Tiles → Tiles → Type 0
HaveSameAreas old new = (k : ℕ) → (tile_at new k).area ≡ (tile_at old k).area

area-with_stitch : (side : Side) (tile : Tile) (id : ℕ) → (with_stitch side tile id).area ≡ tile.area
area-with_stitch Above tile id = refl
area-with_stitch Right tile id = refl
area-with_stitch Below tile id = refl
area-with_stitch Left tile id = refl

value-with_stitch : (side : Side) (tile : Tile) (id : ℕ) → (with_stitch side tile id).value ≡ tile.value
value-with_stitch Above tile id = refl
value-with_stitch Right tile id = refl
value-with_stitch Below tile id = refl
value-with_stitch Left tile id = refl

module _ (side : Side) (area : Rect) (id : ℕ) (old new : Tiles) (mended : LeadTo side area id old new) where
  pub same_areas : HaveSameAreas old new
  same_areas k = ap (λ (t : Tile). t.area) (mended.rest k) ∙ area-with_stitch side (tile_at old k) _

  same_values : (k : ℕ) → (tile_at new k).value ≡ (tile_at old k).value
  same_values k = ap (λ (t : Tile). t.value) (mended.rest k) ∙ value-with_stitch side (tile_at old k) _

  pub mended_partition : IsPartition old → IsPartition new
  mended_partition partition = partition_moves old new partition same_areas

pub square_same : (side : Side) (a b : Tile) → a.area ≡ b.area → square_of side a ≡ square_of side b
square_same Above a b is = ap (λ (r : Rect). square_at (r.xhi -ℤ pos 1) r.yhi) is
square_same Right a b is = ap (λ (r : Rect). square_at r.xhi (r.yhi -ℤ pos 1)) is
square_same Below a b is = ap (λ (r : Rect). square_at r.xlo (r.ylo -ℤ pos 1)) is
square_same Left a b is = ap (λ (r : Rect). square_at (r.xlo -ℤ pos 1) r.ylo) is

-- the areas stay
module _ (tiles others : Tiles) (areas : HaveSameAreas tiles others) where
  taken_moves : (k : ℕ) → IsTaken tiles k → IsTaken others k
  taken_moves k taken = record { proper = subst IsProper (sym (areas k)) taken.proper }

  owns_back : (k : ℕ) (s : Square) → Owns others k s → Owns tiles k s
  owns_back k s owns = record { covers = subst (λ (r : Rect). Covers r s) (areas k) owns.covers }

  covers_moves : (side : Side) (area : Rect) (k : ℕ) → Covers area (square_of side (tile_at tiles k)) → Covers area (square_of side (tile_at others k))
  covers_moves side area k = subst (Covers area) (sym (square_same side (tile_at others k) (tile_at tiles k) (areas k)))

  covers_back : (side : Side) (area : Rect) (k : ℕ) → Covers area (square_of side (tile_at others k)) → Covers area (square_of side (tile_at tiles k))
  covers_back side area k = subst (Covers area) (square_same side (tile_at others k) (tile_at tiles k) (areas k))

  leads_moves : (j : ℕ) (s : Square) → Leads tiles j s → Leads others j s
  leads_moves j s leads inside = record { covers = subst (λ (r : Rect). Covers r s) (sym (areas j)) (leads inside).covers }

  -- so does where a stitch leads that stays
  stitch_moves : (side : Side) (k : ℕ) → stitch_of side (tile_at others k) ≡ stitch_of side (tile_at tiles k)
      → Leads tiles (stitch_of side (tile_at tiles k)) (square_of side (tile_at tiles k))
      → Leads others (stitch_of side (tile_at others k)) (square_of side (tile_at others k))
  stitch_moves side k same leads = leads_moves _ _ (subst (λ (v : ℕ). Leads tiles v (square_of side (tile_at others k))) (sym same)
      (subst (Leads tiles (stitch_of side (tile_at tiles k))) (sym (square_same side (tile_at others k) (tile_at tiles k) (areas k))) leads))

  -- and a side along which the stitches stay
  side_moves : {area : Rect} {first id : ℕ} (side : Side) → IsSideOf side tiles area first id
      → ((k : ℕ) (c : ℤ) → HasLine side area c → Owns tiles k (square_beside side area c)
      → stitch_of (along side) (tile_at others k) ≡ stitch_of (along side) (tile_at tiles k))
      → IsSideOf side others area first id
  side_moves {area = area} {first = first} {id = id} side is same = record {
    proper = is.proper;
    within = subst (LiesWithin area) (sym (areas id)) is.within;
    edge = ap (end_of side) (areas id) ∙ is.edge;
    leads = leads_moves first _ is.leads;
    onward = λ k c line owns. let its = owns_back k _ owns in stitch_moves (along side) k (same k c line its) (is.onward k c line its);
  }

-- a stitch at a side is not that at another
other_stitch : (side other : Side) (tile : Tile) (n : ℕ) → (side ≡ other) ⊎ (stitch_of other (with_stitch side tile n) ≡ stitch_of other tile)
other_stitch Above Above tile n = inl refl
other_stitch Above Right tile n = inr refl
other_stitch Above Below tile n = inr refl
other_stitch Above Left tile n = inr refl
other_stitch Right Above tile n = inr refl
other_stitch Right Right tile n = inl refl
other_stitch Right Below tile n = inr refl
other_stitch Right Left tile n = inr refl
other_stitch Below Above tile n = inr refl
other_stitch Below Right tile n = inr refl
other_stitch Below Below tile n = inl refl
other_stitch Below Left tile n = inr refl
other_stitch Left Above tile n = inr refl
other_stitch Left Right tile n = inr refl
other_stitch Left Below tile n = inr refl
other_stitch Left Left tile n = inl refl

-- the stitches at this side that led into the area lead to the number now
abbrev pub AreLed : Side → Rect → ℕ → Tiles → Tiles → Type 0
AreLed side area id one now = (k : ℕ) → IsTaken one k → Covers area (square_of side (tile_at one k)) → stitch_of side (tile_at now k) ≡ id

-- nothing has changed but stitches into the area
record AreRedirecting (area : Rect) (one now : Tiles) : Type 0 where
  pub alike : (k : ℕ) → AreAlike (tile_at one k) (tile_at now k)
  pub outside : (side : Side) (k : ℕ) → (Covers area (square_of side (tile_at one k)) → ⊥) → stitch_of side (tile_at now k) ≡ stitch_of side (tile_at one k)

redirecting_begins : (area : Rect) (one : Tiles) → AreRedirecting area one one
redirecting_begins area one = record { alike = λ k. record { area = refl; value = refl }; outside = λ side k off. refl }

module _ {area : Rect} {one mid : Tiles} (so_far : AreRedirecting area one mid) where
  areas_so_far : HaveSameAreas one mid
  areas_so_far k = (so_far.alike k).area

  -- a side that is not mended yet
  side_so_far : {first id : ℕ} (other : Side) → IsPartition one → IsSideOf other one area first id → IsSideOf other mid area first id
  side_so_far other partition is = side_moves one mid areas_so_far other is (λ k c line owns.
      so_far.outside (along other) k (apart c partition (let proper = is.proper in let within = is.within in omega (arith, ints)) is.within other is.edge line owns))

-- one more side is mended
module _ {area : Rect} {id : ℕ} {one mid new : Tiles} (so_far : AreRedirecting area one mid) {side : Side} (led : LeadTo side area id mid new) where
  redirecting_goes_on : AreRedirecting area one new
  redirecting_goes_on = record {
    alike = λ k. record {
      area = same_areas side area id mid new led k ∙ (so_far.alike k).area;
      value = same_values side area id mid new led k ∙ (so_far.alike k).value;
    };
    outside = λ other k off. elim (other_stitch side other (tile_at mid k) (stitch_of side (tile_at new k))) [
      | inl e ↦ subst (λ (v : Side). stitch_of v (tile_at new k) ≡ stitch_of v (tile_at mid k)) e
          (led.outside k (λ covers. off (covers_back one mid (areas_so_far so_far) other area k
          (subst (λ (v : Side). Covers area (square_of v (tile_at mid k))) e covers))))
          ∙ so_far.outside other k off
      | inr same ↦ ap (stitch_of other) (led.rest k) ∙ same ∙ so_far.outside other k off
    ];
  }

  led_now : AreLed side area id one new
  led_now k taken covers = led.inside k (taken_moves one mid (areas_so_far so_far) k taken) (covers_moves one mid (areas_so_far so_far) side area k covers)

  led_still : (other : Side) → AreLed other area id one mid → AreLed other area id one new
  led_still other was k taken covers = elim (other_stitch side other (tile_at mid k) (stitch_of side (tile_at new k))) [
    | inl e ↦ subst (λ (v : Side). stitch_of v (tile_at new k) ≡ id) e
        (led_now k taken (subst (λ (v : Side). Covers area (square_of v (tile_at one k))) (sym e) covers))
    | inr same ↦ ap (stitch_of other) (led.rest k) ∙ same ∙ was k taken covers
  ]

-- a side is that at which an end is, one of those beside it, or the opposite one
sides_of_end : (side other : Side)
    → (other ≡ opposite side) ⊎ ((other ≡ opposite (along side)) ⊎ ((other ≡ opposite (opposite (along side))) ⊎ (other ≡ side)))
sides_of_end Above Above = inr (inr (inr refl))
sides_of_end Above Right = inr (inl refl)
sides_of_end Above Below = inl refl
sides_of_end Above Left = inr (inr (inl refl))
sides_of_end Right Above = inr (inl refl)
sides_of_end Right Right = inr (inr (inr refl))
sides_of_end Right Below = inr (inr (inl refl))
sides_of_end Right Left = inl refl
sides_of_end Below Above = inl refl
sides_of_end Below Right = inr (inr (inl refl))
sides_of_end Below Below = inr (inr (inr refl))
sides_of_end Below Left = inr (inl refl)
sides_of_end Left Above = inr (inr (inl refl))
sides_of_end Left Right = inl refl
sides_of_end Left Below = inr (inl refl)
sides_of_end Left Left = inr (inr (inr refl))

-- the sides of an end are mended: first the outer one, then the two beside it
module _ {side : Side} {end : Tile} {id : ℕ} {one two : Tiles} (partition : IsPartition one) (is : IsEnd side one end id)
    (first : LeadTo (opposite side) end.area id one two) where
  after_one : AreRedirecting end.area one two
  after_one = redirecting_goes_on (redirecting_begins end.area one) first

  pub near_partition : IsPartition two
  near_partition = mended_partition (opposite side) end.area id one two first partition

  pub near_side : IsSideOf (along side) two end.area (stitch_of (along side) end) id
  near_side = side_so_far after_one (along side) partition is.near

  module _ {three : Tiles} (second : LeadTo (opposite (along side)) end.area id two three) where
    after_two : AreRedirecting end.area one three
    after_two = redirecting_goes_on after_one second

    pub far_partition : IsPartition three
    far_partition = mended_partition (opposite (along side)) end.area id two three second near_partition

    pub far_side : IsSideOf (opposite (along side)) three end.area (stitch_of (opposite (along side)) end) id
    far_side = side_so_far after_two (opposite (along side)) partition is.far

    module _ {four : Tiles} (third : LeadTo (opposite (opposite (along side))) end.area id three four) where
      after_three : AreRedirecting end.area one four
      after_three = redirecting_goes_on after_two third

      led_last : (other : Side) → AreLed other end.area id one three → AreLed other end.area id one four
      led_last other = led_still after_two third other

      all_led : (other : Side) → AreLed other end.area id one four
      all_led other = elim (sides_of_end side other) [
        | inl e ↦ led_of e (led_last _ (led_still after_one second _ (led_now (redirecting_begins end.area one) first)))
        | inr (inl e) ↦ led_of e (led_last _ (led_now after_one second))
        | inr (inr (inl e)) ↦ led_of e (led_now after_two third)
        | inr (inr (inr e)) ↦ led_of e (led_last _ (led_still after_one second _ (led_still (redirecting_begins end.area one) first _ is.inner)))
      ] where
        led_of : {a b : Side} → a ≡ b → AreLed b end.area id one four → AreLed a end.area id one four
        led_of e = subst (λ (v : Side). AreLed v end.area id one four) (sym e)

      pub end_redirected : AreRedirected end.area id one four
      end_redirected = record { alike = after_three.alike; inside = all_led; outside = after_three.outside }
