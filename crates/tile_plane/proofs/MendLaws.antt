-- Walks along the sides of an area that mend the stitches into it.
use Rattle.tile_plane.proofs.Common.{◌≡◌, ◌⊎◌, inl, inr, ℕ, ◌<◌, ℤ, pos, ◌-ℤ◌, ◌≤ℤ◌, ◌<ℤ◌, refl, sym, ◌∙◌, ap, subst, arith, cases_eq, ints, by_lt_z}
use Rattle.tile_plane.proofs.Common.{extent, Rect, Covers, IsProper, plane_range, Tile, Tiles, tile_at, IsTaken, Owns, IsPartition, IsPut}
use Rattle.tile_plane.proofs.Common.{square_above, square_below, square_at, Side, Above, Right, Below, Left, stitch_of, square_of, with_stitch}
use Rattle.tile_plane.proofs.Common.{LeadTo, IsSideOf, opposite, along, GoesOn, IsLast, end_of}
use Rattle.tile_plane.specs.steps.Sides.{ComesBefore}
use Rattle.tile_plane.proofs.TileLaws.{owner_taken}
use Rattle.tile_plane.proofs.SideLaws.{strangers, beside_above, beside_below}
use Rattle.tile_plane.proofs.WalkLaws.{extent_falls, extent_falls_down}
use Rattle.tile_plane.proofs.Transposed.{swap_rect, transposed, tile_at-transposed, taken_back, partition_over}
use Rattle.tile_plane.proofs.TransposedSides.{lead_back, put_over, read_over, right_over, left_over}

stitch_of-with_stitch : (side : Side) (tile : Tile) (id : ℕ) → stitch_of side (with_stitch side tile id) ≡ id
stitch_of-with_stitch Above tile id = refl
stitch_of-with_stitch Right tile id = refl
stitch_of-with_stitch Below tile id = refl
stitch_of-with_stitch Left tile id = refl

with_stitch-with_stitch : (side : Side) (tile : Tile) (a b : ℕ) → with_stitch side (with_stitch side tile a) b ≡ with_stitch side tile b
with_stitch-with_stitch Above tile a b = refl
with_stitch-with_stitch Right tile a b = refl
with_stitch-with_stitch Below tile a b = refl
with_stitch-with_stitch Left tile a b = refl

with_stitch-stitch_of : (side : Side) (tile : Tile) → tile ≡ with_stitch side tile (stitch_of side tile)
with_stitch-stitch_of Above tile = refl
with_stitch-stitch_of Right tile = refl
with_stitch-stitch_of Below tile = refl
with_stitch-stitch_of Left tile = refl

-- a walk that has come to the coordinate c has passed an area that lies on its way
abbrev pub IsPassed : Side → ℤ → Rect → Type 0
IsPassed Below c area = c ≤ℤ area.xlo
IsPassed Left c area = c ≤ℤ area.ylo
IsPassed Above c area = area.xhi ≤ℤ c
IsPassed Right c area = area.yhi ≤ℤ c

-- the stitches of the tiles that have been passed lead to the number now, where they lead into the area, and nothing else has changed
pub record AreMended (side : Side) (area : Rect) (id : ℕ) (c : ℤ) (old new : Tiles) : Type 0 where
  pub rest : (k : ℕ) → tile_at new k ≡ with_stitch side (tile_at old k) (stitch_of side (tile_at new k))
  pub inside : (k : ℕ) → IsTaken old k → Covers area (square_of side (tile_at old k)) → IsPassed side c (tile_at old k).area
      → stitch_of side (tile_at new k) ≡ id
  pub outside : (k : ℕ) → (Covers area (square_of side (tile_at old k)) → IsPassed side c (tile_at old k).area → ⊥)
      → stitch_of side (tile_at new k) ≡ stitch_of side (tile_at old k)

module _ (side : Side) (area : Rect) (id : ℕ) (old : Tiles) where
  mending_begins : (c : ℤ) → ((k : ℕ) → IsTaken old k → Covers area (square_of side (tile_at old k)) → IsPassed side c (tile_at old k).area → ⊥)
      → AreMended side area id c old old
  mending_begins c none = record {
    rest = λ k. with_stitch-stitch_of side (tile_at old k);
    inside = λ k taken covers passed. absurd (none k taken covers passed);
    outside = λ k no. refl;
  }

  -- the stitch of one more tile is set, and no others are passed
  mending_goes_on : (new put : Tiles) (next : ℕ) (c d : ℤ) → AreMended side area id c old new → IsPut next (with_stitch side (tile_at new next) id) new put
      → Covers area (square_of side (tile_at old next)) → IsPassed side d (tile_at old next).area
      → ((k : ℕ) → IsPassed side c (tile_at old k).area → IsPassed side d (tile_at old k).area)
      → ((k : ℕ) → IsTaken old k → Covers area (square_of side (tile_at old k)) → IsPassed side d (tile_at old k).area
      → IsPassed side c (tile_at old k).area ⊎ (k ≡ next)) → AreMended side area id d old put
  mending_goes_on new put next c d mended is_put covers passed still only = record {
    rest = λ k. elim (cases_eq k next) [
      | inl e ↦ subst (λ (v : ℕ). tile_at put v ≡ with_stitch side (tile_at old v) (stitch_of side (tile_at put v))) (sym e)
          (set ∙ ap (with_stitch side (tile_at old next)) (sym set_stitch))
      | inr n ↦ is_put.others k n ∙ mended.rest k ∙ ap (λ (t : Tile). with_stitch side (tile_at old k) (stitch_of side t)) (sym (is_put.others k n))
    ];
    inside = λ k taken in_area d_passed. elim (cases_eq k next) [
      | inl e ↦ ap (λ (v : ℕ). stitch_of side (tile_at put v)) e ∙ set_stitch
      | inr n ↦ ap (stitch_of side) (is_put.others k n)
          ∙ mended.inside k taken in_area (elim (only k taken in_area d_passed) [ inl c_passed ↦ c_passed | inr e ↦ absurd (n e) ])
    ];
    outside = λ k no. elim (cases_eq k next) [
      | inl e ↦ absurd (subst (λ (v : ℕ). Covers area (square_of side (tile_at old v)) → IsPassed side d (tile_at old v).area → ⊥) e no covers passed)
      | inr n ↦ ap (stitch_of side) (is_put.others k n) ∙ mended.outside k (λ in_area c_passed. no in_area (still k c_passed))
    ];
  } where
    set : tile_at put next ≡ with_stitch side (tile_at old next) id
    set = is_put.here ∙ ap (λ (t : Tile). with_stitch side t id) (mended.rest next) ∙ with_stitch-with_stitch side (tile_at old next) _ id

    set_stitch : stitch_of side (tile_at put next) ≡ id
    set_stitch = ap (stitch_of side) set ∙ stitch_of-with_stitch side (tile_at old next) id

  -- all have been passed
  mending_ends : (new : Tiles) (c : ℤ) → AreMended side area id c old new
      → ((k : ℕ) → IsTaken old k → Covers area (square_of side (tile_at old k)) → IsPassed side c (tile_at old k).area) → LeadTo side area id old new
  mending_ends new c mended all = record {
    rest = mended.rest;
    inside = λ k taken covers. mended.inside k taken covers (all k taken covers);
    outside = λ k no. mended.outside k (λ covers _. no covers);
  }

  -- there is none
  mending_none : ((k : ℕ) → IsTaken old k → Covers area (square_of side (tile_at old k)) → ⊥) → LeadTo side area id old old
  mending_none none = record {
    rest = λ k. with_stitch-stitch_of side (tile_at old k);
    inside = λ k taken covers. absurd (none k taken covers);
    outside = λ k no. refl;
  }

-- the walk along the upper side goes left
pub record IsMendingUpper (old new : Tiles) (area : Rect) (id next : ℕ) (c : ℤ) : Type 0 where
  pub mended : AreMended Below area id c old new
  pub bound : c ≤ℤ area.xhi
  pub at : area.xlo <ℤ c → Owns old next (square_at (c -ℤ pos 1) area.yhi)

module _ {old : Tiles} {area : Rect} {first id : ℕ} (partition : IsPartition old) (side : IsSideOf Above old area first id) where
  upper_taken : IsTaken old id
  upper_taken = let proper = side.proper in let within = side.within in omega (arith, ints)

  -- a tile with a stitch into the area from this side touches it
  upper_touches : (k : ℕ) → IsTaken old k → Covers area (square_below (tile_at old k)) → (tile_at old k).area.ylo ≡ area.yhi
  upper_touches k taken covers =
      let proper = taken.proper in
      let within = side.within in
      by_lt_z (tile_at old k).area.ylo area.yhi
      (λ over.
      let both = strangers old id k (square_at (tile_at old k).area.xlo (tile_at old k).area.ylo) (square_below (tile_at old k)) partition
      (omega (arith, ints)) (omega (arith, ints)) (omega (arith, ints)) in
      absurd (omega (arith, ints)))
      (λ touches. omega (arith, ints))

  -- and it is the tile at which the walk is, where it is passed in this step
  upper_passed : (next k : ℕ) (c : ℤ) → c ≤ℤ area.xhi → area.xlo <ℤ c → Owns old next (square_at (c -ℤ pos 1) area.yhi) → IsTaken old k
      → Covers area (square_below (tile_at old k))
      → IsPassed Below (tile_at old next).area.xlo (tile_at old k).area → IsPassed Below c (tile_at old k).area ⊎ (k ≡ next)
  upper_passed next k c bound more owns taken covers passed =
      let proper = taken.proper in
      let at = owns.covers in
      let touches = upper_touches k taken covers in
      by_lt_z (tile_at old k).area.xlo c
      (λ between. inr (partition.one k next (square_at (tile_at old k).area.xlo area.yhi) (omega (arith, ints)) (omega (arith, ints))))
      (λ before. inl before)

  pub upper_begins : area.yhi <ℤ plane_range.yhi → IsMendingUpper old old area id first area.xhi
  upper_begins inside =
      let within = side.within in
      let proper = side.proper in
      let around = partition.within id upper_taken in
      record {
        mended = mending_begins Below area id old area.xhi (λ k taken covers passed. let sound = taken.proper in omega (arith, ints));
        bound = omega (arith, ints);
        at = λ more. side.leads (omega (arith, ints));
      }

  pub upper_none : plane_range.yhi ≤ℤ area.yhi → LeadTo Below area id old old
  upper_none edge = mending_none Below area id old (λ k taken covers.
      let touches = upper_touches k taken covers in
      let its = partition.within k taken in
      let proper = taken.proper in
      omega (arith, ints))

  -- the walk is at a tile
  module _ {new : Tiles} {next : ℕ} {c : ℤ} (walk : IsMendingUpper old new area id next c) where
    pub upper_ends : c ≤ℤ area.xlo → LeadTo Below area id old new
    upper_ends over = mending_ends Below area id old new c walk.mended (λ k taken covers. let proper = taken.proper in omega (arith, ints))

    pub upper_next_taken : area.xlo <ℤ c → IsTaken new next
    upper_next_taken more = record {
      proper =
          subst (λ (t : Tile). IsProper t.area) (sym (walk.mended.rest next)) (owner_taken old next _ (walk.at more)).proper;
    }

    -- the tile as it was before it was read
    module _ {tile : Tile} (more : area.xlo <ℤ c) (is : tile ≡ tile_at new next) where
      upper_end : tile.area.xlo ≡ (tile_at old next).area.xlo
      upper_end = ap (λ (t : Tile). t.area.xlo) (is ∙ walk.mended.rest next)

      pub upper_falls : extent area.xlo tile.area.xlo < extent area.xlo c
      upper_falls = let at = (walk.at more).covers in let end = upper_end in extent_falls_down area.xlo tile.area.xlo c (omega (arith, ints)) more

      -- the last tile reaches past the area
      pub upper_last : tile.area.xlo <ℤ area.xlo → LeadTo Below area id old new
      upper_last past = mending_ends Below area id old new c walk.mended (λ k taken covers.
          let end = upper_end in
          let at = (walk.at more).covers in
          elim (upper_passed next k c walk.bound more (walk.at more) taken covers (omega (arith, ints))) [
            | inl passed ↦ passed
            | inr same ↦ (let e = ap (λ (v : ℕ). (tile_at old v).area.xlo) same in absurd (omega (arith, ints)))
          ])

      pub upper_goes_on : (put : Tiles) → area.xlo ≤ℤ tile.area.xlo → IsPut next (record (tile_at new next) { below = id }) new put
          → IsMendingUpper old put area id tile.left tile.area.xlo
      upper_goes_on put on is_put =
          let end = upper_end in
          let stitch = ap (λ (t : Tile). t.left) (is ∙ walk.mended.rest next) in
          let owns = walk.at more in
          let at = owns.covers in
          let bound = walk.bound in
          let within = side.within in
          let holder = upper_taken in
          let proper = (owner_taken old next _ owns).proper in
          let sound = side.proper in
          let edge = side.edge in
          let reaches : (tile_at old next).area.ylo ≡ area.yhi = (
          let e = beside_above old id next (c -ℤ pos 1) partition holder (omega (arith, ints)) (omega (arith, ints)) (omega (arith, ints)) in
          omega (arith, ints)) in
          let around = partition.within id holder in
          let beside = partition.within next (owner_taken old next _ owns) in
          let leads = side.onward next (c -ℤ pos 1) (omega (arith, ints), omega (arith, ints)) owns in
          record {
            mended = mending_goes_on Below area id old new put next c tile.area.xlo walk.mended is_put (omega (arith, ints)) (omega (arith, ints))
                (λ k passed. omega (arith, ints))
                (λ k taken covers passed. upper_passed next k c bound more owns taken covers (omega (arith, ints)));
            bound = omega (arith, ints);
            at = λ again. subst (λ (v : ℕ). Owns old v (square_at (tile.area.xlo -ℤ pos 1) area.yhi)) (sym stitch)
                (let there = leads (omega (arith, ints)) in let covers = there.covers in omega (arith, ints));
          }

-- the walk along the right side goes down: with x and y exchanged it is the one along the upper side
abbrev pub IsMendingRight : Tiles → Tiles → Rect → ℕ → ℕ → ℤ → Type 0
IsMendingRight old new area id next c = IsMendingUpper (transposed old) (transposed new) (swap_rect area) id next c

module _ {old : Tiles} {area : Rect} {first id : ℕ} (partition : IsPartition old) (side : IsSideOf Right old area first id) where
  pub right_begins : area.xhi <ℤ plane_range.xhi → IsMendingRight old old area id first area.yhi
  right_begins inside = upper_begins (partition_over old partition) (right_over side) inside

  pub right_none : plane_range.xhi ≤ℤ area.xhi → LeadTo Left area id old old
  right_none edge = lead_back Left area id old old (upper_none (partition_over old partition) (right_over side) edge)

  -- the walk is at a tile
  module _ (new : Tiles) {next : ℕ} {c : ℤ} (walk : IsMendingRight old new area id next c) where
    pub right_ends : c ≤ℤ area.ylo → LeadTo Left area id old new
    right_ends over = lead_back Left area id old new (upper_ends (partition_over old partition) (right_over side) walk over)

    pub right_next_taken : area.ylo <ℤ c → IsTaken new next
    right_next_taken more = taken_back new next (upper_next_taken (partition_over old partition) (right_over side) walk more)

    module _ {tile : Tile} (more : area.ylo <ℤ c) (is : tile ≡ tile_at new next) where
      pub right_falls : extent area.ylo tile.area.ylo < extent area.ylo c
      right_falls = upper_falls (partition_over old partition) (right_over side) walk more (read_over next tile new is)

      pub right_last : tile.area.ylo <ℤ area.ylo → LeadTo Left area id old new
      right_last past = lead_back Left area id old new (upper_last (partition_over old partition) (right_over side) walk more (read_over next tile new is) past)

      pub right_goes_on : (put : Tiles) → area.ylo ≤ℤ tile.area.ylo → IsPut next (record (tile_at new next) { left = id }) new put
          → IsMendingRight old put area id tile.below tile.area.ylo
      right_goes_on put on is_put = upper_goes_on (partition_over old partition) (right_over side) walk more (read_over next tile new is) (transposed put) on
          (subst (λ (t : Tile). IsPut next (record t { below = id }) (transposed new) (transposed put)) (sym (tile_at-transposed new next)) (put_over is_put))

-- the walk along the lower side goes right
pub record IsMendingLower (old new : Tiles) (area : Rect) (id next : ℕ) (c : ℤ) : Type 0 where
  pub mended : AreMended Above area id c old new
  pub bound : area.xlo ≤ℤ c
  pub at : c <ℤ area.xhi → Owns old next (square_at c (area.ylo -ℤ pos 1))

module _ {old : Tiles} {area : Rect} {first id : ℕ} (partition : IsPartition old) (side : IsSideOf Below old area first id) where
  lower_taken : IsTaken old id
  lower_taken = let proper = side.proper in let within = side.within in omega (arith, ints)

  -- a tile with a stitch into the area from this side touches it
  lower_touches : (k : ℕ) → IsTaken old k → Covers area (square_above (tile_at old k)) → (tile_at old k).area.yhi ≡ area.ylo
  lower_touches k taken covers =
      let proper = taken.proper in
      let within = side.within in
      by_lt_z area.ylo (tile_at old k).area.yhi
      (λ over.
      let both = strangers old id k (square_at ((tile_at old k).area.xhi -ℤ pos 1) ((tile_at old k).area.yhi -ℤ pos 1)) (square_above (tile_at old k))
      partition (omega (arith, ints)) (omega (arith, ints)) (omega (arith, ints)) in
      absurd (omega (arith, ints)))
      (λ touches. omega (arith, ints))

  -- and it is the tile at which the walk is, where it is passed in this step
  lower_passed : (next k : ℕ) (c : ℤ) → area.xlo ≤ℤ c → c <ℤ area.xhi → Owns old next (square_at c (area.ylo -ℤ pos 1)) → IsTaken old k
      → Covers area (square_above (tile_at old k))
      → IsPassed Above (tile_at old next).area.xhi (tile_at old k).area → IsPassed Above c (tile_at old k).area ⊎ (k ≡ next)
  lower_passed next k c bound more owns taken covers passed =
      let proper = taken.proper in
      let at = owns.covers in
      let touches = lower_touches k taken covers in
      by_lt_z c (tile_at old k).area.xhi
      (λ between. inr (partition.one k next (square_at ((tile_at old k).area.xhi -ℤ pos 1) (area.ylo -ℤ pos 1)) (omega (arith, ints)) (omega (arith, ints))))
      (λ before. inl before)

  pub lower_begins : plane_range.ylo <ℤ area.ylo → IsMendingLower old old area id first area.xlo
  lower_begins inside =
      let within = side.within in
      let proper = side.proper in
      let around = partition.within id lower_taken in
      record {
        mended = mending_begins Above area id old area.xlo (λ k taken covers passed. let sound = taken.proper in omega (arith, ints));
        bound = omega (arith, ints);
        at = λ more. side.leads (omega (arith, ints));
      }

  pub lower_none : area.ylo ≤ℤ plane_range.ylo → LeadTo Above area id old old
  lower_none edge = mending_none Above area id old (λ k taken covers.
      let touches = lower_touches k taken covers in
      let its = partition.within k taken in
      let proper = taken.proper in
      omega (arith, ints))

  -- the walk is at a tile
  module _ {new : Tiles} {next : ℕ} {c : ℤ} (walk : IsMendingLower old new area id next c) where
    pub lower_ends : area.xhi ≤ℤ c → LeadTo Above area id old new
    lower_ends over = mending_ends Above area id old new c walk.mended (λ k taken covers. let proper = taken.proper in omega (arith, ints))

    pub lower_next_taken : c <ℤ area.xhi → IsTaken new next
    lower_next_taken more = record {
      proper =
          subst (λ (t : Tile). IsProper t.area) (sym (walk.mended.rest next)) (owner_taken old next _ (walk.at more)).proper;
    }

    -- the tile as it was before it was read
    module _ {tile : Tile} (more : c <ℤ area.xhi) (is : tile ≡ tile_at new next) where
      lower_end : tile.area.xhi ≡ (tile_at old next).area.xhi
      lower_end = ap (λ (t : Tile). t.area.xhi) (is ∙ walk.mended.rest next)

      pub lower_falls : extent tile.area.xhi area.xhi < extent c area.xhi
      lower_falls = let at = (walk.at more).covers in let end = lower_end in extent_falls c tile.area.xhi area.xhi (omega (arith, ints)) more

      -- the last tile reaches past the area
      pub lower_last : area.xhi <ℤ tile.area.xhi → LeadTo Above area id old new
      lower_last past = mending_ends Above area id old new c walk.mended (λ k taken covers.
          let end = lower_end in
          let at = (walk.at more).covers in
          elim (lower_passed next k c walk.bound more (walk.at more) taken covers (omega (arith, ints))) [
            | inl passed ↦ passed
            | inr same ↦ (let e = ap (λ (v : ℕ). (tile_at old v).area.xhi) same in absurd (omega (arith, ints)))
          ])

      pub lower_goes_on : (put : Tiles) → tile.area.xhi ≤ℤ area.xhi → IsPut next (record (tile_at new next) { above = id }) new put
          → IsMendingLower old put area id tile.right tile.area.xhi
      lower_goes_on put on is_put =
          let end = lower_end in
          let stitch = ap (λ (t : Tile). t.right) (is ∙ walk.mended.rest next) in
          let owns = walk.at more in
          let at = owns.covers in
          let bound = walk.bound in
          let within = side.within in
          let holder = lower_taken in
          let proper = (owner_taken old next _ owns).proper in
          let sound = side.proper in
          let edge = side.edge in
          let reaches : (tile_at old next).area.yhi ≡ area.ylo = (
          let e = beside_below old id next c partition holder (omega (arith, ints)) (omega (arith, ints)) (omega (arith, ints)) in
          omega (arith, ints)) in
          let around = partition.within id holder in
          let beside = partition.within next (owner_taken old next _ owns) in
          let leads = side.onward next c (omega (arith, ints), omega (arith, ints)) owns in
          record {
            mended = mending_goes_on Above area id old new put next c tile.area.xhi walk.mended is_put (omega (arith, ints)) (omega (arith, ints))
                (λ k passed. omega (arith, ints))
                (λ k taken covers passed. lower_passed next k c bound more owns taken covers (omega (arith, ints)));
            bound = omega (arith, ints);
            at = λ again. subst (λ (v : ℕ). Owns old v (square_at tile.area.xhi (area.ylo -ℤ pos 1))) (sym stitch)
                (let there = leads (omega (arith, ints)) in let covers = there.covers in omega (arith, ints));
          }

-- the walk along the left side goes up: with x and y exchanged it is the one along the lower side
abbrev pub IsMendingLeft : Tiles → Tiles → Rect → ℕ → ℕ → ℤ → Type 0
IsMendingLeft old new area id next c = IsMendingLower (transposed old) (transposed new) (swap_rect area) id next c

module _ {old : Tiles} {area : Rect} {first id : ℕ} (partition : IsPartition old) (side : IsSideOf Left old area first id) where
  pub left_begins : plane_range.xlo <ℤ area.xlo → IsMendingLeft old old area id first area.ylo
  left_begins inside = lower_begins (partition_over old partition) (left_over side) inside

  pub left_none : area.xlo ≤ℤ plane_range.xlo → LeadTo Right area id old old
  left_none edge = lead_back Right area id old old (lower_none (partition_over old partition) (left_over side) edge)

  -- the walk is at a tile
  module _ (new : Tiles) {next : ℕ} {c : ℤ} (walk : IsMendingLeft old new area id next c) where
    pub left_ends : area.yhi ≤ℤ c → LeadTo Right area id old new
    left_ends over = lead_back Right area id old new (lower_ends (partition_over old partition) (left_over side) walk over)

    pub left_next_taken : c <ℤ area.yhi → IsTaken new next
    left_next_taken more = taken_back new next (lower_next_taken (partition_over old partition) (left_over side) walk more)

    module _ {tile : Tile} (more : c <ℤ area.yhi) (is : tile ≡ tile_at new next) where
      pub left_falls : extent tile.area.yhi area.yhi < extent c area.yhi
      left_falls = lower_falls (partition_over old partition) (left_over side) walk more (read_over next tile new is)

      pub left_last : area.yhi <ℤ tile.area.yhi → LeadTo Right area id old new
      left_last past = lead_back Right area id old new (lower_last (partition_over old partition) (left_over side) walk more (read_over next tile new is) past)

      pub left_goes_on : (put : Tiles) → tile.area.yhi ≤ℤ area.yhi → IsPut next (record (tile_at new next) { right = id }) new put
          → IsMendingLeft old put area id tile.above tile.area.yhi
      left_goes_on put on is_put = lower_goes_on (partition_over old partition) (left_over side) walk more (read_over next tile new is) (transposed put) on
          (subst (λ (t : Tile). IsPut next (record t { above = id }) (transposed new) (transposed put)) (sym (tile_at-transposed new next)) (put_over is_put))

-- the walk along any of the sides
abbrev pub IsMending : Side → Tiles → Tiles → Rect → ℕ → ℕ → ℤ → Type 0
IsMending Above old new area id next c = IsMendingUpper old new area id next c
IsMending Right old new area id next c = IsMendingRight old new area id next c
IsMending Below old new area id next c = IsMendingLower old new area id next c
IsMending Left old new area id next c = IsMendingLeft old new area id next c

abbrev pub way_left : Side → ℤ → ℤ → ℕ
way_left Above c end = extent end c
way_left Right c end = extent end c
way_left Below c end = extent c end
way_left Left c end = extent c end

module _ (old : Tiles) (area : Rect) (first id : ℕ) (partition : IsPartition old) where
  pub mend_none : (side : Side) → IsSideOf side old area first id → IsLast side area → LeadTo (opposite side) area id old old
  mend_none Above side edge = upper_none partition side edge
  mend_none Right side edge = right_none partition side edge
  mend_none Below side edge = lower_none partition side edge
  mend_none Left side edge = left_none partition side edge

  pub mend_begins : (side : Side) → IsSideOf side old area first id → GoesOn side area
      → IsMending side old old area id first (end_of (opposite (along side)) area)
  mend_begins Above side inside = upper_begins partition side inside
  mend_begins Right side inside = right_begins partition side inside
  mend_begins Below side inside = lower_begins partition side inside
  mend_begins Left side inside = left_begins partition side inside

  module _ (new : Tiles) (next : ℕ) (c : ℤ) where
    pub mend_taken : (side : Side) → IsSideOf side old area first id → IsMending side old new area id next c → ComesBefore side c (end_of (along side) area)
        → IsTaken new next
    mend_taken Above side walk more = upper_next_taken partition side walk more
    mend_taken Right side walk more = right_next_taken partition side new walk more
    mend_taken Below side walk more = lower_next_taken partition side walk more
    mend_taken Left side walk more = left_next_taken partition side new walk more

    pub mend_ends : (side : Side) → IsSideOf side old area first id → IsMending side old new area id next c
        → (ComesBefore side c (end_of (along side) area) → ⊥) → LeadTo (opposite side) area id old new
    mend_ends Above side walk over = by_lt_z area.xlo c (λ more. absurd (over more)) (λ past. upper_ends partition side walk past)
    mend_ends Right side walk over = by_lt_z area.ylo c (λ more. absurd (over more)) (λ past. right_ends partition side new walk past)
    mend_ends Below side walk over = by_lt_z c area.xhi (λ more. absurd (over more)) (λ past. lower_ends partition side walk past)
    mend_ends Left side walk over = by_lt_z c area.yhi (λ more. absurd (over more)) (λ past. left_ends partition side new walk past)

    -- at a tile, as it was read
    module _ (tile : Tile) (is : tile ≡ tile_at new next) where
      pub mend_falls : (side : Side) → IsSideOf side old area first id → IsMending side old new area id next c
          → ComesBefore side c (end_of (along side) area)
          → way_left side (end_of (along side) tile.area) (end_of (along side) area) < way_left side c (end_of (along side) area)
      mend_falls Above side walk more = upper_falls partition side walk more is
      mend_falls Right side walk more = right_falls partition side new walk more is
      mend_falls Below side walk more = lower_falls partition side walk more is
      mend_falls Left side walk more = left_falls partition side new walk more is

      pub mend_last : (side : Side) → IsSideOf side old area first id → IsMending side old new area id next c
          → ComesBefore side c (end_of (along side) area) → ComesBefore side (end_of (along side) area) (end_of (along side) tile.area)
          → LeadTo (opposite side) area id old new
      mend_last Above side walk more past = upper_last partition side walk more is past
      mend_last Right side walk more past = right_last partition side new walk more is past
      mend_last Below side walk more past = lower_last partition side walk more is past
      mend_last Left side walk more past = left_last partition side new walk more is past

      pub mend_goes_on : (side : Side) (put : Tiles) → IsSideOf side old area first id → IsMending side old new area id next c
          → ComesBefore side c (end_of (along side) area) → (ComesBefore side (end_of (along side) area) (end_of (along side) tile.area) → ⊥)
          → IsPut next (with_stitch (opposite side) (tile_at new next) id) new put
          → IsMending side old put area id (stitch_of (along side) tile) (end_of (along side) tile.area)
      mend_goes_on Above put side walk more on is_put = by_lt_z tile.area.xlo area.xlo (λ past. absurd (on past))
          (λ within. upper_goes_on partition side walk more is put within is_put)
      mend_goes_on Right put side walk more on is_put = by_lt_z tile.area.ylo area.ylo (λ past. absurd (on past))
          (λ within. right_goes_on partition side new walk more is put within is_put)
      mend_goes_on Below put side walk more on is_put = by_lt_z area.xhi tile.area.xhi (λ past. absurd (on past))
          (λ within. lower_goes_on partition side walk more is put within is_put)
      mend_goes_on Left put side walk more on is_put = by_lt_z area.yhi tile.area.yhi (λ past. absurd (on past))
          (λ within. left_goes_on partition side new walk more is put within is_put)
