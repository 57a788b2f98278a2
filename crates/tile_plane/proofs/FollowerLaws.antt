-- The tiles on the left side of an area, from below, and the followers of a tile, from above.
use Rattle.tile_plane.proofs.Common.{◌≡◌, ◌⊎◌, inl, inr, ℕ, ◌<◌, ℤ, pos, ◌-ℤ◌, ◌≤ℤ◌, ◌<ℤ◌, Option, Some, None, List, [], ◌∷◌, ◌++◌, sym, ◌∙◌, ap}
use Rattle.tile_plane.proofs.Common.{subst, arith, All, unwrap_or, ints, clamps, by_lt_z, append-nil, In, Lists, extent, In-append_left, In-push}
use Rattle.tile_plane.proofs.Common.{In-push_cases, Rect, corner_of, IsNear, LiesWithin, Covers, IsProper, plane_range, Tiles, tile_at, IsTaken}
use Rattle.tile_plane.proofs.Common.{Owns, IsPartition, HasStitches, square_at, Meets, IsOnSide, IsFollower, low_row}
use Rattle.std.specs.Borrow.{Bor}
use Rattle.std.specs.Option.{option_copied}
use Rattle.std.specs.Int.{int_min}
use Rattle.std.specs.Slice.{IsItemAt}
use Rattle.std.proofs.lemmas.List.{append_assoc}
use Rattle.geo_core.proofs.FiniteSets.Distincts.{Distinct-push}
use Rattle.geo_core.proofs.FiniteSets.Listings.{Lists-none}
use Rattle.tile_plane.specs.Listings.{AddsAll}
use Rattle.tile_plane.proofs.TileLaws.{owner_taken}
use Rattle.tile_plane.proofs.SideLaws.{beside_above, beside_right}
use Rattle.tile_plane.proofs.BesideLaws.{next_below}
use Rattle.tile_plane.proofs.WalkLaws.{extent_falls_down}

-- one more thing that has P at the end of a list, where what else has Q has P
pub lists_push : (P Q : ℕ → Type 0) (xs : List ℕ) (y : ℕ) → Lists P xs → ((x : ℕ) → P x → Q x) → Q y → (P y → ⊥) → ((x : ℕ) → Q x → P x ⊎ (y ≡ x))
    → Lists Q (xs ++ y ∷ [])
lists_push P Q xs y lists weaker has new cases = (
  Distinct-push xs y lists.0 (λ i. new (lists.2 y i)),
  (λ x q. elim (cases x q) [
    | inl p ↦ In-append_left x xs (y ∷ []) (lists.1 x p)
    | inr e ↦ subst (λ (v : ℕ). In v (xs ++ y ∷ [])) e (In-push xs y)
  ]),
  λ x i. elim (In-push_cases x xs y i) [ inl j ↦ weaker x (lists.2 x j) | inr e ↦ subst Q e has ],
)

pub lists_same : (P Q : ℕ → Type 0) (xs : List ℕ) → Lists P xs → ((x : ℕ) → P x → Q x) → ((x : ℕ) → Q x → P x) → Lists Q xs
lists_same P Q xs lists there back = (lists.0, (λ x q. lists.1 x (back x q)), λ x i. there x (lists.2 x i))

-- what is read at a place of a list of tiles is a tile, and so is what stands for it where the list ends before
pub hint_taken : (tiles : Tiles) (hints : List ℕ) (place : ℕ) (found : Option (Bor ℕ)) (other : ℕ) → All (IsTaken tiles) hints → IsItemAt hints place found
    → IsTaken tiles other → IsTaken tiles (unwrap_or (option_copied found) other)
hint_taken tiles hints place None other all is taken = taken
hint_taken tiles hints place (Some id) other all is taken = subst (IsTaken tiles) (sym is.1) (all place id.now is.3.0)

-- what is near lies within the plane
pub near_within : (area : Rect) → IsNear area → LiesWithin area plane_range
near_within area near =
    let a = near.xlo in
    let b = near.ylo in
    let c = near.xhi in
    let d = near.yhi in
    record {
      right_of_xlo = omega (arith, ints, a.0);
      above_ylo = omega (arith, ints, b.0);
      left_of_xhi = omega (arith, ints, c.1);
      below_yhi = omega (arith, ints, d.1);
    }

-- above a tile on the side that does not reach the top of the area the plane goes on
pub side_inside : (tiles : Tiles) (area : Rect) → IsNear area → (last : ℕ) → IsOnSide tiles area last → (tile_at tiles last).area.yhi <ℤ area.yhi
    → Covers plane_range (square_at area.xlo (tile_at tiles last).area.yhi)
side_inside tiles area near last on inside =
    let c = on.owns.covers in
    let from = on.from in
    let a = near.xlo in
    let b = near.ylo.0 in
    let d = near.yhi.1 in
    record { right_of_xlo = omega (arith, ints, a.0); left_of_xhi = omega (arith, ints, a.1); above_ylo = omega (arith, ints); below_yhi = omega (arith, ints) }

-- on the left side, and beginning no higher than a tile
abbrev IsUpTo : Tiles → Rect → ℕ → ℕ → Type 0
IsUpTo tiles area last id = IsOnSide tiles area id × ((tile_at tiles id).area.ylo ≤ℤ (tile_at tiles last).area.ylo)

-- the list has the tiles of the side up to the last, which is on the side
pub record IsSideUpTo (tiles : Tiles) (area : Rect) (side : List ℕ) (last : ℕ) : Type 0 where
  pub on : IsOnSide tiles area last
  pub lists : Lists (IsUpTo tiles area last) side

module _ (tiles : Tiles) (area : Rect) (partition : IsPartition tiles) where
  -- two tiles of the side begin in one row only if they are one
  one_on_side : (a b : ℕ) → IsOnSide tiles area a → IsOnSide tiles area b → (tile_at tiles a).area.ylo ≤ℤ (tile_at tiles b).area.ylo
      → (tile_at tiles b).area.ylo <ℤ (tile_at tiles a).area.yhi → a ≡ b
  one_on_side a b p q low high =
      let c = p.owns.covers in
      let d = q.owns.covers in
      let square = square_at area.xlo (tile_at tiles b).area.ylo in
      partition.one a b square
      (record { covers = record { right_of_xlo = c.right_of_xlo; left_of_xhi = c.left_of_xhi; above_ylo = low; below_yhi = high } })
      (record {
        covers = record {
          right_of_xlo = d.right_of_xlo;
          left_of_xhi = d.left_of_xhi;
          above_ylo = omega (arith, ints);
          below_yhi = omega
              (arith, ints);
        };
      })

  pub side_begins : (first : ℕ) → IsProper area → Owns tiles first (corner_of area) → IsSideUpTo tiles area (first ∷ []) first
  side_begins first proper owns =
      let high = proper.high in
      let c = owns.covers in
      let on : IsOnSide tiles area first = record { row = area.ylo; from = omega (arith, ints); to = high; owns = owns } in
      record {
        on = on;
        lists = (
          ((λ i. i), tt),
          (λ id has. inl (
              let d = has.0.owns.covers in
              let from = has.0.from in
              let low = has.1 in
              partition.one first id (corner_of area) owns
              (record {
                covers = record {
                  right_of_xlo = d.right_of_xlo;
                  left_of_xhi = d.left_of_xhi;
                  above_ylo = omega (arith, ints);
                  below_yhi = omega
                      (arith, ints);
                };
              }))),
          λ id i. elim i [ inl e ↦ subst (IsUpTo tiles area first) e (on, omega (arith, ints)) | inr none ↦ absurd none ],
        );
      }

  pub side_goes_on : (side : List ℕ) (last next : ℕ) → IsSideUpTo tiles area side last → (tile_at tiles last).area.yhi <ℤ area.yhi
      → Owns tiles next (square_at area.xlo (tile_at tiles last).area.yhi) → IsSideUpTo tiles area (side ++ next ∷ []) next
  side_goes_on side last next up inside owns =
      let c = up.on.owns.covers in
      let from = up.on.from in
      let begins : (tile_at tiles next).area.ylo ≡ (tile_at tiles last).area.yhi =
      beside_above tiles last next area.xlo partition (owner_taken tiles last (square_at area.xlo up.on.row) up.on.owns) c.right_of_xlo c.left_of_xhi owns in
      let on : IsOnSide tiles area next = record { row = (tile_at tiles last).area.yhi; from = omega (arith, ints); to = inside; owns = owns } in
      record {
        on = on;
        lists = lists_push (IsUpTo tiles area last) (IsUpTo tiles area next) side next up.lists
            (λ id has. (has.0, (let low = has.1 in omega (arith, ints))))
            (on, omega (arith, ints))
            (λ has. let low = has.1 in omega (arith, ints))
            (λ id has. by_lt_z (tile_at tiles last).area.ylo (tile_at tiles id).area.ylo
            (λ later. by_lt_z (tile_at tiles id).area.ylo (tile_at tiles last).area.yhi
            (λ within. inl (
              has.0,
              (let e = one_on_side last id up.on has.0 (omega (arith, ints)) within in absurd
                  (omega (arith, ints, ap (λ (v : ℕ). (tile_at tiles v).area.ylo) e))),
            ))
            (λ past. inr (
            let low = has.1 in
            let same : (tile_at tiles id).area.ylo ≡ (tile_at tiles next).area.ylo = omega (arith, ints) in
            let d = owns.covers in
            one_on_side next id on has.0 (omega (arith, ints)) (omega (arith, ints)))))
            (λ no_later. inl (has.0, no_later)));
      }

  pub side_ends : (side : List ℕ) (last : ℕ) → IsSideUpTo tiles area side last → area.yhi ≤ℤ (tile_at tiles last).area.yhi → Lists (IsOnSide tiles area) side
  side_ends side last up end = lists_same (IsUpTo tiles area last) (IsOnSide tiles area) side up.lists (λ id has. has.0)
      (λ id on. (
        on,
        by_lt_z (tile_at tiles last).area.ylo (tile_at tiles id).area.ylo
            (λ later.
            let c = on.owns.covers in
            let to = on.to in
            let e = one_on_side last id up.on on (omega (arith, ints)) (omega (arith, ints)) in
            absurd (omega (arith, ints, ap (λ (v : ℕ). (tile_at tiles v).area.ylo) e)))
            (λ no_later. no_later),
      ))

-- a follower whose lowest row in the area is at y or above
abbrev IsFrom : Tiles → Rect → ℕ → ℤ → ℕ → Type 0
IsFrom tiles area id y b = IsFollower tiles area id b × (y ≤ℤ low_row tiles area b)

-- The list has the followers from y on. Below y, where the tile and the area have more rows, the next tile stands.
pub record AreFollowersFrom (tiles : Tiles) (area : Rect) (id : ℕ) (y : ℤ) (next : ℕ) (more : List ℕ) : Type 0 where
  pub lists : Lists (IsFrom tiles area id y) more
  pub top : y ≤ℤ (tile_at tiles id).area.yhi
  pub beside : low_row tiles area id <ℤ y → Owns tiles next (square_at (tile_at tiles id).area.xhi (y -ℤ pos 1))

-- followers from y on are added to a list
pub record AddsFrom (tiles : Tiles) (area : Rect) (id : ℕ) (y : ℤ) (next : ℕ) (old new : List ℕ) : Type 0 where
  pub more : List ℕ
  pub from : AreFollowersFrom tiles area id y next more
  pub joined : new ≡ old ++ more

module _ (tiles : Tiles) (area : Rect) (partition : IsPartition tiles) (stitches : HasStitches tiles) (near : IsNear area) (id : ℕ)
    (meets : Meets tiles area id) where
  abbrev low : ℤ
  low = low_row tiles area id

  taken : IsTaken tiles id
  taken = owner_taken tiles id meets.square meets.owns

  -- a follower begins where the tile ends, and not below the tile
  follower_begins : (b : ℕ) → IsFollower tiles area id b → (tile_at tiles b).area.xlo ≡ (tile_at tiles id).area.xhi
  follower_begins b follows =
      let c = follows.beside.covers in
      let d = follows.meets.owns.covers in
      let e = follows.meets.covers in
      by_lt_z (tile_at tiles b).area.xlo (tile_at tiles id).area.xhi
      (λ less.
      let square = square_at (tile_at tiles b).area.xlo (low_row tiles area b) in
      let same = partition.one id b square
      (record { covers = record { right_of_xlo = omega (arith, ints); left_of_xhi = less; above_ylo = c.above_ylo; below_yhi = c.below_yhi } })
      (record {
        covers = record {
          right_of_xlo = omega (arith, ints);
          left_of_xhi = omega (arith, ints);
          above_ylo = omega
              (arith, ints, clamps);
          below_yhi = omega (arith, ints, clamps);
        };
      }) in
      let begin : (tile_at tiles id).area.xlo ≡ (tile_at tiles b).area.xlo = ap (λ (v : ℕ). (tile_at tiles v).area.xlo) same in
      absurd (omega (arith, ints)))
      (λ no_less. omega (arith, ints))

  follower_low : (b : ℕ) → IsFollower tiles area id b → low ≤ℤ low_row tiles area b
  follower_low b follows = let c = follows.beside.covers in omega (arith, ints, clamps)

  -- the tile beside it in one of its rows in the area follows it, if it begins there
  follows_at : (b : ℕ) (h : ℤ) → (tile_at tiles id).area.xhi <ℤ area.xhi → h <ℤ (tile_at tiles id).area.yhi
      → Owns tiles b (square_at (tile_at tiles id).area.xhi h)
      → low ≤ℤ h → low ≤ℤ low_row tiles area b → low_row tiles area b <ℤ area.yhi → IsFollower tiles area id b
  follows_at b h inside high owns from at_low under =
      let c = owns.covers in
      let m = meets.owns.covers in
      let n = meets.covers in
      let begins : (tile_at tiles b).area.xlo ≡ (tile_at tiles id).area.xhi = beside_right tiles id b h partition taken
      (omega (arith, ints, clamps)) high owns in
      record {
        meets = record {
          square = square_at (tile_at tiles id).area.xhi (low_row tiles area b);
          owns = record {
            covers = record {
              right_of_xlo = c.right_of_xlo;
              left_of_xhi = c.left_of_xhi;
              above_ylo = omega
                  (arith, ints, clamps);
              below_yhi = omega (arith, ints, clamps);
            };
          };
          covers = record { right_of_xlo = omega (arith, ints); left_of_xhi = inside; above_ylo = omega (arith, ints, clamps); below_yhi = under };
        };
        later = omega (arith, ints);
        beside = record {
          covers = record {
            right_of_xlo = omega (arith, ints);
            left_of_xhi = omega (arith, ints);
            above_ylo = omega (arith, ints, clamps);
            below_yhi = omega (arith, ints, clamps);
          };
        };
      }

  -- above the lower of the ends of the tile and the area there are none
  pub followers_begin : (y : ℤ) (next : ℕ) → y ≡ int_min (tile_at tiles id).area.yhi area.yhi
      → Owns tiles next (square_at (tile_at tiles id).area.xhi (y -ℤ pos 1))
      → AreFollowersFrom tiles area id y next []
  followers_begin y next at owns = record {
    lists = Lists-none (IsFrom tiles area id y) (λ b has.
        let c = has.0.beside.covers in
        let d = has.0.meets.owns.covers in
        let e = has.0.meets.covers in
        let high = has.1 in
        omega (arith, ints, clamps, at));
    top = omega (arith, ints, clamps, at);
    beside = λ more. owns;
  }

  module _ (inside : (tile_at tiles id).area.xhi <ℤ area.xhi) (y : ℤ) (next : ℕ) (more : List ℕ) (from : AreFollowersFrom tiles area id y next more)
      (left : low <ℤ y) where
    owns : Owns tiles next (square_at (tile_at tiles id).area.xhi (y -ℤ pos 1))
    owns = from.beside left

    begins : (tile_at tiles next).area.xlo ≡ (tile_at tiles id).area.xhi
    begins =
        let top = from.top in
        beside_right tiles id next (y -ℤ pos 1) partition taken (omega (arith, ints, clamps)) (omega (arith, ints)) owns

    pub next_taken : IsTaken tiles next
    next_taken = owner_taken tiles next (square_at (tile_at tiles id).area.xhi (y -ℤ pos 1)) owns

    pub falls : low_row tiles area next <ℤ y
    falls = let c = owns.covers in omega (arith, ints, clamps)

    -- a follower from the lowest row of the next tile on stands in the list, or is the next tile
    cases : (b : ℕ) → IsFrom tiles area id (low_row tiles area next) b → IsFrom tiles area id y b ⊎ (next ≡ b)
    cases b has = by_lt_z (low_row tiles area b) y
        (λ under. inr (
        let c = owns.covers in
        let d = has.0.meets.owns.covers in
        let e = has.0.meets.covers in
        let at = follower_begins b has.0 in
        let bound = has.1 in
        partition.one next b (square_at (tile_at tiles id).area.xhi (low_row tiles area b))
        (record {
          covers = record {
            right_of_xlo = c.right_of_xlo;
            left_of_xhi = c.left_of_xhi;
            above_ylo = omega (arith, ints, clamps);
            below_yhi = omega
                (arith, ints, clamps);
          };
        })
        (record {
          covers = record {
            right_of_xlo = omega (arith, ints);
            left_of_xhi = omega (arith, ints);
            above_ylo = omega
                (arith, ints, clamps);
            below_yhi = omega (arith, ints, clamps);
          };
        })))
        (λ over. inl (has.0, over))

    weaker : (b : ℕ) → IsFrom tiles area id y b → IsFrom tiles area id (low_row tiles area next) b
    weaker b has = (has.0, (let bound = has.1 in let less = falls in omega (arith, ints)))

    below : low <ℤ low_row tiles area next → Owns tiles (tile_at tiles next).below (square_at (tile_at tiles id).area.xhi (low_row tiles area next -ℤ pos 1))
    below over =
        let edge = near.ylo.0 in
        let at : (tile_at tiles next).area.ylo ≡ low_row tiles area next = omega (arith, ints, clamps) in
        let under = next_below tiles next partition stitches next_taken (omega (arith, ints, clamps)) in
        subst (λ (x : ℤ). Owns tiles (tile_at tiles next).below (square_at x (low_row tiles area next -ℤ pos 1))) begins
        (subst (λ (h : ℤ). Owns tiles (tile_at tiles next).below (square_at (tile_at tiles next).area.xlo (h -ℤ pos 1))) at under)

    still_top : low_row tiles area next ≤ℤ (tile_at tiles id).area.yhi
    still_top = let top = from.top in let less = falls in omega (arith, ints)

    pub followers_go_on : low ≤ℤ low_row tiles area next → low_row tiles area next <ℤ area.yhi
        → AreFollowersFrom tiles area id (low_row tiles area next) (tile_at tiles next).below (more ++ next ∷ [])
    followers_go_on at_low under = record {
      lists = lists_push (IsFrom tiles area id y) (IsFrom tiles area id (low_row tiles area next)) more next from.lists weaker
          (follows_at next (y -ℤ pos 1) inside (let top = from.top in omega (arith, ints)) owns (omega (arith, ints)) at_low under, omega (arith, ints))
          (λ has. let bound = has.1 in let less = falls in omega (arith, ints)) cases;
      top = still_top;
      beside = below;
    }

    pub followers_pass : (low ≤ℤ low_row tiles area next → low_row tiles area next <ℤ area.yhi → ⊥)
        → AreFollowersFrom tiles area id (low_row tiles area next) (tile_at tiles next).below more
    followers_pass out = record {
      lists = lists_same (IsFrom tiles area id y) (IsFrom tiles area id (low_row tiles area next)) more from.lists weaker
          (λ b has. elim (cases b has) [
            | inl had ↦ had
            | inr e ↦ (
                let follows = subst (IsFollower tiles area id) (sym e) has.0 in
                let c = follows.meets.owns.covers in
                let d = follows.meets.covers in
                absurd (out (follower_low next follows) (omega (arith, ints, clamps))))
          ]);
      top = still_top;
      beside = below;
    }

  pub followers_end : (y : ℤ) (next : ℕ) (more : List ℕ) → AreFollowersFrom tiles area id y next more → y ≤ℤ low → Lists (IsFollower tiles area id) more
  followers_end y next more from end =
      lists_same (IsFrom tiles area id y) (IsFollower tiles area id) more from.lists (λ b has. has.0)
      (λ b follows. (follows, (let bound = follower_low b follows in omega (arith, ints))))

  -- a tile that ends where the area ends, or later, has none
  pub no_followers : area.xhi ≤ℤ (tile_at tiles id).area.xhi → Lists (IsFollower tiles area id) []
  no_followers past = Lists-none (IsFollower tiles area id) (λ b follows.
      let begin = follower_begins b follows in
      let c = follows.meets.owns.covers in
      let d = follows.meets.covers in
      omega (arith, ints))

-- the walk down the right side of a tile, with what it adds to a list
module _ {tiles : Tiles} {area : Rect} (partition : IsPartition tiles) (stitches : HasStitches tiles) (near : IsNear area) {id : ℕ}
    (meets : Meets tiles area id) (inside : (tile_at tiles id).area.xhi <ℤ area.xhi) {old : List ℕ} where
  pub adding_begins : (y : ℤ) (next : ℕ) → y ≡ int_min (tile_at tiles id).area.yhi area.yhi
      → Owns tiles next (square_at (tile_at tiles id).area.xhi (y -ℤ pos 1))
      → AddsFrom tiles area id y next old old
  adding_begins y next at owns = record {
    more = [];
    from = followers_begin tiles area partition stitches near id meets y next at owns;
    joined = sym (append-nil old);
  }

  module _ {y h : ℤ} {next below : ℕ} {found : List ℕ} (adds : AddsFrom tiles area id y next old found) (left : low_row tiles area id <ℤ y)
      (at : h ≡ low_row tiles area next) (is : below ≡ (tile_at tiles next).below) where
    step : (more : List ℕ) → AreFollowersFrom tiles area id (low_row tiles area next) (tile_at tiles next).below more
        → AreFollowersFrom tiles area id h below more
    step more from = subst (λ (v : ℕ). AreFollowersFrom tiles area id h v more) (sym is)
        (subst (λ (z : ℤ). AreFollowersFrom tiles area id z (tile_at tiles next).below more) (sym at) from)

    pub adding_goes_on : (new : List ℕ) → new ≡ found ++ next ∷ [] → low_row tiles area id ≤ℤ h → h <ℤ area.yhi → AddsFrom tiles area id h below old new
    adding_goes_on new pushed at_low under = record {
      more = adds.more ++ next ∷ [];
      from = step (adds.more ++ next ∷ []) (followers_go_on tiles area partition stitches near id meets inside y next adds.more adds.from left
          (omega (arith, ints)) (omega (arith, ints)));
      joined = pushed ∙ ap (λ (v : List ℕ). v ++ next ∷ []) adds.joined ∙ append_assoc old adds.more (next ∷ []);
    }

    pub adding_passes : (low_row tiles area id ≤ℤ h → h <ℤ area.yhi → ⊥) → AddsFrom tiles area id h below old found
    adding_passes out = record {
      more = adds.more;
      from = step adds.more (followers_pass tiles area partition stitches near id meets inside y next adds.more adds.from left
          (λ at_low under. out (omega (arith, ints)) (omega (arith, ints))));
      joined = adds.joined;
    }

    pub adding_falls : extent (low_row tiles area id) h < extent (low_row tiles area id) y
    adding_falls =
        let less = falls tiles area partition stitches near id meets inside y next adds.more adds.from left in
        extent_falls_down (low_row tiles area id) h y (omega (arith, ints)) left

  pub adding_ends : {y : ℤ} {next : ℕ} {found : List ℕ} → AddsFrom tiles area id y next old found → y ≤ℤ low_row tiles area id
      → AddsAll (IsFollower tiles area id) old found
  adding_ends {y = y} {next = next} adds end = record {
    more = adds.more;
    lists = followers_end tiles area partition stitches near id meets y next adds.more adds.from end;
    joined = adds.joined;
  }
