-- What two tiles share.
use Rattle.flood_nodes.proofs.Common.{◌≡◌, ◌≢◌, ℕ, ◌<◌, ℤ, pos, ◌+ℤ◌, ◌*ℤ◌, Bool, true, false, cond, eqb, List, length, refl, ◌∙◌, ap, arith, All}
use Rattle.flood_nodes.proofs.Common.{nat_tests, ints, IsProper, shared_length, shared_length-comm, RegionTile, Lists, sum_on, Lists-iff, Contact}
use Rattle.flood_nodes.proofs.Common.{tile_at, no_tile, indices_of, shared_by, IsTileContact}
use Rattle.std.proofs.Common.{◌≤ℤ◌}
use Rattle.rect_contacts.proofs.Shared.{shared_length-same, shared_length-not_negative}
use Rattle.rect_contacts.proofs.BothWays.{IsShare, Lists-below, shares_both_ways}

pub one_plane : (m n : ℕ) → m ≡ n → eqb m n ≡ true
one_plane m n same = grind (arith, nat_tests)

pub two_planes : (m n : ℕ) → m ≢ n → eqb m n ≡ false
two_planes m n other = grind (arith, nat_tests)

pub eqb-comm : (m n : ℕ) → eqb m n ≡ eqb n m
eqb-comm m n = grind (arith, nat_tests)

cond_zero : (test : Bool) (v : ℤ) → v ≡ pos 0 → cond test v (pos 0) ≡ pos 0
cond_zero true v none = none
cond_zero false v none = refl

-- what is not negative, or nothing, is not negative
pub cond_not_negative : (test : Bool) (v : ℤ) → pos 0 ≤ℤ v → pos 0 ≤ℤ cond test v (pos 0)
cond_not_negative true v h = h
cond_not_negative false v h = omega (arith, ints)

pub shared_by-same : (a : RegionTile) → IsProper a.area → shared_by a a ≡ pos 0
shared_by-same a proper = cond_zero (eqb a.plane a.plane) (shared_length a.area a.area) (shared_length-same a.area proper)

shared_by-not_negative : (a b : RegionTile) → pos 0 ≤ℤ shared_by a b
shared_by-not_negative a b = cond_not_negative (eqb a.plane b.plane) (shared_length a.area b.area) (shared_length-not_negative a.area b.area)

shared_by-comm : (a b : RegionTile) → shared_by a b ≡ shared_by b a
shared_by-comm a b = ap (λ (t : Bool). cond t (shared_length a.area b.area) (pos 0)) (eqb-comm a.plane b.plane)
    ∙ ap (λ (v : ℤ). cond (eqb b.plane a.plane) v (pos 0)) (shared_length-comm a.area b.area)

-- the places of a list
pub Lists-indices_of : (tiles : List RegionTile) → Lists (λ k. k < length tiles) (indices_of tiles)
Lists-indices_of tiles = Lists-below (length tiles)

-- each contact counts for both of its tiles
pub contacts_both_ways : (tiles : List RegionTile) (contacts : List Contact) (weight : ℕ → ℕ → ℤ) → All (λ (tile : RegionTile). IsProper tile.area) tiles
    → Lists (IsTileContact tiles) contacts
    → sum_on (λ c. (weight c.first c.second +ℤ weight c.second c.first) *ℤ c.length) contacts
    ≡ sum_on (λ i. sum_on (λ j. weight i j *ℤ shared_by (tile_at tiles i) (tile_at tiles j)) (indices_of tiles)) (indices_of tiles)
contacts_both_ways tiles contacts weight proper lists =
    let shared_at : ℕ → ℕ → ℤ = λ i j. shared_by (tile_at tiles i) (tile_at tiles j) in
    shares_both_ways (length tiles) shared_at contacts weight
    (record {
      both = λ i j. shared_by-comm (tile_at tiles i) (tile_at tiles j);
      not_negative = λ i j. shared_by-not_negative (tile_at tiles i) (tile_at tiles j);
      alone = λ i below. shared_by-same (tile_at tiles i) (proper i no_tile below);
    })
    (Lists-iff (IsTileContact tiles) (IsShare (length tiles) shared_at) contacts
    (λ c e. record { in_order = e.in_order; in_list = e.in_list; length_is = e.length_is; not_none = e.not_none })
    (λ c e. record { in_order = e.in_order; in_list = e.in_list; length_is = e.length_is; not_none = e.not_none }) lists)
