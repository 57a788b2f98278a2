-- The sets that tiles make, part by part and together, by their members.
use Rattle.offences.proofs.Common.{◌≡◌, inl, inr, ◌<◌, ◌==◌, ℕ, Bool, bit_or, cond, List, [], ◌∷◌, length, refl, sym, ap, subst, ◌∙◌, arith, Some}
use Rattle.offences.proofs.Common.{◌&&◌, slice_get, bit_at, range_with_len, eq-eqb, eqb-true, and_parts, and_from, cases_Bool, slice_get_within}
use Rattle.offences.proofs.Common.{slice_get-get_or, In, In-map, In-map_source, Covers, is_covered, Covers-is_covered, is_covered-Covers, Place}
use Rattle.offences.proofs.Common.{SetTile, PartSum, SetLayout, union_of, tile_at, set_if, member_set, listed_set, all_sets, tile_part, tile_parts}
use Rattle.std.proofs.lemmas.List.FromFn.{get_or-map-range_with_len, length-map-range_with_len}
use Rattle.std.proofs.lemmas.Option.{get_or_from_slice_get}
use Rattle.tech_model.proofs.SetLaws.{or_bit_cases, or_bit_left, or_bit_right}
use Rattle.tech_model.proofs.WellFormedLaws.{In-range_with_len, range_bounds}
use Rattle.offences.specs.SetTiles.{set_of_set_tile}
use Rattle.offences.proofs.UnionLaws.{no_part, set_if-bit, set_if-kept}

-- A thing of the list has this part in its set.
pub record HasBit {X : Type 0} (f : X → ℕ) (xs : List X) (i : ℕ) : Type 0 where
  pub thing : X
  pub listed : In thing xs
  pub bit : bit_at (f thing) i ≡ 1

-- a union over a list, by recursion
module _ {X : Type 0} (F : List X → ℕ) (f : X → ℕ) (none : F [] ≡ 0) (more : (x : X) (xs : List X) → F (x ∷ xs) ≡ bit_or (f x) (F xs)) where
  -- a part of the union is one of something in the list
  pub union_bit : (xs : List X) (i : ℕ) → bit_at (F xs) i ≡ 1 → HasBit f xs i
  union_bit [] i bit = absurd (no_part i (subst (λ (s : ℕ). bit_at s i ≡ 1) none bit))
  union_bit (x ∷ xs) i bit = elim (or_bit_cases (f x) (F xs) i (subst (λ (s : ℕ). bit_at s i ≡ 1) (more x xs) bit)) [
    | inl here ↦ record { thing = x; listed = inl refl; bit = here }
    | inr later ↦ (let rest = union_bit xs i later in record { thing = rest.thing; listed = inr rest.listed; bit = rest.bit })
  ]

  -- and each part of something in the list is one of the union
  pub bit_kept : (xs : List X) (i : ℕ) (x : X) → In x xs → bit_at (f x) i ≡ 1 → bit_at (F xs) i ≡ 1
  bit_kept [] i x h bit = absurd h
  bit_kept (y ∷ xs) i x (inl e) bit =
      subst (λ (s : ℕ). bit_at s i ≡ 1) (sym (more y xs)) (or_bit_left (f y) (F xs) i (subst (λ (z : X). bit_at (f z) i ≡ 1) (sym e) bit))
  bit_kept (y ∷ xs) i x (inr h) bit =
      subst (λ (s : ℕ). bit_at s i ≡ 1) (sym (more y xs)) (or_bit_right (f y) (F xs) i (bit_kept xs i x h bit))

-- A tile of the part covers the place, and has this bit in its set.
pub record HasTile (tiles : List SetTile) (plane part : ℕ) (place : Place) (i : ℕ) : Type 0 where
  pub tile : SetTile
  pub listed : In tile tiles
  pub of_part : tile.part ≡ part
  pub same_plane : place.plane ≡ plane
  pub covers : Covers tile.area place.square
  pub bit : bit_at tile.set.0 i ≡ 1

set_of_set_tile-bit : (tile : SetTile) (plane part : ℕ) (place : Place) (i : ℕ) → bit_at (set_of_set_tile plane part tile place) i ≡ 1
    → (tile.part ≡ part) × (place.plane ≡ plane) × Covers tile.area place.square × (bit_at tile.set.0 i ≡ 1)
set_of_set_tile-bit tile plane part place i bit =
    let test = tile.part == part && place.plane == plane && is_covered tile.area place.square in
    let P : Bool → Type 0 = λ b. bit_at (cond b tile.set.0 0) i ≡ 1 in
    elim (cases_Bool test) [
      | inl passes ↦ (
          let outer = and_parts (tile.part == part && place.plane == plane) (is_covered tile.area place.square) passes in
          let inner = and_parts (tile.part == part) (place.plane == plane) outer.0 in (
            eqb-true tile.part part inner.0,
            eqb-true place.plane plane inner.1,
            Covers-is_covered tile.area place.square outer.1,
            subst P passes bit,
          ))
      | inr fails ↦ absurd (no_part i (subst P fails bit))
    ]

set_of_set_tile-kept : (tile : SetTile) (plane part : ℕ) (place : Place) (i : ℕ) → tile.part ≡ part → place.plane ≡ plane → Covers tile.area place.square
    → bit_at tile.set.0 i ≡ 1 → bit_at (set_of_set_tile plane part tile place) i ≡ 1
set_of_set_tile-kept tile plane part place i e p covers bit =
    let P : Bool → Type 0 = λ b. bit_at (cond b tile.set.0 0) i ≡ 1 in
    subst P (sym (and_from (tile.part == part && place.plane == plane) (is_covered tile.area place.square)
    (and_from (tile.part == part) (place.plane == plane) (eq-eqb tile.part part e) (eq-eqb place.plane plane p))
    (is_covered-Covers tile.area place.square covers))) bit

module _ (tiles : List SetTile) (plane part : ℕ) (place : Place) where
  -- a bit of a part is one of a tile
  pub part_bit : (i : ℕ) → bit_at (tile_part tiles plane part place) i ≡ 1 → HasTile tiles plane part place i
  part_bit i bit =
      let has = union_bit (λ ts. tile_part ts plane part place) (λ tile. set_of_set_tile plane part tile place) refl (λ t ts. refl) tiles i bit in
      let parts = set_of_set_tile-bit has.thing plane part place i has.bit in
      record { tile = has.thing; listed = has.listed; of_part = parts.0; same_plane = parts.1; covers = parts.2; bit = parts.3 }

  -- and each bit of a tile is one of the part
  pub part_kept : (i : ℕ) → HasTile tiles plane part place i → bit_at (tile_part tiles plane part place) i ≡ 1
  part_kept i has =
      bit_kept (λ ts. tile_part ts plane part place) (λ tile. set_of_set_tile plane part tile place) refl (λ t ts. refl) tiles i has.tile has.listed
      (set_of_set_tile-kept has.tile plane part place i has.of_part has.same_plane has.covers has.bit)

-- A member of the part has this bit in its set.
pub record HasMemberBit (tiles : List SetTile) (part : ℕ) (members : List ℕ) (i : ℕ) : Type 0 where
  pub member : ℕ
  pub listed : In member members
  pub of_part : (tile_at tiles member).part ≡ part
  pub bit : bit_at (tile_at tiles member).set.0 i ≡ 1

module _ (tiles : List SetTile) (part : ℕ) where
  member_own : ℕ → ℕ
  member_own member = set_if part (tile_at tiles member).part (tile_at tiles member).set.0

  -- a bit of what members make is one of a member
  pub member_bit : (members : List ℕ) (i : ℕ) → bit_at (member_set tiles part members) i ≡ 1 → HasMemberBit tiles part members i
  unfolding member_own
  member_bit members i bit =
      let has = union_bit (member_set tiles part) member_own refl (λ m ms. refl) members i bit in
      let parts = set_if-bit part (tile_at tiles has.thing).part (tile_at tiles has.thing).set.0 i has.bit in
      record { member = has.thing; listed = has.listed; of_part = parts.0; bit = parts.1 }

  -- and each bit of a member is one of what they make
  pub member_kept : (members : List ℕ) (i : ℕ) → HasMemberBit tiles part members i → bit_at (member_set tiles part members) i ≡ 1
  unfolding member_own
  member_kept members i has =
      bit_kept (member_set tiles part) member_own refl (λ m ms. refl) members i has.member has.listed
      (set_if-kept part (tile_at tiles has.member).part (tile_at tiles has.member).set.0 i has.of_part has.bit)

-- a bit of what is listed for a part is one of a sum for it
pub listed_bit : (part : ℕ) (sums : List PartSum) (i : ℕ) → bit_at (listed_set part sums) i ≡ 1
    → (sum : PartSum) × (In sum sums × (sum.part ≡ part) × (bit_at sum.set.0 i ≡ 1))
listed_bit part sums i bit =
    let has = union_bit (listed_set part) (λ sum. set_if part sum.part sum.set.0) refl (λ s ss. refl) sums i bit in
    let parts = set_if-bit part has.thing.part has.thing.set.0 i has.bit in
    (has.thing, (has.listed, parts.0, parts.1))

-- and each bit of such a sum is listed
pub listed_kept : (part : ℕ) (sums : List PartSum) (i : ℕ) (sum : PartSum) → In sum sums → sum.part ≡ part → bit_at sum.set.0 i ≡ 1
    → bit_at (listed_set part sums) i ≡ 1
listed_kept part sums i sum h e bit =
    bit_kept (listed_set part) (λ sum. set_if part sum.part sum.set.0) refl (λ s ss. refl) sums i sum h (set_if-kept part sum.part sum.set.0 i e bit)

-- a bit of all sums is one of a sum
pub all_bit : (sums : List PartSum) (i : ℕ) → bit_at (all_sets sums) i ≡ 1 → HasBit (λ (sum : PartSum). sum.set.0) sums i
all_bit sums i bit = union_bit all_sets (λ sum. sum.set.0) refl (λ s ss. refl) sums i bit

-- and each bit of a sum is one of all
pub all_kept : (sums : List PartSum) (i : ℕ) (sum : PartSum) → In sum sums → bit_at sum.set.0 i ≡ 1 → bit_at (all_sets sums) i ≡ 1
all_kept sums i sum h bit = bit_kept all_sets (λ sum. sum.set.0) refl (λ s ss. refl) sums i sum h bit

module _ (tiles : List SetTile) (plane count : ℕ) where
  -- there are so many parts
  pub length-parts : length (tile_parts tiles plane count) ≡ count
  length-parts = length-map-range_with_len (tile_part tiles plane) 0 count

  -- what stands at a position is the part with this number
  pub part_at : (position : ℕ) (part : SetLayout) → slice_get (tile_parts tiles plane count) position ≡ Some part
      → (position < count) × (part ≡ tile_part tiles plane position)
  part_at position part there =
      let within = slice_get_within (tile_parts tiles plane count) position part there in
      let below : position < count = omega (arith, within, length-parts) in (
        below,
        sym (get_or_from_slice_get (tile_parts tiles plane count) position part part there)
            ∙ get_or-map-range_with_len (tile_part tiles plane) 0 count position position part below (omega arith),
      )

  -- and each part with a number below the count stands at its position
  pub at_part : (position : ℕ) → position < count → slice_get (tile_parts tiles plane count) position ≡ Some (tile_part tiles plane position)
  at_part position below =
      let none : SetLayout = λ place. 0 in
      slice_get-get_or (tile_parts tiles plane count) position none (omega (arith, length-parts))
      ∙ ap Some (get_or-map-range_with_len (tile_part tiles plane) 0 count position position none below (omega arith))

  -- a bit of all parts is one of a part
  pub parts_bit : (place : Place) (i : ℕ) → bit_at (union_of (tile_parts tiles plane count) place) i ≡ 1
      → (position : ℕ) × ((position < count) × (bit_at (tile_part tiles plane position place) i ≡ 1))
  parts_bit place i bit =
      let has = union_bit (λ parts. union_of parts place) (λ part. part place) refl (λ p ps. refl) (tile_parts tiles plane count) i bit in
      let source = In-map_source (tile_part tiles plane) has.thing (range_with_len 0 count) has.listed in
      let bounds = range_bounds 0 count source.0 source.1.0 in
      (source.0, (omega (arith, bounds.1), subst (λ (part : SetLayout). bit_at (part place) i ≡ 1) (sym source.1.1) has.bit))

  -- and each bit of a part is one of all
  pub parts_kept : (place : Place) (i position : ℕ) → position < count → bit_at (tile_part tiles plane position place) i ≡ 1
      → bit_at (union_of (tile_parts tiles plane count) place) i ≡ 1
  parts_kept place i position below bit =
      bit_kept (λ parts. union_of parts place) (λ part. part place) refl (λ p ps. refl) (tile_parts tiles plane count) i
      (tile_part tiles plane position)
      (In-map (tile_part tiles plane) position (range_with_len 0 count) (In-range_with_len 0 count position (omega arith) (omega arith))) bit
