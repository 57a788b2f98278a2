-- What the members of stacks make is what the parts have there.
use Rattle.offences.proofs.Common.{◌≡◌, ◌≢◌, ◌<◌, ◌<ℤ◌, ◌≤ℤ◌, pos, ℕ, List, map, refl, sym, ap, subst, ◌∙◌, arith, AllPairs, Some, None, Option}
use Rattle.offences.proofs.Common.{bit_at, option_map, ints, In, In-map, In-map_source, Pairwise-from_AllPairs, AllPairs-from_Pairwise, Pairwise-map}
use Rattle.offences.proofs.Common.{All-In, Square, Rect, IsNear, AreDisjoint, corner_of, corner_covers, Covers, IsProper, Stack, IsStack, AreStacks}
use Rattle.offences.proofs.Common.{RawTech, type_number, joined, SetTile, PartSum, PartKind, TypedStack, number_of, SetLayout, union_of, HaveTypes}
use Rattle.offences.proofs.Common.{tile_at, member_set, listed_set, all_sets, HaveSetsOf, AreTilesOfParts, tile_part, tile_parts, typed_stack_areas}
use Rattle.offences.proofs.Common.{kind_of, kind_in, AreByPart, on_plane, StandsFor, StandForAll, IsTypedStack, AreTypedStacks}
use Rattle.std.proofs.Common.{◌-ℤ◌}
use Rattle.tech_model.proofs.JoinedLaws.{joined-found}
use Rattle.offences.proofs.KindLaws.{kinds_of_sums, kind_in-listed}
use Rattle.offences.proofs.StackLaws.{tile_areas, In-tile_at, covers_tile, tile_covers, some_member, stack_areas_apart}
use Rattle.offences.proofs.TileLaws.{part_bit, part_kept, member_bit, member_kept, listed_bit, listed_kept, all_bit, all_kept, length-parts}
use Rattle.offences.proofs.TileLaws.{part_at, at_part, parts_bit, parts_kept}
use Rattle.offences.proofs.UnionLaws.{same_sets, no_part}

-- a rectangle each of whose squares lies in a near one is near
near_inside : (inner outer : Rect) → IsProper inner → IsNear outer → ((square : Square) → Covers inner square → Covers outer square) → IsNear inner
near_inside inner outer proper near inside =
    let wide : inner.xlo <ℤ inner.xhi = proper.wide in
    let high : inner.ylo <ℤ inner.yhi = proper.high in
    let low = inside (corner_of inner) (corner_covers inner (corner_of inner) proper refl refl) in
    let top = inside (record { x = inner.xhi -ℤ pos 1; y = inner.yhi -ℤ pos 1 }) (record {
      right_of_xlo = omega (arith, ints);
      left_of_xhi = omega (arith, ints);
      above_ylo = omega (arith, ints);
      below_yhi = omega (arith, ints);
    }) in
    let a : outer.xlo ≤ℤ inner.xlo = low.right_of_xlo in
    let b : inner.xlo <ℤ outer.xhi = low.left_of_xhi in
    let c : outer.ylo ≤ℤ inner.ylo = low.above_ylo in
    let d : inner.ylo <ℤ outer.yhi = low.below_yhi in
    let e : (inner.xhi -ℤ pos 1) <ℤ outer.xhi = top.left_of_xhi in
    let f : (inner.yhi -ℤ pos 1) <ℤ outer.yhi = top.below_yhi in
    let p = near.xlo.0 in
    let q = near.xhi.1 in
    let r = near.ylo.0 in
    let s = near.yhi.1 in
    record {
      xlo = (omega (arith, ints, a, p), omega (arith, ints, b, q));
      ylo = (omega (arith, ints, c, r), omega (arith, ints, d, s));
      xhi = (omega (arith, ints, wide, a, p), omega (arith, ints, e, q));
      yhi = (omega (arith, ints, high, c, r), omega (arith, ints, f, s));
    }

numbers_back : (found : Option ℕ) → option_map number_of (option_map type_number found) ≡ found
numbers_back None = refl
numbers_back (Some kind) = refl

-- the type that is space has the empty set
joined-space : (raw : RawTech) (plane set : ℕ) → joined raw plane set ≡ Some 0 → set ≡ 0
joined-space raw plane set e = sym (joined-found raw plane set 0 e).0

module _ (raw : RawTech) (plane : ℕ) (tiles : List SetTile) where
  module _ (stack : Stack) (is : IsStack (tile_areas tiles) stack) where
    -- a tile that covers a square of the stack is a member
    tile_is_member : (tile : SetTile) (square : Square) → Covers stack.area square → In tile tiles → Covers tile.area square
        → (member : ℕ) × (In member stack.members.items × (tile_at tiles member ≡ tile))
    tile_is_member tile square covers h inside =
        let at = tile_covers tiles tile square h inside in
        (at.0, (is.others at.0 square covers at.1.1, at.1.0))

    -- the tile of a member covers each square of the stack
    member_covers : (member : ℕ) → In member stack.members.items → (square : Square) → Covers stack.area square
        → In (tile_at tiles member) tiles × Covers (tile_at tiles member).area square
    member_covers member h square covers =
        let at = covers_tile tiles member square (is.members member h square covers) in
        (In-tile_at tiles member at.0, at.1)

    -- a part has there what its members make
    part_is : (part : ℕ) (square : Square) → Covers stack.area square
        → tile_part tiles plane part (on_plane plane square) ≡ member_set tiles part stack.members.items
    part_is part square covers = same_sets (tile_part tiles plane part (on_plane plane square)) (member_set tiles part stack.members.items)
        (λ i bit.
        let has = part_bit tiles plane part (on_plane plane square) i bit in
        let member = tile_is_member has.tile square covers has.listed has.covers in
        member_kept tiles part stack.members.items i (record {
          member = member.0;
          listed = member.1.0;
          of_part = ap (λ (t : SetTile). t.part) member.1.1 ∙ has.of_part;
          bit = subst (λ (t : SetTile). bit_at t.set.0 i ≡ 1) (sym member.1.1) has.bit;
        }))
        (λ i bit.
        let has = member_bit tiles part stack.members.items i bit in
        let at = member_covers has.member has.listed square covers in
        part_kept tiles plane part (on_plane plane square) i (record {
          tile = tile_at tiles has.member;
          listed = at.0;
          of_part = has.of_part;
          same_plane = refl;
          covers = at.1;
          bit = has.bit;
        }))

    module _ (count : ℕ) (of_parts : AreTilesOfParts count tiles) (sums : List PartSum) (are : HaveSetsOf tiles stack.members.items sums) where
      sum_below : (sum : PartSum) → In sum sums → sum.part < count
      sum_below sum h =
          let has = are.parts sum h in
          let at = member_covers has.member has.listed (corner_of stack.area) (corner_covers stack.area (corner_of stack.area) is.proper refl refl) in
          subst (λ (p : ℕ). p < count) has.is (All-In (λ (tile : SetTile). (tile.part < count) × IsNear tile.area) tiles
          (tile_at tiles has.member) of_parts at.0).0

      part_sum : (part : ℕ) (square : Square) → Covers stack.area square → tile_part tiles plane part (on_plane plane square) ≡ listed_set part sums
      part_sum part square covers = part_is part square covers ∙ sym (are.sets part)

      -- all parts have there what all sums make
      union_is : (square : Square) → Covers stack.area square → union_of (tile_parts tiles plane count) (on_plane plane square) ≡ all_sets sums
      union_is square covers = same_sets (union_of (tile_parts tiles plane count) (on_plane plane square)) (all_sets sums)
          (λ i bit.
          let has = parts_bit tiles plane count (on_plane plane square) i bit in
          let sum = listed_bit has.0 sums i (subst (λ (s : ℕ). bit_at s i ≡ 1) (part_sum has.0 square covers) has.1.1) in
          all_kept sums i sum.0 sum.1.0 sum.1.2)
          (λ i bit.
          let has = all_bit sums i bit in
          let listed = listed_kept has.thing.part sums i has.thing has.listed refl has.bit in
          parts_kept tiles plane count (on_plane plane square) i has.thing.part (sum_below has.thing has.listed)
          (subst (λ (s : ℕ). bit_at s i ≡ 1) (sym (part_sum has.thing.part square covers)) listed))

      module _ (types : HaveTypes raw (tile_parts tiles plane count)) where
        -- the types of the parts are those of the sums
        kind_is : (square : Square) → Covers stack.area square → (part : ℕ) → part < count
            → joined raw plane (listed_set part sums) ≡ Some (kind_in (map (kind_of raw plane) sums) part)
        kind_is square covers part below = kinds_of_sums raw plane sums are.ordered part
            (λ none. types part (tile_part tiles plane part) (at_part tiles plane count part below) (on_plane plane square)
            (ap (joined raw plane) (part_sum part square covers) ∙ none))

        kinds_by_part : AreByPart (map (kind_of raw plane) sums)
        kinds_by_part = AllPairs-from_Pairwise (λ (a : PartKind) (b : PartKind). a.part < b.part) (map (kind_of raw plane) sums)
            (Pairwise-map (kind_of raw plane) (λ (a : PartKind) (b : PartKind). a.part < b.part) sums
            (Pairwise-from_AllPairs (λ (a : PartSum) (b : PartSum). a.part < b.part) sums are.ordered))

        -- a part with a sum has material
        kind_is_material : (sum : PartSum) → In sum sums → (kind_of raw plane sum).kind.0 ≢ 0
        kind_is_material sum h none =
            let corner = corner_of stack.area in
            let covers = corner_covers stack.area (corner_of stack.area) is.proper refl refl in
            let entry = kind_of raw plane sum in
            let listed = kind_in-listed (map (kind_of raw plane) sums) kinds_by_part entry (In-map (kind_of raw plane) sum sums h) in
            let empty : listed_set sum.part sums ≡ 0 = joined-space raw plane (listed_set sum.part sums)
            (kind_is corner covers sum.part (sum_below sum h) ∙ ap Some (listed ∙ none)) in
            are.material sum h (same_sets sum.set.0 0
            (λ i bit. subst (λ (s : ℕ). bit_at s i ≡ 1) empty (listed_kept sum.part sums i sum h refl bit))
            (λ i bit. absurd (no_part i bit)))

        -- what is made of the sums stands there
        pub is_typed_stack : (typed_stack : TypedStack) → (stands : StandsFor raw plane tiles stack typed_stack) → stands.sums ≡ sums
            → IsTypedStack raw (tile_parts tiles plane count) plane typed_stack
        is_typed_stack typed_stack stands same =
            let member = some_member tiles stack is in
            let corner = member_covers member.0 member.1 (corner_of stack.area) (corner_covers stack.area (corner_of stack.area) is.proper refl refl) in
            let near = (All-In (λ (tile : SetTile). (tile.part < count) × IsNear tile.area) tiles (tile_at tiles member.0) of_parts corner.0).1 in
            let kinds : typed_stack.kinds ≡ map (kind_of raw plane) sums = stands.kinds ∙ ap (map (kind_of raw plane)) same in
            let flat : typed_stack.flat ≡ option_map type_number (joined raw plane (all_sets sums)) =
            stands.flat ∙ ap (λ (s : List PartSum). option_map type_number (joined raw plane (all_sets s))) same in
            let at : (square : Square) → Covers typed_stack.area square → Covers stack.area square =
            λ square c. subst (λ (r : Rect). Covers r square) stands.area c in
            record {
              proper = subst IsProper (sym stands.area) is.proper;
              near = subst IsNear (sym stands.area)
                  (near_inside stack.area (tile_at tiles member.0).area is.proper near (λ square c. (member_covers member.0 member.1 square c).1));
              ordered = subst AreByPart (sym kinds) kinds_by_part;
              within = λ entry h.
                  let source = In-map_source (kind_of raw plane) entry sums (subst (In entry) kinds h) in
                  subst (λ (n : ℕ). entry.part < n) (sym (length-parts tiles plane count))
                  (subst (λ (e : PartKind). e.part < count) source.1.1 (sum_below source.0 source.1.0));
              material = λ entry h.
                  let source = In-map_source (kind_of raw plane) entry sums (subst (In entry) kinds h) in
                  subst (λ (e : PartKind). e.kind.0 ≢ 0) source.1.1 (kind_is_material source.0 source.1.0);
              flat = λ square c. ap (joined raw plane) (union_is square (at square c))
                  ∙ sym (ap (option_map number_of) flat ∙ numbers_back (joined raw plane (all_sets sums)));
              kinds = λ square c position part there.
                  let p = part_at tiles plane count position part there in
                  ap (λ (l : SetLayout). joined raw plane (l (on_plane plane square))) p.1
                  ∙ ap (joined raw plane) (part_sum position square (at square c))
                  ∙ kind_is square (at square c) position p.0
                  ∙ ap (λ (k : List PartKind). Some (kind_in k position)) (sym kinds);
              owner = stands.owner;
            }

  module _ (stacks : List Stack) (are : AreStacks (tile_areas tiles) stacks) (typed_stacks : List TypedStack)
      (stand : StandForAll raw plane tiles stacks typed_stacks)
      (count : ℕ) (of_parts : AreTilesOfParts count tiles) (types : HaveTypes raw (tile_parts tiles plane count)) where
    -- outside of the pieces no part has anything
    nothing_outside : (square : Square) → ((typed_stack : TypedStack) → In typed_stack typed_stacks → Covers typed_stack.area square → ⊥)
        → (part : ℕ) → tile_part tiles plane part (on_plane plane square) ≡ 0
    nothing_outside square out part = same_sets (tile_part tiles plane part (on_plane plane square)) 0
        (λ i bit.
        let has = part_bit tiles plane part (on_plane plane square) i bit in
        let at = tile_covers tiles has.tile square has.listed has.covers in
        let found = are.every at.0 square at.1.1 in
        let stack = found.0 in
        let listed : In stack.area (typed_stack_areas typed_stacks) = subst (In stack.area) (sym stand.areas)
        (In-map (λ (s : Stack). s.area) stack stacks found.1.0) in
        let typed_stack = In-map_source (λ (s : TypedStack). s.area) stack.area typed_stacks listed in
        absurd (out typed_stack.0 typed_stack.1.0 (subst (λ (r : Rect). Covers r square) (sym typed_stack.1.1) found.1.1)))
        (λ i bit. absurd (no_part i bit))

    -- the pieces are those of the parts
    pub are_typed_stacks : AreTypedStacks raw (tile_parts tiles plane count) plane typed_stacks
    are_typed_stacks = record {
      each = λ typed_stack h.
          let of = stand.each typed_stack h in
          is_typed_stack of.stack (are.each of.stack of.listed) count of_parts of.stands.sums of.stands.are types typed_stack of.stands refl;
      apart = subst (AllPairs AreDisjoint) (sym stand.areas) (stack_areas_apart stacks are.apart);
      outside = λ square out position part there.
          let p = part_at tiles plane count position part there in
          ap (λ (l : SetLayout). l (on_plane plane square)) p.1 ∙ nothing_outside square out position;
    }
