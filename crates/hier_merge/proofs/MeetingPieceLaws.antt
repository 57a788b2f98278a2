-- The pieces of all planes are those at which the parts of the cell meet, and tiles cover them.
use Rattle.hier_merge.proofs.Common.{◌≡◌, ◌≤◌, ◌<◌, ◌+◌, ℕ, zero, suc, List, [], ◌∷◌, map, inl, inr, refl, sym, ap, subst, arith, Some, slice_get}
use Rattle.hier_merge.proofs.Common.{AllPairs, cases_eq, cases_lt, In, In-append_cases, In-append_left, In-append_right, In-map, In-map_source}
use Rattle.hier_merge.proofs.Common.{AllPairs-from_Pairwise, Pairwise, Pairwise-append, Pairwise-from_AllPairs, Rect, AreDisjoint, RawTech, Place}
use Rattle.hier_merge.proofs.Common.{PlaneStack, TypedStack, HaveTypes, OffendsOn, SetLayout, tile_parts, AreTypedStacks, typed_stack_areas}
use Rattle.hier_merge.proofs.Common.{PartTile, ArePiecesFrom, plane_stack, AreStripsFrom, AreOfParts, tiles_on}
use Rattle.meeting_laws.specs.Offences.PlaneStacks.{ArePlaneStacks}
use Rattle.hier_merge.specs.steps.PlanePieces.{HasPlanePieces}
use Rattle.hier_merge.proofs.MeetingBoxes.{parts_of_tiles}
use Rattle.hier_merge.proofs.PlanePieceLaws.{pieces_of_all}
use Rattle.hier_merge.proofs.PlaneTiles.{parts_on_plane}

-- ---- from planes to all

module _ (raw : RawTech) (tiles : List PartTile) (count : ℕ) (of_parts : AreOfParts count tiles)
    (types : (plane : ℕ) → HaveTypes raw (tile_parts (tiles_on raw plane tiles) plane count)) where
  abbrev pub all_parts : List SetLayout
  all_parts = parts_of_tiles raw tiles count

  -- the pieces of a plane are pieces of all parts
  pub plane_pieces : (plane : ℕ) (found : List TypedStack) (strips : List Rect) → HasPlanePieces raw tiles plane found strips
      → AreTypedStacks raw all_parts plane found
  plane_pieces plane found strips has =
      pieces_of_all raw tiles count plane found (has.stand count (parts_on_plane raw plane count tiles of_parts) (types plane))

  -- the strips of all planes are those of what offends of all parts
  pub strips_of_pieces : (plane n : ℕ) (stacks : List PlaneStack) (offending : List (ℕ × Rect))
      → ArePiecesFrom raw tiles plane n stacks offending → AreStripsFrom (OffendsOn raw all_parts) plane n offending
  strips_of_pieces plane zero stacks offending are = are.1
  strips_of_pieces plane (suc n) stacks offending (found, strips, others, more, has, stacks_are, strips_are, rest) =
      (strips, more, strips_are, has.strips_are all_parts (plane_pieces plane found strips has), strips_of_pieces (suc plane) n others more rest)

  -- A piece that is found is of one of the planes, among the pieces of it.
  pub record IsOfPlane (plane n : ℕ) (piece : PlaneStack) : Type 0 where
    pub from : plane ≤ piece.plane
    pub below : piece.plane < plane + n
    pub found : List TypedStack
    pub strips : List Rect
    pub has : HasPlanePieces raw tiles piece.plane found strips
    pub listed : In piece.stack found

  pub piece_of_plane : (plane n : ℕ) (stacks : List PlaneStack) (offending : List (ℕ × Rect))
      → ArePiecesFrom raw tiles plane n stacks offending → (piece : PlaneStack) → In piece stacks → IsOfPlane plane n piece
  piece_of_plane plane zero stacks offending are piece among = absurd (subst (λ (all : List PlaneStack). In piece all) are.0 among)
  piece_of_plane plane (suc n) stacks offending (found, strips, others, more, has, stacks_are, strips_are, rest) piece among =
      elim (In-append_cases piece (map (plane_stack plane) found) others (subst (λ (all : List PlaneStack). In piece all) stacks_are among)) [
        | inl first ↦
            let source = In-map_source (plane_stack plane) piece found first in
            let same : plane ≡ piece.plane = ap (λ (p : PlaneStack). p.plane) source.1.1 in
            record {
              from = omega (arith, same);
              below = omega (arith, same);
              found = found;
              strips = strips;
              has = subst (λ (q : ℕ). HasPlanePieces raw tiles q found strips) same has;
              listed = subst (λ (s : TypedStack). In s found) (ap (λ (p : PlaneStack). p.stack) source.1.1) source.1.0;
            }
        | inr second ↦
            let of = piece_of_plane (suc plane) n others more rest piece second in
            record {
              from = omega (arith, of.from);
              below = omega (arith, of.below);
              found = of.found;
              strips = of.strips;
              has = of.has;
              listed = of.listed;
            }
      ]

  -- each piece of a plane is found
  pub plane_is_found : (plane n : ℕ) (stacks : List PlaneStack) (offending : List (ℕ × Rect))
      → ArePiecesFrom raw tiles plane n stacks offending → (other : ℕ) → plane ≤ other → other < plane + n
      → (found : List TypedStack) × (strips : List Rect) × HasPlanePieces raw tiles other found strips
      × ((stack : TypedStack) → In stack found → In (plane_stack other stack) stacks)
  plane_is_found plane zero stacks offending are other from below = absurd (omega (arith, from, below))
  plane_is_found plane (suc n) stacks offending (found, strips, others, more, has, stacks_are, strips_are, rest) other from below =
      elim (cases_eq plane other) [
        | inl same ↦ (
          found,
          strips,
          subst (λ (q : ℕ). HasPlanePieces raw tiles q found strips) same has,
          λ stack among. subst (λ (all : List PlaneStack). In (plane_stack other stack) all) (sym stacks_are)
              (In-append_left (plane_stack other stack) (map (plane_stack plane) found) others
              (subst (λ (q : ℕ). In (plane_stack q stack) (map (plane_stack plane) found)) same (In-map (plane_stack plane) stack found among))),
        )
        | inr differ ↦
            let deeper = plane_is_found (suc plane) n others more rest other (omega (arith, from, differ)) (omega (arith, below)) in (
              deeper.0,
              deeper.1,
              deeper.2,
              λ stack among. subst (λ (all : List PlaneStack). In (plane_stack other stack) all) (sym stacks_are)
                  (In-append_right (plane_stack other stack) (map (plane_stack plane) found) others (deeper.3 stack among)),
            )
      ]

  -- ---- in the order of planes, and apart

  of_one_plane : (plane : ℕ) (found : List TypedStack) → AllPairs AreDisjoint (typed_stack_areas found)
      → Pairwise (λ (a b : PlaneStack). (a.plane ≤ b.plane) × (a.plane ≡ b.plane → AreDisjoint a.stack.area b.stack.area)) (map (plane_stack plane) found)
  of_one_plane plane found apart = go found (Pairwise-from_AllPairs AreDisjoint (typed_stack_areas found) apart)
    where
      go : (list : List TypedStack) → Pairwise AreDisjoint (typed_stack_areas list)
          → Pairwise (λ (a b : PlaneStack). (a.plane ≤ b.plane) × (a.plane ≡ b.plane → AreDisjoint a.stack.area b.stack.area)) (map (plane_stack plane) list)
      go [] pairs = tt
      go (stack ∷ list) pairs = (
        (λ piece among.
            let source = In-map_source (plane_stack plane) piece list among in
            let disjoint : AreDisjoint stack.area source.0.area =
            pairs.0 source.0.area (In-map (λ (s : TypedStack). s.area) source.0 list source.1.0) in
            subst (λ (p : PlaneStack). (plane ≤ p.plane) × (plane ≡ p.plane → AreDisjoint stack.area p.stack.area)) source.1.1
            (omega arith, (λ same. disjoint))),
        go list pairs.1,
      )

  in_order : (plane n : ℕ) (stacks : List PlaneStack) (offending : List (ℕ × Rect))
      → ArePiecesFrom raw tiles plane n stacks offending
      → Pairwise (λ (a b : PlaneStack). (a.plane ≤ b.plane) × (a.plane ≡ b.plane → AreDisjoint a.stack.area b.stack.area)) stacks
  in_order plane zero stacks offending are =
      subst (Pairwise (λ (a b : PlaneStack). (a.plane ≤ b.plane) × (a.plane ≡ b.plane → AreDisjoint a.stack.area b.stack.area))) (sym are.0) tt
  in_order plane (suc n) stacks offending (found, strips, others, more, has, stacks_are, strips_are, rest) =
      subst (Pairwise (λ (a b : PlaneStack). (a.plane ≤ b.plane) × (a.plane ≡ b.plane → AreDisjoint a.stack.area b.stack.area))) (sym stacks_are)
      (Pairwise-append (λ (a b : PlaneStack). (a.plane ≤ b.plane) × (a.plane ≡ b.plane → AreDisjoint a.stack.area b.stack.area))
      (map (plane_stack plane) found) others
      (of_one_plane plane found (plane_pieces plane found strips has).apart)
      (in_order (suc plane) n others more rest)
      (λ a b first second.
      let source = In-map_source (plane_stack plane) a found first in
      let here : plane ≡ a.plane = ap (λ (p : PlaneStack). p.plane) source.1.1 in
      let there = piece_of_plane (suc plane) n others more rest b second in
      (omega (arith, here, there.from), (λ same. absurd (omega (arith, here, there.from, same))))))

  module _ (planes : ℕ) (stacks : List PlaneStack) (offending : List (ℕ × Rect))
      (are : ArePiecesFrom raw tiles 0 planes stacks offending) where
    pub by_plane : AllPairs (λ a b. a.plane ≤ b.plane) stacks
    by_plane = AllPairs-from_Pairwise (λ (a b : PlaneStack). a.plane ≤ b.plane) stacks (first_of stacks (in_order 0 planes stacks offending are))
      where
        first_of : (list : List PlaneStack)
            → Pairwise (λ (a b : PlaneStack). (a.plane ≤ b.plane) × (a.plane ≡ b.plane → AreDisjoint a.stack.area b.stack.area)) list
            → Pairwise (λ (a b : PlaneStack). a.plane ≤ b.plane) list
        first_of [] pairs = tt
        first_of (piece ∷ list) pairs = ((λ other among. (pairs.0 other among).0), first_of list pairs.1)

    apart : AllPairs (λ a b. a.plane ≡ b.plane → AreDisjoint a.stack.area b.stack.area) stacks
    apart = AllPairs-from_Pairwise (λ (a b : PlaneStack). a.plane ≡ b.plane → AreDisjoint a.stack.area b.stack.area) stacks
        (second_of stacks (in_order 0 planes stacks offending are))
      where
        second_of : (list : List PlaneStack)
            → Pairwise (λ (a b : PlaneStack). (a.plane ≤ b.plane) × (a.plane ≡ b.plane → AreDisjoint a.stack.area b.stack.area)) list
            → Pairwise (λ (a b : PlaneStack). a.plane ≡ b.plane → AreDisjoint a.stack.area b.stack.area) list
        second_of [] pairs = tt
        second_of (piece ∷ list) pairs = ((λ other among. (pairs.0 other among).1), second_of list pairs.1)

    -- they are the pieces of all parts, where none of these stands past the planes
    pub all_pieces : ((place : Place) → planes ≤ place.plane → (position : ℕ) (part : SetLayout) → slice_get all_parts position ≡ Some part → part place ≡ 0)
        → ArePlaneStacks raw all_parts stacks
    all_pieces past = record {
      each = λ piece among.
          let of = piece_of_plane 0 planes stacks offending are piece among in
          (plane_pieces piece.plane of.found of.strips of.has).each piece.stack of.listed;
      apart = apart;
      outside = λ place none position part there. elim (cases_lt place.plane planes) [
        | inr beyond ↦ past place (omega (arith, beyond)) position part there
        | inl below ↦
            let found = plane_is_found 0 planes stacks offending are place.plane (omega arith) (omega (arith, below)) in
            (plane_pieces place.plane found.0 found.1 found.2).outside place.square
            (λ stack among covers. none (plane_stack place.plane stack) (found.3 stack among) refl covers) position part there
      ];
    }
