-- Stacks of tiles, and what their members make.
use Rattle.offences.proofs.Common.{◌≡◌, ◌≢◌, inl, inr, ◌<◌, ℕ, List, [], ◌∷◌, ◌++◌, length, map, refl, sym, ap, subst, ◌∙◌, arith, All, AllPairs}
use Rattle.offences.proofs.Common.{Some, option_map, length-map, map-append, slice_get-map, slice_get_within, slice_get-get_or, In, In-get_or}
use Rattle.offences.proofs.Common.{In-index, In-push_cases, In-append_left, All-from_In, Pairwise-from_AllPairs, AllPairs-from_Pairwise}
use Rattle.offences.proofs.Common.{Pairwise-map, Square, Rect, AreDisjoint, corner_of, Covers, corner_covers, Stack, IsStack, RawTech, SetTile}
use Rattle.offences.proofs.Common.{TypedStack, tile_at, no_tile, StandsFor, StandForAll}
use Rattle.geo_core.proofs.FiniteSets.Members.{In-push}
use Rattle.geo_core.specs.Covering.{CoversAt}
use Rattle.offences.specs.TypedStacks.{IsOfStack}

-- the areas of tiles
abbrev pub tile_areas : List SetTile → List Rect
tile_areas tiles = map (λ tile. tile.area) tiles

-- the tile at a place covers what the rectangle there does
pub covers_tile : (tiles : List SetTile) (place : ℕ) (square : Square) → CoversAt (tile_areas tiles) place square
    → (place < length tiles) × Covers (tile_at tiles place).area square
covers_tile tiles place square at =
    let below : place < length tiles = omega (
      arith,
      slice_get_within (tile_areas tiles) place at.area at.there,
      length-map tiles
          (λ (t : SetTile). t.area),
    ) in
    let is : Some (tile_at tiles place).area ≡ Some at.area =
    ap (option_map (λ (t : SetTile). t.area)) (sym (slice_get-get_or tiles place no_tile below))
    ∙ sym (slice_get-map (λ (t : SetTile). t.area) tiles place) ∙ at.there in
    let same : at.area ≡ (tile_at tiles place).area = cc in
    (below, subst (λ (area : Rect). Covers area square) same at.covers)

-- the tile at a place stands in the list
pub In-tile_at : (tiles : List SetTile) (place : ℕ) → place < length tiles → In (tile_at tiles place) tiles
In-tile_at tiles place below = In-get_or tiles place no_tile below

-- and a tile of the list stands at a place
pub tile_covers : (tiles : List SetTile) (tile : SetTile) (square : Square) → In tile tiles → Covers tile.area square
    → (place : ℕ) × ((tile_at tiles place ≡ tile) × CoversAt (tile_areas tiles) place square)
tile_covers tiles tile square h covers =
    let k = In-index tile tiles h in (
      k.0,
      (
        k.1.1 no_tile,
        record {
          area = tile.area;
          there = slice_get-map (λ (t : SetTile). t.area) tiles k.0
              ∙ ap (option_map (λ (t : SetTile). t.area)) (slice_get-get_or tiles k.0 tile k.1.0)
              ∙ ap (λ (t : SetTile). Some t.area) (k.1.1 tile);
          covers = covers;
        },
      ),
    )

-- where a tile covers a square the rectangle at its place does
pub covers_at : (tiles : List SetTile) (place : ℕ) (square : Square) → place < length tiles → Covers (tile_at tiles place).area square
    → CoversAt (tile_areas tiles) place square
covers_at tiles place square below covers = record {
  area = (tile_at tiles place).area;
  there = slice_get-map (λ (t : SetTile). t.area) tiles place ∙ ap (option_map (λ (t : SetTile). t.area)) (slice_get-get_or tiles place no_tile below);
  covers = covers;
}

-- the members of a stack are places of tiles
pub members_within : (tiles : List SetTile) (stack : Stack) → IsStack (tile_areas tiles) stack
    → All (λ member. member < length tiles) stack.members.items
members_within tiles stack is = All-from_In (λ member. member < length tiles) stack.members.items
    (λ member h. (covers_tile tiles member (corner_of stack.area)
    (is.members member h (corner_of stack.area) (corner_covers stack.area (corner_of stack.area) is.proper refl refl))).0)

-- a stack has a member
pub some_member : (tiles : List SetTile) (stack : Stack) → IsStack (tile_areas tiles) stack → (member : ℕ) × In member stack.members.items
some_member tiles stack is = go stack.members.items is.some
  where
    go : (members : List ℕ) → members ≢ [] → (member : ℕ) × In member members
    go [] some = absurd (some refl)
    go (member ∷ members) some = (member, inl refl)

module _ (raw : RawTech) (plane : ℕ) (tiles : List SetTile) where
  -- before the first stack
  pub no_typed_stacks : (typed_stacks : List TypedStack) → typed_stacks ≡ [] → StandForAll raw plane tiles [] typed_stacks
  no_typed_stacks typed_stacks none = subst (StandForAll raw plane tiles []) (sym none) (record { each = λ typed_stack h. absurd h; areas = refl })

  module _ (stacks : List Stack) (stack : Stack) (typed_stacks : List TypedStack) (so_far : StandForAll raw plane tiles stacks typed_stacks) where
    wider : (typed_stack : TypedStack) → IsOfStack raw plane tiles stacks typed_stack → IsOfStack raw plane tiles (stacks ++ stack ∷ []) typed_stack
    wider typed_stack of = record {
      stack = of.stack;
      listed = In-append_left of.stack stacks (stack ∷ []) of.listed;
      stands = of.stands;
    }

    -- one more stack
    pub with_typed_stack : (typed_stack : TypedStack) → StandsFor raw plane tiles stack typed_stack
        → StandForAll raw plane tiles (stacks ++ stack ∷ []) (typed_stacks ++ typed_stack ∷ [])
    with_typed_stack typed_stack stands =
        let of : IsOfStack raw plane tiles (stacks ++ stack ∷ []) typed_stack = record {
          stack = stack;
          listed = In-push stacks stack;
          stands = stands;
        } in
        record {
          each = λ other h. elim (In-push_cases other typed_stacks typed_stack h) [
            | inl k ↦ wider other (so_far.each other k)
            | inr e ↦ subst (IsOfStack raw plane tiles (stacks ++ stack ∷ [])) e of
          ];
          areas = map-append (λ (s : TypedStack). s.area) typed_stacks (typed_stack ∷ [])
              ∙ ap (λ (areas : List Rect). areas ++ typed_stack.area ∷ []) so_far.areas
              ∙ ap (λ (area : Rect). map (λ (s : Stack). s.area) stacks ++ area ∷ []) stands.area
              ∙ sym (map-append (λ (s : Stack). s.area) stacks (stack ∷ []));
        }

-- the areas of the stacks lie apart
pub stack_areas_apart : (stacks : List Stack) → AllPairs (λ a b. AreDisjoint a.area b.area) stacks → AllPairs AreDisjoint (map (λ (s : Stack). s.area) stacks)
stack_areas_apart stacks apart = AllPairs-from_Pairwise AreDisjoint (map (λ (s : Stack). s.area) stacks)
    (Pairwise-map (λ (s : Stack). s.area) AreDisjoint stacks
    (Pairwise-from_AllPairs (λ (a : Stack) (b : Stack). AreDisjoint a.area b.area) stacks apart))
