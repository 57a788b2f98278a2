-- Blocks of tiles, as they are made.
use Rattle.names.proofs.Common.{◌≡◌, ◌<◌, ◌≤◌, ◌+◌, ℕ, ◌≤ℤ◌, false, List, [], ◌∷◌, ◌++◌, length, get_or, inl, inr, arith, refl, sym, subst, ◌∙◌, ap}
use Rattle.names.proofs.Common.{cases_eq, and_parts, eqb-true, ints, clamps, get_or_append_left, get_or_push, length_push, Rect, LiesWithin}
use Rattle.names.proofs.Common.{RegionTile, tile_at, Block}
use Rattle.std.proofs.Common.{pos, ◌&&◌, eqb}
use Rattle.geo_core.specs.Areas.{joined_rect}
use Rattle.geo_core.proofs.CoveringLaws.{within_joined_second}
use Rattle.names.specs.steps.Blocks.{IsWithinBlock, IsBlockFrom, AddsTile, is_like}

-- what stands past the end of a list of blocks
abbrev pub no_block : Block
no_block = record { end = 0; area = record { xlo = pos 0; ylo = pos 0; xhi = pos 0; yhi = pos 0 }; uniform = false; plane = 0; kind = record { 0 = 0 } }

-- what lies within the first of two rectangles lies within the one round both
pub within_joined : (a b c : Rect) → LiesWithin a b → LiesWithin a (joined_rect b c)
within_joined a b c inside =
    let p0 : b.xlo ≤ℤ a.xlo = inside.right_of_xlo in
    let p1 : b.ylo ≤ℤ a.ylo = inside.above_ylo in
    let p2 : a.xhi ≤ℤ b.xhi = inside.left_of_xhi in
    let p3 : a.yhi ≤ℤ b.yhi = inside.below_yhi in
    record {
      right_of_xlo = omega (arith, ints, clamps);
      above_ylo = omega (arith, ints, clamps);
      left_of_xhi = omega (arith, ints, clamps);
      below_yhi = omega (arith, ints, clamps);
    }

-- a block with one more tile
pub with_tile : (block : Block) (tile : RegionTile) → AddsTile block tile
    (record { end = block.end; area = joined_rect block.area tile.area; uniform = is_like block tile; plane = block.plane; kind = block.kind })
with_tile block tile = record {
  ends = refl;
  added = record {
    inside = within_joined_second block.area tile.area;
    alike = λ like. let parts = and_parts (block.uniform && eqb tile.plane block.plane) (eqb tile.kind.0 block.kind.0) like in (
      eqb-true tile.plane block.plane (and_parts block.uniform (eqb tile.plane block.plane) parts.0).1,
      eqb-true tile.kind.0 block.kind.0 parts.1,
    );
  };
  kept = λ other within. record {
    inside = within_joined other.area block.area tile.area within.inside;
    alike = λ like. within.alike (and_parts block.uniform (eqb tile.plane block.plane) (and_parts (block.uniform && eqb tile.plane block.plane)
        (eqb tile.kind.0 block.kind.0) like).0).0;
  };
}

-- one more tile of the block
pub within_more : (tiles : List RegionTile) (start n : ℕ) (block new : Block) → AddsTile block (tile_at tiles n) new
    → ((k : ℕ) → start ≤ k → k < n → IsWithinBlock block (tile_at tiles k)) → (k : ℕ) → start ≤ k → k < n + 1 → IsWithinBlock new (tile_at tiles k)
within_more tiles start n block new adds within k up below = elim (cases_eq k n) [
  | inl same ↦ subst (λ (i : ℕ). IsWithinBlock new (tile_at tiles i)) (sym same) adds.added
  | inr other ↦ adds.kept (tile_at tiles k) (within k up (omega arith))
]

-- The first indices have their blocks.
pub record HasBlocks (tiles : List RegionTile) (count : ℕ) (blocks : List Block) : Type 0 where
  pub so_many : length blocks ≡ count
  pub each : (start : ℕ) (block : Block) → start < count → IsBlockFrom tiles start (get_or blocks start block)

-- one more block
pub blocks_more : (tiles : List RegionTile) (n : ℕ) (blocks new : List Block) (block : Block) → HasBlocks tiles n blocks → IsBlockFrom tiles n block
    → new ≡ blocks ++ block ∷ [] → HasBlocks tiles (n + 1) new
blocks_more tiles n blocks new block has is added =
    let many = has.so_many in
    subst (HasBlocks tiles (n + 1)) (sym added) (record {
      so_many = length_push blocks block ∙ ap (λ (k : ℕ). k + 1) many;
      each = λ start d below. elim (cases_eq start n) [
        | inl same ↦ subst (λ (b : Block). IsBlockFrom tiles start b) (sym (get_or_push blocks block d start (many ∙ sym same)))
            (subst (λ (k : ℕ). IsBlockFrom tiles k block) (sym same) is)
        | inr other ↦ subst (λ (b : Block). IsBlockFrom tiles start b) (sym (get_or_append_left blocks (block ∷ []) d start (omega arith)))
            (has.each start d (omega arith))
      ];
    })
