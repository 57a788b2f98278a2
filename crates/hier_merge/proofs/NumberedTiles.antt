-- Tiles of a plane by their numbers: where they stand among all tiles, and which of them cover a piece.
use Rattle.hier_merge.proofs.Common.{◌≡◌, ◌≢◌, ◌≤◌, ◌<◌, ◌⊎◌, ◌+◌, ◌-◌, ℕ, zero, suc, Bool, cond, List, [], ◌∷◌, length, map, take, drop, inl, inr}
use Rattle.hier_merge.proofs.Common.{refl, sym, ap, subst, ◌∙◌, arith, get_or, ne_eqb, Some, slice_get, slice_index, All, IsPermutation, cases_eq}
use Rattle.hier_merge.proofs.Common.{cases_lt, eq-eqb, length-map, IsPermutation-sym, slice_get_within, get_or_from_slice_get, In, In-map}
use Rattle.hier_merge.proofs.Common.{In-map_source, In-permutation, AllPairs-from_Pairwise, Pairwise-from_AllPairs, slice_get-below, All-from_In}
use Rattle.hier_merge.proofs.Common.{All-In, IsNear, Covers, RawTech, SetTile, TypedStack, HasMembers, PartTile, NumberedTile, HasTiles, IsSeam}
use Rattle.hier_merge.proofs.Common.{numbered_on, renumbered, set_tile, tiles_on}
use Rattle.std.specs.List.Sorted.{IsSortedByKey}
use Rattle.std.specs.Ordering.{nat_cmp}
use Rattle.std.proofs.lemmas.Cmp.{nat_cmp_total}
use Rattle.finite_sets.proofs.Members.{In-some}
use Rattle.finite_sets.proofs.Orders.{IsSortedByKey-pairs, nat_cmp-not_less}
use Rattle.finite_sets.proofs.Pairs.{Pairwise-map}
use Rattle.finite_sets.proofs.Places.{In-slice_get, slice_get-In, slice_get-map_there}
use Rattle.meeting_laws.specs.Offences.PartSets.{AreInPartOrder, no_tile, tile_at}

-- ---- places of a part of a list

-- what stands at a place of what is left of a list stands that much further on in the list
get_drop : (start : ℕ) (tiles : List PartTile) (k : ℕ) → slice_get (drop start tiles) k ≡ slice_get tiles (start + k)
get_drop zero tiles k = ap (slice_get tiles) (let at : k ≡ 0 + k = omega arith in at)
get_drop (suc start) [] k = refl
get_drop (suc start) (tile ∷ tiles) k =
    get_drop start tiles k ∙ ap (slice_get (tile ∷ tiles)) (let at : suc (start + k) ≡ suc start + k = omega arith in at)

-- at one of the first places stands what stands there in the list
get_take : (count : ℕ) (tiles : List PartTile) (k : ℕ) → k < count → slice_get (take count tiles) k ≡ slice_get tiles k
get_take zero tiles k below = absurd (omega (arith, below))
get_take (suc count) [] k below = refl
get_take (suc count) (tile ∷ tiles) zero below = refl
get_take (suc count) (tile ∷ tiles) (suc k) below = get_take count tiles k (omega (arith, below))

-- and nothing stands behind them
get_taken : (count : ℕ) (tiles : List PartTile) (k : ℕ) (tile : PartTile) → slice_get (take count tiles) k ≡ Some tile → k < count
get_taken zero tiles k tile there = cc
get_taken (suc count) [] k tile there = cc
get_taken (suc count) (other ∷ tiles) zero tile there = omega arith
get_taken (suc count) (other ∷ tiles) (suc k) tile there = let below = get_taken count tiles k tile there in omega (arith, below)

-- a tile before a place is among those that are taken up to it
in_take : (place : ℕ) (tiles : List PartTile) (k : ℕ) (tile : PartTile) → k < place → slice_get tiles k ≡ Some tile → In tile (take place tiles)
in_take place tiles k tile below there = In-slice_get (take place tiles) k tile (get_take place tiles k below ∙ there)

-- and one behind it among those that are left
in_drop : (place : ℕ) (tiles : List PartTile) (k : ℕ) (tile : PartTile) → place ≤ k → slice_get tiles k ≡ Some tile → In tile (drop place tiles)
in_drop place tiles k tile from there =
    let at : place + (k - place) ≡ k = omega (arith, from) in
    In-slice_get (drop place tiles) (k - place) tile (get_drop place tiles (k - place) ∙ ap (slice_get tiles) at ∙ there)

-- ---- numbered tiles

module _ (raw : RawTech) (plane : ℕ) where
  -- a tile of the plane has its number
  numbered_here : (number : ℕ) (tile : PartTile) (tiles : List PartTile) → tile.plane ≡ plane → numbered_on raw plane number (tile ∷ tiles)
      ≡ record { number = number; tile = set_tile raw tile } ∷ numbered_on raw plane (suc number) tiles
  numbered_here number tile tiles same =
      ap (λ (b : Bool). cond b (record { number = number; tile = set_tile raw tile } ∷ numbered_on raw plane (suc number) tiles)
      (numbered_on raw plane (suc number) tiles)) (eq-eqb tile.plane plane same)

  -- and one of another plane is left out
  numbered_elsewhere : (number : ℕ) (tile : PartTile) (tiles : List PartTile) → (tile.plane ≡ plane → ⊥)
      → numbered_on raw plane number (tile ∷ tiles) ≡ numbered_on raw plane (suc number) tiles
  numbered_elsewhere number tile tiles differ =
      ap (λ (b : Bool). cond b (record { number = number; tile = set_tile raw tile } ∷ numbered_on raw plane (suc number) tiles)
      (numbered_on raw plane (suc number) tiles)) (ne_eqb tile.plane plane differ)

  -- without their numbers they are the tiles of the plane
  pub without_numbers : (number : ℕ) (tiles : List PartTile) → map (λ (entry : NumberedTile). entry.tile) (numbered_on raw plane number tiles) ≡ tiles_on raw plane tiles
  without_numbers number [] = refl
  without_numbers number (tile ∷ tiles) =
      let rest = without_numbers (suc number) tiles in
      elim (cases_eq tile.plane plane) [
        | inl same ↦
            ap (map (λ (entry : NumberedTile). entry.tile)) (numbered_here number tile tiles same)
            ∙ ap (λ (more : List SetTile). set_tile raw tile ∷ more) rest
            ∙ sym (ap (λ (b : Bool). cond b (set_tile raw tile ∷ tiles_on raw plane tiles) (tiles_on raw plane tiles)) (eq-eqb tile.plane plane same))
        | inr differ ↦
            ap (map (λ (entry : NumberedTile). entry.tile)) (numbered_elsewhere number tile tiles differ)
            ∙ rest
            ∙ sym (ap (λ (b : Bool). cond b (set_tile raw tile ∷ tiles_on raw plane tiles) (tiles_on raw plane tiles)) (ne_eqb tile.plane plane differ))
      ]

  -- A numbered tile is the one that stands so far behind the first number, and lies on the plane.
  pub record HasItsNumber (number : ℕ) (tiles : List PartTile) (entry : NumberedTile) : Type 0 where
    pub place : ℕ
    pub tile : PartTile
    pub there : slice_get tiles place ≡ Some tile
    pub on : tile.plane ≡ plane
    pub is_number : entry.number ≡ number + place
    pub is : entry.tile ≡ set_tile raw tile

  pub numbered_source : (number : ℕ) (tiles : List PartTile) (entry : NumberedTile) → In entry (numbered_on raw plane number tiles)
      → HasItsNumber number tiles entry
  numbered_source number [] entry among = absurd among
  numbered_source number (tile ∷ tiles) entry among =
      let later : In entry (numbered_on raw plane (suc number) tiles) → HasItsNumber number (tile ∷ tiles) entry = λ more.
      (let from = numbered_source (suc number) tiles entry more in
      record {
        place = suc from.place;
        tile = from.tile;
        there = from.there;
        on = from.on;
        is_number = omega (arith, from.is_number);
        is = from.is;
      }) in
      elim (cases_eq tile.plane plane) [
        | inl same ↦ elim (subst (λ (all : List NumberedTile). In entry all) (numbered_here number tile tiles same) among) [
          | inl first ↦ record {
            place = 0;
            tile = tile;
            there = refl;
            on = same;
            is_number = (let at : entry.number ≡ number = ap (λ (e : NumberedTile). e.number) (sym first) in omega (arith, at));
            is = ap (λ (e : NumberedTile). e.tile) (sym first);
          }
          | inr more ↦ later more
        ]
        | inr differ ↦ later (subst (λ (all : List NumberedTile). In entry all) (numbered_elsewhere number tile tiles differ) among)
      ]

  -- each tile of the plane is numbered so
  pub numbered_there : (number : ℕ) (tiles : List PartTile) (k : ℕ) (tile : PartTile) → slice_get tiles k ≡ Some tile → tile.plane ≡ plane
      → (entry : NumberedTile) × In entry (numbered_on raw plane number tiles) × (entry.number ≡ number + k) × (entry.tile ≡ set_tile raw tile)
  numbered_there number [] k tile there on = cc
  numbered_there number (first ∷ tiles) zero tile there on =
      let same : first ≡ tile = cc in
      let here : first.plane ≡ plane = ap (λ (t : PartTile). t.plane) same ∙ on in (
        record { number = number; tile = set_tile raw first },
        subst (λ (all : List NumberedTile). In (record { number = number; tile = set_tile raw first }) all) (sym (numbered_here number first tiles here)) (inl refl),
        omega arith,
        ap (set_tile raw) same,
      )
  numbered_there number (first ∷ tiles) (suc k) tile there on =
      let rest = numbered_there (suc number) tiles k tile there on in
      let among : In rest.0 (numbered_on raw plane number (first ∷ tiles)) = elim (cases_eq first.plane plane) [
        | inl same ↦ subst (λ (all : List NumberedTile). In rest.0 all) (sym (numbered_here number first tiles same)) (inr rest.1)
        | inr differ ↦ subst (λ (all : List NumberedTile). In rest.0 all) (sym (numbered_elsewhere number first tiles differ)) rest.1
      ] in
      (rest.0, among, omega (arith, rest.2), rest.3)

-- ---- pieces by the numbers of tiles

-- the tile of the plane that stands at a place
at_place : (sorted : List NumberedTile) (k : ℕ) (entry : NumberedTile) → slice_get sorted k ≡ Some entry
    → tile_at (map (λ (e : NumberedTile). e.tile) sorted) k ≡ entry.tile
at_place sorted k entry there =
    get_or_from_slice_get (map (λ (e : NumberedTile). e.tile) sorted) k entry.tile no_tile (slice_get-map_there (λ (e : NumberedTile). e.tile) sorted k entry there)

number_at : (sorted : List NumberedTile) (k : ℕ) (entry : NumberedTile) → slice_get sorted k ≡ Some entry
    → slice_index (map (λ (e : NumberedTile). e.number) sorted) k ≡ entry.number
number_at sorted k entry there =
    get_or_from_slice_get (map (λ (e : NumberedTile). e.number) sorted) k entry.number 0 (slice_get-map_there (λ (e : NumberedTile). e.number) sorted k entry there)

-- where the members of a piece are places of numbered tiles of a stretch, the numbers there are those of the tiles that cover it
pub has_tiles : (raw : RawTech) (plane : ℕ) (tiles : List PartTile) (start next : ℕ) (sorted : List NumberedTile) (piece : TypedStack)
    → IsPermutation (numbered_on raw plane start (take (next - start) (drop start tiles))) sorted
    → HasMembers (map (λ (e : NumberedTile). e.tile) sorted) piece
    → HasTiles tiles start next plane (renumbered (map (λ (e : NumberedTile). e.number) sorted) piece)
has_tiles raw plane tiles start next sorted piece moved has =
    let group = take (next - start) (drop start tiles) in
    let numbers = map (λ (e : NumberedTile). e.number) sorted in
    let here = map (λ (e : NumberedTile). e.tile) sorted in
    let entry_at : (k : ℕ) → k < length here → (entry : NumberedTile) × (slice_get sorted k ≡ Some entry) × HasItsNumber raw plane start group entry = λ k below.
    (let at = slice_get-below sorted k (omega (arith, below, length-map sorted (λ (e : NumberedTile). e.tile))) in (
      at.0,
      at.1,
      numbered_source raw plane start group at.0
          (In-permutation at.0 sorted (numbered_on raw plane start group) (IsPermutation-sym (numbered_on raw plane start group) sorted moved) (In-slice_get sorted k at.0 at.1)),
    )) in
    record {
      some = some_numbers numbers piece.members has.some;
      each = λ number among.
          let source = In-map_source (slice_index numbers) number piece.members among in
          let at = entry_at source.0 (has.within source.0 source.1.0) in
          let is = at.2 in
          let same : number ≡ start + is.place = sym source.1.1 ∙ number_at sorted source.0 at.0 at.1 ∙ is.is_number in
          let below = get_taken (next - start) (drop start tiles) is.place is.tile is.there in
          record {
            from = omega (arith, same);
            below = omega (arith, same, below);
            tile = is.tile;
            there = ap (slice_get tiles) same ∙ sym (get_drop start tiles is.place) ∙ sym (get_take (next - start) (drop start tiles) is.place below) ∙ is.there;
            on = is.on;
            covers = λ square inside.
                subst (λ (t : SetTile). Covers t.area square) (at_place sorted source.0 at.0 at.1 ∙ is.is) (has.cover source.0 source.1.0 square inside);
          };
      all = λ number tile square from below there on inside covers.
          let place : start + (number - start) ≡ number = omega (arith, from) in
          let near : number - start < next - start = omega (arith, from, below) in
          let in_group : slice_get group (number - start) ≡ Some tile =
          get_take (next - start) (drop start tiles) (number - start) near ∙ get_drop start tiles (number - start) ∙ ap (slice_get tiles) place ∙ there in
          let entry = numbered_there raw plane start group (number - start) tile in_group on in
          let at = slice_get-In entry.0 sorted (In-permutation entry.0 (numbered_on raw plane start group) sorted moved entry.1) in
          let within = slice_get_within sorted at.0 entry.0 at.1 in
          let member = has.all at.0 square (omega (arith, within, length-map sorted (λ (e : NumberedTile). e.tile))) inside
          (subst (λ (t : SetTile). Covers t.area square) (sym (at_place sorted at.0 entry.0 at.1 ∙ entry.3)) covers) in
          subst (λ (n : ℕ). In n (map (slice_index numbers) piece.members)) (number_at sorted at.0 entry.0 at.1 ∙ entry.2 ∙ place)
          (In-map (slice_index numbers) at.0 piece.members member);
    }
  where
    some_numbers : (all : List ℕ) (members : List ℕ) → members ≢ [] → map (slice_index all) members ≢ []
    some_numbers all [] some = absurd (some refl)
    some_numbers all (member ∷ members) some = In-some (slice_index all member) (map (slice_index all) (member ∷ members)) (inl refl)

-- ---- pieces on both sides of a seam

some_member : (members : List ℕ) → members ≢ [] → (member : ℕ) × In member members
some_member [] some = absurd (some refl)
some_member (member ∷ members) some = (member, inl refl)

before_or_behind : (number start : ℕ) → (number < start) ⊎ (start ≤ number)
before_or_behind number start = elim (cases_lt number start) [ inl before ↦ inl before | inr behind ↦ inr behind ]

-- tiles behind a seam are not over a piece before it
pub tiles_before_seam : (tiles : List PartTile) (start next plane : ℕ) (piece : TypedStack) → IsSeam tiles start → start ≤ next → HasTiles tiles 0 start plane piece
    → HasTiles tiles 0 next plane piece
tiles_before_seam tiles start next plane piece seam order has = record {
  some = has.some;
  each = λ number among.
      let is = has.each number among in
      record { from = is.from; below = omega (arith, is.below, order); tile = is.tile; there = is.there; on = is.on; covers = is.covers };
  all = λ number tile square from below there on inside covers. elim (before_or_behind number start) [
    | inl before ↦ has.all number tile square from before there on inside covers
    | inr behind ↦
        let member = some_member piece.members has.some in
        let one = has.each member.0 member.1 in
        absurd (seam.apart one.tile tile (in_take start tiles member.0 one.tile one.below one.there) (in_drop start tiles number tile behind there) square
        (one.covers square inside) covers)
  ];
}

-- nor are those before it over a piece behind it
pub tiles_behind_seam : (tiles : List PartTile) (start next plane : ℕ) (piece : TypedStack) → IsSeam tiles start → HasTiles tiles start next plane piece
    → HasTiles tiles 0 next plane piece
tiles_behind_seam tiles start next plane piece seam has = record {
  some = has.some;
  each = λ number among.
      let is = has.each number among in
      record { from = omega arith; below = is.below; tile = is.tile; there = is.there; on = is.on; covers = is.covers };
  all = λ number tile square from below there on inside covers. elim (before_or_behind number start) [
    | inr behind ↦ has.all number tile square behind below there on inside covers
    | inl before ↦
        let member = some_member piece.members has.some in
        let one = has.each member.0 member.1 in
        absurd (seam.apart tile one.tile (in_take start tiles number tile before there) (in_drop start tiles member.0 one.tile one.from one.there) square covers
        (one.covers square inside))
  ];
}

-- ---- tiles in the order of their parts

-- numbered tiles of near tiles are near
pub near_numbered : (raw : RawTech) (plane start : ℕ) (group : List PartTile) (sorted : List NumberedTile) → All (λ (tile : PartTile). IsNear tile.area) group
    → IsPermutation (numbered_on raw plane start group) sorted → All (λ (tile : SetTile). IsNear tile.area) (map (λ (e : NumberedTile). e.tile) sorted)
near_numbered raw plane start group sorted near moved =
    All-from_In (λ (tile : SetTile). IsNear tile.area) (map (λ (e : NumberedTile). e.tile) sorted) (λ tile among.
    let source = In-map_source (λ (e : NumberedTile). e.tile) tile sorted among in
    let from = numbered_source raw plane start group source.0
    (In-permutation source.0 sorted (numbered_on raw plane start group) (IsPermutation-sym (numbered_on raw plane start group) sorted moved) source.1.0) in
    subst (λ (t : SetTile). IsNear t.area) (sym from.is ∙ source.1.1)
    (All-In (λ (t : PartTile). IsNear t.area) group from.tile near (In-slice_get group from.place from.tile from.there)))

-- where they are sorted by part, they stand in the order of parts
pub sorted_numbered : (sorted : List NumberedTile) → IsSortedByKey (λ (e : NumberedTile). e.tile.part) nat_cmp sorted
    → AreInPartOrder (map (λ (e : NumberedTile). e.tile) sorted)
sorted_numbered sorted are = AllPairs-from_Pairwise (λ (a b : SetTile). a.part ≤ b.part) (map (λ (e : NumberedTile). e.tile) sorted)
    (Pairwise-map (λ (e : NumberedTile). e.tile) (λ (a b : SetTile). a.part ≤ b.part) sorted
    (Pairwise-from_AllPairs (λ (a b : NumberedTile). a.tile.part ≤ b.tile.part) sorted (λ i j d less inside.
    nat_cmp-not_less (get_or sorted j d).tile.part (get_or sorted i d).tile.part
    (IsSortedByKey-pairs (λ (e : NumberedTile). e.tile.part) nat_cmp nat_cmp_total sorted are i j d less inside))))
