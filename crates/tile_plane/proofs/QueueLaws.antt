-- A queue that begins with the tiles on the left side of an area and goes on with the followers of each gets all tiles that meet the area, each once.
use Rattle.tile_plane.proofs.Common.{◌≡◌, ◌⊎◌, inl, inr, ℕ, ◌<◌, ◌≤◌, ◌+◌, pos, ◌-ℤ◌, ◌≤ℤ◌, ◌<ℤ◌, List, [], ◌∷◌, ◌++◌, length, take, get_or, refl}
use Rattle.tile_plane.proofs.Common.{sym, ◌∙◌, subst, arith, ints, clamps, by_lt_z, get_or_default, take_all, take_more, get_or-take, length-take-le}
use Rattle.tile_plane.proofs.Common.{In, Distinct, Lists, extent, In-append_left, In-append_right, In-append_cases, In-push_cases, In-index, Rect}
use Rattle.tile_plane.proofs.Common.{LiesWithin, plane_range, Tiles, tile_at, IsPartition, square_at, Meets, IsOnSide, IsFollower, low_row}
use Rattle.std.proofs.Common.{zero, suc}
use Rattle.std.proofs.lemmas.List.{take-append-le}
use Rattle.geo_core.proofs.FiniteSets.Distincts.{Distinct-append, Distinct-places}
use Rattle.tile_plane.proofs.WalkLaws.{extent_falls_down}

-- the list goes on from tile to tile
record IsClosed (tiles : Tiles) (area : Rect) (list : List ℕ) : Type 0 where
  roots : (id : ℕ) → IsOnSide tiles area id → In id list
  followers : (a b : ℕ) → In a list → IsFollower tiles area a b → In b list

module _ (tiles : Tiles) (area : Rect) (partition : IsPartition tiles) (within : LiesWithin area plane_range) where
  -- a tile in the area is on its left side, or follows one that begins left of it
  parent : (id : ℕ) → Meets tiles area id → area.xlo <ℤ (tile_at tiles id).area.xlo
      → (a : ℕ) × IsFollower tiles area a id × Meets tiles area a × ((tile_at tiles a).area.xlo <ℤ (tile_at tiles id).area.xlo)
  parent id meets later =
      let c = meets.owns.covers in
      let d = meets.covers in
      let square = square_at ((tile_at tiles id).area.xlo -ℤ pos 1) (low_row tiles area id) in
      let found = partition.whole square
      (record {
        right_of_xlo = omega (arith, ints);
        left_of_xhi = omega (arith, ints);
        above_ylo = omega (arith, ints, clamps);
        below_yhi = omega (arith, ints, clamps);
      }) in
      let e = found.1.covers in (
        found.0,
        record { meets = meets; later = later; beside = found.1 },
        record {
          square = square;
          owns = found.1;
          covers = record {
            right_of_xlo = omega (arith, ints);
            left_of_xhi = omega (arith, ints);
            above_ylo = omega (arith, ints, clamps);
            below_yhi = omega (arith, ints, clamps);
          };
        },
        omega (arith, ints),
      )

  on_side : (id : ℕ) → Meets tiles area id → (tile_at tiles id).area.xlo ≤ℤ area.xlo → IsOnSide tiles area id
  on_side id meets here =
      let c = meets.owns.covers in
      let d = meets.covers in
      record {
        row = meets.square.y;
        from = d.above_ylo;
        to = d.below_yhi;
        owns = record { covers = record { right_of_xlo = here; left_of_xhi = omega (arith, ints); above_ylo = c.above_ylo; below_yhi = c.below_yhi } };
      }

  module _ (list : List ℕ) (closed : IsClosed tiles area list) where
    all_within : (n id : ℕ) → Meets tiles area id → extent area.xlo (tile_at tiles id).area.xlo ≤ n → In id list
    all_within zero id meets small = by_lt_z area.xlo (tile_at tiles id).area.xlo
        (λ later. let falls = extent_falls_down area.xlo area.xlo (tile_at tiles id).area.xlo later later in absurd (omega arith))
        (λ here. closed.roots id (on_side id meets here))
    all_within (suc n) id meets small = by_lt_z area.xlo (tile_at tiles id).area.xlo
        (λ later.
        let found = parent id meets later in
        let falls = extent_falls_down area.xlo (tile_at tiles found.0).area.xlo (tile_at tiles id).area.xlo found.3 later in
        closed.followers found.0 id (all_within n found.0 found.2 (omega arith)) found.1)
        (λ here. closed.roots id (on_side id meets here))

-- the followers of the tiles before the index stand in the queue, and all that stand there are on the left side or follow one of those
pub record IsQueue (tiles : Tiles) (area : Rect) (list : List ℕ) (index : ℕ) : Type 0 where
  pub meets : (id : ℕ) → In id list → Meets tiles area id
  pub distinct : Distinct list
  pub roots : (id : ℕ) → IsOnSide tiles area id → In id list
  pub followers : (a b : ℕ) → In a (take index list) → IsFollower tiles area a b → In b list
  pub source : (b : ℕ) → In b list → IsOnSide tiles area b ⊎ ((a : ℕ) × In a (take index list) × IsFollower tiles area a b)

module _ (tiles : Tiles) (area : Rect) (wide : area.xlo <ℤ area.xhi) where
  -- it begins with the left side
  pub queue_begins : (side : List ℕ) → Lists (IsOnSide tiles area) side → IsQueue tiles area side 0
  queue_begins side lists = record {
    meets = λ id i. (let on = lists.2 id i in let c = on.owns.covers in record {
      square = square_at area.xlo on.row;
      owns = on.owns;
      covers = record { right_of_xlo = omega (arith, ints); left_of_xhi = wide; above_ylo = on.from; below_yhi = on.to };
    });
    distinct = lists.0;
    roots = lists.1;
    followers = λ a b i follows. absurd i;
    source = λ b i. inl (lists.2 b i);
  }

-- what stands before the index in a list that has grown behind it
before_index : (list more : List ℕ) (index a : ℕ) → index < length list → In a (take (index + 1) (list ++ more))
    → In a (take index list) ⊎ (get_or list index a ≡ a)
before_index list more index a below i = In-push_cases a (take index list) (get_or list index a)
    (subst (In a) (take-append-le (index + 1) list more (omega arith) ∙ take_more list index a below) i)

still_before : (list more : List ℕ) (index a : ℕ) → index < length list → In a (take index list) → In a (take (index + 1) (list ++ more))
still_before list more index a below i =
    subst (In a) (sym (take-append-le (index + 1) list more (omega arith) ∙ take_more list index a below))
    (In-append_left a (take index list) (get_or list index a ∷ []) i)

now_before : (list more : List ℕ) (index d : ℕ) → index < length list → In (get_or list index d) (take (index + 1) (list ++ more))
now_before list more index d below =
    subst (In (get_or list index d)) (sym (take-append-le (index + 1) list more (omega arith) ∙ take_more list index d below))
    (In-append_right (get_or list index d) (take index list) (get_or list index d ∷ []) (inl refl))

-- a thing before the index is not the one there
not_at_index : (list : List ℕ) (index d : ℕ) → Distinct list → index < length list → In (get_or list index d) (take index list) → ⊥
not_at_index list index d distinct below i =
    let found = In-index (get_or list index d) (take index list) i in
    let k = found.0 in
    let short : k < index = omega (arith, found.1.0, length-take-le index list (omega arith)) in
    Distinct-places list k index d distinct short below (sym (get_or-take index list k d short) ∙ found.1.1 d)

-- one tile follows another alone
one_parent : (tiles : Tiles) (area : Rect) (a c b : ℕ) → IsPartition tiles → IsFollower tiles area a b → IsFollower tiles area c b → a ≡ c
one_parent tiles area a c b partition p q = partition.one a c (square_at ((tile_at tiles b).area.xlo -ℤ pos 1) (low_row tiles area b)) p.beside q.beside

module _ (tiles : Tiles) (area : Rect) (partition : IsPartition tiles) (list : List ℕ) (index id : ℕ) (queue : IsQueue tiles area list index)
    (below : index < length list) (here : id ≡ get_or list index id) (more : List ℕ) (lists : Lists (IsFollower tiles area id) more) where
  not_before : In id (take index list) → ⊥
  not_before i = not_at_index list index id queue.distinct below (subst (λ (v : ℕ). In v (take index list)) here i)

  at_index : (a : ℕ) → get_or list index a ≡ id
  at_index a = get_or_default list index a id below ∙ sym here

  -- a follower of the tile at the index does not stand in the queue yet
  is_new : (b : ℕ) → In b list → In b more → ⊥
  is_new b i j =
      let follows = lists.2 b j in
      elim (queue.source b i) [
        | inl on ↦ (let c = on.owns.covers in let later = follows.later in absurd (omega (arith, ints)))
        | inr (a, before, also) ↦ not_before (subst (λ (v : ℕ). In v (take index list)) (one_parent tiles area a id b partition also follows) before)
      ]

  -- with the followers of the tile at the index it goes on behind that one
  pub queue_goes_on : IsQueue tiles area (list ++ more) (index + 1)
  queue_goes_on = record {
    meets = λ b i. elim (In-append_cases b list more i) [ inl j ↦ queue.meets b j | inr j ↦ (lists.2 b j).meets ];
    distinct = Distinct-append list more queue.distinct lists.0 is_new;
    roots = λ b on. In-append_left b list more (queue.roots b on);
    followers = λ a b i follows. elim (before_index list more index a below i) [
      | inl before ↦ In-append_left b list more (queue.followers a b before follows)
      | inr at ↦ In-append_right b list more (lists.1 b (subst (λ (v : ℕ). IsFollower tiles area v b) (sym at ∙ at_index a) follows))
    ];
    source = λ b i. elim (In-append_cases b list more i) [
      | inl j ↦ elim (queue.source b j) [
        | inl on ↦ inl on
        | inr (a, before, follows) ↦ inr (a, still_before list more index a below before, follows)
      ]
      | inr j ↦ inr (id, subst (λ (v : ℕ). In v (take (index + 1) (list ++ more))) (sym here) (now_before list more index id below), lists.2 b j)
    ];
  }

-- where all have had their followers added, it has all tiles that meet the area
pub queue_ends : (tiles : Tiles) (area : Rect) (list : List ℕ) (index : ℕ) → IsPartition tiles → LiesWithin area plane_range → IsQueue tiles area list index
    → length list ≤ index → Lists (Meets tiles area) list
queue_ends tiles area list index partition within queue all =
    let closed : IsClosed tiles area list = record {
      roots = queue.roots;
      followers = λ a b i follows. queue.followers a b (subst (In a) (sym (take_all index list all)) i) follows;
    } in (
      queue.distinct,
      (λ id meets. all_within tiles area partition within list closed (extent area.xlo (tile_at tiles id).area.xlo) id meets
          (omega arith)),
      queue.meets,
    )
