-- The first tiles of classes, among tiles in the order of places.
use Rattle.names.proofs.Common.{◌≡◌, ◌≢◌, ◌<◌, ◌+◌, ◌⊎◌, ℕ, Bool, true, false, List, [], ◌∷◌, ◌++◌, length, get_or, inl, inr, arith, refl, sym}
use Rattle.names.proofs.Common.{subst, ◌∙◌, ap, AllPairs, IsPermutation, nat_cmp, cases_eq, false≢true, ints, all_pairs_push, IsPermutation-sym, In}
use Rattle.names.proofs.Common.{In-get_or, In-index, In-push_cases, In-push, In-append_left, In-permutation, IsNoLater, RegionTile, tile_at, no_tile}
use Rattle.names.proofs.Common.{corner_place, class_of, IsFirstTile, AreFirstTiles}
use Rattle.std.proofs.Common.{◌↔◌, ℤ, Ordering, set}
use Rattle.std.specs.Cmp.{IsTotalOrder}
use Rattle.std.specs.List.Sorted.{IsSortedByKey}
use Rattle.std.specs.Ordering.{int_cmp, ordering_then}
use Rattle.std.proofs.lemmas.Cmp.{nat_cmp_total, int_cmp_total, on_total, then_total}
use Rattle.std.proofs.lemmas.List.{get_or-set_same, get_or-set_other, length-set}
use Rattle.geo_core.proofs.FiniteSets.Orders.{int_cmp-not_less, ordering_then-not_less, IsSortedByKey-pairs, nat_then-not_less}
use Rattle.names.proofs.PlaceOrders.{no_later_by_parts}
use Rattle.names.proofs.TakingLaws.{IsSeen}

-- the key by which tiles are sorted, and its order
abbrev pub place_key : RegionTile → ℕ × (ℤ × ℤ)
place_key tile = (tile.plane, (tile.area.ylo, tile.area.xlo))

-- by the plane, the row and the column
abbrev pub key_cmp : ℕ × (ℤ × ℤ) → ℕ × (ℤ × ℤ) → Ordering
key_cmp a b = ordering_then (nat_cmp a.0 b.0) (ordering_then (int_cmp a.1.0 b.1.0) (int_cmp a.1.1 b.1.1))

key_cmp_total : IsTotalOrder key_cmp
key_cmp_total = then_total (on_total (λ (k : ℕ × (ℤ × ℤ)). k.0) nat_cmp_total)
    (on_total (λ (k : ℕ × (ℤ × ℤ)). k.1) (then_total (on_total (λ (k : ℤ × ℤ). k.0) int_cmp_total) (on_total (λ (k : ℤ × ℤ). k.1) int_cmp_total)))

-- tiles sorted by their keys are in the order of places
pub sorted_places : (tiles : List RegionTile) → IsSortedByKey place_key key_cmp tiles → AllPairs (λ a b. IsNoLater (corner_place a) (corner_place b)) tiles
sorted_places tiles sorted = λ i j d less below.
    let a = get_or tiles i d in
    let b = get_or tiles j d in
    elim (nat_then-not_less a.plane b.plane _ (IsSortedByKey-pairs place_key key_cmp key_cmp_total tiles sorted i j d less below)) [
      | inl lower ↦ inr (inl lower)
      | inr (plane, rest) ↦ elim (ordering_then-not_less a.area.ylo b.area.ylo _ rest) [
        | inl lower ↦ inr (inr (plane, inl lower))
        | inr (row, column) ↦ no_later_by_parts a.plane b.plane a.area.xlo a.area.ylo b.area.xlo b.area.ylo plane (int_cmp-not_less a.area.xlo b.area.xlo
            column) (omega (arith, ints))
      ]
    ]

-- the same first tiles, of tiles with another fact
pub AreFirstTiles-iff : (classes : List ℕ) (P Q : RegionTile → Type 0) (firsts : List RegionTile) → ((tile : RegionTile) → P tile → Q tile)
    → ((tile : RegionTile) → Q tile → P tile) → AreFirstTiles classes P firsts → AreFirstTiles classes Q firsts
AreFirstTiles-iff classes P Q firsts there back are = record {
  sound = λ first among. let is = are.sound first among in record {
    among = there first is.among;
    least = λ tile q same. is.least tile (back tile q) same;
  };
  whole = λ tile q. are.whole tile (back tile q);
  in_order = are.in_order;
}

-- of the same tiles in another order
pub firsts_moved : (classes : List ℕ) (tiles sorted firsts : List RegionTile) → IsPermutation tiles sorted
    → AreFirstTiles classes (λ tile. In tile sorted) firsts
    → AreFirstTiles classes (λ tile. In tile tiles) firsts
firsts_moved classes tiles sorted firsts moved are = AreFirstTiles-iff classes (λ tile. In tile sorted) (λ tile. In tile tiles) firsts
    (λ tile i. In-permutation tile sorted tiles (IsPermutation-sym tiles sorted moved) i) (λ tile i. In-permutation tile tiles sorted moved i) are

module _ (classes : List ℕ) (tiles : List RegionTile) where
  -- one of the first tiles is of the class
  abbrev pub IsClassSeen : ℕ → ℕ → Type 0
  IsClassSeen n class = (k : ℕ) × ((k < n) × (class_of classes (tile_at tiles k) ≡ class))

  -- The marks of the classes of the first tiles are set.
  pub record AreMarked (n count : ℕ) (marks : List Bool) : Type 0 where
    pub one_each : length marks ≡ count
    pub marked : (class : ℕ) (d : Bool) → class < count → (get_or marks class d ≡ true) ↔ IsClassSeen n class

  -- no mark is set
  pub marked_none : (count : ℕ) (marks : List Bool) → length marks ≡ count → ((class : ℕ) (mark : Bool) → class < count → get_or marks class mark ≡ false)
      → AreMarked 0 count marks
  marked_none count marks many unset = record {
    one_each = many;
    marked = λ class d below. ((λ set. absurd (false≢true (sym (unset class d below) ∙ set))), (λ seen. let less = seen.1.0 in absurd (omega arith)));
  }

  class_seen_more : (n class : ℕ) → IsClassSeen n class → IsClassSeen (n + 1) class
  class_seen_more n class seen = let less = seen.1.0 in (seen.0, (omega arith, seen.1.1))

  class_seen_cases : (n class : ℕ) → IsClassSeen (n + 1) class → IsClassSeen n class ⊎ (class_of classes (tile_at tiles n) ≡ class)
  class_seen_cases n class seen = let less = seen.1.0 in elim (cases_eq seen.0 n) [
    | inl at ↦ inr (sym (ap (λ (k : ℕ). class_of classes (tile_at tiles k)) at) ∙ seen.1.1)
    | inr other ↦ inl (seen.0, (omega arith, seen.1.1))
  ]

  -- a tile of a class that is marked
  pub marked_again : (n count : ℕ) (marks : List Bool) (d : Bool) → class_of classes (tile_at tiles n) < count
      → get_or marks (class_of classes (tile_at tiles n)) d ≡ true → AreMarked n count marks → AreMarked (n + 1) count marks
  marked_again n count marks d in_range set are = record {
    one_each = are.one_each;
    marked = λ class e below. (
      (λ mark. class_seen_more n class ((are.marked class e below).0 mark)),
      (λ seen. elim (class_seen_cases n class seen) [
        | inl before ↦ (are.marked class e below).1 before
        | inr same ↦ (are.marked class e below).1 (subst (IsClassSeen n) same ((are.marked (class_of classes (tile_at tiles n)) d in_range).0 set))
      ]),
    );
  }

  -- a tile of a class that is then marked
  pub marked_new : (n count : ℕ) (marks : List Bool) → class_of classes (tile_at tiles n) < count → AreMarked n count marks
      → AreMarked (n + 1) count (set marks (class_of classes (tile_at tiles n)) true)
  marked_new n count marks in_range are =
      let mine = class_of classes (tile_at tiles n) in
      let many = are.one_each in
      record {
        one_each = length-set marks mine true ∙ many;
        marked = λ class e below. elim (cases_eq class mine) [
          | inl same ↦ (
            (λ mark. (n, (omega arith, sym same))),
            (λ seen. ap (λ (k : ℕ). get_or (set marks mine true) k e) same ∙ get_or-set_same marks mine true e (omega (arith, many, in_range))),
          )
          | inr other ↦ (
            (λ mark. class_seen_more n class ((are.marked class e below).0 (sym (get_or-set_other marks mine class true e other) ∙ mark))),
            (λ seen. get_or-set_other marks mine class true e other ∙ (are.marked class e below).1 (elim (class_seen_cases n class seen) [
              | inl before ↦ before
              | inr same ↦ absurd (other (sym same))
            ])),
          )
        ];
      }

  seen_more : (n : ℕ) (tile : RegionTile) → IsSeen tiles n tile → IsSeen tiles (n + 1) tile
  seen_more n tile seen = let below = seen.below in record { index = seen.index; below = omega arith; is = seen.is }

  seen_cases : (n : ℕ) (tile : RegionTile) → IsSeen tiles (n + 1) tile → IsSeen tiles n tile ⊎ (tile_at tiles n ≡ tile)
  seen_cases n tile seen = let below = seen.below in elim (cases_eq seen.index n) [
    | inl at ↦ inr (sym (ap (tile_at tiles) at) ∙ seen.is)
    | inr other ↦ inl (record { index = seen.index; below = omega arith; is = seen.is })
  ]

  class_of_seen : (n : ℕ) (tile : RegionTile) → IsSeen tiles n tile → IsClassSeen n (class_of classes tile)
  class_of_seen n tile seen = (seen.index, (seen.below, ap (class_of classes) seen.is))

  -- no tile was looked at
  pub firsts_none : (firsts : List RegionTile) → firsts ≡ [] → AreFirstTiles classes (IsSeen tiles 0) firsts
  firsts_none firsts none = subst (AreFirstTiles classes (IsSeen tiles 0)) (sym none) (record {
    sound = λ first among. absurd among;
    whole = λ tile seen. let below = seen.below in absurd (omega arith);
    in_order = λ i j d less below. absurd (omega arith);
  })

  module _ (sorted : AllPairs (λ a b. IsNoLater (corner_place a) (corner_place b)) tiles) (n : ℕ) (below : n < length tiles) (firsts : List RegionTile)
      (are : AreFirstTiles classes (IsSeen tiles n) firsts) where
    -- a tile that was looked at comes no later than the next
    before_next : (tile : RegionTile) → IsSeen tiles n tile → IsNoLater (corner_place tile) (corner_place (tile_at tiles n))
    before_next tile seen = subst (λ (t : RegionTile). IsNoLater (corner_place t) (corner_place (tile_at tiles n))) seen.is
        (sorted seen.index n no_tile seen.below below)

    -- the first tile of a class still is its first
    still_first : (first : RegionTile) → In first firsts → IsFirstTile classes (IsSeen tiles (n + 1)) first
    still_first first among = let is = are.sound first among in record {
      among = seen_more n first is.among;
      least = λ tile seen same. elim (seen_cases n tile seen) [
        | inl before ↦ is.least tile before same
        | inr next ↦ subst (λ (t : RegionTile). IsNoLater (corner_place first) (corner_place t)) next (before_next first is.among)
      ];
    }

    -- the next tile is of a class that was seen
    pub firsts_again : IsClassSeen n (class_of classes (tile_at tiles n)) → AreFirstTiles classes (IsSeen tiles (n + 1)) firsts
    firsts_again known = record {
      sound = still_first;
      whole = λ tile seen. elim (seen_cases n tile seen) [
        | inl before ↦ are.whole tile before
        | inr next ↦
            let first = are.whole (tile_at tiles known.0) (record { index = known.0; below = known.1.0; is = refl }) in
            (first.0, first.1, first.2 ∙ known.1.1 ∙ ap (class_of classes) next)
      ];
      in_order = are.in_order;
    }

    -- the next tile is the first of its class
    pub firsts_new : (new : List RegionTile) → (IsClassSeen n (class_of classes (tile_at tiles n)) → ⊥) → new ≡ firsts ++ tile_at tiles n ∷ []
        → AreFirstTiles classes (IsSeen tiles (n + 1)) new
    firsts_new new fresh added = subst (AreFirstTiles classes (IsSeen tiles (n + 1))) (sym added) (record {
      sound = λ first among. elim (In-push_cases first firsts (tile_at tiles n) among) [
        | inl before ↦ still_first first before
        | inr same ↦ subst (IsFirstTile classes (IsSeen tiles (n + 1))) same (record {
          among = record { index = n; below = omega arith; is = refl };
          least = λ tile seen class. elim (seen_cases n tile seen) [
            | inl earlier ↦ absurd (fresh (subst (IsClassSeen n) class (class_of_seen n tile earlier)))
            | inr next ↦ inl (ap corner_place next)
          ];
        })
      ];
      whole = λ tile seen. elim (seen_cases n tile seen) [
        | inl before ↦ let first = are.whole tile before in (first.0, In-append_left first.0 firsts (tile_at tiles n ∷ []) first.1, first.2)
        | inr next ↦ (tile_at tiles n, In-push firsts (tile_at tiles n), ap (class_of classes) next)
      ];
      in_order = all_pairs_push (λ a b. IsNoLater (corner_place a) (corner_place b) × (class_of classes a ≢ class_of classes b)) firsts (tile_at tiles n)
          are.in_order (λ k d inside.
          let first = get_or firsts k d in
          let is = are.sound first (In-get_or firsts k d inside) in
          (before_next first is.among, (λ same. fresh (subst (IsClassSeen n) same (class_of_seen n first is.among)))));
    })

  -- all tiles were looked at
  pub firsts_all : (n : ℕ) (firsts : List RegionTile) → n ≡ length tiles → AreFirstTiles classes (IsSeen tiles n) firsts
      → AreFirstTiles classes (λ tile. In tile tiles) firsts
  firsts_all n firsts all are = AreFirstTiles-iff classes (IsSeen tiles n) (λ tile. In tile tiles) firsts
      (λ tile seen. let less = seen.below in subst (λ (t : RegionTile). In t tiles) seen.is (In-get_or tiles seen.index no_tile (omega arith)))
      (λ tile among. let at = In-index tile tiles among in let less = at.1.0 in record { index = at.0; below = omega arith; is = at.1.1 no_tile })
      are
