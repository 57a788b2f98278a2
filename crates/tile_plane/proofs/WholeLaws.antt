-- Lists of all tiles of a value, and the smallest rectangle round all that have one.
use Rattle.tile_plane.proofs.Common.{◌≡◌, ◌≢◌, ◌⊎◌, inl, inr, ℕ, ◌+◌, ◌<◌, ◌≤◌, ℤ, List, [], ◌∷◌, ◌++◌, length, map, get_or, false, Option, Some}
use Rattle.tile_plane.proofs.Common.{None, sym, ◌∙◌, ap, subst, arith, All, AllPairs, IsPermutation, IsSortedByKey, cases_eq, ints, map-append}
use Rattle.tile_plane.proofs.Common.{IsPermutation-sym, In, Lists, In-get_or, AllPairs-permutation, Square, Rect, Piece, AreDisjoint, IsNear}
use Rattle.tile_plane.proofs.Common.{LiesWithin, corner_of, joined_rect, IsProper, HasValue, IsBox, IsStrip, IsStrips, corner_key, pair_cmp}
use Rattle.tile_plane.proofs.Common.{sorted_by_corner, Tiles, tile_at, IsTaken, Owns, IsAfter, IsNextTile, value_at, inner_range, IsPlane}
use Rattle.std.specs.Ordering.{is_lt}
use Rattle.std.proofs.lemmas.Bool.{cases_lt}
use Rattle.std.proofs.lemmas.List.{get_or-map, length-map}
use Rattle.geo_core.proofs.FiniteSets.Members.{In-map, In-map_source, In-permutation}
use Rattle.geo_core.proofs.FiniteSets.Pairs.{AllPairs-from_Pairwise}
use Rattle.geo_core.specs.Strips.{StandsBefore}
use Rattle.geo_core.proofs.CoveringLaws.{joined_within, within_trans, within_joined_first, within_joined_second, within_covers}
use Rattle.tile_plane.proofs.TileLaws.{owner_taken}
use Rattle.tile_plane.proofs.ValueLaws.{value_of_owner}
use Rattle.tile_plane.proofs.FollowerLaws.{lists_push, lists_same}
use Rattle.tile_plane.proofs.MaterialLaws.{corner_owned, tile_within, near_from_inner, owner_of, tile_is_strip, strip_is_tile, tile_is_near}
use Rattle.tile_plane.proofs.PartLaws.{images_apart}

-- the key by which rectangles are sorted
abbrev pub rect_key : Rect → ℤ × ℤ
rect_key area = (area.ylo, area.xlo)

abbrev to_piece : Rect → Piece
to_piece area = record { area = area; value = 0 }

-- rectangles that lie apart and are sorted by their corners stand in the order of strips
module _ (areas : List Rect) where
  abbrev pieces : List Piece
  pieces = map to_piece areas

  long : length pieces ≡ length areas
  long = length-map areas to_piece

  at : (k : ℕ) (d : Piece) → k < length areas → (get_or pieces k d).area ≡ get_or areas k d.area
  at k d within = ap (λ (p : Piece). p.area) (get_or-map to_piece areas k d.area d within)

  sorted_pieces : IsSortedByKey rect_key pair_cmp areas → IsSortedByKey corner_key pair_cmp pieces
  sorted_pieces sorted k d low less =
      let here : k + 1 < length areas = omega (arith, long, less) in
      subst (λ (r : Rect). is_lt (pair_cmp (rect_key r) (corner_key (get_or pieces k d))) ≡ false) (sym (at (k + 1) d here))
      (subst (λ (r : Rect). is_lt (pair_cmp (rect_key (get_or areas (k + 1) d.area)) (rect_key r)) ≡ false) (sym (at k d (omega arith)))
      (sorted k d.area low here))

  sorted_rects : All IsProper areas → AllPairs AreDisjoint areas → IsSortedByKey rect_key pair_cmp areas → AllPairs StandsBefore areas
  sorted_rects proper apart sorted = λ i j d less within.
      let e : Piece = record { area = d; value = 0 } in
      subst (λ (r : Rect). StandsBefore r (get_or areas j d)) (at i e (omega arith)) (subst (λ (r : Rect). StandsBefore (get_or pieces i e).area r)
      (at j e within)
      (sorted_by_corner pieces
      (λ k f inside. subst IsProper (sym (at k f (omega (arith, long, inside)))) (proper k f.area (omega (arith, long, inside))))
      (λ k l f before inside. subst (λ (r : Rect). AreDisjoint r (get_or pieces l f).area) (sym (at k f (omega (arith, long, before, inside))))
      (subst (λ (r : Rect). AreDisjoint (get_or areas k f.area) r) (sym (at l f (omega (arith, long, inside))))
      (apart k l f.area before (omega (arith, long, inside)))))
      (sorted_pieces sorted) i j e less (omega (arith, long, within))))

-- the number does not come after the given one
abbrev pub IsPassed : Option ℕ → ℕ → Type 0
IsPassed None id = ⊥
IsPassed (Some last) id = id ≤ last

passed_or_after : (last : Option ℕ) (id : ℕ) → IsPassed last id ⊎ IsAfter last id
passed_or_after None id = inr tt
passed_or_after (Some last) id = elim (cases_lt last id) [ inl less ↦ inr less | inr no_less ↦ inl no_less ]

still_passed : (tiles : Tiles) (last : Option ℕ) (id k : ℕ) → IsNextTile tiles last (Some id) → IsPassed last k → k < id
still_passed tiles None id k next passed = absurd passed
still_passed tiles (Some last) id k next passed = let after = next.0 in omega arith

-- a tile that is passed next is the next one, or was passed
known : (tiles : Tiles) (last : Option ℕ) (id : ℕ) → IsNextTile tiles last (Some id) → (k : ℕ) → k ≤ id → IsTaken tiles k → IsPassed last k ⊎ (id ≡ k)
known tiles last id next k most taken = elim (passed_or_after last k) [
  | inl passed ↦ inl passed
  | inr after ↦ elim (cases_lt k id) [ inl less ↦ absurd (next.2 k after less taken) | inr no_less ↦ inr (omega arith) ]
]

-- where there is no next one, all are passed
all_passed : (tiles : Tiles) (last : Option ℕ) → IsNextTile tiles last None → (k : ℕ) → IsTaken tiles k → IsPassed last k
all_passed tiles last none k taken = elim (passed_or_after last k) [ inl passed ↦ passed | inr after ↦ absurd (none k after taken) ]

-- how many numbers there may be that are passed
abbrev pub passed_numbers : Option ℕ → ℕ
passed_numbers None = 0
passed_numbers (Some last) = last + 1

-- the areas of the tiles of a value that are passed
pub record AreTilesOf (tiles : Tiles) (value : ℕ) (last : Option ℕ) (found : List Rect) : Type 0 where
  pub ids : List ℕ
  pub lists : Lists (λ id. IsTaken tiles id × ((tile_at tiles id).value ≡ value) × IsPassed last id) ids
  pub are : found ≡ map (λ id. (tile_at tiles id).area) ids

module _ (tiles : Tiles) (value : ℕ) (last : Option ℕ) (id : ℕ) (found : List Rect) (next : IsNextTile tiles last (Some id))
    (so_far : AreTilesOf tiles value last found) where
  abbrev Passed : Option ℕ → ℕ → Type 0
  Passed to k = IsTaken tiles k × ((tile_at tiles k).value ≡ value) × IsPassed to k

  weaker : (k : ℕ) → Passed last k → Passed (Some id) k
  weaker k has = (has.0, has.1, (let less = still_passed tiles last id k next has.2 in omega arith))

  cases : (k : ℕ) → Passed (Some id) k → Passed last k ⊎ (id ≡ k)
  cases k has = elim (known tiles last id next k has.2 has.0) [ inl passed ↦ inl (has.0, has.1, passed) | inr e ↦ inr e ]

  pub tiles_go_on : (tile_at tiles id).value ≡ value → AreTilesOf tiles value (Some id) (found ++ (tile_at tiles id).area ∷ [])
  tiles_go_on is = record {
    ids = so_far.ids ++ id ∷ [];
    lists = lists_push (Passed last) (Passed (Some id)) so_far.ids id so_far.lists weaker (next.1, is, omega arith)
        (λ has. let less = still_passed tiles last id id next has.2 in omega arith) cases;
    are = ap (λ (v : List Rect). v ++ (tile_at tiles id).area ∷ []) so_far.are ∙ sym (map-append (λ k. (tile_at tiles k).area) so_far.ids (id ∷ []));
  }

  pub tiles_pass : ((tile_at tiles id).value ≡ value → ⊥) → AreTilesOf tiles value (Some id) found
  tiles_pass out = record {
    ids = so_far.ids;
    lists = lists_same (Passed last) (Passed (Some id)) so_far.ids so_far.lists weaker (λ k has. elim (cases k has) [
      | inl had ↦ had
      | inr e ↦ absurd (out (ap (λ (v : ℕ). (tile_at tiles v).value) e ∙ has.1))
    ]);
    are = so_far.are;
  }

module _ (tiles : Tiles) (plane : IsPlane tiles) (value : ℕ) (material : value ≢ 0) (last : Option ℕ) (found sorted : List Rect)
    (all : IsNextTile tiles last None) (are : AreTilesOf tiles value last found) (moved : IsPermutation found sorted)
    (in_order : IsSortedByKey rect_key pair_cmp sorted) where
  abbrev area_of : ℕ → Rect
  area_of id = (tile_at tiles id).area

  source : (area : Rect) → In area sorted → (id : ℕ) × IsTaken tiles id × ((tile_at tiles id).value ≡ value) × ((tile_at tiles id).area ≡ area)
  source area i =
      let s = In-map_source area_of area are.ids (subst (In area) are.are (In-permutation area sorted found (IsPermutation-sym found sorted moved) i)) in
      let has = are.lists.2 s.0 s.1.0 in
      (s.0, has.0, has.1, s.1.1)

  there : (id : ℕ) → IsTaken tiles id → (tile_at tiles id).value ≡ value → In (tile_at tiles id).area sorted
  there id taken is =
      In-permutation (area_of id) found sorted moved (subst (In (area_of id)) (sym are.are)
      (In-map area_of id are.ids (are.lists.1 id (taken, is, all_passed tiles last all id taken))))

  strip : (area : Rect) → In area sorted → IsStrip (HasValue (value_at tiles) value) area
  strip area i =
      let s = source area i in
      subst (IsStrip (HasValue (value_at tiles) value)) s.3
      (subst (λ (v : ℕ). IsStrip (HasValue (value_at tiles) v) (area_of s.0)) s.2 (tile_is_strip tiles plane s.0 s.1 (λ e. material (sym s.2 ∙ e))))

  apart : AllPairs AreDisjoint sorted
  apart = AllPairs-permutation AreDisjoint (λ a b h square c d. h square d c) found sorted moved
      (subst (AllPairs AreDisjoint) (sym are.are) (AllPairs-from_Pairwise AreDisjoint (map area_of are.ids)
      (images_apart tiles plane.partition area_of (λ (r : Rect). r) (λ id square c. record { covers = c }) are.ids are.lists.0)))

  pub strips_listed : IsStrips (HasValue (value_at tiles) value) sorted
  strips_listed = record {
    each = strip;
    every = λ area is. (let t = strip_is_tile tiles plane value area material is in subst (λ (r : Rect). In r sorted) t.3 (there t.0 t.1 t.2));
    whole = λ square has. (
        let t = owner_of tiles plane square (λ e. material (sym has ∙ e)) in
        (area_of t.0, (there t.0 (owner_taken tiles t.0 square t.1) (sym (value_of_owner tiles t.0 square plane.partition t.1) ∙ has), t.1.covers)));
    ordered = sorted_rects sorted (λ k d within. let s = source (get_or sorted k d) (In-get_or sorted k d within) in subst IsProper s.3 s.1.proper) apart
        in_order;
  }

  pub strips_near : All IsNear sorted
  strips_near = λ k d within. (
      let s = source (get_or sorted k d) (In-get_or sorted k d within) in
      subst IsNear s.3 (tile_is_near tiles plane s.0 s.1 (λ e. material (sym s.2 ∙ e))))

-- the rectangle goes round all tiles with a value that are passed, and is the smallest that does
pub record IsBoxSoFar (tiles : Tiles) (last : Option ℕ) (box : Rect) : Type 0 where
  pub id : ℕ
  pub taken : IsTaken tiles id
  pub material : (tile_at tiles id).value ≢ 0
  pub round : (k : ℕ) → IsPassed last k → IsTaken tiles k → (tile_at tiles k).value ≢ 0 → LiesWithin (tile_at tiles k).area box
  pub least : (area : Rect) → ((k : ℕ) → IsTaken tiles k → (tile_at tiles k).value ≢ 0 → LiesWithin (tile_at tiles k).area area) → LiesWithin box area

-- there is none only where no tile has a value
abbrev pub BoxSoFar : Tiles → Option ℕ → Option Rect → Type 0
BoxSoFar tiles last None = (k : ℕ) → IsPassed last k → IsTaken tiles k → (tile_at tiles k).value ≡ 0
BoxSoFar tiles last (Some box) = IsBoxSoFar tiles last box

within_itself : (a : Rect) → LiesWithin a a
within_itself a = record {
  right_of_xlo = omega (arith, ints);
  above_ylo = omega (arith, ints);
  left_of_xhi = omega (arith, ints);
  below_yhi = omega (arith, ints);
}

module _ (tiles : Tiles) (last : Option ℕ) (id : ℕ) (next : IsNextTile tiles last (Some id)) where
  module _ (material : (tile_at tiles id).value ≢ 0) where
    pub box_begins : BoxSoFar tiles last None → BoxSoFar tiles (Some id) (Some (tile_at tiles id).area)
    box_begins none = record {
      id = id;
      taken = next.1;
      material = material;
      round = λ k most had some. elim (known tiles last id next k most had) [
        | inl passed ↦ absurd (some (none k passed had))
        | inr e ↦ subst (λ (v : ℕ). LiesWithin (tile_at tiles v).area (tile_at tiles id).area) e (within_itself (tile_at tiles id).area)
      ];
      least = λ area each. each id next.1 material;
    }

    pub box_grows : (box : Rect) → BoxSoFar tiles last (Some box) → BoxSoFar tiles (Some id) (Some (joined_rect box (tile_at tiles id).area))
    box_grows box so_far =
        let own = (tile_at tiles id).area in
        record {
          id = id;
          taken = next.1;
          material = material;
          round = λ k most had some. elim (known tiles last id next k most had) [
            | inl passed ↦ within_trans (tile_at tiles k).area box (joined_rect box own) (so_far.round k passed had some) (within_joined_first box own)
            | inr e ↦ subst (λ (v : ℕ). LiesWithin (tile_at tiles v).area (joined_rect box own)) e (within_joined_second box own)
          ];
          least = λ area each. joined_within box own area (so_far.least area each) (each id next.1 material);
        }

  pub box_passes : (tile_at tiles id).value ≡ 0 → (found : Option Rect) → BoxSoFar tiles last found → BoxSoFar tiles (Some id) found
  box_passes zero None none = λ k most had. elim (known tiles last id next k most had) [
    | inl passed ↦ none k passed had
    | inr e ↦ ap (λ (v : ℕ). (tile_at tiles v).value) (sym e) ∙ zero
  ]
  box_passes zero (Some box) so_far = record {
    id = so_far.id;
    taken = so_far.taken;
    material = so_far.material;
    round = λ k most had some. elim (known tiles last id next k most had) [
      | inl passed ↦ so_far.round k passed had some
      | inr e ↦ absurd (some (ap (λ (v : ℕ). (tile_at tiles v).value) (sym e) ∙ zero))
    ];
    least = so_far.least;
  }

module _ (tiles : Tiles) (plane : IsPlane tiles) (last : Option ℕ) (all : IsNextTile tiles last None) where
  own_value : (k : ℕ) (square : Square) → Owns tiles k square → (tile_at tiles k).value ≡ value_at tiles square
  own_value k square owns = sym (value_of_owner tiles k square plane.partition owns)

  pub no_box : BoxSoFar tiles last None → (square : Square) → value_at tiles square ≡ 0
  no_box none square = elim (cases_eq (value_at tiles square) 0) [
    | inl zero ↦ zero
    | inr some ↦ (
        let t = owner_of tiles plane square some in
        let taken = owner_taken tiles t.0 square t.1 in
        sym (own_value t.0 square t.1) ∙ none t.0 (all_passed tiles last all t.0 taken) taken)
  ]

  pub box_found : (box : Rect) → IsBoxSoFar tiles last box → IsBox (value_at tiles) box
  box_found box so_far =
      let corner = corner_of (tile_at tiles so_far.id).area in
      record {
        square = corner;
        material = λ e. so_far.material (own_value so_far.id corner (corner_owned tiles so_far.id so_far.taken) ∙ e);
        covers = λ square some.
            let t = owner_of tiles plane square some in
            let taken = owner_taken tiles t.0 square t.1 in
            within_covers (tile_at tiles t.0).area box square
            (so_far.round t.0 (all_passed tiles last all t.0 taken) taken (λ e. some (sym (own_value t.0 square t.1) ∙ e))) t.1.covers;
        least = λ area each. so_far.least area (λ k taken some.
            tile_within tiles k area taken (λ square owns. each square (λ e. some (own_value k square owns ∙ e))));
      }

  pub box_near : (box : Rect) → IsBoxSoFar tiles last box → IsNear box
  box_near box so_far =
      let within = so_far.least inner_range (λ k taken some.
      tile_within tiles k inner_range taken (λ square owns. plane.space square (λ e. some (own_value k square owns ∙ e)))) in
      let round = so_far.round so_far.id (all_passed tiles last all so_far.id so_far.taken) so_far.taken so_far.material in
      let proper = so_far.taken.proper in
      near_from_inner box (record { wide = omega (arith, ints); high = omega (arith, ints) }) within
