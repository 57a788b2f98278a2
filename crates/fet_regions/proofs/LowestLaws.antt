-- Corners in order, and the first of each label among them.
use Rattle.fet_regions.proofs.Common.{◌≡◌, ◌≢◌, ℕ, ◌+◌, ◌<◌, pos, Bool, true, false, cond, List, [], ◌∷◌, ◌++◌, map, filter, length, get_or, inl}
use Rattle.fet_regions.proofs.Common.{inr, refl, sym, ◌∙◌, ap, subst, arith, slice_index, AllPairs, All, range_with_len, Ordering, false≢true}
use Rattle.fet_regions.proofs.Common.{cases_eq, cases_lt, ints, corner_of, square_is, In, In-index, In-get_or, In-map, In-map_source, In-filter}
use Rattle.fet_regions.proofs.Common.{In-filter_source, In-filter_passes, Place, RegionTile, tile_at, indices_of, Lists-indices_of, IsChannelTile}
use Rattle.fet_regions.proofs.Common.{corner_at, place_of, IsNoHigher, channel_corners, AreCorners, AreLowest, Corner}
use Rattle.std.proofs.Common.{get_or-set_same, get_or-set_other}
use Rattle.std.specs.Prelude.{IsPermutation, IsSorted}
use Rattle.std.specs.Cmp.{IsTotalOrder}
use Rattle.std.specs.Ordering.{is_lt, int_cmp, nat_cmp, ordering_then}
use Rattle.std.proofs.Math.ListN.{set, length-set, replicate}
use Rattle.std.proofs.lemmas.Cmp.{int_cmp_total, nat_cmp_total, on_total, then_total}
use Rattle.std.proofs.lemmas.List.{get_or-replicate, get_or_past, length-replicate}
use Rattle.std.proofs.lemmas.List.FromFn.{filter_of_map_range_with_len_more}
use Rattle.std.proofs.lemmas.List.Quantifiers.{all_pairs_push}
use Rattle.std.proofs.lemmas.List.Sorted.{IsPermutation-sym}
use Rattle.finite_sets.proofs.Members.{In-permutation, In-push}
use Rattle.finite_sets.proofs.Members.{In-push_cases, In-append_left}
use Rattle.finite_sets.proofs.Orders.{ordering_then-not_less, int_then-not_less, less_equal_or_greater, IsSorted-pairs, nat_then-not_less}

-- the order of corners
abbrev pub corner_cmp : Corner → Corner → Ordering
corner_cmp a b = ordering_then (nat_cmp a.plane b.plane) (ordering_then (int_cmp a.y b.y) (ordering_then (int_cmp a.x b.x) (nat_cmp a.tile b.tile)))

corner_cmp_total : IsTotalOrder corner_cmp
corner_cmp_total = then_total (on_total (λ c. c.plane) nat_cmp_total) (then_total (on_total (λ c. c.y) int_cmp_total)
    (then_total (on_total (λ c. c.x) int_cmp_total) (on_total (λ c. c.tile) nat_cmp_total)))

-- places of one plane and one square are one
pub place_same : (a b : Place) → a.plane ≡ b.plane → a.square ≡ b.square → a ≡ b
place_same a b e f = λ k. record { plane = e k; square = f k }

-- corners in order are places in order
no_higher : (tiles : List RegionTile) (i j : ℕ) → is_lt (corner_cmp (corner_at tiles j) (corner_at tiles i)) ≡ false → IsNoHigher tiles i j
no_higher tiles i j h =
    let a = tile_at tiles i in
    let b = tile_at tiles j in
    let last = ordering_then (int_cmp b.area.xlo a.area.xlo) (nat_cmp j i) in
    elim (nat_then-not_less a.plane b.plane (ordering_then (int_cmp b.area.ylo a.area.ylo) last) h) [
      | inl plane ↦ inr (inl plane)
      | inr (plane, rest) ↦ (elim (ordering_then-not_less a.area.ylo b.area.ylo last rest) [
        | inl row ↦ inr (inr (plane, inl row))
        | inr (row, along) ↦ (elim (less_equal_or_greater a.area.xlo b.area.xlo) [
          | inl left ↦ inr (inr (plane, inr (row, left)))
          | inr (inl column) ↦ inl (place_same (place_of a) (place_of b) plane (square_is (corner_of a.area) (corner_of b.area) column row))
          | inr (inr right) ↦ absurd (let le = int_then-not_less a.area.xlo b.area.xlo (nat_cmp j i) along in omega (arith, ints, le, right))
        ])
      ])
    ]

module _ (is_channel : ℕ → Bool) (tiles : List RegionTile) where
  abbrev test : Corner → Bool
  test corner = is_channel (tile_at tiles corner.tile).kind.0

  -- a corner of the list is that of its tile
  corner_is : (corner : Corner) → In corner (channel_corners is_channel tiles)
      → (corner ≡ corner_at tiles corner.tile) × IsChannelTile is_channel tiles corner.tile
  corner_is corner i =
      let source = In-map_source (corner_at tiles) corner (indices_of tiles) (In-filter_source test corner (map (corner_at tiles) (indices_of tiles)) i) in
      let tile : source.0 ≡ corner.tile = ap (λ (c : Corner). c.tile) source.1.1 in (
        sym source.1.1 ∙ ap (corner_at tiles) tile,
        record {
          within = subst (λ (k : ℕ). k < length tiles) tile ((Lists-indices_of tiles).2 source.0 source.1.0);
          channel = In-filter_passes test corner (map (corner_at tiles) (indices_of tiles)) i;
        },
      )

  -- corners that are sorted
  pub corners_sorted : (xs ys : List Corner) → xs ≡ channel_corners is_channel tiles → IsPermutation xs ys → IsSorted corner_cmp ys
      → AreCorners is_channel tiles ys
  corners_sorted xs ys is moved sorted =
      let back : (c : Corner) → In c ys → In c (channel_corners is_channel tiles) =
      (λ c i. subst (In c) is (In-permutation c ys xs (IsPermutation-sym xs ys moved) i)) in
      record {
        each = λ i channel. In-permutation (corner_at tiles i) xs ys moved (subst (In (corner_at tiles i)) (sym is)
            (In-filter test (corner_at tiles i) (map (corner_at tiles) (indices_of tiles))
            (In-map (corner_at tiles) i (indices_of tiles) ((Lists-indices_of tiles).1 i channel.within)) channel.channel));
        others = λ c i. (corner_is c (back c i)).1;
        in_order = λ k m d less below.
            let a = get_or ys k d in
            let b = get_or ys m d in
            let first : k < length ys = omega (arith, less, below) in
            let a_is = (corner_is a (back a (In-get_or ys k d first))).0 in
            let b_is = (corner_is b (back b (In-get_or ys m d below))).0 in
            let order = IsSorted-pairs corner_cmp corner_cmp_total ys sorted k m d less below in
            no_higher tiles a.tile b.tile (subst (λ (c : Corner). is_lt (corner_cmp c (corner_at tiles a.tile)) ≡ false) b_is
            (subst (λ (c : Corner). is_lt (corner_cmp b c) ≡ false) a_is order));
      }

-- one tile more that is of a channel
pub corners_taken : (is_channel : ℕ → Bool) (tiles : List RegionTile) (i : ℕ) (before now : List Corner) (t : Bool) → t ≡ is_channel (tile_at tiles i).kind.0
    → before ≡ filter (λ corner. is_channel (tile_at tiles corner.tile).kind.0) (map (corner_at tiles) (range_with_len 0 i))
    → now ≡ before ++ cond t (corner_at tiles i ∷ []) []
    → now ≡ filter (λ corner. is_channel (tile_at tiles corner.tile).kind.0) (map (corner_at tiles) (range_with_len 0 (i + 1)))
corners_taken is_channel tiles i before now t test e f =
    f ∙ (λ k. e k ++ cond (test k) (corner_at tiles i ∷ []) [])
    ∙ sym (filter_of_map_range_with_len_more (λ (corner : Corner). is_channel (tile_at tiles corner.tile).kind.0) (corner_at tiles) 0 i i (omega arith))

-- corners are of tiles of the list
pub corners_within : (is_channel : ℕ → Bool) (tiles : List RegionTile) (corners : List Corner) → AreCorners is_channel tiles corners
    → All (λ corner. corner.tile < length tiles) corners
corners_within is_channel tiles corners are = λ k d below. (are.others (get_or corners k d) (In-get_or corners k d below)).within

abbrev pub no_corner : Corner
no_corner = record { plane = 0; y = pos 0; x = pos 0; tile = 0 }

-- The first so many corners have been walked: which labels were seen, and of each the tile that came first.
pub record IsWalked (tiles : List RegionTile) (labels : List ℕ) (count : ℕ) (corners : List Corner) (i : ℕ) (seen : List Bool) (lowest : List ℕ) : Type 0 where
  pub so_many : length seen ≡ count
  pub marked : (k : ℕ) → k < i → get_or seen (slice_index labels (get_or corners k no_corner).tile) false ≡ true
  pub first : (label : ℕ) → get_or seen label false ≡ true → (t : ℕ) × (In t lowest × (slice_index labels t ≡ label))
  pub from : (t : ℕ) → In t lowest → (k : ℕ) × ((k < i) × (((get_or corners k no_corner).tile ≡ t)
      × ((m : ℕ) → m < k → slice_index labels (get_or corners m no_corner).tile ≢ slice_index labels t)))
  pub labels_differ : AllPairs (λ s t. slice_index labels s ≢ slice_index labels t) lowest
  pub in_order : AllPairs (IsNoHigher tiles) lowest

module _ (is_channel : ℕ → Bool) (tiles : List RegionTile) (labels : List ℕ) (count : ℕ) (corners : List Corner)
    (are : AreCorners is_channel tiles corners) where
  abbrev tile_of : ℕ → ℕ
  tile_of k = (get_or corners k no_corner).tile

  abbrev label_of : ℕ → ℕ
  label_of k = slice_index labels (tile_of k)

  -- none
  none_seen : (n label : ℕ) → get_or (replicate n false) label false ≡ false
  none_seen n label = elim (cases_lt label n) [
    | inl less ↦ get_or-replicate n label false false less
    | inr past ↦ (let long = length-replicate n false in get_or_past (replicate n false) label false (omega (arith, long, past)))
  ]

  pub walked_none : (seen : List Bool) (lowest : List ℕ) → seen ≡ replicate count false → lowest ≡ [] → IsWalked tiles labels count corners 0 seen lowest
  walked_none seen lowest is empty = subst (IsWalked tiles labels count corners 0 seen) (sym empty) (record {
    so_many = ap length is ∙ length-replicate count false;
    marked = λ k less. absurd (omega (arith, less));
    first = λ label e. absurd (false≢true (sym (ap (λ (v : List Bool). get_or v label false) is ∙ none_seen count label) ∙ e));
    from = λ t i. absurd i;
    labels_differ = λ k m d less below. absurd (omega (arith, below));
    in_order = λ k m d less below. absurd (omega (arith, below));
  })

  -- one of a label that was seen
  pub walked_seen : (i : ℕ) (seen : List Bool) (lowest : List ℕ) → IsWalked tiles labels count corners i seen lowest
      → get_or seen (label_of i) false ≡ true → IsWalked tiles labels count corners (i + 1) seen lowest
  walked_seen i seen lowest walked was = record {
    so_many = walked.so_many;
    marked = λ k less. elim (cases_eq k i) [
      | inl same ↦ subst (λ (m : ℕ). get_or seen (label_of m) false ≡ true) (sym same) was
      | inr differ ↦ walked.marked k (omega (arith, less, differ))
    ];
    first = walked.first;
    from = λ t among. let f = walked.from t among in let less = f.1.0 in (f.0, (omega (arith, less), f.1.1));
    labels_differ = walked.labels_differ;
    in_order = walked.in_order;
  }

  -- one of a label that was not
  pub walked_new : (i : ℕ) (seen : List Bool) (lowest : List ℕ) → IsWalked tiles labels count corners i seen lowest
      → i < length corners → label_of i < count → get_or seen (label_of i) false ≡ false
      → IsWalked tiles labels count corners (i + 1) (set seen (label_of i) true) (lowest ++ tile_of i ∷ [])
  walked_new i seen lowest walked inside below was =
      let label = label_of i in
      let long = walked.so_many in
      let within : label < length seen = omega (arith, below, long) in
      let here : get_or (set seen label true) label false ≡ true = rw get_or-set_same refl in
      let stays : (other : ℕ) → get_or seen other false ≡ true → get_or (set seen label true) other false ≡ true = λ other e. elim (cases_eq other label) [
        | inl same ↦ subst (λ (n : ℕ). get_or (set seen label true) n false ≡ true) (sym same) here
        | inr differ ↦ (let apart : other ≢ label = differ in rw get_or-set_other e)
      ] in
      let unlike : (t : ℕ) → In t lowest → slice_index labels t ≢ label = λ t among e.
      let f = walked.from t among in
      false≢true (sym was ∙ subst (λ (n : ℕ). get_or seen n false ≡ true) (ap (slice_index labels) f.1.1.0 ∙ e) (walked.marked f.0 f.1.0)) in
      record {
        so_many = length-set seen label true ∙ long;
        marked = λ k less. elim (cases_eq k i) [
          | inl same ↦ subst (λ (m : ℕ). get_or (set seen label true) (label_of m) false ≡ true) (sym same) here
          | inr differ ↦ stays (label_of k) (walked.marked k (omega (arith, less, differ)))
        ];
        first = λ other e. elim (cases_eq other label) [
          | inl same ↦ (tile_of i, (In-push lowest (tile_of i), sym same))
          | inr differ ↦
              (let apart : other ≢ label = differ in
              let before : get_or seen other false ≡ true = sym (get_or_other other apart) ∙ e in
              let f = walked.first other before in
              (f.0, (In-append_left f.0 lowest (tile_of i ∷ []) f.1.0, f.1.1)))
        ];
        from = λ t among. elim (In-push_cases t lowest (tile_of i) among) [
          | inl old ↦ (let f = walked.from t old in let less = f.1.0 in (f.0, (omega (arith, less), f.1.1)))
          | inr same ↦ (
            i,
            (
              omega arith,
              (
                same,
                (λ m less e.
                    false≢true (sym was ∙ subst (λ (n : ℕ). get_or seen n false ≡ true) (e ∙ ap (slice_index labels) (sym same)) (walked.marked m less))),
              ),
            ),
          )
        ];
        labels_differ = all_pairs_push (λ s t. slice_index labels s ≢ slice_index labels t) lowest (tile_of i) walked.labels_differ
            (λ k d less. unlike (get_or lowest k d) (In-get_or lowest k d less));
        in_order = all_pairs_push (IsNoHigher tiles) lowest (tile_of i) walked.in_order (λ k d less.
            let f = walked.from (get_or lowest k d) (In-get_or lowest k d less) in
            subst (λ (n : ℕ). IsNoHigher tiles n (tile_of i)) f.1.1.0 (are.in_order f.0 i no_corner f.1.0 inside));
      }
    where
      get_or_other : (other : ℕ) → other ≢ label_of i → get_or (set seen (label_of i) true) other false ≡ get_or seen other false
      get_or_other other apart = rw get_or-set_other refl

  -- all
  pub walked_all : (seen : List Bool) (lowest : List ℕ) → IsWalked tiles labels count corners (length corners) seen lowest
      → AreLowest is_channel tiles labels lowest
  walked_all seen lowest walked = record {
    channels = λ t among.
        let f = walked.from t among in
        subst (IsChannelTile is_channel tiles) f.1.1.0 (are.others (get_or corners f.0 no_corner) (In-get_or corners f.0 no_corner f.1.0));
    least = λ t j among channel same.
        let f = walked.from t among in
        let x = In-index (corner_at tiles j) corners (are.each j channel) in
        let tile : tile_of x.0 ≡ j = ap (λ (c : Corner). c.tile) (x.1.1 no_corner) in
        elim (cases_lt x.0 f.0) [
          | inl earlier ↦ absurd (f.1.1.1 x.0 earlier (ap (slice_index labels) tile ∙ same))
          | inr no_earlier ↦ (elim (cases_eq f.0 x.0) [
            | inl at ↦ inl (ap (λ (n : ℕ). place_of (tile_at tiles n)) (sym f.1.1.0 ∙ ap tile_of at ∙ tile))
            | inr differ ↦ subst (λ (n : ℕ). IsNoHigher tiles n j) f.1.1.0 (subst (λ (n : ℕ). IsNoHigher tiles (tile_of f.0) n) tile
                (are.in_order f.0 x.0 no_corner (omega (arith, no_earlier, differ)) x.1.0))
          ])
        ];
    every = λ j channel.
        let x = In-index (corner_at tiles j) corners (are.each j channel) in
        let tile : tile_of x.0 ≡ j = ap (λ (c : Corner). c.tile) (x.1.1 no_corner) in
        let f = walked.first (label_of x.0) (walked.marked x.0 x.1.0) in
        (f.0, (f.1.0, f.1.1 ∙ ap (slice_index labels) tile));
    labels_differ = walked.labels_differ;
    in_order = walked.in_order;
  }
