-- Pieces of several planes: what they show, what becomes of planes that they are put on, and that tiles which were taken out show what
-- stood there.
use Rattle.cell_paint.proofs.Common.{◌≡◌, ◌≢◌, ◌⊎◌, inl, inr, ℕ, ◌+◌, ◌<◌, ◌≤◌, true, false, Bool, ◌&&◌, List, [], ◌∷◌, ◌++◌, length, map, refl, sym}
use Rattle.cell_paint.proofs.Common.{◌∙◌, ap, subst, arith, Vec, if◌then◌else◌, Global, cases_Bool, cases_eq, cases_lt, eqb-true, eq-eqb, ne_eqb}
use Rattle.cell_paint.proofs.Common.{true≢false, In, In-map, In-map_source, Square, Rect, Piece, IsNear, LiesWithin, corner_of, Covers, is_covered}
use Rattle.cell_paint.proofs.Common.{IsProper, AreSet, AreTilesIn, Covers-is_covered, is_covered-Covers, corner_covered, within_covers, tile_value}
use Rattle.cell_paint.proofs.Common.{tile_inside, tiles_apart, TypeRec, ArePiecesIn, Place, Layout, place_at, kinds_on, PlaneValue, layout_on}
use Rattle.cell_paint.proofs.Common.{IsSoundPaint, AreCellPlanes, pieces_on, with_pieces, CanStandIn, IsSettable, AreAllSet, AreChanges}
use Rattle.cell_paint.proofs.Common.{AreAllChanges}
use Rattle.std.proofs.Common.{cond, ◌==◌, filter}
use Rattle.std.proofs.lemmas.Bool.{and_parts, and_from}
use Rattle.std.proofs.lemmas.List.{append-nil, map-append}
use Rattle.std.proofs.lemmas.List.Elements.{filter-append}
use Rattle.geo_core.proofs.FiniteSets.Members.{In-append_cases, In-filter, In-filter_source, In-filter_passes}
use Rattle.geo_core.proofs.FiniteSets.Pairs.{Pairwise, Pairwise-append, AllPairs-from_Pairwise}
use Rattle.geo_core.proofs.FiniteSets.Searches.{All-In, All-from_In}
use Rattle.cell_paint.specs.Pieces.{kind_by, AreTakenOut}
use Rattle.cell_paint.proofs.AreaLaws.{near_within}
use Rattle.cell_paint.proofs.PaintLaws.{whole_sound, changed_to, all_set_from}
use Rattle.cell_paint.proofs.PlaneLaws.{space_past}

-- ---- the pieces of one plane

abbrev is_on : ℕ → ℕ × Piece → Bool
is_on plane entry = entry.0 == plane

abbrev piece_of : ℕ × Piece → Piece
piece_of entry = entry.1

-- a piece of a plane stands in the list with its number
pub on_plane_source : (pieces : List (ℕ × Piece)) (plane : ℕ) (piece : Piece) → In piece (pieces_on pieces plane) → In (plane, piece) pieces
on_plane_source pieces plane piece i =
    let source = In-map_source piece_of piece (filter (is_on plane) pieces) i in
    let there = In-filter_source (is_on plane) source.0 pieces source.1.0 in
    let number : source.0.0 ≡ plane = eqb-true source.0.0 plane (In-filter_passes (is_on plane) source.0 pieces source.1.0) in
    let same : source.0.1 ≡ piece = source.1.1 in
    subst (λ (n : ℕ). In (n, piece) pieces) number (subst (λ (p : Piece). In (source.0.0, p) pieces) same there)

-- what stands in the list with the number of a plane is a piece of the plane
pub on_plane : (pieces : List (ℕ × Piece)) (plane : ℕ) (piece : Piece) → In (plane, piece) pieces → In piece (pieces_on pieces plane)
on_plane pieces plane piece i =
    In-map piece_of (plane, piece) (filter (is_on plane) pieces) (In-filter (is_on plane) (plane, piece) pieces i (eq-eqb plane plane refl))

-- none where no number is that of the plane
none_on_plane : (pieces : List (ℕ × Piece)) (plane : ℕ) → ((entry : ℕ × Piece) → In entry pieces → entry.0 ≢ plane) → pieces_on pieces plane ≡ []
none_on_plane [] plane other = refl
none_on_plane (entry ∷ pieces) plane other =
    ap (λ (b : Bool). map piece_of (cond b (entry ∷ filter (is_on plane) pieces) (filter (is_on plane) pieces)))
    (ne_eqb entry.0 plane (other entry (inl refl)))
    ∙ none_on_plane pieces plane (λ more later. other more (inr later))

-- all of them where all numbers are
all_on_plane : (tiles : List Piece) (plane : ℕ) → pieces_on (map (λ tile. (plane, tile)) tiles) plane ≡ tiles
all_on_plane [] plane = refl
all_on_plane (tile ∷ tiles) plane =
    let rest : List (ℕ × Piece) = map (λ (t : Piece). (plane, t)) tiles in
    ap (λ (b : Bool). map piece_of (cond b ((plane, tile) ∷ filter (is_on plane) rest) (filter (is_on plane) rest))) (eq-eqb plane plane refl)
    ∙ ap (λ (list : List Piece). tile ∷ list) (all_on_plane tiles plane)

-- ---- what pieces show

abbrev is_shown : Place → ℕ × Piece → Bool
is_shown place entry = (entry.0 == place.plane) && is_covered entry.1.area place.square

-- the first piece that covers the place gives its type, or none does
first_there : (pieces : List (ℕ × Piece)) (place : Place)
    → ((entry : ℕ × Piece) × In entry pieces × (is_shown place entry ≡ true) × (kind_by pieces place ≡ entry.1.value))
    ⊎ (((entry : ℕ × Piece) → In entry pieces → is_shown place entry ≡ false) × (kind_by pieces place ≡ 0))
first_there [] place = inr ((λ entry none. absurd none), refl)
first_there (first ∷ pieces) place =
    let now : Bool → ℕ = λ b. if b then first.1.value else kind_by pieces place in
    elim (cases_Bool (is_shown place first)) [
      | inl shown ↦ inl (first, inl refl, shown, ap now shown)
      | inr hidden ↦ elim (first_there pieces place) [
        | inl later ↦ inl (later.0, inr later.1, later.2, ap now hidden ∙ later.3)
        | inr none ↦ inr (
          (λ entry i. elim i [ inl same ↦ subst (λ (e : ℕ × Piece). is_shown place e ≡ false) same hidden | inr later ↦ none.0 entry later ]),
          ap now hidden ∙ none.1,
        )
      ]
    ]

-- a piece of the plane covers the square and has its type, or none covers it and there is space
pub shown_by : (pieces : List (ℕ × Piece)) (place : Place)
    → ((piece : Piece) × In piece (pieces_on pieces place.plane) × Covers piece.area place.square × (kind_by pieces place ≡ piece.value))
    ⊎ (((piece : Piece) → In piece (pieces_on pieces place.plane) → Covers piece.area place.square → ⊥) × (kind_by pieces place ≡ 0))
shown_by pieces place = elim (first_there pieces place) [
  | inl found ↦
      let parts = and_parts (found.0.0 == place.plane) (is_covered found.0.1.area place.square) found.2 in
      let there = subst (λ (n : ℕ). In (n, found.0.1) pieces) (eqb-true found.0.0 place.plane parts.0) found.1 in
      inl (found.0.1, on_plane pieces place.plane found.0.1 there, Covers-is_covered found.0.1.area place.square parts.1, found.3)
  | inr none ↦ inr (
    (λ piece i covers.
        true≢false (sym (and_from (place.plane == place.plane) (is_covered piece.area place.square) (eq-eqb place.plane place.plane refl)
        (is_covered-Covers piece.area place.square covers))
        ∙ none.0 (place.plane, piece) (on_plane_source pieces place.plane piece i))),
    none.1,
  )
]

-- in the area a layout with pieces shows them
pub pieces_inside : (area : Rect) (pieces : List (ℕ × Piece)) (layout : Layout) (place : Place) → is_covered area place.square ≡ true
    → with_pieces area pieces layout place ≡ kind_by pieces place
pieces_inside area pieces layout place is = ap (λ (b : Bool). if b then kind_by pieces place else layout place) is

-- and elsewhere what it had
pub pieces_outside : (area : Rect) (pieces : List (ℕ × Piece)) (layout : Layout) (place : Place) → is_covered area place.square ≡ false
    → with_pieces area pieces layout place ≡ layout place
pieces_outside area pieces layout place is = ap (λ (b : Bool). if b then kind_by pieces place else layout place) is

-- ---- pieces that are put back

-- set on a plane without paint they show what they do
pub set_on_space : (pieces : List (ℕ × Piece)) (plane : ℕ) (old new : Square → ℕ) → ((square : Square) → old square ≡ 0)
    → AreSet old new (pieces_on pieces plane) → new ≡ kinds_on (kind_by pieces) plane
set_on_space pieces plane old new space are = λ i square. (here square) i
  where
    here : (square : Square) → new square ≡ kinds_on (kind_by pieces) plane square
    here square = elim (shown_by pieces (place_at plane square)) [
      | inl found ↦ are.set found.0 found.1 square found.2 ∙ sym found.3
      | inr none ↦ are.others square none.0 ∙ space square ∙ sym none.1
    ]

-- what a plane that shows them lists of the area are the changes of the plane that they are put on
pub restored_changes : (area : Rect) (pieces : List (ℕ × Piece)) (layout : Layout) (plane : ℕ) (found : List Piece)
    → ArePiecesIn (kinds_on (kind_by pieces) plane) (area ∷ []) found
    → AreChanges (kinds_on layout plane) (kinds_on (with_pieces area pieces layout) plane) found
restored_changes area pieces layout plane found are = record {
  settable = record { proper = are.proper; near = are.near; apart = are.apart };
  right = λ piece i square covers. (let is = are.each piece i in
      let inside : Covers area square = elim is.in_list [
        | inl same ↦ subst (λ (r : Rect). Covers r square) (sym same) (within_covers piece.area is.area square is.within covers)
        | inr none ↦ absurd none
      ] in
      pieces_inside area pieces layout (place_at plane square) (is_covered-Covers area square inside) ∙ is.even square covers);
  whole = λ square differs. elim (cases_Bool (is_covered area square)) [
    | inl inside ↦ are.whole square (area, (inl refl, Covers-is_covered area square inside))
    | inr outside ↦ absurd (differs (pieces_outside area pieces layout (place_at plane square) outside))
  ];
}

-- pieces of each plane that can stand in an area can be set
pub standing_settable : (area : Rect) (count : ℕ) (pieces : List (ℕ × Piece)) (plane : ℕ) → IsNear area → CanStandIn area count pieces
    → IsSettable (pieces_on pieces plane)
standing_settable area count pieces plane near can = record {
  proper = All-from_In (λ (piece : Piece). IsProper piece.area) (pieces_on pieces plane) (λ piece i. proper_at piece (on_plane_source pieces plane piece i));
  near = All-from_In (λ (piece : Piece). IsNear piece.area) (pieces_on pieces plane) (λ piece i.
      let there = on_plane_source pieces plane piece i in
      near_within piece.area area near (proper_at piece there)
      (All-In (λ (entry : ℕ × Piece). LiesWithin entry.1.area area) pieces (plane, piece) can.within there));
  apart = can.apart plane;
}
  where
    proper_at : (piece : Piece) → In (plane, piece) pieces → IsProper piece.area
    proper_at piece there = All-In (λ (entry : ℕ × Piece). IsProper entry.1.area) pieces (plane, piece) can.proper there

-- what becomes of planes that are made ready and then have what the pieces leave of the area set
pub put_done : (area : Rect) (pieces : List (ℕ × Piece)) (old now new : List PlaneValue) (changes : List (Vec Piece Global))
    → CanStandIn area (length old) pieces → length changes ≡ length old
    → AreAllChanges (layout_on old) (with_pieces area pieces (layout_on old)) changes
    → length now ≡ length old → ((place : Place) → layout_on now place ≡ layout_on old place) → AreAllSet now new changes
    → (place : Place) → layout_on new place ≡ with_pieces area pieces (layout_on old) place
put_done area pieces old now new changes can one_each are long same are_set =
    changed_to old new (with_pieces area pieces (layout_on old)) changes one_each space are (all_set_from old now new changes long same are_set)
  where
    space : (place : Place) → length old ≤ place.plane → with_pieces area pieces (layout_on old) place ≡ 0
    space place past = elim (cases_Bool (is_covered area place.square)) [
      | inl inside ↦ pieces_inside area pieces (layout_on old) place inside ∙ elim (shown_by pieces place) [
        | inl found ↦
            let below : place.plane < length old = All-In (λ (entry : ℕ × Piece). entry.0 < length old) pieces (place.plane, found.0) can.planes
            (on_plane_source pieces place.plane found.0 found.1) in
            absurd (omega arith)
        | inr none ↦ none.1
      ]
      | inr outside ↦ pieces_outside area pieces (layout_on old) place outside ∙ space_past old place.plane place.square past
    ]

-- the planes are whole then, where what comes to stand is sound
pub put_whole : (kinds : List TypeRec) (area : Rect) (pieces : List (ℕ × Piece)) (old new : List PlaneValue) → length new ≡ length old
    → IsSoundPaint kinds (with_pieces area pieces (layout_on old))
    → ((place : Place) → layout_on new place ≡ with_pieces area pieces (layout_on old) place) → AreCellPlanes kinds old → AreCellPlanes kinds new
put_whole kinds area pieces old new long sound put whole =
    whole_sound kinds old new long (subst (IsSoundPaint kinds) (λ i place. sym (put place) i) sound) whole

-- ---- tiles that are taken out

-- The list has the tiles of the planes below a number in the area, plane after plane.
pub record AreTakenBelow (layout : Layout) (area : Rect) (count : ℕ) (taken : List (ℕ × Piece)) : Type 0 where
  pub tiles : (plane : ℕ) → plane < count → AreTilesIn (kinds_on layout plane) area (pieces_on taken plane)
  pub planes : (entry : ℕ × Piece) → In entry taken → entry.0 < count
  pub in_order : Pairwise (λ (a b : ℕ × Piece). a.0 ≤ b.0) taken

-- nothing is taken at first
pub none_taken : (layout : Layout) (area : Rect) → AreTakenBelow layout area 0 []
none_taken layout area = record { tiles = λ plane below. absurd (omega arith); planes = λ entry none. absurd none; in_order = tt }

module _ (layout : Layout) (area : Rect) (count : ℕ) (taken : List (ℕ × Piece)) (tiles : List Piece) (below : AreTakenBelow layout area count taken) where
  -- the tiles of the next plane, with its number
  abbrev more : List (ℕ × Piece)
  more = map (λ tile. (count, tile)) tiles

  number_of : (entry : ℕ × Piece) → In entry more → entry.0 ≡ count
  number_of entry i = let source = In-map_source (λ (t : Piece). (count, t)) entry tiles i in ap (λ (e : ℕ × Piece). e.0) (sym source.1.1)

  parts : (plane : ℕ) → pieces_on (taken ++ more) plane ≡ pieces_on taken plane ++ pieces_on more plane
  parts plane = ap (map piece_of) (filter-append (is_on plane) taken more) ∙ map-append piece_of (filter (is_on plane) taken) (filter (is_on plane) more)

  here_alone : pieces_on taken count ++ pieces_on more count ≡ tiles
  here_alone =
      ap (λ (list : List Piece). list ++ pieces_on more count)
      (none_on_plane taken count (λ entry i same. let less = below.planes entry i in omega arith))
      ∙ all_on_plane tiles count

  none_more : (plane : ℕ) → plane ≢ count → pieces_on taken plane ++ pieces_on more plane ≡ pieces_on taken plane
  none_more plane apart =
      ap (λ (list : List Piece). pieces_on taken plane ++ list)
      (none_on_plane more plane (λ entry i same. apart (sym same ∙ number_of entry i)))
      ∙ append-nil (pieces_on taken plane)

  level : (list : List Piece) → Pairwise (λ (a b : ℕ × Piece). a.0 ≤ b.0) (map (λ tile. (count, tile)) list)
  level [] = tt
  level (tile ∷ list) = (
    (λ entry i.
        let source = In-map_source (λ (t : Piece). (count, t)) entry list i in
        let number : count ≡ entry.0 = ap (λ (e : ℕ × Piece). e.0) source.1.1 in omega arith),
    level list,
  )

  -- the tiles of one more plane are taken
  pub taken_more : (after : List (ℕ × Piece)) → after ≡ taken ++ map (λ tile. (count, tile)) tiles → AreTilesIn (kinds_on layout count) area tiles
      → AreTakenBelow layout area (count + 1) after
  taken_more after is are =
      subst (AreTakenBelow layout area (count + 1)) (sym is) (record {
        tiles = λ plane less. elim (cases_eq plane count) [
          | inl here ↦
              subst (λ (n : ℕ). AreTilesIn (kinds_on layout n) area (pieces_on (taken ++ more) n)) (sym here)
              (subst (AreTilesIn (kinds_on layout count) area) (sym (parts count ∙ here_alone)) are)
          | inr apart ↦
              subst (AreTilesIn (kinds_on layout plane) area) (sym (parts plane ∙ none_more plane apart)) (below.tiles plane (omega arith))
        ];
        planes = λ entry i. elim (In-append_cases entry taken more i) [
          | inl before ↦ (let less = below.planes entry before in omega arith)
          | inr new ↦ (let number = number_of entry new in omega arith)
        ];
        in_order = Pairwise-append (λ (a b : ℕ × Piece). a.0 ≤ b.0) taken more below.in_order (level tiles)
            (λ a b first second. let less = below.planes a first in let number = number_of b second in omega arith);
      })

-- a plane without paint has no tiles
tiles_of_space : (values : Square → ℕ) (area : Rect) → ((square : Square) → values square ≡ 0) → AreTilesIn values area []
tiles_of_space values area space = record {
  each = λ tile none. absurd none;
  every = λ tile is.
      absurd (is.material (sym (tile_value values area tile is (corner_of tile.area) (corner_covered tile.area is.meets)) ∙ space (corner_of tile.area)));
  whole = λ square covers some. absurd (some (space square));
  ordered = λ i j d less below. absurd (omega arith);
}

-- the tiles of all planes are taken
pub all_taken : (layout : Layout) (area : Rect) (count : ℕ) (taken : List (ℕ × Piece)) → ((place : Place) → count ≤ place.plane → layout place ≡ 0)
    → AreTakenBelow layout area count taken → AreTakenOut layout area taken
all_taken layout area count taken space below = record {
  tiles = λ plane. elim (cases_lt plane count) [
    | inl less ↦ below.tiles plane less
    | inr past ↦
        subst (AreTilesIn (kinds_on layout plane) area) (sym (none_on_plane taken plane (λ entry i same. let less = below.planes entry i in omega arith)))
        (tiles_of_space (kinds_on layout plane) area (λ square. space (place_at plane square) (omega arith)))
  ];
  in_order = AllPairs-from_Pairwise (λ (a b : ℕ × Piece). a.0 ≤ b.0) taken below.in_order;
}

module _ (layout : Layout) (area : Rect) (taken : List (ℕ × Piece)) (are : AreTakenOut layout area taken) where
  -- in the area they show what stood there
  pub taken_shows : (place : Place) → Covers area place.square → kind_by taken place ≡ layout place
  taken_shows place covers = elim (shown_by taken place) [
    | inl found ↦
        found.3 ∙ sym (tile_value (kinds_on layout place.plane) area found.0 ((are.tiles place.plane).each found.0 found.1) place.square found.2)
    | inr none ↦ elim (cases_eq (layout place) 0) [
      | inl space ↦ none.1 ∙ sym space
      | inr some ↦ let there = (are.tiles place.plane).whole place.square covers some in absurd (none.0 there.0 there.1 there.2)
    ]
  ]

  -- so they bring it back where another layout agrees outside the area
  pub taken_brings_back : (other : Layout) → ((place : Place) → is_covered area place.square ≡ false → other place ≡ layout place) → (place : Place)
      → with_pieces area taken other place ≡ layout place
  taken_brings_back other agrees place = elim (cases_Bool (is_covered area place.square)) [
    | inl inside ↦ pieces_inside area taken other place inside ∙ taken_shows place (Covers-is_covered area place.square inside)
    | inr outside ↦ pieces_outside area taken other place outside ∙ agrees place outside
  ]

  -- and they can stand in the area
  pub taken_can_stand : (count : ℕ) → ((place : Place) → count ≤ place.plane → layout place ≡ 0) → CanStandIn area count taken
  taken_can_stand count space =
      let is = λ (entry : ℕ × Piece) (i : In entry taken). (are.tiles entry.0).each entry.1 (on_plane taken entry.0 entry.1 i) in
      record {
        planes = All-from_In (λ (entry : ℕ × Piece). entry.0 < count) taken (λ entry i. elim (cases_lt entry.0 count) [
          | inl below ↦ below
          | inr past ↦
              let tile = is entry i in
              let corner = corner_of entry.1.area in
              absurd (tile.material (sym (tile_value (kinds_on layout entry.0) area entry.1 tile corner (corner_covered entry.1.area tile.meets))
              ∙ space (place_at entry.0 corner) (omega arith)))
        ]);
        proper = All-from_In (λ (entry : ℕ × Piece). IsProper entry.1.area) taken (λ entry i. (is entry i).meets);
        within = All-from_In (λ (entry : ℕ × Piece). LiesWithin entry.1.area area) taken (λ entry i.
            tile_inside (kinds_on layout entry.0) area entry.1 (is entry i));
        apart = λ plane. tiles_apart (kinds_on layout plane) area (pieces_on taken plane) (are.tiles plane);
      }
