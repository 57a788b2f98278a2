-- The pieces of a plane that change, with what they come to have, are its changes.
use Rattle.cell_paint.proofs.Common.{◌≡◌, ◌≢◌, inl, inr, ℕ, ◌<◌, true, false, Bool, List, length, get_or, refl, sym, ◌∙◌, ap, subst, arith, zero}
use Rattle.cell_paint.proofs.Common.{suc, All, Some, None, if◌then◌else◌, cases_Bool, cases_eq, ne_eqb, length-map, get_or-map, get_or_default, In}
use Rattle.cell_paint.proofs.Common.{In-map, In-map_source, Square, Rect, Piece, AreDisjoint, IsNear, corner_of, Covers, IsProper, corner_covered}
use Rattle.cell_paint.proofs.Common.{within_covers, TypeId, ArePiecesIn, Layout, kind_after, AreKnown, changed_pieces, kinds_on, with_columns_where}
use Rattle.cell_paint.proofs.Common.{is_in_some, PlaneValue, number_on, no_plane, layout_on, IsSettable, AreChanges}
use Rattle.std.proofs.Common.{filter, set, replicate, get_or-set_same, get_or-set_other}
use Rattle.std.specs.Prelude.{Option, not, slice_index_or}
use Rattle.std.proofs.lemmas.List.Elements.{All-map, All-filter}
use Rattle.std.proofs.lemmas.List.Kept.{AllPairs-filter}
use Rattle.geo_core.proofs.FiniteSets.Members.{In-filter, In-filter_source, In-get_or, In-index}
use Rattle.cell_paint.specs.steps.Changes.{changed_piece, is_changed}
use Rattle.cell_paint.proofs.AreaLaws.{some_area, in_some}

-- each piece has the value of its lower left square
pub corners_even : (values : Square → ℕ) (areas : List Rect) (pieces : List Piece) → ArePiecesIn values areas pieces
    → All (λ piece. values (corner_of piece.area) ≡ piece.value) pieces
corners_even values areas pieces are = λ k d below.
    let piece = get_or pieces k d in
    (are.each piece (In-get_or pieces k d below)).even (corner_of piece.area) (corner_covered piece.area (are.proper k d below))

-- ---- what is known of each type

-- nothing is known at first
pub none_known : (old after : Square → ℕ) (count : ℕ) → AreKnown old after (replicate count None)
none_known old after count square kind is =
    let apart : ◌≡◌ {A = Option ℕ} None (Some kind) = sym (none_at count (old square)) ∙ is in
    absurd cc
  where
    none_at : (n k : ℕ) → ◌≡◌ {A = Option ℕ} (slice_index_or (replicate n None) k None) None
    none_at zero k = refl
    none_at (suc n) zero = refl
    none_at (suc n) (suc k) = none_at n k

-- one more type is known
pub known_more : (old after : Square → ℕ) (known : List (Option ℕ)) (index value : ℕ) → index < length known
    → ((square : Square) → old square ≡ index → after square ≡ value) → AreKnown old after known → AreKnown old after (set known index (Some value))
known_more old after known index value inside here are square kind is = elim (cases_eq (old square) index) [
  | inl same ↦
      let found : Some value ≡ Some kind = sym (get_or-set_same known index (Some value) None inside)
      ∙ ap (λ (k : ℕ). get_or (set known index (Some value)) k None) (sym same) ∙ is in
      let one : value ≡ kind = cc in
      here square same ∙ one
  | inr apart ↦ are square kind (sym (get_or-set_other known index (old square) (Some value) None apart) ∙ is)
]

module _ (change : List TypeId → List TypeId) (layout : Layout) (plane : ℕ)
    (alike : (s t : Square) → kinds_on layout plane s ≡ kinds_on layout plane t → kind_after change layout plane s ≡ kind_after change layout plane t)
    (areas : List Rect) (pieces : List Piece) (are : ArePiecesIn (kinds_on layout plane) areas pieces) where
  -- the type of the plane before
  abbrev old : Square → ℕ
  old = kinds_on layout plane

  -- what a square comes to have where it changes
  abbrev after : Square → ℕ
  after = kind_after change layout plane

  -- the type of the plane afterwards
  abbrev new : Square → ℕ
  new = kinds_on (with_columns_where change (is_in_some areas) layout) plane

  new_inside : (square : Square) → is_in_some areas square ≡ true → new square ≡ after square
  new_inside square inside = ap (λ (b : Bool). if b then after square else old square) inside

  new_outside : (square : Square) → is_in_some areas square ≡ false → new square ≡ old square
  new_outside square outside = ap (λ (b : Bool). if b then after square else old square) outside

  -- a piece of the list has a square
  piece_proper : (piece : Piece) → In piece pieces → IsProper piece.area
  piece_proper piece i = all_In (λ (p : Piece). IsProper p.area) pieces piece are.proper i
    where
      all_In : (P : Piece → Type 0) (xs : List Piece) (x : Piece) → All P xs → In x xs → P x
      all_In P xs x all is = let found = In-index x xs is in subst P (found.1.1 x) (all found.0 x found.1.0)

  -- all its squares come to have one value
  piece_after : (piece : Piece) → In piece pieces → (square : Square) → Covers piece.area square → after square ≡ after (corner_of piece.area)
  piece_after piece i square covers =
      let is = are.each piece i in
      alike square (corner_of piece.area) (is.even square covers ∙ sym (is.even (corner_of piece.area) (corner_covered piece.area (piece_proper piece i))))

  -- they are squares of the areas
  piece_inside : (piece : Piece) → In piece pieces → (square : Square) → Covers piece.area square → is_in_some areas square ≡ true
  piece_inside piece i square covers =
      let is = are.each piece i in in_some areas square (is.area, (is.in_list, within_covers piece.area is.area square is.within covers))

  -- ---- the pieces that change

  -- they can be set
  found_settable : IsSettable (changed_pieces after pieces)
  found_settable = record {
    proper = All-map (λ (p : Piece). IsProper p.area) (changed_piece after) (filter (is_changed after) pieces)
        (All-filter (is_changed after) (λ (p : Piece). IsProper p.area) pieces are.proper);
    near = All-map (λ (p : Piece). IsNear p.area) (changed_piece after) (filter (is_changed after) pieces)
        (All-filter (is_changed after) (λ (p : Piece). IsNear p.area) pieces are.near);
    apart = λ i j d less within square first second.
        let kept : List Piece = filter (is_changed after) pieces in
        let long : length (changed_pieces after pieces) ≡ length kept = length-map kept (changed_piece after) in
        let below : j < length kept = omega (arith, long, within) in
        let left : get_or (changed_pieces after pieces) i d ≡ changed_piece after (get_or kept i d) =
        get_or-map (changed_piece after) kept i d d (omega arith) in
        let right : get_or (changed_pieces after pieces) j d ≡ changed_piece after (get_or kept j d) = get_or-map (changed_piece after) kept j d d below in
        AllPairs-filter (λ (a b : Piece). AreDisjoint a.area b.area) (is_changed after) pieces are.apart i j d less below square
        (subst (λ (p : Piece). Covers p.area square) left first) (subst (λ (p : Piece). Covers p.area square) right second);
  }

  -- each has what its squares come to have
  found_right : (piece : Piece) → In piece (changed_pieces after pieces) → (square : Square) → Covers piece.area square → new square ≡ piece.value
  found_right piece i square covers =
      let source = In-map_source (changed_piece after) piece (filter (is_changed after) pieces) i in
      let there = In-filter_source (is_changed after) source.0 pieces source.1.0 in
      let here : Covers source.0.area square = subst (λ (p : Piece). Covers p.area square) (sym source.1.1) covers in
      new_inside square (piece_inside source.0 there square here) ∙ piece_after source.0 there square here ∙ ap (λ (p : Piece). p.value) source.1.1

  -- each square that changes lies in one
  found_whole : (square : Square) → new square ≢ old square → (piece : Piece) × In piece (changed_pieces after pieces) × Covers piece.area square
  found_whole square differs = elim (cases_Bool (is_in_some areas square)) [
    | inr outside ↦ absurd (differs (new_outside square outside))
    | inl inside ↦
        let piece = are.whole square (some_area areas square inside) in
        let value : old square ≡ piece.0.value = (are.each piece.0 piece.1).even square piece.2 in
        let changes : after (corner_of piece.0.area) ≢ piece.0.value =
        λ same. differs (new_inside square inside ∙ piece_after piece.0 piece.1 square piece.2 ∙ same ∙ sym value) in
        let passes : is_changed after piece.0 ≡ true = ap not (ne_eqb (after (corner_of piece.0.area)) piece.0.value changes) in (
          changed_piece after piece.0,
          In-map (changed_piece after) piece.0 (filter (is_changed after) pieces)
              (In-filter (is_changed after) piece.0 pieces piece.1 passes),
          piece.2,
        )
  ]

  pub found_changes : AreChanges old new (changed_pieces after pieces)
  found_changes = record { settable = found_settable; right = found_right; whole = found_whole }

-- the pieces of a plane of a list are those of the layout
pub pieces_on_plane : (planes : List PlaneValue) (plane : ℕ) (at : PlaneValue) (areas : List Rect) (pieces : List Piece) → plane < length planes
    → at ≡ get_or planes plane at → ArePiecesIn (number_on at) areas pieces → ArePiecesIn (kinds_on (layout_on planes) plane) areas pieces
pieces_on_plane planes plane at areas pieces below is are =
    subst (λ (values : PlaneValue). ArePiecesIn (number_on values) areas pieces) (is ∙ get_or_default planes plane at no_plane below) are
