-- Paint: what becomes of it where the planes of a cell change.
use Rattle.cell_paint.proofs.Common.{◌≡◌, inl, inr, ℕ, zero, suc, ◌+◌, ◌<◌, ◌≤◌, true, Bool, ◌||◌, List, [], ◌∷◌, ◌++◌, length, length-append}
use Rattle.cell_paint.proofs.Common.{get_or, refl, sym, ◌∙◌, ap, subst, arith, false, IsTrue, Vec, if◌then◌else◌, list_any, Global, cases_Bool}
use Rattle.cell_paint.proofs.Common.{cases_eq, cases_lt, true≢false, get_or_past, get_or_push, get_or_append_left, list_any-In, list_any-source}
use Rattle.cell_paint.proofs.Common.{Square, Rect, Piece, Covers, is_covered, AreSet, Covers-is_covered, is_covered-Covers, MOST_PLANES, TypeId}
use Rattle.cell_paint.proofs.Common.{TypeRec, RawTech, is_type, plane_of, type_number, Brush, PaintBrush, type_on, IsOnPlane, IsColumn}
use Rattle.cell_paint.proofs.Common.{HasWholeContacts, IsWellFormed, HaveOwnSets, brushed-length, brushed_column-whole, type_bounds, Place, Layout}
use Rattle.cell_paint.proofs.Common.{place_at, kinds_on, with_columns_where, is_in_some, paint_range, PlaneValue, layout_on, IsSoundPaint}
use Rattle.cell_paint.proofs.Common.{AreCellPlanes, pieces_for, AreSettable, AreAllSet, AreChanges, AreAllChanges}
use Rattle.tech_model.specs.Columns.{brushed_column, painted_column}
use Rattle.cell_paint.specs.Painting.{column_at, with_paint, with_all_painted}
use Rattle.cell_paint.proofs.AgainLaws.{painted_column-again}
use Rattle.cell_paint.proofs.ColumnsLaws.{column_type}
use Rattle.cell_paint.proofs.PlaneLaws.{space_past}

-- ---- columns

-- past the end of a column there is space
pub type_past_column : (layout : Layout) (square : Square) (plane : ℕ) → MOST_PLANES ≤ plane → type_on (column_at layout square) plane ≡ 0
type_past_column layout square plane past = ap (λ (t : TypeId). t.0) (get_or_past (column_at layout square) plane (type_number 0) past)

-- a column that shows the types of its planes, and space past the last, is that of the layout
pub column_shows : (layout : Layout) (square : Square) (column : List TypeId)
    → ((plane : ℕ) → plane < MOST_PLANES → layout (place_at plane square) ≡ type_on column plane)
    → ((plane : ℕ) → MOST_PLANES ≤ plane → type_on column plane ≡ 0) → (plane : ℕ) → type_on (column_at layout square) plane ≡ type_on column plane
column_shows layout square column here past plane = elim (cases_lt plane MOST_PLANES) [
  | inl below ↦ column_type layout square plane below ∙ here plane below
  | inr above ↦ (let from : MOST_PLANES ≤ plane = omega arith in type_past_column layout square plane from ∙ sym (past plane from))
]

-- a type of its plane in each place, and whole contacts
abbrev pub IsSound : RawTech → List TypeId → Type 0
IsSound raw column = IsColumn raw column × HasWholeContacts raw column

-- a column with the same types is as sound
pub sound_same : (raw : RawTech) (a b : List TypeId) → ((plane : ℕ) → type_on b plane ≡ type_on a plane) → IsSound raw a → IsSound raw b
sound_same raw a b same is = (
  λ plane. subst (IsOnPlane raw plane) (sym (same plane)) (is.0 plane),
  λ s t s_is t_is layers at. same (plane_of raw t) ∙ is.1 s t s_is t_is layers (sym (same (plane_of raw s)) ∙ at),
)

-- Two technologies with the same types have the same columns.
pub sound_in : (raw other : RawTech) (column : List TypeId) → raw.types ≡ other.types → IsSound raw column → IsSound other column
sound_in raw other column same is = subst (λ (types : List TypeRec). IsSound (record raw { types = types }) column) same is

-- past the last plane a sound column has space
pub space_in : (raw : RawTech) (kinds : List TypeRec) (planes : List PlaneValue) (column : List TypeId) → AreCellPlanes kinds planes → raw.types ≡ kinds
    → IsColumn raw column
    → (plane : ℕ) → length planes ≤ plane → type_on column plane ≡ 0
space_in raw kinds planes column whole same is plane past = elim (is plane) [
  | inl space ↦ space
  | inr type ↦
      let below : plane_of raw (type_on column plane) < length planes = whole.placed raw same (type_on column plane) type.0 in
      let at : plane_of raw (type_on column plane) ≡ plane = type.1 in
      absurd (omega arith)
]

-- ---- what holds of all paint

-- as many planes as before that show a sound layout are whole
pub whole_sound : (kinds : List TypeRec) (old new : List PlaneValue) → length new ≡ length old → IsSoundPaint kinds (layout_on new)
    → AreCellPlanes kinds old → AreCellPlanes kinds new
whole_sound kinds old new long sound whole = record {
  few = subst (λ (n : ℕ). n ≤ MOST_PLANES) (sym long) whole.few;
  placed = λ raw is t type. subst (λ (n : ℕ). plane_of raw t < n) (sym long) (whole.placed raw is t type);
  sound = sound;
}

-- planes that show the same layout are as whole
pub whole_same : (kinds : List TypeRec) (old new : List PlaneValue) → length new ≡ length old → ((place : Place) → layout_on new place ≡ layout_on old place)
    → AreCellPlanes kinds old → AreCellPlanes kinds new
whole_same kinds old new long same whole =
    whole_sound kinds old new long (subst (IsSoundPaint kinds) (λ i place. sym (same place) i) whole.sound) whole

-- planes without paint
pub whole_empty : (raw : RawTech) (planes : List PlaneValue) → IsWellFormed raw → length planes ≡ length raw.planes
    → ((place : Place) → layout_on planes place ≡ 0)
    → AreCellPlanes raw.types planes
whole_empty raw planes well_formed long empty = record {
  few = subst (λ (n : ℕ). n ≤ MOST_PLANES) (sym long) well_formed.planes_limit;
  placed = λ other is t type.
      subst (λ (n : ℕ). plane_of other t < n) (sym long)
      (subst (λ (types : List TypeRec). (u : ℕ) → IsTrue (is_type (record raw { types = types }) u) → plane_of (record raw { types = types }) u < length
      raw.planes)
      (sym is) well_formed.type_planes t type);
  sound = record {
    types = λ other is square.
        let space : (plane : ℕ) → type_on (column_at (layout_on planes) square) plane ≡ 0 = λ plane.
        elim (cases_lt plane MOST_PLANES) [
          | inl below ↦ column_type (layout_on planes) square plane below ∙ empty (place_at plane square)
          | inr above ↦ type_past_column (layout_on planes) square plane (omega arith)
        ] in (
          λ plane. inl (space plane),
          λ s t s_is t_is layers at.
              let some : 1 ≤ s = (type_bounds other s s_is).0 in
              let none : s ≡ 0 = sym at ∙ space (plane_of other s) in
              absurd (omega arith),
        );
    range = λ place material. absurd (material (empty place));
  };
}

-- where it is changed a layout has what a change of its columns makes
pub changed_inside : (change : List TypeId → List TypeId) (inside : Square → Bool) (layout : Layout) (place : Place) → inside place.square ≡ true
    → with_columns_where change inside layout place ≡ type_on (change (column_at layout place.square)) place.plane
changed_inside change inside layout place is =
    ap (λ (b : Bool). if b then type_on (change (column_at layout place.square)) place.plane else layout place) is

-- and elsewhere what it had
pub changed_outside : (change : List TypeId → List TypeId) (inside : Square → Bool) (layout : Layout) (place : Place) → inside place.square ≡ false
    → with_columns_where change inside layout place ≡ layout place
changed_outside change inside layout place is =
    ap (λ (b : Bool). if b then type_on (change (column_at layout place.square)) place.plane else layout place) is

-- changes of the same squares are one
pub changed_alike : (change : List TypeId → List TypeId) (inside other : Square → Bool) (layout : Layout) → ((square : Square) → inside square ≡ other square)
    → (place : Place) → with_columns_where change inside layout place ≡ with_columns_where change other layout place
changed_alike change inside other layout same place =
    ap (λ (b : Bool). if b then type_on (change (column_at layout place.square)) place.plane else layout place) (same place.square)

-- and so are planes that show the changed one
pub whole_changed : (kinds : List TypeRec) (raw : RawTech) (change : List TypeId → List TypeId) (inside : Square → Bool) (old new : List PlaneValue)
    → raw.types ≡ kinds
    → ((square : Square) → IsSound raw (change (column_at (layout_on old) square))) → ((square : Square) → inside square ≡ true → Covers paint_range square)
    → length new ≡ length old
    → ((place : Place) → layout_on new place ≡ with_columns_where change inside (layout_on old) place) → AreCellPlanes kinds old → AreCellPlanes kinds new
whole_changed kinds raw change inside old new is_raw sound within long changed whole =
    whole_sound kinds old new long (record {
      types = λ other is square. elim (cases_Bool (inside square)) [
        | inl covered ↦
            sound_in raw other (column_at (layout_on new) square) (is_raw ∙ sym is)
            (sound_same raw (change (column_at (layout_on old) square)) (column_at (layout_on new) square)
            (column_shows (layout_on new) square (change (column_at (layout_on old) square))
            (λ plane below. changed (place_at plane square) ∙ changed_inside change inside (layout_on old) (place_at plane square) covered)
            (λ plane past. space_in raw kinds old (change (column_at (layout_on old) square)) whole is_raw (sound square).0 plane
            (let few = whole.few in omega arith)))
            (sound square))
        | inr outside ↦
            sound_same other (column_at (layout_on old) square) (column_at (layout_on new) square)
            (column_shows (layout_on new) square (column_at (layout_on old) square)
            (λ plane below. changed (place_at plane square) ∙ changed_outside change inside (layout_on old) (place_at plane square) outside
            ∙ sym (column_type (layout_on old) square plane below)) (type_past_column (layout_on old) square))
            (whole.sound.types other is square)
      ];
      range = λ place material. elim (cases_Bool (inside place.square)) [
        | inl covered ↦ within place.square covered
        | inr outside ↦ whole.sound.range place (λ space. material (changed place ∙ changed_outside change inside (layout_on old) place outside ∙ space))
      ];
    }) whole

-- ---- changes of planes

-- an item where there is one
pub item_at : {X : Type 0} (xs : List X) (k : ℕ) → k < length xs → X
item_at [] k below = absurd (omega arith)
item_at (x ∷ xs) zero below = x
item_at (x ∷ xs) (suc k) below = item_at xs k (omega arith)

-- where the changes are set, the plane has the new types
pub changed_on_plane : (old new after : Square → ℕ) (pieces : List Piece) → AreChanges old new pieces → AreSet old after pieces → (square : Square)
    → after square ≡ new square
changed_on_plane old new after pieces changes are square = elim (cases_eq (new square) (old square)) [
  | inr differ ↦ (let there = changes.whole square differ in are.set there.0 there.1 square there.2 ∙ sym (changes.right there.0 there.1 square there.2))
  | inl same ↦ elim (cases_Bool (list_any (λ (piece : Piece). is_covered piece.area square) pieces)) [
    | inl some ↦
        let there = list_any-source (λ (piece : Piece). is_covered piece.area square) pieces some in
        let covers = Covers-is_covered there.0.area square there.1.1 in
        are.set there.0 there.1.0 square covers ∙ sym (changes.right there.0 there.1.0 square covers)
    | inr none ↦
        are.others square (λ piece i covers.
        true≢false (sym (is_covered-Covers piece.area square covers) ∙ list_any-In (λ (p : Piece). is_covered p.area square) pieces piece none i))
        ∙ sym same
  ]
]

-- when each plane has its changes to a layout with space past the last plane, the planes show that layout
pub changed_to : (old new : List PlaneValue) (after : Layout) (changes : List (Vec Piece Global)) → length changes ≡ length old
    → ((place : Place) → length old ≤ place.plane → after place ≡ 0) → AreAllChanges (layout_on old) after changes → AreAllSet old new changes
    → (place : Place) → layout_on new place ≡ after place
changed_to old new after changes one_each space are are_set place = elim (cases_lt place.plane (length changes)) [
  | inl below ↦ (let other = item_at changes place.plane below in
      changed_on_plane (kinds_on (layout_on old) place.plane) (kinds_on after place.plane) (kinds_on (layout_on new) place.plane)
      (pieces_for changes place.plane other) (are place.plane other below) (are_set.each place.plane other below) place.square)
  | inr above ↦ (let past : length old ≤ place.plane = omega arith in
      let long : length new ≡ length old = are_set.so_many in
      space_past new place.plane place.square (omega arith) ∙ sym (space place past))
]

-- when each plane has the changes of its columns, the layout is the changed one
pub all_changed : (raw : RawTech) (kinds : List TypeRec) (change : List TypeId → List TypeId) (inside : Square → Bool) (old new : List PlaneValue)
    (changes : List (Vec Piece Global)) → raw.types ≡ kinds
    → ((square : Square) → IsSound raw (change (column_at (layout_on old) square))) → AreCellPlanes kinds old → length changes ≡ length old
    → AreAllChanges (layout_on old) (with_columns_where change inside (layout_on old)) changes → AreAllSet old new changes
    → (place : Place) → layout_on new place ≡ with_columns_where change inside (layout_on old) place
all_changed raw kinds change inside old new changes is_raw sound whole one_each =
    changed_to old new (with_columns_where change inside (layout_on old)) changes one_each (λ place past. elim (cases_Bool (inside place.square)) [
      | inl covered ↦
          changed_inside change inside (layout_on old) place covered
          ∙ space_in raw kinds old (change (column_at (layout_on old) place.square)) whole is_raw (sound place.square).0 place.plane past
      | inr outside ↦ changed_outside change inside (layout_on old) place outside ∙ space_past old place.plane place.square past
    ])

-- the changes of each plane can be set
pub all_settable : (old new : Layout) (changes : List (Vec Piece Global)) → AreAllChanges old new changes → AreSettable changes
all_settable old new changes are plane other below = (are plane other below).settable

-- the changes of one more plane
pub changes_more : (old new : Layout) (changes after : List (Vec Piece Global)) (more : Vec Piece Global) (index : ℕ) → length changes ≡ index
    → after ≡ changes ++ more ∷ []
    → AreChanges (kinds_on old index) (kinds_on new index) more.items → AreAllChanges old new changes → (length after ≡ index + 1) × AreAllChanges old new after
changes_more old new changes after more index long is more_is are = (
  ap length is ∙ length-append changes (more ∷ []) ∙ omega arith,
  λ plane other below.
      let longer : length after ≡ index + 1 = ap length is ∙ length-append changes (more ∷ []) ∙ omega arith in
      elim (cases_eq plane index) [
        | inl here ↦
            subst (λ (n : ℕ). AreChanges (kinds_on old n) (kinds_on new n) (pieces_for after n other)) (sym here)
            (subst (λ (v : Vec Piece Global). AreChanges (kinds_on old index) (kinds_on new index) v.items)
            (sym (ap (λ (list : List (Vec Piece Global)). get_or list index other) is ∙ get_or_push changes more other index long)) more_is)
        | inr apart ↦
            let before : plane < length changes = omega arith in
            subst (λ (v : Vec Piece Global). AreChanges (kinds_on old plane) (kinds_on new plane) v.items)
            (sym (ap (λ (list : List (Vec Piece Global)). get_or list plane other) is ∙ get_or_append_left changes (more ∷ []) other plane before))
            (are plane other before)
      ],
)

-- planes with the same numbers in the place of those that pieces were set on
pub all_set_from : (old now new : List PlaneValue) (changes : List (Vec Piece Global)) → length now ≡ length old
    → ((place : Place) → layout_on now place ≡ layout_on old place)
    → AreAllSet now new changes → AreAllSet old new changes
all_set_from old now new changes long same are = record {
  so_many = are.so_many ∙ long;
  each = λ plane other below. (let here = are.each plane other below in
      record { set = here.set; others = λ square none. here.others square none ∙ same (place_at plane square) });
}

-- what becomes of planes that are made ready and then have the changes of a stroke set
pub stroke_done : (brush : Brush) (raw : RawTech) (layer : ℕ) (inside : Square → Bool) (old now new : List PlaneValue) (changes : List (Vec Piece Global))
    → IsWellFormed raw → layer < length raw.layers
    → AreCellPlanes raw.types old → ((square : Square) → inside square ≡ true → Covers paint_range square) → length changes ≡ length old
    → AreAllChanges (layout_on old) (with_columns_where (brushed_column raw brush layer) inside (layout_on old)) changes
    → length now ≡ length old → ((place : Place) → layout_on now place ≡ layout_on old place) → AreAllSet now new changes
    → ((place : Place) → layout_on new place ≡ with_columns_where (brushed_column raw brush layer) inside (layout_on old) place) × AreCellPlanes raw.types new
stroke_done brush raw layer inside old now new changes well_formed below whole within one_each are long same are_set =
    let change : List TypeId → List TypeId = brushed_column raw brush layer in
    let sound : (square : Square) → IsSound raw (change (column_at (layout_on old) square)) = λ square.
    brushed_column-whole raw brush layer (column_at (layout_on old) square) well_formed below (whole.sound.types raw refl square).0 in
    let are_set_from = all_set_from old now new changes long same are_set in
    let changed = all_changed raw raw.types change inside old new changes refl sound whole one_each are are_set_from in
    (changed, whole_changed raw.types raw change inside old new refl sound within are_set_from.so_many changed whole)

-- ---- painting a layer over several areas in order

-- columns of one length with the same types are one
same_types : (a b : List TypeId) → length a ≡ length b → ((k : ℕ) → k < length a → type_on a k ≡ type_on b k) → a ≡ b
same_types [] [] long each = refl
same_types [] (y ∷ b) long each = absurd (omega arith)
same_types (x ∷ a) [] long each = absurd (omega arith)
same_types (x ∷ a) (y ∷ b) long each =
    ap (λ (t : ℕ). type_number t ∷ a) (each 0 (omega arith))
    ∙ ap (λ (c : List TypeId). y ∷ c) (same_types a b (omega arith) (λ k below. each (suc k) (omega arith)))

-- a column that shows the types of all planes of a square is the square's
column_whole : (layout : Layout) (square : Square) (column : List TypeId) → length column ≡ MOST_PLANES
    → ((plane : ℕ) → plane < MOST_PLANES → layout (place_at plane square) ≡ type_on column plane) → column_at layout square ≡ column
column_whole layout square column long shows =
    same_types (column_at layout square) column (sym long) (λ plane below. column_type layout square plane below ∙ shows plane below)

module _ (raw : RawTech) (layer : ℕ) (well_formed : IsWellFormed raw) (own : HaveOwnSets raw) (below : layer < length raw.layers) where
  -- what paint of the layer makes of a column
  abbrev paint : List TypeId → List TypeId
  paint = painted_column raw layer

  -- the columns after paint over one area
  covered_column : (area : Rect) (layout : Layout) (square : Square) → is_covered area square ≡ true
      → column_at (with_paint raw layer area layout) square ≡ paint (column_at layout square)
  covered_column area layout square covered =
      column_whole (with_paint raw layer area layout) square (paint (column_at layout square)) (brushed-length raw PaintBrush layer (column_at layout square))
      (λ plane inside. changed_inside paint (is_covered area) layout (place_at plane square) covered)

  other_column : (area : Rect) (layout : Layout) (square : Square) → is_covered area square ≡ false
      → column_at (with_paint raw layer area layout) square ≡ column_at layout square
  other_column area layout square outside =
      column_whole (with_paint raw layer area layout) square (column_at layout square) refl
      (λ plane inside. changed_outside paint (is_covered area) layout (place_at plane square) outside ∙ sym (column_type layout square plane inside))

  -- they are columns still
  painted_columns : (area : Rect) (layout : Layout) → ((square : Square) → IsColumn raw (column_at layout square))
      → (square : Square) → IsColumn raw (column_at (with_paint raw layer area layout) square)
  painted_columns area layout sound square = elim (cases_Bool (is_covered area square)) [
    | inl covered ↦
        subst (IsColumn raw) (sym (covered_column area layout square covered))
        (brushed_column-whole raw PaintBrush layer (column_at layout square) well_formed below (sound square)).0
    | inr outside ↦ subst (IsColumn raw) (sym (other_column area layout square outside)) (sound square)
  ]

  -- one area painted before the others is painted with them
  one_before : (area : Rect) (areas : List Rect) (layout : Layout) → ((square : Square) → IsColumn raw (column_at layout square)) → (place : Place)
      → with_columns_where paint (is_in_some (area ∷ areas)) layout place
      ≡ with_columns_where paint (is_in_some areas) (with_paint raw layer area layout) place
  one_before area areas layout sound place =
      let square = place.square in
      let column = column_at layout square in
      elim (cases_Bool (is_in_some areas square)) [
        | inl later ↦
            let now : is_in_some (area ∷ areas) square ≡ true = or_later (is_covered area square) (is_in_some areas square) later in
            changed_inside paint (is_in_some (area ∷ areas)) layout place now
            ∙ ap (λ (c : List TypeId). type_on c place.plane) (elim (cases_Bool (is_covered area square)) [
              | inl covered ↦
                  sym (ap paint (covered_column area layout square covered)
                  ∙ painted_column-again raw layer column well_formed own below (let few = well_formed.planes_limit in omega arith) (sound square))
              | inr outside ↦ sym (ap paint (other_column area layout square outside))
            ])
            ∙ sym (changed_inside paint (is_in_some areas) (with_paint raw layer area layout) place later)
        | inr not_later ↦ elim (cases_Bool (is_covered area square)) [
          | inl covered ↦
              changed_inside paint (is_in_some (area ∷ areas)) layout place (or_now (is_covered area square) (is_in_some areas square) covered)
              ∙ sym (changed_outside paint (is_in_some areas) (with_paint raw layer area layout) place not_later
              ∙ changed_inside paint (is_covered area) layout place covered)
          | inr outside ↦
              changed_outside paint (is_in_some (area ∷ areas)) layout place (or_never (is_covered area square) (is_in_some areas square) outside not_later)
              ∙ sym (changed_outside paint (is_in_some areas) (with_paint raw layer area layout) place not_later
              ∙ changed_outside paint (is_covered area) layout place outside)
        ]
      ]
    where
      or_later : (a b : Bool) → b ≡ true → (a || b) ≡ true
      or_later true b is = refl
      or_later false b is = is

      or_now : (a b : Bool) → a ≡ true → (a || b) ≡ true
      or_now true b is = refl
      or_now false b is = absurd (true≢false (sym is))

      or_never : (a b : Bool) → a ≡ false → b ≡ false → (a || b) ≡ false
      or_never true b is other = absurd (true≢false is)
      or_never false b is other = other

  -- painting over areas in order paints what they cover
  pub painted_in_order : (areas : List Rect) (layout : Layout) → ((square : Square) → IsColumn raw (column_at layout square)) → (place : Place)
      → with_columns_where paint (is_in_some areas) layout place ≡ with_all_painted raw layer areas layout place
  painted_in_order [] layout sound place = refl
  painted_in_order (area ∷ areas) layout sound place =
      one_before area areas layout sound place
      ∙ painted_in_order areas (with_paint raw layer area layout) (painted_columns area layout sound) place
