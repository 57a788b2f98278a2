-- Lists of planes: setting one plane, setting pieces plane after plane, and the box of all planes.
use Rattle.cell_paint.proofs.Common.{◌≡◌, ◌≢◌, inl, inr, ℕ, ◌+◌, ◌<◌, ◌≤◌, List, [], ◌∷◌, ◌++◌, length, length-append, get_or, take, sym, ◌∙◌, ap}
use Rattle.cell_paint.proofs.Common.{subst, arith, Option, Vec, Global, cases_eq, cases_lt, get_or_default, get_or_past, get_or_push}
use Rattle.cell_paint.proofs.Common.{get_or_append_left, Square, Rect, Piece, LiesWithin, joined_rect, Covers, AreSame, AreSet, IsBox, Place}
use Rattle.cell_paint.proofs.Common.{place_at, PlaneValue, number_on, no_plane, IsReadyFor, layout_on, pieces_for, IsSettable, AreSettable}
use Rattle.std.proofs.Common.{drop, set}
use Rattle.std.proofs.Common.{Some, None, get_or-set_same, get_or-set_other}
use Rattle.std.proofs.Math.ListN.{length-set}
use Rattle.std.specs.Prelude.{MatchOption, slice_index_or}
use Rattle.std.proofs.lemmas.List.{take_at}
use Rattle.geo_core.proofs.CoveringLaws.{covers_joined_left, covers_joined_right, joined_within}
use Rattle.tile_plane.proofs.ContentsLaws.{no_contents_is_space}
use Rattle.layout_model.specs.Layouts.{IsMaterial}
use Rattle.cell_paint.specs.Paints.{IsPaintBox}

-- the plane of this number, and one without paint past the last
abbrev pub plane_at : List PlaneValue → ℕ → PlaneValue
plane_at planes plane = slice_index_or planes plane no_plane

-- past the last plane all is space
pub space_past : (planes : List PlaneValue) (plane : ℕ) (square : Square) → length planes ≤ plane → number_on (plane_at planes plane) square ≡ 0
space_past planes plane square past = ap (λ (p : PlaneValue). number_on p square) (get_or_past planes plane no_plane past) ∙ no_contents_is_space square

-- one more plane without paint
pub empty_more : (planes : List PlaneValue) (new : PlaneValue) → ((place : Place) → layout_on planes place ≡ 0) → ((square : Square) → number_on new square ≡ 0)
    → (place : Place) → layout_on (planes ++ new ∷ []) place ≡ 0
empty_more planes new empty space place = elim (cases_lt place.plane (length planes)) [
  | inl below ↦
      ap (λ (p : PlaneValue). number_on p place.square) (get_or_append_left planes (new ∷ []) no_plane place.plane below) ∙ empty place
  | inr above ↦ elim (cases_eq place.plane (length planes)) [
    | inl last ↦
        ap (λ (p : PlaneValue). number_on p place.square) (get_or_push planes new no_plane place.plane (sym last)) ∙ space place.square
    | inr past ↦ space_past (planes ++ new ∷ []) place.plane place.square (omega (arith, length-append planes (new ∷ [])))
  ]
]

-- the list with one plane set has it there
pub set_here : (planes : List PlaneValue) (index : ℕ) (new : PlaneValue) → index < length planes → plane_at (set planes index new) index ≡ new
set_here planes index new below = get_or-set_same planes index new no_plane below

-- the other planes are as they were
pub set_elsewhere : (planes : List PlaneValue) (index plane : ℕ) (new : PlaneValue) → plane ≢ index
    → plane_at (set planes index new) plane ≡ plane_at planes plane
set_elsewhere planes index plane new apart = get_or-set_other planes index plane new no_plane apart

-- planes that are written back over as many are in their place
pub written_back : (old new : List PlaneValue) (count : ℕ) → count ≡ length old → length new ≡ length old
    → take count (new ++ drop (length new) old) ≡ new
written_back old new count is long = take_at new (drop (length new) old) count (long ∙ sym is)

-- ---- the planes below an index have taken what their pieces need

-- the first planes are ready for their pieces, and no square has changed
pub record IsReservedUpTo (index : ℕ) (old now : List PlaneValue) (changes : List (Vec Piece Global)) : Type 0 where
  pub long : length now ≡ length old
  pub same : (place : Place) → layout_on now place ≡ layout_on old place
  pub ready : (plane : ℕ) (other : Vec Piece Global) → plane < index → IsReadyFor (plane_at now plane) (pieces_for changes plane other)

-- a plane with the same numbers changes no place
pub same_everywhere : (index : ℕ) (old now : List PlaneValue) (new : PlaneValue) → index < length now
    → ((place : Place) → layout_on now place ≡ layout_on old place)
    → AreSame (number_on (plane_at now index)) (number_on new) → (place : Place) → layout_on (set now index new) place ≡ layout_on old place
same_everywhere index old now new below same alike place = elim (cases_eq place.plane index) [
  | inl here ↦
      ap (λ (n : ℕ). number_on (plane_at (set now index new) n) place.square) here
      ∙ ap (λ (p : PlaneValue). number_on p place.square) (set_here now index new below)
      ∙ alike place.square
      ∙ ap (λ (n : ℕ). number_on (plane_at now n) place.square) (sym here)
      ∙ same place
  | inr apart ↦ ap (λ (p : PlaneValue). number_on p place.square) (set_elsewhere now index place.plane new apart) ∙ same place
]

-- one more plane is ready
pub reserved_more : (index : ℕ) (old now : List PlaneValue) (changes : List (Vec Piece Global)) (new : PlaneValue) → index < length now
    → AreSame (number_on (plane_at now index)) (number_on new)
    → ((other : Vec Piece Global) → IsReadyFor new (pieces_for changes index other))
    → IsReservedUpTo index old now changes → IsReservedUpTo (index + 1) old (set now index new) changes
reserved_more index old now changes new below alike ready are = record {
  long = length-set now index new ∙ are.long;
  same = same_everywhere index old now new below are.same alike;
  ready = λ plane other less. elim (cases_eq plane index) [
    | inl here ↦
        subst (λ (n : ℕ). IsReadyFor (plane_at (set now index new) n) (pieces_for changes n other)) (sym here)
        (subst (λ (p : PlaneValue). IsReadyFor p (pieces_for changes index other)) (sym (set_here now index new below)) (ready other))
    | inr apart ↦
        subst (λ (p : PlaneValue). IsReadyFor p (pieces_for changes plane other)) (sym (set_elsewhere now index plane new apart))
        (are.ready plane other (omega arith))
  ];
}

-- ---- the planes below an index have their pieces set

-- the first planes have their pieces set, and the others are as they were
pub record IsCommittedUpTo (index : ℕ) (old now : List PlaneValue) (changes : List (Vec Piece Global)) : Type 0 where
  pub long : length now ≡ length old
  pub each : (plane : ℕ) (other : Vec Piece Global) → plane < index
      → AreSet (number_on (plane_at old plane)) (number_on (plane_at now plane)) (pieces_for changes plane other)
  pub rest : (plane : ℕ) → index ≤ plane → plane_at now plane ≡ plane_at old plane

-- one more plane has its pieces set
pub committed_more : (index : ℕ) (old now : List PlaneValue) (changes : List (Vec Piece Global)) (new : PlaneValue) → index < length now
    → ((other : Vec Piece Global) → AreSet (number_on (plane_at now index)) (number_on new) (pieces_for changes index other))
    → IsCommittedUpTo index old now changes → IsCommittedUpTo (index + 1) old (set now index new) changes
committed_more index old now changes new below are_set are = record {
  long = length-set now index new ∙ are.long;
  each = λ plane other less. elim (cases_eq plane index) [
    | inl here ↦
        subst (λ (n : ℕ). AreSet (number_on (plane_at old n)) (number_on (plane_at (set now index new) n)) (pieces_for changes n other)) (sym here)
        (subst (λ (p : PlaneValue). AreSet (number_on (plane_at old index)) (number_on p) (pieces_for changes index other)) (sym (set_here now index new below))
        (subst (λ (p : PlaneValue). AreSet (number_on p) (number_on new) (pieces_for changes index other)) (are.rest index (omega arith)) (are_set other)))
    | inr apart ↦
        subst (λ (p : PlaneValue). AreSet (number_on (plane_at old plane)) (number_on p) (pieces_for changes plane other))
        (sym (set_elsewhere now index plane new apart))
        (are.each plane other (omega arith))
  ];
  rest = λ plane past. set_elsewhere now index plane new (λ same. omega arith) ∙ are.rest plane (omega arith);
}

-- ---- the box of the planes below a number

-- the smallest rectangle of what the first planes have
pub record IsBoxBelow (planes : List PlaneValue) (count : ℕ) (box : Rect) : Type 0 where
  pub place : Place
  pub material : IsMaterial (layout_on planes) place
  pub covers : (place : Place) → place.plane < count → IsMaterial (layout_on planes) place → Covers box place.square
  pub least : (area : Rect) → ((place : Place) → IsMaterial (layout_on planes) place → Covers area place.square) → LiesWithin box area

-- the same, told as an option
abbrev pub BoxBelow : List PlaneValue → ℕ → Option Rect → Type 0
BoxBelow planes count None = (place : Place) → place.plane < count → layout_on planes place ≡ 0
BoxBelow planes count (Some box) = IsBoxBelow planes count box

-- a plane without paint adds nothing
pub box_kept : (planes : List PlaneValue) (count : ℕ) (found : Option Rect) → ((square : Square) → number_on (plane_at planes count) square ≡ 0)
    → BoxBelow planes count found → BoxBelow planes (count + 1) found
box_kept planes count None empty none = λ place below. elim (cases_eq place.plane count) [
  | inl here ↦ ap (λ (n : ℕ). number_on (plane_at planes n) place.square) here ∙ empty place.square
  | inr apart ↦ none place (omega arith)
]
box_kept planes count (Some box) empty some = record {
  place = some.place;
  material = some.material;
  covers = λ place below material. elim (cases_eq place.plane count) [
    | inl here ↦ absurd (material (ap (λ (n : ℕ). number_on (plane_at planes n) place.square) here ∙ empty place.square))
    | inr apart ↦ some.covers place (omega arith) material
  ];
  least = some.least;
}

-- a place of this plane lies in its box
in_box : (planes : List PlaneValue) (count : ℕ) (area : Rect) → IsBox (number_on (plane_at planes count)) area
    → (place : Place) → place.plane ≡ count → IsMaterial (layout_on planes) place → Covers area place.square
in_box planes count area box place here material =
    box.covers place.square (λ zero'. material (ap (λ (n : ℕ). number_on (plane_at planes n) place.square) here ∙ zero'))

-- the first rectangle
pub box_begun : (planes : List PlaneValue) (count : ℕ) (area : Rect) → IsBox (number_on (plane_at planes count)) area → BoxBelow planes count None
    → BoxBelow planes (count + 1) (Some area)
box_begun planes count area box none = record {
  place = place_at count box.square;
  material = box.material;
  covers = λ place below material. elim (cases_eq place.plane count) [
    | inl here ↦ in_box planes count area box place here material
    | inr apart ↦ absurd (material (none place (omega arith)))
  ];
  least = λ other all. box.least other (λ square some. all (place_at count square) some);
}

-- one more rectangle
pub box_grown : (planes : List PlaneValue) (count : ℕ) (old area : Rect) → IsBox (number_on (plane_at planes count)) area → BoxBelow planes count (Some old)
    → BoxBelow planes (count + 1) (Some (joined_rect old area))
box_grown planes count old area box some = record {
  place = some.place;
  material = some.material;
  covers = λ place below material. elim (cases_eq place.plane count) [
    | inl here ↦ covers_joined_right old area place.square (in_box planes count area box place here material)
    | inr apart ↦ covers_joined_left old area place.square (some.covers place (omega arith) material)
  ];
  least = λ other all. joined_within old area other (some.least other all) (box.least other (λ square more. all (place_at count square) more));
}

-- past the last plane there is nothing
pub box_whole : (planes : List PlaneValue) (count : ℕ) (found : Option Rect) → length planes ≤ count → BoxBelow planes count found
    → MatchOption found ((place : Place) → layout_on planes place ≡ 0) (IsPaintBox (layout_on planes))
box_whole planes count None all none = λ place. elim (cases_lt place.plane count) [
  | inl below ↦ none place below
  | inr past ↦ space_past planes place.plane place.square (omega arith)
]
box_whole planes count (Some box) all some = record {
  place = some.place;
  material = some.material;
  covers = λ place material. elim (cases_lt place.plane count) [
    | inl below ↦ some.covers place below material
    | inr past ↦ absurd (material (space_past planes place.plane place.square (omega arith)))
  ];
  least = some.least;
}

-- ---- the pieces for one plane

-- what can be set on all planes can be set on each
pub settable_at : (changes : List (Vec Piece Global)) (index : ℕ) (pieces : Vec Piece Global) → AreSettable changes → index < length changes
    → pieces ≡ get_or changes index pieces
    → IsSettable pieces.items
settable_at changes index pieces all below is = subst (λ (p : Vec Piece Global). IsSettable p.items) (sym is) (all index pieces below)

-- the pieces read at an index are those for the plane
pub pieces_read : (changes : List (Vec Piece Global)) (index : ℕ) (pieces other : Vec Piece Global) → index < length changes
    → pieces ≡ get_or changes index pieces
    → pieces.items ≡ pieces_for changes index other
pieces_read changes index pieces other below is = ap (λ (p : Vec Piece Global). p.items) (is ∙ get_or_default changes index pieces other below)
