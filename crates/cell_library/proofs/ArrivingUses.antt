-- The uses of a cell that comes, as a library has them.
use Rattle.cell_library.proofs.Common.{◌≡◌, ◌<◌, ℕ, zero, suc, true, List, [], ◌∷◌, length, map, Option, refl, sym, ap, subst, ◌∙◌, arith, inl, inr}
use Rattle.cell_library.proofs.Common.{true≢false, rules, Some, None, IfSome, IsTrue, All, slice_get, unwrap_or, position_or_len, option_map}
use Rattle.cell_library.proofs.Common.{bytes_eq, cases_Bool, and_parts, ints, length-map, bytes_eq-Decides, In, Distinct, All-In, Label, TypeRec}
use Rattle.cell_library.proofs.Common.{Grid, Orient, Rect, Transform, LiesWithin, identity, Layout, is_in_range, IsSoundPaint, CellUse, has_sides}
use Rattle.cell_library.proofs.Common.{is_displacement, UseBody, MayCome, IsLawfulBox, SpansInRange, CellState, IsLawfulOwn, IsLawfulUse}
use Rattle.cell_library.proofs.Common.{AreUsesAmong, kept_uses, names_in, kept_use, Held, position_of, OwnBoxIs, HoldsOwn}
use Rattle.std.specs.Prelude.{ℤ}
use Rattle.std.specs.Option.{is_some}
use Rattle.geo_core.specs.Orientation.{orient_of, is_orientation}
use Rattle.cell_bodies.specs.CellPaint.Painting.{paint_range}
use Rattle.cell_bodies.specs.Bodies.{IsUse, ids_of}
use Rattle.cell_bodies.specs.Numbers.{are_displacements, are_elements}
use Rattle.cell_bodies.specs.Numbers.{is_grid, is_label_area, is_placing}
use Rattle.cell_bodies.proofs.GridLaws.{IsLawful-is_grid}
use Rattle.cell_tree.specs.Sizes.{AreUsesBelow}
use Rattle.cell_library.specs.Edits.{transform_of}
use Rattle.cell_library.proofs.BoxLaws.{box_within}
use Rattle.cell_library.proofs.BoxSteps.{own_box_wide}
use Rattle.cell_library.proofs.NewCells.{name_is_new}
use Rattle.cell_library.proofs.UseSteps.{shift_of}

-- ---- positions

-- a name that is there stands at a position
pub position_below : (name : List ℕ) (names : List (List ℕ)) → In name names → position_or_len (bytes_eq name) names < length names
position_below name [] none = absurd none
position_below name (other ∷ names) there = elim (cases_Bool (bytes_eq name other)) [
  | inl same ↦ rw same (omega arith)
  | inr apart ↦ elim there [
    | inl here ↦ absurd (true≢false (sym ((bytes_eq-Decides name other).1 (sym here)) ∙ apart))
    | inr later ↦ (let below = position_below name names later in rw apart (omega arith))
  ]
]

-- a name that is there is found
pub never_lost : (name : List ℕ) (contents : List Held) → In name (names_in contents) → position_of name contents ≡ None → ⊥
never_lost name contents there none = name_is_new name contents none there

-- ---- six numbers

-- what holds of the transform of six numbers by which a use may stand
record IsPlacingOf (six : List ℤ) (placed : Transform) : Type 0 where
  is : transform_of six ≡ Some placed
  dx : is_displacement placed.dx ≡ true
  dy : is_displacement placed.dy ≡ true

-- six numbers by which a use may stand are those of a transform
placing_is : (six : List ℤ) → is_placing six ≡ true → (placed : Transform) × IsPlacingOf six placed
unfolding is_orientation
placing_is [] is = absurd (cc)
placing_is (a ∷ []) is = absurd (cc)
placing_is (a ∷ b ∷ []) is = absurd (cc)
placing_is (a ∷ b ∷ c ∷ []) is = absurd (cc)
placing_is (a ∷ b ∷ c ∷ d ∷ []) is = absurd (cc)
placing_is (a ∷ b ∷ c ∷ d ∷ e ∷ []) is = absurd (cc)
placing_is (a ∷ b ∷ c ∷ d ∷ e ∷ f ∷ []) is =
    let both = and_parts (are_displacements c f) (is_orientation a b d e) is in
    let near = and_parts (is_displacement c) (is_displacement f) both.0 in
    by (orient_of a b d e) refl near.0 near.1 both.1
  where
    by : (found : Option Orient) → orient_of a b d e ≡ found → is_displacement c ≡ true → is_displacement f ≡ true
        → is_some (orient_of a b d e) ≡ true → (placed : Transform) × IsPlacingOf (a ∷ b ∷ c ∷ d ∷ e ∷ f ∷ []) placed
    by None none c_is f_is some = absurd (true≢false (sym some ∙ ap is_some none))
    by (Some orient) found c_is f_is some = (
      record { orient = orient; dx = c; dy = f },
      record { is = ap (λ (o : Option Orient). option_map (λ (r : Orient). record { orient = r; dx = c; dy = f }) o) found; dx = c_is; dy = f_is },
    )
placing_is (a ∷ b ∷ c ∷ d ∷ e ∷ f ∷ g ∷ more) is = absurd (cc)

-- six numbers of no transform are none by which a use may stand
pub never_unplaced : (six : List ℤ) → is_placing six ≡ true → transform_of six ≡ None → ⊥
never_unplaced six is none =
    let found = placing_is six is in
    let both : Some found.0 ≡ None = sym found.1.is ∙ none in
    absurd (cc)

-- ---- a use

-- a use as the library has it is lawful
use_is_lawful : (names : List (List ℕ)) (used : CellUse) → IsUse used → IsLawfulUse (kept_use names used).1
use_is_lawful names used form =
    let found = placing_is used.six form.six in
    let placed : found.0 ≡ unwrap_or (transform_of used.six) identity = ap (λ (t : Option Transform). unwrap_or t identity) (sym found.1.is) in
    record {
      dx = shift_of _ (subst (λ (t : Transform). is_displacement t.dx ≡ true) placed found.1.dx);
      dy = shift_of _ (subst (λ (t : Transform). is_displacement t.dy ≡ true) placed found.1.dy);
      grid = λ grid is.
          let right : is_grid grid ≡ true = subst (λ (g : Option Grid). IfSome g (λ one. IsTrue (is_grid one))) is form.grid in
          let near = and_parts (is_displacement grid.xsep) (is_displacement grid.ysep)
          (and_parts (are_elements grid.xlo grid.xhi grid.ylo grid.yhi) (are_displacements grid.xsep grid.ysep) right).1 in
          record { lawful = IsLawful-is_grid grid right; xsep = shift_of grid.xsep near.0; ysep = shift_of grid.ysep near.1 };
    }

-- ---- the uses of a cell

ids_kept : (names : List (List ℕ)) (uses : List CellUse) → map (λ (entry : List ℕ × UseBody). entry.0) (map (kept_use names) uses) ≡ ids_of uses
ids_kept names [] = refl
ids_kept names (used ∷ uses) = ap (λ ids. used.id ∷ ids) (ids_kept names uses)

use_there : (names : List (List ℕ)) (uses : List CellUse) (k : ℕ) (entry : List ℕ × UseBody) → slice_get (map (kept_use names) uses) k ≡ Some entry
    → (used : CellUse) × (In used uses × (kept_use names used ≡ entry))
use_there names [] k entry is = absurd (cc)
use_there names (used ∷ uses) zero entry is = let same : kept_use names used ≡ entry = cc in (used, (inl refl, same))
use_there names (used ∷ uses) (suc k) entry is = let later = use_there names uses k entry is in (later.0, (inr later.1.0, later.1.1))

uses_below : (names : List (List ℕ)) (uses : List CellUse) → AreUsesAmong names uses → AreUsesBelow (length names) (map (kept_use names) uses)
uses_below names uses among k entry is =
    let there = use_there names uses k entry is in
    let used = there.0 in
    subst (λ (e : List ℕ × UseBody). IsLawfulUse e.1 × (e.1.child.0 < length names)) there.1.1 (
      use_is_lawful names used (All-In IsUse uses used among.each there.1.0),
      position_below used.cell names (All-In (λ (u : CellUse). In u.cell names) uses used among.children there.1.0),
    )

-- the own box of a cell that comes is lawful
new_box : (kinds : List TypeRec) (own : Layout) (labels : List Label) (box : Option Rect) → OwnBoxIs own labels box → IsSoundPaint kinds own
    → All (λ label. IsTrue (is_label_area label.area)) labels → IsLawfulOwn box
new_box kinds own labels None is sound near other same = absurd (cc)
new_box kinds own labels (Some box) is sound near other same =
    let upright : All (λ label. IsTrue (has_sides label.area)) labels = λ k d below. (and_parts _ _ (near k d below)).0 in
    let turned = own_box_wide own labels box is upright in
    let holds : HoldsOwn own labels paint_range = record {
      material = sound.range;
      labels_within = λ label among.
          let right = All-In (λ (l : Label). IsTrue (is_label_area l.area)) labels label near among in
          within label.area (and_parts (has_sides label.area) (is_in_range label.area) right).1;
    } in
    let one : box ≡ other = cc in
    let near : SpansInRange paint_range = search rules in
    subst IsLawfulBox one (box_within box paint_range turned.0 turned.1 (is.least paint_range holds) near)
  where
    within : (area : Rect) → is_in_range area ≡ true → LiesWithin area paint_range
    within area inside = record {
      right_of_xlo = grind (arith, ints);
      above_ylo = grind (arith, ints);
      left_of_xhi = grind (arith, ints);
      below_yhi = grind (arith, ints);
    }

-- A cell that comes may come to the tree.
pub cell_may_come : (contents : List Held) (kinds : List TypeRec) (own : Layout) (labels : List Label) (uses : List CellUse) (state : CellState)
    → OwnBoxIs own labels state.own → IsSoundPaint kinds own → All (λ label. IsTrue (is_label_area label.area)) labels
    → AreUsesAmong (names_in contents) uses → state.uses ≡ kept_uses contents uses → MayCome (length contents) state
cell_may_come contents kinds own labels uses state box sound near among is =
    let names = names_in contents in
    let so_many : length names ≡ length contents = length-map contents (λ (held : Held). held.name) in
    let long : length state.uses ≡ length uses = ap length is ∙ length-map uses (kept_use names) in
    let few = among.few in
    record {
      few = omega arith;
      uses = subst (λ (entries : List (List ℕ × UseBody)). AreUsesBelow (length contents) entries) (sym is)
          (subst (λ (n : ℕ). AreUsesBelow n (kept_uses contents uses)) so_many (uses_below names uses among));
      lawful = record {
        ids = subst Distinct (sym (ap (map (λ (entry : List ℕ × UseBody). entry.0)) is ∙ ids_kept names uses)) among.ids_differ;
        own = new_box kinds own labels state.own box sound near;
      };
    }
