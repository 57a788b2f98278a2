-- How the box of what a cell has of its own changes with its paint and its labels.
use Rattle.cell_library.proofs.Common.{◌≡◌, ◌⊎◌, List, [], ◌∷◌, ◌++◌, Option, refl, ap, subst, arith, inl, inr, Some, None, IfSome, ints, In}
use Rattle.cell_library.proofs.Common.{In-append_left, In-push_cases, Square, Rect, LiesWithin, joined_rect, Covers, IsProper, filled_within, Label}
use Rattle.cell_library.proofs.Common.{Place, Layout, IsMaterial, IsInside, IsLawfulBox, SpansInRange, HoldsOwn, IsOwnBox, OwnBoxIs, box_with}
use Rattle.std.specs.Prelude.{IsNone, ◌↔◌, ◌≤ℤ◌}
use Rattle.geo_core.proofs.FiniteSets.Members.{In-push}
use Rattle.geo_core.proofs.CoveringLaws.{joined_within, within_trans, within_antisym, within_joined_first, within_joined_second, within_covers}
use Rattle.cell_bodies.specs.CellPaint.Paints.{IsPaintBox}

-- a box that is not turned inside out, within a rectangle that lies in range
pub box_within : (box outer : Rect) → box.xlo ≤ℤ box.xhi → box.ylo ≤ℤ box.yhi → LiesWithin box outer → SpansInRange outer → IsLawfulBox box
box_within box outer wide high within spans =
    let left = within.right_of_xlo in
    let bottom = within.above_ylo in
    let right = within.left_of_xhi in
    let top = within.below_yhi in
    let low_x = spans.xlo.low in
    let high_x = spans.xhi.high in
    let low_y = spans.ylo.low in
    let high_y = spans.yhi.high in
    record {
      wide = wide;
      high = high;
      spans = record {
        xlo = record { low = omega (arith, ints); high = omega (arith, ints) };
        ylo = record { low = omega (arith, ints); high = omega (arith, ints) };
        xhi = record { low = omega (arith, ints); high = omega (arith, ints) };
        yhi = record { low = omega (arith, ints); high = omega (arith, ints) };
      };
    }

-- ---- rectangles

-- ---- what is held

holds_larger : (own : Layout) (labels : List Label) (core area : Rect) → LiesWithin core area → HoldsOwn own labels core → HoldsOwn own labels area
holds_larger own labels core area within holds = record {
  material = λ place is. within_covers core area place.square within (holds.material place is);
  labels_within = λ label is. within_trans label.area core area (holds.labels_within label is) within;
}

-- the box, with an area that is taken in, goes round what it held
old_within : (own : Layout) (labels : List Label) (box : Option Rect) (area : Rect) → OwnBoxIs own labels box → HoldsOwn own labels (box_with box area)
old_within own labels None area none = record {
  material = λ place is. absurd (none (inl (place, is)));
  labels_within = λ label is. absurd (none (inr (label, is)));
}
old_within own labels (Some box) area is = holds_larger own labels box (joined_rect box area) (within_joined_first box area) is.holds

area_within : (box : Option Rect) (area : Rect) → LiesWithin area (box_with box area)
area_within None area = omega (arith, ints)
area_within (Some box) area = within_joined_second box area

with_least : (own : Layout) (labels : List Label) (box : Option Rect) (area other : Rect) → OwnBoxIs own labels box → HoldsOwn own labels other
    → LiesWithin area other
    → LiesWithin (box_with box area) other
with_least own labels None area other none holds within = within
with_least own labels (Some box) area other is holds within = joined_within box area other (is.least other holds) within

-- ---- one box

-- a layout and labels have one box
pub own_box_unique : (own : Layout) (labels : List Label) (a b : Option Rect) → OwnBoxIs own labels a → OwnBoxIs own labels b → a ≡ b
own_box_unique own labels None None one two = refl
own_box_unique own labels None (Some b) none is = absurd (none is.some)
own_box_unique own labels (Some a) None is none = absurd (none is.some)
own_box_unique own labels (Some a) (Some b) one two =
    ap (λ (box : Rect). Some box) (within_antisym a b (one.least b two.holds) (two.least a one.holds))

-- ---- what is added

-- Material that fills an area is added: the box goes round the old one and the area.
pub filled_box : (own painted : Layout) (labels : List Label) (box : Option Rect) (area : Rect) → OwnBoxIs own labels box → IsProper area
    → ((place : Place) → IsMaterial own place → IsMaterial painted place)
    → ((square : Square) → Covers area square → (place : Place) × (IsMaterial painted place × (place.square ≡ square)))
    → ((place : Place) → IsMaterial painted place → Covers area place.square ⊎ IsMaterial own place)
    → IsOwnBox painted labels (box_with box area)
filled_box own painted labels box area is proper keeps fills only =
    let old = old_within own labels box area is in
    let corner : Square = record { x = area.xlo; y = area.ylo } in
    let first = fills corner (omega (arith, ints)) in
    record {
      some = inl (first.0, first.1.0);
      holds = record {
        material = λ place material. elim (only place material) [
          | inl inside ↦ within_covers area (box_with box area) place.square (area_within box area) inside
          | inr before ↦ old.material place before
        ];
        labels_within = old.labels_within;
      };
      least = λ other holds.
          with_least own labels box area other is
          (record { material = λ place material. holds.material place (keeps place material); labels_within = holds.labels_within })
          (filled_within area other proper (λ square covers.
          let at = fills square covers in subst (Covers other) at.1.1 (holds.material at.0 at.1.0)));
    }

-- A label is added: the box goes round the old one and the label.
pub labelled_box : (own : Layout) (labels : List Label) (box : Option Rect) (label : Label) → OwnBoxIs own labels box
    → IsOwnBox own (labels ++ label ∷ []) (box_with box label.area)
labelled_box own labels box label is =
    let old = old_within own labels box label.area is in
    record {
      some = inr (label, In-push labels label);
      holds = record {
        material = old.material;
        labels_within = λ other other_in. elim (In-push_cases other labels label other_in) [
          | inl before ↦ old.labels_within other before
          | inr same ↦ subst (λ (l : Label). LiesWithin l.area (box_with box label.area)) same (area_within box label.area)
        ];
      };
      least = λ area holds.
          with_least own labels box label.area area is
          (record {
            material = holds.material;
            labels_within = λ other other_in.
                holds.labels_within other (In-append_left other labels (label ∷ []) other_in);
          })
          (holds.labels_within label (In-push labels label));
    }

-- ---- what is taken away

-- where there is no more than before, the box lies inside the old one
pub fewer_inside : (own less : Layout) (labels fewer : List Label) (box after : Option Rect) → OwnBoxIs own labels box → OwnBoxIs less fewer after
    → ((place : Place) → IsMaterial less place → IsMaterial own place) → ((label : Label) → In label fewer → In label labels) → IsInside after box
fewer_inside own less labels fewer box None is none still among = tt
fewer_inside own less labels fewer None (Some inner) none is still among = elim is.some [
  | inl material ↦ none (inl (material.0, still material.0 material.1))
  | inr label ↦ none (inr (label.0, among label.0 label.1))
]
fewer_inside own less labels fewer (Some outer) (Some inner) was is still among =
    is.least outer (record {
      material = λ place material. was.holds.material place (still place material);
      labels_within = λ label label_in. was.holds.labels_within label (among label label_in);
    })

-- ---- paint alone

-- the box of paint is the own box of a cell without labels
pub paint_box : (own : Layout) (box : Option Rect) → (IsNone box ↔ ((place : Place) → own place ≡ 0)) → IfSome box (IsPaintBox own) → OwnBoxIs own [] box
paint_box own None none some = λ has. elim has [
  | inl material ↦ material.1 (none.0 refl material.0)
  | inr label ↦ label.1
]
paint_box own (Some box) none is = record {
  some = inl (is.place, is.material);
  holds = record { material = is.covers; labels_within = λ label absent. absurd absent };
  least = λ area holds. is.least area holds.material;
}
