-- Boxes of cells in the tree: which are lawful, and what the tree does with them.
use Rattle.cell_library.proofs.Common.{◌≡◌, ◌<◌, ℕ, List, length, set, Option, refl, sym, subst, ◌∙◌, arith, inl, inr, Some, None, not, All, IsTrue}
use Rattle.cell_library.proofs.Common.{bytes_eq, ints, clamps, and_parts, In-filter_source, All-from_In, All-In, Rect, LiesWithin, Covers, Label}
use Rattle.cell_library.proofs.Common.{RawTech, TypeRec, Layout, with_erased, layout_of, KeepsTypes, IsSoundPaint, IsLabel, has_sides, TreeFault}
use Rattle.cell_library.proofs.Common.{TooManyUses, Passed, Depth, Elements, Hull, IsInside, IsLawfulBox, Tree, IsLawfulTree, IsLawfulOwn, WouldPass}
use Rattle.cell_library.proofs.Common.{WouldKeepWithin, cell_at, with_own, cell_is, Held, held_at, IsRepainted, IsLawfulHeld, OwnBoxIs, IsOwnBox}
use Rattle.cell_library.proofs.Common.{box_with}
use Rattle.std.specs.Prelude.{◌≤ℤ◌}
use Rattle.tech_model.specs.WellFormed.{IsWellFormed}
use Rattle.cell_tree.specs.declared.faults.TreeFault.TheVariants.{Cycle, Memory}
use Rattle.cell_tree.specs.Trees.{RefusesBox}
use Rattle.cell_library.specs.Contents.{without_labels}
use Rattle.cell_library.proofs.BoxLaws.{box_within, fewer_inside}
use Rattle.cell_library.proofs.MaterialLaws.{erased_only}
use Rattle.cell_library.proofs.PaintEdits.{put_there}
use Rattle.cell_library.proofs.SizeLaws.{tree_children, children_of_changed, fits_or_passes}

-- a box that takes an area in is lawful
pub box_with_lawful : (old : Option Rect) (area : Rect) → IsLawfulOwn old → IsLawfulBox area → IsLawfulBox (box_with old area)
box_with_lawful None area old lawful = lawful
box_with_lawful (Some box) area old lawful =
    let was : IsLawfulBox box = old box refl in
    record {
      wide = omega (arith, ints, clamps);
      high = omega (arith, ints, clamps);
      spans = record {
        xlo = record { low = omega (arith, ints, clamps); high = omega (arith, ints, clamps) };
        ylo = record { low = omega (arith, ints, clamps); high = omega (arith, ints, clamps) };
        xhi = record { low = omega (arith, ints, clamps); high = omega (arith, ints, clamps) };
        yhi = record { low = omega (arith, ints, clamps); high = omega (arith, ints, clamps) };
      };
    }

-- the box of a cell of the tree is lawful
pub own_lawful : (tree : Tree) (cell : ℕ) → IsLawfulTree tree → cell < length tree.cells → IsLawfulOwn (cell_at tree.cells cell).own
own_lawful tree cell lawful below = (lawful.each cell (cell_at tree.cells cell) (cell_is tree.cells cell below)).own

-- one box alone is lawful where it is
pub some_lawful : (box : Rect) → IsLawfulBox box → IsLawfulOwn (Some box)
some_lawful box lawful other is = let same : box ≡ other = cc in subst IsLawfulBox same lawful

-- what refuses a box is the limit of hulls
pub box_passes : (tree : Tree) (cell : ℕ) (own : Option Rect) (fault : TreeFault) → RefusesBox tree cell own fault
    → WouldPass Hull tree cell (with_own (cell_at tree.cells cell) own)
box_passes tree cell own (Passed Hull) passes = passes
box_passes tree cell own (Cycle key) none = absurd none
box_passes tree cell own TooManyUses none = absurd none
box_passes tree cell own (Passed Depth) none = absurd none
box_passes tree cell own (Passed Elements) none = absurd none
box_passes tree cell own Memory none = absurd none

-- a box that fits isn't refused
pub box_fits : (tree : Tree) (cell : ℕ) (own : Option Rect) (fault : TreeFault) → IsLawfulTree tree → cell < length tree.cells
    → WouldKeepWithin tree cell (with_own (cell_at tree.cells cell) own) → RefusesBox tree cell own fault → ⊥
box_fits tree cell own fault lawful below keeps refuses =
    fits_or_passes tree cell (with_own (cell_at tree.cells cell) own) Hull
    (children_of_changed tree.cells cell (with_own (cell_at tree.cells cell) own) (tree_children tree lawful)
    (λ k entry is. tree_children tree lawful cell (cell_at tree.cells cell) (cell_is tree.cells cell below) k entry is))
    keeps (box_passes tree cell own fault refuses)

-- ---- boxes of what is left

sides : (area : Rect) → IsTrue (has_sides area) → (area.xlo ≤ℤ area.xhi) × (area.ylo ≤ℤ area.yhi)
sides area is = (grind (arith, ints), grind (arith, ints))

-- an own box is not turned inside out
pub own_box_wide : (own : Layout) (labels : List Label) (box : Rect) → IsOwnBox own labels box → All (λ label. IsTrue (has_sides label.area)) labels
    → (box.xlo ≤ℤ box.xhi) × (box.ylo ≤ℤ box.yhi)
own_box_wide own labels box is upright = elim is.some [
  | inl material ↦ (let covers : Covers box material.0.square = is.holds.material material.0 material.1 in (omega (arith, ints), omega (arith, ints)))
  | inr label ↦ (
      let within : LiesWithin label.0.area box = is.holds.labels_within label.0 label.1 in
      let turned = sides label.0.area (All-In (λ (l : Label). IsTrue (has_sides l.area)) labels label.0 upright label.1) in
      let wide : label.0.area.xlo ≤ℤ label.0.area.xhi = turned.0 in
      let high : label.0.area.ylo ≤ℤ label.0.area.yhi = turned.1 in
      (omega (arith, ints), omega (arith, ints)))
]

-- a smaller box is lawful
pub inner_lawful : (own : Layout) (labels : List Label) (box old : Option Rect) → OwnBoxIs own labels box → IsInside box old → IsLawfulOwn old
    → All (λ label. IsTrue (has_sides label.area)) labels → IsLawfulOwn box
inner_lawful own labels None old is inside lawful upright inner same = absurd (cc)
inner_lawful own labels (Some box) None is inside lawful upright inner same = absurd inside
inner_lawful own labels (Some box) (Some outer) is inside lawful upright inner same =
    let was : IsLawfulBox outer = lawful outer refl in
    let turned = own_box_wide own labels box is upright in
    let one : box ≡ inner = cc in
    subst IsLawfulBox one (box_within box outer turned.0 turned.1 inside was.spans)

-- labels of a lawful cell are upright
pub upright_labels : (raw : RawTech) (labels : List Label) → All (IsLabel raw) labels → All (λ label. IsTrue (has_sides label.area)) labels
upright_labels raw labels are = λ k d below. (let area = (are k d below).area in (and_parts _ _ area).0)

-- what is left after erasing has its box inside the old one
pub erased_inside : (raw : RawTech) (layer : ℕ) (area : Rect) (old new : List Held) (cell : ℕ) (box after : Option Rect) → IsWellFormed raw
    → layer < length raw.layers
    → cell < length old → IsLawfulHeld raw (held_at old cell) → IsSoundPaint (held_at old cell).paint.kinds (layout_of (held_at old cell).paint)
    → IsRepainted old new cell (with_erased raw layer area)
    → OwnBoxIs (layout_of (held_at old cell).paint) (held_at old cell).labels box
    → OwnBoxIs (layout_of (held_at new cell).paint) (held_at new cell).labels after → IsInside after box
erased_inside raw layer area old new cell box after w layer_below below held sound erased was is =
    let there = put_there old new cell (record (held_at old cell) { paint = erased.paint }) below erased.is in
    let keeps : KeepsTypes raw.types (layout_of (held_at old cell).paint) =
    subst (λ (kinds : List TypeRec). KeepsTypes kinds (layout_of (held_at old cell).paint)) held.kinds sound.types in
    fewer_inside (layout_of (held_at old cell).paint) (layout_of erased.paint) (held_at old cell).labels (held_at old cell).labels box after was
    (subst (λ (h : Held). OwnBoxIs (layout_of h.paint) h.labels after) there is)
    (λ place material. erased_only raw layer area (layout_of (held_at old cell).paint) w layer_below keeps place
    (λ space. material (erased.layout place ∙ space)))
    (λ label among. among)

-- and so has what is left without labels
pub unlabelled_inside : (text : List ℕ) (old new : List Held) (cell : ℕ) (box after : Option Rect) → cell < length old
    → new ≡ set old cell (without_labels (held_at old cell) text)
    → OwnBoxIs (layout_of (held_at old cell).paint) (held_at old cell).labels box
    → OwnBoxIs (layout_of (held_at new cell).paint) (held_at new cell).labels after → IsInside after box
unlabelled_inside text old new cell box after below unlabelled was is =
    let held = held_at old cell in
    let there = put_there old new cell (without_labels held text) below unlabelled in
    fewer_inside (layout_of held.paint) (layout_of held.paint) held.labels (without_labels held text).labels box after was
    (subst (λ (h : Held). OwnBoxIs (layout_of h.paint) h.labels after) there is)
    (λ place material. material) (λ label among. In-filter_source (λ l. not (bytes_eq l.text text)) label held.labels among)

-- the labels that are left are upright
pub left_upright : (text : List ℕ) (old new : List Held) (cell : ℕ) → cell < length old → new ≡ set old cell (without_labels (held_at old cell) text)
    → All (λ label. IsTrue (has_sides label.area)) (held_at old cell).labels → All (λ label. IsTrue (has_sides label.area)) (held_at new cell).labels
left_upright text old new cell below unlabelled upright =
    let held = held_at old cell in
    let P : Label → Type 0 = λ label. IsTrue (has_sides label.area) in
    subst (λ (h : Held). All P h.labels) (sym (put_there old new cell (without_labels held text) below unlabelled))
    (All-from_In P (without_labels held text).labels (λ label among.
    All-In P held.labels label upright (In-filter_source (λ l. not (bytes_eq l.text text)) label held.labels among)))

pub erased_upright : (raw : RawTech) (layer : ℕ) (area : Rect) (old new : List Held) (cell : ℕ) → cell < length old
    → IsRepainted old new cell (with_erased raw layer area)
    → All (λ label. IsTrue (has_sides label.area)) (held_at old cell).labels → All (λ label. IsTrue (has_sides label.area)) (held_at new cell).labels
erased_upright raw layer area old new cell below erased upright =
    subst (λ (h : Held). All (λ label. IsTrue (has_sides label.area)) h.labels)
    (sym (put_there old new cell (record (held_at old cell) { paint = erased.paint }) below erased.is)) upright
