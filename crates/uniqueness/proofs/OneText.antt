-- A cell has one text.
use Rattle.uniqueness.proofs.Common.{◌≡◌, ◌<◌, ℕ, suc, List, [], ◌∷◌, ◌++◌, length, refl, sym, ap, ◌∙◌, arith, Option, Some, slice_get}
use Rattle.uniqueness.proofs.Common.{slice_index_or, flat_map, same_lists, AreCells, Label, RawTech, UseBody, children_in, LibraryView, view_at}
use Rattle.geo_core.specs.Planes.{HasValue}
use Rattle.geo_strips.proofs.StripListLaws.{one_list}
use Rattle.tech_model.specs.Types.{plane_of}
use Rattle.cell_loading.specs.LayoutModel.Layouts.{Layout}
use Rattle.cell_loading.specs.CellPaint.Painting.{kinds_on}
use Rattle.cell_loading.specs.MagText.declared.written.LayerStrips.{LayerStrips}
use Rattle.cell_loading.specs.MagText.declared.written.WrittenUse.{WrittenUse}
use Rattle.cell_loading.specs.MagText.CellTexts.{AreWrittenUses, IsCellText, IsWrittenUse}
use Rattle.cell_loading.specs.MagText.WrittenTexts.{AreAllStrips, AreLayerStrips, mag_text, own_image, use_lines}
use Rattle.uniqueness.proofs.OneHull.{child_within, one_hull}

-- strips of a layer are one
one_layer : (raw : RawTech) (layout : Layout) (layer : ℕ) (a b : LayerStrips) → AreLayerStrips raw layout layer a → AreLayerStrips raw layout layer b → a ≡ b
one_layer raw layout layer a b p q =
    let own = own_image raw layer in
    let of_layer = p.of_layer ∙ sym q.of_layer in
    let areas = one_list (HasValue (kinds_on layout (plane_of raw own)) own) a.areas b.areas p.strips q.strips in
    (λ i. record { layer = of_layer i; areas = areas i })

-- and those of all layers
one_strips : (raw : RawTech) (layout : Layout) (a b : List LayerStrips) → AreAllStrips raw layout a → AreAllStrips raw layout b → a ≡ b
one_strips raw layout a b p q = same_lists a b (p.one_each ∙ sym q.one_each) (λ k d below.
    let within : k < length raw.layers = omega (arith, below, p.one_each) in
    one_layer raw layout k (slice_index_or a k d) (slice_index_or b k d) (p.each k d within) (q.each k d within))

module _ (view : LibraryView) (cells : AreCells (children_in view)) where
  -- a use is written with one list of lines
  one_use : (entry : List ℕ × UseBody) (a b : WrittenUse) → entry.1.child.0 < length view.cells → IsWrittenUse view entry a → IsWrittenUse view entry b
      → use_lines a ≡ use_lines b
  one_use entry a b there p q =
      let cell : a.cell.now ≡ b.cell.now = p.cell ∙ sym q.cell in
      let id : a.id.now ≡ b.id.now = p.id ∙ sym q.id in
      let six : a.six ≡ b.six = p.six ∙ sym q.six in
      let grid : a.grid ≡ b.grid = p.grid ∙ sym q.grid in
      let hull : a.hull ≡ b.hull = one_hull view cells entry.1.child.0 a.hull b.hull there p.hull q.hull in
      rw (cell, id, six, grid, hull) refl

  -- and so are uses
  one_lines : (uses : List (List ℕ × UseBody)) (a b : List WrittenUse)
      → ((k : ℕ) (entry : List ℕ × UseBody) → slice_get uses k ≡ Some entry → entry.1.child.0 < length view.cells)
      → AreWrittenUses view uses a → AreWrittenUses view uses b → flat_map use_lines a ≡ flat_map use_lines b
  one_lines [] [] [] within p q = refl
  one_lines [] [] (y ∷ b) within p q = absurd q
  one_lines [] (x ∷ a) b within p q = absurd p
  one_lines (entry ∷ uses) [] b within p q = absurd p
  one_lines (entry ∷ uses) (x ∷ a) [] within p q = absurd q
  one_lines (entry ∷ uses) (x ∷ a) (y ∷ b) within p q =
      let first = one_use entry x y (within 0 entry refl) p.0 q.0 in
      let rest = one_lines uses a b (λ k other is. within (suc k) other is) p.1 q.1 in
      ap (λ (lines : List (List ℕ)). lines ++ flat_map use_lines a) first ∙ ap (λ (lines : List (List ℕ)). use_lines y ++ lines) rest

-- the text has the lines of the uses, and nothing else of them
same_mag : (raw : RawTech) (scale : ℕ × ℕ) (strips : List LayerStrips) (a b : List WrittenUse) (labels : List Label)
    → flat_map use_lines a ≡ flat_map use_lines b → mag_text raw scale strips a labels ≡ mag_text raw scale strips b labels
unfolding mag_text
same_mag raw scale strips a b labels same = rw same refl

one_some : (found : Option (ℕ × ℕ)) (a b : ℕ × ℕ) → found ≡ Some a → found ≡ Some b → a ≡ b
one_some found a b here also = cc

-- so the text is one
pub one_text : (view : LibraryView) (cell : ℕ) (text other : List ℕ) → AreCells (children_in view) → IsCellText view cell text
    → IsCellText view cell other → text ≡ other
one_text view cell text other cells p q =
    let scale = one_some view.scale p.scale q.scale p.has_scale q.has_scale in
    let strips = one_strips view.tech (view_at view cell).own p.written.strips q.written.strips p.written.are_strips q.written.are_strips in
    let lines = one_lines view cells (view_at view cell).uses p.uses q.uses (child_within view cells cell) p.are_uses q.are_uses in
    let labels = (view_at view cell).labels in
    p.written.text_is
    ∙ ap (λ (one : ℕ × ℕ). mag_text view.tech one p.written.strips p.uses labels) scale
    ∙ ap (λ (all : List LayerStrips). mag_text view.tech q.scale all p.uses labels) strips
    ∙ same_mag view.tech q.scale q.written.strips p.uses q.uses labels lines
    ∙ sym q.written.text_is
