-- What is seen of a cell's paint within the range of paint is all of it.
use Rattle.cell_nodes.proofs.Common.{◌≡◌, ◌<◌, ◌≤◌, ℕ, length, inl, inr, refl, sym, ◌∙◌, arith, IsTrue, cases_eq, ints, MOST_PLANES, RawTech}
use Rattle.cell_nodes.proofs.Common.{is_type, Place, IsMaterial, IsNearPlace}
use Rattle.std.proofs.lemmas.Bool.{cases_Bool, false≢true}
use Rattle.ext_model.proofs.GeoCore.CoveringLaws.{is_covered-Covers}
use Rattle.ext_model.specs.GeoCore.Covering.{is_covered}
use Rattle.tech_model.specs.Types.{plane_of}
use Rattle.layout_model.specs.LayerTypes.{seen_in}
use Rattle.cell_paint.specs.Painting.{paint_range}
use Rattle.cell_paint.specs.Paints.{Paint, layout_of, seen_kind, IsSoundPaint}
use Rattle.cell_paint.proofs.PaintTypes.{paint_has_types}

seen_at : (paint : Paint) (place : Place) → IsSoundPaint paint.kinds (layout_of paint) → seen_in paint_range (seen_kind paint) place ≡ layout_of paint place
seen_at paint place sound = elim (cases_Bool (is_covered paint_range place.square)) [
  | inl inside ↦ rw inside refl
  | inr outside ↦ elim (cases_eq (layout_of paint place) 0) [
    | inl space ↦ rw outside (sym space)
    | inr material ↦ absurd (false≢true (sym outside ∙ is_covered-Covers paint_range place.square (sound.range place material)))
  ]
]

-- all paint is seen
pub all_seen : (paint : Paint) → IsSoundPaint paint.kinds (layout_of paint) → seen_in paint_range (seen_kind paint) ≡ layout_of paint
all_seen paint sound = let same : (place : Place) → seen_in paint_range (seen_kind paint) place ≡ layout_of paint place = λ place. seen_at paint place sound in
    λ i place. same place i

-- all paint is near
pub paint_is_near : (raw : RawTech) (paint : Paint) → raw.types ≡ paint.kinds → length paint.planes ≤ MOST_PLANES → length raw.planes ≤ MOST_PLANES
    → ((t : ℕ) → IsTrue (is_type raw t) → plane_of raw t < length raw.planes)
    → IsSoundPaint paint.kinds (layout_of paint) → (place : Place) → IsMaterial (layout_of paint) place → IsNearPlace place
paint_is_near raw paint same few fits planes sound place material =
    let type = paint_has_types raw paint same few sound place material in
    let below = planes (layout_of paint place) type.0 in
    let on = type.1 in
    let covers = sound.range place material in
    let left = covers.right_of_xlo in
    let right = covers.left_of_xhi in
    let bottom = covers.above_ylo in
    let top = covers.below_yhi in
    record {
      plane = omega (arith, below, on, fits);
      x = (omega (arith, ints, left), omega (arith, ints, right));
      y = (omega (arith, ints, bottom), omega (arith, ints, top));
    }
