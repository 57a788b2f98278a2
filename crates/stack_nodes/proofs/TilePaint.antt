-- The paint of a tile: it lies in the tile, has types of its planes alone, and beside each label the images of the label's layer.
use Rattle.stack_nodes.proofs.Common.{◌≡◌, ◌<◌, ◌∙◌, ℕ, pos, length, refl, arith, inl, inr, cases_Bool, ints, In, Square, Covers, is_covered}
use Rattle.stack_nodes.proofs.Common.{RawTech, TypeId, HaveOwnSets, images_of, plane_of, IsWellFormed, IsMaterial, Layout, Place, place_at}
use Rattle.stack_nodes.proofs.Common.{with_paint, tile_layout, area_to}
use Rattle.std.proofs.lemmas.Bool.{cases_eq}
use Rattle.tech_model.specs.Columns.{painted_column}
use Rattle.tech_model.proofs.GeoCore.CoveringLaws.{Covers-is_covered}
use Rattle.cell_paint.proofs.PaintLaws.{changed_outside}
use Rattle.layout_gen.specs.Generated.{diff_area, no_paint, poly_area}
use Rattle.stack_nodes.proofs.FreshPaint.{HasPlaneTypes, fresh_paint, painted_on}

-- ---- where a tile lies

-- The place lies between these sides, from 0 on.
abbrev pub IsInArea : ℕ → ℕ → Place → Type 0
IsInArea width height place = Covers (area_to width height) place.square

-- The place lies in the tile.
abbrev pub IsInTile : Place → Type 0
IsInTile = IsInArea 6 6

-- the square right of the middle of the label of poly
abbrev pub poly_square : Square
poly_square = record { x = pos 0; y = pos 2 }

-- the square above the middle of that of diffusion
abbrev pub diff_square : Square
diff_square = record { x = pos 2; y = pos 0 }

module _ (raw : RawTech) (poly diff : ℕ) where
  -- what stands there before diffusion is painted
  abbrev poly_layout : Layout
  poly_layout = with_paint raw poly poly_area no_paint

  -- all paint of a tile lies in it
  pub paint_in_tile : (place : Place) → IsMaterial (tile_layout raw poly diff) place → IsInTile place
  paint_in_tile place material = elim (cases_Bool (is_covered diff_area place.square)) [
    | inl in_diff ↦ (
        let covers = Covers-is_covered diff_area place.square in_diff in
        record {
          right_of_xlo = omega (arith, ints, covers.right_of_xlo);
          left_of_xhi = omega (arith, ints, covers.left_of_xhi);
          above_ylo = omega (arith, ints, covers.above_ylo);
          below_yhi = omega (arith, ints, covers.below_yhi);
        })
    | inr outside ↦ elim (cases_Bool (is_covered poly_area place.square)) [
      | inl in_poly ↦ (
          let covers = Covers-is_covered poly_area place.square in_poly in
          record {
            right_of_xlo = omega (arith, ints, covers.right_of_xlo);
            left_of_xhi = omega (arith, ints, covers.left_of_xhi);
            above_ylo = omega (arith, ints, covers.above_ylo);
            below_yhi = omega (arith, ints, covers.below_yhi);
          })
      | inr beyond ↦ absurd (material
          (changed_outside (painted_column raw diff) (is_covered diff_area) poly_layout place outside
          ∙ changed_outside (painted_column raw poly) (is_covered poly_area) no_paint place beyond))
    ]
  ]

  -- beyond the tile there is space
  pub space_beyond : (place : Place) → (IsInTile place → ⊥) → tile_layout raw poly diff place ≡ 0
  space_beyond place outside = elim (cases_eq (tile_layout raw poly diff place) 0) [
    | inl space ↦ space
    | inr material ↦ absurd (outside (paint_in_tile place material))
  ]

  module _ (w : IsWellFormed raw) (poly_below : poly < length raw.layers) (diff_below : diff < length raw.layers) where
    -- its types stand on their planes
    pub tile_on_planes : HasPlaneTypes raw w (tile_layout raw poly diff)
    tile_on_planes =
        painted_on raw w diff diff_below diff_area poly_layout
        (painted_on raw w poly poly_below poly_area no_paint (λ place. inl refl))

    -- poly stands beside its label, where diffusion isn't painted
    pub poly_stands : HaveOwnSets raw → (image : TypeId) → In image (images_of raw poly)
        → tile_layout raw poly diff (place_at (plane_of raw image.0) poly_square) ≡ image.0
    poly_stands own image there =
        changed_outside (painted_column raw diff) (is_covered diff_area) poly_layout (place_at (plane_of raw image.0) poly_square) refl
        ∙ fresh_paint raw w own poly poly_below image there poly_area no_paint poly_square refl (λ plane. refl)

    -- diffusion stands beside its label, where poly isn't painted
    pub diff_stands : HaveOwnSets raw → (image : TypeId) → In image (images_of raw diff)
        → tile_layout raw poly diff (place_at (plane_of raw image.0) diff_square) ≡ image.0
    diff_stands own image there =
        fresh_paint raw w own diff diff_below image there diff_area poly_layout diff_square refl
        (λ plane. changed_outside (painted_column raw poly) (is_covered poly_area) no_paint (place_at plane diff_square) refl)
