-- Paint of a layer where there was none: the layer's images stand, and no type stands on a plane that is not its own.
use Rattle.stack_nodes.proofs.Common.{◌≡◌, ◌<◌, ◌≤◌, ◌∙◌, ℕ, true, false, Bool, List, length, refl, sym, ap, subst, arith, inl, inr, Option, Some}
use Rattle.stack_nodes.proofs.Common.{None, IsTrue, cases_Bool, In, Square, is_covered, MOST_PLANES, RawTech, TypeId, HaveOwnSets, images_of}
use Rattle.stack_nodes.proofs.Common.{plane_of, IsWellFormed, Layout, Place, place_at, with_paint}
use Rattle.std.specs.Prelude.{◌||◌}
use Rattle.std.specs.Option.{option_map_or}
use Rattle.std.proofs.lemmas.Bool.{cases_lt, eq-eqb, eqb-true}
use Rattle.tech_model.specs.GeoCore.declared.squares.Rect.{Rect}
use Rattle.tech_model.specs.declared.columns.Brush.TheVariants.{Paint as PaintBrush}
use Rattle.tech_model.specs.ColumnForms.{IsColumn, IsOnPlane}
use Rattle.tech_model.specs.Columns.{painted_column, type_on}
use Rattle.tech_model.specs.Types.{image_on, is_on, is_type, layer_of, type_number}
use Rattle.tech_model.proofs.GeoCore.FiniteSets.Searches.{find-In, find-passes}
use Rattle.tech_model.proofs.WellFormedLaws.{type_bounds}
use Rattle.tech_model.proofs.WholeLaws.{brushed_column-whole}
use Rattle.cell_paint.specs.Painting.{column_at}
use Rattle.cell_paint.proofs.AgainLaws.{found_image, image_type}
use Rattle.cell_paint.proofs.ColumnsLaws.{column_type}
use Rattle.cell_paint.proofs.PaintLaws.{changed_inside, changed_outside, type_past_column}
use Rattle.cell_paint.proofs.ShownLaws.{Stands, StandWhole, painted_column-shown, shown_there, with_layer}

-- the type that stands where this image does, and space where there is none
abbrev kind_of : Option TypeId → ℕ
kind_of image = option_map_or (λ t. t.0) image 0

-- a type is no space
pub type_not_space : (raw : RawTech) (t : ℕ) → IsTrue (is_type raw t) → t ≡ 0 → ⊥
type_not_space raw t is space = let low = (type_bounds raw t is).0 in omega arith

module _ (raw : RawTech) (w : IsWellFormed raw) where
  -- ---- the images of a layer

  module _ (layer : ℕ) (below : layer < length raw.layers) where
    image_on_plane : (plane : ℕ) (image : Option TypeId) → image_on raw layer plane ≡ image → IsOnPlane raw plane (kind_of image)
    image_on_plane plane None is = inl refl
    image_on_plane plane (Some image) is = inr (
      image_type raw layer image w below (find-In (is_on raw plane) (images_of raw layer) image is),
      eqb-true (plane_of raw image.0) plane (find-passes (is_on raw plane) (images_of raw layer) image is),
    )

    -- the image on the plane of one of the images is that image
    image_stands : Stands raw (λ plane. kind_of (image_on raw layer plane)) layer
    image_stands image there = ap kind_of (found_image raw layer image (image_on raw layer (plane_of raw image.0)) w below there refl)

    -- where an image of a layer stands, all images of it do
    whole_where : (s t : ℕ) (image : Option TypeId) → IsTrue (is_type raw s) → IsTrue (is_type raw t) → layer_of raw s ≡ layer_of raw t
        → image_on raw layer (plane_of raw s) ≡ image → kind_of image ≡ s → kind_of (image_on raw layer (plane_of raw t)) ≡ t
    whole_where s t None s_is t_is layers found same = absurd (type_not_space raw s s_is (sym same))
    whole_where s t (Some image) s_is t_is layers found same =
        let there = find-In (is_on raw (plane_of raw s)) (images_of raw layer) image found in
        let at : layer_of raw t ≡ layer = sym layers ∙ ap (layer_of raw) (sym same) ∙ w.of_one_layer layer image.0 below there in
        image_stands (type_number t) (subst (λ (l : ℕ). In (type_number t) (images_of raw l)) at (w.is_image t t_is))

    images_whole : StandWhole raw (λ plane. kind_of (image_on raw layer plane))
    images_whole s t s_is t_is layers = whole_where s t (image_on raw layer (plane_of raw s)) s_is t_is layers refl

    -- paint of the layer on a square without paint leaves its images
    pub fresh_column : HaveOwnSets raw → (image : TypeId) → In image (images_of raw layer) → (column : List TypeId)
        → length raw.planes ≤ length column → ((plane : ℕ) → type_on column plane ≡ 0)
        → type_on (painted_column raw layer column) (plane_of raw image.0) ≡ image.0
    fresh_column own image there column long empty =
        let kinds : ℕ → ℕ = λ plane. kind_of (image_on raw layer plane) in
        let plane = plane_of raw image.0 in
        let stands : kinds plane ≡ image.0 = image_stands image there in
        let none : ℕ → Bool = λ layer. false in
        let shows : with_layer none layer (layer_of raw (kinds plane)) ≡ true =
        ap (λ (b : Bool). b || false)
        (eq-eqb (layer_of raw (kinds plane)) layer (ap (layer_of raw) stands ∙ w.of_one_layer layer image.0 below there)) in
        painted_column-shown raw w own kinds (λ p. image_on_plane p (image_on raw layer p) refl) images_whole none layer below image_stands column long
        empty plane
        ∙ shown_there raw (with_layer none layer) kinds plane shows ∙ stands

  -- ---- types on their planes

  -- at each place of the layout there is a type of the plane, or space
  abbrev pub HasPlaneTypes : Layout → Type 0
  HasPlaneTypes layout = (place : Place) → IsOnPlane raw place.plane (layout place)

  column_on : (layout : Layout) → HasPlaneTypes layout → (square : Square) → IsColumn raw (column_at layout square)
  column_on layout on square plane = elim (cases_lt plane MOST_PLANES) [
    | inl below ↦ subst (IsOnPlane raw plane) (sym (column_type layout square plane below)) (on (place_at plane square))
    | inr past ↦ inl (type_past_column layout square plane (omega (arith, past)))
  ]

  -- paint keeps it so
  pub painted_on : (layer : ℕ) → layer < length raw.layers → (area : Rect) (layout : Layout) → HasPlaneTypes layout
      → HasPlaneTypes (with_paint raw layer area layout)
  painted_on layer below area layout on place = elim (cases_Bool (is_covered area place.square)) [
    | inl covered ↦
        subst (IsOnPlane raw place.plane) (sym (changed_inside (painted_column raw layer) (is_covered area) layout place covered))
        ((brushed_column-whole raw PaintBrush layer (column_at layout place.square) w below (column_on layout on place.square)).0 place.plane)
    | inr outside ↦
        subst (IsOnPlane raw place.plane) (sym (changed_outside (painted_column raw layer) (is_covered area) layout place outside)) (on place)
  ]

  -- ---- paint of a layer on a square

  empty_column : (layout : Layout) (square : Square) → ((plane : ℕ) → layout (place_at plane square) ≡ 0)
      → (plane : ℕ) → type_on (column_at layout square) plane ≡ 0
  empty_column layout square empty plane = elim (cases_lt plane MOST_PLANES) [
    | inl below ↦ column_type layout square plane below ∙ empty plane
    | inr past ↦ type_past_column layout square plane (omega (arith, past))
  ]

  -- where there was no paint, paint of a layer leaves its images
  pub fresh_paint : HaveOwnSets raw → (layer : ℕ) → layer < length raw.layers → (image : TypeId) → In image (images_of raw layer) → (area : Rect)
      → (layout : Layout) (square : Square) → is_covered area square ≡ true → ((plane : ℕ) → layout (place_at plane square) ≡ 0)
      → with_paint raw layer area layout (place_at (plane_of raw image.0) square) ≡ image.0
  fresh_paint own layer below image there area layout square covered empty =
      let few = w.planes_limit in
      changed_inside (painted_column raw layer) (is_covered area) layout (place_at (plane_of raw image.0) square) covered
      ∙ fresh_column layer below own image there (column_at layout square) (omega arith) (empty_column layout square empty)
