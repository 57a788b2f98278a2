-- Painting what is written of a layout gives the layout again.
--
-- One square is looked at. The rectangles that cover it show one layer of the square's types after the other, each layer all its images, and at
-- the end each layer that has a type there is shown.
use Rattle.mag_text.proofs.Common.{◌≡◌, ◌<◌, ◌≤◌, ℕ, true, false, Bool, List, [], ◌∷◌, length, get_or, inl, inr, refl, sym, ap, subst, ◌∙◌, arith}
use Rattle.mag_text.proofs.Common.{◌||◌, IsTrue, flat_map, cases_Bool, cases_lt, In, Rect, Square, HasValue, IsStrip, MOST_PLANES, RawTech, is_type}
use Rattle.mag_text.proofs.Common.{type_number, layer_number, plane_of, no_layer, IsWellFormed, IsOnPlane, Place, Layout, column_type, Drawn}
use Rattle.mag_text.proofs.Common.{LayerStrips, painted_all, drawn_of, drawn_strips, own_image, AreLayerStrips, AreAllStrips}
use Rattle.std.proofs.Common.{fold}
use Rattle.std.proofs.Common.{true≢false}
use Rattle.std.specs.Prelude.{◌==◌}
use Rattle.std.proofs.lemmas.Bool.{eq-eqb}
use Rattle.finite_sets.proofs.Members.{In-map, In-map_source, In-get_or, In-index}
use Rattle.finite_sets.proofs.Images.{In-flat_map, In-flat_map_source}
use Rattle.geo_core.specs.Covering.{Covers, is_covered}
use Rattle.geo_core.proofs.CoveringLaws.{Covers-is_covered, is_covered-Covers}
use Rattle.tech_model.specs.Types.{layer_of, images_of}
use Rattle.tech_model.specs.Rules.{KeepsRules}
use Rattle.tech_model.specs.Columns.{type_on, painted_column}
use Rattle.cell_library.specs.CellPaint.Painting.{place_at, kinds_on, column_at}
use Rattle.cell_library.proofs.CellPaint.AgainLaws.{image_type}
use Rattle.cell_library.proofs.CellPaint.PaintLaws.{type_past_column, changed_inside, changed_outside}
use Rattle.cell_library.proofs.CellPaint.ShownLaws.{Stands, shown, with_layer, shown_there, shown_space, painted_column-shown}
use Rattle.mag_text.specs.CellsAgain.{IsSoundLayout}
use Rattle.mag_text.specs.Drawings.{empty_layout, with_drawn}
use Rattle.mag_text.proofs.StripLaws.{own_image-type}

-- a square that a strip covers is of the set
strip_square : (S : Square → Type 0) (area : Rect) (square : Square) → IsStrip S area → Covers area square → S square
strip_square S area square strip covers =
    (strip.runs square.y covers.above_ylo covers.below_yhi).within square.x covers.right_of_xlo covers.left_of_xhi

-- a layer that is added is shown
layer_added : (shows : ℕ → Bool) (layer : ℕ) → with_layer shows layer layer ≡ true
layer_added shows layer = ap (λ (b : Bool). b || shows layer) (eq-eqb layer layer refl)

or_true : (a b : Bool) → b ≡ true → (a || b) ≡ true
or_true true b is = refl
or_true false b is = is

-- The rectangle is of a layer, and where it covers a square, the layer's image on its own plane stands.
record IsOfLayout (raw : RawTech) (layout : Layout) (drawn : Drawn) : Type 0 where
  layer : drawn.layer.0 < length raw.layers
  stands : (square : Square) → Covers drawn.area square
      → kinds_on layout (plane_of raw (own_image raw drawn.layer.0)) square ≡ own_image raw drawn.layer.0

-- no strips
abbrev no_strips : LayerStrips
no_strips = record { layer = 0; areas = [] }

module _ (raw : RawTech) (w : IsWellFormed raw) (rules : KeepsRules raw) (layout : Layout) (sound : IsSoundLayout raw layout) where
  own_in : (layer : ℕ) → layer < length raw.layers → In (type_number (own_image raw layer)) (images_of raw layer)
  own_in layer below = In-get_or (images_of raw layer) 0 (type_number 0) (w.layers layer no_layer below).placed

  -- where a layer's image on its own plane stands, all its images stand
  images_stand : (layer : ℕ) (square : Square) → layer < length raw.layers
      → kinds_on layout (plane_of raw (own_image raw layer)) square ≡ own_image raw layer
      → Stands raw (λ plane. kinds_on layout plane square) layer
  images_stand layer square below at image image_in =
      sound.whole square (own_image raw layer) image.0 (own_image-type raw w layer below) (image_type raw layer image w below image_in)
      (w.of_one_layer layer (own_image raw layer) below (own_in layer below) ∙ sym (w.of_one_layer layer image.0 below image_in)) at

  -- and where one of them stands, the one on the layer's own plane does
  own_stands : (place : Place) → IsTrue (is_type raw (layout place)) → plane_of raw (layout place) ≡ place.plane
      → kinds_on layout (plane_of raw (own_image raw (layer_of raw (layout place)))) place.square ≡ own_image raw (layer_of raw (layout place))
  own_stands place type at =
      let layer = layer_of raw (layout place) in
      let below = w.type_layers (layout place) type in
      sound.whole place.square (layout place) (own_image raw layer) type (own_image-type raw w layer below)
      (sym (w.of_one_layer layer (own_image raw layer) below (own_in layer below))) (ap (λ (plane : ℕ). kinds_on layout plane place.square) at)

  module _ (square : Square) where
    -- the layout shows those types of the square whose layers pass the test
    abbrev Shows : Layout → (ℕ → Bool) → Type 0
    Shows now shows = (plane : ℕ) → kinds_on now plane square ≡ shown raw shows (λ p. kinds_on layout p square) plane

    past_types : (plane : ℕ) → MOST_PLANES ≤ plane → IsOnPlane raw plane (kinds_on layout plane square) → kinds_on layout plane square ≡ 0
    past_types plane past (inl space) = space
    past_types plane past (inr type) =
        let placed = w.type_planes (kinds_on layout plane square) type.0 in
        let few = w.planes_limit in
        let at = type.1 in
        absurd (omega arith)

    column_shown : (now : Layout) (shows : ℕ → Bool) → Shows now shows → (plane : ℕ)
        → type_on (column_at now square) plane ≡ shown raw shows (λ p. kinds_on layout p square) plane
    column_shown now shows is plane = elim (cases_lt plane MOST_PLANES) [
      | inl below ↦ column_type now square plane below ∙ is plane
      | inr above ↦ (
          let past : MOST_PLANES ≤ plane = omega arith in
          type_past_column now square plane past
          ∙ sym (shown_space raw shows (λ p. kinds_on layout p square) plane (past_types plane past (sound.types (place_at plane square)))))
    ]

    -- a rectangle that covers the square shows its layer there
    drawn_shows : (now : Layout) (shows : ℕ → Bool) (drawn : Drawn) → IsOfLayout raw layout drawn → is_covered drawn.area square ≡ true
        → Shows now shows
        → Shows (with_drawn raw now drawn) (with_layer shows drawn.layer.0)
    drawn_shows now shows drawn is covered so_far plane =
        let types : ℕ → ℕ = λ p. kinds_on layout p square in
        changed_inside (painted_column raw drawn.layer.0) (is_covered drawn.area) now (place_at plane square) covered
        ∙ painted_column-shown raw w rules.own_sets types (λ p. sound.types (place_at p square)) (sound.whole square) shows drawn.layer.0 is.layer
        (images_stand drawn.layer.0 square is.layer (is.stands square (Covers-is_covered drawn.area square covered)))
        (column_at now square) w.planes_limit (column_shown now shows so_far) plane

    -- and any other leaves it
    drawn_leaves : (now : Layout) (shows : ℕ → Bool) (drawn : Drawn) → is_covered drawn.area square ≡ false → Shows now shows
        → Shows (with_drawn raw now drawn) shows
    drawn_leaves now shows drawn outside so_far plane =
        changed_outside (painted_column raw drawn.layer.0) (is_covered drawn.area) now (place_at plane square) outside ∙ so_far plane

    -- After all the rectangles those layers are shown that were, and that of each rectangle that covers the square.
    record AllShown (now : Layout) (shows : ℕ → Bool) (drawn : List Drawn) : Type 0 where
      shown_now : ℕ → Bool
      is : Shows (fold (with_drawn raw) now drawn) shown_now
      keeps : (layer : ℕ) → shows layer ≡ true → shown_now layer ≡ true
      has : (one : Drawn) → In one drawn → Covers one.area square → shown_now one.layer.0 ≡ true

    all_shown : (now : Layout) (shows : ℕ → Bool) (drawn : List Drawn) → ((one : Drawn) → In one drawn → IsOfLayout raw layout one) → Shows now shows
        → AllShown now shows drawn
    all_shown now shows [] each so_far = record { shown_now = shows; is = so_far; keeps = λ layer is. is; has = λ one none covers. absurd none }
    all_shown now shows (first ∷ rest) each so_far = elim (cases_Bool (is_covered first.area square)) [
      | inl covered ↦ (
          let more = all_shown (with_drawn raw now first) (with_layer shows first.layer.0) rest (λ one later. each one (inr later))
          (drawn_shows now shows first (each first (inl refl)) covered so_far) in
          record {
            shown_now = more.shown_now;
            is = more.is;
            keeps = λ layer is. more.keeps layer (or_true (layer == first.layer.0) (shows layer) is);
            has = λ one there covers. elim there [
              | inl same ↦ subst (λ (d : Drawn). more.shown_now d.layer.0 ≡ true) same (more.keeps first.layer.0 (layer_added shows first.layer.0))
              | inr later ↦ more.has one later covers
            ];
          })
      | inr outside ↦ (
          let more = all_shown (with_drawn raw now first) shows rest (λ one later. each one (inr later))
          (drawn_leaves now shows first outside so_far) in
          record {
            shown_now = more.shown_now;
            is = more.is;
            keeps = more.keeps;
            has = λ one there covers. elim there [
              | inl same ↦ absurd (true≢false
                  (sym (is_covered-Covers first.area square (subst (λ (d : Drawn). Covers d.area square) (sym same) covers)) ∙ outside))
              | inr later ↦ more.has one later covers
            ];
          })
    ]

  module _ (strips : List LayerStrips) (are : AreAllStrips raw layout strips) where
    -- the strips of a layer are of the layout
    group_of_layout : (group : LayerStrips) → In group strips → (area : Rect) → In area group.areas
        → IsOfLayout raw layout (drawn_of (layer_number group.layer) area)
    group_of_layout group there area area_in =
        let at = In-index group strips there in
        let below : at.0 < length raw.layers = subst (λ (n : ℕ). at.0 < n) are.one_each at.1.0 in
        let same : get_or strips at.0 no_strips ≡ group = at.1.1 no_strips in
        let by_number : AreLayerStrips raw layout at.0 group = subst (AreLayerStrips raw layout at.0) same (are.each at.0 no_strips below) in
        let is : AreLayerStrips raw layout group.layer group =
        subst (λ (layer : ℕ). AreLayerStrips raw layout layer group) (sym by_number.of_layer) by_number in
        record {
          layer = subst (λ (layer : ℕ). layer < length raw.layers) (sym by_number.of_layer) below;
          stands = λ square covers.
              strip_square (HasValue (kinds_on layout (plane_of raw (own_image raw group.layer))) (own_image raw group.layer)) area square
              (is.strips.each area area_in) covers;
        }

    each_of_layout : (one : Drawn) → In one (flat_map drawn_strips strips) → IsOfLayout raw layout one
    each_of_layout one there =
        let from = In-flat_map_source drawn_strips one strips there in
        let drawn = In-map_source (drawn_of (layer_number from.0.layer)) one from.0.areas from.1.1 in
        subst (IsOfLayout raw layout) drawn.1.1 (group_of_layout from.0 from.1.0 drawn.0 drawn.1.0)

    -- a rectangle of the layer of a type covers the square where it stands
    type_drawn : (place : Place) → IsTrue (is_type raw (layout place)) → plane_of raw (layout place) ≡ place.plane
        → (one : Drawn) × In one (flat_map drawn_strips strips) × Covers one.area place.square × (one.layer.0 ≡ layer_of raw (layout place))
    type_drawn place type at =
        let layer = layer_of raw (layout place) in
        let below = w.type_layers (layout place) type in
        let inside : layer < length strips = subst (λ (n : ℕ). layer < n) (sym are.one_each) below in
        let group = get_or strips layer no_strips in
        let is : AreLayerStrips raw layout layer group = are.each layer no_strips below in
        let strip = is.strips.whole place.square (own_stands place type at) in (
          drawn_of (layer_number group.layer) strip.0,
          In-flat_map drawn_strips group (drawn_of (layer_number group.layer) strip.0) strips (In-get_or strips layer no_strips inside)
              (In-map (drawn_of (layer_number group.layer)) strip.0 group.areas strip.1.0),
          strip.1.1,
          is.of_layer,
        )

    painted_cases : (place : Place) → IsOnPlane raw place.plane (layout place) → painted_all raw (flat_map drawn_strips strips) place ≡ layout place
    painted_cases place on =
        let types : ℕ → ℕ = λ p. kinds_on layout p place.square in
        let all = all_shown place.square empty_layout (λ layer. false) (flat_map drawn_strips strips) each_of_layout (λ plane. refl) in
        all.is place.plane ∙ (elim on [
          | inl space ↦ shown_space raw all.shown_now types place.plane space ∙ sym space
          | inr type ↦ (
              let one = type_drawn place type.0 type.1 in
              shown_there raw all.shown_now types place.plane (ap all.shown_now (sym one.3) ∙ all.has one.0 one.1 one.2))
        ])

    -- painting what is written gives the layout again
    pub painted_again : (place : Place) → painted_all raw (flat_map drawn_strips strips) place ≡ layout place
    painted_again place = painted_cases place (sound.types place)
