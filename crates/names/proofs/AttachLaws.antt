-- Labels attach to the least places of the tiles that take them.
use Rattle.names.proofs.Common.{◌≡◌, ℕ, Bool, true, false, Option, Some, None, List, length, IsTrue, inl, inr, arith, refl, sym, subst, ◌∙◌, ap}
use Rattle.names.proofs.Common.{IsPermutation, cases_lt, and_parts, false≢true, get_or_past, IsPermutation-sym, none-some, In, In-get_or, In-index}
use Rattle.names.proofs.Common.{In-permutation, Square, Rect, common_rect, corner_of, has_square, IsProper-has_square, has_square-IsProper}
use Rattle.names.proofs.Common.{corner_covered, Label, RawTech, is_type, IsWellFormed, Place, IsNoLater, Layout, IsMaterial, AreLayoutTiles}
use Rattle.names.proofs.Common.{IsInRegion, RegionTile, is_naming_text, no_tile, Attachment, touched, place_of, IsAttachment}
use Rattle.std.specs.Prelude.{slice_get, find}
use Rattle.std.proofs.lemmas.Bool.{and_from}
use Rattle.std.proofs.lemmas.Option.{slice_get_within, slice_get-get_or, get_or_from_slice_get}
use Rattle.geo_core.specs.FiniteSets.Least.{IsLeast}
use Rattle.geo_core.proofs.FiniteSets.Leasts.{IsLeast-unique}
use Rattle.geo_core.proofs.FiniteSets.Searches.{find-In, All-In}
use Rattle.geo_core.specs.Covering.{Covers, IsProper}
use Rattle.geo_core.proofs.CoveringLaws.{covers_first, covers_second, covers_both, covers_is_proper}
use Rattle.tech_model.specs.declared.raw.LayerId.{LayerId}
use Rattle.tech_model.specs.declared.raw.TypeId.{TypeId}
use Rattle.tech_model.specs.Types.{image_on, images_of, is_on, is_within, no_layer}
use Rattle.tech_model.proofs.TypeLaws.{within_type}
use Rattle.tech_model.proofs.WellFormedLaws.{type_bounds, layer_well_formed}
use Rattle.layout_model.specs.RegionTiles.{LiesIn}
use Rattle.layout_model.proofs.PlaceLaws.{IsNoLater-antisym}
use Rattle.names.specs.Attachments.{Suits, AttachesTo}
use Rattle.names.specs.steps.TakenLabels.{suits_kind, image_within, takes, attachment_on, IsLeastOn}
use Rattle.names.proofs.PlaceOrders.{IsNoLater-trans, no_later_by_parts}
use Rattle.names.proofs.TakingLaws.{IsLeastTaken-iff}

-- the corner is no later than each place of the rectangle
pub corner_first : (area : Rect) (plane other : ℕ) (square : Square) → plane ≡ other → Covers area square
    → IsNoLater (record { plane = plane; square = corner_of area }) (record { plane = other; square = square })
corner_first area plane other square same covers = no_later_by_parts plane other area.xlo area.ylo square.x square.y same covers.right_of_xlo covers.above_ylo

-- An image of the layer on the plane is within the type.
record IsSuited (raw : RawTech) (layer : Option LayerId) (plane kind : ℕ) : Type 0 where
  some : LayerId
  is : layer ≡ Some some
  image : TypeId
  has_image : image_on raw some.0 plane ≡ Some image
  within : IsTrue (is_within raw image.0 kind)

suited : (raw : RawTech) (layer : Option LayerId) (plane kind : ℕ) → suits_kind raw layer plane kind ≡ true → IsSuited raw layer plane kind
suited raw None plane kind fails = absurd (false≢true fails)
suited raw (Some layer) plane kind holds = by_image (image_on raw layer.0 plane) refl holds
  where
    by_image : (found : Option TypeId) → image_on raw layer.0 plane ≡ found → image_within raw kind found ≡ true → IsSuited raw (Some layer) plane kind
    by_image None is fails = absurd (false≢true fails)
    by_image (Some image) is within = record { some = layer; is = refl; image = image; has_image = is; within = within }

-- what an image is within is a type
image_type : (raw : RawTech) (layer plane : ℕ) (image : TypeId) → IsWellFormed raw → image_on raw layer plane ≡ Some image → IsTrue (is_type raw image.0)
image_type raw layer plane image well has = elim (cases_lt layer (length raw.layers)) [
  | inl below ↦ All-In (λ (t : TypeId). IsTrue (is_type raw t.0)) (images_of raw layer) image (layer_well_formed raw layer well below).images
      (find-In (is_on raw plane) (images_of raw layer) image has)
  | inr past ↦
      let none : image_on raw layer plane ≡ None = ap (λ v. find (is_on raw plane) v.images) (get_or_past raw.layers layer no_layer past) in
      absurd (none-some image (sym none ∙ has))
]

-- a place that a label suits has material
pub suits_material : (raw : RawTech) (layout : Layout) (label : Label) (place : Place) → IsWellFormed raw → Suits raw layout label place
    → IsMaterial layout place
suits_material raw layout label place well suits space =
    let bounds = type_bounds raw (layout place) (within_type raw suits.image.0 (layout place)
    (image_type raw suits.layer.0 place.plane suits.image well suits.has_image) suits.within) in
    let low = bounds.0 in
    omega (arith, low, space)

module _ (raw : RawTech) (well : IsWellFormed raw) (layout : Layout) (tiles : List RegionTile) (are : AreLayoutTiles layout tiles) where
  -- A place lies in this tile of the list.
  pub record LiesOn (tile : RegionTile) (place : Place) : Type 0 where
    pub index : ℕ
    pub lies : LiesIn tiles index place
    pub is : lies.tile ≡ tile

  -- a place of a tile of the list lies in it
  pub lies_on : (tile : RegionTile) (place : Place) → In tile tiles → place.plane ≡ tile.plane → Covers tile.area place.square → LiesOn tile place
  lies_on tile place among plane covers =
      let at = In-index tile tiles among in
      record {
        index = at.0;
        lies = record {
          tile = tile;
          there = slice_get-get_or tiles at.0 no_tile at.1.0 ∙ ap (λ (t : RegionTile). Some t) (at.1.1 no_tile);
          plane = plane;
          covers = covers;
        };
        is = refl;
      }

  -- the tile at an index stands in the list
  pub tile_among : (index : ℕ) (tile : RegionTile) → slice_get tiles index ≡ Some tile → In tile tiles
  tile_among index tile there = subst (λ (t : RegionTile). In t tiles) (get_or_from_slice_get tiles index tile no_tile there)
      (In-get_or tiles index no_tile (slice_get_within tiles index tile there))

  -- a tile of the list has a square
  pub tile_proper : (tile : RegionTile) → In tile tiles → IsProper tile.area
  tile_proper tile among = let at = In-index tile tiles among in
      subst (λ (t : RegionTile). IsProper t.area) (at.1.1 no_tile) (are.proper at.0 no_tile at.1.0)

  module _ (label : Label) where
    -- A tile takes the label, and the place lies in it.
    record IsTakenAt (place : Place) : Type 0 where
      tile : RegionTile
      among : In tile tiles
      taken : takes raw label tile ≡ true
      plane : place.plane ≡ tile.plane
      covers : Covers (common_rect (touched label.area) tile.area) place.square

    -- a place that the label suits lies in a tile that takes it
    suits_taken : (place : Place) → Suits raw layout label place → IsTakenAt place
    suits_taken place suits =
        let there = are.every place (suits_material raw layout label place well suits) in
        let tile = there.1.tile in
        let kind : layout place ≡ tile.kind.0 = are.kinds there.0 place there.1 in
        let image : image_on raw suits.layer.0 tile.plane ≡ Some suits.image = sym (ap (image_on raw suits.layer.0) there.1.plane) ∙ suits.has_image in
        let within : is_within raw suits.image.0 tile.kind.0 ≡ true = sym (ap (is_within raw suits.image.0) kind) ∙ suits.within in
        let suited : suits_kind raw label.layer tile.plane tile.kind.0 ≡ true =
        ap (λ (l : Option LayerId). suits_kind raw l tile.plane tile.kind.0) suits.has_layer
        ∙ ap (image_within raw tile.kind.0) image ∙ within in
        let common = covers_both (touched label.area) tile.area place.square suits.touches there.1.covers in
        record {
          tile = tile;
          among = tile_among there.0 tile there.1.there;
          taken = and_from (suits_kind raw label.layer tile.plane tile.kind.0) (has_square (common_rect (touched label.area) tile.area)) suited
              (has_square-IsProper (common_rect (touched label.area) tile.area)
              (covers_is_proper (common_rect (touched label.area) tile.area) place.square common));
          plane = there.1.plane;
          covers = common;
        }

    -- the place of an attachment on a tile that takes the label
    taken_proper : (tile : RegionTile) → takes raw label tile ≡ true → IsProper (common_rect (touched label.area) tile.area)
    taken_proper tile taken = IsProper-has_square (common_rect (touched label.area) tile.area)
        (and_parts (suits_kind raw label.layer tile.plane tile.kind.0) (has_square (common_rect (touched label.area) tile.area)) taken).1

    taken_lies : (tile : RegionTile) → In tile tiles → takes raw label tile ≡ true → LiesOn tile (place_of (attachment_on label tile))
    taken_lies tile among taken =
        let common = common_rect (touched label.area) tile.area in
        lies_on tile (place_of (attachment_on label tile)) among refl
        (covers_second (touched label.area) tile.area (corner_of common) (corner_covered common (taken_proper tile taken)))

    -- the label suits it
    taken_suits : (tile : RegionTile) → In tile tiles → takes raw label tile ≡ true → Suits raw layout label (place_of (attachment_on label tile))
    taken_suits tile among taken =
        let common = common_rect (touched label.area) tile.area in
        let on = taken_lies tile among taken in
        let kind : layout (place_of (attachment_on label tile)) ≡ tile.kind.0 = are.kinds on.index (place_of (attachment_on label tile)) on.lies
        ∙ ap (λ (t : RegionTile). t.kind.0) on.is in
        let is = suited raw label.layer tile.plane tile.kind.0
        (and_parts (suits_kind raw label.layer tile.plane tile.kind.0) (has_square common) taken).0 in
        record {
          layer = is.some;
          has_layer = is.is;
          touches = covers_first (touched label.area) tile.area (corner_of common) (corner_covered common (taken_proper tile taken));
          image = is.image;
          has_image = is.has_image;
          within = subst (λ (k : ℕ). IsTrue (is_within raw is.image.0 k)) (sym kind) is.within;
        }

    -- the least tile that takes the label has the least place that it suits
    least_suits : (found : Attachment) → IsLeastOn raw label (λ tile. In tile tiles) found → IsLeast IsNoLater (Suits raw layout label) (place_of found)
    least_suits found least = (
      subst (λ (a : Attachment). Suits raw layout label (place_of a)) (sym least.is) (taken_suits least.tile least.seen least.taken),
      (λ place suits. let at = suits_taken place suits in
          IsNoLater-trans (place_of found) (place_of (attachment_on label at.tile)) place (least.least at.tile at.among at.taken)
          (corner_first (common_rect (touched label.area) at.tile.area) at.tile.plane place.plane place.square (sym at.plane) at.covers)),
    )

    -- The label attaches to the place of the attachment, and the place is of its region.
    pub record IsAttached (found : Attachment) : Type 0 where
      pub attaches : AttachesTo raw layout label (place_of found)
      pub region : IsInRegion tiles found.region (place_of found)

    pub found_attaches : (found : Attachment) → IsAttachment raw tiles label (Some found) → IsAttached found
    found_attaches found is = by_names (is_naming_text label.text) refl
      where
        by_names : (names : Bool) → is_naming_text label.text ≡ names → IsAttached found
        by_names false fails = absurd (none-some found (sym (is.nameless fails)))
        by_names true names =
            let least = is.names names in
            let on = taken_lies least.tile least.seen least.taken in
            record {
              attaches = record { names = names; least = least_suits found least };
              region = subst (λ (a : Attachment). IsInRegion tiles a.region (place_of a)) (sym least.is)
                  (record { index = on.index; lies = on.lies; numbered = ap (λ (t : RegionTile). t.region) on.is });
            }

    -- where nothing is found the label attaches nowhere
    pub none_attaches : IsAttachment raw tiles label None → (place : Place) → AttachesTo raw layout label place → ⊥
    none_attaches is place attaches =
        let at = suits_taken place attaches.least.0 in
        is.names attaches.names at.tile at.among at.taken

  -- a label attaches to one place
  pub one_place : (label : Label) (a b : Place) → AttachesTo raw layout label a → AttachesTo raw layout label b → a ≡ b
  one_place label a b p q = IsLeast-unique IsNoLater (Suits raw layout label) IsNoLater-antisym a b p.least q.least

-- the same attachments, among the tiles in another order
pub attachment_moved : (raw : RawTech) (tiles sorted : List RegionTile) (label : Label) (found : Option Attachment) → IsPermutation tiles sorted
    → IsAttachment raw sorted label found → IsAttachment raw tiles label found
attachment_moved raw tiles sorted label found moved is = record {
  names = λ names. IsLeastTaken-iff raw label (λ tile. In tile sorted) (λ tile. In tile tiles) found
      (λ tile among. In-permutation tile sorted tiles (IsPermutation-sym tiles sorted moved) among)
      (λ tile among. In-permutation tile tiles sorted moved among) (is.names names);
  nameless = is.nameless;
}
