-- A member of a part goes along the tiles of the part.
use Rattle.tile_members.proofs.Common.{◌≡◌, ◌≢◌, ℕ, List, inl, refl, sym, ap, subst, ◌∙◌, IsTrue, In-slice_get, Rect, Square, common_rect, Covers}
use Rattle.tile_members.proofs.Common.{image, inverted, RawTech, KeepsRules, IsWellFormed, Place, CellTree, Standing, place_back, standings}
use Rattle.tile_members.proofs.Common.{IsCleanTree, PartTile, IsPartTileIn, MembersHaveWholeTiles}
use Rattle.finite_sets.proofs.Chains.{Chain-carries}
use Rattle.geo_core.specs.Images.{rect_image}
use Rattle.geo_core.proofs.CoveringLaws.{covers_first}
use Rattle.geo_core.proofs.ImageLaws.{image-forth, rect_image-covered}
use Rattle.geo_core.proofs.StripSets.{strip_within}
use Rattle.tech_model.specs.Types.{connects, is_type, is_within}
use Rattle.tech_model.proofs.TypeLaws.{connects_self}
use Rattle.tech_model.proofs.WithinLaws.{within_space}
use Rattle.layout_model.specs.LayerTypes.{or_space}
use Rattle.layout_model.specs.Links.{AreLinked}
use Rattle.layout_model.specs.Places.{AreNeighbours}
use Rattle.group_meetings.specs.Offences.Offences.{SetLayout}
use Rattle.group_meetings.proofs.FloodNodes.Walks.{StepsIn, walk}
use Rattle.group_meetings.specs.TreeRecords.NamedTrees.{NamedTree, layouts_of}
use Rattle.group_meetings.specs.MeetingLaws.PartLayouts.{part_layout}
use Rattle.group_meetings.specs.Members.{tree_parts, IsMemberOfPart}
use Rattle.group_meetings.proofs.MemberSteps.{member_along_link}
use Rattle.tile_members.proofs.StandingTypes.{HasTypesWithin, standing_typed, standing_within, type_there}

-- the place of the plane with this square
abbrev pub on_plane : ℕ → Square → Place
on_plane plane square = record { plane = plane; square = square }

-- a tile has the own type of its standing cell
pub tile_type : (tree : CellTree) (area : Rect) (tile : PartTile) (is : IsPartTileIn tree area tile) (square : Square) → Covers tile.area square
    → type_there is.standing (on_plane tile.plane square) ≡ tile.kind.0
tile_type tree area tile is square covers =
    let placed = is.standing.placed in
    let back = image (inverted placed) square in
    let cut : Covers (common_rect (rect_image placed is.strip) area) square = subst (λ (rect : Rect). Covers rect square) is.cut covers in
    let there : Covers (rect_image placed is.strip) (image placed back) =
    subst (Covers (rect_image placed is.strip)) (sym (image-forth placed square)) (covers_first (rect_image placed is.strip) area square cut) in
    strip_within (λ s. is.standing.own.layout (on_plane tile.plane s) ≡ tile.kind.0) is.strip is.is_strip back.x back.y
    (rect_image-covered placed is.strip back there)

-- The type of a part is within no less than this type.
record IsWide (raw : RawTech) (layout : Place → ℕ) (kind : ℕ) (place : Place) : Type 0 where
  within : IsTrue (is_within raw kind (layout place))

module _ (raw : RawTech) (rules : KeepsRules raw) where
  -- places with types that one type is within are linked where they are neighbours
  wide_linked : (layout : Place → ℕ) (kind : ℕ) → IsTrue (is_type raw kind) → kind ≢ 0 → (a b : Place) → IsWide raw layout kind a
      → IsWide raw layout kind b → AreNeighbours a b → AreLinked (connects raw) layout a b
  wide_linked layout kind type material a b here there near = record {
    here = λ space. material (within_space raw kind (subst (λ (t : ℕ). IsTrue (is_within raw kind t)) space here.within));
    there = λ space. material (within_space raw kind (subst (λ (t : ℕ). IsTrue (is_within raw kind t)) space there.within));
    near = inl near;
    connected = rules.monotone kind kind (layout a) (layout b) here.within there.within (connects_self raw kind type);
  }

  -- a standing cell's type is within that of its part
  wide_at : (parts : List SetLayout) (standing : Standing) (has : HasTypesWithin raw parts standing.part standing) (kind : ℕ) → kind ≢ 0
      → (place : Place) → type_there standing place ≡ kind → IsWide raw (part_layout raw has.part) kind place
  wide_at parts standing has kind material place is =
      let found = has.within place (λ space. material (sym is ∙ space)) in
      let flat : part_layout raw has.part place ≡ found.0 = ap or_space found.1 in
      record {
        within = subst (λ (t : ℕ). IsTrue (is_within raw kind t)) (sym flat)
            (subst (λ (t : ℕ). IsTrue (is_within raw t found.0)) is found.2);
      }

module _ (raw : RawTech) (formed : IsWellFormed raw) (rules : KeepsRules raw) (tree : NamedTree) (clean : IsCleanTree raw tree) (area : Rect)
    (tile : PartTile) (is : IsPartTileIn (layouts_of tree) area tile) where
  -- the part of the tile
  tile_part : HasTypesWithin raw (tree_parts raw tree) is.standing.part is.standing
  tile_part =
      standing_within raw formed rules (layouts_of tree) clean.typed clean.clean is.standing
      (In-slice_get (standings (layouts_of tree)) tile.element is.standing is.there)

  -- neighbours in the tile are linked in the part
  tile_link : (a b : Square) → StepsIn tile.area a b
      → AreLinked (connects raw) (part_layout raw tile_part.part) (on_plane tile.plane a) (on_plane tile.plane b)
  tile_link a b step =
      let kind = tile.kind.0 in
      let here = tile_type (layouts_of tree) area tile is a step.from in
      let there = tile_type (layouts_of tree) area tile is b step.to in
      let typed =
      standing_typed raw (layouts_of tree) clean.typed is.standing
      (In-slice_get (standings (layouts_of tree)) tile.element is.standing is.there)
      (place_back is.standing.placed (on_plane tile.plane a)) (λ space. is.material (sym here ∙ space)) in
      let type : IsTrue (is_type raw kind) = subst (λ (t : ℕ). IsTrue (is_type raw t)) here typed.0 in
      let wide = wide_at raw rules (tree_parts raw tree) is.standing tile_part kind is.material in
      wide_linked raw rules (part_layout raw tile_part.part) kind type is.material (on_plane tile.plane a) (on_plane tile.plane b)
      (wide (on_plane tile.plane a) here) (wide (on_plane tile.plane b) there) (refl, step.near)

  -- so a member goes along the tile
  pub member_along_tile : (a b : Square) → Covers tile.area a → Covers tile.area b → (name : List ℕ)
      → IsMemberOfPart raw tree tile.part (on_plane tile.plane a) name → IsMemberOfPart raw tree tile.part (on_plane tile.plane b) name
  member_along_tile a b here there name has =
      let P : Square → Type 0 = λ square. IsMemberOfPart raw tree is.standing.part (on_plane tile.plane square) name in
      let Q : ℕ → Type 0 = λ part. IsMemberOfPart raw tree part (on_plane tile.plane b) name in
      let start : P a = subst (λ (part : ℕ). IsMemberOfPart raw tree part (on_plane tile.plane a) name) is.part has in
      subst Q (sym is.part) (Chain-carries P (λ x y step.
      member_along_link raw formed rules tree clean.typed is.standing.part tile_part.part tile_part.there (on_plane tile.plane x)
      (on_plane tile.plane y) name (tile_link x y step)) (walk tile.area a b here there) start)

-- the law, of any technology
pub whole_tiles : (raw : RawTech) → MembersHaveWholeTiles raw
whole_tiles raw formed rules tree clean area tile is a b here there name has =
    let at : (place : Place) → place.plane ≡ tile.plane → place ≡ on_plane tile.plane place.square =
    λ place plane. ap (λ (n : ℕ). on_plane n place.square) plane in
    let P : Place → Type 0 = λ place. IsMemberOfPart raw tree tile.part place name in
    subst P (sym (at b there.plane))
    (member_along_tile raw formed rules tree clean area tile is a.square b.square here.covers there.covers name
    (subst P (at a here.plane) has))
