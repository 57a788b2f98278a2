-- The names that the labels of a tile give to nodes of its paint.
use Rattle.stack_nodes.proofs.Common.{◌≡◌, ◌<◌, ℕ, zero, suc, List, length, get_or, refl, sym, ap, subst, arith, inl, inr, IsTrue, codes, Some, ints}
use Rattle.stack_nodes.proofs.Common.{stay, In, Square, Covers, RawTech, TypeId, images_of, plane_of, IsWellFormed, IsMaterial, Place, place_at}
use Rattle.stack_nodes.proofs.Common.{tile_labels, tile_layout, HasOwnName, OwnBody}
use Rattle.std.specs.Prelude.{slice_index_or}
use Rattle.tech_model.specs.declared.raw.Label.{Label}
use Rattle.tech_model.specs.Rules.{KeepsRules}
use Rattle.tech_model.specs.Types.{image_on, is_within, layer_number, no_layer, type_number}
use Rattle.tech_model.proofs.GeoCore.FiniteSets.Members.{In-get_or}
use Rattle.tech_model.proofs.TypeLaws.{within_self}
use Rattle.cell_paint.proofs.AgainLaws.{found_image}
use Rattle.ext_model.specs.NodeNames.{is_naming_text}
use Rattle.layout_gen.specs.Generated.{diff_label, poly_label}
use Rattle.library_trees.specs.Names.Attachments.{HasText, IsFirstToAttach, Suits, label_at, touched}
use Rattle.library_trees.specs.Names.NamedNodes.{AreOneNamedNode}
use Rattle.library_trees.proofs.CellNodes.NodePlaces.{AreOneNamedNode-sym, material_along}
use Rattle.library_trees.proofs.TreeNames.Names.AttachLaws.{suits_material}
use Rattle.stack_nodes.proofs.LeastPlaces.{not_without_least}
use Rattle.stack_nodes.proofs.TilePaint.{diff_square, diff_stands, paint_in_tile, poly_square, poly_stands}

-- what a tile has of its own
abbrev pub tile_body : ℕ → List ℕ → RawTech → ℕ → ℕ → OwnBody
tile_body cell name raw poly diff =
    record { cell = cell; name = name; layout = tile_layout raw poly diff; labels = tile_labels poly diff }

module _ (raw : RawTech) (w : IsWellFormed raw) (rules : KeepsRules raw) (poly diff : ℕ) (poly_below : poly < length raw.layers)
    (diff_below : diff < length raw.layers) where
  -- the first image of a layer
  image_of : ℕ → TypeId
  image_of layer = slice_index_or (images_of raw layer) 0 (type_number 0)

  -- a layer has it
  has_image : (layer : ℕ) → layer < length raw.layers → In (image_of layer) (images_of raw layer)
  unfolding image_of
  has_image layer below = In-get_or (images_of raw layer) 0 (type_number 0) (w.layers layer no_layer below).placed

  -- a label suits a place that it touches where the image of its layer stands
  suits : (layer : ℕ) → layer < length raw.layers → (label : Label) → label.layer ≡ Some (layer_number layer) → (square : Square)
      → Covers (touched label.area) square
      → tile_layout raw poly diff (place_at (plane_of raw (image_of layer).0) square) ≡ (image_of layer).0
      → Suits raw (tile_layout raw poly diff) label (place_at (plane_of raw (image_of layer).0) square)
  suits layer below label layer_is square touches stands = record {
    layer = layer_number layer;
    has_layer = layer_is;
    touches = touches;
    image = image_of layer;
    has_image = found_image raw layer (image_of layer) (image_on raw layer (plane_of raw (image_of layer).0)) w below (has_image layer below) refl;
    within = subst (λ (t : ℕ). IsTrue (is_within raw (image_of layer).0 t)) (sym stands) (within_self raw (image_of layer).0);
  }

  module _ (cell : ℕ) (name : List ℕ) where
    -- a text of a place names the node that contains the place, unless there is no such node
    named_by_text : (text : List ℕ) (place : Place) → IsMaterial (tile_layout raw poly diff) place
        → HasText raw (tile_layout raw poly diff) (tile_labels poly diff) text place
        → ((place : Place) → HasOwnName raw (tile_body cell name raw poly diff) place text → ⊥) → ⊥
    named_by_text text place material has none =
        let layout = tile_layout raw poly diff in
        let labels = tile_labels poly diff in
        not_without_least (AreOneNamedNode raw layout labels place)
        (λ other joined. paint_in_tile raw poly diff other (material_along raw layout labels w joined material))
        place stay
        (λ least is. none place (record {
          material = material;
          least = least;
          is_least = is;
          named = inl (record { place = place; inside = AreOneNamedNode-sym raw layout labels is.0; text = has });
        }))

    -- a label that suits a place gives its text to the node of a place, where no label before it has the text
    named_by_label : (index : ℕ) → index < 2 → IsTrue (is_naming_text (label_at (tile_labels poly diff) index).text)
        → ((place : Place) → IsFirstToAttach raw (tile_layout raw poly diff) (tile_labels poly diff) (label_at (tile_labels poly diff) index).text index)
        → (place : Place) → Suits raw (tile_layout raw poly diff) (label_at (tile_labels poly diff) index) place
        → ((place : Place) → HasOwnName raw (tile_body cell name raw poly diff) place (label_at (tile_labels poly diff) index).text → ⊥) → ⊥
    named_by_label index below naming first place suits none =
        let layout = tile_layout raw poly diff in
        let labels = tile_labels poly diff in
        let label = label_at labels index in
        not_without_least (Suits raw layout label)
        (λ other also. paint_in_tile raw poly diff other (suits_material raw layout label other w also))
        place suits
        (λ least is. named_by_text label.text least (suits_material raw layout label least w is.0)
        (record { index = index; is = refl; names = record { in_list = below; attaches = record { names = naming; least = is }; counts = inr (first least) } })
        none)

    -- the label of poly names a node of the tile
    pub poly_named : ((place : Place) → HasOwnName raw (tile_body cell name raw poly diff) place (codes "w") → ⊥) → ⊥
    poly_named none =
        named_by_label 0 (omega arith) refl (λ place earlier other before. absurd (omega (arith, before))) _
        (suits poly poly_below (poly_label poly) refl poly_square
        (record { right_of_xlo = omega (arith, ints); left_of_xhi = omega (arith, ints); above_ylo = omega (arith, ints); below_yhi = omega (arith, ints) })
        (poly_stands raw poly diff w poly_below diff_below rules.own_sets (image_of poly) (has_image poly poly_below)))
        none

    -- no label before that of diffusion has its text
    other_text : (earlier : ℕ) → earlier < 1 → (label_at (tile_labels poly diff) earlier).text ≡ codes "b" → ⊥
    other_text zero before same = let first : ◌≡◌ {A = ℕ} 119 98 = ap (λ (text : List ℕ). get_or text 0 0) same in omega (arith, first)
    other_text (suc earlier) before same = omega (arith, before)

    -- the label of diffusion names a node of the tile
    pub diff_named : ((place : Place) → HasOwnName raw (tile_body cell name raw poly diff) place (codes "b") → ⊥) → ⊥
    diff_named none =
        named_by_label 1 (omega arith) refl (λ place earlier other before same attaches. other_text earlier before same) _
        (suits diff diff_below (diff_label diff) refl diff_square
        (record { right_of_xlo = omega (arith, ints); left_of_xhi = omega (arith, ints); above_ylo = omega (arith, ints); below_yhi = omega (arith, ints) })
        (diff_stands raw poly diff w poly_below diff_below rules.own_sets (image_of diff) (has_image diff diff_below)))
        none
