-- What a part of a clean cell has goes up to the cell: its types are within the flat type, and its links and texts are the cell's.
use Rattle.tree_names.proofs.Common.{◌≡◌, ◌≢◌, ℕ, suc, IsTrue, List, ◌∷◌, Option, inl, inr, refl, sym, ◌∙◌, ap, subst, Some, Chain-map, Chain-one}
use Rattle.tree_names.proofs.Common.{Chain-through, Transform, RawTech, KeepsRules, IsWellFormed, or_space, IsMaterial, Place, place_back, IsTyped}
use Rattle.tree_names.proofs.Common.{AreOneNamedNode, IsClean, AreOneFlatNode, HasTextBelow, HasTextSomewhere, flat_layout, NamedTree, NamedElements}
use Rattle.tree_names.proofs.Common.{OwnBody, layouts_below, layouts_of, place_forth, named_tree, no_more, element_then, back_from_above}
use Rattle.std.specs.Prelude.{None}
use Rattle.hierarchy_model.specs.TechModel.Types.{connects, is_within}
use Rattle.hierarchy_model.proofs.TechModel.WithinLaws.{within_space}
use Rattle.own_record_laws.specs.LayoutModel.Layouts.{Layout}
use Rattle.own_record_laws.specs.LayoutModel.Links.{AreLinked}
use Rattle.own_record_laws.specs.LayoutModel.Places.{AreNeighbours, AreStacked}
use Rattle.hierarchy_model.specs.LayoutModel.FlatSets.{flat_sets, sets_in, element_parts}
use Rattle.hierarchy_model.specs.Offences.Offences.{SetLayout, HasKind, joined_at}
use Rattle.hierarchy_model.proofs.CleanLaws.{part_within, flat_of_parts, first_kind, later_kind, own_within}
use Rattle.own_record_laws.proofs.TreeRecords.MoveLaws.{neighbours_above, stacked_above}
use Rattle.tree_names.specs.PartLinks.{LinksGoUp, PartsKeepLinks}

-- a type that is not space is defined
pub material_defined : (found : Option ℕ) → or_space found ≢ 0 → found ≡ Some (or_space found)
material_defined None material = absurd (material refl)
material_defined (Some kind) material = refl

-- Each type of a layout, where it is not space, is within that of another at the place that it goes to.
abbrev pub FitsIn : RawTech → Layout → Layout → (Place → Place) → Type 0
FitsIn raw part flat goes = (place : Place) → IsMaterial part place → IsTrue (is_within raw (part place) (flat (goes place)))

-- A way of places takes neighbours to neighbours, and stacked squares to stacked squares.
pub record KeepsNearness (goes : Place → Place) : Type 0 where
  pub beside : (a b : Place) → AreNeighbours a b → AreNeighbours (goes a) (goes b)
  pub stacked : (a b : Place) → AreStacked a b → AreStacked (goes a) (goes b)

-- a transform does
above_keeps : (placed : Transform) → KeepsNearness (place_forth placed)
above_keeps placed = record { beside = neighbours_above placed; stacked = stacked_above placed }

-- staying does
staying_keeps : KeepsNearness (λ place. place)
staying_keeps = record { beside = λ a b near. near; stacked = λ a b near. near }

-- What an element has goes up to a cell.
pub record StandsIn (raw : RawTech) (whole tree : NamedTree) (placed : Transform) : Type 0 where
  pub fits : FitsIn raw (flat_layout raw tree) (flat_layout raw whole) (place_forth placed)
  pub texts : (text : List ℕ) (place : Place) → HasTextSomewhere raw tree text place
      → HasTextSomewhere raw whole text (place_forth placed place)

-- So does what each of some elements has.
abbrev pub StandBelow : RawTech → NamedTree → NamedElements → Type 0
StandBelow raw whole no_more = Unit {0}
StandBelow raw whole (element_then id placed tree rest) = StandsIn raw whole tree placed × StandBelow raw whole rest

-- the types of elements are within the flat type
elements_stand : (raw : RawTech) (whole : NamedTree) (elements : NamedElements)
    → ((position kind : ℕ) (place : Place) → HasKind raw (element_parts raw (layouts_below elements)) position place kind → kind ≢ 0
    → IsTrue (is_within raw kind (flat_layout raw whole place)))
    → ((text : List ℕ) (place : Place) → HasTextBelow raw elements text place → HasTextSomewhere raw whole text place)
    → StandBelow raw whole elements
elements_stand raw whole no_more within texts = tt
elements_stand raw whole (element_then id placed tree rest) within texts = (
  record {
    fits = λ place material.
        let sets : SetLayout = λ p. flat_sets raw (layouts_of tree) (place_back placed p) in
        let there = place_forth placed place in
        let back = back_from_above placed place in
        let is : joined_at raw sets there ≡ Some (flat_layout raw tree place) =
        ap (λ (p : Place). joined_at raw (flat_sets raw (layouts_of tree)) p) back
        ∙ material_defined (joined_at raw (flat_sets raw (layouts_of tree)) place) material in
        within 0 (flat_layout raw tree place) there
        (first_kind raw sets (element_parts raw (layouts_below rest)) there (flat_layout raw tree place) is) material;
    texts = λ text place has.
        texts text (place_forth placed place)
        (inl (subst (λ (p : Place). HasTextSomewhere raw tree text p) (sym (back_from_above placed place)) has));
  },
  elements_stand raw whole rest
      (λ position kind place has. within (suc position) kind place
      (later_kind raw (λ p. flat_sets raw (layouts_of tree) (place_back placed p))
      (element_parts raw (layouts_below rest)) position place kind has))
      (λ text place has. texts text place (inr has)),
)

module _ (raw : RawTech) (formed : IsWellFormed raw) (rules : KeepsRules raw) where
  -- what is within the flat type stands in the flat layout
  pub material_up : (part flat : Layout) (goes : Place → Place) → FitsIn raw part flat goes → (place : Place) → IsMaterial part place
      → IsMaterial flat (goes place)
  material_up part flat goes fits place material space =
      material (within_space raw (part place) (subst (λ (kind : ℕ). IsTrue (is_within raw (part place) kind)) space (fits place material)))

  -- a link goes up
  link_up : (part flat : Layout) (goes : Place → Place) → FitsIn raw part flat goes → KeepsNearness goes → (a b : Place)
      → AreLinked (connects raw) part a b → AreLinked (connects raw) flat (goes a) (goes b)
  link_up part flat goes fits near a b link = record {
    here = material_up part flat goes fits a link.here;
    there = material_up part flat goes fits b link.there;
    near = elim link.near [ inl beside ↦ inl (near.beside a b beside) | inr stacked ↦ inr (near.stacked a b stacked) ];
    connected = rules.monotone (part a) (part b) (flat (goes a)) (flat (goes b)) (fits a link.here) (fits b link.there) link.connected;
  }

  -- an own type is within the flat type
  pub own_fits : (own : OwnBody) (elements : NamedElements) → IsTyped raw (layouts_of (named_tree own elements))
      → IsClean raw (layouts_of (named_tree own elements)) → FitsIn raw own.layout (flat_layout raw (named_tree own elements))
      (λ place. place)
  own_fits own elements typed clean place material =
      elim (own_within raw formed rules (layouts_of (named_tree own elements)) typed clean place (own.layout place) (inl refl)) [
        | inl space ↦ absurd (material space)
        | inr found ↦ subst (λ (kind : ℕ). IsTrue (is_within raw (own.layout place) kind)) (sym (ap or_space found.1)) found.2
      ]

  -- what the elements of a clean cell have goes up
  pub below_stands : (own : OwnBody) (elements : NamedElements) → IsClean raw (layouts_of (named_tree own elements))
      → StandBelow raw (named_tree own elements) elements
  below_stands own elements clean =
      let sets = sets_in raw own.layout in
      let parts = element_parts raw (layouts_below elements) in
      elements_stand raw (named_tree own elements) elements
      (λ position kind place has material.
      let found = part_within raw (sets ∷ parts) place (clean.1 place) (suc position) kind
      (later_kind raw sets parts position place kind has) material in
      let flat = flat_of_parts raw (record { cell = own.cell; layout = own.layout }) (layouts_below elements) place in
      subst (λ (n : ℕ). IsTrue (is_within raw kind n)) (sym (ap or_space (flat ∙ found.1))) found.2)
      (λ text place has. inr has)

  -- the links of an own layout are links of the flat layout
  pub own_link_up : (own : OwnBody) (elements : NamedElements) → IsTyped raw (layouts_of (named_tree own elements))
      → IsClean raw (layouts_of (named_tree own elements)) → (a b : Place) → AreLinked (connects raw) own.layout a b
      → AreLinked (connects raw) (flat_layout raw (named_tree own elements)) a b
  own_link_up own elements typed clean =
      link_up own.layout (flat_layout raw (named_tree own elements)) (λ place. place) (own_fits own elements typed clean) staying_keeps

  -- and those of an element
  element_link_up : (whole tree : NamedTree) (placed : Transform) → StandsIn raw whole tree placed → (a b : Place)
      → AreLinked (connects raw) (flat_layout raw tree) a b → AreLinked (connects raw) (flat_layout raw whole) (place_forth placed a)
      (place_forth placed b)
  element_link_up whole tree placed stands =
      link_up (flat_layout raw tree) (flat_layout raw whole) (place_forth placed) stands.fits (above_keeps placed)

  links_below_up : (whole : NamedTree) (elements : NamedElements) → StandBelow raw whole elements
      → LinksGoUp raw elements (flat_layout raw whole)
  links_below_up whole no_more stand = tt
  links_below_up whole (element_then id placed tree rest) stand =
      (element_link_up whole tree placed stand.0, links_below_up whole rest stand.1)

  -- the links of all parts are links of the flat layout
  pub links_up : (tree : NamedTree) → IsTyped raw (layouts_of tree) → IsClean raw (layouts_of tree) → PartsKeepLinks raw tree
  links_up (named_tree own elements) typed clean = record {
    own = own_link_up own elements typed clean;
    elements = links_below_up (named_tree own elements) elements (below_stands own elements clean);
  }

  -- the places of a node of the own layout are of one flat node
  pub own_node_up : (own : OwnBody) (elements : NamedElements) → IsTyped raw (layouts_of (named_tree own elements))
      → IsClean raw (layouts_of (named_tree own elements)) → {a b : Place} → AreOneNamedNode raw own.layout own.labels a b
      → AreOneFlatNode raw (named_tree own elements) a b
  own_node_up own elements typed clean chain =
      Chain-through (λ a b step. elim step [
        | inl link ↦ Chain-one (inl (own_link_up own elements typed clean a b link))
        | inr share ↦ Chain-one (inr (record { text = share.text; global = share.global; here = inl share.here; there = inl share.there }))
      ]) chain

  -- and so are those of a flat node of an element
  pub flat_node_up : (whole tree : NamedTree) (placed : Transform) → StandsIn raw whole tree placed → {a b : Place}
      → AreOneFlatNode raw tree a b
      → AreOneFlatNode raw whole (place_forth placed a) (place_forth placed b)
  flat_node_up whole tree placed stands chain =
      Chain-map (place_forth placed) (λ a b step. elim step [
        | inl link ↦ Chain-one (inl (element_link_up whole tree placed stands a b link))
        | inr share ↦ Chain-one (inr (record {
          text = share.text;
          global = share.global;
          here = stands.texts share.text a share.here;
          there = stands.texts share.text b share.there;
        }))
      ]) chain
