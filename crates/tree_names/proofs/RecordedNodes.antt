-- The nodes of a cell's record, at the places of its own layout, and the paths of places with material.
use Rattle.tree_names.proofs.Common.{◌≡◌, ◌≢◌, ℕ, List, [], ◌∷◌, inl, inr, refl, sym, ◌∙◌, ap, subst, stay, In, Chain-append, RawTech, KeepsRules}
use Rattle.tree_names.proofs.Common.{IsWellFormed, CellExt, NodeRec, names_of, or_space, IsMaterial, Place, place_back, AreOneNamedNode, path_text}
use Rattle.tree_names.proofs.Common.{AreOneNamedNode-sym, IsOfNode, preferred_is_first, HasOwnName, HasNodePath, HasNodePathBelow, flat_layout}
use Rattle.tree_names.proofs.Common.{NamedTree, NamedElements, OwnBody, layouts_below, layouts_of, place_forth, named_tree, no_more, element_then}
use Rattle.tree_names.proofs.Common.{above_from_back, HasTreeRecords, HaveTreeRecords, IsCleanTree}
use Rattle.name_classes.proofs.FiniteSets.Leasts.{IsLeast-iff}
use Rattle.hierarchy_model.specs.TechModel.Types.{parts_of}
use Rattle.hierarchy_model.proofs.TechModel.JoinedLaws.{joined-found}
use Rattle.own_record_laws.specs.LayoutModel.Places.{IsNoLater}
use Rattle.hierarchy_model.specs.LayoutModel.FlatSets.{flat_sets, sets_below, sets_in}
use Rattle.hierarchy_model.proofs.LayoutModel.SetUnions.{union_some}
use Rattle.own_record_laws.specs.Names.NamedNodes.{IsNameOf}
use Rattle.own_record_laws.specs.CellNodes.NodeRecords.{AreNodeRecords}
use Rattle.hierarchy_model.specs.Offences.Offences.{joined_at}
use Rattle.hierarchy_model.proofs.CleanLaws.{has_flat_type}
use Rattle.hierarchy_model.proofs.KindLaws.{defined_or_not, material_set}
use Rattle.own_record_laws.proofs.PreferredNames.{in_some, one_least}
use Rattle.tree_names.proofs.CleanTrees.{AreCleanTrees, clean_below, clean_first, clean_rest}
use Rattle.tree_names.proofs.LiftedLinks.{StandBelow, below_stands, material_defined, material_up, own_fits}
use Rattle.tree_names.proofs.OwnNames.{goes_by_own}

-- The node of a place of a layout has this record.
pub record HasRecordAt (raw : RawTech) (own : OwnBody) (nodes : List NodeRec) (place : Place) : Type 0 where
  pub node : NodeRec
  pub listed : In node nodes
  pub preferred : IsOfNode raw own.layout own.labels node.name place
  pub names : (name : List ℕ) → HasOwnName raw own place name → In name (names_of node)
  pub named : (name : List ℕ) → In name (names_of node) → HasOwnName raw own place name

-- a place with material of an own layout has the record of its node
pub record_at : (raw : RawTech) (own : OwnBody) (nodes : List NodeRec) → AreNodeRecords raw own.layout own.labels nodes → (place : Place)
    → IsMaterial own.layout place → HasRecordAt raw own nodes place
record_at raw own nodes are place material =
    let some = in_some raw own.layout own.labels nodes are place material in
    let N : Place → Place → Type 0 = AreOneNamedNode raw own.layout own.labels in
    let back = AreOneNamedNode-sym raw own.layout own.labels some.within in
    let is_least = IsLeast-iff IsNoLater (N some.least) (N place) (λ x there. Chain-append back there)
    (λ x there. Chain-append some.within there)
    some.least some.is.is_least in
    record {
      node = some.node;
      listed = some.listed;
      preferred = record {
        material = material;
        least = some.least;
        is_least = is_least;
        first = preferred_is_first raw own.layout own.labels some.least some.node some.is;
      };
      names = λ name has.
          let same : has.least ≡ some.least = one_least raw own.layout own.labels place place has.least some.least stay has.is_least is_least in
          some.is.names.1 name (subst (λ (least : Place). IsNameOf raw own.layout own.labels least name) same has.named);
      named = λ name here. record { material = material; least = some.least; is_least = is_least; named = some.is.names.2 name here };
    }

module _ (raw : RawTech) (formed : IsWellFormed raw) (rules : KeepsRules raw) where
  mutual
    -- a place with a path has material in the flat layout
    pub path_material : (tree : NamedTree) → IsCleanTree raw tree → (place : Place) (path : List ℕ) → HasNodePath raw tree place path
        → IsMaterial (flat_layout raw tree) place
    path_material (named_tree own elements) is place path (inl has) =
        material_up raw formed rules own.layout (flat_layout raw (named_tree own elements)) (λ p. p)
        (own_fits raw formed rules own elements is.typed is.clean) place has.material
    path_material (named_tree own elements) is place path (inr below) =
        below_material (named_tree own elements) elements (below_stands raw formed rules own elements is.clean)
        (clean_below raw own elements is)
        place path below

    below_material : (whole : NamedTree) (elements : NamedElements) → StandBelow raw whole elements → AreCleanTrees raw elements
        → (place : Place) (path : List ℕ) → HasNodePathBelow raw elements place path → IsMaterial (flat_layout raw whole) place
    below_material whole no_more stand are place path none = absurd none
    below_material whole (element_then id placed tree rest) stand are place path (inl here) =
        subst (IsMaterial (flat_layout raw whole)) (above_from_back placed place)
        (material_up raw formed rules (flat_layout raw tree) (flat_layout raw whole) (place_forth placed) stand.0.fits
        (place_back placed place)
        (path_material tree (clean_first raw id placed tree rest are) (place_back placed place) here.0 here.1))
    below_material whole (element_then id placed tree rest) stand are place path (inr later) =
        below_material whole rest stand.1 (clean_rest raw id placed tree rest are) place path later

  -- a type that is not space has a set
  set_of_material : (tree : NamedTree) (place : Place) → IsMaterial (flat_layout raw tree) place → flat_sets raw (layouts_of tree) place ≢ 0
  set_of_material tree place material =
      let found = joined_at raw (flat_sets raw (layouts_of tree)) place in
      material_set raw place.plane (flat_sets raw (layouts_of tree) place) (or_space found) (material_defined found material) material

  -- and where a clean cell has a set, its type is not space
  material_of_set : (tree : NamedTree) → IsCleanTree raw tree → (place : Place) → flat_sets raw (layouts_of tree) place ≢ 0
      → IsMaterial (flat_layout raw tree) place
  material_of_set tree is place full space =
      elim (defined_or_not (joined_at raw (flat_sets raw (layouts_of tree)) place)) [
        | inl found ↦
            (let nothing : found.0 ≡ 0 = sym (ap or_space found.1) ∙ space in
            let empty = (joined-found raw place.plane (flat_sets raw (layouts_of tree) place) found.0 found.1).0 in
            full (sym empty ∙ ap (parts_of raw) nothing))
        | inr none ↦ has_flat_type raw (layouts_of tree) is.clean place none
      ]

  mutual
    -- a place with material in the flat layout has a path
    pub some_path : (exts : List CellExt) (tree : NamedTree) → IsCleanTree raw tree → HasTreeRecords raw exts tree → (place : Place)
        → IsMaterial (flat_layout raw tree) place → (path : List ℕ) × HasNodePath raw tree place path
    some_path exts (named_tree own elements) is has place material =
        elim (union_some (sets_in raw own.layout place) (sets_below raw (layouts_below elements) place)
        (set_of_material (named_tree own elements) place material)) [
          | inl here ↦
              (let at = record_at raw own has.0.ext.nodes has.0.is.nodes place (λ space. here (ap (parts_of raw) space)) in
              (at.node.name, inl (goes_by_own raw own place at.node.name at.preferred)))
          | inr below ↦ (let found = some_path_below exts elements (clean_below raw own elements is) has.1 place below in
              (found.0, inr found.1))
        ]

    some_path_below : (exts : List CellExt) (elements : NamedElements) → AreCleanTrees raw elements → HaveTreeRecords raw exts elements
        → (place : Place)
        → sets_below raw (layouts_below elements) place ≢ 0 → (path : List ℕ) × HasNodePathBelow raw elements place path
    some_path_below exts no_more are have place full = absurd (full refl)
    some_path_below exts (element_then id placed tree rest) are have place full =
        elim (union_some (flat_sets raw (layouts_of tree) (place_back placed place)) (sets_below raw (layouts_below rest) place) full) [
          | inl here ↦
              (let is = clean_first raw id placed tree rest are in
              let found = some_path exts tree is have.0 (place_back placed place) (material_of_set tree is (place_back placed place) here) in
              (path_text (id ∷ []) found.0, inl (found.0, found.1, refl)))
          | inr later ↦ (let found = some_path_below exts rest (clean_rest raw id placed tree rest are) have.1 place later in
              (found.0, inr found.1))
        ]
