-- Paths that end in global names: labels give these names, and where a label does, a path ends in its name.
use Rattle.tree_names.proofs.Common.{◌≡◌, ℕ, true, IsTrue, List, [], ◌∷◌, ◌++◌, inl, inr, refl, sym, ◌∙◌, ap, subst, false≢true, Chain-append}
use Rattle.tree_names.proofs.Common.{RawTech, KeepsRules, IsWellFormed, CellExt, is_global, is_node_name, slashes_in, last_name, path_text}
use Rattle.tree_names.proofs.Common.{last_name-behind, last_name-whole, slashes_in-node_name, Place, place_back, AreOneNamedNode-sym, AreOneFlatNode}
use Rattle.tree_names.proofs.Common.{HasOwnName, HasNodePath, HasNodePathBelow, HasTextBelow, HasTextSomewhere, NamedTree, NamedElements, OwnBody}
use Rattle.tree_names.proofs.Common.{place_forth, named_tree, no_more, element_then, above_from_back, HasTreeRecords, HaveTreeRecords, IsCleanTree}
use Rattle.std.proofs.Common.{not}
use Rattle.std.specs.Prelude.{codes}
use Rattle.std.proofs.lemmas.Bool.{and_parts}
use Rattle.hierarchy_model.specs.TechModel.Types.{first_name, layer_at, layer_of}
use Rattle.name_classes.specs.ExtModel.declared.names.TheConstants.{GENERATED_MARK, GLOBAL_MARK}
use Rattle.name_classes.specs.ExtModel.NodeNames.{ends_in, is_naming_text}
use Rattle.own_record_laws.specs.Names.Attachments.{HasText, label_at}
use Rattle.own_record_laws.specs.Names.GeneratedNames.{coordinate_text, generated_name}
use Rattle.own_record_laws.proofs.Names.AttachLaws.{suits_material}
use Rattle.own_record_laws.proofs.NodesByName.{ends_in-mark}
use Rattle.tree_names.proofs.CleanTrees.{AreCleanTrees, clean_below, clean_first, clean_rest}
use Rattle.tree_names.proofs.LiftedLinks.{StandBelow, below_stands, flat_node_up, own_node_up}
use Rattle.tree_names.proofs.OwnNames.{own_name_whole}
use Rattle.tree_names.proofs.RecordedNodes.{record_at}

-- a global name has no slash
pub global_whole : (name : List ℕ) → IsTrue (is_global name) → slashes_in name ≡ 0
global_whole name global =
    let naming = (and_parts (is_naming_text name) (ends_in GLOBAL_MARK name) global).0 in
    slashes_in-node_name name (and_parts (is_node_name name) (not (ends_in GENERATED_MARK name)) naming).0

-- a generated name is not global
generated_local : (raw : RawTech) (kind : ℕ) (place : Place) (name : List ℕ) → name ≡ generated_name raw kind place.square
    → IsTrue (is_global name) → ⊥
generated_local raw kind place name is global =
    let naming = (and_parts (is_naming_text name) (ends_in GLOBAL_MARK name) global).0 in
    let unmarked = (and_parts (is_node_name name) (not (ends_in GENERATED_MARK name)) naming).1 in
    let marked : ends_in GENERATED_MARK name ≡ true = ap (ends_in GENERATED_MARK) is
    ∙ ends_in-mark GENERATED_MARK (first_name (layer_at raw (layer_of raw kind)) ++ codes "_" ++ coordinate_text place.square.x ++ codes "_"
    ++ coordinate_text place.square.y) in
    false≢true (sym (ap not marked) ∙ unmarked)

-- A label gives the name to a place of the flat node.
pub record IsGivenIn (raw : RawTech) (tree : NamedTree) (place : Place) (name : List ℕ) : Type 0 where
  pub other : Place
  pub together : AreOneFlatNode raw tree place other
  pub text : HasTextSomewhere raw tree name other

module _ (raw : RawTech) (formed : IsWellFormed raw) (rules : KeepsRules raw) where
  mutual
    -- the flat node of a place with a path to a global name has a label with that name
    pub global_is_given : (tree : NamedTree) → IsCleanTree raw tree → (place : Place) (path : List ℕ) → HasNodePath raw tree place path
        → IsTrue (is_global (last_name path)) → IsGivenIn raw tree place (last_name path)
    global_is_given (named_tree own elements) is place path (inl here) global =
        let last = last_name-whole path (own_name_whole raw formed own is.typed.0 place path here) in
        elim here.named [
          | inl given ↦ record {
            other = given.place;
            together = own_node_up raw formed rules own elements is.typed is.clean (Chain-append here.is_least.0 given.inside);
            text = inl (subst (λ (name : List ℕ). HasText raw own.layout own.labels name given.place) (sym last) given.text);
          }
          | inr made ↦ absurd (generated_local raw (own.layout here.least) here.least path made.1
              (subst (λ (name : List ℕ). IsTrue (is_global name)) last global))
        ]
    global_is_given (named_tree own elements) is place path (inr below) global =
        given_below (named_tree own elements) elements (below_stands raw formed rules own elements is.clean) (clean_below raw own elements is)
        place path below global

    given_below : (whole : NamedTree) (elements : NamedElements) → StandBelow raw whole elements → AreCleanTrees raw elements
        → (place : Place) (path : List ℕ) → HasNodePathBelow raw elements place path → IsTrue (is_global (last_name path))
        → IsGivenIn raw whole place (last_name path)
    given_below whole no_more stand are place path none global = absurd none
    given_below whole (element_then id placed tree rest) stand are place path (inl here) global =
        let last : last_name path ≡ last_name here.0 = ap last_name here.2 ∙ last_name-behind id here.0 in
        let found = global_is_given tree (clean_first raw id placed tree rest are) (place_back placed place) here.0 here.1
        (subst (λ (name : List ℕ). IsTrue (is_global name)) last global) in
        record {
          other = place_forth placed found.other;
          together = subst (λ (p : Place). AreOneFlatNode raw whole p (place_forth placed found.other)) (above_from_back placed place)
              (flat_node_up raw formed rules whole tree placed stand.0 found.together);
          text = subst (λ (name : List ℕ). HasTextSomewhere raw whole name (place_forth placed found.other)) (sym last)
              (stand.0.texts (last_name here.0) found.other found.text);
        }
    given_below whole (element_then id placed tree rest) stand are place path (inr later) global =
        given_below whole rest stand.1 (clean_rest raw id placed tree rest are) place path later global

  -- a name that a label of the own layout gives is a name of the place's node
  text_names : (own : OwnBody) (exts : List CellExt) (elements : NamedElements) → HasTreeRecords raw exts (named_tree own elements)
      → (text : List ℕ)
      (place : Place) → HasText raw own.layout own.labels text place → HasOwnName raw own place text
  text_names own exts elements has text place gives =
      let material = suits_material raw own.layout (label_at own.labels gives.index) place formed gives.names.attaches.least.0 in
      let at = record_at raw own has.0.ext.nodes has.0.is.nodes place material in
      record {
        material = material;
        least = at.preferred.least;
        is_least = at.preferred.is_least;
        named = inl (record {
          place = place;
          inside = AreOneNamedNode-sym raw own.layout own.labels at.preferred.is_least.0;
          text = gives;
        });
      }

  mutual
    -- where a label gives a global name, a path ends in it
    pub text_has_path : (exts : List CellExt) (tree : NamedTree) → HasTreeRecords raw exts tree → (text : List ℕ) → IsTrue (is_global text)
        → (place : Place) → HasTextSomewhere raw tree text place → (path : List ℕ) × HasNodePath raw tree place path × (last_name path ≡ text)
    text_has_path exts (named_tree own elements) has text global place (inl here) =
        (text, inl (text_names own exts elements has text place here), last_name-whole text (global_whole text global))
    text_has_path exts (named_tree own elements) has text global place (inr below) =
        let found = text_has_path_below exts elements has.1 text global place below in (found.0, inr found.1, found.2)

    text_has_path_below : (exts : List CellExt) (elements : NamedElements) → HaveTreeRecords raw exts elements → (text : List ℕ)
        → IsTrue (is_global text) → (place : Place) → HasTextBelow raw elements text place
        → (path : List ℕ) × HasNodePathBelow raw elements place path × (last_name path ≡ text)
    text_has_path_below exts no_more have text global place none = absurd none
    text_has_path_below exts (element_then id placed tree rest) have text global place (inl here) =
        let found = text_has_path exts tree have.0 text global (place_back placed place) here in
        (path_text (id ∷ []) found.0, inl (found.0, found.1, refl), last_name-behind id found.0 ∙ found.2)
    text_has_path_below exts (element_then id placed tree rest) have text global place (inr later) =
        let found = text_has_path_below exts rest have.1 text global place later in (found.0, inr found.1, found.2)
