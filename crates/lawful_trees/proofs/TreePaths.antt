-- The names of members lead to nodes: they are names of the record, or the names of elements that lead to a name.
use Rattle.lawful_trees.proofs.Common.{◌≡◌, ℕ, List, [], ◌∷◌, map, IsTrue, inl, inr, refl, sym, ap, subst, ◌∙◌, In, All-from_In, RawTech}
use Rattle.lawful_trees.proofs.Common.{IsWellFormed, CellExt, UseRec, is_node_name, Place, place_back, IsTyped, AreTyped, material_along, NamedTree}
use Rattle.lawful_trees.proofs.Common.{NamedElements, layouts_of, named_elements_in, own_body, named_tree, no_more, element_then, ids_in}
use Rattle.ext_model.specs.Paths.{path_text}
use Rattle.ext_model.specs.RecordNames.{element_names, node_names}
use Rattle.ext_model.specs.Lawful.{IsPathIn}
use Rattle.library_trees.specs.TreeRecords.FetRecords.{IsOfNode}
use Rattle.library_trees.proofs.OwnRecordLaws.NameForms.{name_form}
use Rattle.library_trees.specs.TreeRecords.FlatLayouts.{HasNodePath, HasNodePathBelow}
use Rattle.library_trees.specs.TreeRecords.MemberGroups.{IsMemberAt, IsMemberBelow}
use Rattle.library_trees.specs.TreeRecords.NamedTrees.{layouts_below}
use Rattle.library_trees.specs.TreeRecords.TreeRecords.{use_records}
use Rattle.library_trees.proofs.TreeNames.Representatives.{group_has_path}
use Rattle.lawful_trees.proofs.LibraryElements.{HasForms, HaveForms}

-- The path is names of elements and a name of a node, each of its form.
record IsFormedPath (path : List ℕ) : Type 0 where
  ids : List (List ℕ)
  name : List ℕ
  text : path ≡ path_text ids name
  id_forms : (word : List ℕ) → In word ids → IsTrue (is_node_name word)
  name_form : IsTrue (is_node_name name)

-- one more element before a path
path_above : (id path : List ℕ) → IsTrue (is_node_name id) → IsFormedPath path → IsFormedPath (path_text (id ∷ []) path)
path_above id path form is = record {
  ids = id ∷ is.ids;
  name = is.name;
  text = ap (path_text (id ∷ [])) is.text;
  id_forms = λ word here. elim here [ inl same ↦ subst (λ (w : List ℕ). IsTrue (is_node_name w)) same form | inr later ↦ is.id_forms word later ];
  name_form = is.name_form;
}

-- the ids of elements are those of their uses
pub element_ids : (elements : NamedElements) → ids_in elements ≡ map (λ (used : UseRec). used.id) (use_records elements)
element_ids no_more = refl
element_ids (element_then id placed tree rest) = ap (λ (ids : List (List ℕ)). id ∷ ids) (element_ids rest)

module _ (raw : RawTech) (formed : IsWellFormed raw) where
  mutual
    -- the path of a node has its form
    path_formed : (tree : NamedTree) → IsTyped raw (layouts_of tree) → HasForms tree → (place : Place) (path : List ℕ)
        → HasNodePath raw tree place path → IsFormedPath path
    path_formed (named_tree own elements) typed forms place path (inl here) =
        let material = material_along raw own.layout own.labels formed here.is_least.0 here.material in
        record {
          ids = [];
          name = path;
          text = refl;
          id_forms = λ word none. absurd none;
          name_form = name_form raw formed own.layout own.labels here.least path (typed.0 here.least material).0 here.named;
        }
    path_formed (named_tree own elements) typed forms place path (inr below) = path_formed_below elements typed.1 forms place path below

    path_formed_below : (elements : NamedElements) → AreTyped raw (layouts_below elements) → HaveForms elements → (place : Place) (path : List ℕ)
        → HasNodePathBelow raw elements place path → IsFormedPath path
    path_formed_below no_more typed forms place path none = absurd none
    path_formed_below (element_then id placed tree rest) typed forms place path (inl here) =
        subst IsFormedPath (sym here.2)
        (path_above id here.0 forms.0 (path_formed tree typed.0 forms.1 (place_back placed place) here.0 here.1))
    path_formed_below (element_then id placed tree rest) typed forms place path (inr later) =
        path_formed_below rest typed.1 forms.2 place path later

  -- The member's name is that of one of the elements, and then a path.
  record LeadsInto (elements : NamedElements) (member : List ℕ) : Type 0 where
    id : List ℕ
    listed : In id (ids_in elements)
    path : List ℕ
    text : member ≡ path_text (id ∷ []) path
    is : IsFormedPath path

  -- the names of members below do
  leads_into : (elements : NamedElements) → AreTyped raw (layouts_below elements) → HaveForms elements → (place : Place) (member : List ℕ)
      → IsMemberBelow raw elements place member → LeadsInto elements member
  leads_into no_more typed forms place member none = absurd none
  leads_into (element_then id placed tree rest) typed forms place member (inl here) =
      let found = group_has_path raw tree (place_back placed place) here.0 here.1 in
      record {
        id = id;
        listed = inl refl;
        path = here.0;
        text = here.2;
        is = path_formed tree typed.0 forms.1 found.other here.0 found.has;
      }
  leads_into (element_then id placed tree rest) typed forms place member (inr later) =
      let next = leads_into rest typed.1 forms.2 place member later in
      record { id = next.id; listed = inr next.listed; path = next.path; text = next.text; is = next.is }

  -- the name of a member is a path of the record
  pub member_path : (tree : NamedTree) (ext : CellExt) → IsTyped raw (layouts_of tree) → HasForms tree
      → ext.uses ≡ use_records (named_elements_in tree)
      → ((by : List ℕ) (place : Place) → IsOfNode raw (own_body tree).layout (own_body tree).labels by place → In by (node_names ext))
      → (place : Place) (member : List ℕ) → IsMemberAt raw tree place member → IsPathIn ext member
  member_path (named_tree own elements) ext typed forms uses among place member (inl here) = inl (among member place here)
  member_path (named_tree own elements) ext typed forms uses among place member (inr below) =
      let into = leads_into elements typed.1 forms place member below in
      let ids : ids_in elements ≡ element_names ext =
      element_ids elements ∙ ap (map (λ (used : UseRec). used.id)) (sym uses) in
      inr (record {
        id = into.id;
        ids = into.is.ids;
        name = into.is.name;
        text = into.text ∙ ap (path_text (into.id ∷ [])) into.is.text;
        element = subst (In into.id) ids into.listed;
        id_forms = All-from_In (λ (word : List ℕ). IsTrue (is_node_name word)) into.is.ids into.is.id_forms;
        name_form = into.is.name_form;
      })
