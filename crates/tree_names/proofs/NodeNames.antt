-- Full names are of one node exactly where places with their paths are of one flat node.
use Rattle.tree_names.proofs.Common.{◌≡◌, ℕ, true, false, Bool, if◌then◌else◌, List, [], inl, inr, refl, sym, ◌∙◌, ap, subst, cases_Bool, false≢true}
use Rattle.tree_names.proofs.Common.{Chain-append, Chain-either_back, Chain-map, Chain-one, AreOneForOne, RawTech, KeepsRules, IsWellFormed, CellExt}
use Rattle.tree_names.proofs.Common.{is_global, full_name, last_name, last_name-whole, Place, Element, AreLinked, AreOneNode, AreFlatLinked}
use Rattle.tree_names.proofs.Common.{AreOneFlatNode, HasNodePath, HasTextSomewhere, IsGroupName, NamedTree, named_standings, HasTreeRecords}
use Rattle.tree_names.proofs.Common.{IsCleanTree, ArePathsJoined, IsElementFor}
use Rattle.name_classes.specs.FiniteSets.Chain.{EitherWay}
use Rattle.name_classes.proofs.FiniteSets.Chains.{Chain-carries}
use Rattle.tree_names.proofs.ElementLinks.{joined_link, link_joined}
use Rattle.tree_names.proofs.GlobalPaths.{global_is_given, global_whole, text_has_path}
use Rattle.tree_names.proofs.GroupMerges.{has_group}
use Rattle.tree_names.proofs.GroupNames.{group_name_along}
use Rattle.tree_names.proofs.GroupNodes.{flat_link_group, flat_node_back}
use Rattle.tree_names.proofs.JoinedPaths.{joined_share}
use Rattle.tree_names.proofs.OnePath.{one_path_one_node}
use Rattle.tree_names.proofs.RecordedNodes.{path_material, some_path}
use Rattle.tree_names.proofs.ToGroups.{to_group}
use Rattle.tree_names.proofs.TreeElements.{top_record}

-- a path to a global name has that name as its full name
full_global : (path : List ℕ) → is_global (last_name path) ≡ true → full_name [] path ≡ last_name path
full_global path global = ap (λ (b : Bool). if b then last_name path else path) global

-- and another is its own full name
full_local : (path : List ℕ) → is_global (last_name path) ≡ false → full_name [] path ≡ path
full_local path local = ap (λ (b : Bool). if b then last_name path else path) local

-- a global name and a path to a name that is not global differ
kinds_differ : (global path : List ℕ) → is_global global ≡ true → is_global (last_name path) ≡ false → global ≡ path → ⊥
kinds_differ global path is local same =
    let whole : is_global path ≡ true = ap is_global (sym same) ∙ is in
    let last = last_name-whole path (global_whole path whole) in
    false≢true (sym local ∙ ap is_global last ∙ whole)

module _ (raw : RawTech) (formed : IsWellFormed raw) (rules : KeepsRules raw) (tree : NamedTree) (is : IsCleanTree raw tree) where
  -- places with paths to one global name are of one flat node
  one_global_one_node : (a b : Place) (path other : List ℕ) → HasNodePath raw tree a path → HasNodePath raw tree b other
      → is_global (last_name path) ≡ true → is_global (last_name other) ≡ true → last_name path ≡ last_name other
      → AreOneFlatNode raw tree a b
  one_global_one_node a b path other here there global other_global same =
      let one = global_is_given raw formed rules tree is a path here global in
      let two = global_is_given raw formed rules tree is b other there other_global in
      Chain-append one.together (Chain-append (Chain-one (inr (record {
        text = last_name other;
        global = other_global;
        here = subst (λ (name : List ℕ). HasTextSomewhere raw tree name one.other) same one.text;
        there = two.text;
      }))) (flat_node_back raw tree two.together))

  -- places with paths of one full name are of one flat node
  pub one_full_name_one_node : (a b : Place) (path other : List ℕ) → HasNodePath raw tree a path → HasNodePath raw tree b other
      → full_name [] path ≡ full_name [] other → AreOneFlatNode raw tree a b
  one_full_name_one_node a b path other here there same = elim (cases_Bool (is_global (last_name path))) [
    | inl global ↦ elim (cases_Bool (is_global (last_name other))) [
      | inl other_global ↦ one_global_one_node a b path other here there global other_global
          (sym (full_global path global) ∙ same ∙ full_global other other_global)
      | inr local ↦ absurd (kinds_differ (last_name path) other global local (sym (full_global path global) ∙ same ∙ full_local other local))
    ]
    | inr local ↦ elim (cases_Bool (is_global (last_name other))) [
      | inl other_global ↦ absurd (kinds_differ (last_name other) path other_global local
          (sym (full_global other other_global) ∙ sym same ∙ full_local path local))
      | inr other_local ↦ one_path_one_node raw formed rules tree is a b path here
          (subst (HasNodePath raw tree b) (sym (sym (full_local path local) ∙ same ∙ full_local other other_local)) there)
    ]
  ]

  module _ (exts : List CellExt) (has : HasTreeRecords raw exts tree) (elements : List Element)
      (are : AreOneForOne (IsElementFor raw exts) (named_standings tree) elements) where
    -- names of groups that go by one name are of one node
    one_group_one_node : (a b : Place) (path other name : List ℕ) → HasNodePath raw tree a path → HasNodePath raw tree b other
        → IsGroupName raw tree a name → IsGroupName raw tree b name → AreOneNode elements (full_name [] path) (full_name [] other)
    one_group_one_node a b path other name here there named other_named =
        let full = λ (p q : List ℕ) (joined : ArePathsJoined exts tree p q). Chain-one
        (inl (joined_link raw exts tree elements are p q joined)) in
        let one = Chain-map (full_name []) full (to_group raw formed rules exts tree is has a path name here named) in
        let two = Chain-map (full_name []) full (to_group raw formed rules exts tree is has b other name there other_named) in
        Chain-append (Chain-either_back (AreLinked elements) one) two

    -- the group of a place with a path
    group_at : (place : Place) (path : List ℕ) → HasNodePath raw tree place path → (name : List ℕ) × IsGroupName raw tree place name
    group_at place path here = has_group raw formed exts tree (top_record raw exts tree has) place
        (path_material raw formed rules tree is place path here)

    -- names of one place are of one node
    one_place_one_node : (place : Place) (path other : List ℕ) → HasNodePath raw tree place path → HasNodePath raw tree place other
        → AreOneNode elements (full_name [] path) (full_name [] other)
    one_place_one_node place path other here there =
        let group = group_at place path here in one_group_one_node place place path other group.0 here there group.1 group.1

    -- and so are names of places that are linked
    linked_one_node : (a b : Place) → AreFlatLinked raw tree a b → (path other : List ℕ) → HasNodePath raw tree a path
        → HasNodePath raw tree b other
        → AreOneNode elements (full_name [] path) (full_name [] other)
    linked_one_node a b (inl link) path other here there =
        let group = group_at a path here in
        one_group_one_node a b path other group.0 here there group.1
        (group_name_along raw tree a b group.0 (flat_link_group raw tree a b link) group.1)
    linked_one_node a b (inr share) path other here there =
        let one = text_has_path raw formed rules exts tree has share.text share.global a share.here in
        let two = text_has_path raw formed rules exts tree has share.text share.global b share.there in
        let full = λ (p : List ℕ) (last : last_name p ≡ share.text). full_global p (ap is_global last ∙ share.global) ∙ last in
        let same : full_name [] one.0 ≡ full_name [] two.0 = full one.0 one.2 ∙ sym (full two.0 two.2) in
        Chain-append (one_place_one_node a path one.0 here one.1)
        (subst (λ (name : List ℕ). AreOneNode elements name (full_name [] other)) (sym same) (one_place_one_node b two.0 other two.1 there))

    -- a place that is linked has a path
    pub linked_path : (a b : Place) → AreFlatLinked raw tree a b → (path : List ℕ) × HasNodePath raw tree a path
    linked_path a b (inl link) = some_path raw formed rules exts tree is has a link.here
    linked_path a b (inr share) = let found = text_has_path raw formed rules exts tree has share.text share.global a share.here in
        (found.0, found.1)

    -- names of places of one flat node are of one node
    pub flat_node_names : (a b : Place) (path other : List ℕ) → HasNodePath raw tree a path → HasNodePath raw tree b other
        → AreOneFlatNode raw tree a b
        → AreOneNode elements (full_name [] path) (full_name [] other)
    flat_node_names a b path other here there chain =
        Chain-carries (λ (place : Place). (name : List ℕ) → HasNodePath raw tree place name
        → AreOneNode elements (full_name [] path) (full_name [] name))
        (λ x y link reached name at.
        let between = linked_path x y link in
        Chain-append (reached between.0 between.1) (linked_one_node x y link between.0 name between.1 at))
        chain (λ name at. one_place_one_node a path name here at) other there

    -- Each place with a path of this full name is of the flat node.
    abbrev IsReached : Place → List ℕ → Type 0
    IsReached place name = (other : Place) (path : List ℕ) → HasNodePath raw tree other path → name ≡ full_name [] path
        → AreOneFlatNode raw tree place other

    -- a link stays within the flat node
    link_reaches : (place : Place) (first second : List ℕ) → EitherWay (AreLinked elements) first second → IsReached place first
        → IsReached place second
    link_reaches place first second (inl link) reached other path there same =
        let joined = link_joined raw exts tree elements are first second link in
        let share = joined_share raw formed rules exts tree is has joined.one joined.other joined.joined in
        Chain-append (reached share.place joined.one share.has joined.first_is) (Chain-append share.together
        (one_full_name_one_node share.other other joined.other path share.other_has there (sym joined.second_is ∙ same)))
    link_reaches place first second (inr link) reached other path there same =
        let joined = link_joined raw exts tree elements are second first link in
        let share = joined_share raw formed rules exts tree is has joined.one joined.other joined.joined in
        Chain-append (reached share.other joined.other share.other_has joined.second_is)
        (Chain-append (flat_node_back raw tree share.together)
        (one_full_name_one_node share.place other joined.one path share.has there (sym joined.first_is ∙ same)))

    -- places whose names are of one node are of one flat node
    pub names_one_flat_node : (a b : Place) (path other : List ℕ) → HasNodePath raw tree a path → HasNodePath raw tree b other
        → AreOneNode elements (full_name [] path) (full_name [] other) → AreOneFlatNode raw tree a b
    names_one_flat_node a b path other here there chain =
        Chain-carries (IsReached a) (link_reaches a) chain (λ place name at same. one_full_name_one_node a place path name here at same)
        b other there refl
