-- The names of a flat node are the full names of records that are of one node with one of its names.
use Rattle.tree_names.proofs.Common.{◌≡◌, ℕ, List, [], ◌∷◌, map, inl, inr, refl, sym, ◌∙◌, ap, subst, ◌↔◌, Some, In, In-map, In-map_source}
use Rattle.tree_names.proofs.Common.{In-flat_map, In-flat_map_source, AreOneForOne, RawTech, KeepsRules, IsWellFormed, CellExt, full_name, path_text}
use Rattle.tree_names.proofs.Common.{names_of, node_names, Place, place_back, Element, ext_of, AreOneNode, HasNodePath, HasNodePathBelow, IsFlatName}
use Rattle.tree_names.proofs.Common.{NamedTree, NamedElements, NamedStanding, named_standings, named_standings_below, named_above, named_tree}
use Rattle.tree_names.proofs.Common.{no_more, element_then, HasTreeRecords, HaveTreeRecords, IsCleanTree, IsElementFor}
use Rattle.name_classes.proofs.FiniteSets.OneForOne.{AreOneForOne-image}
use Rattle.name_classes.specs.CircuitModel.FullNames.{IsFullName, name_in}
use Rattle.tree_names.proofs.ElementLinks.{full_name-cell, link_joined}
use Rattle.tree_names.proofs.JoinedPaths.{joined_share}
use Rattle.tree_names.proofs.NodeNames.{flat_node_names, names_one_flat_node}
use Rattle.tree_names.proofs.Standings.{listed_first, listed_later}
use Rattle.tree_names.proofs.RecordedNodes.{record_at}
use Rattle.tree_names.proofs.TreeElements.{one_record}

-- The record of a cell among these has a node with a name, and its path from the top is this.
record IsNamedAmong (exts : List CellExt) (cells : List NamedStanding) (path : List ℕ) : Type 0 where
  standing : NamedStanding
  listed : In standing cells
  ext : CellExt
  found : ext_of exts standing.own.name ≡ Some ext
  name : List ℕ
  named : In name (node_names ext)
  is : path ≡ path_text standing.ids name

module _ (raw : RawTech) (exts : List CellExt) where
  mutual
    -- a path of a place is that of a name in a record
    path_named : (tree : NamedTree) → HasTreeRecords raw exts tree → (place : Place) (path : List ℕ) → HasNodePath raw tree place path
        → IsNamedAmong exts (named_standings tree) path
    path_named (named_tree own elements) has place path (inl here) =
        let at = record_at raw own has.0.ext.nodes has.0.is.nodes place here.material in
        record {
          standing = _;
          listed = inl refl;
          ext = has.0.ext;
          found = has.0.found;
          name = path;
          named = In-flat_map names_of at.node path has.0.ext.nodes at.listed (at.names path here);
          is = refl;
        }
    path_named (named_tree own elements) has place path (inr below) =
        let found = path_named_below elements has.1 place path below in
        record {
          standing = found.standing;
          listed = inr found.listed;
          ext = found.ext;
          found = found.found;
          name = found.name;
          named = found.named;
          is = found.is;
        }

    path_named_below : (elements : NamedElements) → HaveTreeRecords raw exts elements → (place : Place) (path : List ℕ)
        → HasNodePathBelow raw elements place path → IsNamedAmong exts (named_standings_below elements) path
    path_named_below no_more have place path none = absurd none
    path_named_below (element_then id placed tree rest) have place path (inl here) =
        let found = path_named tree have.0 (place_back placed place) here.0 here.1 in
        record {
          standing = named_above id placed found.standing;
          listed = listed_first id placed tree rest found.standing found.listed;
          ext = found.ext;
          found = found.found;
          name = found.name;
          named = found.named;
          is = here.2 ∙ ap (path_text (id ∷ [])) found.is;
        }
    path_named_below (element_then id placed tree rest) have place path (inr later) =
        let found = path_named_below rest have.1 place path later in
        record {
          standing = found.standing;
          listed = listed_later id placed tree rest found.standing found.listed;
          ext = found.ext;
          found = found.found;
          name = found.name;
          named = found.named;
          is = found.is;
        }

-- A place has a path with this full name.
pub record IsNameOfPlace (raw : RawTech) (tree : NamedTree) (name : List ℕ) : Type 0 where
  pub place : Place
  pub path : List ℕ
  pub has : HasNodePath raw tree place path
  pub full : name ≡ full_name [] path

module _ (raw : RawTech) (formed : IsWellFormed raw) (rules : KeepsRules raw) (tree : NamedTree) (is : IsCleanTree raw tree)
    (exts : List CellExt)
    (has : HasTreeRecords raw exts tree) (elements : List Element)
    (are : AreOneForOne (IsElementFor raw exts) (named_standings tree) elements) where
  -- the full name of a path of a place is one of the records
  pub path_full : (place : Place) (path : List ℕ) → HasNodePath raw tree place path → IsFullName elements (full_name [] path)
  path_full place path here =
      let named = path_named raw exts tree has place path here in
      let to = AreOneForOne-image (IsElementFor raw exts) (named_standings tree) elements are named.standing named.listed in
      let element = to.0 in
      let same = one_record exts named.standing.own.name named.ext element.ext named.found to.2.found in
      let full = full_name-cell raw exts named.standing element named.name to.2 ∙ ap (full_name []) (sym named.is) in
      let listed = In-map (name_in element) named.name (node_names element.ext)
      (subst (λ (ext : CellExt). In named.name (node_names ext)) same named.named) in
      (element, (to.1, subst (λ (name : List ℕ). In name (map (name_in element) (node_names element.ext))) full listed))

  -- and each full name of the records is that of a path of a place
  pub full_path : (name : List ℕ) → IsFullName elements name → IsNameOfPlace raw tree name
  full_path name (element, (within, listed)) =
      let own = In-map_source (name_in element) name (node_names element.ext) listed in
      let node = In-flat_map_source names_of own.0 element.ext.nodes own.1.0 in
      let joined = link_joined raw exts tree elements are (name_in element node.0.name) name (
        element,
        (
          within,
          inl (record {
            node = node.0;
            within = node.1.0;
            preferred = refl;
            named = subst (λ (n : List ℕ). In n (map (name_in element) (names_of node.0))) own.1.1
                (In-map (name_in element) own.0 (names_of node.0) node.1.1);
          }),
        ),
      ) in
      let share = joined_share raw formed rules exts tree is has joined.one joined.other joined.joined in
      record { place = share.other; path = joined.other; has = share.other_has; full = joined.second_is }

  -- the names of a flat node are the full names that are of one node with one of its names
  pub flat_names_are : (place : Place) (path : List ℕ) → HasNodePath raw tree place path → (name : List ℕ)
      → IsFlatName raw tree place name ↔ (IsFullName elements name × AreOneNode elements (full_name [] path) name)
  flat_names_are place path here name = (
    (λ flat. (
      subst (IsFullName elements) (sym flat.full) (path_full flat.other flat.path flat.has_path),
      subst (AreOneNode elements (full_name [] path)) (sym flat.full)
          (flat_node_names raw formed rules tree is exts has elements are place flat.other path flat.path here flat.has_path flat.together),
    )),
    (λ one.
        let found = full_path name one.0 in
        let joined = subst (AreOneNode elements (full_name [] path)) found.full one.1 in
        record {
          other = found.place;
          together = names_one_flat_node raw formed rules tree is exts has elements are place found.place path found.path here found.has joined;
          path = found.path;
          has_path = found.has;
          full = found.full;
        }),
  )
