-- Full names that the records of elements link are those of paths that the records of the tree join.
use Rattle.tree_names.proofs.Common.{◌≡◌, ℕ, if◌then◌else◌, List, [], ◌∷◌, inl, inr, refl, sym, ◌∙◌, ap, subst, In, In-map, In-map_source}
use Rattle.tree_names.proofs.Common.{AreOneForOne, RawTech, CellExt, is_global, full_name, last_name, path_text, names_of, last_name-behind, Element}
use Rattle.tree_names.proofs.Common.{AreLinked, NamedTree, NamedStanding, named_standings, ArePathsJoined, IsElementFor}
use Rattle.std.proofs.Common.{◌⊎◌}
use Rattle.name_classes.proofs.FiniteSets.OneForOne.{AreOneForOne-source, AreOneForOne-image}
use Rattle.name_classes.specs.CircuitModel.FullNames.{AreMerged, AreNamesOfOne, name_in}
use Rattle.tree_names.specs.PathLinks.{AreMergedIn, AreNamesOfNode}
use Rattle.tree_names.proofs.Standings.{joined_among, joined_there}
use Rattle.tree_names.proofs.TreeElements.{one_record}

-- the last name of a path is that of what it leads to
last_name-path : (ids : List (List ℕ)) (path : List ℕ) → last_name (path_text ids path) ≡ last_name path
last_name-path [] path = refl
last_name-path (id ∷ ids) path = last_name-behind id (path_text ids path) ∙ last_name-path ids path

-- the full name of a path in an element is that of the path from the root
pub full_name-path : (ids : List (List ℕ)) (path : List ℕ) → full_name ids path ≡ full_name [] (path_text ids path)
full_name-path ids path =
    ap (λ (last : List ℕ). if is_global last then last else path_text ids path) (sym (last_name-path ids path))

-- and so it is in the element that stands for a cell
pub full_name-cell : (raw : RawTech) (exts : List CellExt) (standing : NamedStanding) (element : Element) (path : List ℕ)
    → IsElementFor raw exts standing element → name_in element path ≡ full_name [] (path_text standing.ids path)
full_name-cell raw exts standing element path is =
    ap (λ (ids : List (List ℕ)). full_name ids path) is.ids ∙ full_name-path standing.ids path

-- Two full names are those of two joined paths.
pub record AreFullNamesOfJoined (exts : List CellExt) (tree : NamedTree) (first second : List ℕ) : Type 0 where
  pub one : List ℕ
  pub other : List ℕ
  pub joined : ArePathsJoined exts tree one other
  pub first_is : first ≡ full_name [] one
  pub second_is : second ≡ full_name [] other

module _ (raw : RawTech) (exts : List CellExt) (tree : NamedTree) (elements : List Element)
    (are : AreOneForOne (IsElementFor raw exts) (named_standings tree) elements) where
  -- what a record joins in an element is joined in the tree
  full_joined : (standing : NamedStanding) (element : Element) (one other : List ℕ) → In standing (named_standings tree)
      → IsElementFor raw exts standing element → AreNamesOfNode element.ext one other ⊎ AreMergedIn element.ext one other
      → AreFullNamesOfJoined exts tree (name_in element one) (name_in element other)
  full_joined standing element one other listed is joined = record {
    one = path_text standing.ids one;
    other = path_text standing.ids other;
    joined = joined_there exts tree standing listed one other (record { ext = element.ext; found = is.found; joined = joined });
    first_is = full_name-cell raw exts standing element one is;
    second_is = full_name-cell raw exts standing element other is;
  }

  -- linked full names are those of joined paths
  pub link_joined : (first second : List ℕ) → AreLinked elements first second → AreFullNamesOfJoined exts tree first second
  link_joined first second (element, (within, inl names)) =
      let from = AreOneForOne-source (IsElementFor raw exts) (named_standings tree) elements are element within in
      let source = In-map_source (name_in element) second (names_of names.node) names.named in
      let joined = full_joined from.0 element names.node.name source.0 from.1 from.2
      (inl (record { node = names.node; listed = names.within; preferred = refl; named = source.1.0 })) in
      record {
        one = joined.one;
        other = joined.other;
        joined = joined.joined;
        first_is = names.preferred ∙ joined.first_is;
        second_is = sym source.1.1 ∙ joined.second_is;
      }
  link_joined first second (element, (within, inr merged)) =
      let from = AreOneForOne-source (IsElementFor raw exts) (named_standings tree) elements are element within in
      let joined = full_joined from.0 element merged.merge.first merged.merge.second from.1 from.2
      (inr (record { merge = merged.merge; listed = merged.within; one = refl; other = refl })) in
      record {
        one = joined.one;
        other = joined.other;
        joined = joined.joined;
        first_is = merged.one ∙ joined.first_is;
        second_is = merged.other ∙ joined.second_is;
      }

  -- names of one node, and paths of a merge, have linked full names in the element
  link_in : (element : Element) (one other : List ℕ) → AreNamesOfNode element.ext one other ⊎ AreMergedIn element.ext one other
      → AreNamesOfOne element (name_in element one) (name_in element other) ⊎ AreMerged element (name_in element one) (name_in element other)
  link_in element one other (inl names) = inl (record {
    node = names.node;
    within = names.listed;
    preferred = ap (name_in element) names.preferred;
    named = In-map (name_in element) other (names_of names.node) names.named;
  })
  link_in element one other (inr merged) = inr (record {
    merge = merged.merge;
    within = merged.listed;
    one = ap (name_in element) merged.one;
    other = ap (name_in element) merged.other;
  })

  -- joined paths have linked full names
  pub joined_link : (first second : List ℕ) → ArePathsJoined exts tree first second
      → AreLinked elements (full_name [] first) (full_name [] second)
  joined_link first second joined =
      let found = joined_among exts tree first second joined in
      let to = AreOneForOne-image (IsElementFor raw exts) (named_standings tree) elements are found.standing found.listed in
      let element = to.0 in
      let same = one_record exts found.standing.own.name found.joined.ext element.ext found.joined.found to.2.found in
      let P : CellExt → Type 0 = λ ext. AreNamesOfNode ext found.one found.other ⊎ AreMergedIn ext found.one found.other in
      let link : AreLinked elements (name_in element found.one) (name_in element found.other) =
      (element, (to.1, link_in element found.one found.other (subst P same found.joined.joined))) in
      let one = full_name-cell raw exts found.standing element found.one to.2 ∙ ap (full_name []) (sym found.first_is) in
      let other = full_name-cell raw exts found.standing element found.other to.2 ∙ ap (full_name []) (sym found.second_is) in
      subst (λ (name : List ℕ). AreLinked elements name (full_name [] second)) one
      (subst (λ (name : List ℕ). AreLinked elements (name_in element found.one) name) other link)
