-- Where the first paths of merges lead.
use Rattle.flatten.proofs.Common.{◌≡◌, ℕ, ◌+◌, ◌<◌, List, length, map, get_or, refl, sym, ◌∙◌, ap, subst, arith, inl, Some, slice_get, option_map}
use Rattle.flatten.proofs.Common.{slice_get_within, slice_get_read, slice_get-get_or, slice_get-map, get_or_from_slice_get, same_Some, In, In-map}
use Rattle.flatten.proofs.Common.{In-slice_get, slice_get-below, NodeRec, MergeRec, CellExt, node_names, Element, name_in, TreeElement, FullNames}
use Rattle.flatten.proofs.Common.{AreNames, IsElement, IsSpotOf, elements_in, IsFullNameList, NameClasses, MergeEnd, HasEnds, AreClasses}
use Rattle.flatten.proofs.Common.{tree_of_names, element_at, cell_at, no_element}
use Rattle.flatten.proofs.FlatLimits.TreeLaws.{no_flat}
use Rattle.flatten.proofs.PlaceLaws.{place_of}
use Rattle.flatten.proofs.SpotLaws.{flat_here, name_among}
use Rattle.name_classes.specs.Classes.{EndsAt, firsts_of}

-- The first path of the merge leads to this name of this element.
pub record IsEndHere (names : FullNames) (number : ℕ) (merge : MergeRec) (end : MergeEnd) : Type 0 where
  pub name : List ℕ
  pub within : number + end.step < length (elements_in names)
  pub is_spot : IsSpotOf names (cell_at names (number + end.step)) name end.spot
  pub full : name_in (element_at names (number + end.step)) name ≡ name_in (element_at names number) merge.first

pub end_here : {names : FullNames} (number : ℕ) {merges : List MergeRec} {ends : List MergeEnd} → merges ≡ (element_at names number).ext.merges
    → HasEnds names number (element_at names number) ends → (at : ℕ) → at < length merges → {merge : MergeRec} → merge ≡ get_or merges at merge
    → (d : MergeEnd) → IsEndHere names number merge (get_or ends at d)
end_here {names} number {merges} {ends} all has at inside {merge} is d =
    let element = element_at names number in
    let long = has.long in
    let many = ap length all in
    let end = get_or ends at d in
    let found : slice_get element.ext.merges at ≡ Some merge =
    ap (λ (l : List MergeRec). slice_get l at) (sym all) ∙ slice_get_read merges (length merges) at merge refl inside is in
    let ended : EndsAt names number element merge end = has.each at merge end found (slice_get-get_or ends at d (omega (arith, inside, long, many))) in
    let below : element_at names (number + end.step) ≡ ended.below =
    get_or_from_slice_get (elements_in names) (number + end.step) ended.below no_element ended.stands.are.is in
    let cell : cell_at names (number + end.step) ≡ ended.flat.cell =
    get_or_from_slice_get (map (λ (flat : TreeElement). flat.cell) names.tree.now.elements) (number + end.step) ended.flat.cell 0
    (slice_get-map (λ (flat : TreeElement). flat.cell) names.tree.now.elements (number + end.step)
    ∙ ap (option_map (λ (flat : TreeElement). flat.cell)) ended.stands.are.has) in
    record {
      name = ended.name;
      within = slice_get_within (elements_in names) (number + end.step) ended.below ended.stands.are.is;
      is_spot = (let P : ℕ → Type 0 = λ k. IsSpotOf names k ended.name end.spot in subst P (sym cell) ended.is_spot);
      full = ap (λ (e : Element). name_in e ended.name) below ∙ ended.full;
    }

-- the full name of a node's preferred name is one of all
pub node_named : (names : FullNames) (list : List (List ℕ)) → IsFullNameList (elements_in names) list → (element : Element) → In element (elements_in names)
    → (part : NodeRec) → In part element.ext.nodes → In (name_in element part.name) list
node_named names list is_list element here part among =
    (is_list.all (name_in element part.name)).1
    (element, (here, In-map (name_in element) part.name (node_names element.ext) (name_among element.ext.nodes part part.name among (inl refl))))

-- and so is that of a merge's first path
pub merge_named : (names : FullNames) → AreNames names → (classes : NameClasses) → AreClasses names classes → (list : List (List ℕ))
    → IsFullNameList (elements_in names) list → (element : Element) → In element (elements_in names) → (merge : MergeRec) → In merge element.ext.merges
    → In (name_in element merge.first) list
merge_named names are classes divided list is_list element here merge among =
    let r = place_of element (elements_in names) here in
    let flat = flat_here names are r.0 r.1.0 in
    let same : element_at names r.0 ≡ element = get_or_from_slice_get (elements_in names) r.0 element no_element r.1.1 in
    let P : Element → Type 0 = λ e. IsElement names r.0 e (get_or names.tree.now.elements r.0 no_flat) in
    let ends = divided.ends r.0 element (get_or names.tree.now.elements r.0 no_flat) (subst P same flat.is) in
    let m = place_of merge element.ext.merges among in
    let long = ends.long in
    let end = slice_get-below (firsts_of classes.firsts (get_or names.tree.now.elements r.0 no_flat).cell) m.0 (omega (arith, m.1.0, long)) in
    let ended = ends.each m.0 merge end.0 m.1.1 end.1 in
    let tree = tree_of_names names are in
    let for = tree.elements_are (r.0 + end.0.step) ended.below ended.flat ended.stands.are in
    let record_ : ended.is_spot.record_ ≡ ended.below.ext = same_Some ended.is_spot.record_ ended.below.ext (sym ended.is_spot.found ∙ for.record_) in
    let Q : CellExt → Type 0 = λ e. In ended.name (node_names e) in
    let R : List ℕ → Type 0 = λ name. In name list in
    subst R ended.full
    ((is_list.all (name_in ended.below ended.name)).1 (
      ended.below,
      (
        In-slice_get (elements_in names) (r.0 + end.0.step) ended.below ended.stands.are.is,
        In-map (name_in ended.below) ended.name (node_names ended.below.ext) (subst Q record_ ended.is_spot.named),
      ),
    ))
