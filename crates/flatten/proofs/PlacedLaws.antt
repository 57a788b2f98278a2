-- Where nodes lie.
use Rattle.flatten.proofs.Common.{◌≡◌, ℕ, ◌<◌, List, [], ◌∷◌, ◌++◌, length, get_or, inl, inr, sym, ◌∙◌, ap, subst, arith, ℤ, Some, slice_get, w32}
use Rattle.flatten.proofs.Common.{FitsSigned, set, ints, slice_get_within, get_or_from_slice_get, In-push_cases, In-slice_get, slice_get-below}
use Rattle.flatten.proofs.Common.{All-In, NodeRec, CellExt, IsLawfulNode, Element, IsPlaced, TreeElement, ElementTree, FullNames, AreNames}
use Rattle.flatten.proofs.Common.{elements_in, element_at, HasText, HasAlias, ArePlaced}
use Rattle.geo_core.specs.Reach.{LiesInReach}
use Rattle.flatten.proofs.NameClasses.TreeLaws.{tree_of_names}
use Rattle.name_classes.specs.FullNames.declared.names.Origin.{Origin}
use Rattle.name_classes.specs.FullNames.Names.{ComesFrom, GivesText}
use Rattle.flatten.proofs.FlatLimits.TreeLaws.{no_flat}
use Rattle.flatten.proofs.LabelLaws.{one_list}
use Rattle.flatten.proofs.PlaceLaws.{place_of, place_set_cases}
use Rattle.flatten.proofs.SpotLaws.{IsRead, element_read}

-- the text of a number is its full name
pub has_text : (names : FullNames) → AreNames names → (number : ℕ) → number < names.count → (old text : List ℕ) → old ≡ [] → GivesText names number old text
    → HasText names number text
has_text names are number inside old text empty gives list is_list =
    let same = ap length (one_list (elements_in names) list are.list is_list are.is_list) in
    let count = are.count in
    let r = slice_get-below list number (omega (arith, inside, same, count)) in
    let is : text ≡ r.0 = gives list is_list r.0 r.1 ∙ ap (λ (l : List ℕ). l ++ r.0) empty in
    r.1 ∙ ap Some (sym is)

-- The node that a name comes from, as it is read.
pub record IsOriginHere (names : FullNames) (name : List ℕ) (origin : Origin) (exts : List CellExt) (flats : List TreeElement) : Type 0 where
  pub within : origin.element < length flats
  pub read : IsRead names origin.element exts (get_or flats origin.element no_flat)
  pub came : ComesFrom names name origin
  pub same : element_at names origin.element ≡ came.element
  pub node_within : origin.node < length (element_at names origin.element).ext.nodes
  pub node : (d : NodeRec) → get_or (element_at names origin.element).ext.nodes origin.node d ≡ came.node
  pub lawful : IsLawfulNode (length (element_at names origin.element).ext.classes) came.node

pub origin_here : {names : FullNames} → AreNames names → {name : List ℕ} {origin : Origin} → ComesFrom names name origin → {exts : List CellExt}
    → exts ≡ names.exts.now → {tree : ElementTree} → tree ≡ names.tree.now → {flats : List TreeElement} → flats ≡ tree.elements
    → IsOriginHere names name origin exts flats
origin_here {names} are {name} {origin} came all_exts {tree} all_tree {flats} all =
    let inside = slice_get_within (elements_in names) origin.element came.element came.stands in
    let long = (tree_of_names names are).long in
    let many = ap length (all ∙ ap (λ (tree : ElementTree). tree.elements) all_tree) in
    let within : origin.element < length flats = omega (arith, inside, long, many) in
    let read = element_read are all_exts all_tree all within in
    let ext = (element_at names origin.element).ext in
    let same : element_at names origin.element ≡ came.element = get_or_from_slice_get (elements_in names) origin.element came.element _ came.stands in
    let node : slice_get ext.nodes origin.node ≡ Some came.node = ap (λ (e : Element). slice_get e.ext.nodes origin.node) same ∙ came.node_stands in
    record {
      within = within;
      read = read;
      came = came;
      same = same;
      node_within = slice_get_within ext.nodes origin.node came.node node;
      node = λ d. get_or_from_slice_get ext.nodes origin.node came.node d node;
      lawful = All-In (IsLawfulNode (length ext.classes)) ext.nodes came.node read.lawful.nodes
          (In-slice_get ext.nodes origin.node came.node node);
    }

-- and what is read of its element's nodes
module _ {names : FullNames} {name : List ℕ} {origin : Origin} {exts : List CellExt} {flats : List TreeElement}
    (o : IsOriginHere names name origin exts flats) (d : CellExt) {nodes : List NodeRec}
    (all : nodes ≡ (get_or exts (get_or flats origin.element no_flat).cell d).nodes) where
  nodes_are : nodes ≡ (element_at names origin.element).ext.nodes
  nodes_are = all ∙ ap (λ (ext : CellExt). ext.nodes) (o.read.ext d)

  pub node_within : origin.node < length nodes
  node_within = omega (arith, o.node_within, ap length nodes_are)

  pub node_read : {node : NodeRec} → node ≡ get_or nodes origin.node node → node ≡ o.came.node
  node_read {node} is = is ∙ ap (λ (l : List NodeRec). get_or l origin.node node) nodes_are ∙ o.node node

-- places of lawful nodes lie in reach
pub lies_in_reach : (x y : ℤ) → FitsSigned w32 x → FitsSigned w32 y → LiesInReach (record { x = x; y = y })
lies_in_reach x y across up = record {
  x = (omega (arith, ints, across), omega (arith, ints, across));
  y = (omega (arith, ints, up), omega (arith, ints, up));
}

-- a node with one more name lies where it lay
pub placed_alias : (elements : List Element) (node : NodeRec) (alias : List ℕ) (new : NodeRec) → HasAlias node alias new → IsPlaced elements node
    → IsPlaced elements new
placed_alias elements node alias new has placed =
    let P : NodeRec → Type 0 = IsPlaced elements in
    subst P (sym has.is)
    (record { element = placed.element; part = placed.part; first = placed.first; carrier = placed.carrier; point = placed.point; kind = placed.kind })

pub placed_set : (names : FullNames) (nodes : List NodeRec) (k : ℕ) (new : NodeRec) → ArePlaced names nodes → IsPlaced (elements_in names) new
    → ArePlaced names (set nodes k new)
placed_set names nodes k new placed one node here =
    let r = place_of node (set nodes k new) here in
    elim (place_set_cases nodes k new node r.0 r.1.1) [
      | inl was ↦ placed node (In-slice_get nodes r.0 node was)
      | inr now ↦ (let P : NodeRec → Type 0 = IsPlaced (elements_in names) in subst P now.1 one)
    ]

pub placed_push : (names : FullNames) (nodes : List NodeRec) (new : NodeRec) → ArePlaced names nodes → IsPlaced (elements_in names) new
    → ArePlaced names (nodes ++ new ∷ [])
placed_push names nodes new placed one node here = elim (In-push_cases node nodes new here) [
  | inl was ↦ placed node was
  | inr now ↦ (let P : NodeRec → Type 0 = IsPlaced (elements_in names) in subst P now one)
]
