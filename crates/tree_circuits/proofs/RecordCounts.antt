-- What the records of a tree have in number, by the cells as they stand.
use Rattle.tree_circuits.proofs.Common.{◌≡◌, ℕ, Option, None, List, [], ◌∷◌, ◌++◌, map, length, refl, sym, ◌∙◌, ap, length-append, length-map}
use Rattle.tree_circuits.proofs.Common.{AreOneForOne, Transform, identity, RawTech, path_text, CellExt, NodeRec, Element, ext_of}
use Rattle.std.proofs.Common.{◌+◌, Some, sum_by}
use Rattle.std.proofs.lemmas.List.Sums.{sum_by-append, sum_by-cons}
use Rattle.tree_circuits.specs.TreeRecords.NamedTrees.{NamedTree, NamedElements, NamedStanding, named_above, named_standings, named_standings_below}
use Rattle.tree_circuits.specs.TreeRecords.NamedTrees.NamedTree.{named_tree}
use Rattle.tree_circuits.specs.TreeRecords.NamedTrees.NamedElements.{no_more, element_then}
use Rattle.tree_circuits.specs.TreeNames.TreeElements.{IsElementFor}

-- how many of something a record has, if one is found
abbrev pub found_count : (CellExt → ℕ) → Option CellExt → ℕ
found_count count None = 0
found_count count (Some ext) = count ext

-- how many of it the records of a cell and of all cells below it have together
abbrev mutual
  pub tree_count : (CellExt → ℕ) → List CellExt → NamedTree → ℕ
  tree_count count exts (named_tree own elements) = found_count count (ext_of exts own.name) + tree_count_below count exts elements

  pub tree_count_below : (CellExt → ℕ) → List CellExt → NamedElements → ℕ
  tree_count_below count exts no_more = 0
  tree_count_below count exts (element_then id placed tree rest) = tree_count count exts tree + tree_count_below count exts rest

-- how many of it the record of a cell as it stands has
abbrev standing_count : (CellExt → ℕ) → List CellExt → NamedStanding → ℕ
standing_count count exts standing = found_count count (ext_of exts standing.own.name)

-- the cells at and below another, as they stand there and from above, have as many
counts_above : (count : CellExt → ℕ) (exts : List CellExt) (id : List ℕ) (placed : Transform) (standings : List NamedStanding)
    → sum_by (standing_count count exts) (map (named_above id placed) standings) ≡ sum_by (standing_count count exts) standings
counts_above count exts id placed [] = refl
counts_above count exts id placed (standing ∷ standings) =
    sum_by-cons (standing_count count exts) (named_above id placed standing) (map (named_above id placed) standings)
    ∙ ap (λ n. standing_count count exts standing + n) (counts_above count exts id placed standings)
    ∙ sym (sum_by-cons (standing_count count exts) standing standings)

mutual
  -- the cells as they stand have as many as the tree
  standing_counts : (count : CellExt → ℕ) (exts : List CellExt) (tree : NamedTree)
      → sum_by (standing_count count exts) (named_standings tree) ≡ tree_count count exts tree
  standing_counts count exts (named_tree own elements) =
      sum_by-cons (standing_count count exts) (record { ids = []; placed = identity; own = own }) (named_standings_below elements)
      ∙ ap (λ n. found_count count (ext_of exts own.name) + n) (standing_counts_below count exts elements)

  standing_counts_below : (count : CellExt → ℕ) (exts : List CellExt) (elements : NamedElements)
      → sum_by (standing_count count exts) (named_standings_below elements) ≡ tree_count_below count exts elements
  standing_counts_below count exts no_more = refl
  standing_counts_below count exts (element_then id placed tree rest) =
      sum_by-append (standing_count count exts) (map (named_above id placed) (named_standings tree)) (named_standings_below rest)
      ∙ ap (λ n. n + sum_by (standing_count count exts) (named_standings_below rest))
      (counts_above count exts id placed (named_standings tree) ∙ standing_counts count exts tree)
      ∙ ap (λ n. tree_count count exts tree + n) (standing_counts_below count exts rest)

-- elements that are cells as they stand have as many
pub element_counts : (raw : RawTech) (count : CellExt → ℕ) (exts : List CellExt) (standings : List NamedStanding) (elements : List Element)
    → AreOneForOne (IsElementFor raw exts) standings elements
    → sum_by (λ element. count element.ext) elements ≡ sum_by (standing_count count exts) standings
element_counts raw count exts [] [] are = refl
element_counts raw count exts [] (element ∷ elements) are = absurd are
element_counts raw count exts (standing ∷ standings) [] are = absurd are
element_counts raw count exts (standing ∷ standings) (element ∷ elements) are =
    sum_by-cons (λ (e : Element). count e.ext) element elements
    ∙ ap (λ n. n + sum_by (λ (e : Element). count e.ext) elements) (sym (ap (found_count count) are.0.found))
    ∙ ap (λ n. standing_count count exts standing + n) (element_counts raw count exts standings elements are.1)
    ∙ sym (sum_by-cons (standing_count count exts) standing standings)

-- the elements of a tree's records have as many as the tree
pub elements_count : (raw : RawTech) (count : CellExt → ℕ) (exts : List CellExt) (tree : NamedTree) (elements : List Element)
    → AreOneForOne (IsElementFor raw exts) (named_standings tree) elements
    → sum_by (λ element. count element.ext) elements ≡ tree_count count exts tree
elements_count raw count exts tree elements are =
    element_counts raw count exts (named_standings tree) elements are ∙ standing_counts count exts tree

-- the preferred names of a record's nodes, if one is found
abbrev pub found_names : Option CellExt → List (List ℕ)
found_names None = []
found_names (Some ext) = map (λ node. node.name) ext.nodes

-- the paths of all nodes of a tree's records, by their preferred names
abbrev mutual
  pub node_paths : List CellExt → NamedTree → List (List ℕ)
  node_paths exts (named_tree own elements) = found_names (ext_of exts own.name) ++ node_paths_below exts elements

  pub node_paths_below : List CellExt → NamedElements → List (List ℕ)
  node_paths_below exts no_more = []
  node_paths_below exts (element_then id placed tree rest) = map (path_text (id ∷ [])) (node_paths exts tree) ++ node_paths_below exts rest

-- how many nodes a record has
abbrev pub nodes_in : CellExt → ℕ
nodes_in ext = length ext.nodes

found_names_count : (found : Option CellExt) → length (found_names found) ≡ found_count nodes_in found
found_names_count None = refl
found_names_count (Some ext) = length-map ext.nodes (λ (node : NodeRec). node.name)

mutual
  -- there is one for each node
  pub path_count : (exts : List CellExt) (tree : NamedTree) → length (node_paths exts tree) ≡ tree_count nodes_in exts tree
  path_count exts (named_tree own elements) =
      length-append (found_names (ext_of exts own.name)) (node_paths_below exts elements)
      ∙ ap (λ n. n + length (node_paths_below exts elements)) (found_names_count (ext_of exts own.name))
      ∙ ap (λ n. found_count nodes_in (ext_of exts own.name) + n) (path_count_below exts elements)

  path_count_below : (exts : List CellExt) (elements : NamedElements)
      → length (node_paths_below exts elements) ≡ tree_count_below nodes_in exts elements
  path_count_below exts no_more = refl
  path_count_below exts (element_then id placed tree rest) =
      length-append (map (path_text (id ∷ [])) (node_paths exts tree)) (node_paths_below exts rest)
      ∙ ap (λ n. n + length (node_paths_below exts rest)) (length-map (node_paths exts tree) (path_text (id ∷ [])) ∙ path_count exts tree)
      ∙ ap (λ n. tree_count nodes_in exts tree + n) (path_count_below exts rest)
