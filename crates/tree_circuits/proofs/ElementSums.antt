-- What the elements of records have is what the tree's records have.
use Rattle.tree_circuits.proofs.Common.{◌≡◌, ◌≤◌, ℕ, ℤ, pos, ◌+ℤ◌, Bool, cond, List, [], ◌∷◌, map, refl, sym, ◌∙◌, ap, sum_on, sum_on-append}
use Rattle.tree_circuits.proofs.Common.{sum_on-map, sum_on-same, AreOneForOne, RawTech, full_name, path_text, CellExt, MergeRec, NodeRec}
use Rattle.tree_circuits.proofs.Common.{LONGEST_CHAIN, Element, elements_of, ext_of, ids_of, has_name, NamedTree, NamedElements, NamedStanding}
use Rattle.tree_circuits.proofs.Common.{named_standings, named_standings_below, own_body, named_above, named_tree, no_more, element_then}
use Rattle.tree_circuits.proofs.Common.{HasTreeRecords, depth_of, IsElementFor, full_name-path, elements_for, is_named, RecordedQuantity}
use Rattle.std.proofs.Common.{Some}
use Rattle.tree_names.specs.CircuitModel.FlatNodes.{share_of, sum_of}
use Rattle.tree_circuits.specs.TreeSums.{record_sum, found_sum, tree_sum, tree_sum_below}

-- sums over lists that go along with each other
sum_on-along : {X Y : Type 0} (R : X → Y → Type 0) (v : X → ℤ) (w : Y → ℤ) → ((x : X) (y : Y) → R x y → v x ≡ w y) → (xs : List X) (ys : List Y)
    → AreOneForOne R xs ys → sum_on v xs ≡ sum_on w ys
sum_on-along R v w agree [] [] are = refl
sum_on-along R v w agree [] (y ∷ ys) are = absurd are
sum_on-along R v w agree (x ∷ xs) [] are = absurd are
sum_on-along R v w agree (x ∷ xs) (y ∷ ys) are =
    ap (λ z. z +ℤ sum_on v xs) (agree x y are.0) ∙ ap (λ z. w y +ℤ z) (sum_on-along R v w agree xs ys are.1)

-- tests that say the same have the same sums
record_sum-same : (quantity : RecordedQuantity) (passes takes : List ℕ → Bool) (ext : CellExt) → ((path : List ℕ) → passes path ≡ takes path)
    → record_sum quantity passes ext ≡ record_sum quantity takes ext
record_sum-same quantity passes takes ext same =
    let merged : (List ℕ → Bool) → ℤ = λ test. sum_on (λ (merge : MergeRec). cond (test merge.first) (quantity.of_merge merge) (pos 0)) ext.merges in
    let node_sum : (List ℕ → Bool) → ℤ = λ test. sum_on (λ (node : NodeRec). cond (test node.name) (quantity.of_node node) (pos 0)) ext.nodes in
    ap (λ z. z +ℤ merged passes)
    (sum_on-same (λ (node : NodeRec). cond (passes node.name) (quantity.of_node node) (pos 0)) (λ node. cond (takes node.name) (quantity.of_node node) (pos 0))
    ext.nodes (λ node here. ap (λ (b : Bool). cond b (quantity.of_node node) (pos 0)) (same node.name)))
    ∙ ap (λ z. node_sum takes +ℤ z)
    (sum_on-same (λ (merge : MergeRec). cond (passes merge.first) (quantity.of_merge merge) (pos 0))
    (λ merge. cond (takes merge.first) (quantity.of_merge merge) (pos 0))
    ext.merges (λ merge here. ap (λ (b : Bool). cond b (quantity.of_merge merge) (pos 0)) (same merge.first)))

-- what the record of a cell as it stands has, by paths from the top
abbrev standing_sum : RecordedQuantity → List CellExt → (List ℕ → Bool) → NamedStanding → ℤ
standing_sum quantity exts passes occurrence = found_sum quantity (λ path. passes (path_text occurrence.ids path)) (ext_of exts occurrence.own.name)

mutual
  -- all cells as they stand have what the tree's records have
  standing_sums : (quantity : RecordedQuantity) (exts : List CellExt) (tree : NamedTree) (passes : List ℕ → Bool)
      → sum_on (standing_sum quantity exts passes) (named_standings tree) ≡ tree_sum quantity exts tree passes
  standing_sums quantity exts (named_tree own elements) passes =
      ap (λ z. found_sum quantity passes (ext_of exts own.name) +ℤ z) (standing_sums_below quantity exts elements passes)

  standing_sums_below : (quantity : RecordedQuantity) (exts : List CellExt) (elements : NamedElements) (passes : List ℕ → Bool)
      → sum_on (standing_sum quantity exts passes) (named_standings_below elements) ≡ tree_sum_below quantity exts elements passes
  standing_sums_below quantity exts no_more passes = refl
  standing_sums_below quantity exts (element_then id placed tree rest) passes =
      let below : List ℕ → Bool = λ path. passes (path_text (id ∷ []) path) in
      let share = standing_sum quantity exts passes in
      sum_on-append share (map (named_above id placed) (named_standings tree)) (named_standings_below rest)
      ∙ ap (λ z. z +ℤ sum_on share (named_standings_below rest))
      (sum_on-map (named_above id placed) share (named_standings tree) ∙ standing_sums quantity exts tree below)
      ∙ ap (λ z. tree_sum quantity exts tree below +ℤ z) (standing_sums_below quantity exts rest passes)

-- what the elements of the records have of a flat node
pub elements_have : (raw : RawTech) (exts : List CellExt) (tree : NamedTree) (root : CellExt) (quantity : RecordedQuantity) (node : NodeRec)
    → HasTreeRecords raw exts tree → ext_of exts (own_body tree).name ≡ Some root → depth_of tree ≤ LONGEST_CHAIN
    → sum_of node quantity.of_node quantity.of_merge (elements_of exts root) ≡ tree_sum quantity exts tree (is_named node)
elements_have raw exts tree root quantity node has found deep =
    let share : Element → ℤ = share_of node quantity.of_node quantity.of_merge in
    let standing = standing_sum quantity exts (is_named node) in
    sym (sum_on-along (IsElementFor raw exts) standing share (λ occurrence element is.
    ap (found_sum quantity (λ path. is_named node (path_text occurrence.ids path))) is.found
    ∙ record_sum-same quantity (λ path. is_named node (path_text occurrence.ids path)) (λ path. has_name node (full_name (ids_of element) path)) element.ext
    (λ path. ap (has_name node) (sym (full_name-path occurrence.ids path) ∙ ap (λ (ids : List (List ℕ)). full_name ids path) (sym is.ids))))
    (named_standings tree) (elements_of exts root) (elements_for raw exts tree root has found deep))
    ∙ standing_sums quantity exts tree (is_named node)
