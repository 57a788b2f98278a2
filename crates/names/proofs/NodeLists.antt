-- Nodes that are made one after another.
use Rattle.names.proofs.Common.{◌≡◌, ◌<◌, ◌+◌, ℕ, List, [], ◌∷◌, ◌++◌, length, get_or, inl, inr, arith, sym, subst, ◌∙◌, ap, Vec, Global, Option}
use Rattle.names.proofs.Common.{All, cases_eq, get_or_append_left, get_or_push, length_push, get_or_default, Label, RawTech, RegionTile, NamedNode}
use Rattle.names.proofs.Common.{class_of, IsNodeOn, AreNodesOn, AreNodesOf, AreGroupsBy, region_key, label_key}

module _ (raw : RawTech) (labels : List Label) (firsts : List RegionTile) (classes : List ℕ) (regions indices : List (Vec ℕ Global)) where
  -- The first nodes were made.
  pub record HasNodes (n : ℕ) (nodes : List NamedNode) : Type 0 where
    pub so_many : length nodes ≡ n
    pub each : (k : ℕ) (tile : RegionTile) (node : NamedNode) (d e : Vec ℕ Global) → k < n
        → IsNodeOn raw labels (get_or firsts k tile) (get_or regions (class_of classes (get_or firsts k tile)) d).items
        (get_or indices (class_of classes (get_or firsts k tile)) e).items (get_or nodes k node)

  -- one more node
  pub nodes_more : (n : ℕ) (tile : RegionTile) (d e : Vec ℕ Global) (nodes new : List NamedNode) (node : NamedNode) → n < length firsts
      → tile ≡ get_or firsts n tile → class_of classes tile < length regions → class_of classes tile < length indices
      → IsNodeOn raw labels tile (get_or regions (class_of classes tile) d).items (get_or indices (class_of classes tile) e).items node
      → new ≡ nodes ++ node ∷ [] → HasNodes n nodes → HasNodes (n + 1) new
  nodes_more n tile d e nodes new node below is regions_in indices_in made added has =
      let many = has.so_many in
      subst (HasNodes (n + 1)) (sym added) (record {
        so_many = length_push nodes node ∙ ap (λ (k : ℕ). k + 1) many;
        each = λ k t m f g less. elim (cases_eq k n) [
          | inl at ↦
              let here : get_or firsts k t ≡ tile = ap (λ (i : ℕ). get_or firsts i t) at ∙ get_or_default firsts n t tile below ∙ sym is in
              let node_is : get_or (nodes ++ node ∷ []) k m ≡ node = get_or_push nodes node m k (many ∙ sym at) in
              rw (here, node_is, get_or_default regions (class_of classes tile) f d regions_in, get_or_default indices (class_of classes tile) g e indices_in)
              made
          | inr other ↦ subst (λ (x : NamedNode). IsNodeOn raw labels (get_or firsts k t) (get_or regions (class_of classes (get_or firsts k t)) f).items
              (get_or indices (class_of classes (get_or firsts k t)) g).items x)
              (sym (get_or_append_left nodes (node ∷ []) m k (omega arith))) (has.each k t m f g (omega arith))
        ];
      })

  -- all nodes were made
  pub nodes_all : (n : ℕ) (nodes : List NamedNode) → n ≡ length firsts → HasNodes n nodes → AreNodesOn raw labels firsts classes regions indices nodes
  nodes_all n nodes all has = record {
    one_each = has.so_many ∙ all;
    each = λ k t m f g less. has.each k t m f g (omega arith);
  }

-- one of the things of a list that has some
one_of : {X : Type 0} (xs : List X) → 0 < length xs → X
one_of [] some = absurd (omega arith)
one_of (x ∷ xs) some = x

-- nodes of groups by classes are the nodes of the classes
pub nodes_of_classes : (raw : RawTech) (labels : List Label) (firsts : List RegionTile) (classes : List ℕ) (named : List (Option ℕ)) (count : ℕ)
    (regions indices : List (Vec ℕ Global)) (nodes : List NamedNode) → All (λ class. class < count) classes
    → All (λ (tile : RegionTile). tile.region < length classes) firsts → AreGroupsBy (region_key classes) (length classes) count regions
    → AreGroupsBy (label_key classes named) (length named) count indices → AreNodesOn raw labels firsts classes regions indices nodes
    → AreNodesOf raw labels classes named firsts nodes
nodes_of_classes raw labels firsts classes named count regions indices nodes classes_in regions_in by_region by_label are = record {
  one_each = are.one_each;
  each = λ k tile node below.
      let first = get_or firsts k tile in
      let class = class_of classes first in
      let in_range : class < count = classes_in first.region 0 (regions_in k tile below) in
      let many_regions = by_region.one_each in
      let many_indices = by_label.one_each in
      let d = one_of regions (omega (arith, in_range, many_regions)) in
      let e = one_of indices (omega (arith, in_range, many_indices)) in
      record {
        regions = (get_or regions class d).items;
        indices = (get_or indices class e).items;
        are_regions = by_region.each class d in_range;
        are_indices = by_label.each class e in_range;
        node_is = are.each k tile node d e below;
      };
}
