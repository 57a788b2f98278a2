-- Nodes with the names of groups.
use Rattle.flatten.proofs.Common.{◌≡◌, ℕ, ◌<◌, false, eqb, List, [], length, map, get_or, inl, inr, refl, sym, ◌∙◌, ap, subst, arith, eq-eqb, Option}
use Rattle.flatten.proofs.Common.{Some, None, slice_get, option_map, bytes_eq, Less, cases_Bool, cases_lt, eqb-true, length-map}
use Rattle.flatten.proofs.Common.{get_or-map-range_with_len, length-map-range_with_len, slice_get_within, slice_get-map, get_or_from_slice_get}
use Rattle.flatten.proofs.Common.{both_ways, bytes_eq-Decides, In, slice_get-below, NodeRec, name_cmp, names_of, name_cmp_total, Element}
use Rattle.flatten.proofs.Common.{AreInNameOrder, has_name, node_name, AreLabels, label_of, group_of, AreNamed}
use Rattle.std.specs.Prelude.{find}
use Rattle.finite_sets.proofs.Searches.{find-at, list_any-of_In, In-from_list_any}
use Rattle.flatten.proofs.LabelLaws.{before_rest, before_other}
use Rattle.flatten.proofs.GroupLaws.{in_group, from_group, group_in_order, label_below, before_group}

-- the name of the node of a number
pub record IsNodeAt (list : List (List ℕ)) (labels : List ℕ) (count number : ℕ) (node : NodeRec) : Type 0 where
  pub within : number < count
  pub names : names_of node ≡ group_of list labels number

module _ {list : List (List ℕ)} {labels : List ℕ} {count : ℕ} {nodes : List NodeRec} (named : AreNamed list labels count nodes) where
  -- there are as many nodes as labels
  pub so_many : length nodes ≡ count
  so_many = sym (length-map nodes names_of) ∙ ap length named.groups ∙ length-map-range_with_len (group_of list labels) 0 count

  pub node_at : (number : ℕ) (node : NodeRec) → slice_get nodes number ≡ Some node → IsNodeAt list labels count number node
  node_at number node at =
      let within : number < length nodes = slice_get_within nodes number node at in
      let many = so_many in
      let inside : number < count = omega (arith, within, many) in
      record {
        within = inside;
        names = sym (get_or_from_slice_get (map names_of nodes) number (names_of node) [] (slice_get-map names_of nodes number ∙ ap (option_map names_of) at))
            ∙ ap (λ (groups : List (List (List ℕ))). get_or groups number []) named.groups
            ∙ get_or-map-range_with_len (group_of list labels) 0 count number number [] inside (omega arith);
      }

module _ (elements : List Element) (list : List (List ℕ)) (labels : List ℕ) (count : ℕ) (ordered : AreInNameOrder list)
    (are : AreLabels elements list labels count) where
  -- a node has a name exactly where its number is the name's label
  pub has_name_is : (node : NodeRec) (number : ℕ) → names_of node ≡ group_of list labels number → (name : List ℕ) → In name list
      → has_name node name ≡ eqb (label_of list labels name) number
  has_name_is node number names name here =
      let P : List (List ℕ) → Type 0 = λ l. In name l in
      both_ways (has_name node name) (eqb (label_of list labels name) number)
      (λ h. eq-eqb (label_of list labels name) number
      (from_group list labels number name ordered (subst P names (In-from_list_any bytes_eq bytes_eq-Decides name (names_of node) h))).1)
      (λ e. list_any-of_In bytes_eq bytes_eq-Decides name (names_of node)
      (subst P (sym names) (in_group list labels number name are.long here (eqb-true (label_of list labels name) number e))))

module _ (elements : List Element) (list : List (List ℕ)) (labels : List ℕ) (count : ℕ) (nodes : List NodeRec) (ordered : AreInNameOrder list)
    (are : AreLabels elements list labels count) (named : AreNamed list labels count nodes) where
  -- the node of a name is found
  pub node_found : (name : List ℕ) → In name list → (node : NodeRec) ×
      ((slice_get nodes (label_of list labels name) ≡ Some node) × (node_name nodes name ≡ node.name))
  node_found name here =
      let number = label_of list labels name in
      let many = so_many named in
      let below = label_below elements list labels count ordered are name here in
      let r = slice_get-below nodes number (omega (arith, many, below)) in
      let found : find (λ node. has_name node name) nodes ≡ Some r.0 =
      find-at (λ node. has_name node name) nodes number r.0 r.1
      (has_name_is elements list labels count ordered are r.0 number (node_at named number r.0 r.1).names name here
      ∙ eq-eqb number number refl)
      (λ j other less at. has_name_is elements list labels count ordered are other j (node_at named j other at).names name here
      ∙ apart number j (omega (arith, less))) in
      (r.0, (r.1, ap (λ (o : Option NodeRec). elim o [ Some node ↦ node.name | None ↦ [] ]) found))
    where
      apart : (a b : ℕ) → b < a → eqb a b ≡ false
      apart a b less = elim (cases_Bool (eqb a b)) [ inl same ↦ (let e = eqb-true a b same in absurd (omega (arith, less, e))) | inr differ ↦ differ ]

  -- nodes stand in the order of their preferred names
  pub before_node : (a b : ℕ) (first second : NodeRec) → a < b → slice_get nodes a ≡ Some first → slice_get nodes b ≡ Some second
      → name_cmp first.name second.name ≡ Less
  before_node a b first second less p q =
      let x = node_at named a first p in
      let y = node_at named b second q in
      let P : List (List ℕ) → Type 0 = λ l. In second.name l in
      let r = before_group elements list labels count ordered are a b less y.within second.name (subst P y.names (inl refl)) in
      let Q : List (List ℕ) → Type 0 = λ l. In r.0 l in
      let O : List (List ℕ) → Type 0 = AreInNameOrder in
      elim (subst Q (sym x.names) r.1.0) [
        | inl same ↦ (let R : List ℕ → Type 0 = λ z. name_cmp z second.name ≡ Less in subst R (sym same) r.1.1)
        | inr later ↦ name_cmp_total.trans first.name r.0 second.name
            (before_rest first.name first.aliases (subst O (sym x.names) (group_in_order list labels a ordered)) r.0 later) r.1.1
      ]

  -- so no two have one
  pub one_number : (a b : ℕ) (first second : NodeRec) → slice_get nodes a ≡ Some first → slice_get nodes b ≡ Some second → first.name ≡ second.name → a ≡ b
  one_number a b first second p q same = elim (cases_lt a b) [
    | inl less ↦ absurd (before_other first.name second.name (before_node a b first second less p q) same)
    | inr no_less ↦ (elim (cases_lt b a) [
      | inl less ↦ absurd (before_other second.name first.name (before_node b a second first less q p) (sym same))
      | inr neither ↦ omega (arith, no_less, neither)
    ])
  ]
