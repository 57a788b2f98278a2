-- A node is power or ground exactly where it is the node of one of their names.
use Rattle.vector_files.proofs.Common.{◌≡◌, ℕ, List, [], ◌∷◌, refl, sym, ap, ◌∙◌, zip, list_any, bytes_eq, cases_Bool, bytes_eq-Decides, node_named}
use Rattle.vector_files.proofs.Common.{is_rail, power_name, ground_name, is_either_node, IsIndexOf, IsLikeNamed}
use Rattle.std.proofs.Common.{◌==◌, ◌&&◌, ◌||◌, Bool, true, false, inl, inr}
use Rattle.switch_net.specs.Names.{HasName, NameOneNodeEach}
use Rattle.vector_files.specs.NodeLookup.{is_node}

-- the list gives the name this node
abbrev gives : List ℕ → ℕ → List (List ℕ × ℕ) → Bool
gives name v names = list_any (λ named. bytes_eq named.0 name && named.1 == v) names

distribute : (p q r a b : Bool) → (((p || q) && r) || (a || b)) ≡ (((p && r) || a) || ((q && r) || b))
distribute true true true a b = refl
distribute true false true a b = refl
distribute false true true true b = refl
distribute false true true false b = refl
distribute true true false a b = refl
distribute true false false a b = refl
distribute false true false a b = refl
distribute false false r a b = refl

rail_names : (names : List (List ℕ × ℕ)) (v : ℕ) → is_rail names v ≡ (gives power_name v names || gives ground_name v names)
rail_names [] v = refl
rail_names (x ∷ names) v =
    let here = (bytes_eq x.0 power_name || bytes_eq x.0 ground_name) && x.1 == v in
    ap (λ (t : Bool). here || t) (rail_names names v)
    ∙ distribute (bytes_eq x.0 power_name) (bytes_eq x.0 ground_name) (x.1 == v) (gives power_name v names) (gives ground_name v names)

-- where a name has the one node, it has no other
gives_no_other : (name : List ℕ) (u v : ℕ) (names : List (List ℕ × ℕ)) → ((w : ℕ) → HasName names w name → u ≡ w)
    → (u == v) ≡ false → gives name v names ≡ false
gives_no_other name u v [] one differ = refl
gives_no_other name u v (x ∷ names) one differ =
    let rest = gives_no_other name u v names (λ w h. one w (inr h)) differ in
    elim (cases_Bool (bytes_eq x.0 name)) [
      | inl same ↦
          let is : x ≡ (name, x.1) = ap (λ (n : List ℕ). (n, x.1)) ((bytes_eq-Decides x.0 name).0 same) in
          let other : (x.1 == v) ≡ false = ap (λ (w : ℕ). w == v) (sym (one x.1 (inl is))) ∙ differ in
          rw (same, other) rest
      | inr away ↦ rw away rest
    ]

gives_first : (name : List ℕ) (v : ℕ) (names : List (List ℕ × ℕ)) → ((u w : ℕ) → HasName names u name → HasName names w name → u ≡ w)
    → gives name v names ≡ is_node (node_named names name) v
gives_first name v [] one = refl
gives_first name v (x ∷ names) one = elim (cases_Bool (bytes_eq x.0 name)) [
  | inl same ↦
      let is : x ≡ (name, x.1) = ap (λ (n : List ℕ). (n, x.1)) ((bytes_eq-Decides x.0 name).0 same) in
      rw same (first_or_none (x.1 == v) refl (λ w h. one x.1 w (inl is) (inr h)))
  | inr away ↦ rw away (gives_first name v names (λ u w h g. one u w (inr h) (inr g)))
]
  where
    first_or_none : (t : Bool) → (x.1 == v) ≡ t → ((w : ℕ) → HasName names w name → x.1 ≡ w)
        → ((x.1 == v) || gives name v names) ≡ (x.1 == v)
    first_or_none true is only = rw is refl
    first_or_none false is only = rw is (gives_no_other name x.1 v names only is)

pub rail_found : (names : List (List ℕ × ℕ)) → NameOneNodeEach names → (v : ℕ)
    → is_rail names v ≡ is_either_node (node_named names power_name) (node_named names ground_name) v
rail_found names one v =
    rail_names names v
    ∙ (ap (λ (t : Bool). t || gives ground_name v names) (gives_first power_name v names (one power_name))
    ∙ ap (λ (t : Bool). is_node (node_named names power_name) v || t) (gives_first ground_name v names (one ground_name)))

-- of an index: what is power or ground
pub index_rails : (names : List (List ℕ)) (nodes : List ℕ) (named : List (List ℕ × ℕ)) → NameOneNodeEach named → IsIndexOf names nodes named
    → (v : ℕ) → let known = zip names nodes in
    is_rail known v ≡ is_either_node (node_named known power_name) (node_named known ground_name) v
index_rails names nodes named one is v =
    rail_found (zip names nodes) (λ name u w h g. one name u w (is.among (name, u) h) (is.among (name, w) g)) v

pub index_like : (names : List (List ℕ)) (nodes : List ℕ) (named : List (List ℕ × ℕ)) → NameOneNodeEach named → IsIndexOf names nodes named
    → IsLikeNamed (zip names nodes) named
index_like names nodes named one is = record {
  nodes = is.same;
  rails = λ v.
      index_rails names nodes named one is v
      ∙ (ap (λ found. is_either_node found (node_named (zip names nodes) ground_name) v) (is.same power_name)
      ∙ (ap (λ found. is_either_node (node_named named power_name) found v) (is.same ground_name) ∙ sym (rail_found named one v)));
}
