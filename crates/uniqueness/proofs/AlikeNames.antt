-- What a line of a vector file says rests on which name has which node, and not on how the names are listed.
use Rattle.uniqueness.proofs.Common.{◌≡◌, ℕ, List, [], ◌∷◌, inl, inr, refl, sym, ap, ◌∙◌, Option, Some, None, bytes_eq, cases_Bool, bytes_eq-Decides}
use Rattle.uniqueness.proofs.Common.{HasName, NameOneNodeEach, node_named, name_stands, NameAlike}
use Rattle.vector_runs.specs.VectorFiles.NodeLookup.{IsLikeNamed, ground_name, is_either_node, power_name}
use Rattle.vector_runs.proofs.VectorFiles.Rails.{rail_found}

-- a name with a node is found
is_found : (names : List (List ℕ × ℕ)) → NameOneNodeEach names → (name : List ℕ) (v : ℕ) → HasName names v name → node_named names name ≡ Some v
is_found [] one name v has = absurd has
is_found (x ∷ names) one name v has = elim (cases_Bool (bytes_eq x.0 name)) [
  | inl same ↦
      let is : x ≡ (name, x.1) = ap (λ (n : List ℕ). (n, x.1)) ((bytes_eq-Decides x.0 name).0 same) in
      rw same (ap Some (one name x.1 v (inl is) has))
  | inr away ↦ elim has [
    | inl is ↦ (let same = (bytes_eq-Decides x.0 name).1 (ap (λ (p : List ℕ × ℕ). p.0) is) in absurd (let no : ⊥ = cc in no))
    | inr later ↦ rw away (is_found names (λ n u w here also. one n u w (inr here) (inr also)) name v later)
  ]
]

-- of two searches of which each finds what the other does, both find one thing
same_found : (a b : Option ℕ) → ((v : ℕ) → a ≡ Some v → b ≡ Some v) → ((v : ℕ) → b ≡ Some v → a ≡ Some v) → a ≡ b
same_found None None there back = refl
same_found None (Some w) there back = back w refl
same_found (Some v) b there back = sym (there v refl)

module _ (names others : List (List ℕ × ℕ)) (one : NameOneNodeEach names) (also : NameOneNodeEach others) (alike : NameAlike names others) where
  same_node : (name : List ℕ) → node_named names name ≡ node_named others name
  same_node name = same_found (node_named names name) (node_named others name)
      (λ v found. is_found others also name v ((alike name v).0 (name_stands names name v found)))
      (λ v found. is_found names one name v ((alike name v).1 (name_stands others name v found)))

  pub like_named : IsLikeNamed names others
  like_named = record {
    nodes = same_node;
    rails = λ v.
        rail_found names one v
        ∙ (ap (λ (found : Option ℕ). is_either_node found (node_named names ground_name) v) (same_node power_name)
        ∙ (ap (λ (found : Option ℕ). is_either_node (node_named others power_name) found v) (same_node ground_name) ∙ sym (rail_found others also v)));
  }
