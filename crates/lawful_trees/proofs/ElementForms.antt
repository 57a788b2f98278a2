-- The names of elements have the form of names of nodes.
use Rattle.lawful_trees.proofs.Common.{◌≡◌, ℕ, List, ◌∷◌, inl, inr, subst, IsTrue, Option, Some, None, In, In-map_source, Grid, elements_of}
use Rattle.lawful_trees.proofs.Common.{is_node_name, is_use_id, UseElement, array_element, use_elements}
use Rattle.ext_model.proofs.ElementForms.{id_form, indexed_form}

-- the name of an element of a use has the form of a node's name
pub element_form : (id : List ℕ) (grid : Option Grid) → IsTrue (is_use_id id) → (element : UseElement) → In element (use_elements id grid)
    → IsTrue (is_node_name element.name)
element_form id None is element (inl same) = subst (λ (e : UseElement). IsTrue (is_node_name e.name)) same (id_form id is)
element_form id None is element (inr none) = absurd none
element_form id (Some grid) is element listed =
    let made = In-map_source (array_element id) element (elements_of grid) listed in
    subst (λ (e : UseElement). IsTrue (is_node_name e.name)) made.1.1 (indexed_form id made.0.0 made.0.1 is)
