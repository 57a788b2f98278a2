-- Full names of names in one cell stand in the order of the names.
use Rattle.tree_names.proofs.Common.{◌≡◌, ℕ, true, false, Bool, IsTrue, if◌then◌else◌, List, [], inl, inr, sym, ◌∙◌, ap, subst, cases_Bool}
use Rattle.tree_names.proofs.Common.{is_global, is_node_name, full_name, path_text, last_name-whole, IsNoLaterName}
use Rattle.name_classes.proofs.ExtModel.NameOrders.{name_cmp_total}
use Rattle.name_classes.proofs.ExtModel.PathOrders.{paths_keep_the_order}
use Rattle.name_classes.specs.FullNames.OwnNames.{is_marked}
use Rattle.name_classes.proofs.FullNames.ListOrders.{not_before_itself}
use Rattle.name_classes.proofs.FullNames.NameForms.{global_before_path, is_global-mark, last_from_form}
use Rattle.own_record_laws.specs.TreeRecords.FetRecords.{IsNameBefore}

module _ (ids : List (List ℕ)) where
  -- the full name of a name of a node, by its mark
  full_by_mark : (name : List ℕ) → IsTrue (is_node_name name) → full_name ids name ≡ (if is_marked name then name else path_text ids name)
  full_by_mark name formed =
      ap (λ (last : List ℕ). if is_global last then last else path_text ids name) (last_name-whole name (last_from_form name formed).whole)
      ∙ ap (λ (global : Bool). if global then name else path_text ids name) (is_global-mark name formed)

  -- that of a global name is the name
  full_marked : (name : List ℕ) → IsTrue (is_node_name name) → is_marked name ≡ true → full_name ids name ≡ name
  full_marked name formed marked = full_by_mark name formed ∙ ap (λ (m : Bool). if m then name else path_text ids name) marked

  -- and that of another is its path
  full_unmarked : (name : List ℕ) → IsTrue (is_node_name name) → is_marked name ≡ false → full_name ids name ≡ path_text ids name
  full_unmarked name formed unmarked = full_by_mark name formed ∙ ap (λ (m : Bool). if m then name else path_text ids name) unmarked

  -- texts in the place of equal ones stand in order
  before_by : (a b one other : List ℕ) → a ≡ one → b ≡ other → IsNameBefore one other → IsNameBefore a b
  before_by a b one other same also before =
      subst (λ (t : List ℕ). IsNameBefore t b) (sym same) (subst (λ (t : List ℕ). IsNameBefore one t) (sym also) before)

  -- full names of names of nodes stand in the order of the names
  full_before : (a b : List ℕ) → IsTrue (is_node_name a) → IsTrue (is_node_name b) → IsNameBefore a b
      → IsNameBefore (full_name ids a) (full_name ids b)
  full_before a b formed formed' before = elim (cases_Bool (is_marked a)) [
    | inl marked ↦ elim (cases_Bool (is_marked b)) [
      | inl marked' ↦ before_by (full_name ids a) (full_name ids b) a b (full_marked a formed marked) (full_marked b formed' marked') before
      | inr unmarked ↦ before_by (full_name ids a) (full_name ids b) a (path_text ids b) (full_marked a formed marked)
          (full_unmarked b formed' unmarked) (global_before_path a ids b (last_from_form b formed') marked unmarked)
    ]
    | inr unmarked ↦ elim (cases_Bool (is_marked b)) [
      | inl marked ↦ absurd (not_before_itself a (name_cmp_total.trans a b a before
          (global_before_path b [] a (last_from_form a formed) marked unmarked)))
      | inr unmarked' ↦ before_by (full_name ids a) (full_name ids b) (path_text ids a) (path_text ids b) (full_unmarked a formed unmarked)
          (full_unmarked b formed' unmarked')
          (paths_keep_the_order ids a b (last_from_form a formed).some (last_from_form b formed').some ∙ before)
    ]
  ]

  -- and so where the names may be one
  pub full_no_later : (a b : List ℕ) → IsTrue (is_node_name a) → IsTrue (is_node_name b) → IsNoLaterName a b
      → IsNoLaterName (full_name ids a) (full_name ids b)
  full_no_later a b formed formed' (inl same) = inl (ap (full_name ids) same)
  full_no_later a b formed formed' (inr before) = inr (full_before a b formed formed' before)
