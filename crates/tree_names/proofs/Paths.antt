-- Paths cut at their first slash.
use Rattle.tree_names.proofs.Common.{◌≡◌, ℕ, List, [], ◌∷◌, ◌++◌, inl, inr, sym, ◌∙◌, ap, subst, arith, In, slashes_in, path_text, NamedElements}
use Rattle.tree_names.proofs.Common.{no_more, element_then, HaveElementNames, ids_in}
use Rattle.name_classes.specs.ExtModel.declared.names.TheConstants.{SLASH}
use Rattle.name_classes.proofs.ExtModel.PathOrders.{slashes_in-behind}
use Rattle.name_classes.specs.CircuitModel.Refusals.{after_slash, before_slash}
use Rattle.name_classes.proofs.PathLaws.{after-split, before-split}

-- the first slash tells an element's name from the path behind it
pub one_split : (id other path behind : List ℕ) → slashes_in id ≡ 0 → slashes_in other ≡ 0 → id ++ SLASH ∷ path ≡ other ++ SLASH ∷ behind
    → (id ≡ other) × (path ≡ behind)
one_split id other path behind whole whole' same = (
  sym (before-split id path whole) ∙ ap before_slash same ∙ before-split other behind whole',
  sym (after-split id path whole) ∙ ap after_slash same ∙ after-split other behind whole',
)

-- The path begins with one of these names of elements.
pub record BeginsIn (ids : List (List ℕ)) (path : List ℕ) : Type 0 where
  pub id : List ℕ
  pub listed : In id ids
  pub rest : List ℕ
  pub is : path ≡ path_text (id ∷ []) rest

-- one more name of an element
pub begins_later : (id : List ℕ) (ids : List (List ℕ)) (path : List ℕ) → BeginsIn ids path → BeginsIn (id ∷ ids) path
begins_later id ids path begins = record { id = begins.id; listed = inr begins.listed; rest = begins.rest; is = begins.is }

-- a path that begins with a name of an element has a slash
pub begins_with_slash : (ids : List (List ℕ)) (path : List ℕ) → slashes_in path ≡ 0 → BeginsIn ids path → ⊥
begins_with_slash ids path whole begins = omega (arith, whole, ap slashes_in begins.is, slashes_in-behind begins.id begins.rest)

-- names of elements have no slash
whole_id : (elements : NamedElements) → HaveElementNames elements → (id : List ℕ) → In id (ids_in elements) → slashes_in id ≡ 0
whole_id no_more names id none = absurd none
whole_id (element_then first placed tree rest) names id (inl same) = subst (λ (name : List ℕ). slashes_in name ≡ 0) same names.0
whole_id (element_then first placed tree rest) names id (inr later) = whole_id rest names.2 id later

-- a path does not begin with the name of an element and with one of another
pub begins_once : (id path behind : List ℕ) (elements : NamedElements) → slashes_in id ≡ 0 → HaveElementNames elements
    → (In id (ids_in elements) → ⊥)
    → path ≡ path_text (id ∷ []) behind → BeginsIn (ids_in elements) path → ⊥
begins_once id path behind elements whole names apart is begins =
    let split = one_split id begins.id behind begins.rest whole (whole_id elements names begins.id begins.listed) (sym is ∙ begins.is) in
    apart (subst (λ (name : List ℕ). In name (ids_in elements)) (sym split.0) begins.listed)
