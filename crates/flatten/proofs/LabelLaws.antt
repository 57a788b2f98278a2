-- Labels of names in order.
use Rattle.flatten.proofs.Common.{◌≡◌, ◌≢◌, ℕ, zero, suc, Bool, true, false, cond, List, [], ◌∷◌, length, inl, inr, sym, ◌∙◌, ap, subst, arith, Some}
use Rattle.flatten.proofs.Common.{slice_get, slice_index, bytes_eq, Less, cases_Bool, bytes_eq-Decides, same_Some, In, In-slice_get, name_cmp}
use Rattle.flatten.proofs.Common.{name_cmp_total, Element, AreInNameOrder, IsFullNameList, label_of}
use Rattle.std.proofs.lemmas.Cmp.{tied_itself}
use Rattle.name_classes.proofs.FullNames.ListOrders.{same_in_order, pairwise_names}

-- a name is itself
pub bytes_eq-same : (name other : List ℕ) → name ≡ other → bytes_eq name other ≡ true
bytes_eq-same name other e = (bytes_eq-Decides name other).1 e

pub bytes_eq-true : (name other : List ℕ) → bytes_eq name other ≡ true → name ≡ other
bytes_eq-true name other e = (bytes_eq-Decides name other).0 e

-- and another is not
pub bytes_eq-other : (name other : List ℕ) → name ≢ other → bytes_eq name other ≡ false
bytes_eq-other name other apart = elim (cases_Bool (bytes_eq name other)) [ inl same ↦ absurd (apart (bytes_eq-true name other same)) | inr differ ↦ differ ]

-- a name stands before no other that is the same
pub before_other : (name other : List ℕ) → name_cmp name other ≡ Less → name ≢ other
before_other name other before same =
    let P : List ℕ → Type 0 = λ z. name_cmp name z ≡ Less in
    let itself : name_cmp name name ≡ Less = subst P (sym same) before in
    let tied = tied_itself name_cmp_total name in
    absurd (cc)

-- what stands first in name order stands before all that follows
pub before_rest : (name : List ℕ) (names : List (List ℕ)) → AreInNameOrder (name ∷ names) → (other : List ℕ) → In other names → name_cmp name other ≡ Less
before_rest name names order other here = (pairwise_names (name ∷ names) order).0 other here

-- names behind the first of some in order are in order
pub rest_in_order : (name : List ℕ) (names : List (List ℕ)) → AreInNameOrder (name ∷ names) → AreInNameOrder names
rest_in_order name [] h = tt
rest_in_order name (next ∷ names) h = h.1

-- the label of what stands at a place is what the labels have there
pub label_read : (list : List (List ℕ)) (labels : List ℕ) (number : ℕ) (name : List ℕ) → AreInNameOrder list → length labels ≡ length list
    → slice_get list number ≡ Some name → slice_index labels number ≡ label_of list labels name
label_read [] labels number name ordered long at = absurd (cc)
label_read (first ∷ list) [] number name ordered long at = absurd (omega (arith, long))
label_read (first ∷ list) (label ∷ labels) zero name ordered long at =
    ap (λ (t : Bool). cond t label (label_of list labels name)) (sym (bytes_eq-same first name (same_Some first name at)))
label_read (first ∷ list) (label ∷ labels) (suc number) name ordered long at =
    let later = before_rest first list ordered name (In-slice_get list number name at) in
    label_read list labels number name (rest_in_order first list ordered) (omega (arith, long)) at
    ∙ ap (λ (t : Bool). cond t label (label_of list labels name)) (sym (bytes_eq-other first name (before_other first name later)))

-- there is one list of all full names
pub one_list : (elements : List Element) (list other : List (List ℕ)) → IsFullNameList elements list → IsFullNameList elements other → list ≡ other
one_list elements list other is other_is =
    same_in_order list other is.in_order other_is.in_order (λ name h. (other_is.all name).1 ((is.all name).0 h))
    (λ name h. (is.all name).1 ((other_is.all name).0 h))
