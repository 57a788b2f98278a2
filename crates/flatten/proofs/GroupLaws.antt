-- The groups that labels make of names in order.
use Rattle.flatten.proofs.Common.{◌≡◌, ℕ, zero, suc, ◌<◌, Bool, true, false, cond, eqb, List, [], ◌∷◌, length, get_or, inl, inr, refl, sym, ◌∙◌, ap}
use Rattle.flatten.proofs.Common.{subst, arith, eq-eqb, Some, slice_get, slice_index, bytes_eq, Less, cases_Bool, eqb-true, slice_get-get_or}
use Rattle.flatten.proofs.Common.{get_or_from_slice_get, In, In-slice_get, name_cmp, Element, AreInNameOrder, AreLabels, label_of, group_of}
use Rattle.partition.specs.Marks.{HasMark}
use Rattle.circuit_model.specs.FullNames.{AreOneNode}
use Rattle.flatten.proofs.LabelLaws.{bytes_eq-true, bytes_eq-same, bytes_eq-other, before_other, before_rest, rest_in_order, label_read}
use Rattle.flatten.proofs.PlaceLaws.{place_of}

-- a name stands in the group of its label
pub in_group : (list : List (List ℕ)) (labels : List ℕ) (k : ℕ) (name : List ℕ) → length labels ≡ length list → In name list
    → label_of list labels name ≡ k → In name (group_of list labels k)
in_group [] labels k name long here is = absurd here
in_group (first ∷ list) [] k name long here is = absurd (omega (arith, long))
in_group (first ∷ list) (label ∷ labels) k name long here is = elim (cases_Bool (bytes_eq first name)) [
  | inl same ↦
      (let labelled : label ≡ k = ap (λ (t : Bool). cond t label (label_of list labels name)) (sym same) ∙ is in
      let P : Bool → Type 0 = λ t. In name (cond t (first ∷ group_of list labels k) (group_of list labels k)) in
      subst P (sym (eq-eqb label k labelled)) (inl (bytes_eq-true first name same)))
  | inr differ ↦
      (let labelled : label_of list labels name ≡ k = ap (λ (t : Bool). cond t label (label_of list labels name)) (sym differ) ∙ is in
      let later : In name list = (elim here [ inl e ↦ absurd (cc (bytes_eq-same first name e)) | inr h ↦ h ]) in
      keep (eqb label k) (in_group list labels k name (omega (arith, long)) later labelled))
]
  where
    keep : (t : Bool) → In name (group_of list labels k) → In name (cond t (first ∷ group_of list labels k) (group_of list labels k))
    keep true h = inr h
    keep false h = h

-- and what stands in a group is a name that has its label
pub from_group : (list : List (List ℕ)) (labels : List ℕ) (k : ℕ) (name : List ℕ) → AreInNameOrder list → In name (group_of list labels k)
    → In name list × (label_of list labels name ≡ k)
from_group [] labels k name ordered here = absurd here
from_group (first ∷ list) [] k name ordered here = absurd here
from_group (first ∷ list) (label ∷ labels) k name ordered here =
    step (eqb label k) (λ e. eqb-true label k e) (λ h. later (from_group list labels k name (rest_in_order first list ordered) h)) here
  where
    later : In name list × (label_of list labels name ≡ k) → In name (first ∷ list) × (label_of (first ∷ list) (label ∷ labels) name ≡ k)
    later h = (
      inr h.0,
      ap (λ (t : Bool). cond t label (label_of list labels name))
          (bytes_eq-other first name (before_other first name (before_rest first list ordered name h.0))) ∙ h.1,
    )

    step : (t : Bool) → (t ≡ true → label ≡ k) → (In name (group_of list labels k)
        → In name (first ∷ list) × (label_of (first ∷ list) (label ∷ labels) name ≡ k))
        → In name (cond t (first ∷ group_of list labels k) (group_of list labels k))
        → In name (first ∷ list) × (label_of (first ∷ list) (label ∷ labels) name ≡ k)
    step true labelled rest (inl e) = (inl e, ap (λ (t : Bool). cond t label (label_of list labels name)) (bytes_eq-same first name e) ∙ labelled refl)
    step true labelled rest (inr h) = rest h
    step false labelled rest h = rest h

-- what stands before all of a list in order
pub more_in_order : (name : List ℕ) (names : List (List ℕ)) → ((other : List ℕ) → In other names → name_cmp name other ≡ Less) → AreInNameOrder names
    → AreInNameOrder (name ∷ names)
more_in_order name [] before ordered = tt
more_in_order name (next ∷ names) before ordered = (before next (inl refl), ordered)

pub group_in_order : (list : List (List ℕ)) (labels : List ℕ) (k : ℕ) → AreInNameOrder list → AreInNameOrder (group_of list labels k)
group_in_order [] labels k ordered = tt
group_in_order (first ∷ list) [] k ordered = tt
group_in_order (first ∷ list) (label ∷ labels) k ordered = step (eqb label k) (group_in_order list labels k (rest_in_order first list ordered))
  where
    step : (t : Bool) → AreInNameOrder (group_of list labels k) → AreInNameOrder (cond t (first ∷ group_of list labels k) (group_of list labels k))
    step true more =
        more_in_order first (group_of list labels k)
        (λ other h. before_rest first list ordered other (from_group list labels k other (rest_in_order first list ordered) h).0) more
    step false more = more

-- a later place has a later name
pub later_name : (list : List (List ℕ)) → AreInNameOrder list → (a b : ℕ) (x y : List ℕ) → a < b → slice_get list a ≡ Some x → slice_get list b ≡ Some y
    → name_cmp x y ≡ Less
later_name [] ordered a b x y less p q = absurd (cc)
later_name (first ∷ list) ordered a zero x y less p q = absurd (omega (arith, less))
later_name (first ∷ list) ordered zero (suc b) x y less p q =
    let P : List ℕ → Type 0 = λ z. name_cmp z y ≡ Less in
    subst P (first_is x p) (before_rest first list ordered y (In-slice_get list b y q))
  where
    first_is : (z : List ℕ) → Some first ≡ Some z → first ≡ z
    first_is z e = cc
later_name (first ∷ list) ordered (suc a) (suc b) x y less p q = later_name list (rest_in_order first list ordered) a b x y (omega (arith, less)) p q

module _ (elements : List Element) (list : List (List ℕ)) (labels : List ℕ) (count : ℕ) (ordered : AreInNameOrder list)
    (are : AreLabels elements list labels count) where
  -- each name's label is that of a node
  pub label_below : (name : List ℕ) → In name list → label_of list labels name < count
  label_below name here =
      let r = place_of name list here in
      let long = are.long in
      let read = label_read list labels r.0 name ordered are.long r.1.1 in
      let below : slice_index labels r.0 < count = are.numbered.below r.0 0 (omega (arith, r.1.0, long)) in
      omega (arith, read, below)

  -- each label is that of a name
  pub some_name : (k : ℕ) → k < count → (name : List ℕ) × In name (group_of list labels k)
  some_name k inside =
      let least = are.numbered.used k inside in
      let long = are.long in
      let marked = least.1.0 in
      let within : least.0 < length list = omega (arith, long, marked.0) in
      let name = get_or list least.0 [] in
      let at : slice_get list least.0 ≡ Some name = slice_get-get_or list least.0 [] within in (
        name,
        in_group list labels k name are.long (In-slice_get list least.0 name at)
            (sym (label_read list labels least.0 name ordered are.long at) ∙ marked.1),
      )

  -- a name of a lesser label stands before all of a greater one
  pub before_group : (k other : ℕ) → k < other → other < count → (later : List ℕ) → In later (group_of list labels other)
      → (name : List ℕ) × (In name (group_of list labels k) × (name_cmp name later ≡ Less))
  before_group k other less inside later here =
      let a = are.numbered.used k (omega (arith, less, inside)) in
      let b = are.numbered.used other inside in
      let earlier = are.numbered.in_order k other a.0 b.0 less a.1 b.1 in
      let long = are.long in
      let marked = a.1.0 in
      let within : a.0 < length list = omega (arith, long, marked.0) in
      let name = get_or list a.0 [] in
      let at : slice_get list a.0 ≡ Some name = slice_get-get_or list a.0 [] within in
      let from = from_group list labels other later ordered here in
      let r = place_of later list from.0 in
      let mark : HasMark labels other r.0 = (omega (arith, r.1.0, long), label_read list labels r.0 later ordered are.long r.1.1 ∙ from.1) in
      let least = b.1.1 r.0 mark in (
        name,
        (
          in_group list labels k name are.long (In-slice_get list a.0 name at) (sym (label_read list labels a.0 name ordered are.long at) ∙ marked.1),
          later_name list ordered a.0 r.0 name later (omega (arith, earlier, least)) at r.1.1,
        ),
      )

  -- names of one label are of one node
  pub one_node : (a b : List ℕ) → In a list → In b list → label_of list labels a ≡ label_of list labels b → AreOneNode elements a b
  one_node a b p q same =
      let x = place_of a list p in
      let y = place_of b list q in
      let chain = (are.divides x.0 y.0 x.1.0 y.1.0).0
      (label_read list labels x.0 a ordered are.long x.1.1 ∙ same ∙ sym (label_read list labels y.0 b ordered are.long y.1.1)) in
      let P : List ℕ → Type 0 = λ z. AreOneNode elements z b in
      let Q : List ℕ → Type 0 = λ z. AreOneNode elements (get_or list x.0 []) z in
      subst P (get_or_from_slice_get list x.0 a [] x.1.1) (subst Q (get_or_from_slice_get list y.0 b [] y.1.1) chain)

  -- and names of one node have one label
  pub one_label : (a b : List ℕ) → In a list → In b list → AreOneNode elements a b → label_of list labels a ≡ label_of list labels b
  one_label a b p q chain =
      let x = place_of a list p in
      let y = place_of b list q in
      let P : List ℕ → Type 0 = λ z. AreOneNode elements z (get_or list y.0 []) in
      let Q : List ℕ → Type 0 = λ z. AreOneNode elements a z in
      let there = subst P (sym (get_or_from_slice_get list x.0 a [] x.1.1)) (subst Q (sym (get_or_from_slice_get list y.0 b [] y.1.1)) chain) in
      sym (label_read list labels x.0 a ordered are.long x.1.1) ∙ (are.divides x.0 y.0 x.1.0 y.1.0).1 there
      ∙ label_read list labels y.0 b ordered are.long y.1.1
