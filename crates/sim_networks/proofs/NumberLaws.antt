-- The numbers of names, and names with their nodes.
use Rattle.sim_networks.proofs.Common.{◌≡◌, ℕ, zero, suc, ◌+◌, ◌<◌, Some, List, [], ◌∷◌, ◌++◌, ◌≤◌, length, get_or, take, inl, inr, refl, sym, ap}
use Rattle.sim_networks.proofs.Common.{◌∙◌, subst, arith, zip, bytes_eq, cases_order, take_all, take_more, get_or_from_slice_get, bytes_eq-Decides}
use Rattle.sim_networks.proofs.Common.{In, Distinct, In-get_or, HasName, number_in, stands_nowhere}
use Rattle.std.proofs.Common.{Option, None}
use Rattle.std.specs.Prelude.{position, unwrap_or}
use Rattle.std.proofs.lemmas.List.Quantifiers.{position-Some}
use Rattle.std.proofs.lemmas.Option.{slice_get_read}
use Rattle.std.proofs.lemmas.Slice.Zip.{get_or-zip, length-zip}
use Rattle.finite_sets.proofs.Distincts.{Distinct-places}

-- The name stands at this number.
pub record IsNumber (names : List (List ℕ)) (name : List ℕ) (number : ℕ) : Type 0 where
  pub within : number < length names
  pub is : get_or names number [] ≡ name

-- a name that is found stands there
pub found_number : (names : List (List ℕ)) (name : List ℕ) (number : ℕ) → position (bytes_eq name) names ≡ Some number
    → IsNumber names name number
found_number names name number found =
    let place = position-Some (bytes_eq name) names number [] found in record {
      within = place.0;
      is = sym ((bytes_eq-Decides name (get_or names number [])).0 place.1);
    }

-- a name of the list stands at its number
pub number_is : (names : List (List ℕ)) (name : List ℕ) → In name names → IsNumber names name (number_in names name)
number_is names name here = step (position (bytes_eq name) names) refl
  where
    step : (found : Option ℕ) → position (bytes_eq name) names ≡ found → IsNumber names name (unwrap_or found 0)
    step None none = absurd (stands_nowhere names name none here)
    step (Some number) found = found_number names name number found

-- and nowhere else
pub one_number : (names : List (List ℕ)) (name : List ℕ) (m n : ℕ) → Distinct names → IsNumber names name m → IsNumber names name n → m ≡ n
one_number names name m n once p q = elim (cases_order m n) [
  | inl same ↦ same
  | inr (inl less) ↦ absurd (Distinct-places names m n [] once less q.within (p.is ∙ sym q.is))
  | inr (inr more) ↦ absurd (Distinct-places names n m [] once more p.within (q.is ∙ sym p.is))
]

pub number_in-is : (names : List (List ℕ)) (name : List ℕ) (n : ℕ) → Distinct names → IsNumber names name n → number_in names name ≡ n
number_in-is names name n once is =
    one_number names name (number_in names name) n once
    (number_is names name (subst (λ (one : List ℕ). In one names) is.is (In-get_or names n [] is.within))) is

-- The name stands at a number that has the label.
pub record IsLabelled (names : List (List ℕ)) (labels : List ℕ) (label : ℕ) (name : List ℕ) : Type 0 where
  pub number : ℕ
  pub is_number : IsNumber names name number
  pub label_is : get_or labels number 0 ≡ label

-- a name has the node at its number
pub has_label : (names : List (List ℕ)) (labels : List ℕ) (k : ℕ) → length labels ≡ length names → k < length names
    → HasName (zip names labels) (get_or labels k 0) (get_or names k [])
has_label [] labels k long within = absurd (omega arith)
has_label (name ∷ names) [] k long within = absurd (omega arith)
has_label (name ∷ names) (label ∷ labels) zero long within = inl refl
has_label (name ∷ names) (label ∷ labels) (suc k) long within = inr (has_label names labels k (omega arith) (omega arith))

pub labelled_has : (names : List (List ℕ)) (labels : List ℕ) (label : ℕ) (name : List ℕ) → length labels ≡ length names
    → IsLabelled names labels label name
    → HasName (zip names labels) label name
labelled_has names labels label name long is =
    let at = has_label names labels is.number long is.is_number.within in
    subst (λ (one : List ℕ). HasName (zip names labels) label one) is.is_number.is
    (subst (λ (v : ℕ). HasName (zip names labels) v (get_or names is.number [])) is.label_is at)

-- and back
pub has_labelled : (names : List (List ℕ)) (labels : List ℕ) (label : ℕ) (name : List ℕ) → HasName (zip names labels) label name
    → IsLabelled names labels label name
has_labelled [] labels label name has = absurd has
has_labelled (one ∷ names) [] label name has = absurd has
has_labelled (one ∷ names) (first ∷ labels) label name (inl same) = record {
  number = 0;
  is_number = record { within = omega arith; is = ap (λ (p : List ℕ × ℕ). p.0) same };
  label_is = ap (λ (p : List ℕ × ℕ). p.1) same;
}
has_labelled (one ∷ names) (first ∷ labels) label name (inr has) =
    let rest = has_labelled names labels label name has in record {
      number = suc rest.number;
      is_number = record { within = omega (arith, rest.is_number.within); is = rest.is_number.is };
      label_is = rest.label_is;
    }

-- the node that is read at the number of a name
pub label_read : (names : List (List ℕ)) (labels : List ℕ) (name : List ℕ) (number label : ℕ) → length labels ≡ length names
    → IsNumber names name number
    → label ≡ get_or labels number label → HasName (zip names labels) label name
label_read names labels name number label long is read =
    let inside : number < length labels = omega (arith, is.within) in
    let found = slice_get_read labels (length labels) number label refl inside read in
    labelled_has names labels label name long (record {
      number = number;
      is_number = is;
      label_is = get_or_from_slice_get labels number label 0 found;
    })

-- one more name with its node
pub named_more : (names : List (List ℕ)) (labels : List ℕ) (k : ℕ) (name : List ℕ) (before after : List (List ℕ × ℕ))
    → length labels ≡ length names
    → k < length labels → name ≡ get_or names k name → after ≡ before ++ (name, get_or labels k 0) ∷ [] → before ≡ take k (zip names labels)
    → after ≡ take (k + 1) (zip names labels)
named_more names labels k name before after long inside read pushed are =
    let within : k < length names = omega arith in
    let found = slice_get_read names (length names) k name refl within read in
    let none : List ℕ × ℕ = ([], 0) in
    let at : get_or (zip names labels) k none ≡ (get_or names k [], get_or labels k 0) = get_or-zip names labels k none within inside in
    let here : get_or names k [] ≡ name = get_or_from_slice_get names k name [] found in
    let in_zip : k < length (zip names labels) = omega (arith, length-zip names labels) in
    pushed
    ∙ (ap (λ (list : List (List ℕ × ℕ)). list ++ (name, get_or labels k 0) ∷ []) are
    ∙ (ap (λ (one : List ℕ). take k (zip names labels) ++ (one, get_or labels k 0) ∷ []) (sym here)
    ∙ (ap (λ (one : List ℕ × ℕ). take k (zip names labels) ++ one ∷ []) (sym at) ∙ sym (take_more (zip names labels) k none in_zip))))

-- all names with their nodes
pub named_all : (names : List (List ℕ)) (labels : List ℕ) (k : ℕ) → length labels ≤ k → take k (zip names labels) ≡ zip names labels
named_all names labels k past = take_all k (zip names labels) (omega (arith, length-zip names labels))
