-- One more addend.
use Rattle.flatten.proofs.Common.{◌≡◌, ◌≢◌, ℕ, ◌+◌, ◌<◌, ◌≤◌, ℤ, pos, ◌+ℤ◌, Bool, false, cond, eqb, List, [], ◌∷◌, ◌++◌, length, map, take, get_or}
use Rattle.flatten.proofs.Common.{sym, ◌∙◌, ap, subst, arith, eq-eqb, append_assoc, length-append, inl, inr, to_z, of_z, negsuc, All, Some}
use Rattle.flatten.proofs.Common.{slice_get, slice_index, set, length-set, cases_eq, cases_Bool, eqb-true, ints, to_z-of_z, w128, FitsSigned}
use Rattle.flatten.proofs.Common.{All-take, map_more, length-map, length-take-le, slice_get_within, slice_get-get_or, same_Some, In, sum_on}
use Rattle.flatten.proofs.Common.{In-append_cases, In-map_source, sum_on-push, All-In, MOST_NODES, MOST_MERGES, IsMeasure, NodeSum, FitAmounts}
use Rattle.flatten.proofs.Common.{AddsAmounts, Quantity, Addend, amount, counts_for, IsLawfulAmount, AreLawfulAmounts, HaveSums, AddAll}
use Rattle.flatten.proofs.PlaceLaws.{place_set, place_set_other}
use Rattle.flatten.specs.steps.Spots.{IsLabel}
use Rattle.flatten.specs.steps.Sums.{AreSumsOf, HaveRoomFor}
use Rattle.flatten.proofs.AmountLaws.{small_amount, added_amount, fit_amounts}
use Rattle.flatten.proofs.BoundLaws.{sum_within, fits_more}

plus_none : (z : ℤ) → z ≡ z +ℤ pos 0
plus_none z = omega (arith, ints)

-- one addend more counts for its node
counted_here : (quantity : Quantity) (addends : List Addend) (addend : Addend) (node : ℕ) → addend.node ≡ node
    → sum_on (counts_for quantity node) (addends ++ addend ∷ []) ≡ sum_on (counts_for quantity node) addends +ℤ amount quantity addend.cap addend.measures
counted_here quantity addends addend node same =
    sum_on-push (counts_for quantity node) addends addend
    ∙ ap (λ (t : Bool). sum_on (counts_for quantity node) addends +ℤ cond t (amount quantity addend.cap addend.measures) (pos 0))
    (eq-eqb addend.node node same)

-- and for no other
counted_elsewhere : (quantity : Quantity) (addends : List Addend) (addend : Addend) (node : ℕ) → addend.node ≢ node
    → sum_on (counts_for quantity node) (addends ++ addend ∷ []) ≡ sum_on (counts_for quantity node) addends
counted_elsewhere quantity addends addend node apart =
    sum_on-push (counts_for quantity node) addends addend
    ∙ ap (λ (t : Bool). sum_on (counts_for quantity node) addends +ℤ cond t (amount quantity addend.cap addend.measures) (pos 0)) differ
    ∙ sym (plus_none (sum_on (counts_for quantity node) addends))
  where
    differ : eqb addend.node node ≡ false
    differ = elim (cases_Bool (eqb addend.node node)) [ inl same ↦ absurd (apart (eqb-true addend.node node same)) | inr other ↦ other ]

-- the sums with one addend more
sums_more : (count classes : ℕ) (addends : List Addend) (sums : List NodeSum) → HaveSums count classes addends sums → (addend : Addend) (sum new : NodeSum)
    → slice_get sums addend.node ≡ Some sum → AddsAmounts sum addend.cap addend.measures new
    → HaveSums count classes (addends ++ addend ∷ []) (set sums addend.node new)
sums_more count classes addends sums have addend sum new at adds =
    let old = have.each addend.node sum at in
    let within = slice_get_within sums addend.node sum at in
    record {
      long = length-set sums addend.node new ∙ have.long;
      each = λ node one there. elim (cases_eq addend.node node) [
        | inl same ↦
            (let is : new ≡ one = same_Some new one (sym (place_set sums addend.node new within) ∙ ap (slice_get (set sums addend.node new)) same ∙ there) in
            let P : NodeSum → Type 0 = AreSumsOf classes (addends ++ addend ∷ []) node in
            let Q : ℕ → Type 0 = λ k. AreSumsOf classes addends k sum in
            let here = subst Q same old in
            subst P is
            (record {
              measured = adds.new_measures.long ∙ here.measured;
              each = λ quantity counted.
                  added_amount classes sum addend.cap addend.measures new here.measured adds quantity counted
                  ∙ ap (λ (z : ℤ). z +ℤ amount quantity addend.cap addend.measures) (here.each quantity counted)
                  ∙ sym (counted_here quantity addends addend node same);
            }))
        | inr apart ↦
            (let was = have.each node one (sym (place_set_other sums addend.node new node (λ e. apart (sym e))) ∙ there) in
            record {
              measured = was.measured;
              each = λ quantity counted. was.each quantity counted ∙ sym (counted_elsewhere quantity addends addend node apart);
            })
      ];
    }

-- one step of a loop that adds what each thing of a list has
add_more : {X : Type 0} (f : X → Addend) (xs : List X) (i : ℕ) (d : X) (old mid : List NodeSum) (sum new : NodeSum) → AddAll (map f (take i xs)) old mid
    → i < length xs → slice_get mid (f (get_or xs i d)).node ≡ Some sum
    → AddsAmounts sum (f (get_or xs i d)).cap (f (get_or xs i d)).measures new
    → AddAll (map f (take (i + 1) xs)) old (set mid (f (get_or xs i d)).node new)
add_more f xs i d old mid sum new so_far inside at adds count classes addends have =
    let addend = f (get_or xs i d) in
    let P : List Addend → Type 0 = λ l. HaveSums count classes l (set mid addend.node new) in
    subst P (append_assoc addends (map f (take i xs)) (addend ∷ []) ∙ ap (λ (l : List Addend). addends ++ l) (sym (map_more f xs i d inside)))
    (sums_more count classes (addends ++ map f (take i xs)) mid (so_far count classes addends have) addend sum new at adds)

-- What fits at a step of such a loop.
pub record Fits (number : ℕ) (sum : NodeSum) (addend : Addend) : Type 0 where
  pub long : length addend.measures ≡ length sum.measures.items
  pub fit : FitAmounts sum addend.cap addend.measures

-- there is room for what the next thing has
next_fits : {X : Type 0} (f : X → Addend) (xs : List X) (i : ℕ) (d : X) (classes : ℕ) (old mid : List NodeSum) → HaveRoomFor (length xs) classes old
    → AreLawfulAmounts classes (λ x. (f x).cap) (λ x. (f x).measures) xs → AddAll (map f (take i xs)) old mid → i < length xs
    → (number : ℕ) (sum : NodeSum) → slice_get mid number ≡ Some sum → Fits number sum (f (get_or xs i d))
next_fits {X} f xs i d classes old mid room lawful so_far inside number sum at =
    let done = map f (take i xs) in
    let have = so_far (length old) classes room.addends room.have in
    let here = have.each number sum at in
    let addend = f (get_or xs i d) in
    let small : IsLawfulAmount classes addend.cap addend.measures = lawful i d inside in
    let count : length (room.addends ++ done) + 1 ≤ MOST_NODES + MOST_MERGES =
    (let few = room.few in let long = length-append room.addends done in let many = length-map (take i xs) f in
    let taken = length-take-le i xs (omega (arith, inside)) in omega (arith, few, long, many, taken, inside)) in
    record {
      long = small.all_small.count ∙ sym here.measured;
      fit = fit_amounts classes sum addend.cap addend.measures here.measured
          (λ quantity counted.
          (let s = sum_on (counts_for quantity number) (room.addends ++ done) in
          let within = sum_within classes quantity counted number (room.addends ++ done) all_lawful in
          let P : ℤ → Type 0 = λ z. FitsSigned w128 (z +ℤ amount quantity addend.cap addend.measures) in
          subst P (sym (here.each quantity counted))
          (fits_more (length (room.addends ++ done)) s (amount quantity addend.cap addend.measures) within
          (small_amount classes addend.cap addend.measures small quantity counted) count)));
    }
  where
    all_lawful : (addend : Addend) → In addend (room.addends ++ map f (take i xs)) → IsLawfulAmount classes addend.cap addend.measures
    all_lawful addend h = elim (In-append_cases addend room.addends (map f (take i xs)) h) [
      | inl old ↦ All-In (λ (one : Addend). IsLawfulAmount classes one.cap one.measures) room.addends addend room.lawful old
      | inr new ↦
          (let r = In-map_source f addend (take i xs) new in
          let P : Addend → Type 0 = λ one. IsLawfulAmount classes one.cap one.measures in
          let Q : X → Type 0 = λ x. IsLawfulAmount classes (f x).cap (f x).measures in
          subst P r.1.1 (All-In Q (take i xs) r.0 (All-take Q i xs lawful) r.1.0))
    ]

-- a label is below what all labels are below
pub label_within : (labels : List ℕ) (count node : ℕ) → All (λ label. label < count) labels → IsLabel labels node → node < count
label_within labels count node below label = let low : slice_index labels label.0 < count = below label.0 0 label.1.0 in omega (arith, low, label.1.1)

-- a lawful amount is read as it is
read_amount : (z : ℤ) → IsMeasure z → to_z w128 (of_z w128 z) ≡ z
read_amount (pos n) small = to_z-of_z w128 (pos n) (omega (arith, ints, small))
read_amount (negsuc n) small = to_z-of_z w128 (negsuc n) (omega (arith, ints, small))

-- one step, as it is read: a thing of the list, the number of its node, and that node's sums so far
module _ {X : Type 0} (f : X → Addend) (xs : List X) (i : ℕ) {x : X} (is : x ≡ get_or xs i x) (inside : i < length xs) (labels : List ℕ)
    (old : List NodeSum) (below : All (λ label. label < length old) labels) {sums : List NodeSum} (long : length sums ≡ length old) {number : ℕ}
    (label : IsLabel labels number) (d : NodeSum)
    (room : (classes : ℕ) × (HaveRoomFor (length xs) classes old × AreLawfulAmounts classes (λ y. (f y).cap) (λ y. (f y).measures) xs))
    (so_far : AddAll (map f (take i xs)) old sums) {measures : List (ℤ × ℤ)} (measured : measures ≡ (f x).measures) where
  found : slice_get sums number ≡ Some (get_or sums number d)
  found =
      slice_get-get_or sums number d (let low = label_within labels (length old) number below label in omega (arith, low, long))

  cap_is : to_z w128 (of_z w128 (f x).cap) ≡ (f (get_or xs i x)).cap
  cap_is =
      let P : X → Type 0 = λ y. IsMeasure (f y).cap in
      read_amount (f x).cap (subst P (sym is) (room.1.1 i x inside).small) ∙ ap (λ y. (f y).cap) is

  -- it fits
  pub step_fits : Fits number (get_or sums number d) (record { node = number; cap = to_z w128 (of_z w128 (f x).cap); measures = measures })
  step_fits =
      let sum = get_or sums number d in
      let fits = next_fits f xs i x room.0 old sums room.1.0 room.1.1 so_far inside number sum found in
      let all = measured ∙ ap (λ y. (f y).measures) is in
      let P : List (ℤ × ℤ) → Type 0 = λ l. FitAmounts sum (f (get_or xs i x)).cap l in
      let Q : ℤ → Type 0 = λ z. FitAmounts sum z measures in
      record { long = ap length all ∙ fits.long; fit = subst Q (sym cap_is) (subst P (sym all) fits.fit) }

  -- and is added
  pub step_adds : number ≡ (f x).node → (new : NodeSum) → AddsAmounts (get_or sums number d) (to_z w128 (of_z w128 (f x).cap)) measures new
      → AddAll (map f (take (i + 1) xs)) old (set sums number new)
  step_adds same new adds =
      let sum = get_or sums number d in
      let number_is : number ≡ (f (get_or xs i x)).node = same ∙ ap (λ y. (f y).node) is in
      let P : List (ℤ × ℤ) → Type 0 = λ l. AddsAmounts sum (f (get_or xs i x)).cap l new in
      let Q : ℤ → Type 0 = λ z. AddsAmounts sum z measures new in
      let R : ℕ → Type 0 = λ k. AddAll (map f (take (i + 1) xs)) old (set sums k new) in
      subst R (sym number_is)
      (add_more f xs i x old sums sum new so_far inside (ap (slice_get sums) (sym number_is) ∙ found)
      (subst P (measured ∙ ap (λ y. (f y).measures) is) (subst Q cap_is adds)))
