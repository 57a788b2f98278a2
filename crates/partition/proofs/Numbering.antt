-- The labels of classes: how many classes have a lesser leader.
use Rattle.std.proofs.Common.{◌≡◌, ◌≢◌, ℕ, zero, suc, ◌+◌, ◌-◌, ◌<◌, ◌≤◌, cond, eqb, List, inl, inr, length, get_or, set, All}
use Rattle.std.proofs.Common.{sym, ◌∙◌, ap, subst, arith, add-zero, add-one, add-suc, get_or-set_same, get_or-set_other}
use Rattle.std.proofs.lemmas.Bool.{cases_eq, cases_lt}
use Rattle.std.proofs.lemmas.Bool.Decides.{nat_tests}
use Rattle.std.proofs.lemmas.List.{length-map, get_or-map, ext_get_or}
use Rattle.std.proofs.lemmas.List.Elements.{All-from_get_or}
use Rattle.finite_sets.specs.Least.{IsLeast}
use Rattle.partition.specs.Marks.{HasMark, SameClasses, IsNumbered}
use Rattle.partition.specs.Leaders.{classes_below, labels_of}
use Rattle.partition.specs.Parents.{PointDown, leaders_of}
use Rattle.partition.proofs.Ancestors.{Leads-leaders_of, Leads-le, Leads-root, Leads-itself}

-- what a number and its leader add to the count of classes
abbrev counted_at : ℕ → ℕ → ℕ
counted_at leader k = cond (eqb leader k) 1 0

one_if_same : (a b : ℕ) → a ≡ b → counted_at a b ≡ 1
one_if_same a b e = grind (arith, nat_tests)

none_if_other : (a b : ℕ) → (a ≡ b → ⊥) → counted_at a b ≡ 0
none_if_other a b ne = grind (arith, nat_tests)

at_most_one : (a b : ℕ) → counted_at a b ≤ 1
at_most_one a b = grind (arith, nat_tests)

-- a number that leads itself is one class more
pub classes_below-leader : (leaders : List ℕ) (k : ℕ) → get_or leaders k 0 ≡ k → classes_below leaders (k + 1) ≡ classes_below leaders k + 1
classes_below-leader leaders k e = ap (classes_below leaders) (add-one k) ∙ ap (λ z. classes_below leaders k + z) (one_if_same (get_or leaders k 0) k e)

-- any other number is none
pub classes_below-other : (leaders : List ℕ) (k : ℕ) → (get_or leaders k 0 ≡ k → ⊥) → classes_below leaders (k + 1) ≡ classes_below leaders k
classes_below-other leaders k ne =
    ap (classes_below leaders) (add-one k) ∙ ap (λ z. classes_below leaders k + z) (none_if_other (get_or leaders k 0) k ne) ∙ omega arith

-- there are no more classes than numbers
pub classes_below-le : (leaders : List ℕ) (k : ℕ) → classes_below leaders k ≤ k
classes_below-le leaders zero = omega arith
classes_below-le leaders (suc k) = omega (arith, classes_below-le leaders k, at_most_one (get_or leaders k 0) k)

-- the labels below an index are written, the parents from there on stand, and the classes so far are counted
pub record Numbered (parents labels : List ℕ) (i count : ℕ) : Type 0 where
  pub done : (k : ℕ) → k < i → get_or labels k 0 ≡ classes_below (leaders_of parents) (get_or (leaders_of parents) k 0)
  pub rest : (k : ℕ) → i ≤ k → k < length parents → get_or labels k 0 ≡ get_or parents k 0
  pub counted : count ≡ classes_below (leaders_of parents) i

one_written : (p labels : List ℕ) (i count label : ℕ) → Numbered p labels i count → i < length labels
    → label ≡ classes_below (leaders_of p) (get_or (leaders_of p) i 0) → (more : ℕ) → more ≡ classes_below (leaders_of p) (i + 1) → Numbered p
    (set labels i label) (i + 1) more
one_written p labels i count label n within is more counts =
    let at_i : get_or (set labels i label) i 0 ≡ label = get_or-set_same labels i label 0 within in
    record {
      done = λ k h. elim (cases_eq k i) [
        | inl e ↦ (let P : ℕ → Type 0 = λ z. get_or (set labels i label) z 0 ≡ classes_below (leaders_of p) (get_or (leaders_of p) z 0) in subst P
            (sym e) (at_i ∙ is))
        | inr other ↦ get_or-set_other labels i k label 0 other ∙ n.done k (omega arith)
      ];
      rest = λ k h w. (let other : k ≢ i = omega arith in get_or-set_other labels i k label 0 other ∙ n.rest k (omega arith) w);
      counted = counts;
    }

-- a root gets the next label
pub numbered_root : (p labels : List ℕ) (i count : ℕ) → PointDown p → Numbered p labels i count → i < length p → length labels ≡ length p
    → get_or labels i 0 ≡ i → Numbered p (set labels i count) (i + 1) (count + 1)
numbered_root p labels i count d n within long root =
    let L = Leads-leaders_of p d in
    let leads : get_or (leaders_of p) i 0 ≡ i = L.roots i within (sym (n.rest i (omega arith) within) ∙ root) in
    one_written p labels i count count n (omega arith)
    (n.counted ∙ ap (classes_below (leaders_of p)) (sym leads))
    (count + 1) (ap (λ z. z + 1) n.counted ∙ sym (classes_below-leader (leaders_of p) i leads))

-- another number gets the label of its parent
pub numbered_child : (p labels : List ℕ) (i count : ℕ) → PointDown p → Numbered p labels i count → i < length p → length labels ≡ length p
    → (get_or labels i 0 ≡ i → ⊥) → Numbered p (set labels i (get_or labels (get_or labels i 0) 0)) (i + 1) count
numbered_child p labels i count d n within long child =
    let L = Leads-leaders_of p d in
    let parent : get_or labels i 0 ≡ get_or p i 0 = n.rest i (omega arith) within in
    let down = d i within in
    one_written p labels i count (get_or labels (get_or labels i 0) 0) n (omega arith)
    (n.done (get_or labels i 0) (omega arith)
    ∙ ap (λ z. classes_below (leaders_of p) (get_or (leaders_of p) z 0)) parent
    ∙ ap (classes_below (leaders_of p)) (sym (L.follows i within)))
    count
    (n.counted ∙ sym (classes_below-other (leaders_of p) i (λ e. child (parent ∙ Leads-root p (leaders_of p) d L i within e))))

-- when all places are written, the labels are those of the leaders
pub numbered_all : (p labels : List ℕ) (count : ℕ) → PointDown p → Numbered p labels (length p) count → length labels ≡ length p
    → labels ≡ labels_of (leaders_of p)
numbered_all p labels count d n long =
    let leaders = leaders_of p in
    let L = Leads-leaders_of p d in
    ext_get_or 0 labels (labels_of leaders) (long ∙ sym L.long ∙ sym (length-map leaders (classes_below leaders)))
    (λ k h. n.done k (omega arith) ∙ sym (get_or-map (classes_below leaders) leaders k 0 0 (omega (arith, L.long))))

-- the leaders of a partition: none is greater than its number, and each leads itself
pub record Lead (leaders : List ℕ) : Type 0 where
  pub le : (k : ℕ) → k < length leaders → get_or leaders k 0 ≤ k
  pub itself : (k : ℕ) → k < length leaders → get_or leaders (get_or leaders k 0) 0 ≡ get_or leaders k 0

-- the roots above numbers are such leaders
pub Lead-leaders_of : (p : List ℕ) → PointDown p → Lead (leaders_of p)
Lead-leaders_of p d =
    let L = Leads-leaders_of p d in
    record {
      le = λ k h. Leads-le p (leaders_of p) d L k (omega (arith, L.long));
      itself = λ k h. Leads-itself p (leaders_of p) d L k (omega (arith, L.long));
    }

rises_from : (leaders : List ℕ) (a more : ℕ) → classes_below leaders a ≤ classes_below leaders (a + more)
rises_from leaders a zero = omega (arith, ap (classes_below leaders) (add-zero a))
rises_from leaders a (suc more) = omega (arith, ap (classes_below leaders) (add-suc a more), rises_from leaders a more)

rises : (leaders : List ℕ) (a b : ℕ) → a ≤ b → classes_below leaders a ≤ classes_below leaders b
rises leaders a b h = let e : a + (b - a) ≡ b = omega arith in omega (arith, rises_from leaders a (b - a), ap (classes_below leaders) e)

-- past a leader there is one class more
rises_at_leader : (leaders : List ℕ) (a b : ℕ) → get_or leaders a 0 ≡ a → a < b → classes_below leaders a < classes_below leaders b
rises_at_leader leaders a b e h = omega (arith, classes_below-leader leaders a e, rises leaders (a + 1) b (omega arith))

same_leader : (leaders : List ℕ) (a b : ℕ) → get_or leaders a 0 ≡ a → get_or leaders b 0 ≡ b → classes_below leaders a ≡ classes_below leaders b → a ≡ b
same_leader leaders a b u v e = elim (cases_lt a b) [
  | inl less ↦ absurd (omega (arith, rises_at_leader leaders a b u less))
  | inr more ↦ elim (cases_eq a b) [
    | inl same ↦ same
    | inr other ↦ absurd (omega (arith, rises_at_leader leaders b a v (omega arith)))
  ]
]

-- the label at a place counts the classes before
pub labels_at : (leaders : List ℕ) (k : ℕ) → k < length leaders → get_or (labels_of leaders) k 0 ≡ classes_below leaders (get_or leaders k 0)
labels_at leaders k h = get_or-map (classes_below leaders) leaders k 0 0 h

-- there is a label for each number
pub labels_long : (leaders : List ℕ) → length (labels_of leaders) ≡ length leaders
labels_long leaders = length-map leaders (classes_below leaders)

-- two numbers have one label exactly where they have one leader
pub SameClasses-labels : (leaders : List ℕ) → Lead leaders → SameClasses leaders (labels_of leaders)
SameClasses-labels leaders lead = λ a b a_in b_in. (
  (λ e. labels_at leaders a a_in ∙ ap (classes_below leaders) e ∙ sym (labels_at leaders b b_in)),
  (λ e. same_leader leaders (get_or leaders a 0) (get_or leaders b 0) (lead.itself a a_in) (lead.itself b b_in)
      (sym (labels_at leaders a a_in) ∙ e ∙ labels_at leaders b b_in)),
)

-- each label is below the number of classes
labels_below : (leaders : List ℕ) → Lead leaders → All (λ label. label < classes_below leaders (length leaders)) (labels_of leaders)
labels_below leaders lead =
    All-from_get_or (λ label. label < classes_below leaders (length leaders)) (labels_of leaders) 0 (λ k h.
    let k_in : k < length leaders = omega (arith, labels_long leaders) in
    let below = rises_at_leader leaders (get_or leaders k 0) (length leaders) (lead.itself k k_in) (omega (arith, lead.le k k_in)) in
    omega (arith, labels_at leaders k k_in))

-- the leader that has so many before it
found_below : (leaders : List ℕ) (n label : ℕ) → label < classes_below leaders n
    → (k : ℕ) × ((k < n) × ((get_or leaders k 0 ≡ k) × (classes_below leaders k ≡ label)))
found_below leaders zero label h = absurd (omega arith)
found_below leaders (suc n) label h = elim (cases_lt label (classes_below leaders n)) [
  | inl less ↦ (let r = found_below leaders n label less in (r.0, (omega (arith, r.1.0), r.1.1)))
  | inr more ↦ elim (cases_eq (get_or leaders n 0) n) [
    | inl e ↦ (n, (omega arith, (e, omega (arith, one_if_same (get_or leaders n 0) n e))))
    | inr other ↦ absurd (omega (arith, none_if_other (get_or leaders n 0) n other))
  ]
]

-- each label is that of a leader, which is the least number that has it
labels_used : (leaders : List ℕ) → Lead leaders → (label : ℕ) → label < classes_below leaders (length leaders)
    → (least : ℕ) × IsLeast ◌≤◌ (HasMark (labels_of leaders) label) least
labels_used leaders lead = λ label h.
    let r = found_below leaders (length leaders) label h in
    let k = r.0 in (
      k,
      (
        (omega (arith, labels_long leaders, r.1.0), labels_at leaders k r.1.0 ∙ ap (classes_below leaders) r.1.1.0 ∙ r.1.1.1),
        (λ b has.
            let b_in : b < length leaders = omega (arith, labels_long leaders, has.0) in
            let same = same_leader leaders (get_or leaders b 0) k (lead.itself b b_in) r.1.1.0 (sym (labels_at leaders b b_in) ∙ has.1 ∙ sym r.1.1.1) in
            omega (arith, lead.le b b_in)),
      ),
    )

-- the least number of a class is its leader
least_leads : (leaders : List ℕ) → Lead leaders → (label k : ℕ) → IsLeast ◌≤◌ (HasMark (labels_of leaders) label) k
    → (k < length leaders) × ((get_or leaders k 0 ≡ k) × (classes_below leaders k ≡ label))
least_leads leaders lead label k l =
    let k_in : k < length leaders = omega (arith, labels_long leaders, l.0.0) in
    let u = get_or leaders k 0 in
    let low = lead.le k k_in in
    let u_in : u < length leaders = omega arith in
    let u_has : HasMark (labels_of leaders) label u =
    (omega (arith, labels_long leaders), labels_at leaders u u_in ∙ ap (classes_below leaders) (lead.itself k k_in) ∙ sym (labels_at leaders k k_in) ∙ l.0.1) in
    let least = l.1 u u_has in
    let leads : u ≡ k = omega arith in
    (k_in, (leads, ap (classes_below leaders) (sym leads) ∙ sym (labels_at leaders k k_in) ∙ l.0.1))

-- labels come in the order of their least numbers
labels_in_order : (leaders : List ℕ) → Lead leaders → (label greater least other : ℕ) → label < greater
    → IsLeast ◌≤◌ (HasMark (labels_of leaders) label) least → IsLeast ◌≤◌ (HasMark (labels_of leaders) greater) other → least < other
labels_in_order leaders lead = λ label greater i j less l m.
    let a = least_leads leaders lead label i l in
    let b = least_leads leaders lead greater j m in
    elim (cases_lt i j) [ inl before ↦ before | inr after ↦ absurd (omega (arith, rises leaders j i after, a.1.1, b.1.1)) ]

-- so the labels are numbered in the order of least members
pub IsNumbered-labels : (leaders : List ℕ) → Lead leaders → IsNumbered (labels_of leaders) (classes_below leaders (length leaders))
IsNumbered-labels leaders lead = record {
  below = labels_below leaders lead;
  used = labels_used leaders lead;
  in_order = labels_in_order leaders lead;
}

-- a leader is the least number that has it as its mark
pub Lead-least : (leaders : List ℕ) → Lead leaders → (k : ℕ) → k < length leaders → IsLeast ◌≤◌ (HasMark leaders (get_or leaders k 0)) (get_or leaders k 0)
Lead-least leaders lead k h = (
  (omega (arith, lead.le k h), lead.itself k h),
  (λ b has. omega (arith, lead.le b has.0, has.1)),
)
