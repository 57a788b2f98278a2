-- The classes and the numbering leave one list of labels.
use Rattle.std.proofs.Common.{◌≡◌, ℕ, zero, suc, ◌<◌, ◌≤◌, List, inl, inr, length, get_or, refl, sym, ◌∙◌, ap, arith}
use Rattle.std.proofs.lemmas.Bool.{cases_eq, cases_lt}
use Rattle.std.proofs.lemmas.List.{ext_get_or}
use Rattle.finite_sets.specs.Least.{IsLeast}
use Rattle.partition.specs.Marks.{HasMark, SameClasses, IsNumbered}
use Rattle.partition.specs.Divides.{Divides}

-- lists of marks that the same links divide make the same classes
pub SameClasses-divided : (marks others : List ℕ) (Link : ℕ → ℕ → Type 0) → length marks ≡ length others → Divides marks Link → Divides others Link
    → SameClasses marks others
SameClasses-divided marks others Link long d e = λ a b a_in b_in.
    let one = d a b a_in b_in in
    let other = e a b (omega arith) (omega arith) in
    ((λ h. other.1 (one.0 h)), (λ h. one.1 (other.0 h)))

-- below k the labels agree
abbrev AgreeBelow : List ℕ → List ℕ → ℕ → Type 0
AgreeBelow labels others k = (i : ℕ) → i < k → get_or labels i 0 ≡ get_or others i 0

-- where both lists have new labels, neither is less
none_is_less : (labels others : List ℕ) (count number : ℕ) → length labels ≡ length others → IsNumbered labels count → IsNumbered others number → (k : ℕ)
    → k < length labels → AgreeBelow labels others k
    → IsLeast ◌≤◌ (HasMark labels (get_or labels k 0)) k → IsLeast ◌≤◌ (HasMark others (get_or others k 0)) k → get_or labels k 0 < get_or others k 0 → ⊥
none_is_less labels others count number long n m k k_in agree new other_new less =
    let x = get_or labels k 0 in
    let y_below = m.below k 0 (omega arith) in
    let earlier = m.used x (omega arith) in
    let i = earlier.0 in
    let before = m.in_order x (get_or others k 0) i k less earlier.1 other_new in
    let has : HasMark labels x i = (omega arith, agree i before ∙ earlier.1.0.1) in
    omega (arith, new.1 i has)

-- a number that has the least place of its class in one list has it in the other
new_alike : (labels others : List ℕ) → length labels ≡ length others → SameClasses labels others → (k : ℕ) → k < length labels
    → IsLeast ◌≤◌ (HasMark labels (get_or labels k 0)) k → IsLeast ◌≤◌ (HasMark others (get_or others k 0)) k
new_alike labels others long same k k_in new =
    ((omega arith, refl), (λ b has. let b_in : b < length labels = omega (arith, has.0) in new.1 b (b_in, (same b k b_in k_in).1 has.1)))

one_more_agrees : (labels others : List ℕ) (count number : ℕ) → length labels ≡ length others → SameClasses labels others → IsNumbered labels count
    → IsNumbered others number
    → (k : ℕ) → k < length labels → AgreeBelow labels others k → get_or labels k 0 ≡ get_or others k 0
one_more_agrees labels others count number long same n m k k_in agree =
    let least = n.used (get_or labels k 0) (n.below k 0 k_in) in
    let j = least.0 in
    let at_most = least.1.1 k (k_in, refl) in
    elim (cases_eq j k) [
      | inl e ↦ (let new : IsLeast ◌≤◌ (HasMark labels (get_or labels k 0)) k = ((k_in, refl), (λ b has. omega (arith, least.1.1 b has))) in
          let other_new = new_alike labels others long same k k_in new in
          elim (cases_lt (get_or labels k 0) (get_or others k 0)) [
            | inl less ↦ absurd (none_is_less labels others count number long n m k k_in agree new other_new less)
            | inr more ↦ elim (cases_eq (get_or labels k 0) (get_or others k 0)) [
              | inl equal ↦ equal
              | inr differ ↦ absurd (none_is_less others labels number count (sym long) m n k (omega arith) (λ i h. sym (agree i h)) other_new new
                  (omega arith))
            ]
          ])
      | inr earlier ↦ sym least.1.0.1 ∙ agree j (omega arith) ∙ (same j k least.1.0.0 k_in).0 least.1.0.1
    ]

agree_below : (labels others : List ℕ) (count number : ℕ) → length labels ≡ length others → SameClasses labels others → IsNumbered labels count
    → IsNumbered others number
    → (k : ℕ) → k ≤ length labels → AgreeBelow labels others k
agree_below labels others count number long same n m zero k_in = λ i h. absurd (omega arith)
agree_below labels others count number long same n m (suc k) k_in = λ i h.
    let agree = agree_below labels others count number long same n m k (omega arith) in
    elim (cases_lt i k) [
      | inl less ↦ agree i less
      | inr more ↦ (let e : i ≡ k = omega arith in
          ap (λ z. get_or labels z 0) e ∙ one_more_agrees labels others count number long same n m k (omega arith) agree ∙ ap (λ z. get_or others z 0) (sym e))
    ]

no_fewer : (labels others : List ℕ) (count number : ℕ) → length labels ≡ length others → ((i : ℕ) → i < length labels → get_or labels i 0 ≡ get_or others i 0)
    → IsNumbered labels count → IsNumbered others number → count < number → ⊥
no_fewer labels others count number long agree n m less =
    let last = m.used count less in
    let i_in : last.0 < length labels = omega (arith, last.1.0.0) in
    omega (arith, n.below last.0 0 i_in, agree last.0 i_in, last.1.0.1)

-- numbered lists that make the same classes are one
pub IsNumbered-unique : (labels others : List ℕ) (count number : ℕ) → length labels ≡ length others → SameClasses labels others
    → IsNumbered labels count → IsNumbered others number
    → (labels ≡ others) × (count ≡ number)
IsNumbered-unique labels others count number long same n m =
    let agree = agree_below labels others count number long same n m (length labels) (omega arith) in (
      ext_get_or 0 labels others long agree,
      elim (cases_lt count number) [
        | inl less ↦ absurd (no_fewer labels others count number long agree n m less)
        | inr more ↦ elim (cases_eq count number) [
          | inl e ↦ e
          | inr differ ↦ absurd (no_fewer others labels number count (sym long) (λ i h. sym (agree i (omega arith))) m n (omega arith))
        ]
      ],
    )
