-- Marks against chains of links: laws of `Divides`.
use Rattle.std.proofs.Common.{◌≡◌, ℕ, ◌<◌, min, max, cond, eqb, List, [], ◌∷◌, ◌++◌, ◌⊎◌, inl, inr, map, length, get_or, refl, sym, ◌∙◌, ap, subst, arith}
use Rattle.std.proofs.lemmas.Bool.{cases_eq, cases_lt}
use Rattle.std.proofs.lemmas.Bool.Decides.{nat_tests}
use Rattle.std.proofs.lemmas.List.{length-map, get_or-map}
use Rattle.finite_sets.specs.Chain.{Chain, EitherWay}
use Rattle.finite_sets.specs.Chain.Chain.{stay, go}
use Rattle.finite_sets.proofs.Members.{In-append_left, In-push, In-push_cases}
use Rattle.finite_sets.proofs.Chains.{Chain-append, Chain-push, Chain-same, Chain-weaker, Chain-either_through}
use Rattle.partition.specs.Marks.{SameClasses}
use Rattle.partition.specs.Divides.{IsJoined, Divides, IsPair}
use Rattle.partition.specs.Leaders.{numbers_below, joined_leaders}
use Rattle.partition.proofs.Ancestors.{length-numbers_below, get_or-numbers_below}

-- other links divide alike, where each of the one kind is a chain of the other
pub Divides-links : (marks : List ℕ) (Link Other : ℕ → ℕ → Type 0) → ((a b : ℕ) → Link a b → IsJoined Other a b) → ((a b : ℕ) → Other a b → IsJoined Link a b)
    → Divides marks Link → Divides marks Other
Divides-links marks Link Other there back d = λ a b a_in b_in.
    let both = d a b a_in b_in in (
      (λ e. Chain-either_through Link Other there (both.0 e)),
      (λ way. both.1 (Chain-either_through Other Link back way)),
    )

-- other marks of the same classes divide alike
pub Divides-same : (marks others : List ℕ) (Link : ℕ → ℕ → Type 0) → length others ≡ length marks → SameClasses marks others → Divides marks Link
    → Divides others Link
Divides-same marks others Link long same d = λ a b a_in b_in.
    let a_marked : a < length marks = omega arith in
    let b_marked : b < length marks = omega arith in
    let both = d a b a_marked b_marked in
    let alike = same a b a_marked b_marked in
    ((λ e. both.0 (alike.1 e)), (λ way. alike.0 (both.1 way)))

no_pair : (a b : ℕ) → IsJoined (IsPair []) a b → a ≡ b
no_pair a b stay = refl
no_pair a b (go step rest) = elim step [ inl none ↦ absurd none | inr none ↦ absurd none ]

-- without pairs each number is alone
pub Divides-none : (n : ℕ) → Divides (numbers_below n) (IsPair [])
Divides-none n = λ a b a_in b_in.
    let a_below : a < n = omega (arith, length-numbers_below n) in
    let b_below : b < n = omega (arith, length-numbers_below n) in
    let at_a = get_or-numbers_below n a a_below in
    let at_b = get_or-numbers_below n b b_below in (
      (λ e. Chain-same (EitherWay (IsPair [])) a b (omega arith)),
      (λ way. ap (λ k. get_or (numbers_below n) k 0) (no_pair a b way)),
    )

-- the greater of two marks is taken for the lesser
abbrev merged : ℕ → ℕ → ℕ → ℕ
merged low high k = cond (eqb k high) low k

merged_high : (low high : ℕ) → merged low high high ≡ low
merged_high low high = grind (arith, nat_tests)

merged_low : (low high : ℕ) → merged low high low ≡ low
merged_low low high = grind (arith, nat_tests)

merged_other : (low high k : ℕ) → (k ≡ high → ⊥) → merged low high k ≡ k
merged_other low high k ne = grind (arith, nat_tests)

merged_cases : (low high p q : ℕ) → merged low high p ≡ merged low high q → (p ≡ q) ⊎ ((p ≡ low) × (q ≡ high)) ⊎ ((p ≡ high) × (q ≡ low))
merged_cases low high p q e = elim (cases_eq p high) [
  | inl p_high ↦ elim (cases_eq q high) [
    | inl q_high ↦ inl (p_high ∙ sym q_high)
    | inr q_other ↦ inr (inr (p_high, sym (merged_other low high q q_other) ∙ sym e ∙ ap (merged low high) p_high ∙ merged_high low high))
  ]
  | inr p_other ↦ elim (cases_eq q high) [
    | inl q_high ↦ inr (inl (sym (merged_other low high p p_other) ∙ e ∙ ap (merged low high) q_high ∙ merged_high low high, q_high))
    | inr q_other ↦ inl (sym (merged_other low high p p_other) ∙ e ∙ merged_other low high q q_other)
  ]
]

-- both marks are taken for one
merged_marks : (u v : ℕ) → merged (min u v) (max u v) u ≡ merged (min u v) (max u v) v
merged_marks u v = elim (cases_lt u v) [
  | inl less ↦ (let low : min u v ≡ u = omega arith in let high : max u v ≡ v = omega arith in
      ap (merged (min u v) (max u v)) (sym low) ∙ merged_low (min u v) (max u v) ∙ sym (merged_high (min u v) (max u v)) ∙ ap (merged (min u v) (max u v)) high)
  | inr more ↦ (let low : min u v ≡ v = omega arith in let high : max u v ≡ u = omega arith in
      ap (merged (min u v) (max u v)) (sym high) ∙ merged_high (min u v) (max u v) ∙ sym (merged_low (min u v) (max u v)) ∙ ap (merged (min u v) (max u v)) low)
]

merged_marks_cases : (u v p q : ℕ) → merged (min u v) (max u v) p ≡ merged (min u v) (max u v) q → (p ≡ q) ⊎ ((p ≡ u) × (q ≡ v)) ⊎ ((p ≡ v) × (q ≡ u))
merged_marks_cases u v p q e = elim (merged_cases (min u v) (max u v) p q e) [
  | inl same ↦ inl same
  | inr (inl h) ↦ elim (cases_lt u v) [
    | inl less ↦ inr (inl (omega (arith, h.0), omega (arith, h.1)))
    | inr more ↦ inr (inr (omega (arith, h.0), omega (arith, h.1)))
  ]
  | inr (inr h) ↦ elim (cases_lt u v) [
    | inl less ↦ inr (inr (omega (arith, h.0), omega (arith, h.1)))
    | inr more ↦ inr (inl (omega (arith, h.0), omega (arith, h.1)))
  ]
]

-- the links and one more
abbrev pub WithLink : (ℕ → ℕ → Type 0) → ℕ → ℕ → ℕ → ℕ → Type 0
WithLink Link a b x y = Link x y ⊎ ((x ≡ a) × (y ≡ b))

-- a way that goes on from one by the old links meets numbers of one merged mark
walk : (marks : List ℕ) (Link : ℕ → ℕ → Type 0) → Divides marks Link → (a b : ℕ) → a < length marks → b < length marks
    → (f : ℕ → ℕ) → f (get_or marks a 0) ≡ f (get_or marks b 0)
    → (i c j : ℕ) → i < length marks → IsJoined Link i c → Chain (EitherWay (WithLink Link a b)) c j → j < length marks → f (get_or marks i 0) ≡ f
    (get_or marks j 0)
walk marks Link d a b a_in b_in f one i c j i_in begun stay j_in = ap f ((d i c i_in j_in).1 begun)
walk marks Link d a b a_in b_in f one i c j i_in begun (go {b = next} step rest) j_in =
    let P : ℕ → ℕ → Type 0 = λ x y. IsJoined Link x y in
    let to : (e : ℕ) → e < length marks → c ≡ e → f (get_or marks i 0) ≡ f (get_or marks e 0) = λ e e_in is.
    ap f ((d i e i_in e_in).1 (subst (λ z. P i z) is begun)) in
    let from : (e : ℕ) → e < length marks → next ≡ e → f (get_or marks e 0) ≡ f (get_or marks j 0) = λ e e_in is.
    walk marks Link d a b a_in b_in f one e next j e_in (subst (λ z. P e z) (sym is) stay) rest j_in in
    elim step [
      | inl (inl link) ↦ walk marks Link d a b a_in b_in f one i next j i_in (Chain-push begun (inl link)) rest j_in
      | inl (inr new) ↦ to a a_in new.0 ∙ one ∙ from b b_in new.1
      | inr (inl link) ↦ walk marks Link d a b a_in b_in f one i next j i_in (Chain-push begun (inr link)) rest j_in
      | inr (inr new) ↦ to b b_in new.1 ∙ sym one ∙ from a a_in new.0
    ]

-- one more link joins the classes of its ends
pub Divides-join : (marks : List ℕ) (Link : ℕ → ℕ → Type 0) → Divides marks Link → (a b : ℕ) → a < length marks → b < length marks
    → Divides (joined_leaders marks a b) (WithLink Link a b)
Divides-join marks Link d a b a_in b_in = λ i j i_in j_in.
    let u = get_or marks a 0 in
    let v = get_or marks b 0 in
    let f = merged (min u v) (max u v) in
    let i_old : i < length marks = omega (arith, length-map marks f) in
    let j_old : j < length marks = omega (arith, length-map marks f) in
    let at_i : get_or (map f marks) i 0 ≡ f (get_or marks i 0) = get_or-map f marks i 0 0 i_old in
    let at_j : get_or (map f marks) j 0 ≡ f (get_or marks j 0) = get_or-map f marks j 0 0 j_old in
    let old : (x y : ℕ) → x < length marks → y < length marks → get_or marks x 0 ≡ get_or marks y 0 → IsJoined (WithLink Link a b) x y = λ x y x_in y_in e.
    Chain-weaker (λ p q h. elim h [ inl link ↦ inl (inl link) | inr link ↦ inr (inl link) ]) ((d x y x_in y_in).0 e) in (
      (λ e. elim (merged_marks_cases u v (get_or marks i 0) (get_or marks j 0) (sym at_i ∙ e ∙ at_j)) [
        | inl same ↦ old i j i_old j_old same
        | inr (inl h) ↦ Chain-append (old i a i_old a_in h.0) (go (inl (inr (refl, refl))) (old b j b_in j_old (sym h.1)))
        | inr (inr h) ↦ Chain-append (old i b i_old b_in h.0) (go (inr (inr (refl, refl))) (old a j a_in j_old (sym h.1)))
      ]),
      (λ way. at_i ∙ walk marks Link d a b a_in b_in f (merged_marks u v) i i j i_old stay way j_old ∙ sym at_j),
    )

pair_then_link : (pairs : List (ℕ × ℕ)) (a b x y : ℕ) → IsPair (pairs ++ (a, b) ∷ []) x y → WithLink (IsPair pairs) a b x y
pair_then_link pairs a b x y h = elim (In-push_cases (x, y) pairs (a, b) h) [ inl old ↦ inl old | inr e ↦ inr (ap (λ p. p.0) (sym e), ap (λ p. p.1) (sym e)) ]

link_then_pair : (pairs : List (ℕ × ℕ)) (a b x y : ℕ) → WithLink (IsPair pairs) a b x y → IsPair (pairs ++ (a, b) ∷ []) x y
link_then_pair pairs a b x y (inl old) = In-append_left (x, y) pairs ((a, b) ∷ []) old
link_then_pair pairs a b x y (inr e) =
    let P : ℕ → ℕ → Type 0 = λ u v. IsPair (pairs ++ (a, b) ∷ []) u v in
    subst (λ z. P z y) (sym e.0) (subst (λ z. P a z) (sym e.1) (In-push pairs (a, b)))

-- one more pair
pub Divides-pair : (marks : List ℕ) (pairs : List (ℕ × ℕ)) (a b : ℕ) → a < length marks → b < length marks → Divides marks (IsPair pairs)
    → Divides (joined_leaders marks a b) (IsPair (pairs ++ (a, b) ∷ []))
Divides-pair marks pairs a b a_in b_in d =
    Divides-links (joined_leaders marks a b) (WithLink (IsPair pairs) a b) (IsPair (pairs ++ (a, b) ∷ []))
    (λ x y h. go (inl (link_then_pair pairs a b x y h)) stay)
    (λ x y h. go (inl (pair_then_link pairs a b x y h)) stay)
    (Divides-join marks (IsPair pairs) d a b a_in b_in)
