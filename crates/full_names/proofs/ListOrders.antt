-- Lists of names in name order.
use Rattle.full_names.proofs.Common.{◌≡◌, ℕ, zero, suc, ◌+◌, false, List, [], ◌∷◌, get_or, refl, ◌∙◌, ap, arith, IsSorted, Ordering, Less, Equal}
use Rattle.full_names.proofs.Common.{Greater, is_lt, ordering_reverse, tied_itself, In, Distinct, Pairwise, name_cmp, name_cmp_total, AreInNameOrder}
use Rattle.ext_model.proofs.FiniteSets.InOrder.{same_by_order, Pairwise-from_order, order-from_Pairwise, Distinct-by_order}

-- the first stands before the second
abbrev pub StandsBefore : List ℕ → List ℕ → Type 0
StandsBefore a b = name_cmp a b ≡ Less

not_after : (there back : Ordering) → there ≡ ordering_reverse back → there ≡ Less → is_lt back ≡ false
not_after there Less e h = cc
not_after there Equal e h = refl
not_after there Greater e h = refl

-- names in order are sorted
pub sorted_names : (names : List (List ℕ)) → AreInNameOrder names → IsSorted name_cmp names
sorted_names [] ordered k d low below = absurd (omega arith)
sorted_names (a ∷ []) ordered k d low below = absurd (omega arith)
sorted_names (a ∷ b ∷ names) ordered zero d low below =
    not_after (name_cmp a b) (name_cmp b a) (name_cmp_total.antisymm a b) ordered.0
sorted_names (a ∷ b ∷ names) ordered (suc k) d low below =
    let next : suc k + 1 ≡ suc (k + 1) = omega arith in
    let list = a ∷ b ∷ names in
    ap (λ (n : ℕ). is_lt (name_cmp (get_or list n d) (get_or list (suc k) d))) next ∙ sorted_names (b ∷ names) ordered.1 k d (omega arith) (omega arith)

-- a name before another, and that before a third
before_trans : (a b c : List ℕ) → StandsBefore a b → StandsBefore b c → StandsBefore a c
before_trans a b c = name_cmp_total.trans a b c

-- no name stands before itself
pub not_before_itself : (a : List ℕ) → StandsBefore a a → ⊥
not_before_itself a less = let tied = tied_itself name_cmp_total a in cc

-- names each of which stands before the next stand each before all that follow
pub pairwise_names : (names : List (List ℕ)) → AreInNameOrder names → Pairwise StandsBefore names
pairwise_names names ordered = Pairwise-from_order StandsBefore before_trans names ordered

-- names each of which stands before all that follow stand each before the next
pub names_in_order : (names : List (List ℕ)) → Pairwise StandsBefore names → AreInNameOrder names
names_in_order names ordered = order-from_Pairwise StandsBefore names ordered

-- no name stands twice in order
pub Distinct-names : (names : List (List ℕ)) → Pairwise StandsBefore names → Distinct names
Distinct-names names ordered = Distinct-by_order StandsBefore not_before_itself names ordered

-- the same names in order are one list
pub same_in_order : (xs ys : List (List ℕ)) → AreInNameOrder xs → AreInNameOrder ys → ((name : List ℕ) → In name xs → In name ys)
    → ((name : List ℕ) → In name ys → In name xs) → xs ≡ ys
same_in_order xs ys p q there back =
    same_by_order StandsBefore not_before_itself before_trans xs ys (pairwise_names xs p) (pairwise_names ys q) there back
