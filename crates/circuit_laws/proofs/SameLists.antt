-- Lists of things that stand in the name order of a name of theirs.
use Rattle.circuit_laws.proofs.Common.{◌≡◌, ℕ, List, map, In, AreInNameOrder}
use Rattle.std.specs.declared.cmp.Ordering.TheVariants.{Less}
use Rattle.std.proofs.lemmas.Cmp.{tied_itself}
use Rattle.finite_sets.specs.Laws.{IsTransitive}
use Rattle.finite_sets.proofs.Pairs.{Pairwise, Pairwise-unmap}
use Rattle.finite_sets.proofs.InOrder.{same_by_order, Pairwise-from_order}
use Rattle.full_names.specs.ExtModel.NameOrder.{name_cmp}
use Rattle.full_names.proofs.ExtModel.NameOrders.{name_cmp_total}

-- the first name stands before the second
abbrev IsEarlier : List ℕ → List ℕ → Type 0
IsEarlier name other = name_cmp name other ≡ Less

-- the name of the first stands before that of the second
abbrev StandsBefore : {X : Type 0} → (X → List ℕ) → X → X → Type 0
StandsBefore name_of a b = name_cmp (name_of a) (name_of b) ≡ Less

before_transitive : {X : Type 0} (name_of : X → List ℕ) → IsTransitive (StandsBefore name_of)
before_transitive name_of a b c = name_cmp_total.trans (name_of a) (name_of b) (name_of c)

not_before_itself : {X : Type 0} (name_of : X → List ℕ) (a : X) → StandsBefore name_of a a → ⊥
not_before_itself name_of a less = let tied = tied_itself name_cmp_total (name_of a) in cc

-- things whose names stand in name order stand each before all that follow
pairwise_before : {X : Type 0} (name_of : X → List ℕ) (xs : List X) → AreInNameOrder (map name_of xs) → Pairwise (StandsBefore name_of) xs
pairwise_before name_of xs ordered =
    Pairwise-unmap name_of IsEarlier xs (Pairwise-from_order IsEarlier name_cmp_total.trans (map name_of xs) ordered)

-- the same things in the order of their names are one list
pub same_by_name : {X : Type 0} (name_of : X → List ℕ) (xs ys : List X) → AreInNameOrder (map name_of xs) → AreInNameOrder (map name_of ys)
    → ((x : X) → In x xs → In x ys) → ((x : X) → In x ys → In x xs) → xs ≡ ys
same_by_name name_of xs ys p q =
    same_by_order (StandsBefore name_of) (not_before_itself name_of) (before_transitive name_of) xs ys (pairwise_before name_of xs p)
    (pairwise_before name_of ys q)
