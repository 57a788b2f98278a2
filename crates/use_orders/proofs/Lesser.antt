-- The least of a list.
use Rattle.use_orders.proofs.Common.{◌≡◌, ℕ, ◌+◌, ◌<◌, ◌≤◌, Bool, true, false, List, [], ◌∷◌, ◌⊎◌, inl, inr, refl, sym, subst, arith, length}
use Rattle.use_orders.proofs.Common.{slice_index, ◌∙◌, IfSome, IsSomeAnd, cases_eq, In, In-get_or, In-index}
use Rattle.std.proofs.Common.{eqb}
use Rattle.std.specs.Prelude.{Option, Some, None, IsTrue}
use Rattle.std.specs.List.{list_any}
use Rattle.std.proofs.lemmas.Bool.{cases_Bool, or_cases, eqb-true, eq-eqb}
use Rattle.finite_sets.proofs.Searches.{list_any-In}

-- a lesser number is below what the greater is below
pub lesser_kept : (known least : Option ℕ) (n : ℕ) → IfSome known (λ old. IsSomeAnd least (λ new. new ≤ old)) → IfSome least (λ old. n ≤ old)
    → IfSome known (λ old. n ≤ old)
lesser_kept None least n k l = tt
lesser_kept (Some o) None n k l = absurd k
lesser_kept (Some o) (Some m) n k l = omega (arith, k, l)

lesser_below : (least : Option ℕ) (n c : ℕ) → IsSomeAnd least (λ new. new ≤ c) → IfSome least (λ old. n ≤ old) → n ≤ c
lesser_below None n c k l = absurd k
lesser_below (Some m) n c k l = omega (arith, k, l)

-- one cell more
pub lesser_more : (least : Option ℕ) (cells : List ℕ) (index n : ℕ) → n ≤ slice_index cells index → IfSome least (λ old. n ≤ old)
    → ((k : ℕ) → k < index → IsSomeAnd least (λ new. new ≤ slice_index cells k)) → (k : ℕ) → k < index + 1 → n ≤ slice_index cells k
lesser_more least cells index n here kept below k lt = elim (cases_eq k index) [
  | inl same ↦ rw same here
  | inr other ↦ lesser_below least n (slice_index cells k) (below k (omega arith)) kept
]

pub lesser_source : (known least : Option ℕ) (cells : List ℕ) (index n : ℕ) → index < length cells → (n ≡ slice_index cells index) ⊎ (least ≡ Some n)
    → IfSome least (λ new. (known ≡ Some new) ⊎ In new cells) → (known ≡ Some n) ⊎ In n cells
lesser_source known least cells index n lt (inl e) from = inr (let P : ℕ → Type 0 = λ z. In z cells in subst P (sym e) (In-get_or cells index 0 lt))
lesser_source known least cells index n lt (inr e) from =
    let P : Option ℕ → Type 0 = λ z. IfSome z (λ new. (known ≡ Some new) ⊎ In new cells) in let k : (known ≡ Some n) ⊎ In n cells = subst P e from in k

pub lesser_all : (least : Option ℕ) (cells : List ℕ) (index : ℕ) → length cells ≤ index
    → ((k : ℕ) → k < index → IsSomeAnd least (λ new. new ≤ slice_index cells k)) → (cell : ℕ) → In cell cells → IsSomeAnd least (λ new. new ≤ cell)
lesser_all least cells index all below cell h =
    let k = In-index cell cells h in
    let P : ℕ → Type 0 = λ z. IsSomeAnd least (λ new. new ≤ z) in
    subst P (k.1.1 0) (below k.0 (omega (arith, k.1.0, all)))

-- a number is found in a list exactly where it stands there
found_in : (xs : List ℕ) (x : ℕ) → list_any (λ y. eqb y x) xs ≡ true → In x xs
found_in [] x e = absurd (let f : false ≡ true = e in cc)
found_in (y ∷ ys) x e = elim (or_cases (eqb y x) (list_any (λ y. eqb y x) ys) e) [ inl k ↦ inl (eqb-true y x k) | inr k ↦ inr (found_in ys x k) ]

pub is_found : (xs : List ℕ) (x : ℕ) (b : Bool) → b ≡ list_any (λ y. eqb y x) xs → IsTrue b → In x xs
is_found xs x b e t = found_in xs x (sym e ∙ t)

pub finds : (xs : List ℕ) (x : ℕ) (b : Bool) → b ≡ list_any (λ y. eqb y x) xs → In x xs → IsTrue b
finds xs x b e h = elim (cases_Bool (list_any (λ y. eqb y x) xs)) [
  | inl found ↦ e ∙ found
  | inr missing ↦ absurd (let f = sym (eq-eqb x x refl) ∙ list_any-In (λ y. eqb y x) xs x missing h in cc)
]
