-- A finite set of places has a least one.
use Rattle.tree_circuits.proofs.Common.{◌⊎◌, ℕ, ℤ, List, [], ◌∷◌, inl, inr, refl, sym, subst, In, Total, Place, IsNoLater}
use Rattle.std.proofs.lemmas.Bool.{cases_order}
use Rattle.finite_sets.specs.Least.{IsLeast}
use Rattle.finite_sets.proofs.Orders.{less_equal_or_greater}
use Rattle.tree_names.proofs.TreeRecords.Names.PlaceOrders.{IsNoLater-trans, place_at}

-- of two places one is no later than the other, by their parts
no_later_either : (p q : ℕ) (x y u v : ℤ) → IsNoLater (place_at p x y) (place_at q u v) ⊎ IsNoLater (place_at q u v) (place_at p x y)
no_later_either p q x y u v = elim (cases_order p q) [
  | inl same ↦ elim (less_equal_or_greater y v) [
    | inl less ↦ inl (inr (inr (same, inl less)))
    | inr (inl row) ↦ elim (less_equal_or_greater x u) [
      | inl less ↦ inl (inr (inr (same, inr (row, less))))
      | inr (inl column) ↦ inl (inl (rw (same, row, column) refl))
      | inr (inr greater) ↦ inr (inr (inr (sym same, inr (sym row, greater))))
    ]
    | inr (inr greater) ↦ inr (inr (inr (sym same, inl greater)))
  ]
  | inr (inl less) ↦ inl (inr (inl less))
  | inr (inr greater) ↦ inr (inr (inl greater))
]

-- of two places one is no later than the other
pub one_is_no_later : (a b : Place) → IsNoLater a b ⊎ IsNoLater b a
one_is_no_later a b = no_later_either a.plane b.plane a.square.x a.square.y b.square.x b.square.y

-- The list has a least place.
record HasLeast (places : List Place) : Type 0 where
  least : Place
  listed : In least places
  first : (place : Place) → In place places → IsNoLater least place

least_of : (place : Place) (places : List Place) → HasLeast (place ∷ places)
least_of place [] = record {
  least = place;
  listed = inl refl;
  first = λ other here. elim here [ inl same ↦ inl same | inr none ↦ absurd none ];
}
least_of place (next ∷ places) =
    let rest = least_of next places in
    elim (one_is_no_later place rest.least) [
      | inl first ↦ record {
        least = place;
        listed = inl refl;
        first = λ other here. elim here [
          | inl same ↦ inl same
          | inr later ↦ IsNoLater-trans place rest.least other first (rest.first other later)
        ];
      }
      | inr first ↦ record {
        least = rest.least;
        listed = inr rest.listed;
        first = λ other here. elim here [
          | inl same ↦ subst (IsNoLater rest.least) same first
          | inr later ↦ rest.first other later
        ];
      }
    ]

least_in : (places : List Place) (place : Place) → In place places → HasLeast places
least_in [] place none = absurd none
least_in (first ∷ places) place here = least_of first places

-- a set of which a list is known, and a place, has a least place
pub least_place : (P : Place → Type 0) (w : Place → ℤ) (n : ℤ) → Total P w n → (place : Place) → P place
    → (least : Place) × IsLeast IsNoLater P least
least_place P w n total place is =
    let found = least_in total.0 place (total.1.0.1 place is) in
    (found.least, (total.1.0.2 found.least found.listed, λ other has. found.first other (total.1.0.1 other has)))
