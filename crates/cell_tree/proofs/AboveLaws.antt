-- Laws on orders that come after users.
use Rattle.cell_tree.proofs.Common.{◌≡◌, ◌↔◌, ◌⊎◌, inl, inr, ℕ, zero, suc, ◌+◌, ◌<◌, ◌≤◌, Bool, true, false, List, [], ◌∷◌, ◌++◌, length, get_or}
use Rattle.cell_tree.proofs.Common.{slice_index_or, slice_set, refl, sym, ap, ◌∙◌, arith, subst, Some, slice_get, cases_eq, cases_lt}
use Rattle.cell_tree.proofs.Common.{get_or-set_same, get_or-set_other, length-append, get_or_append_left, stay, go, TreeCell, Size, size_at}
use Rattle.cell_tree.proofs.Common.{users_of, IsUserOf, IsReached, at, StandsBefore, StandsIn, EndsWith, IsSeen, unseen, ComesAfterUsers, Adds}
use Rattle.cell_tree.specs.Above.{AllStandBut}

pub unseen-set : (seen : List Bool) (key : ℕ) → key < length seen → slice_index_or seen key false ≡ false → unseen seen ≡ suc (unseen (slice_set seen key true))
unseen-set [] key within was = omega (arith, within)
unseen-set (true ∷ rest) zero within was = absurd (cc)
unseen-set (false ∷ rest) zero within was = refl
unseen-set (true ∷ rest) (suc key) within was = unseen-set rest key (omega (arith, within)) was
unseen-set (false ∷ rest) (suc key) within was = ap suc (unseen-set rest key (omega (arith, within)) was)

pub at_of_get : (xs : List ℕ) (k x : ℕ) → slice_get xs k ≡ Some x → at xs k ≡ x
at_of_get [] k x is = absurd (cc)
at_of_get (y ∷ ys) zero x is = grind (arith, is)
at_of_get (y ∷ ys) (suc k) x is = at_of_get ys k x is

pub any_default : (xs : List ℕ) (k d e : ℕ) → k < length xs → get_or xs k d ≡ get_or xs k e
any_default [] k d e within = absurd (omega (arith, within))
any_default (y ∷ ys) zero d e within = refl
any_default (y ∷ ys) (suc k) d e within = any_default ys k d e (omega (arith, within))

get_within : (xs : List ℕ) (k x : ℕ) → slice_get xs k ≡ Some x → k < length xs
get_within [] k x is = absurd (cc)
get_within (y ∷ ys) zero x is = omega arith
get_within (y ∷ ys) (suc k) x is = omega (arith, get_within ys k x is)

end_of : (xs : List ℕ) (x : ℕ) → at (xs ++ x ∷ []) (length xs) ≡ x
end_of [] x = refl
end_of (y ∷ ys) x = end_of ys x

pub StandsIn-end : (key : ℕ) (order : List ℕ) → StandsIn (order ++ key ∷ []) key
StandsIn-end key order = record { place = length order; before = omega (arith, length-append order (key ∷ [])); is = end_of order key }

module _ (cells : List TreeCell) where
  pub Adds-none : (cell : ℕ) (seen : List Bool) (order : List ℕ) → Adds cells cell seen seen order order
  Adds-none cell seen order =
      record {
        longer = omega arith;
        kept = λ place before. refl;
        above = λ place from before. absurd (omega (arith, from, before));
        fresh = λ place from before. absurd (omega (arith, from, before));
        marked = λ place from before. absurd (omega (arith, from, before));
        still = λ key is. is;
        only = λ key is. inl is;
        once = λ p q from before within. absurd (omega (arith, from, before, within));
      }

  pub StandsIn-Adds : {cell : ℕ} {seen seen' : List Bool} {order order' : List ℕ} → Adds cells cell seen seen' order order' → (key : ℕ) → StandsIn order key
      → StandsIn order' key
  StandsIn-Adds adds key stands =
      record { place = stands.place; before = omega (arith, stands.before, adds.longer); is = adds.kept stands.place stands.before ∙ stands.is }

  pub AllStandBut-Adds : (sizes : List Size) (rank : ℕ) {cell : ℕ} {seen seen' : List Bool} {order order' : List ℕ} → Adds cells cell seen seen' order order'
      → AllStandBut sizes rank seen order → AllStandBut sizes rank seen' order'
  AllStandBut-Adds sizes rank adds stand key is =
      elim (adds.only key is) [
        | inl was ↦ elim (stand key was) [ inl stands ↦ inl (StandsIn-Adds adds key stands) | inr low ↦ inr low ]
        | inr stands ↦ inl stands
      ]

  not_true : (b : Bool) → (b ≡ true → ⊥) → b ≡ false
  not_true true never = absurd (never refl)
  not_true false never = refl

  -- where a place of the longest order is
  pub Adds-then : (cell user : ℕ) (seen one two : List Bool) (order first second : List ℕ) → IsUserOf cells cell user
      → Adds cells cell seen one order first → Adds cells user one two first second → Adds cells cell seen two order second
  Adds-then cell user seen one two order first second uses a b =
      record {
        longer = omega (arith, a.longer, b.longer);
        kept = λ place before. b.kept place (omega (arith, before, a.longer)) ∙ a.kept place before;
        above = λ place from before. elim (split place) [
          | inl early ↦ subst (λ key. IsReached cells cell key) (sym (b.kept place early)) (a.above place from early)
          | inr late ↦ go uses (b.above place late before)
        ];
        fresh = λ place from before. elim (split place) [
          | inl early ↦ subst (λ key. slice_index_or seen key false ≡ false) (sym (b.kept place early)) (a.fresh place from early)
          | inr late ↦ not_true _ (λ was. differ _ (b.fresh place late before) (a.still _ was))
        ];
        marked = λ place from before. elim (split place) [
          | inl early ↦ b.still _ (subst (λ key. IsSeen one key) (sym (b.kept place early)) (a.marked place from early))
          | inr late ↦ b.marked place late before
        ];
        still = λ key is. b.still key (a.still key is);
        only = λ key is. elim (b.only key is) [
          | inl was ↦ elim (a.only key was) [ inl before ↦ inl before | inr stands ↦ inr (StandsIn-Adds b key stands) ]
          | inr stands ↦ inr stands
        ];
        once = λ p q from before within same. elim (split q) [
          | inl early ↦ a.once p q from before early (sym (b.kept p (omega (arith, before, early))) ∙ same ∙ b.kept q early)
          | inr late ↦ elim (split p) [
            | inl first_part ↦
                differ _ (subst (λ key. slice_index_or one key false ≡ false) (sym same ∙ b.kept p first_part) (b.fresh q late within))
                (a.marked p from first_part)
            | inr second_part ↦ b.once p q second_part before within same
          ]
        ];
      }
    where
      split : (place : ℕ) → (place < length first) ⊎ (length first ≤ place)
      split place = cases_lt place (length first)

      differ : (b : Bool) → b ≡ false → b ≡ true → ⊥
      differ b is_false is_true = absurd (cc)

  -- After a cell is marked and all above it are found, the cell itself is appended.
  pub Adds-cell : (cell : ℕ) (seen one : List Bool) (order first : List ℕ) → cell < length seen → slice_index_or seen cell false ≡ false
      → Adds cells cell (slice_set seen cell true) one order first → Adds cells cell seen one order (first ++ cell ∷ [])
  Adds-cell cell seen one order first within_seen was a =
      record {
        longer = omega (arith, a.longer, length-append first (cell ∷ []));
        kept = λ place before. get_or_append_left first (cell ∷ []) 0 place (omega (arith, before, a.longer)) ∙ a.kept place before;
        above = λ place from before. elim (last place before) [
          | inl early ↦ subst (λ key. IsReached cells cell key) (sym (early.1)) (a.above place from early.0)
          | inr is ↦ subst (λ key. IsReached cells cell key) (sym is) stay
        ];
        fresh = λ place from before. elim (last place before) [
          | inl early ↦ subst (λ key. slice_index_or seen key false ≡ false) (sym (early.1)) (unmarked _ (a.fresh place from early.0))
          | inr is ↦ subst (λ key. slice_index_or seen key false ≡ false) (sym is) was
        ];
        marked = λ place from before. elim (last place before) [
          | inl early ↦ subst (λ key. IsSeen one key) (sym (early.1)) (a.marked place from early.0)
          | inr is ↦ subst (λ key. IsSeen one key) (sym is) (a.still cell (get_or-set_same seen cell true false within_seen))
        ];
        still = λ key is. a.still key (kept_mark key is);
        only = λ key is. elim (a.only key is) [
          | inl before ↦ elim (cases_eq key cell) [
            | inl same ↦ inr (itself key same)
            | inr differs ↦ inl (sym (get_or-set_other seen cell key true false differs) ∙ before)
          ]
          | inr stands ↦ inr (record {
            place = stands.place;
            before = omega (arith, stands.before, length-append first (cell ∷ []));
            is = get_or_append_left first (cell ∷ []) 0 stands.place stands.before ∙ stands.is;
          })
        ];
        once = λ p q from before within same.
            let early : p < length first = omega (arith, before, within, length-append first (cell ∷ [])) in
            let at_p : at (first ++ cell ∷ []) p ≡ at first p = get_or_append_left first (cell ∷ []) 0 p early in
            elim (last q within) [
              | inl second ↦ a.once p q from before second.0 (sym at_p ∙ same ∙ second.1)
              | inr is ↦
                  differ (slice_index_or (slice_set seen cell true) cell false)
                  (subst (λ key. slice_index_or (slice_set seen cell true) key false ≡ false) (sym at_p ∙ same ∙ is) (a.fresh p from early))
                  (get_or-set_same seen cell true false within_seen)
            ];
      }
    where
      differ : (b : Bool) → b ≡ false → b ≡ true → ⊥
      differ b is_false is_true = absurd (cc)

      end_is : at (first ++ cell ∷ []) (length first) ≡ cell
      end_is = end_of first cell

      last : (place : ℕ) → place < length (first ++ cell ∷ [])
          → ((place < length first) × (at (first ++ cell ∷ []) place ≡ at first place)) ⊎ (at (first ++ cell ∷ []) place ≡ cell)
      last place before =
          elim (cases_lt place (length first)) [
            | inl early ↦ inl (early, get_or_append_left first (cell ∷ []) 0 place early)
            | inr late ↦ inr (ap (at (first ++ cell ∷ [])) (omega (arith, late, before, length-append first (cell ∷ []))) ∙ end_is)
          ]

      unmarked : (key : ℕ) → slice_index_or (slice_set seen cell true) key false ≡ false → slice_index_or seen key false ≡ false
      unmarked key unseen_now =
          elim (cases_eq key cell) [
            | inl same ↦ ap (λ k. slice_index_or seen k false) same ∙ was
            | inr differs ↦ sym (get_or-set_other seen cell key true false differs) ∙ unseen_now
          ]

      kept_mark : (key : ℕ) → IsSeen seen key → IsSeen (slice_set seen cell true) key
      kept_mark key is =
          elim (cases_eq key cell) [
            | inl same ↦ ap (λ k. slice_index_or (slice_set seen cell true) k false) same ∙ get_or-set_same seen cell true false within_seen
            | inr differs ↦ get_or-set_other seen cell key true false differs ∙ is
          ]

      itself : (key : ℕ) → key ≡ cell → StandsIn (first ++ cell ∷ []) key
      itself key same = record { place = length first; before = omega (arith, length-append first (cell ∷ [])); is = end_is ∙ sym same }

  -- The first of the users are found.
  pub record AreFound (cell : ℕ) (count : ℕ) (seen seen' : List Bool) (order order' : List ℕ) : Type 0 where
    pub sorted : ComesAfterUsers cells order'
    pub adds : Adds cells cell seen seen' order order'
    pub there : (k : ℕ) → k < count → StandsIn order' (at (users_of cells cell) k)
    pub room : length order' + unseen seen' ≡ length order + unseen seen

  pub AreFound-next : {cell count user : ℕ} {seen one two : List Bool} {order first second : List ℕ} → AreFound cell count seen one order first
      → slice_get (users_of cells cell) count ≡ Some user
      → ComesAfterUsers cells second → Adds cells user one two first second → StandsIn second user
      → length second + unseen two ≡ length first + unseen one → AreFound cell (count + 1) seen two order second
  AreFound-next {cell} {count} {user} {seen} {one} {two} {order} {first} {second} found is sorted adds there room =
      record {
        sorted = sorted;
        adds = Adds-then cell user seen one two order first second (count, within, any_default (users_of cells cell) count user 0 within ∙ at_is) found.adds
            adds;
        there = λ k before. elim (cases_eq k count) [
          | inl same ↦ subst (λ key. StandsIn second key) (sym (ap (at (users_of cells cell)) same ∙ at_is)) there
          | inr differs ↦ StandsIn-Adds adds _ (found.there k (omega (arith, before, differs)))
        ];
        room = room ∙ found.room;
      }
    where
      at_is : at (users_of cells cell) count ≡ user
      at_is = at_of_get (users_of cells cell) count user is

      within : count < length (users_of cells cell)
      within = get_within (users_of cells cell) count user is

  -- The order with the cell after all its users.
  pub ComesAfterUsers-cell : (cell : ℕ) (order : List ℕ) → ComesAfterUsers cells order → ((user : ℕ) → IsUserOf cells cell user → StandsIn order user)
      → ComesAfterUsers cells (order ++ cell ∷ [])
  ComesAfterUsers-cell cell order sorted there place before user uses =
      elim (cases_lt place (length order)) [
        | inl early ↦ longer place early (sorted place early user
            (subst (λ key. IsUserOf cells key user) (get_or_append_left order (cell ∷ []) 0 place early) uses))
        | inr late ↦ at_end (omega (arith, late, before, length-append order (cell ∷ [])))
      ]
    where
      longer : (end : ℕ) → end < length order → StandsBefore order end user → StandsBefore (order ++ cell ∷ []) end user
      longer end early stands =
          record {
            place = stands.place;
            before = stands.before;
            is = get_or_append_left order (cell ∷ []) 0 stands.place (omega (arith, stands.before, early)) ∙ stands.is;
          }

      end_is : at (order ++ cell ∷ []) (length order) ≡ cell
      end_is = end_of order cell

      at_end : place ≡ length order → StandsBefore (order ++ cell ∷ []) place user
      at_end is =
          let stands : StandsIn order user = there user (subst (λ key. IsUserOf cells key user) (ap (at (order ++ cell ∷ [])) is ∙ end_is) uses) in
          record {
            place = stands.place;
            before = omega (arith, stands.before, is);
            is = get_or_append_left order (cell ∷ []) 0 stands.place stands.before ∙ stands.is;
          }

  -- Marking a cell.
  pub AllStandBut-mark : (sizes : List Size) (cell : ℕ) (seen : List Bool) (order : List ℕ) → AllStandBut sizes (size_at sizes cell).depth seen order
      → AllStandBut sizes (suc (size_at sizes cell).depth) (slice_set seen cell true) order
  AllStandBut-mark sizes cell seen order stand key is =
      elim (cases_eq key cell) [
        | inl same ↦ inr (omega (arith, ap (λ k. (size_at sizes k).depth) same))
        | inr differs ↦ elim (stand key (sym (get_or-set_other seen cell key true false differs) ∙ is)) [
          | inl stands ↦ inl stands
          | inr low ↦ inr (omega (arith, low))
        ]
      ]

  pub AllStandBut-higher : (sizes : List Size) (rank higher : ℕ) (seen : List Bool) (order : List ℕ) → rank ≤ higher → AllStandBut sizes rank seen order
      → AllStandBut sizes higher seen order
  AllStandBut-higher sizes rank higher seen order le stand key is =
      elim (stand key is) [ inl stands ↦ inl stands | inr low ↦ inr (omega (arith, low, le)) ]

  pub found_all : (cell count : ℕ) (seen one : List Bool) (order first : List ℕ) → AreFound cell count seen one order first
      → length (users_of cells cell) ≤ count
      → (user : ℕ) → IsUserOf cells cell user → StandsIn first user
  found_all cell count seen one order first found all user uses =
      subst (λ key. StandsIn first key) uses.2 (at_any uses.0 uses.1 (found.there uses.0 (omega (arith, uses.1, all))))
    where
      at_any : (k : ℕ) → k < length (users_of cells cell) → StandsIn first (at (users_of cells cell) k) → StandsIn first (get_or (users_of cells cell) k user)
      at_any k within stands = subst (λ key. StandsIn first key) (any_default (users_of cells cell) k 0 user within) stands

  pub EndsWith-cell : (cell : ℕ) (seen one : List Bool) (order first : List ℕ) → cell < length seen
      → Adds cells cell (slice_set seen cell true) one order first → EndsWith cell order (first ++ cell ∷ [])
  EndsWith-cell cell seen one order first within a =
      record {
        more = omega (arith, a.longer, length-append first (cell ∷ []));
        is = ap (at (first ++ cell ∷ [])) (omega (arith, length-append first (cell ∷ []))) ∙ end_of first cell;
        alone = λ place from before same.
            let early : place < length first = omega (arith, before, length-append first (cell ∷ [])) in
            differ (slice_index_or (slice_set seen cell true) cell false)
            (subst (λ key. slice_index_or (slice_set seen cell true) key false ≡ false) (sym (get_or_append_left first (cell ∷ []) 0 place early) ∙ same)
            (a.fresh place from early))
            (get_or-set_same seen cell true false within);
      }
    where
      differ : (b : Bool) → b ≡ false → b ≡ true → ⊥
      differ b is_false is_true = absurd (cc)

  -- What is above a cell of such an order stands in it.
  pub above_stands : (order : List ℕ) (low up : ℕ) → ComesAfterUsers cells order → StandsIn order low → IsReached cells low up → StandsIn order up
  above_stands order low up sorted stands stay = stands
  above_stands order low up sorted stands (go {b = user} uses rest) =
      let user_stands : StandsBefore order stands.place user =
      sorted stands.place stands.before user (subst (λ key. IsUserOf cells key user) (sym stands.is) uses) in
      above_stands order user up sorted (record { place = user_stands.place; before = omega (arith, user_stands.before, stands.before); is = user_stands.is })
      rest

  pub above_iff : (cell : ℕ) (seen seen' : List Bool) (order order' : List ℕ) → order ≡ [] → Adds cells cell seen seen' order order'
      → ComesAfterUsers cells order' → StandsIn order' cell
      → (key : ℕ) → StandsIn order' key ↔ IsReached cells cell key
  above_iff cell seen seen' order order' empty adds sorted stands key = (
    (λ is. subst (λ up. IsReached cells cell up) is.is (adds.above is.place (rw empty (omega arith)) is.before)),
    (λ above. above_stands order' cell key sorted stands above),
  )
