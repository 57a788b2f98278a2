-- Sizes that are worked out in an order in which each cell comes after its users, from its end on; and the sizes that the cells have after
-- an edit of one of them.
use Rattle.cell_tree.proofs.Common.{◌≡◌, ◌≢◌, ◌⊎◌, ◌↔◌, inl, inr, ℕ, zero, suc, ◌+◌, ◌<◌, ◌≤◌, List, [], length, get_or, slice_set, slice_get, Some}
use Rattle.cell_tree.proofs.Common.{None, refl, sym, ap, subst, ◌∙◌, arith, cases_eq, get_or-set_same, get_or-set_other, slice_get-get_or, Dimension}
use Rattle.cell_tree.proofs.Common.{Depth, Elements, Hull, Size, CellState, size_at, no_size, AreAlike, Uses, IsAbove, at, StandsBefore, StandsIn}
use Rattle.cell_tree.proofs.Common.{AreSettledBut, IsTried, SetsDimension}
use Rattle.cell_tree.specs.Sizes.{size_of, with_dimension}
use Rattle.cell_tree.proofs.SizeLaws.{alike_refl, alike_trans, size_of-alike, child_is_lower}

-- a cell stands before a place of an order or doesn't
pub stands_or_not : (order : List ℕ) (end key : ℕ) → StandsBefore order end key ⊎ (StandsBefore order end key → ⊥)
stands_or_not order zero key = inr (λ s. omega (arith, s.before))
stands_or_not order (suc end) key =
    elim (stands_or_not order end key) [
      | inl s ↦ inl (record { place = s.place; before = omega (arith, s.before); is = s.is })
      | inr never ↦ elim (cases_eq (at order end) key) [
        | inl same ↦ inl (record { place = end; before = omega arith; is = same })
        | inr differs ↦ inr (λ s. elim (cases_eq s.place end) [
          | inl here ↦ differs (ap (at order) (sym here) ∙ s.is)
          | inr before ↦ never (record { place = s.place; before = omega (arith, s.before, before); is = s.is })
        ])
      ]
    ]

alike_set : (dimension : Dimension) (old from : Size) → AreAlike dimension (with_dimension dimension old from) from
alike_set Depth old from = refl
alike_set Elements old from = refl
alike_set Hull old from = refl

alike_other : (other dimension : Dimension) (old from : Size) → other ≢ dimension → AreAlike other (with_dimension dimension old from) old
alike_other Depth Depth old from differs = absurd (differs refl)
alike_other Depth Elements old from differs = refl
alike_other Depth Hull old from differs = refl
alike_other Elements Depth old from differs = refl
alike_other Elements Elements old from differs = absurd (differs refl)
alike_other Elements Hull old from differs = refl
alike_other Hull Depth old from differs = refl
alike_other Hull Elements old from differs = refl
alike_other Hull Hull old from differs = absurd (differs refl)

-- where a dimension was set, sizes change in that alone
pub set_other : (other dimension : Dimension) (key : ℕ) (size : Size) (old new : List Size) → SetsDimension dimension key size old new → key < length old
    → other ≢ dimension
    → (k : ℕ) → AreAlike other (size_at new k) (size_at old k)
set_other other dimension key size old new sets within differs k =
    elim (cases_eq k key) [
      | inl same ↦
          alike_trans other _ (with_dimension dimension (size_at old key) sets.0) _
          (alike_refl other _ _ (ap (λ (list : List Size). size_at list k) sets.2
          ∙ ap (size_at (slice_set old key (with_dimension dimension (size_at old key) sets.0))) same ∙ get_or-set_same old key _ no_size within))
          (alike_trans other _ (size_at old key) _ (alike_other other dimension (size_at old key) sets.0 differs)
          (alike_refl other _ _ (ap (size_at old) (sym same))))
      | inr apart ↦ alike_refl other _ _ (ap (λ (list : List Size). size_at list k) sets.2 ∙ get_or-set_other old key k _ no_size apart)
    ]

-- and only at that position
pub set_apart : (dimension : Dimension) (key : ℕ) (size : Size) (old new : List Size) → SetsDimension dimension key size old new → (k : ℕ) → k ≢ key
    → size_at new k ≡ size_at old k
set_apart dimension key size old new sets k apart = ap (λ (list : List Size). size_at list k) sets.2 ∙ get_or-set_other old key k _ no_size apart

-- and takes the value there
pub set_value : (dimension : Dimension) (key : ℕ) (size : Size) (old new : List Size) → SetsDimension dimension key size old new → key < length old
    → AreAlike dimension (size_at new key) size
set_value dimension key size old new sets within =
    alike_trans dimension _ (with_dimension dimension (size_at old key) sets.0) _
    (alike_refl dimension _ _ (ap (λ (list : List Size). size_at list key) sets.2 ∙ get_or-set_same old key _ no_size within))
    (alike_trans dimension _ sets.0 _ (alike_set dimension (size_at old key) sets.0) sets.1)

module _ (cells : List CellState) (changed : ℕ) (order : List ℕ)
    (sorted : (place : ℕ) → place < length order → (user : ℕ) → Uses cells user (at order place) → StandsBefore order place user) where
  -- what uses a cell before a place of the order stands before it too
  pub user_before : (end key child : ℕ) → end ≤ length order → Uses cells key child → StandsBefore order end child → StandsBefore order end key
  user_before end key child low uses s =
      let stands : StandsBefore order s.place key = sorted s.place (omega (arith, s.before, low)) key (subst (λ c. Uses cells key c) (sym s.is) uses) in
      record { place = stands.place; before = omega (arith, stands.before, s.before); is = stands.is }

  -- One more cell, the one before a place of the order, has the size that its children give.
  pub settled-set : (dimension : Dimension) (place : ℕ) (old new : List Size) → place < length order → at order place < length old
      → ((cell : CellState) → slice_get cells (at order place) ≡ Some cell → SetsDimension dimension (at order place) (size_of (size_at old) cell) old new)
      → (some : CellState) → slice_get cells (at order place) ≡ Some some
      → AreSettledBut dimension cells changed order (place + 1) old → AreSettledBut dimension cells changed order place new
  settled-set dimension place old new before within set some is_some settled key cell is differs never =
      elim (cases_eq key (at order place)) [
        | inl same ↦
            alike_trans dimension _ (size_of (size_at old) cell) _
            (subst (λ k. AreAlike dimension (size_at new k) (size_of (size_at old) cell)) (sym same)
            (set_value dimension (at order place) (size_of (size_at old) cell) old new (set cell (ap (slice_get cells) (sym same) ∙ is)) within))
            children
        | inr apart ↦
            alike_trans dimension _ (size_at old key) _ (alike_refl dimension _ _ (set_apart dimension (at order place) _ old new sets key apart))
            (alike_trans dimension _ (size_of (size_at old) cell) _ (settled key cell is differs (still apart)) children)
      ]
    where
      sets : SetsDimension dimension (at order place) (size_of (size_at old) some) old new
      sets = set some is_some

      still : key ≢ at order place → StandsBefore order (place + 1) key → ⊥
      still apart s =
          elim (cases_eq s.place place) [
            | inl here ↦ apart (sym s.is ∙ ap (at order) here)
            | inr early ↦ never (record { place = s.place; before = omega (arith, s.before, early); is = s.is })
          ]

      children : AreAlike dimension (size_of (size_at old) cell) (size_of (size_at new) cell)
      children =
          size_of-alike dimension (size_at old) (size_at new) cell (λ k entry found. alike_refl dimension _ _
          (sym (set_apart dimension (at order place) _ old new sets entry.1.child.0 (λ same.
          never (sorted place before key (record { cell = cell; is = is; k = k; entry = entry; stands = found; child = same }))))))

  module _ (dimension : Dimension) (sizes tried : List Size) (size : Size) (is_tried : IsTried cells sizes tried changed size)
      (above : (key : ℕ) → StandsIn order key ↔ IsAbove cells changed key) (within : (place : ℕ) → place < length order → at order place < length cells)
      (next : List Size) (place : ℕ) (low : place ≤ length order) (settled : AreSettledBut dimension cells changed order place next)
      (given : AreAlike dimension (size_at next changed) size)
      (others : (key : ℕ) → (StandsIn order key → ⊥) → AreAlike dimension (size_at next key) (size_at sizes key)) where
    alike_below : (bound key : ℕ) → (size_at tried key).depth < bound → (StandsBefore order place key → ⊥)
        → AreAlike dimension (size_at next key) (size_at tried key)
    alike_below zero key deep never = absurd (omega (arith, deep))
    alike_below (suc bound) key deep never =
        elim (cases_eq key changed) [
          | inl same ↦ subst (λ k. AreAlike dimension (size_at next k) (size_at tried k)) (sym same)
              (alike_trans dimension _ size _ given (alike_refl dimension _ _ (sym is_tried.given)))
          | inr differs ↦ elim (stands_or_not order (length order) key) [
            | inr absent ↦
                alike_trans dimension _ (size_at sizes key) _ (others key absent)
                (alike_refl dimension _ _ (sym (is_tried.others key (λ up. absent ((above key).1 up)))))
            | inl stands ↦
                let inside : key < length cells = subst (λ k. k < length cells) stands.is (within stands.place stands.before) in
                let cell : CellState = get_or cells key empty in
                let is : slice_get cells key ≡ Some cell = slice_get-get_or cells key empty inside in
                let right : size_at tried key ≡ size_of (size_at tried) cell = is_tried.right key cell is differs in
                alike_trans dimension _ (size_of (size_at next) cell) _ (settled key cell is differs never)
                (alike_trans dimension _ (size_of (size_at tried) cell) _
                (size_of-alike dimension (size_at next) (size_at tried) cell (λ k entry found.
                alike_below bound entry.1.child.0
                (omega (arith, deep, ap (λ (s : Size). s.depth) right, child_is_lower (size_at tried) cell k entry found))
                (λ s. never (user_before place key entry.1.child.0 low (record { cell = cell; is = is; k = k; entry = entry; stands = found; child = refl })
                s))))
                (alike_refl dimension _ _ (sym right)))
          ]
        ]
      where
        empty : CellState
        empty = record { own = None; uses = [] }

    -- Sizes that are worked out from a place of the order on are those that the cells would have.
    pub alike_tried : (key : ℕ) → (StandsBefore order place key → ⊥) → AreAlike dimension (size_at next key) (size_at tried key)
    alike_tried key never = alike_below (suc (size_at tried key).depth) key (omega arith) never
