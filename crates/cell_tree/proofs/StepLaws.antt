-- One step of a trial in one dimension.
use Rattle.cell_tree.proofs.Common.{◌≡◌, ◌≢◌, inl, inr, ℕ, ◌+◌, ◌-◌, ◌<◌, ◌≤◌, List, [], length, get_or, slice_get, Some, None, refl, sym, ap, subst}
use Rattle.cell_tree.proofs.Common.{◌∙◌, arith, cases_eq, slice_get-get_or, Dimension, Size, CellState, size_at, IsWithin, Uses, at, StandsBefore}
use Rattle.cell_tree.proofs.Common.{AreSettledBut, SetsDimension, IsDone, StopsIn, IsPass}
use Rattle.cell_tree.specs.Sizes.{size_of, AreChildrenWithin}
use Rattle.cell_tree.proofs.SizeLaws.{alike_refl, alike_trans}
use Rattle.cell_tree.proofs.TrialLaws.{settled-set, set_other, set_apart}
use Rattle.cell_tree.proofs.TryLaws.{IsOrder}

-- The cells from a place of the order on have the sizes that their children give, and nothing else changed.
pub record AreSet (dimension : Dimension) (cells : List CellState) (changed : ℕ) (order : List ℕ) (first next : List Size) (place : ℕ) : Type 0 where
  pub settled : AreSettledBut dimension cells changed order place next
  pub pass : IsPass dimension changed order first next

-- And they keep within the limit.
pub record AreFit (dimension : Dimension) (cells : List CellState) (changed : ℕ) (order : List ℕ) (first next : List Size) (place : ℕ) : Type 0 where
  pub low : place + 1 ≤ length order
  pub set : AreSet dimension cells changed order first next place
  pub within : (key : ℕ) → (StandsBefore order place key → ⊥) → IsWithin dimension (size_at next key)

module _ {dimension : Dimension} {cells : List CellState} {changed : ℕ} {order : List ℕ} {first : List Size} (is_order : IsOrder cells changed order) where
  -- what a trial begins with
  pub fit_start : AreSettledBut dimension cells changed order (length order - 1) first
      → ((key : ℕ) → (StandsBefore order (length order - 1) key → ⊥) → IsWithin dimension (size_at first key))
      → AreFit dimension cells changed order first first (length order - 1)
  fit_start settled within =
      record {
        low = omega (arith, is_order.some);
        set = record {
          settled = settled;
          pass = record { kept = refl; others = λ key apart. refl; alike = λ other differs key. alike_refl other _ _ refl };
        };
        within = within;
      }

  module _ {next : List Size} {k : ℕ} (some : 0 < k) (fit : AreFit dimension cells changed order first next k) where
    before : k - 1 < length order
    before = omega (arith, some, fit.low)

    -- the children of the cell before the place keep within the limit
    pub children_fit : (cell : CellState) → slice_get cells (at order (k - 1)) ≡ Some cell → AreChildrenWithin dimension (size_at next) cell.uses
    children_fit cell is j entry stands =
        fit.within entry.1.child.0 (λ s.
        let uses : Uses cells (at order (k - 1)) entry.1.child.0 = record { cell = cell; is = is; k = j; entry = entry; stands = stands; child = refl } in
        let again : StandsBefore order s.place (at order (k - 1)) =
        is_order.sorted s.place (omega (arith, s.before, fit.low)) (at order (k - 1)) (subst (λ c. Uses cells (at order (k - 1)) c) (sym s.is) uses) in
        is_order.once again.place (k - 1) (omega (arith, again.before, s.before)) before again.is)

    module _ {new : List Size} (long : length next ≡ length cells)
        (sets : (cell : CellState) → slice_get cells (at order (k - 1)) ≡ Some cell
        → SetsDimension dimension (at order (k - 1)) (size_of (size_at next) cell) next new) where
      here_is : slice_get cells (at order (k - 1)) ≡ Some (get_or cells (at order (k - 1)) (record { own = None; uses = [] }))
      here_is = slice_get-get_or cells (at order (k - 1)) (record { own = None; uses = [] }) (is_order.within (k - 1) before)

      inside : at order (k - 1) < length next
      inside = omega (arith, is_order.within (k - 1) before, long)

      not_changed : changed ≢ at order (k - 1)
      not_changed same = is_order.once (k - 1) (length order - 1) (omega (arith, some, fit.low)) (omega (arith, is_order.some)) (sym same ∙ sym is_order.last)

      -- one more cell is set
      pub set_next : AreSet dimension cells changed order first new (k - 1)
      set_next =
          record {
            settled = settled-set cells changed order is_order.sorted dimension (k - 1) next new before inside sets _ here_is
                (subst (λ end. AreSettledBut dimension cells changed order end next) (let e : k ≡ k - 1 + 1 = omega (arith, some) in e) fit.set.settled);
            pass = record {
              kept = set_apart dimension (at order (k - 1)) _ next new (sets _ here_is) changed not_changed ∙ fit.set.pass.kept;
              others = λ key apart.
                  set_apart dimension (at order (k - 1)) _ next new (sets _ here_is) key
                  (λ same. apart (record { place = k - 1; before = before; is = sym same })) ∙ fit.set.pass.others key apart;
              alike = λ other differs key.
                  alike_trans other _ (size_at next key) _ (set_other other dimension (at order (k - 1)) _ next new (sets _ here_is) inside differs key)
                  (fit.set.pass.alike other differs key);
            };
          }

      -- and fits, where it keeps within the limit
      pub fit_next : IsWithin dimension (size_at new (at order (k - 1))) → AreFit dimension cells changed order first new (k - 1)
      fit_next fits =
          record {
            low = omega (arith, some, fit.low);
            set = set_next;
            within = λ key never. elim (cases_eq key (at order (k - 1))) [
              | inl same ↦ subst (λ c. IsWithin dimension (size_at new c)) (sym same) fits
              | inr differs ↦
                  subst (IsWithin dimension) (sym (set_apart dimension (at order (k - 1)) _ next new (sets _ here_is) key differs))
                  (fit.within key (λ s. elim (cases_eq s.place (k - 1)) [
                    | inl at_place ↦ differs (sym s.is ∙ ap (at order) at_place)
                    | inr early ↦ never (record { place = s.place; before = omega (arith, s.before, early, some); is = s.is })
                  ]))
            ];
          }

      -- else the trial stops there
      pub stops_next : (IsWithin dimension (size_at new (at order (k - 1))) → ⊥) → StopsIn dimension cells changed order new
      stops_next passes = record { place = k - 1; before = before; settled = set_next.settled; passes = passes }

  -- At the start of the order all is done.
  pub fit_done : {next : List Size} {k : ℕ} → k ≤ 0 → AreFit dimension cells changed order first next k → IsDone dimension cells changed order next
  fit_done {next = next} {k = k} none fit =
      record {
        settled = subst (λ end. AreSettledBut dimension cells changed order end next) (let e : k ≡ 0 = omega (arith, none) in e) fit.set.settled;
        within = λ key. fit.within key (λ s. omega (arith, s.before, none));
      }
