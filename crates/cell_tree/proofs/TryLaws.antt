-- A trial of a size, dimension by dimension: what it leaves where it ends well, and what it says where it stops.
use Rattle.cell_tree.proofs.Common.{◌≡◌, ◌≢◌, ◌↔◌, ℕ, ◌-◌, ◌<◌, ◌≤◌, List, length, slice_set, refl, sym, ◌∙◌, arith, get_or-set_other, Dimension}
use Rattle.cell_tree.proofs.Common.{Size, CellState, size_at, no_size, IsWithin, AreAlike, AreSizes, Uses, IsAbove, at, StandsBefore, StandsIn}
use Rattle.cell_tree.proofs.Common.{AreSettledBut, IsTried, ComesBefore, PassesFirst, IsDone, StopsIn}
use Rattle.cell_tree.specs.Sizes.{size_of}
use Rattle.cell_tree.proofs.SizeLaws.{alike_all, alike_refl, alike_sym, alike_trans, alike_within, size_of-alike}
use Rattle.cell_tree.proofs.TrialLaws.{alike_tried}

-- An order for a trial: the cell and all above it, each once and after all that use it, the cell last.
pub record IsOrder (cells : List CellState) (changed : ℕ) (order : List ℕ) : Type 0 where
  pub sorted : (place : ℕ) → place < length order → (user : ℕ) → Uses cells user (at order place) → StandsBefore order place user
  pub above : (key : ℕ) → StandsIn order key ↔ IsAbove cells changed key
  pub within : (place : ℕ) → place < length order → at order place < length cells
  pub some : 0 < length order
  pub last : at order (length order - 1) ≡ changed
  pub once : (p q : ℕ) → p < q → q < length order → at order p ≢ at order q

-- What a trial in one dimension begins with: the cell has the size that is tried, and what doesn't stand above it is as before.
pub record Begins (dimension : Dimension) (changed : ℕ) (order : List ℕ) (sizes next : List Size) (size : Size) : Type 0 where
  pub given : AreAlike dimension (size_at next changed) size
  pub others : (key : ℕ) → (StandsIn order key → ⊥) → AreAlike dimension (size_at next key) (size_at sizes key)

-- what is settled in one list is settled in another that is alike in the dimension
pub settled-alike : (dimension : Dimension) (cells : List CellState) (changed : ℕ) (order : List ℕ) (end : ℕ) (a b : List Size)
    → AreSettledBut dimension cells changed order end a
    → ((key : ℕ) → AreAlike dimension (size_at b key) (size_at a key)) → AreSettledBut dimension cells changed order end b
settled-alike dimension cells changed order end a b settled same key cell is differs never =
    alike_trans dimension _ (size_at a key) _ (same key)
    (alike_trans dimension _ (size_of (size_at a) cell) _ (settled key cell is differs never)
    (size_of-alike dimension (size_at a) (size_at b) cell (λ k entry found. alike_sym dimension _ _ (same entry.1.child.0))))

module _ {cells : List CellState} {changed : ℕ} {order : List ℕ} (is_order : IsOrder cells changed order) where
  -- Right sizes, of which the cell gets another, are settled but for what stands above the cell.
  pub settled-start : (dimension : Dimension) (sizes : List Size) (size : Size) → AreSizes cells sizes
      → AreSettledBut dimension cells changed order (length order - 1) (slice_set sizes changed size)
  settled-start dimension sizes size right key cell is differs never =
      alike_trans dimension _ (size_at sizes key) _ (alike_refl dimension _ _ (get_or-set_other sizes changed key size no_size differs))
      (alike_trans dimension _ (size_of (size_at sizes) cell) _ (alike_refl dimension _ _ (right key cell is))
      (size_of-alike dimension (size_at sizes) (size_at (slice_set sizes changed size)) cell (λ k entry found. alike_refl dimension _ _
      (sym (get_or-set_other sizes changed entry.1.child.0 size no_size (λ same.
      never (is_order.sorted (length order - 1) (omega (arith, is_order.some)) key
      (record { cell = cell; is = is; k = k; entry = entry; stands = found; child = same ∙ sym is_order.last }))))))))

  nothing_before : (key : ℕ) → StandsBefore order 0 key → ⊥
  nothing_before key s = omega (arith, s.before)

  module _ (dimension : Dimension) {sizes tried : List Size} {size : Size} (is_tried : IsTried cells sizes tried changed size) {next : List Size}
      (begins : Begins dimension changed order sizes next size) where
    -- What is worked out from a place of the order on is as in the sizes that the cells would have.
    worked_out : (place : ℕ) → place ≤ length order → AreSettledBut dimension cells changed order place next
        → (key : ℕ) → (StandsBefore order place key → ⊥) → AreAlike dimension (size_at next key) (size_at tried key)
    worked_out place low settled =
        alike_tried cells changed order is_order.sorted dimension sizes tried size is_tried is_order.above is_order.within next place low settled
        begins.given begins.others

    -- What was worked out to the end keeps within the limit, in the sizes that the cells would have.
    pub done_within : IsDone dimension cells changed order next → (key : ℕ) → IsWithin dimension (size_at tried key)
    done_within done key = alike_within dimension _ _ (worked_out 0 (omega arith) done.settled key (nothing_before key)) (done.within key)

    -- Where it stopped, a cell above would pass the limit. So the limit is the first that is passed, where those before it are kept.
    pub stops_first : StopsIn dimension cells changed order next
        → ((other : Dimension) → ComesBefore other dimension → (key : ℕ) → IsWithin other (size_at tried key)) → PassesFirst dimension cells changed tried
    stops_first stops kept =
        record {
          key = at order stops.place;
          above = (is_order.above (at order stops.place)).0 (record { place = stops.place; before = stops.before; is = refl });
          passes = λ within. stops.passes (alike_within dimension _ _ (alike_sym dimension _ _
              (worked_out stops.place (omega (arith, stops.before)) stops.settled (at order stops.place)
              (λ s. is_order.once s.place stops.place s.before stops.before s.is))) within);
          before = λ other earlier key up. kept other earlier key;
        }

  -- Sizes that are worked out in all dimensions are those that the cells would have.
  pub done_tried : {sizes next : List Size} {size : Size} → ((key : ℕ) → (StandsIn order key → ⊥) → size_at next key ≡ size_at sizes key)
      → size_at next changed ≡ size
      → ((dimension : Dimension) → AreSettledBut dimension cells changed order 0 next) → IsTried cells sizes next changed size
  done_tried others given settled =
      record {
        others = λ key apart. others key (λ stands. apart ((is_order.above key).0 stands));
        right = λ key cell is differs. alike_all _ _ (λ dimension. settled dimension key cell is differs (nothing_before key));
        given = given;
      }
