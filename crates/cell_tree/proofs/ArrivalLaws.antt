-- Sizes of cells that come at the end, which are worked out in an order in which each comes behind its children.
use Rattle.cell_tree.proofs.Common.{◌≡◌, ◌≢◌, inl, inr, ℕ, zero, suc, ◌<◌, ◌≤◌, List, length, get_or, slice_set, slice_get, Some, refl, sym, ap}
use Rattle.cell_tree.proofs.Common.{subst, ◌∙◌, arith, cases_eq, cases_lt, get_or-set_same, get_or-set_other, get_or_past, length-set}
use Rattle.cell_tree.proofs.Common.{slice_get_within, Dimension, Depth, Elements, Hull, Size, CellState, size_at, no_size, IsWithin, AreAlike}
use Rattle.cell_tree.proofs.Common.{AreSizes, Uses, IsAbove, at, cell_at, SetsDimension, ComesBefore, IsNewOrder, AreSettled, AreKept}
use Rattle.geo_core.specs.FiniteSets.Chain.Chain.{stay, go}
use Rattle.cell_tree.specs.Sizes.{size_of, AreChildrenWithin}
use Rattle.cell_tree.specs.Additions.{IsBelowItself, PassesWithAll}
use Rattle.cell_tree.specs.Arrivals.{IsSettled, AreRightTo, StopsAt}
use Rattle.cell_tree.proofs.SizeLaws.{alike_all, alike_refl, alike_sym, alike_trans, alike_within, size_of-alike, child_is_lower}
use Rattle.cell_tree.proofs.TrialLaws.{set_other, set_apart, set_value}
use Rattle.cell_tree.proofs.WholeLaws.{cell_is}
use Rattle.cell_tree.proofs.AddLaws.{none_within}

-- with right sizes a user is deeper
deeper : (cells : List CellState) (sizes : List Size) → AreSizes cells sizes → (user low : ℕ) → Uses cells user low
    → (size_at sizes low).depth < (size_at sizes user).depth
deeper cells sizes right user low uses =
    subst (λ child. (size_at sizes child).depth < (size_at sizes user).depth) uses.child
    (subst (λ (s : Size). (size_at sizes uses.entry.1.child.0).depth < s.depth) (sym (right user uses.cell uses.is))
    (child_is_lower (size_at sizes) uses.cell uses.k uses.entry uses.stands))

-- a cell is at most as deep as one that it is at or below
pub above_as_deep : (cells : List CellState) (sizes : List Size) → AreSizes cells sizes → (low up : ℕ) → IsAbove cells low up
    → (size_at sizes low).depth ≤ (size_at sizes up).depth
above_as_deep cells sizes right low up stay = omega arith
above_as_deep cells sizes right low up (go {b = user} uses rest) =
    omega (arith, deeper cells sizes right user low uses, above_as_deep cells sizes right user up rest)

-- so no cell stands below itself
pub right_acyclic : (cells : List CellState) (sizes : List Size) → AreSizes cells sizes → (cell : ℕ) → IsBelowItself cells cell → ⊥
right_acyclic cells sizes right cell below =
    omega (arith, deeper cells sizes right cell below.child below.used, above_as_deep cells sizes right cell below.child below.above)

-- the size of the cell at a place of an order took this value
abbrev pub SetsAt : Dimension → List CellState → ℕ → List Size → List Size → List ℕ → Type 0
SetsAt dimension cells place old new order =
    (cell : CellState) → slice_get cells (get_or order place 0) ≡ Some cell
    → SetsDimension dimension (get_or order place 0) (size_of (size_at old) cell) old new

module _ (first : ℕ) (order : List ℕ) where
  settled_more : (place more key : ℕ) → place ≤ more → IsSettled first order place key → IsSettled first order more key
  settled_more place more key low (inl old) = inl old
  settled_more place more key low (inr s) = inr (record { place = s.place; before = omega (arith, s.before, low); is = s.is })

  settled_less : (place key : ℕ) → key ≢ at order place → IsSettled first order (suc place) key → IsSettled first order place key
  settled_less place key apart (inl old) = inl old
  settled_less place key apart (inr s) =
      elim (cases_eq s.place place) [
        | inl here ↦ absurd (apart (sym s.is ∙ ap (at order) here))
        | inr early ↦ inr (record { place = s.place; before = omega (arith, s.before, early); is = s.is })
      ]

  settled_here : (place : ℕ) → IsSettled first order (suc place) (at order place)
  settled_here place = inr (record { place = place; before = omega arith; is = refl })

module _ {cells : List CellState} {first : ℕ} {order : List ℕ} (o : IsNewOrder cells first order) where
  -- a settled cell is none of those that are not
  pub settled_apart : (place key : ℕ) → place < length order → IsSettled first order place key → key ≢ at order place
  settled_apart place key before (inl old) same = omega (arith, old, o.new place before, same)
  settled_apart place key before (inr s) same = o.once s.place place s.before before (s.is ∙ same)

  -- the children of settled cells are settled
  pub child_settled : (place key child : ℕ) → place ≤ length order → IsSettled first order place key → Uses cells key child → IsSettled first order place child
  child_settled place key child low (inl old) uses = inl (o.old key child old uses)
  child_settled place key child low (inr s) uses =
      settled_more first order s.place place child (omega (arith, s.before))
      (o.behind s.place child (omega (arith, s.before, low)) (subst (λ k. Uses cells k child) (sym s.is) uses))

  -- at the end all are settled
  pub all_settled : (key : ℕ) → key < length cells → IsSettled first order (length order) key
  all_settled key within =
      elim (cases_lt key first) [
        | inl old ↦ inl old
        | inr new ↦ inr (o.all key (omega (arith, new)) within)
      ]

  module _ (dimension : Dimension) where
    -- One more size is worked out.
    pub right_next : (place : ℕ) (old new : List Size) → place < length order → ((key : ℕ) → key ≢ at order place → size_at new key ≡ size_at old key)
        → ((cell : CellState) → slice_get cells (at order place) ≡ Some cell → AreAlike dimension (size_at new (at order place)) (size_of (size_at old) cell))
        → AreRightTo dimension cells first order place old → AreRightTo dimension cells first order (suc place) new
    right_next place old new before apart value right key cell is settled =
        elim (cases_eq key (at order place)) [
          | inl same ↦
              alike_trans dimension _ (size_of (size_at old) cell) _
              (subst (λ k. AreAlike dimension (size_at new k) (size_of (size_at old) cell)) (sym same) (value cell (ap (slice_get cells) (sym same) ∙ is)))
              (children (λ child uses. o.behind place child before (subst (λ k. Uses cells k child) same uses)))
          | inr differs ↦
              let still : IsSettled first order place key = settled_less first order place key differs settled in
              alike_trans dimension _ (size_at old key) _ (alike_refl dimension _ _ (apart key differs))
              (alike_trans dimension _ (size_of (size_at old) cell) _ (right key cell is still)
              (children (λ child uses. child_settled place key child (omega (arith, before)) still uses)))
        ]
      where
        children : ((child : ℕ) → Uses cells key child → IsSettled first order place child)
            → AreAlike dimension (size_of (size_at old) cell) (size_of (size_at new) cell)
        children are =
            size_of-alike dimension (size_at old) (size_at new) cell (λ k entry found. alike_refl dimension _ _
            (sym (apart entry.1.child.0 (settled_apart place entry.1.child.0 before (are entry.1.child.0
            (record { cell = cell; is = is; k = k; entry = entry; stands = found; child = refl }))))))

    -- what is right up to a place is right up to one before it
    pub right_less : (place more : ℕ) (sizes : List Size) → place ≤ more → AreRightTo dimension cells first order more sizes
        → AreRightTo dimension cells first order place sizes
    right_less place more sizes low right key cell is settled = right key cell is (settled_more first order place more key low settled)

    -- and in sizes that are alike
    pub right_alike : (place : ℕ) (a b : List Size) → ((key : ℕ) → AreAlike dimension (size_at b key) (size_at a key))
        → AreRightTo dimension cells first order place a
        → AreRightTo dimension cells first order place b
    right_alike place a b same right key cell is settled =
        alike_trans dimension _ (size_at a key) _ (same key)
        (alike_trans dimension _ (size_of (size_at a) cell) _ (right key cell is settled)
        (size_of-alike dimension (size_at a) (size_at b) cell (λ k entry found. alike_sym dimension _ _ (same entry.1.child.0))))

    -- Sizes that are right up to a place agree there, where the old ones do.
    pub agree : (place : ℕ) (a b : List Size) → place ≤ length order → ((key : ℕ) → key < first → AreAlike dimension (size_at a key) (size_at b key))
        → AreRightTo dimension cells first order place a → AreRightTo dimension cells first order place b
        → (key : ℕ) → IsSettled first order place key → AreAlike dimension (size_at a key) (size_at b key)
    agree zero a b low same one other key (inl old) = same key old
    agree zero a b low same one other key (inr s) = absurd (omega (arith, s.before))
    agree (suc place) a b low same one other key settled =
        let before : (key : ℕ) → IsSettled first order place key → AreAlike dimension (size_at a key) (size_at b key) = λ k is.
        agree place a b (omega (arith, low)) same (right_less place (suc place) a (omega arith) one) (right_less place (suc place) b (omega arith) other) k
        is in
        elim (cases_eq key (at order place)) [
          | inr differs ↦ before key (settled_less first order place key differs settled)
          | inl here ↦
              let is : slice_get cells key ≡ Some (cell_at cells key) =
              cell_is cells key (subst (λ k. k < length cells) (sym here) (o.within place (omega (arith, low)))) in
              alike_trans dimension _ (size_of (size_at a) (cell_at cells key)) _ (one key (cell_at cells key) is settled)
              (alike_trans dimension _ (size_of (size_at b) (cell_at cells key)) _
              (size_of-alike dimension (size_at a) (size_at b) (cell_at cells key) (λ k entry found.
              before entry.1.child.0 (o.behind place entry.1.child.0 (omega (arith, low))
              (subst (λ c. Uses cells c entry.1.child.0) here
              (record { cell = cell_at cells key; is = is; k = k; entry = entry; stands = found; child = refl })))))
              (alike_sym dimension _ _ (other key (cell_at cells key) is settled)))
        ]

    -- the children of the next cell keep within the limit
    pub children_fit : (place : ℕ) (sizes : List Size) → place < length order → AreSettled dimension cells first order place sizes
        → (cell : CellState) → slice_get cells (at order place) ≡ Some cell → AreChildrenWithin dimension (size_at sizes) cell.uses
    children_fit place sizes before settled cell is k entry stands =
        settled.within entry.1.child.0 (o.behind place entry.1.child.0 before
        (record { cell = cell; is = is; k = k; entry = entry; stands = stands; child = refl }))

    module _ (place : ℕ) (old new : List Size) (before : place < length order) (long : length old ≡ length cells)
        (sets : (cell : CellState) → slice_get cells (at order place) ≡ Some cell
        → SetsDimension dimension (at order place) (size_of (size_at old) cell) old new) where
      here_is : slice_get cells (at order place) ≡ Some (cell_at cells (at order place))
      here_is = cell_is cells (at order place) (o.within place before)

      inside : at order place < length old
      inside = omega (arith, o.within place before, long)

      -- the value of one more is set
      pub set_right : AreRightTo dimension cells first order place old → AreRightTo dimension cells first order (suc place) new
      set_right right =
          right_next place old new before (λ key differs. set_apart dimension (at order place) _ old new (sets _ here_is) key differs)
          (λ cell is. set_value dimension (at order place) _ old new (sets cell is) inside) right

      pub set_kept : (initial : List Size) → AreKept dimension first initial old → AreKept dimension first initial new
      set_kept initial kept =
          record {
            kept = λ key low.
                set_apart dimension (at order place) _ old new (sets _ here_is) key (settled_apart place key before (inl low)) ∙ kept.kept key low;
            others = λ other differs key.
                alike_trans other _ (size_at old key) _ (set_other other dimension (at order place) _ old new (sets _ here_is) inside differs key)
                (kept.others other differs key);
          }

      -- and keeps within the limit
      pub set_settled : AreSettled dimension cells first order place old → IsWithin dimension (size_at new (at order place))
          → AreSettled dimension cells first order (suc place) new
      set_settled settled fits =
          record {
            right = set_right settled.right;
            within = λ key is. elim (cases_eq key (at order place)) [
              | inl same ↦ subst (λ k. IsWithin dimension (size_at new k)) (sym same) fits
              | inr differs ↦
                  subst (IsWithin dimension) (sym (set_apart dimension (at order place) _ old new (sets _ here_is) key differs))
                  (settled.within key (settled_less first order place key differs is))
            ];
          }

      -- or doesn't
      pub set_stops : AreSettled dimension cells first order place old → (IsWithin dimension (size_at new (at order place)) → ⊥)
          → StopsAt dimension cells first order new
      set_stops settled passes = record { place = place; before = before; right = set_right settled.right; passes = passes }

    -- what is right of the cells that were there is so where their sizes are kept
    pub start_again : (a b : List Size) → ((key : ℕ) → key < first → size_at b key ≡ size_at a key) → AreSettled dimension cells first order 0 a
        → AreSettled dimension cells first order 0 b
    start_again a b same settled =
        record {
          right = λ key cell is s. right_again key cell is (only_old key s);
          within = λ key s. subst (IsWithin dimension) (sym (same key (only_old key s))) (settled.within key s);
        }
      where
        only_old : (key : ℕ) → IsSettled first order 0 key → key < first
        only_old key (inl old) = old
        only_old key (inr none) = absurd (omega (arith, none.before))

        right_again : (key : ℕ) (cell : CellState) → slice_get cells key ≡ Some cell → key < first
            → AreAlike dimension (size_at b key) (size_of (size_at b) cell)
        right_again key cell is old =
            alike_trans dimension _ (size_at a key) _ (alike_refl dimension _ _ (same key old))
            (alike_trans dimension _ (size_of (size_at a) cell) _ (settled.right key cell is (inl old))
            (size_of-alike dimension (size_at a) (size_at b) cell (λ k entry found. alike_refl dimension _ _
            (sym (same entry.1.child.0 (o.old key entry.1.child.0 old
            (record { cell = cell; is = is; k = k; entry = entry; stands = found; child = refl })))))))

  -- the sizes that the cells have, worked out up to a place of the order in all dimensions
  exact : List Size → ℕ → List Size
  exact sizes zero = sizes
  exact sizes (suc place) = slice_set (exact sizes place) (at order place) (size_of (size_at (exact sizes place)) (cell_at cells (at order place)))

  length-exact : (sizes : List Size) (place : ℕ) → length (exact sizes place) ≡ length sizes
  unfolding exact
  length-exact sizes zero = refl
  length-exact sizes (suc place) = length-set (exact sizes place) (at order place) _ ∙ length-exact sizes place

  exact-old : (sizes : List Size) (place key : ℕ) → place ≤ length order → key < first → size_at (exact sizes place) key ≡ size_at sizes key
  unfolding exact
  exact-old sizes zero key low old = refl
  exact-old sizes (suc place) key low old =
      get_or-set_other (exact sizes place) (at order place) key _ no_size (settled_apart place key (omega (arith, low)) (inl old))
      ∙ exact-old sizes place key (omega (arith, low)) old

  exact-right : (dimension : Dimension) (sizes : List Size) (place : ℕ) → length sizes ≡ length cells → place ≤ length order
      → AreRightTo dimension cells first order 0 sizes
      → AreRightTo dimension cells first order place (exact sizes place)
  unfolding exact
  exact-right dimension sizes zero long low right = right
  exact-right dimension sizes (suc place) long low right =
      right_next dimension place (exact sizes place) _ (omega (arith, low))
      (λ key differs. get_or-set_other (exact sizes place) (at order place) key _ no_size differs)
      (λ cell is. alike_refl dimension _ _
      (get_or-set_same (exact sizes place) (at order place) _ no_size (omega (arith, o.within place (omega (arith, low)), long, length-exact sizes place))
      ∙ ap (size_of (size_at (exact sizes place))) (let e : cell_at cells (at order place) ≡ cell = same_cell cell is in e)))
      (exact-right dimension sizes place long (omega (arith, low)) right)
    where
      same_cell : (cell : CellState) → slice_get cells (at order place) ≡ Some cell → cell_at cells (at order place) ≡ cell
      same_cell cell is = let there = cell_is cells (at order place) (slice_get_within cells (at order place) cell is) in cc

  -- All sizes that are right in all dimensions are right.
  pub right_all : (sizes : List Size) → ((dimension : Dimension) → AreRightTo dimension cells first order (length order) sizes) → AreSizes cells sizes
  right_all sizes right key cell is = alike_all _ _ (λ dimension. right dimension key cell is (all_settled key (slice_get_within cells key cell is)))

  -- and within the limits, where the settled ones are
  pub within_all : (dimension : Dimension) (sizes : List Size) → length sizes ≡ length cells → AreSettled dimension cells first order (length order) sizes
      → (key : ℕ) → IsWithin dimension (size_at sizes key)
  within_all dimension sizes long settled key =
      elim (cases_lt key (length cells)) [
        | inl inside ↦ settled.within key (all_settled key inside)
        | inr past ↦ subst (IsWithin dimension) (sym (get_or_past sizes key no_size (omega (arith, past, long)))) (none_within dimension)
      ]

  module _ (sizes : List Size) (long : length sizes ≡ length cells) (old : (dimension : Dimension) → AreSettled dimension cells first order 0 sizes) where
    truth : List Size
    truth = exact sizes (length order)

    truth_right : (dimension : Dimension) → AreRightTo dimension cells first order (length order) truth
    unfolding truth
    truth_right dimension = exact-right dimension sizes (length order) long (omega arith) (old dimension).right

    truth_old : (key : ℕ) → key < first → size_at truth key ≡ size_at sizes key
    unfolding truth
    truth_old key low = exact-old sizes (length order) key (omega arith) low

    truth_long : length truth ≡ length cells
    unfolding truth
    truth_long = length-exact sizes (length order) ∙ long

    truth_agrees : (dimension : Dimension) (place : ℕ) (next : List Size) → place ≤ length order
        → ((key : ℕ) → key < first → size_at next key ≡ size_at sizes key)
        → AreRightTo dimension cells first order place next → (key : ℕ) → IsSettled first order place key
        → AreAlike dimension (size_at next key) (size_at truth key)
    truth_agrees dimension place next low kept worked key settled =
        agree dimension place next truth low (λ k low. alike_refl dimension _ _ (kept k low ∙ sym (truth_old k low))) worked
        (right_less dimension place (length order) truth low (truth_right dimension)) key settled

    -- what was worked out in a dimension and keeps within its limit shows that of the right sizes
    truth_within : (dimension : Dimension) (next : List Size) → ((key : ℕ) → key < first → size_at next key ≡ size_at sizes key)
        → AreSettled dimension cells first order (length order) next → (key : ℕ) → IsWithin dimension (size_at truth key)
    truth_within dimension next kept settled key =
        within_all dimension truth truth_long (record {
          right = truth_right dimension;
          within = λ k is. alike_within dimension (size_at next k) (size_at truth k)
              (truth_agrees dimension (length order) next (omega arith) kept settled.right k is) (settled.within k is);
        }) key

    truth_passes : (dimension : Dimension) (next : List Size) → ((key : ℕ) → key < first → size_at next key ≡ size_at sizes key)
        → (stops : StopsAt dimension cells first order next)
        → IsWithin dimension (size_at truth (at order stops.place)) → ⊥
    truth_passes dimension next kept stops within =
        stops.passes (alike_within dimension (size_at truth (at order stops.place)) (size_at next (at order stops.place))
        (alike_sym dimension _ _ (truth_agrees dimension (suc stops.place) next (omega (arith, stops.before)) kept stops.right (at order stops.place)
        (settled_here first order stops.place))) within)

    -- A limit that is passed as sizes are worked out is passed by the sizes that the cells have.
    passes_all : (dimension : Dimension) (next : List Size) → ((key : ℕ) → key < first → size_at next key ≡ size_at sizes key)
        → StopsAt dimension cells first order next
        → ((other : Dimension) → ComesBefore other dimension → (key : ℕ) → IsWithin other (size_at truth key)) → PassesWithAll dimension cells
    passes_all dimension next kept stops earlier =
        record {
          acyclic = right_acyclic cells truth (right_all truth truth_right);
          sizes = truth;
          count = truth_long;
          right = right_all truth truth_right;
          cell = at order stops.place;
          there = o.within stops.place stops.before;
          passes = truth_passes dimension next kept stops;
          before = earlier;
        }

    module _ {deep : List Size} (k : AreKept Depth first sizes deep) where
      -- the first dimension is passed
      pub passes_one : StopsAt Depth cells first order deep → PassesWithAll Depth cells
      passes_one stops = passes_all Depth deep k.kept stops none
        where
          none : (other : Dimension) → ComesBefore other Depth → (key : ℕ) → IsWithin other (size_at truth key)
          none Depth comes key = absurd comes
          none Elements comes key = absurd comes
          none Hull comes key = absurd comes

      module _ {many : List Size} (done : AreSettled Depth cells first order (length order) deep) (l : AreKept Elements first deep many) where
        kept_two : (key : ℕ) → key < first → size_at many key ≡ size_at sizes key
        kept_two key low = l.kept key low ∙ k.kept key low

        -- the second is
        pub passes_two : StopsAt Elements cells first order many → PassesWithAll Elements cells
        passes_two stops = passes_all Elements many kept_two stops one
          where
            one : (other : Dimension) → ComesBefore other Elements → (key : ℕ) → IsWithin other (size_at truth key)
            one Depth comes key = truth_within Depth deep k.kept done key
            one Elements comes key = absurd comes
            one Hull comes key = absurd comes

        module _ {wide : List Size} (more : AreSettled Elements cells first order (length order) many) (m : AreKept Hull first many wide) where
          pub sized_kept : (key : ℕ) → key < first → size_at wide key ≡ size_at sizes key
          sized_kept key low = m.kept key low ∙ kept_two key low

          -- the third is
          pub passes_three : StopsAt Hull cells first order wide → PassesWithAll Hull cells
          passes_three stops = passes_all Hull wide sized_kept stops two
            where
              two : (other : Dimension) → ComesBefore other Hull → (key : ℕ) → IsWithin other (size_at truth key)
              two Depth comes key = truth_within Depth deep k.kept done key
              two Elements comes key = truth_within Elements many kept_two more key
              two Hull comes key = absurd comes

          depths : (key : ℕ) → AreAlike Depth (size_at wide key) (size_at deep key)
          depths key = m.others Depth (λ e. absurd (cc)) key ∙ l.others Depth (λ e. absurd (cc)) key

          elements : (key : ℕ) → AreAlike Elements (size_at wide key) (size_at many key)
          elements key = m.others Elements (λ e. absurd (cc)) key

          module _ (whole : AreSettled Hull cells first order (length order) wide) where
            -- no dimension is passed
            settled_all : (dimension : Dimension) → AreSettled dimension cells first order (length order) wide
            settled_all Depth =
                record {
                  right = right_alike Depth (length order) deep wide depths done.right;
                  within = λ key is. alike_within Depth (size_at deep key) (size_at wide key) (sym (depths key)) (done.within key is);
                }
            settled_all Elements =
                record {
                  right = right_alike Elements (length order) many wide elements more.right;
                  within = λ key is. alike_within Elements (size_at many key) (size_at wide key) (sym (elements key)) (more.within key is);
                }
            settled_all Hull = whole

            pub sized_right : AreSizes cells wide
            sized_right = right_all wide (λ dimension. (settled_all dimension).right)

            pub sized_within : length wide ≡ length cells → (dimension : Dimension) (key : ℕ) → IsWithin dimension (size_at wide key)
            sized_within as_many dimension key = within_all dimension wide as_many (settled_all dimension) key
