-- The walk over numbers finds the first fault of the records.
use Rattle.element_tree.proofs.Common.{◌≡◌, ℕ, zero, suc, ◌<◌, ◌+◌, ◌==◌, Bool, true, false, cond, Option, Some, None, List, [], ◌∷◌, length, map}
use Rattle.element_tree.proofs.Common.{get_or, inl, inr, refl, sym, ◌∙◌, ap, subst, arith, common_steps, eqb-true, length-map, get_or-map}
use Rattle.element_tree.proofs.Common.{slice_get-get_or, bytes_eq-Decides, list_any, position, option_map, option_or, bytes_eq, In, Distinct}
use Rattle.element_tree.proofs.Common.{UsePlace, WalkFault, NoCellAt, CycleAt, NoMemory, uses_of, number_fault, UseRec, CellExt, FlatFault, ext_of}
use Rattle.element_tree.proofs.Common.{cells_of, goals_in, goal_graph}
use Rattle.std.proofs.Common.{◌||◌}
use Rattle.std.specs.Prelude.{slice_get}
use Rattle.element_tree.specs.steps.Walks.{fault_from, fault_below}
use Rattle.circuit_model.specs.declared.faults.FlatFault.TheVariants.{NoCell, Cycle, Memory}
use Rattle.circuit_model.specs.FlatNodes.{is_among}
use Rattle.circuit_model.specs.Refusals.{first_fault, use_fault, walk_fault}
use Rattle.element_tree.proofs.Cells.{no_number, numbered, one_number, found_cell}

-- the cell that a use names
abbrev pub cell_of_use : Option UseRec → List ℕ
cell_of_use None = []
cell_of_use (Some used) = used.cell

abbrev pub cell_named : List CellExt → CellExt → UsePlace → List ℕ
cell_named exts top place = cell_of_use (slice_get (get_or exts place.cell top).uses place.at)

-- the fault of the records, by the cell that the use names
abbrev pub fault_named : List CellExt → CellExt → WalkFault → FlatFault
fault_named exts top (NoCellAt place) = NoCell (cell_named exts top place)
fault_named exts top (CycleAt place) = Cycle (cell_named exts top place)
fault_named exts top NoMemory = Memory

-- what a use gives, whose cell has this record
abbrev pub at_use : ℕ → List CellExt → List (List ℕ) → List ℕ → Option CellExt → Option FlatFault
at_use depth exts names cell found =
    elim found [
      | None ↦ Some (NoCell cell)
      | Some child ↦ cond (is_among names cell) (Some (Cycle cell)) (use_fault depth exts (cell ∷ names) child)
    ]

joined : (f : WalkFault → FlatFault) (t : Bool) (b w : Option WalkFault) (fault : FlatFault) (walk : WalkFault) → f walk ≡ fault
    → option_or (cond t (Some fault) (option_map f b)) (option_map f w) ≡ option_map f (cond t (Some walk) (option_or b w))
joined f true b w fault walk e = ap Some (sym e)
joined f false None w fault walk e = refl
joined f false (Some x) w fault walk e = refl

module _ (exts : List CellExt) (top : CellExt) (once : Distinct (cells_of exts)) where
  abbrev pub graph : List (List (Option ℕ))
  graph = goal_graph (cells_of exts) exts

  test_same : (a b : ℕ) → a < length exts → b < length exts → bytes_eq (get_or exts b top).cell (get_or exts a top).cell ≡ (a == b)
  test_same a b h k = step (a == b) refl
    where
      equal : a ≡ b → bytes_eq (get_or exts b top).cell (get_or exts a top).cell ≡ true
      equal e = (bytes_eq-Decides (get_or exts b top).cell (get_or exts a top).cell).1 (ap (λ z. (get_or exts z top).cell) (sym e))

      differ : (t : Bool) → bytes_eq (get_or exts b top).cell (get_or exts a top).cell ≡ t → (a == b) ≡ false → t ≡ false
      differ false e f = refl
      differ true e f =
          let same = one_number exts top once b a k h ((bytes_eq-Decides (get_or exts b top).cell (get_or exts a top).cell).0 e) in
          absurd (let g : (a == b) ≡ true = grind (arith, common_steps) in cc)

      step : (t : Bool) → (a == b) ≡ t → bytes_eq (get_or exts b top).cell (get_or exts a top).cell ≡ t
      step true e = equal (eqb-true a b e)
      step false e = differ (bytes_eq (get_or exts b top).cell (get_or exts a top).cell) refl e

  tests_same : (open_cells : List ℕ) (child : ℕ) → ((x : ℕ) → In x open_cells → x < length exts) → child < length exts
      → list_any (bytes_eq (get_or exts child top).cell) (map (λ x. (get_or exts x top).cell) open_cells) ≡ list_any (λ x. x == child) open_cells
  tests_same [] child within h = refl
  tests_same (x ∷ open_cells) child within h =
      ap (λ t. t || list_any (bytes_eq (get_or exts child top).cell) (map (λ x. (get_or exts x top).cell) open_cells)) (test_same x child (within x
      (inl refl)) h)
      ∙ ap (λ t. (x == child) || t) (tests_same open_cells child (λ y k. within y (inr k)) h)

  -- the uses from one on, where what is found below each child is right
  uses_same : (depth : ℕ) (open_cells : List ℕ) (cell at : ℕ) (uses : List UseRec)
      → ((k : ℕ) → slice_get uses k ≡ slice_get (get_or exts cell top).uses (at + k))
      → ((x : ℕ) → In x open_cells → x < length exts)
      → ((child : ℕ) → child < length exts
      → use_fault depth exts (map (λ x. (get_or exts x top).cell) (child ∷ open_cells)) (get_or exts child top)
      ≡ option_map (fault_named exts top) (fault_below depth graph (child ∷ open_cells) child))
      → first_fault (λ used. at_use depth exts (map (λ x. (get_or exts x top).cell) open_cells) used.cell (ext_of exts used.cell)) uses
      ≡ option_map (fault_named exts top)
      (fault_from (λ child. fault_below depth graph (child ∷ open_cells) child) open_cells cell at (map (λ used. position (bytes_eq used.cell)
      (cells_of exts)) uses))
  uses_same depth open_cells cell at [] places within right = refl
  uses_same depth open_cells cell at (u ∷ uses) places within right =
      step (position (bytes_eq u.cell) (cells_of exts)) refl
      (uses_same depth open_cells cell (suc at) uses
      (λ k. places (suc k) ∙ ap (slice_get (get_or exts cell top).uses) (let e : at + suc k ≡ suc at + k = omega arith in e)) within right)
    where
      names : List (List ℕ)
      names = map (λ x. (get_or exts x top).cell) open_cells

      goals : List (Option ℕ)
      goals = map (λ used. position (bytes_eq used.cell) (cells_of exts)) uses

      here : at + 0 ≡ at
      here = omega arith

      name : u.cell ≡ cell_named exts top (record { cell = cell; at = at })
      name = ap cell_of_use (places 0 ∙ ap (slice_get (get_or exts cell top).uses) here)

      rest : Option FlatFault
      rest = first_fault (λ used. at_use depth exts names used.cell (ext_of exts used.cell)) uses

      walk : Option WalkFault
      walk = fault_from (λ child. fault_below depth graph (child ∷ open_cells) child) open_cells cell (suc at) goals

      step : (goal : Option ℕ) → position (bytes_eq u.cell) (cells_of exts) ≡ goal → rest ≡ option_map (fault_named exts top) walk
          → option_or (at_use depth exts names u.cell (ext_of exts u.cell)) rest
          ≡ option_map (fault_named exts top) (fault_from (λ child. fault_below depth graph (child ∷ open_cells) child) open_cells cell at (goal ∷ goals))
      step None e more =
          ap (λ o. option_or (at_use depth exts names u.cell o) rest) (no_number exts u.cell e)
          ∙ ap (λ n. Some (NoCell n)) name
      step (Some child) e more =
          let is = numbered exts u.cell child e in
          let found : ext_of exts u.cell ≡ Some (get_or exts child top) = is.1 ∙ slice_get-get_or exts child top is.0 in
          let same = found_cell exts u.cell (get_or exts child top) found in
          let below = fault_below depth graph (child ∷ open_cells) child in
          ap (λ o. option_or (at_use depth exts names u.cell o) rest) found
          ∙ ap (λ z. option_or (at_use depth exts names z (Some (get_or exts child top))) rest) (sym same)
          ∙ ap (λ t. option_or (cond t (Some (Cycle (get_or exts child top).cell)) (use_fault depth exts ((get_or exts child top).cell ∷ names)
          (get_or exts child top))) rest)
          (tests_same open_cells child within is.0)
          ∙ ap (λ o. option_or (cond (list_any (λ x. x == child) open_cells) (Some (Cycle (get_or exts child top).cell)) o) rest) (right child is.0)
          ∙ ap (λ r. option_or (cond (list_any (λ x. x == child) open_cells) (Some (Cycle (get_or exts child top).cell)) (option_map
          (fault_named exts top) below)) r) more
          ∙ joined (fault_named exts top) (list_any (λ x. x == child) open_cells) below walk (Cycle (get_or exts child top).cell) (CycleAt
          (record { cell = cell; at = at }))
          (ap Cycle (sym name ∙ sym same))

  pub uses_at : (cell : ℕ) → cell < length exts → uses_of graph cell ≡ goals_in (cells_of exts) (get_or exts cell top)
  uses_at cell h = get_or-map (goals_in (cells_of exts)) exts cell top [] h

  walk_same : (depth : ℕ) (open_cells : List ℕ) (cell : ℕ) → cell < length exts → ((x : ℕ) → In x open_cells → x < length exts)
      → use_fault depth exts (map (λ x. (get_or exts x top).cell) open_cells) (get_or exts cell top)
      ≡ option_map (fault_named exts top) (fault_below depth graph open_cells cell)
  unfolding use_fault fault_below
  walk_same zero open_cells cell h within = refl
  walk_same (suc depth) open_cells cell h within =
      uses_same depth open_cells cell 0 (get_or exts cell top).uses
      (λ k. ap (slice_get (get_or exts cell top).uses) (let e : k ≡ 0 + k = omega arith in e)) within
      (λ child k. walk_same depth (child ∷ open_cells) child k (λ x. elim [ inl e ↦ subst (λ z. z < length exts) e k | inr l ↦ within x l ]))
      ∙ ap (λ goals. option_map (fault_named exts top) (fault_from (λ child. fault_below depth graph (child ∷ open_cells) child) open_cells cell 0 goals))
      (sym (uses_at cell h))

  -- the fault of the walk over numbers is that of the records
  pub walks_find : (root : ℕ) → root < length exts
      → walk_fault exts (get_or exts root top) ≡ option_map (fault_named exts top) (number_fault graph root)
  walks_find root h =
      walk_same (suc (length exts)) (root ∷ []) root h (λ x. elim [ inl e ↦ subst (λ z. z < length exts) e h | inr k ↦ absurd k ])
      ∙ ap (λ n. option_map (fault_named exts top) (fault_below (suc n) graph (root ∷ []) root)) (sym (length-map exts (goals_in (cells_of exts))))
