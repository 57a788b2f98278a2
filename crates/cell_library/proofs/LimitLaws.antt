-- Limits of libraries, as what is seen of them tells them, and as their trees do.
use Rattle.cell_library.proofs.Common.{◌≡◌, ℕ, List, [], ◌∷◌, length, refl, sym, subst, ◌∙◌, arith, inl, inr, slice_set, cases_lt, length-set}
use Rattle.cell_library.proofs.Common.{Dimension, IsAbove, CellState, AreSizes, IsWithin, size_at, ComesBefore, Tree, IsLawfulTree, WouldPass}
use Rattle.cell_library.proofs.Common.{AreStatesOf, GoesPast, CellView, LibraryView}
use Rattle.cell_library.proofs.BoxLaws.{own_box_unique}
use Rattle.cell_library.proofs.SizeLaws.{HaveChildren, one_size, others_stay, tree_children, past_last, none_within}
use Rattle.cell_library.proofs.ViewLaws.{length-states}

-- cells have one list of states
pub states_unique : (cells : List CellView) (a b : List CellState) → AreStatesOf cells a → AreStatesOf cells b → a ≡ b
states_unique [] [] [] one two = refl
states_unique [] [] (t ∷ b) one two = absurd two
states_unique [] (s ∷ a) b one two = absurd one
states_unique (cell ∷ cells) [] b one two = absurd one
states_unique (cell ∷ cells) (s ∷ a) [] one two = absurd two
states_unique (cell ∷ cells) (s ∷ a) (t ∷ b) one two =
    let own : s.own ≡ t.own = own_box_unique cell.own cell.labels s.own t.own one.0 two.0 in
    let uses : s.uses ≡ t.uses = one.1 ∙ sym two.1 in
    let rest : a ≡ b = states_unique cells a b one.2 two.2 in
    λ i. record { own = own i; uses = uses i } ∷ rest i

-- a library whose tree is lawful goes past no limit
pub never_past : (view : LibraryView) (tree : Tree) (dimension : Dimension) → IsLawfulTree tree → AreStatesOf view.cells tree.cells → GoesPast dimension view
    → ⊥
never_past view tree dimension lawful are goes =
    let same : goes.states ≡ tree.cells = states_unique view.cells goes.states tree.cells goes.are_states are in
    let right : AreSizes tree.cells goes.sizes = subst (λ (cells : List CellState). AreSizes cells goes.sizes) same goes.are_sizes in
    let long = length-states view.cells tree.cells are in
    let there = goes.there in
    goes.past (subst (IsWithin dimension)
    (one_size tree.cells tree.sizes goes.sizes (tree_children tree lawful) lawful.sizes.right right goes.cell (omega arith))
    (lawful.sizes.within dimension goes.cell))

-- what the tree says would go past a limit does
pub would_go_past : (view : LibraryView) (tree : Tree) (cell : ℕ) (state : CellState) (dimension : Dimension)
    → AreStatesOf view.cells (slice_set tree.cells cell state) → WouldPass dimension tree cell state → GoesPast dimension view
would_go_past view tree cell state dimension are passes =
    let key = passes.passes.key in
    let long = length-states view.cells (slice_set tree.cells cell state) are in
    let kept : length (slice_set tree.cells cell state) ≡ length tree.cells = length-set tree.cells cell state in
    let count = passes.count in
    record {
      states = slice_set tree.cells cell state;
      are_states = are;
      sizes = passes.sizes;
      are_sizes = passes.right;
      cell = key;
      there = elim (cases_lt key (length tree.cells)) [
        | inl below ↦ omega arith
        | inr past ↦ absurd (passes.passes.passes (subst (IsWithin dimension) (sym (past_last passes.sizes key (omega arith))) (none_within dimension)))
      ];
      past = passes.passes.passes;
    }

-- and no limit that is looked at before
pub none_before : (view : LibraryView) (tree : Tree) (cell : ℕ) (state : CellState) (dimension other : Dimension) → IsLawfulTree tree
    → HaveChildren (slice_set tree.cells cell state) → AreStatesOf view.cells (slice_set tree.cells cell state)
    → ComesBefore other dimension → WouldPass dimension tree cell state → GoesPast other view → ⊥
none_before view tree cell state dimension other lawful children are before passes goes =
    let changed = slice_set tree.cells cell state in
    let same : goes.states ≡ changed = states_unique view.cells goes.states changed goes.are_states are in
    let right : AreSizes changed goes.sizes = subst (λ (cells : List CellState). AreSizes cells goes.sizes) same goes.are_sizes in
    let long = length-states view.cells changed are in
    let kept : length changed ≡ length tree.cells = length-set tree.cells cell state in
    let there = goes.there in
    let size : size_at passes.sizes goes.cell ≡ size_at goes.sizes goes.cell =
    one_size changed passes.sizes goes.sizes children passes.right right goes.cell (omega arith) in
    let past : IsWithin other (size_at passes.sizes goes.cell) → ⊥ = λ within. goes.past (subst (IsWithin other) size within) in
    let apart : IsAbove tree.cells cell goes.cell → ⊥ = λ above. past (passes.passes.before other before goes.cell above) in
    past (subst (IsWithin other)
    (others_stay tree.cells cell state tree.sizes passes.sizes (tree_children tree lawful) lawful.sizes.right passes.right goes.cell (omega arith) apart)
    (lawful.sizes.within other goes.cell))
