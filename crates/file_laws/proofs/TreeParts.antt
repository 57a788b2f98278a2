-- The parts of the flat layout of a tree: those of the cell's own layout, and those of its elements.
use Rattle.file_laws.proofs.Common.{◌≡◌, ◌⊎◌, ℕ, ℤ, List, [], ◌∷◌, map, inl, inr, refl, sym, subst, In, Square, Transform, image, inverted, RawTech}
use Rattle.file_laws.proofs.Common.{is_subset, cell_tree, UseBody, displacements, place_at, HoldsPart, elements_of_use, IsBit, HoldsPartOfTree}
use Rattle.std.specs.Prelude.{true}
use Rattle.layout_model.specs.CellTrees.{CellTree, Elements, OwnCell, place_back}
use Rattle.layout_model.specs.FlatSets.{flat_sets, sets_below, sets_in}
use Rattle.cif_writing.specs.CellLibrary.LayoutTrees.{element_transform, elements_at, elements_from}
use Rattle.file_laws.proofs.BitParts.{part_in_first, part_in_none, part_in_second, part_in_union}

-- On some plane the elements have the part.
abbrev pub HoldsPartBelow : RawTech → Elements → ℕ → Square → Type 0
HoldsPartBelow raw elements part square = (plane : ℕ) × (is_subset part (sets_below raw elements (place_at plane square)) ≡ true)

-- An element of the tree, which stands so, has the part at the square.
abbrev pub HoldsPartThere : RawTech → CellTree → ℕ → Square → Transform → Type 0
HoldsPartThere raw tree part square element = HoldsPartOfTree raw tree part (image (inverted element) square)

-- An element of one of the uses has the part.
abbrev pub HoldsPartInUse : RawTech → (ℕ → CellTree) → List (List ℕ × UseBody) → ℕ → Square → Type 0
HoldsPartInUse raw trees uses part square =
    (entry : List ℕ × UseBody) × (In entry uses × ((element : Transform) × (In element (elements_of_use entry.1)
    × HoldsPartThere raw (trees entry.1.child.0) part square element)))

module _ (raw : RawTech) (part : ℕ) (bit : IsBit part) where
  -- ---- a tree

  -- the cell's own layout has what its tree has, or its elements have it
  pub tree_open : (own : OwnCell) (elements : Elements) (square : Square) → HoldsPartOfTree raw (cell_tree own elements) part square
      → HoldsPart raw own.layout part square ⊎ HoldsPartBelow raw elements part square
  tree_open own elements square (plane, is) =
      let place = place_at plane square in
      elim (part_in_union part bit (sets_in raw own.layout place) (sets_below raw elements place) is) [
        | inl here ↦ inl (plane, here)
        | inr below ↦ inr (plane, below)
      ]

  -- the tree has what the cell's own layout has
  pub own_holds : (own : OwnCell) (elements : Elements) (square : Square) → HoldsPart raw own.layout part square
      → HoldsPartOfTree raw (cell_tree own elements) part square
  own_holds own elements square (plane, is) =
      let place = place_at plane square in
      (plane, part_in_first part bit (sets_in raw own.layout place) (sets_below raw elements place) is)

  -- and what its elements have
  pub below_holds : (own : OwnCell) (elements : Elements) (square : Square) → HoldsPartBelow raw elements part square
      → HoldsPartOfTree raw (cell_tree own elements) part square
  below_holds own elements square (plane, is) =
      let place = place_at plane square in
      (plane, part_in_second part bit (sets_in raw own.layout place) (sets_below raw elements place) is)

  -- ---- the elements of a use

  module _ (tree : CellTree) (placed : Transform) where
    steps_open : (steps : List (ℤ × ℤ)) (rest : Elements) (square : Square) → HoldsPartBelow raw (elements_at tree placed steps rest) part square
        → ((element : Transform) × (In element (map (element_transform placed) steps) × HoldsPartThere raw tree part square element))
        ⊎ HoldsPartBelow raw rest part square
    steps_open [] rest square holds = inr holds
    steps_open (step ∷ steps) rest square (plane, is) =
        let element = element_transform placed step in
        let place = place_at plane square in
        elim (part_in_union part bit (flat_sets raw tree (place_back element place)) (sets_below raw (elements_at tree placed steps rest) place) is) [
          | inl here ↦ inl (element, (inl refl, (plane, here)))
          | inr later ↦ elim (steps_open steps rest square (plane, later)) [
            | inl found ↦ inl (found.0, (inr found.1.0, found.1.1))
            | inr past ↦ inr past
          ]
        ]

    one_more_holds : (step : ℤ × ℤ) (steps : List (ℤ × ℤ)) (rest : Elements) (square : Square)
        → HoldsPartBelow raw (elements_at tree placed steps rest) part square → HoldsPartBelow raw (elements_at tree placed (step ∷ steps) rest) part square
    one_more_holds step steps rest square (plane, is) =
        let place = place_at plane square in (
          plane,
          part_in_second part bit (flat_sets raw tree (place_back (element_transform placed step) place))
              (sets_below raw (elements_at tree placed steps rest) place) is,
        )

    rest_holds : (steps : List (ℤ × ℤ)) (rest : Elements) (square : Square) → HoldsPartBelow raw rest part square
        → HoldsPartBelow raw (elements_at tree placed steps rest) part square
    rest_holds [] rest square holds = holds
    rest_holds (step ∷ steps) rest square holds = one_more_holds step steps rest square (rest_holds steps rest square holds)

    step_holds : (steps : List (ℤ × ℤ)) (rest : Elements) (square : Square) (element : Transform) → In element (map (element_transform placed) steps)
        → HoldsPartThere raw tree part square element → HoldsPartBelow raw (elements_at tree placed steps rest) part square
    step_holds [] rest square element among holds = absurd among
    step_holds (step ∷ steps) rest square element (inl same) holds =
        let here = subst (HoldsPartThere raw tree part square) (sym same) holds in
        let place = place_at here.0 square in (
          here.0,
          part_in_first part bit (flat_sets raw tree (place_back (element_transform placed step) place))
              (sets_below raw (elements_at tree placed steps rest) place) here.1,
        )
    step_holds (step ∷ steps) rest square element (inr later) holds =
        one_more_holds step steps rest square (step_holds steps rest square element later holds)

  -- ---- the elements of all uses

  -- an element of one of the uses has what the elements have
  pub uses_open : (trees : ℕ → CellTree) (uses : List (List ℕ × UseBody)) (square : Square) → HoldsPartBelow raw (elements_from trees uses) part square
      → HoldsPartInUse raw trees uses part square
  uses_open trees [] square (plane, is) = absurd (part_in_none part bit is)
  uses_open trees (entry ∷ rest) square holds =
      elim (steps_open (trees entry.1.child.0) entry.1.placed (displacements entry.1.grid) (elements_from trees rest) square holds) [
        | inl found ↦ (entry, (inl refl, found))
        | inr later ↦ (let found = uses_open trees rest square later in (found.0, (inr found.1.0, found.1.1)))
      ]

  -- and the elements have what one of them has
  pub use_holds : (trees : ℕ → CellTree) (uses : List (List ℕ × UseBody)) (square : Square) → HoldsPartInUse raw trees uses part square
      → HoldsPartBelow raw (elements_from trees uses) part square
  use_holds trees [] square (entry, (among, found)) = absurd among
  use_holds trees (first ∷ rest) square (entry, (inl same, found)) =
      let here : (element : Transform) × (In element (elements_of_use first.1) × HoldsPartThere raw (trees first.1.child.0) part square element) =
      subst (λ (e : List ℕ × UseBody). (element : Transform) × (In element (elements_of_use e.1)
      × HoldsPartThere raw (trees e.1.child.0) part square element)) (sym same) found in
      step_holds (trees first.1.child.0) first.1.placed (displacements first.1.grid) (elements_from trees rest) square here.0 here.1.0 here.1.1
  use_holds trees (first ∷ rest) square (entry, (inr later, found)) =
      rest_holds (trees first.1.child.0) first.1.placed (displacements first.1.grid) (elements_from trees rest) square
      (use_holds trees rest square (entry, (later, found)))
