-- A lawful library gets the cells that another one has more, where these use none of those before them.
use Rattle.undo_log.proofs.Common.{◌≡◌, ◌<◌, ◌≤◌, ℕ, zero, suc, List, [], ◌∷◌, ◌++◌, length, map, drop, refl, sym, ap, subst, ◌∙◌, inl, inr, arith}
use Rattle.undo_log.proofs.Common.{All, Option, None, Some, slice_get, slice_index_or, length-append, map-append, Distinct, Dimension, UseBody, Held}
use Rattle.undo_log.proofs.Common.{IsLawfulLibrary, IsLawfulScale, LibraryParts, CellView}
use Rattle.std.proofs.lemmas.Bool.{cases_lt}
use Rattle.std.proofs.lemmas.List.{length-drop, length-map, get_or_append_left}
use Rattle.std.proofs.lemmas.List.Elements.{All-append, All-drop}
use Rattle.geo_core.proofs.FiniteSets.Places.{slice_get-append_front}
use Rattle.cell_tree.specs.declared.limits.TheConstants.{MOST_USES}
use Rattle.cell_tree.specs.declared.sizes.Size.{Size}
use Rattle.cell_tree.specs.Sizes.{CellState, AreSizes, AreUsesBelow, IsWithin, no_size, size_at}
use Rattle.cell_tree.specs.Trees.{IsLawfulCell, IsLawfulTree, Tree, stamp_at}
use Rattle.edit_script.specs.CellLibrary.Libraries.{HasUseIds, IsLawfulHeld, cells_seen, uses_in}
use Rattle.edit_script.specs.CellLibrary.Limits.{AreStatesOf}
use Rattle.edit_script.specs.CellLibrary.Seen.{cell_views}
use Rattle.edit_script.proofs.CellLibrary.AddedCells.{states_append, views_append}
use Rattle.edit_script.proofs.CellLibrary.SizeLaws.{size_same}

-- ---- lists

-- past the first list of two, what stands in the other
joined_get : {X : Type 0} (xs ys : List X) (n key : ℕ) → length xs ≡ n → n ≤ length ys → n ≤ key
    → slice_get (xs ++ drop n ys) key ≡ slice_get ys key
joined_get [] ys zero key long fits past = refl
joined_get [] ys (suc n) key long fits past = absurd (omega arith)
joined_get (x ∷ xs) ys zero key long fits past = absurd (omega arith)
joined_get (x ∷ xs) [] (suc n) key long fits past = absurd (omega arith)
joined_get (x ∷ xs) (y ∷ ys) (suc n) zero long fits past = absurd (omega arith)
joined_get (x ∷ xs) (y ∷ ys) (suc n) (suc key) long fits past = joined_get xs ys n key (omega arith) (omega arith) (omega arith)

-- the same with a default
joined_or : {X : Type 0} (xs ys : List X) (d : X) (n key : ℕ) → length xs ≡ n → n ≤ length ys → n ≤ key
    → slice_index_or (xs ++ drop n ys) key d ≡ slice_index_or ys key d
joined_or [] ys d zero key long fits past = refl
joined_or [] ys d (suc n) key long fits past = absurd (omega arith)
joined_or (x ∷ xs) ys d zero key long fits past = absurd (omega arith)
joined_or (x ∷ xs) [] d (suc n) key long fits past = absurd (omega arith)
joined_or (x ∷ xs) (y ∷ ys) d (suc n) zero long fits past = absurd (omega arith)
joined_or (x ∷ xs) (y ∷ ys) d (suc n) (suc key) long fits past = joined_or xs ys d n key (omega arith) (omega arith) (omega arith)

-- there are as many as in the other list
joined_length : {X : Type 0} (xs ys : List X) (n : ℕ) → length xs ≡ n → n ≤ length ys → length (xs ++ drop n ys) ≡ length ys
joined_length xs ys n long fits = let whole = length-append xs (drop n ys) in let rest = length-drop n ys in omega arith

-- a stamp of none
no_stamp : {X : Type 0} (xs : List X) (key : ℕ) → stamp_at (map (λ _. 0) xs) key ≤ 0
no_stamp [] key = omega arith
no_stamp (x ∷ xs) zero = omega arith
no_stamp (x ∷ xs) (suc key) = no_stamp xs key

-- ---- trees

-- the uses of the cells from a position on are of cells from there on
abbrev pub StandApart : ℕ → List CellState → Type 0
StandApart n cells =
    (key : ℕ) (cell : CellState) → n ≤ key → slice_get cells key ≡ Some cell → (k : ℕ) (entry : List ℕ × UseBody)
    → slice_get cell.uses k ≡ Some entry → n ≤ entry.1.child.0

module _ (a b : Tree) (a_lawful : IsLawfulTree a) (b_lawful : IsLawfulTree b) (n : ℕ) (long : length a.cells ≡ n) (fits : n ≤ length b.cells)
    (apart : StandApart n b.cells) where
  -- the cells of the one, and those that the other has more
  abbrev cells : List CellState
  cells = a.cells ++ drop n b.cells

  abbrev sizes : List Size
  sizes = a.sizes ++ drop n b.sizes

  -- both in one tree, in which no edit was made
  abbrev pub joined : Tree
  joined = record { cells = cells; sizes = sizes; stamps = map (λ _. 0) cells; edits = 0 }

  many : length cells ≡ length b.cells
  many = joined_length a.cells b.cells n long fits

  each : (P : CellState → Type 0) → ((key : ℕ) (cell : CellState) → slice_get a.cells key ≡ Some cell → P cell)
      → ((key : ℕ) (cell : CellState) → slice_get b.cells key ≡ Some cell → P cell)
      → (key : ℕ) (cell : CellState) → slice_get cells key ≡ Some cell → P cell
  each P first second key cell is = elim (cases_lt key (length a.cells)) [
    | inl below ↦ first key cell (sym (slice_get-append_front a.cells (drop n b.cells) key below) ∙ is)
    | inr past ↦ second key cell (sym (joined_get a.cells b.cells n key long fits (omega arith)) ∙ is)
  ]

  size_first : (key : ℕ) → key < n → size_at sizes key ≡ size_at a.sizes key
  size_first key below =
      let count = a_lawful.sizes.count in
      get_or_append_left a.sizes (drop n b.sizes) no_size key (omega arith)

  size_later : (key : ℕ) → n ≤ key → size_at sizes key ≡ size_at b.sizes key
  size_later key past =
      let a_count = a_lawful.sizes.count in
      let b_count = b_lawful.sizes.count in
      joined_or a.sizes b.sizes no_size n key (omega arith) (omega arith) past

  right : AreSizes cells sizes
  right key cell is = elim (cases_lt key n) [
    | inl below ↦
        let was : slice_get a.cells key ≡ Some cell = sym (slice_get-append_front a.cells (drop n b.cells) key (omega arith)) ∙ is in
        size_first key below ∙ a_lawful.sizes.right key cell was
        ∙ size_same (size_at a.sizes) (size_at sizes) cell (λ k entry at.
        let child : entry.1.child.0 < length a.cells = (a_lawful.cells.uses key cell was k entry at).1 in
        sym (size_first entry.1.child.0 (omega arith)))
    | inr past ↦
        let was : slice_get b.cells key ≡ Some cell = sym (joined_get a.cells b.cells n key long fits past) ∙ is in
        size_later key past ∙ b_lawful.sizes.right key cell was
        ∙ size_same (size_at b.sizes) (size_at sizes) cell (λ k entry at. sym (size_later entry.1.child.0 (apart key cell past was k entry at)))
  ]

  within : (dimension : Dimension) (key : ℕ) → IsWithin dimension (size_at sizes key)
  within dimension key = elim (cases_lt key n) [
    | inl below ↦ subst (IsWithin dimension) (sym (size_first key below)) (a_lawful.sizes.within dimension key)
    | inr past ↦ subst (IsWithin dimension) (sym (size_later key past)) (b_lawful.sizes.within dimension key)
  ]

  -- the tree is lawful
  pub joined_lawful : IsLawfulTree joined
  joined_lawful = record {
    cells = record {
      few = each (λ cell. length cell.uses ≤ MOST_USES) a_lawful.cells.few b_lawful.cells.few;
      uses = each (λ cell. AreUsesBelow (length cells) cell.uses)
          (λ key cell is k entry at.
          let told = a_lawful.cells.uses key cell is k entry at in
          let child : entry.1.child.0 < length a.cells = told.1 in
          let all : length cells ≡ length b.cells = many in
          (told.0, omega arith))
          (λ key cell is k entry at.
          let told = b_lawful.cells.uses key cell is k entry at in
          let child : entry.1.child.0 < length b.cells = told.1 in
          let all : length cells ≡ length b.cells = many in
          (told.0, omega arith));
    };
    each = each IsLawfulCell a_lawful.each b_lawful.each;
    sizes = record {
      count = (let a_count = a_lawful.sizes.count in
          let b_count = b_lawful.sizes.count in
          joined_length a.sizes b.sizes n (omega arith) (omega arith) ∙ b_count ∙ sym many);
      right = right;
      within = within;
    };
    stamps = length-map cells (λ (_ : CellState). 0);
    past = no_stamp cells;
  }

-- ---- libraries

-- what is seen of a last part
views_later : (contents : List Held) (uses : List (List (List ℕ × UseBody))) (n : ℕ) → length uses ≡ length contents
    → cell_views (drop n contents) (drop n uses) ≡ drop n (cell_views contents uses)
views_later contents uses zero long = refl
views_later [] [] (suc n) long = refl
views_later [] (first ∷ uses) (suc n) long = absurd (omega arith)
views_later (held ∷ contents) [] (suc n) long = absurd (omega arith)
views_later (held ∷ contents) (first ∷ uses) (suc n) long = views_later contents uses n (omega arith)

-- the states of a last part
states_later : (views : List CellView) (states : List CellState) (n : ℕ) → AreStatesOf views states → AreStatesOf (drop n views) (drop n states)
states_later views states zero are = are
states_later [] [] (suc n) are = tt
states_later [] (state ∷ states) (suc n) are = absurd are
states_later (view ∷ views) [] (suc n) are = absurd are
states_later (view ∷ views) (state ∷ states) (suc n) are = states_later views states n are.2

module _ (a b : LibraryParts) (a_lawful : IsLawfulLibrary a) (b_lawful : IsLawfulLibrary b) (n : ℕ) (some : 0 < n) (long : length a.contents ≡ n)
    (fits : n ≤ length b.contents) (apart : StandApart n b.tree.cells) (tech : b.tech ≡ a.tech)
    (names : Distinct (map (λ (held : Held). held.name) (a.contents ++ drop n b.contents))) where
  pub a_cells : length a.tree.cells ≡ n
  a_cells = a_lawful.so_many ∙ long

  pub b_cells : n ≤ length b.tree.cells
  b_cells = let many = b_lawful.so_many in omega arith

  abbrev contents_then : List Held
  contents_then = a.contents ++ drop n b.contents

  abbrev tree_then : Tree
  tree_then = joined a.tree b.tree a_lawful.tree b_lawful.tree n a_cells b_cells apart

  -- the cells of the one, and those that the other has more
  abbrev pub with_more : LibraryParts
  with_more = record { tech = a.tech; scale = a.scale; contents = contents_then; tree = tree_then }

  uses_then : uses_in tree_then.cells ≡ uses_in a.tree.cells ++ uses_in (drop n b.tree.cells)
  uses_then = map-append (λ (state : CellState). state.uses) a.tree.cells (drop n b.tree.cells)

  uses_later : (states : List CellState) (m : ℕ) → uses_in (drop m states) ≡ drop m (uses_in states)
  uses_later states zero = refl
  uses_later [] (suc m) = refl
  uses_later (state ∷ states) (suc m) = uses_later states m

  -- what is seen of its cells
  pub more_seen : cells_seen contents_then tree_then ≡ cells_seen a.contents a.tree ++ drop n (cells_seen b.contents b.tree)
  more_seen =
      ap (cell_views contents_then) uses_then
      ∙ views_append a.contents (drop n b.contents) (uses_in a.tree.cells) (uses_in (drop n b.tree.cells))
      (length-map a.tree.cells (λ (state : CellState). state.uses) ∙ a_lawful.so_many)
      ∙ ap (λ (rest : List CellView). cells_seen a.contents a.tree ++ rest)
      (ap (cell_views (drop n b.contents)) (uses_later b.tree.cells n)
      ∙ views_later b.contents (uses_in b.tree.cells) n (length-map b.tree.cells (λ (state : CellState). state.uses) ∙ b_lawful.so_many))

  scale_more : (scale : Option (ℕ × ℕ)) (count more : ℕ) → 0 < count → 0 < more → IsLawfulScale scale count → IsLawfulScale scale more
  scale_more None count more there also is = absurd (omega arith)
  scale_more (Some numbers) count more there also is = (also, is.1, is.2)

  -- the library is lawful
  pub more_lawful : IsLawfulLibrary with_more
  more_lawful =
      let whole : length contents_then ≡ length b.contents = joined_length a.contents b.contents n long fits in
      let few = b_lawful.few in
      record {
        well_formed = a_lawful.well_formed;
        rules = a_lawful.rules;
        so_many = joined_length a.tree.cells b.tree.cells n a_cells b_cells ∙ b_lawful.so_many ∙ sym whole;
        few = omega arith;
        names_differ = names;
        each = All-append (IsLawfulHeld a.tech) a.contents (drop n b.contents) a_lawful.each
            (All-drop (IsLawfulHeld a.tech) n b.contents (subst (λ raw. All (IsLawfulHeld raw) b.contents) tech b_lawful.each));
        boxes = subst (λ (views : List CellView). AreStatesOf views tree_then.cells) (sym more_seen)
            (states_append (cells_seen a.contents a.tree) (drop n (cells_seen b.contents b.tree)) a.tree.cells (drop n b.tree.cells) a_lawful.boxes
            (states_later (cells_seen b.contents b.tree) b.tree.cells n b_lawful.boxes));
        ids = All-append HasUseIds a.tree.cells (drop n b.tree.cells) a_lawful.ids (All-drop HasUseIds n b.tree.cells b_lawful.ids);
        scale = scale_more a.scale (length a.contents) (length contents_then) (omega arith) (omega arith) a_lawful.scale;
        tree = joined_lawful a.tree b.tree a_lawful.tree b_lawful.tree n a_cells b_cells apart;
      }
