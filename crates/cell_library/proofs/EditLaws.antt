-- A library after an edit of one cell: it is lawful, and what is seen of it is what the edit says.
use Rattle.cell_library.proofs.Common.{◌≡◌, ◌<◌, ℕ, List, length, map, set, refl, sym, ap, subst, ◌∙◌, arith, All, Ok, OnOk, length-set, length-map}
use Rattle.cell_library.proofs.Common.{map-set, All-set, Distinct, layout_of, RawTech, UseBody, CellState, Tree, IsLawfulTree, IsEdited, cell_at}
use Rattle.cell_library.proofs.Common.{Held, held_at, no_held, IsRepainted, LibraryParts, IsLawfulLibrary, IsLawfulHeld, HasUseIds, cells_seen}
use Rattle.cell_library.proofs.Common.{uses_in, seen, AreStatesOf, OwnBoxIs, cell_view, cell_views, CellView, changed_at}
use Rattle.std.specs.Prelude.{Option, Result, Err, OnErr}
use Rattle.std.proofs.Math.Seq.{map-set_same}
use Rattle.cell_library.specs.Libraries.{IsLawfulScale, IsSame}
use Rattle.cell_library.proofs.ViewLaws.{cell_changed, states_changed, unchanged_seen, uses_at}

-- a cell that is seen is among those that are kept
pub here : {kept told : LibraryParts} {cell : ℕ} → kept ≡ told → cell < length told.contents → cell < length kept.contents
here {kept} {told} {cell} is below = subst (λ (l : LibraryParts). cell < length l.contents) (sym is) below

-- the uses are lists for as many cells as there are contents
pub uses_long : (library : LibraryParts) → IsLawfulLibrary library → length (uses_in library.tree.cells) ≡ length library.contents
uses_long library lawful = length-map library.tree.cells (λ (state : CellState). state.uses) ∙ lawful.so_many

-- what is seen of the cells after a change of one
pub edit_seen : (library : LibraryParts) (contents : List Held) (tree : Tree) (cell : ℕ) (held : Held) (state : CellState) (change : CellView → CellView)
    → IsLawfulLibrary library → cell < length library.contents → contents ≡ set library.contents cell held → IsEdited library.tree tree cell state
    → cell_view held state.uses ≡ change (cell_view (held_at library.contents cell) (cell_at library.tree.cells cell).uses)
    → cells_seen contents tree ≡ changed_at (cells_seen library.contents library.tree) cell change
edit_seen library contents tree cell held state change lawful below is edited same =
    let many = lawful.so_many in
    let uses : uses_in tree.cells ≡ set (uses_in library.tree.cells) cell state.uses =
    ap uses_in edited.cells ∙ map-set (λ (s : CellState). s.uses) library.tree.cells cell state in
    (λ i. cell_views (is i) (uses i))
    ∙ cell_changed library.contents (uses_in library.tree.cells) cell held state.uses change (uses_long library lawful)
    (same ∙ ap (λ (u : List (List ℕ × UseBody)). change (cell_view (held_at library.contents cell) u)) (sym (uses_at library.tree.cells cell (omega arith))))

-- the library is lawful after a change of one cell that is
pub edit_lawful : (library : LibraryParts) (contents : List Held) (tree : Tree) (cell : ℕ) (held : Held) (state : CellState)
    → IsLawfulLibrary library → cell < length library.contents → contents ≡ set library.contents cell held → IsEdited library.tree tree cell state
    → IsLawfulTree tree → held.name ≡ (held_at library.contents cell).name → IsLawfulHeld library.tech held → HasUseIds state
    → OwnBoxIs (layout_of held.paint) held.labels state.own
    → IsLawfulLibrary (record { tech = library.tech; scale = library.scale; contents = contents; tree = tree })
edit_lawful library contents tree cell held state lawful below is edited tree_lawful name each ids own =
    let long : length contents ≡ length library.contents = ap length is ∙ length-set library.contents cell held in
    let cells_long : length tree.cells ≡ length library.tree.cells = ap length edited.cells ∙ length-set library.tree.cells cell state in
    let names : map (λ (h : Held). h.name) contents ≡ map (λ (h : Held). h.name) library.contents =
    ap (map (λ (h : Held). h.name)) is ∙ map-set_same (λ (h : Held). h.name) library.contents cell held no_held name in
    let views = edit_seen library contents tree cell held state (λ body. cell_view held state.uses) lawful below is edited refl in
    record {
      well_formed = lawful.well_formed;
      rules = lawful.rules;
      so_many = cells_long ∙ lawful.so_many ∙ sym long;
      few = (let few = lawful.few in omega arith);
      names_differ = subst Distinct (sym names) lawful.names_differ;
      each = subst (All (IsLawfulHeld library.tech)) (sym is) (All-set (IsLawfulHeld library.tech) library.contents cell held each lawful.each);
      boxes = subst (AreStatesOf (cells_seen contents tree)) (sym edited.cells)
          (subst (λ (cells : List CellView). AreStatesOf cells (set library.tree.cells cell state)) (sym views)
          (states_changed (cells_seen library.contents library.tree) library.tree.cells cell (λ body. cell_view held state.uses) state lawful.boxes
          (λ body there. (own, refl))));
      ids = subst (All HasUseIds) (sym edited.cells) (All-set HasUseIds library.tree.cells cell state ids lawful.ids);
      scale = subst (IsLawfulScale library.scale) (sym long) lawful.scale;
      tree = tree_lawful;
    }

-- ---- what is refused

-- where the parts are the same the library is
pub kept_lawful : (library : LibraryParts) (contents : List Held) (tree : Tree) → IsLawfulLibrary library → contents ≡ library.contents → tree ≡ library.tree
    → IsLawfulLibrary (record { tech = library.tech; scale = library.scale; contents = contents; tree = tree })
kept_lawful library contents tree lawful same still =
    subst IsLawfulLibrary (λ i. record { tech = library.tech; scale = library.scale; contents = sym same i; tree = sym still i }) lawful

-- and nothing is seen to have changed
pub kept_same : (library : LibraryParts) (contents : List Held) (tree : Tree) → contents ≡ library.contents → tree ≡ library.tree
    → IsSame library (record { tech = library.tech; scale = library.scale; contents = contents; tree = tree })
kept_same library contents tree same still =
    record { seen = λ i. record { tech = library.tech; scale = library.scale; cells = cells_seen (same i) (still i) }; tree = still }

-- where paint was made ready and not changed, nothing is seen to have changed
pub refused_same : (library : LibraryParts) (contents : List Held) (tree : Tree) (cell : ℕ) → IsLawfulLibrary library
    → IsRepainted library.contents contents cell (λ own. own) → tree ≡ library.tree
    → IsSame library (record { tech = library.tech; scale = library.scale; contents = contents; tree = tree })
refused_same library contents tree cell lawful repainted still =
    let views : cells_seen contents tree ≡ cells_seen library.contents library.tree =
    ap (cells_seen contents) still ∙ unchanged_seen library.contents contents (uses_in library.tree.cells) cell (uses_long library lawful) repainted in
    record { seen = λ i. record { tech = library.tech; scale = library.scale; cells = views i }; tree = still }

-- and the library is lawful
pub refused_lawful : (library : LibraryParts) (contents : List Held) (tree : Tree) (cell : ℕ) → IsLawfulLibrary library → cell < length library.contents
    → IsRepainted library.contents contents cell (λ own. own) → tree ≡ library.tree
    → IsLawfulLibrary (record { tech = library.tech; scale = library.scale; contents = contents; tree = tree })
refused_lawful library contents tree cell lawful below repainted still =
    let held : Held = record (held_at library.contents cell) { paint = repainted.paint } in
    let was : IsLawfulHeld library.tech (held_at library.contents cell) = lawful.each cell no_held below in
    let long : length contents ≡ length library.contents = ap length repainted.is ∙ length-set library.contents cell held in
    let names : map (λ (h : Held). h.name) contents ≡ map (λ (h : Held). h.name) library.contents =
    ap (map (λ (h : Held). h.name)) repainted.is ∙ map-set_same (λ (h : Held). h.name) library.contents cell held no_held refl in
    let views = (refused_same library contents tree cell lawful repainted still).seen in
    let now : IsLawfulLibrary (record { tech = library.tech; scale = library.scale; contents = contents; tree = library.tree }) = record {
      well_formed = lawful.well_formed;
      rules = lawful.rules;
      so_many = lawful.so_many ∙ sym long;
      few = (let few = lawful.few in omega arith);
      names_differ = subst Distinct (sym names) lawful.names_differ;
      each = subst (All (IsLawfulHeld library.tech)) (sym repainted.is) (All-set (IsLawfulHeld library.tech) library.contents cell held
          (record { name = was.name; kinds = repainted.kinds ∙ was.kinds; planes = repainted.planes ∙ was.planes; labels = was.labels }) lawful.each);
      boxes = subst (λ (cells : List CellView). AreStatesOf cells library.tree.cells)
          (sym (unchanged_seen library.contents contents (uses_in library.tree.cells) cell (uses_long library lawful) repainted)) lawful.boxes;
      ids = lawful.ids;
      scale = subst (IsLawfulScale library.scale) (sym long) lawful.scale;
      tree = lawful.tree;
    } in
    kept_lawful (record { tech = library.tech; scale = library.scale; contents = contents; tree = library.tree }) contents tree now refl still

-- so it is lawful after a call that is refused where the parts are the same
pub lawful_or_kept : {T E P : Type 0} (library : LibraryParts) (contents : List Held) (tree : Tree) (r : Result T E) → IsLawfulLibrary library → OnOk r P
    → OnErr r (contents ≡ library.contents) → OnErr r (tree ≡ library.tree)
    → (P → IsLawfulLibrary (record { tech = library.tech; scale = library.scale; contents = contents; tree = tree }))
    → IsLawfulLibrary (record { tech = library.tech; scale = library.scale; contents = contents; tree = tree })
lawful_or_kept library contents tree (Ok x) lawful done kept same made = made done
lawful_or_kept library contents tree (Err e) lawful done kept same made = kept_lawful library contents tree lawful kept same

-- and after one that is refused where paint was made ready
pub lawful_or_refused : {T E P : Type 0} (library : LibraryParts) (contents : List Held) (tree : Tree) (cell : ℕ) (r : Result T E)
    → IsLawfulLibrary library → cell < length library.contents → OnOk r P → OnErr r (IsRepainted library.contents contents cell (λ own. own))
    → OnErr r (tree ≡ library.tree)
    → (P → IsLawfulLibrary (record { tech = library.tech; scale = library.scale; contents = contents; tree = tree }))
    → IsLawfulLibrary (record { tech = library.tech; scale = library.scale; contents = contents; tree = tree })
lawful_or_refused library contents tree cell (Ok x) lawful below done kept same made = made done
lawful_or_refused library contents tree cell (Err e) lawful below done kept same made = refused_lawful library contents tree cell lawful below kept same

-- a library of which the cells are seen to be these
pub seen_cells : (tech : RawTech) (scale : Option (ℕ × ℕ)) (contents : List Held) (tree : Tree) (cells : List CellView) → cells_seen contents tree ≡ cells
    → seen (record { tech = tech; scale = scale; contents = contents; tree = tree }) ≡ record { tech = tech; scale = scale; cells = cells }
seen_cells tech scale contents tree cells is = λ i. record { tech = tech; scale = scale; cells = is i }
