-- A new cell: what becomes of the library, and what it is refused for.
use Rattle.cell_library.proofs.Common.{◌≡◌, ◌+◌, ◌<◌, ◌≤◌, ℕ, suc, false, Bool, List, [], ◌∷◌, ◌++◌, length, length-append, map, Option, refl, sym}
use Rattle.cell_library.proofs.Common.{ap, subst, ◌∙◌, arith, inl, inr, true≢false, Some, None, All, IsTrue, unwrap_or, position, position_or_len}
use Rattle.cell_library.proofs.Common.{bytes_eq, cases_Bool, map-append, All-push, bytes_eq-Decides, In, Distinct, Place, Layout, layout_of}
use Rattle.cell_library.proofs.Common.{CellState, Tree, IsLawfulTree, empty_state, LibFault, TooMany, Held, position_of, LibraryParts}
use Rattle.cell_library.proofs.Common.{IsLawfulLibrary, IsLawfulHeld, HasUseIds, cells_seen, uses_in, seen, edits_of, AreStatesOf, FirstOf}
use Rattle.cell_library.proofs.Common.{NothingElse, EditIsRefused, HasFaultOrLacksMemory, cell_view, cell_views, CellView}
use Rattle.std.specs.Prelude.{IsSome, is_some}
use Rattle.geo_core.proofs.FiniteSets.Distincts.{Distinct-push}
use Rattle.ext_model.specs.TextScan.PlainNames.{is_plain_name}
use Rattle.cell_library.specs.declared.faults.LibFault.TheVariants.{CellExists}
use Rattle.cell_library.specs.declared.limits.LibraryLimit.TheVariants.{Cells}
use Rattle.cell_library.specs.declared.limits.TheConstants.{MOST_CELLS}
use Rattle.cell_library.specs.steps.CellEdits.{IsCellAdded}
use Rattle.cell_library.specs.Edits.{empty_cell, with_new_cell}
use Rattle.cell_library.specs.Libraries.{IsLawfulScale, IsNextCell}
use Rattle.cell_library.specs.Refusals.{NewCellIsRefused}
use Rattle.cell_library.specs.Views.{cell_named}
use Rattle.cell_library.proofs.ContentLaws.{position_past}
use Rattle.cell_library.proofs.EditLaws.{uses_long}
use Rattle.cell_library.proofs.FaultLaws.{not_first, not_full}
use Rattle.cell_library.proofs.ViewLaws.{one_more_seen, names_seen, states_more, length-cell_views}

-- where nothing is found, nothing passes
none_passes : {X : Type 0} (test : X → Bool) (xs : List X) (x : X) → length xs ≤ position_or_len test xs → In x xs → test x ≡ false
none_passes test [] x past none = absurd none
none_passes test (y ∷ ys) x past (inl same) = elim (cases_Bool (test y)) [
  | inl passes ↦ (let found : suc (length ys) ≤ 0 = rw passes at past in absurd (omega arith))
  | inr fails ↦ ap test (sym same) ∙ fails
]
none_passes test (y ∷ ys) x past (inr later) = elim (cases_Bool (test y)) [
  | inl passes ↦ (let found : suc (length ys) ≤ 0 = rw passes at past in absurd (omega arith))
  | inr fails ↦ (let rest : suc (length ys) ≤ 1 + position_or_len test ys = rw fails at past in none_passes test ys x (omega arith) later)
]

-- a name that isn't found is new
pub name_is_new : (name : List ℕ) (contents : List Held) → position_of name contents ≡ None → In name (map (λ held. held.name) contents) → ⊥
name_is_new name contents none there =
    true≢false (sym ((bytes_eq-Decides name name).1 refl)
    ∙ none_passes (bytes_eq name) (map (λ (held : Held). held.name) contents) name
    (position_past (bytes_eq name) (map (λ (held : Held). held.name) contents) none) there)

-- the cell that is found by its name is the one that is seen
pub named_seen : (library : LibraryParts) (name : List ℕ) → position_of name library.contents ≡ cell_named (seen library) name
named_seen library name = ap (position (bytes_eq name)) (sym (names_seen library.contents (uses_in library.tree.cells)))

scale_with : (scale : Option (ℕ × ℕ)) (count more : ℕ) → IsLawfulScale scale count → more ≡ count + 1 → IsLawfulScale (Some (unwrap_or scale (1, 1))) more
scale_with None count more is next = (omega arith, refl, refl)
scale_with (Some numbers) count more is next = (omega arith, is.1, is.2)

-- where all parts are the same the library is lawful
pub kept_all : (library : LibraryParts) (wider : Option (ℕ × ℕ)) (contents : List Held) (tree : Tree) → IsLawfulLibrary library → wider ≡ library.scale
    → contents ≡ library.contents → tree ≡ library.tree → IsLawfulLibrary (record { tech = library.tech; scale = wider; contents = contents; tree = tree })
kept_all library wider contents tree lawful scale same still =
    subst IsLawfulLibrary (λ i. record { tech = library.tech; scale = sym scale i; contents = sym same i; tree = sym still i }) lawful

module _ (library : LibraryParts) (lawful : IsLawfulLibrary library) (name : List ℕ) where
  -- what it is refused for, in view of what is seen
  pub new_fault : (told : LibFault)
      → HasFaultOrLacksMemory (EditIsRefused (edits_of library) (FirstOf (IsSome (position_of name library.contents)) CellExists
      (FirstOf (MOST_CELLS ≤ length library.contents) (TooMany Cells) NothingElse))) told
      → HasFaultOrLacksMemory (EditIsRefused (edits_of library) (NewCellIsRefused (seen library) name)) told
  new_fault told refused =
      subst (λ (found : Option ℕ). HasFaultOrLacksMemory (EditIsRefused (edits_of library) (FirstOf (IsSome found) CellExists
      (FirstOf (MOST_CELLS ≤ length (cells_seen library.contents library.tree)) (TooMany Cells) NothingElse))) told) (named_seen library name)
      (subst (λ (n : ℕ). HasFaultOrLacksMemory (EditIsRefused (edits_of library) (FirstOf (IsSome (position_of name library.contents)) CellExists
      (FirstOf (MOST_CELLS ≤ n) (TooMany Cells) NothingElse))) told) (sym (length-cell_views library.contents (uses_in library.tree.cells))) refused)

  module _ (wider : Option (ℕ × ℕ)) (contents : List Held) (tree : Tree)
      (done : IsCellAdded library.tech name library.scale wider library.contents contents library.tree tree) (tree_lawful : IsLawfulTree tree) where
    new_held : Held
    new_held = record { name = name; paint = done.paint; labels = [] }

    new_view : cell_view (record { name = name; paint = done.paint; labels = [] }) [] ≡ empty_cell name
    new_view = let own : layout_of done.paint ≡ (λ (place : Place). 0) = λ i place. done.empty place i in
        ap (λ (layout : Layout). record (empty_cell name) { own = layout }) own

    more_uses : uses_in tree.cells ≡ uses_in library.tree.cells ++ [] ∷ []
    more_uses = ap uses_in done.tree.cells ∙ map-append (λ (state : CellState). state.uses) library.tree.cells (empty_state ∷ [])

    pub added_cells : cells_seen contents tree ≡ cells_seen library.contents library.tree ++ empty_cell name ∷ []
    added_cells =
        (λ i. cell_views (done.contents i) (more_uses i))
        ∙ one_more_seen library.contents (uses_in library.tree.cells) (record { name = name; paint = done.paint; labels = [] }) [] (uses_long library lawful)
        ∙ ap (λ (view : CellView). cells_seen library.contents library.tree ++ view ∷ []) new_view

    -- what is seen of the library with the cell
    pub added_seen : seen (record { tech = library.tech; scale = wider; contents = contents; tree = tree }) ≡ with_new_cell (seen library) name
    added_seen = λ i. record { tech = library.tech; scale = done.scale_is i; cells = added_cells i }

    -- it is lawful
    pub added_lawful : IsTrue (is_plain_name name) → IsLawfulLibrary (record { tech = library.tech; scale = wider; contents = contents; tree = tree })
    added_lawful form =
        let held : Held = record { name = name; paint = done.paint; labels = [] } in
        let long : length contents ≡ length library.contents + 1 = ap length done.contents ∙ length-append library.contents (held ∷ []) in
        let cells_long : length tree.cells ≡ length library.tree.cells + 1 = ap length done.tree.cells ∙ length-append library.tree.cells (empty_state ∷ []) in
        let many = lawful.so_many in
        let few = done.few in
        let names : map (λ (h : Held). h.name) contents ≡ map (λ (h : Held). h.name) library.contents ++ name ∷ [] =
        ap (map (λ (h : Held). h.name)) done.contents ∙ map-append (λ (h : Held). h.name) library.contents (held ∷ []) in
        record {
          well_formed = lawful.well_formed;
          rules = lawful.rules;
          so_many = omega arith;
          few = omega arith;
          names_differ = subst Distinct (sym names)
              (Distinct-push (map (λ (h : Held). h.name) library.contents) name lawful.names_differ (name_is_new name library.contents done.unknown));
          each = subst (All (IsLawfulHeld library.tech)) (sym done.contents) (All-push (IsLawfulHeld library.tech) library.contents held lawful.each (record {
            name = form;
            kinds = done.kinds;
            planes = done.planes;
            labels = λ k d inside. absurd (omega arith);
          }));
          boxes = subst (AreStatesOf (cells_seen contents tree)) (sym done.tree.cells)
              (subst (λ (cells : List CellView). AreStatesOf cells (library.tree.cells ++ empty_state ∷ [])) (sym added_cells)
              (states_more (cells_seen library.contents library.tree) library.tree.cells (empty_cell name) empty_state lawful.boxes
              (λ has. elim has [ inl material ↦ material.1 refl | inr label ↦ label.1 ]) refl));
          ids = subst (All HasUseIds) (sym done.tree.cells) (All-push HasUseIds library.tree.cells empty_state lawful.ids (λ k d inside. absurd (omega arith)));
          scale = subst (λ (scale : Option (ℕ × ℕ)). IsLawfulScale scale (length contents)) (sym done.scale_is)
              (scale_with library.scale (length library.contents) (length contents) lawful.scale long);
          tree = tree_lawful;
        }

    -- it is the next edit
    pub added_next : IsNextCell library (record { tech = library.tech; scale = wider; contents = contents; tree = tree })
    added_next = record { edits = done.tree.edits; stamps = done.tree.stamps }

    -- nothing refused it
    pub added_unrefused : (fault : LibFault) → EditIsRefused (edits_of library) (NewCellIsRefused (seen library) name) fault → ⊥
    added_unrefused fault =
        let few : length (seen library).cells < MOST_CELLS =
        subst (λ (n : ℕ). n < MOST_CELLS) (sym (length-cell_views library.contents (uses_in library.tree.cells))) done.few in
        not_first (not_full _ done.edits)
        (not_first (λ some. (let none : cell_named (seen library) name ≡ None = sym (named_seen library name) ∙ done.unknown in
        true≢false (sym some ∙ ap is_some none)))
        (not_first (full_not few) (λ none. none)))
      where
        full_not : {n m : ℕ} → n < m → m ≤ n → ⊥
        full_not below full = absurd (omega arith)
