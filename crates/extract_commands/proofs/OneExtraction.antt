-- A cell has one extraction, or is refused with one effect.
use Rattle.extract_commands.proofs.Common.{◌≡◌, ℕ, List, [], ◌∷◌, ◌++◌, length, map, Some, inl, inr, sym, ap, ◌∙◌, subst, In, Rect, Store}
use Rattle.extract_commands.proofs.Common.{ReportLine, Effect, children_in, LibraryView, view_at, IsCleanCell, refusal_line, State}
use Rattle.extract_commands.proofs.Common.{ExtractedCellsAreNotRefused, ExtractionsAreUnique, UncleanRefusalsAreUnique, IsSoundView}
use Rattle.std.proofs.Common.{filter}
use Rattle.finite_sets.proofs.Members.{In-filter_source}
use Rattle.use_orders.proofs.Visiting.{Visits-unique, library_order-lists}
use Rattle.uniqueness.specs.OwnUniqueness.{UnattachedTextsAreUnique}
use Rattle.uniqueness.specs.UncleanCells.{CleanCellsHaveNoneBelow, UncleanCellsBelowAreUnique}
use Rattle.workspace.specs.LibraryAnswers.Offending.{offending_line}
use Rattle.workspace.specs.Extractions.{MakesRecord, MakesRecords, ext_store, unattached_line, unclean_refusal}
use Rattle.extract_commands.proofs.SoundLibraries.{clean_below_clean, none_below_clean, same_record}

module _ (one_list : UnattachedTextsAreUnique) (view : LibraryView) (sound : IsSoundView view) where
  -- the record of a clean cell is made in one way
  same_making : (cell : ℕ) → IsCleanCell view cell → (lines others : List ReportLine) (store next : Store) → MakesRecord view cell lines store
      → MakesRecord view cell others next → (lines ≡ others) × (store ≡ next)
  same_making cell clean lines others store next p q =
      let body = view_at view cell in
      let ext = same_record view sound cell p.ext q.ext clean p.is_record q.is_record in
      let texts = one_list view.tech body.own body.labels p.texts q.texts p.are_unattached q.are_unattached in (
        p.lines_are ∙ ap (map (unattached_line body.name)) texts ∙ sym q.lines_are,
        p.store_is ∙ ap (ext_store body.name) ext ∙ sym q.store_is,
      )

  -- and so are those of clean cells, one after another
  same_makings : (cells : List ℕ) → ((cell : ℕ) → In cell cells → IsCleanCell view cell) → (lines others : List ReportLine)
      (stores more : List Store) → MakesRecords view cells lines stores → MakesRecords view cells others more → (lines ≡ others) × (stores ≡ more)
  same_makings [] clean lines others stores more p q = (p.0 ∙ sym q.0, p.1 ∙ sym q.1)
  same_makings (cell ∷ cells) clean lines others stores more (first, store, rest, behind, makes, later, lines_are, stores_are)
      (front, next, back, after, also, then, others_are, more_are) =
      let here = same_making cell (clean cell (inl (λ i. cell))) first front store next makes also in
      let there = same_makings cells (λ other below. clean other (inr below)) rest back behind after later then in (
        lines_are ∙ (λ i. here.0 i ++ there.0 i) ∙ sym others_are,
        stores_are ∙ (λ i. here.1 i ∷ there.1 i) ∙ sym more_are,
      )

-- a cell of a lawful library has one extraction
pub same_extraction : UnattachedTextsAreUnique → ExtractionsAreUnique
same_extraction one_list work cell extraction other sound there is also =
    let view = work.editing.library in
    let order = Visits-unique (children_in view) [] (cell ∷ []) is.order also.order is.is_order also.is_order in
    let listed = library_order-lists (children_in view) cell is.order is.is_order in
    let clean : (below : ℕ) → In below (filter work.dirty is.order) → IsCleanCell view below =
    λ below here. clean_below_clean view sound.lawful cell below there is.clean (listed.2 below (In-filter_source work.dirty below is.order here)) in
    let makes = subst (λ (cells : List ℕ). MakesRecords view (filter work.dirty cells) other.lines other.stores) (sym order) also.makes in
    let made = same_makings one_list view sound (filter work.dirty is.order) clean extraction.lines other.lines extraction.stores other.stores is.makes
    makes in
    let count : extraction.count ≡ other.count =
    is.count ∙ ap (λ (cells : List ℕ). length (filter work.dirty cells)) order ∙ sym also.count in
    ((λ i. record { lines = made.0 i; stores = made.1 i; count = count i }), order)

-- what refuses the line is one cell with one list of squares
pub same_refusal : UncleanCellsBelowAreUnique → UncleanRefusalsAreUnique
same_refusal one_cell number work fetched cell effect other p q =
    let view = work.editing.library in
    let same = one_cell view cell p.cell q.cell p.squares q.squares p.unclean q.unclean in
    let told : ℕ → List (ℕ × Rect) → Effect State = λ unclean squares. record {
      state = Some work;
      lines = refusal_line number (unclean_refusal (view_at view unclean).name) ∷ map (offending_line view.tech (view_at view unclean).name) squares;
      stores = [];
      fetched = fetched;
    } in
    p.is ∙ (λ i. told (same.0 i) (same.1 i)) ∙ sym q.is

-- a cell that is extracted is clean, so it is not refused
pub not_refused : CleanCellsHaveNoneBelow → ExtractedCellsAreNotRefused
not_refused none number work fetched cell extraction effect lawful there is refuses =
    none_below_clean work.editing.library none lawful cell refuses.cell refuses.squares there is.clean refuses.unclean
