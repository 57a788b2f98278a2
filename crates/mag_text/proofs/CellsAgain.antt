-- What is read of a cell's text is the cell.
use Rattle.mag_text.proofs.Common.{◌≡◌, ◌<◌, ◌≤◌, ℕ, List, [], ◌∷◌, length, map, inl, inr, refl, sym, ap, subst, ◌∙◌, arith, IfOk, Global, cases_lt}
use Rattle.mag_text.proofs.Common.{MOST_PLANES, RawTech, plane_of, IsWellFormed, IsOnPlane, Place, Layout, column_type, CellBody, CellUse, UseBody}
use Rattle.mag_text.proofs.Common.{LibraryParts, IsLawfulLibrary, seen, uses_in, CellView, LibraryView, view_at, held_lawful, cell_viewed}
use Rattle.mag_text.proofs.Common.{WrittenUse, AreWrittenUses, IsCellText, Draft, painted_all, use_of, draft_of}
use Rattle.std.specs.Prelude.{Some, Ok, Err, Result, Vec}
use Rattle.std.specs.declared.alloc.AllocError.{AllocError}
use Rattle.cell_library.specs.CellPaint.Paints.{KeepsTypes, IsSoundPaint}
use Rattle.cell_library.proofs.CellPaint.PlaneLaws.{space_past}
use Rattle.cell_library.specs.Contents.{held_at}
use Rattle.mag_text.specs.CellsAgain.{IsSoundLayout, IsBodyOf, IsReadBack, use_seen}
use Rattle.mag_text.specs.MagTexts.{IsRead}
use Rattle.mag_text.proofs.CellFits.{cell_text-read}
use Rattle.mag_text.proofs.PaintAgain.{painted_again}

-- ---- paint that keeps its types shows a sound layout

module _ (raw : RawTech) (w : IsWellFormed raw) (layout : Layout) (keeps : KeepsTypes raw.types layout) where
  -- where there is space past the last plane that there may be
  pub sound_layout : ((place : Place) → MOST_PLANES ≤ place.plane → layout place ≡ 0) → IsSoundLayout raw layout
  sound_layout space = record {
    types = λ place. elim (cases_lt place.plane MOST_PLANES) [
      | inl below ↦ subst (IsOnPlane raw place.plane) (column_type layout place.square place.plane below)
          ((keeps raw refl place.square).0 place.plane)
      | inr above ↦ inl (space place (omega arith))
    ];
    whole = λ square s t s_is t_is layers at.
        let few = w.planes_limit in
        let s_below : plane_of raw s < MOST_PLANES = let placed = w.type_planes s s_is in omega arith in
        let t_below : plane_of raw t < MOST_PLANES = let placed = w.type_planes t t_is in omega arith in
        sym (column_type layout square (plane_of raw t) t_below)
        ∙ (keeps raw refl square).1 s t s_is t_is layers (column_type layout square (plane_of raw s) s_below ∙ at);
  }

-- ---- uses

-- the uses that were written are those of the cell
pub uses_again : (view : LibraryView) (entries : List (List ℕ × UseBody)) (written : List WrittenUse) → AreWrittenUses view entries written
    → map use_of written ≡ map (use_seen view) entries
uses_again view [] [] are = refl
uses_again view [] (one ∷ written) are = absurd are
uses_again view (entry ∷ entries) [] are = absurd are
uses_again view (entry ∷ entries) (one ∷ written) are =
    let is = are.0 in
    let same : use_of one ≡ use_seen view entry = λ i. record { cell = is.cell i; id = is.id i; six = is.six i; grid = is.grid i } in
    ap (λ (first : CellUse). first ∷ map use_of written) same
    ∙ ap (λ (uses : List CellUse). use_seen view entry ∷ uses) (uses_again view entries written are.1)

-- ---- a cell of a lawful library

module _ (library : LibraryParts) (lawful : IsLawfulLibrary library) (cell : ℕ) (below : cell < length library.contents) where
  past_planes : (place : Place) → MOST_PLANES ≤ place.plane → (view_at (seen library) cell).own place ≡ 0
  past_planes place past =
      let held = held_at library.contents cell in
      let planes = (held_lawful library lawful cell below).planes in
      let few = lawful.well_formed.planes_limit in
      ap (λ (view : CellView). view.own place) (cell_viewed library.contents (uses_in library.tree.cells) cell below)
      ∙ space_past held.paint.planes place.plane place.square (omega arith)

  -- the body that its text is read as is that of the cell
  cell_again : IsSoundPaint library.tech.types (view_at (seen library) cell).own → (text : List ℕ) (body : CellBody)
      → IsCellText (seen library) cell text → IsRead library.tech text body → IsBodyOf (seen library) cell body
  cell_again sound text body is read =
      let raw = library.tech in
      let own = (view_at (seen library) cell).own in
      let labels = (view_at (seen library) cell).labels in
      let found = cell_text-read library lawful cell below text is in
      let whole : Draft = draft_of is.scale found.strips is.uses labels in
      let both : Ok read.draft ≡ Ok whole = sym read.reads ∙ found.reads in
      let same : read.draft ≡ whole = cc in
      record {
        paint = λ place.
            read.body_is.paint_is place ∙ ap (λ (draft : Draft). painted_all raw draft.drawn place) same
            ∙ painted_again raw lawful.well_formed lawful.rules own
            (sound_layout raw lawful.well_formed own sound.types past_planes) found.strips found.are_strips place;
        uses =
            read.body_is.uses_are ∙ ap (λ (draft : Draft). draft.uses) same
            ∙ uses_again (seen library) (view_at (seen library) cell).uses is.uses is.are_uses;
        labels = read.body_is.labels_are ∙ ap (λ (draft : Draft). draft.labels) same;
        scale = is.has_scale ∙ ap (λ (scale : ℕ × ℕ). Some scale) (sym (read.body_is.scale_is ∙ ap (λ (draft : Draft). draft.scale) same));
      }

  -- it is read back from its text
  pub cell_read_back : IsSoundPaint library.tech.types (view_at (seen library) cell).own → (text : List ℕ) → IsCellText (seen library) cell text
      → IsReadBack (seen library) cell text
  cell_read_back sound text is = record {
    faultless = λ at refused. let found = cell_text-read library lawful cell below text is in let reads = found.reads in cc;
    again = λ body read. cell_again sound text body is read;
  }

  -- the same of a text that was written, unless memory was wanting
  pub written_read_back : IsSoundPaint library.tech.types (view_at (seen library) cell).own → (result : Result (Vec ℕ Global) AllocError)
      → IfOk result (λ text. IsCellText (seen library) cell text.items) → IfOk result (λ text. IsReadBack (seen library) cell text.items)
  written_read_back sound (Ok text) is = cell_read_back sound text.items is
  written_read_back sound (Err fault) is = tt
