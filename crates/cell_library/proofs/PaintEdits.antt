-- Paint and labels of one cell: what becomes of the library, and what it is refused for.
use Rattle.cell_library.proofs.Common.{◌≡◌, ◌<◌, ◌≤◌, ℕ, true, false, Bool, List, [], length, set, Option, refl, sym, ap, subst, ◌∙◌, arith, inl}
use Rattle.cell_library.proofs.Common.{inr, true≢false, Some, slice_get, slice_set, slice_index_or, cases_lt, get_or-set_same, Rect}
use Rattle.cell_library.proofs.Common.{IsProper-has_square, MOST_PLANES, TypeRec, RawTech, plane_of, Place, Layout, IsMaterial, with_paint}
use Rattle.cell_library.proofs.Common.{is_in_range, Paint, layout_of, KeepsTypes, IsSoundPaint, space_past, Hull, CellState, Tree, IsLawfulTree}
use Rattle.cell_library.proofs.Common.{IsEdited, cell_at, with_own, empty_state, LibFault, OutOfRange, MOST_EDITS, Held, held_at, no_held}
use Rattle.cell_library.proofs.Common.{IsRepainted, painted, LibraryParts, IsLawfulLibrary, IsLawfulHeld, cells_seen, uses_in, seen, edits_of}
use Rattle.cell_library.proofs.Common.{AreStatesOf, GoesPast, OwnBoxIs, IsOwnBox, box_with, FirstOf, NothingElse, EditIsRefused}
use Rattle.cell_library.proofs.Common.{HasFaultOrLacksMemory, cell_view, CellView, LibraryView, changed_at}
use Rattle.geo_core.specs.Areas.{has_square}
use Rattle.tech_model.specs.WellFormed.{IsWellFormed}
use Rattle.tech_model.specs.Rules.{KeepsRules}
use Rattle.cell_bodies.specs.CellPaint.Painting.{place_at}
use Rattle.cell_library.specs.steps.CellEdits.{with_area, BoxIsRefused, IsPaintedIn}
use Rattle.cell_library.specs.Refusals.{AreaIsRefused, PaintIsRefused}
use Rattle.cell_library.proofs.BoxLaws.{filled_box}
use Rattle.cell_library.proofs.EditLaws.{edit_seen, edit_lawful}
use Rattle.cell_library.proofs.FaultLaws.{first_of_map, not_first, or_memory_map, not_full}
use Rattle.cell_library.proofs.LimitLaws.{never_past, would_go_past}
use Rattle.cell_library.proofs.MaterialLaws.{painted_keeps, painted_fills, painted_only, some_image}
use Rattle.cell_library.proofs.ViewLaws.{cell_seen, cell_viewed, uses_at, state_there, states_changed}

-- the content that was put at a place stands there
pub put_there : (contents new : List Held) (cell : ℕ) (held : Held) → cell < length contents → new ≡ set contents cell held → held_at new cell ≡ held
put_there contents new cell held below is = ap (λ (c : List Held). held_at c cell) is ∙ get_or-set_same contents cell held no_held below

-- ---- the cell that is edited

module _ (library : LibraryParts) (lawful : IsLawfulLibrary library) (cell : ℕ) (below : cell < length library.contents) where
  -- what it has of its own is lawful
  pub held_lawful : IsLawfulHeld library.tech (held_at library.contents cell)
  held_lawful = lawful.each cell no_held below

  -- and its box is that of its paint and labels
  pub own_is : OwnBoxIs (layout_of (held_at library.contents cell).paint) (held_at library.contents cell).labels (cell_at library.tree.cells cell).own
  own_is =
      let many = lawful.so_many in
      subst (λ (view : CellView). OwnBoxIs view.own view.labels (cell_at library.tree.cells cell).own)
      (cell_viewed library.contents (uses_in library.tree.cells) cell below)
      (state_there (cells_seen library.contents library.tree) library.tree.cells cell lawful.boxes (omega arith))

  -- what is seen of it
  pub seen_here : (body : CellView) → slice_get (cells_seen library.contents library.tree) cell ≡ Some body
      → body ≡ cell_view (held_at library.contents cell) (cell_at library.tree.cells cell).uses
  seen_here body is =
      let many = lawful.so_many in
      let there : Some body ≡ Some (cell_view (held_at library.contents cell) (slice_index_or (uses_in library.tree.cells) cell [])) =
      sym is ∙ cell_seen library.contents (uses_in library.tree.cells) cell below in
      let same : body ≡ cell_view (held_at library.contents cell) (slice_index_or (uses_in library.tree.cells) cell []) = cc in
      same ∙ ap (cell_view (held_at library.contents cell)) (uses_at library.tree.cells cell (omega arith))

  -- the states of the cells, after a change of this one
  pub states_after : (change : CellView → CellView) (state : CellState)
      → OwnBoxIs (change (cell_view (held_at library.contents cell) (cell_at library.tree.cells cell).uses)).own
      (change (cell_view (held_at library.contents cell) (cell_at library.tree.cells cell).uses)).labels state.own
      → state.uses ≡ (change (cell_view (held_at library.contents cell) (cell_at library.tree.cells cell).uses)).uses
      → AreStatesOf (changed_at (cells_seen library.contents library.tree) cell change) (slice_set library.tree.cells cell state)
  states_after change state own uses =
      states_changed (cells_seen library.contents library.tree) library.tree.cells cell change state lawful.boxes (λ body is.
      subst (λ (view : CellView). OwnBoxIs (change view).own (change view).labels state.own × (state.uses ≡ (change view).uses)) (sym (seen_here body is))
      (own, uses))

-- ---- other paint

-- the cell has other paint, and a box that goes round it
module _ (library : LibraryParts) (lawful : IsLawfulLibrary library) (cell : ℕ) (below : cell < length library.contents) (change : Layout → Layout)
    (contents : List Held) (tree : Tree) (box : Option Rect) (repainted : IsRepainted library.contents contents cell change)
    (edited : IsEdited library.tree tree cell (with_own (cell_at library.tree.cells cell) box)) where
  abbrev repainted_held : Held
  repainted_held = record (held_at library.contents cell) { paint = repainted.paint }

  pub repainted_layout : layout_of repainted.paint ≡ change (layout_of (held_at library.contents cell).paint)
  repainted_layout = λ i place. repainted.layout place i

  -- what is seen of the cells is what the change makes of them
  pub repainted_seen : cells_seen contents tree
      ≡ changed_at (cells_seen library.contents library.tree) cell (λ body. record body { own = change body.own })
  repainted_seen =
      edit_seen library contents tree cell repainted_held (with_own (cell_at library.tree.cells cell) box)
      (λ body. record body { own = change body.own }) lawful below repainted.is edited
      (ap (λ (own : Layout). record (cell_view (held_at library.contents cell) (cell_at library.tree.cells cell).uses) { own = own }) repainted_layout)

  -- and the library is lawful
  pub repainted_lawful : IsLawfulTree tree → OwnBoxIs (layout_of repainted.paint) (held_at library.contents cell).labels box
      → IsLawfulLibrary (record { tech = library.tech; scale = library.scale; contents = contents; tree = tree })
  repainted_lawful tree_lawful own =
      let held = held_lawful library lawful cell below in
      let many = lawful.so_many in
      edit_lawful library contents tree cell repainted_held (with_own (cell_at library.tree.cells cell) box) lawful below repainted.is edited
      tree_lawful refl
      (record { name = held.name; kinds = repainted.kinds ∙ held.kinds; planes = repainted.planes ∙ held.planes; labels = held.labels })
      (lawful.ids cell empty_state (omega arith)) own

  -- also where the box is that of what stands there then
  pub repainted_there : IsLawfulTree tree → OwnBoxIs (layout_of (held_at contents cell).paint) (held_at contents cell).labels box
      → IsLawfulLibrary (record { tech = library.tech; scale = library.scale; contents = contents; tree = tree })
  repainted_there tree_lawful own =
      repainted_lawful tree_lawful (subst (λ (h : Held). OwnBoxIs (layout_of h.paint) h.labels box)
      (put_there library.contents contents cell repainted_held below repainted.is) own)

-- an edit of an area after which no hull goes past the range is not refused
pub area_unrefused : (edits : ℕ) (area : Rect) (view : LibraryView) (fault : LibFault) → edits < MOST_EDITS → has_square area ≡ true
    → is_in_range area ≡ true → (GoesPast Hull view → ⊥)
    → EditIsRefused edits (AreaIsRefused area (FirstOf (GoesPast Hull view) OutOfRange NothingElse)) fault → ⊥
area_unrefused edits area view fault few proper near fits =
    not_first (not_full edits few)
    (not_first (λ none. true≢false (sym proper ∙ none)) (not_first (λ far. true≢false (sym near ∙ far)) (not_first fits (λ none. none))))

-- ---- paint

-- material stands on planes that there may be
pub material_few : (paint : Paint) → length paint.planes ≤ MOST_PLANES → (place : Place) → IsMaterial (layout_of paint) place → place.plane < MOST_PLANES
material_few paint few place material = elim (cases_lt place.plane (length paint.planes)) [
  | inl below ↦ omega arith
  | inr past ↦ absurd (material (space_past paint.planes place.plane place.square past))
]

-- the box after paint goes round the old one and the area
pub painted_own_box : (raw : RawTech) (layer : ℕ) (area : Rect) (held : Held) (box : Option Rect) (library : LibraryParts) → IsLawfulLibrary library
    → raw ≡ library.tech
    → layer < length raw.layers → IsLawfulHeld raw held → IsSoundPaint held.paint.kinds (layout_of held.paint) → OwnBoxIs (layout_of held.paint) held.labels box
    → has_square area ≡ true → IsOwnBox (with_paint raw layer area (layout_of held.paint)) held.labels (box_with box area)
painted_own_box raw layer area held box library lawful same layer_below held_is sound is square =
    let w = subst IsWellFormed (sym same) lawful.well_formed in
    let rules = subst KeepsRules (sym same) lawful.rules in
    let keeps : KeepsTypes raw.types (layout_of held.paint) =
    subst (λ (kinds : List TypeRec). KeepsTypes kinds (layout_of held.paint)) held_is.kinds sound.types in
    let image = some_image raw layer w layer_below in
    let limit = w.planes_limit in
    let planes = held_is.planes in
    let few : length held.paint.planes ≤ MOST_PLANES = omega arith in
    filled_box (layout_of held.paint) (with_paint raw layer area (layout_of held.paint)) held.labels box area is (IsProper-has_square area square)
    (λ place material. painted_keeps raw layer area (layout_of held.paint) w layer_below keeps place rules.own_sets
    (material_few held.paint few place material) material)
    (λ s covers. (
      place_at (plane_of raw image.0.0) s,
      (painted_fills raw layer area (layout_of held.paint) w layer_below keeps image.0 s rules.own_sets image.1 covers, refl),
    ))
    (painted_only raw layer area (layout_of held.paint) w layer_below keeps)

module _ (library : LibraryParts) (lawful : IsLawfulLibrary library) (cell : ℕ) (below : cell < length library.contents) (layer : ℕ)
    (layer_below : layer < length library.tech.layers) (area : Rect)
    (sound : IsSoundPaint (held_at library.contents cell).paint.kinds (layout_of (held_at library.contents cell).paint)) where
  -- the tree's refusal of the box is that of a hull
  pub paint_fault : (told : LibFault)
      → HasFaultOrLacksMemory (EditIsRefused (edits_of library) (AreaIsRefused area (BoxIsRefused library.tree cell area))) told
      → HasFaultOrLacksMemory (EditIsRefused (edits_of library) (PaintIsRefused (seen library) cell layer area)) told
  paint_fault told =
      let Past : Type 0 = GoesPast Hull (painted (seen library) cell layer area) in
      or_memory_map (first_of_map (λ few.
      first_of_map (λ square.
      first_of_map (λ near refused. elim refused [
        | inl passes ↦ inl (
          would_go_past (painted (seen library) cell layer area) library.tree cell (with_area library.tree cell area) Hull
              (states_after library lawful cell below (λ body. record body { own = with_paint library.tech layer area body.own })
              (with_area library.tree cell area)
              (painted_own_box library.tech layer area (held_at library.contents cell) (cell_at library.tree.cells cell).own library lawful refl layer_below
              (held_lawful library lawful cell below) sound (own_is library lawful cell below) (is_true (has_square area) square)) refl)
              passes.0,
          passes.1,
        )
        | inr none ↦ absurd none.1
      ]))))
    where
      is_true : (b : Bool) → (b ≡ false → ⊥) → b ≡ true
      is_true true some = refl
      is_true false some = absurd (some refl)

  module _ (contents : List Held) (tree : Tree) (done : IsPaintedIn library.tech layer area cell library.contents contents library.tree tree)
      (tree_lawful : IsLawfulTree tree) where
    -- what is seen of the cells is what paint makes of them
    pub painted_seen : cells_seen contents tree
        ≡ changed_at (cells_seen library.contents library.tree) cell (λ body. record body { own = with_paint library.tech layer area body.own })
    painted_seen = repainted_seen library lawful cell below (with_paint library.tech layer area) contents tree _ done.painted done.edited

    -- and the library is lawful
    pub painted_lawful : IsLawfulLibrary (record { tech = library.tech; scale = library.scale; contents = contents; tree = tree })
    painted_lawful =
        let change = with_paint library.tech layer area in
        let box = box_with (cell_at library.tree.cells cell).own area in
        repainted_lawful library lawful cell below change contents tree (Some box) done.painted done.edited tree_lawful
        (subst (λ (own : Layout). IsOwnBox own (held_at library.contents cell).labels box)
        (sym (repainted_layout library lawful cell below change contents tree (Some box) done.painted done.edited))
        (painted_own_box library.tech layer area (held_at library.contents cell) (cell_at library.tree.cells cell).own library lawful refl layer_below
        (held_lawful library lawful cell below) sound (own_is library lawful cell below) done.proper))

    -- nothing refused it
    pub painted_unrefused : (fault : LibFault) → EditIsRefused (edits_of library) (PaintIsRefused (seen library) cell layer area) fault → ⊥
    painted_unrefused fault =
        area_unrefused (edits_of library) area (painted (seen library) cell layer area) fault done.edits done.proper done.near
        (never_past (painted (seen library) cell layer area) tree Hull tree_lawful
        (subst (λ (cells : List CellView). AreStatesOf cells tree.cells) painted_seen painted_lawful.boxes))
