-- What gives a cell back its paint or its labels: it has room for them, and what becomes of the library.
use Rattle.cell_library.proofs.Common.{◌≡◌, ◌<◌, ◌-◌, ℕ, List, ◌++◌, length, set, Option, refl, sym, ap, subst, ◌∙◌, arith, inl, inr, All, IsTrue}
use Rattle.cell_library.proofs.Common.{IfSome, Some, None, if◌then◌else◌, option_to_list, ints, get_or-set_same, length-set, All-take, In}
use Rattle.cell_library.proofs.Common.{In-push_cases, Rect, Piece, LiesWithin, is_covered, Label, RawTech, TypeRec, TypeId, erased_column, type_on}
use Rattle.cell_library.proofs.Common.{Layout, Place, with_erased, layout_of, IsSoundPaint, with_pieces, IsLabel, has_sides, Hull, IsInside}
use Rattle.cell_library.proofs.Common.{CellState, Tree, IsLawfulTree, IsLawfulOwn, cell_at, with_own, empty_state, LibFault, MOST_EDITS, Held}
use Rattle.cell_library.proofs.Common.{held_at, without_last, IsRepainted, LibraryParts, IsLawfulLibrary, cells_seen, uses_in, seen, AreStatesOf}
use Rattle.cell_library.proofs.Common.{OwnBoxIs, EditIsRefused, NothingElse, IsLawfulView, relabelled, cell_view, CellView, LibraryView, changed_at}
use Rattle.cell_library.proofs.Common.{no_cell, view_at, with_cell_changed}
use Rattle.std.specs.Prelude.{Bool, false}
use Rattle.geo_core.proofs.FiniteSets.Places.{In-take}
use Rattle.cell_bodies.specs.CellPaint.Painting.{column_at, with_columns}
use Rattle.cell_bodies.proofs.CellPaint.PieceLaws.{pieces_outside}
use Rattle.cell_library.specs.Contents.{with_labels}
use Rattle.cell_library.specs.steps.OwnRestorations.{HasRoomFor, IsBoxBefore, IsPutBackIn, IsRelabelledIn}
use Rattle.cell_library.proofs.BoxLaws.{fewer_inside}
use Rattle.cell_library.proofs.BoxSteps.{own_lawful}
use Rattle.cell_library.proofs.EditLaws.{edit_seen, edit_lawful}
use Rattle.cell_library.proofs.FaultLaws.{not_first, not_full}
use Rattle.cell_library.proofs.LimitLaws.{never_past, states_unique, would_go_past}
use Rattle.cell_library.proofs.OwnEdits.{labels_here}
use Rattle.cell_library.proofs.PaintEdits.{held_lawful, put_there, repainted_seen, repainted_there, states_after}
use Rattle.cell_library.proofs.UndoneEdits.{changed_there}
use Rattle.cell_library.proofs.ViewLaws.{cell_viewed, count_seen, length-changed_at}

-- ---- parts of a library

-- room for pieces is room for what is put
pub room_put : (tree : Tree) (cell : ℕ) (area : Rect) (pieces : List (ℕ × Piece)) (old new : List Held) → cell < length old
    → IsRepainted old new cell (with_pieces area pieces)
    → HasRoomFor tree cell (with_pieces area pieces (layout_of (held_at old cell).paint)) (held_at old cell).labels
    → HasRoomFor tree cell (layout_of (held_at new cell).paint) (held_at new cell).labels
room_put tree cell area pieces old new below put room =
    let there = put_there old new cell (record (held_at old cell) { paint = put.paint }) below put.is in
    subst (λ (h : Held). HasRoomFor tree cell (layout_of h.paint) h.labels) (sym there)
    (subst (λ (own : Layout). HasRoomFor tree cell own (held_at old cell).labels) (λ i place. sym (put.layout place) i) room)

-- room for labels is room for the cell that has them
pub room_relabelled : (tree : Tree) (cell : ℕ) (labels : List Label) (old new : List Held) → cell < length old
    → new ≡ set old cell (with_labels (held_at old cell) labels) → HasRoomFor tree cell (layout_of (held_at old cell).paint) labels
    → HasRoomFor tree cell (layout_of (held_at new cell).paint) (held_at new cell).labels
room_relabelled tree cell labels old new below is room =
    subst (λ (h : Held). HasRoomFor tree cell (layout_of h.paint) h.labels) (sym (put_there old new cell (with_labels (held_at old cell) labels) below is))
    room

-- the box that the cell had is that of a layout that differs in the area alone, where the paint changed there alone
pub box_before_repaint : (area : Rect) (change : Layout → Layout)
    → ((own : Layout) (place : Place) → is_covered area place.square ≡ false → change own place ≡ own place)
    → (old new : List Held) (cell : ℕ) (box : Option Rect) → cell < length old → IsRepainted old new cell change
    → OwnBoxIs (layout_of (held_at old cell).paint) (held_at old cell).labels box
    → IsBoxBefore area (layout_of (held_at new cell).paint) (held_at new cell).labels box
box_before_repaint area change stays old new cell box below repainted is =
    let held = held_at old cell in
    subst (λ (h : Held). IsBoxBefore area (layout_of h.paint) h.labels box)
    (sym (put_there old new cell (record held { paint = repainted.paint }) below repainted.is))
    (record {
      layout = layout_of held.paint;
      labels_before = held.labels;
      is = is;
      agrees = λ place outside. sym (repainted.layout place ∙ stays (layout_of held.paint) place outside);
      came = λ label among. inl among;
      went = λ label among. inl among;
    })

-- so where pieces were put
pub box_before_put : (area : Rect) (pieces : List (ℕ × Piece)) (old new : List Held) (cell : ℕ) (box : Option Rect) → cell < length old
    → IsRepainted old new cell (with_pieces area pieces) → OwnBoxIs (layout_of (held_at old cell).paint) (held_at old cell).labels box
    → IsBoxBefore area (layout_of (held_at new cell).paint) (held_at new cell).labels box
box_before_put area pieces = box_before_repaint area (with_pieces area pieces) (pieces_outside area pieces)

-- a change of columns leaves what stands outside its area
pub columns_outside : (change : List TypeId → List TypeId) (area : Rect) (layout : Layout) (place : Place) → is_covered area place.square ≡ false
    → with_columns change area layout place ≡ layout place
columns_outside change area layout place outside =
    ap (λ (b : Bool). if b then type_on (change (column_at layout place.square)) place.plane else layout place) outside

-- so where a layer was erased
pub box_before_erase : (raw : RawTech) (layer : ℕ) (area : Rect) (old new : List Held) (cell : ℕ) (box : Option Rect) → cell < length old
    → IsRepainted old new cell (with_erased raw layer area) → OwnBoxIs (layout_of (held_at old cell).paint) (held_at old cell).labels box
    → IsBoxBefore area (layout_of (held_at new cell).paint) (held_at new cell).labels box
box_before_erase raw layer area = box_before_repaint area (with_erased raw layer area) (columns_outside (erased_column raw layer) area)

-- and where the last label went, what differs lies in that label's area
pub box_before_drop : (gone : Option Label) (old new : List Held) (cell : ℕ) (box : Option Rect) → cell < length old
    → new ≡ set old cell (with_labels (held_at old cell) (without_last (held_at old cell).labels))
    → (held_at old cell).labels ≡ without_last (held_at old cell).labels ++ option_to_list gone
    → OwnBoxIs (layout_of (held_at old cell).paint) (held_at old cell).labels box
    → IfSome gone (λ label. IsBoxBefore label.area (layout_of (held_at new cell).paint) (held_at new cell).labels box)
box_before_drop None old new cell box below dropped last is = tt
box_before_drop (Some gone) old new cell box below dropped last is =
    let held = held_at old cell in
    subst (λ (h : Held). IsBoxBefore gone.area (layout_of h.paint) h.labels box)
    (sym (put_there old new cell (with_labels held (without_last held.labels)) below dropped))
    (record {
      layout = layout_of held.paint;
      labels_before = held.labels;
      is = is;
      agrees = λ place outside. refl;
      came = λ label among. inl (In-take (length held.labels - 1) held.labels label among);
      went = λ label among. elim (In-push_cases label (without_last held.labels) gone (subst (In label) last among)) [
        | inl still ↦ inl still
        | inr same ↦ inr (subst (λ (l : Label). LiesWithin l.area gone.area) same (within_itself gone.area))
      ];
    })
  where
    within_itself : (area : Rect) → LiesWithin area area
    within_itself area = record {
      right_of_xlo = omega (arith, ints);
      above_ylo = omega (arith, ints);
      left_of_xhi = omega (arith, ints);
      below_yhi = omega (arith, ints);
    }

-- what is left without the last label has its box inside the old one
pub dropped_inside : (old new : List Held) (cell : ℕ) (box after : Option Rect) → cell < length old
    → new ≡ set old cell (with_labels (held_at old cell) (without_last (held_at old cell).labels))
    → OwnBoxIs (layout_of (held_at old cell).paint) (held_at old cell).labels box
    → OwnBoxIs (layout_of (held_at new cell).paint) (held_at new cell).labels after → IsInside after box
dropped_inside old new cell box after below dropped was is =
    let held = held_at old cell in
    let there = put_there old new cell (with_labels held (without_last held.labels)) below dropped in
    fewer_inside (layout_of held.paint) (layout_of held.paint) held.labels (without_last held.labels) box after was
    (subst (λ (h : Held). OwnBoxIs (layout_of h.paint) h.labels after) there is)
    (λ place material. material) (λ label among. In-take (length held.labels - 1) held.labels label among)

-- and the labels that are left are upright
pub dropped_upright : (old new : List Held) (cell : ℕ) → cell < length old
    → new ≡ set old cell (with_labels (held_at old cell) (without_last (held_at old cell).labels))
    → All (λ label. IsTrue (has_sides label.area)) (held_at old cell).labels → All (λ label. IsTrue (has_sides label.area)) (held_at new cell).labels
dropped_upright old new cell below dropped upright =
    let held = held_at old cell in
    let P : Label → Type 0 = λ label. IsTrue (has_sides label.area) in
    subst (λ (h : Held). All P h.labels) (sym (put_there old new cell (with_labels held (without_last held.labels)) below dropped))
    (All-take P (length held.labels - 1) held.labels upright)

-- ---- the library

-- an edit without faults of its own is refused after the last edit alone
pub nothing_refused : (edits : ℕ) (fault : LibFault) → edits < MOST_EDITS → EditIsRefused edits NothingElse fault → ⊥
nothing_refused edits fault few = not_first (not_full edits few) (λ none. none)

module _ (library : LibraryParts) (lawful : IsLawfulLibrary library) (cell : ℕ) (below : cell < length library.contents) where
  -- the paint that is seen is that which is kept
  pub own_here : (view_at (seen library) cell).own ≡ layout_of (held_at library.contents cell).paint
  own_here = ap (λ (view : CellView). view.own) (cell_viewed library.contents (uses_in library.tree.cells) cell below)

  -- sound paint that is seen is sound paint of the cell
  pub sound_here : (area : Rect) (pieces : List (ℕ × Piece)) → IsSoundPaint library.tech.types (with_pieces area pieces (view_at (seen library) cell).own)
      → IsSoundPaint (held_at library.contents cell).paint.kinds (with_pieces area pieces (layout_of (held_at library.contents cell).paint))
  sound_here area pieces sound =
      subst (λ (kinds : List TypeRec). IsSoundPaint kinds (with_pieces area pieces (layout_of (held_at library.contents cell).paint)))
      (sym (held_lawful library lawful cell below).kinds)
      (subst (λ (own : Layout). IsSoundPaint library.tech.types (with_pieces area pieces own)) own_here sound)

  -- the cell as it is
  abbrev body : CellView
  body = cell_view (held_at library.contents cell) (cell_at library.tree.cells cell).uses

  -- a cell has room for what it has in some lawful library where nothing else differs
  pub has_room : (change : CellView → CellView) → (cell_at library.tree.cells cell).uses ≡ (change body).uses
      → IsLawfulView (with_cell_changed (seen library) cell change) → HasRoomFor library.tree cell (change body).own (change body).labels
  has_room change uses view =
      let changed : LibraryView = with_cell_changed (seen library) cell change in
      let other : LibraryParts = view.0 in
      let many = lawful.so_many in
      let are : AreStatesOf changed.cells other.tree.cells = subst (λ (v : LibraryView). AreStatesOf v.cells other.tree.cells) view.2 view.1.boxes in
      let state : Option Rect → CellState = λ box. with_own (cell_at library.tree.cells cell) box in
      let states = λ (box : Option Rect) (is : OwnBoxIs (change body).own (change body).labels box).
      states_after library lawful cell below change (state box) is uses in
      record {
        lawful = λ box is.
            let same : other.tree.cells ≡ set library.tree.cells cell (state box) =
            states_unique changed.cells other.tree.cells (set library.tree.cells cell (state box)) are (states box is) in
            let long : length other.tree.cells ≡ length library.tree.cells = ap length same ∙ length-set library.tree.cells cell (state box) in
            let here : cell_at other.tree.cells cell ≡ state box =
            ap (λ (cells : List CellState). cell_at cells cell) same ∙ get_or-set_same library.tree.cells cell (state box) empty_state (omega arith) in
            subst (λ (s : CellState). IsLawfulOwn s.own) here (own_lawful other.tree cell view.1.tree (omega arith));
        hulls = λ box is passes.
            never_past changed other.tree Hull view.1.tree are (would_go_past changed library.tree cell (state box) Hull (states box is) passes);
      }

  -- labels of a lawful library are lawful
  pub lawful_labels : (labels : List Label) → IsLawfulView (relabelled (seen library) cell labels) → All (IsLabel library.tech) labels
  lawful_labels labels view =
      let changed : LibraryView = relabelled (seen library) cell labels in
      let other : LibraryParts = view.0 in
      let inside : cell < length (seen library).cells = subst (λ (n : ℕ). cell < n) (sym (count_seen library)) below in
      let long : length (seen other).cells ≡ length (seen library).cells =
      ap (λ (v : LibraryView). length v.cells) view.2 ∙ length-changed_at (seen library).cells cell (λ b. record b { labels = labels }) in
      let there : cell < length other.contents = subst (λ (n : ℕ). cell < n) (sym long ∙ count_seen other) inside in
      let same : (held_at other.contents cell).labels ≡ labels =
      sym (labels_here other view.1 cell there) ∙ ap (λ (v : LibraryView). (view_at v cell).labels) view.2
      ∙ ap (λ (b : CellView). b.labels) (changed_there (seen library).cells cell (λ b. record b { labels = labels }) no_cell inside) in
      subst (All (IsLabel library.tech)) same
      (subst (λ (raw : RawTech). All (IsLabel raw) (held_at other.contents cell).labels) (ap (λ (v : LibraryView). v.tech) view.2)
      (held_lawful other view.1 cell there).labels)

  -- the labels but the last of a lawful cell are lawful
  pub lawful_without_last : All (IsLabel library.tech) (without_last (held_at library.contents cell).labels)
  lawful_without_last =
      let labels = (held_at library.contents cell).labels in
      All-take (IsLabel library.tech) (length labels - 1) labels (held_lawful library lawful cell below).labels

  -- ---- pieces

  module _ (area : Rect) (pieces : List (ℕ × Piece)) (contents : List Held) (tree : Tree)
      (done : IsPutBackIn area pieces cell library.contents contents library.tree tree) (tree_lawful : IsLawfulTree tree) where
    pub put_seen : cells_seen contents tree
        ≡ changed_at (cells_seen library.contents library.tree) cell (λ b. record b { own = with_pieces area pieces b.own })
    put_seen = repainted_seen library lawful cell below (with_pieces area pieces) contents tree done.box done.put done.edited

    pub put_lawful : IsLawfulLibrary (record { tech = library.tech; scale = library.scale; contents = contents; tree = tree })
    put_lawful =
        repainted_there library lawful cell below (with_pieces area pieces) contents tree done.box done.put done.edited tree_lawful done.own

  -- ---- labels

  module _ (change : List Label → List Label) (labels_are : All (IsLabel library.tech) (change (held_at library.contents cell).labels)) (contents : List Held)
      (tree : Tree) (done : IsRelabelledIn (change (held_at library.contents cell).labels) cell library.contents contents library.tree tree)
      (tree_lawful : IsLawfulTree tree) where
    pub relabelled_seen : cells_seen contents tree
        ≡ changed_at (cells_seen library.contents library.tree) cell (λ b. record b { labels = change b.labels })
    relabelled_seen =
        edit_seen library contents tree cell (with_labels (held_at library.contents cell) (change (held_at library.contents cell).labels))
        (with_own (cell_at library.tree.cells cell) done.box) (λ b. record b { labels = change b.labels }) lawful below done.relabelled
        done.edited refl

    pub relabelled_lawful : IsLawfulLibrary (record { tech = library.tech; scale = library.scale; contents = contents; tree = tree })
    relabelled_lawful =
        let held = held_lawful library lawful cell below in
        let many = lawful.so_many in
        let after : Held = with_labels (held_at library.contents cell) (change (held_at library.contents cell).labels) in
        edit_lawful library contents tree cell after (with_own (cell_at library.tree.cells cell) done.box) lawful below done.relabelled
        done.edited tree_lawful refl
        (record { name = held.name; kinds = held.kinds; planes = held.planes; labels = labels_are })
        (lawful.ids cell empty_state (omega arith))
        (subst (λ (h : Held). OwnBoxIs (layout_of h.paint) h.labels done.box) (put_there library.contents contents cell after below done.relabelled)
        done.own)
