-- Erasing, and labels of one cell: what becomes of the library, and what it is refused for.
use Rattle.cell_library.proofs.Common.{◌≡◌, ◌<◌, ℕ, false, Bool, List, [], ◌∷◌, ◌++◌, length, filter, refl, sym, ap, subst, ◌∙◌, arith, inl, inr}
use Rattle.cell_library.proofs.Common.{true≢false, IfSome, not, IsTrue, bytes_eq, All-push, In-filter_source, All-from_In, All-In, Rect, Label}
use Rattle.cell_library.proofs.Common.{with_erased, is_in_range, layout_of, IsLabel, has_sides, Hull, Tree, IsLawfulTree, cell_at, with_own}
use Rattle.cell_library.proofs.Common.{empty_state, LibFault, Held, held_at, erased, LibraryParts, IsLawfulLibrary, cells_seen, uses_in, seen}
use Rattle.cell_library.proofs.Common.{edits_of, AreStatesOf, OwnBoxIs, FirstOf, NothingElse, EditIsRefused, HasFaultOrLacksMemory, CellView}
use Rattle.cell_library.proofs.Common.{changed_at, view_at}
use Rattle.std.proofs.lemmas.Bool.{and_from}
use Rattle.cell_bodies.specs.Numbers.{is_position}
use Rattle.cell_bodies.specs.Words.{is_label_text}
use Rattle.cell_library.specs.declared.faults.LibFault.TheVariants.{NoLabel}
use Rattle.cell_library.specs.steps.CellEdits.{with_area, BoxIsRefused, IsErasedIn, IsLabelledIn, IsUnlabelledIn}
use Rattle.cell_library.specs.Contents.{with_label, without_labels}
use Rattle.cell_library.specs.Edits.{labelled}
use Rattle.cell_library.specs.Refusals.{AreaIsRefused, LabelAreaIsRefused, EraseIsRefused, LabelIsRefused}
use Rattle.cell_library.specs.Refusals.{UnlabelIsRefused, has_text}
use Rattle.cell_library.proofs.BoxLaws.{labelled_box}
use Rattle.cell_library.proofs.EditLaws.{edit_seen, edit_lawful}
use Rattle.cell_library.proofs.FaultLaws.{first_of_map, not_first, or_memory_map, not_full}
use Rattle.cell_library.proofs.LimitLaws.{never_past, would_go_past}
use Rattle.cell_library.proofs.PaintEdits.{area_unrefused, held_lawful, own_is, put_there, repainted_seen, repainted_there, states_after}
use Rattle.cell_library.proofs.ViewLaws.{cell_viewed}

module _ (library : LibraryParts) (lawful : IsLawfulLibrary library) (cell : ℕ) (below : cell < length library.contents) where
  -- the labels that are seen are those that are kept
  pub labels_here : (view_at (seen library) cell).labels ≡ (held_at library.contents cell).labels
  labels_here = ap (λ (view : CellView). view.labels) (cell_viewed library.contents (uses_in library.tree.cells) cell below)

  -- ---- erasing

  pub erase_fault : (layer : ℕ) (area : Rect) (told : LibFault) → HasFaultOrLacksMemory (EditIsRefused (edits_of library) (AreaIsRefused area NothingElse)) told
      → HasFaultOrLacksMemory (EditIsRefused (edits_of library) (EraseIsRefused (seen library) cell layer area)) told
  erase_fault layer area told =
      or_memory_map (first_of_map (λ few. first_of_map (λ square. first_of_map (λ near none. absurd none))))

  module _ (layer : ℕ) (area : Rect) (contents : List Held) (tree : Tree)
      (done : IsErasedIn library.tech layer area cell library.contents contents library.tree tree)
      (tree_lawful : IsLawfulTree tree) where
    pub erased_seen : cells_seen contents tree
        ≡ changed_at (cells_seen library.contents library.tree) cell (λ body. record body { own = with_erased library.tech layer area body.own })
    erased_seen = repainted_seen library lawful cell below (with_erased library.tech layer area) contents tree done.box done.erased done.edited

    pub erased_lawful : IsLawfulLibrary (record { tech = library.tech; scale = library.scale; contents = contents; tree = tree })
    erased_lawful =
        repainted_there library lawful cell below (with_erased library.tech layer area) contents tree done.box done.erased done.edited tree_lawful done.own

    pub erased_unrefused : (fault : LibFault) → EditIsRefused (edits_of library) (EraseIsRefused (seen library) cell layer area) fault → ⊥
    erased_unrefused fault =
        area_unrefused (edits_of library) area (erased (seen library) cell layer area) fault done.edits done.proper done.near
        (never_past (erased (seen library) cell layer area) tree Hull tree_lawful
        (subst (λ (cells : List CellView). AreStatesOf cells tree.cells) erased_seen erased_lawful.boxes))

  -- ---- a label

  pub label_fault : (label : Label) (told : LibFault)
      → HasFaultOrLacksMemory (EditIsRefused (edits_of library) (LabelAreaIsRefused label.area (BoxIsRefused library.tree cell label.area))) told
      → HasFaultOrLacksMemory (EditIsRefused (edits_of library) (LabelIsRefused (seen library) cell label)) told
  label_fault label told =
      or_memory_map (first_of_map (λ few. first_of_map (λ sides. first_of_map (λ near refused.
      elim refused [
        | inl passes ↦ inl (
          would_go_past (labelled (seen library) cell label) library.tree cell (with_area library.tree cell label.area) Hull
              (states_after library lawful cell below (λ body. record body { labels = body.labels ++ label ∷ [] }) (with_area library.tree cell label.area)
              (labelled_box (layout_of (held_at library.contents cell).paint) (held_at library.contents cell).labels (cell_at library.tree.cells cell).own label
              (own_is library lawful cell below)) refl)
              passes.0,
          passes.1,
        )
        | inr none ↦ absurd none.1
      ]))))

  module _ (label : Label) (contents : List Held) (tree : Tree) (done : IsLabelledIn label cell library.contents contents library.tree tree)
      (tree_lawful : IsLawfulTree tree)
      (layer : IfSome label.layer (λ layer. layer.0 < length library.tech.layers)) (position : IsTrue (is_position label.position))
      (text : IsTrue (is_label_text label.text)) where
    pub labelled_seen : cells_seen contents tree
        ≡ changed_at (cells_seen library.contents library.tree) cell (λ body. record body { labels = body.labels ++ label ∷ [] })
    labelled_seen =
        edit_seen library contents tree cell (with_label (held_at library.contents cell) label) (with_area library.tree cell label.area)
        (λ body. record body { labels = body.labels ++ label ∷ [] }) lawful below done.labelled done.edited refl

    pub labelled_lawful : IsLawfulLibrary (record { tech = library.tech; scale = library.scale; contents = contents; tree = tree })
    labelled_lawful =
        let held = held_lawful library lawful cell below in
        let many = lawful.so_many in
        edit_lawful library contents tree cell (with_label (held_at library.contents cell) label) (with_area library.tree cell label.area) lawful below
        done.labelled done.edited
        tree_lawful refl
        (record {
          name = held.name;
          kinds = held.kinds;
          planes = held.planes;
          labels = All-push (IsLabel library.tech) (held_at library.contents cell).labels label held.labels (record {
            layer = layer;
            area = and_from (has_sides label.area) (is_in_range label.area) done.sides done.near;
            position = position;
            text = text;
          });
        })
        (lawful.ids cell empty_state (omega arith))
        (labelled_box (layout_of (held_at library.contents cell).paint) (held_at library.contents cell).labels (cell_at library.tree.cells cell).own label
        (own_is library lawful cell below))

    pub labelled_unrefused : (fault : LibFault) → EditIsRefused (edits_of library) (LabelIsRefused (seen library) cell label) fault → ⊥
    labelled_unrefused fault =
        not_first (not_full _ done.edits)
        (not_first (λ none. true≢false (sym done.sides ∙ none))
        (not_first (λ far. true≢false (sym done.near ∙ far))
        (not_first
        (never_past (labelled (seen library) cell label) tree Hull tree_lawful
        (subst (λ (cells : List CellView). AreStatesOf cells tree.cells) labelled_seen labelled_lawful.boxes))
        (λ none. none))))

  -- ---- labels that go

  pub unlabel_fault : (text : List ℕ) (told : LibFault)
      → EditIsRefused (edits_of library) (FirstOf (has_text (held_at library.contents cell).labels text ≡ false) NoLabel NothingElse) told
      → EditIsRefused (edits_of library) (UnlabelIsRefused (seen library) cell text) told
  unlabel_fault text told refused =
      subst (λ (labels : List Label). EditIsRefused (edits_of library) (FirstOf (has_text labels text ≡ false) NoLabel NothingElse) told) (sym labels_here)
      refused

  module _ (text : List ℕ) (contents : List Held) (tree : Tree) (done : IsUnlabelledIn text cell library.contents contents library.tree tree)
      (tree_lawful : IsLawfulTree tree) where
    pub unlabelled_seen : cells_seen contents tree
        ≡ changed_at (cells_seen library.contents library.tree) cell
        (λ body. record body { labels = filter (λ label. not (bytes_eq label.text text)) body.labels })
    unlabelled_seen =
        edit_seen library contents tree cell (without_labels (held_at library.contents cell) text) (with_own (cell_at library.tree.cells cell) done.box)
        (λ body. record body { labels = filter (λ label. not (bytes_eq label.text text)) body.labels }) lawful below done.unlabelled done.edited refl

    pub unlabelled_lawful : IsLawfulLibrary (record { tech = library.tech; scale = library.scale; contents = contents; tree = tree })
    unlabelled_lawful =
        let held = held_lawful library lawful cell below in
        let many = lawful.so_many in
        let test : Label → Bool = λ label. not (bytes_eq label.text text) in
        edit_lawful library contents tree cell (without_labels (held_at library.contents cell) text) (with_own (cell_at library.tree.cells cell) done.box)
        lawful below
        done.unlabelled done.edited tree_lawful refl
        (record {
          name = held.name;
          kinds = held.kinds;
          planes = held.planes;
          labels = All-from_In (IsLabel library.tech) (filter test (held_at library.contents cell).labels) (λ label label_in.
              All-In (IsLabel library.tech) (held_at library.contents cell).labels label held.labels
              (In-filter_source test label (held_at library.contents cell).labels label_in));
        })
        (lawful.ids cell empty_state (omega arith))
        (subst (λ (h : Held). OwnBoxIs (layout_of h.paint) h.labels done.box)
        (put_there library.contents contents cell (without_labels (held_at library.contents cell) text) below done.unlabelled) done.own)

    pub unlabelled_unrefused : (fault : LibFault)
        → EditIsRefused (edits_of library) (UnlabelIsRefused (seen library) cell text) fault → ⊥
    unlabelled_unrefused fault =
        not_first (not_full _ done.edits)
        (not_first (λ none. true≢false (sym done.some ∙ ap (λ (labels : List Label). has_text labels text) (sym labels_here) ∙ none)) (λ none. none))
