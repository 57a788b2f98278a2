use Rattle.cell_library.proofs.Common.{◌≡◌, ◌<◌, ℕ, length, sym, subst, All, IfOk, Vec, Global, IfOk-weaker, Rect, element_parts, elements_in}
use Rattle.cell_library.proofs.Common.{IsLawfulBox, hulls_below, size_at, AreElementBoxes, HoldParts, LibraryParts, seen, view_at}
use Rattle.cell_library.specs.LayoutTrees.{tree_at}
use Rattle.cell_library.proofs.BoxesBelow.{boxes_of_tree, seen_boxes_are_lawful}
use Rattle.cell_library.proofs.HeldParts.{boxes_hold_parts}
use Rattle.cell_library.proofs.reader.Reader.element_boxes.Goals as goal

-- the boxes are those that the tree of the library tells
abbrev AreTreeBoxes : LibraryParts → ℕ → Vec Rect Global → Type 0
AreTreeBoxes library cell boxes = boxes.items ≡ hulls_below (size_at library.tree.sizes) (view_at (seen library) cell).uses

pub returns-clause-boxes : goal.returns-clause-boxes
returns-clause-boxes c =
    let library : LibraryParts = c.self.inside.library.now in
    let cell = c.args.cell.0 in
    subst (λ (l : LibraryParts). IfOk c.boxes_of.result (λ (boxes : Vec Rect Global).
    AreElementBoxes (seen l) c.args.cell.0 boxes.items)) c.self.view_is
    (IfOk-weaker c.boxes_of.result (AreTreeBoxes library cell) (λ (boxes : Vec Rect Global). AreElementBoxes (seen library) cell boxes.items)
    (λ boxes are. boxes_of_tree library c.lawful.ensures cell boxes.items are) c.boxes_of.ensures)

pub returns-clause-hold : goal.returns-clause-hold
returns-clause-hold c =
    let library : LibraryParts = c.self.inside.library.now in
    let cell = c.args.cell.0 in
    subst
    (λ (l : LibraryParts).
    IfOk c.boxes_of.result (λ (boxes : Vec Rect Global).
    HoldParts boxes.items (element_parts l.tech (elements_in (tree_at (seen l) c.args.cell.0))))) c.self.view_is
    (IfOk-weaker c.boxes_of.result (AreTreeBoxes library cell)
    (λ (boxes : Vec Rect Global). HoldParts boxes.items (element_parts library.tech (elements_in (tree_at (seen library) cell))))
    (λ boxes are. boxes_hold_parts library c.lawful.ensures cell boxes.items are) c.boxes_of.ensures)

pub returns-clause-lawful : goal.returns-clause-lawful
returns-clause-lawful c =
    let library : LibraryParts = c.self.inside.library.now in
    let cell = c.args.cell.0 in
    let below : cell < length library.contents = subst (λ (l : LibraryParts). c.args.cell.0 < length l.contents) (sym c.self.view_is) c.requires in
    IfOk-weaker c.boxes_of.result (AreTreeBoxes library cell) (λ (boxes : Vec Rect Global). All IsLawfulBox boxes.items)
    (λ boxes are. seen_boxes_are_lawful library c.lawful.ensures cell boxes.items below are) c.boxes_of.ensures
