use Rattle.std.proofs.Common.{◌≡◌, ◌==◌, ◌≤◌, ℕ, Bool, true, List, [], ◌∷◌, length, get_or, take, refl, sym, ap, subst, arith}
use Rattle.std.specs.Prelude.{All}
use Rattle.std.proofs.lemmas.List.{length-map, take_all}
use Rattle.geo_core.specs.declared.squares.Rect.{Rect}
use Rattle.ext_model.specs.declared.tables.CellKey.{CellKey}
use Rattle.cell_library.specs.Libraries.{seen}
use Rattle.library_answers.specs.HierMerge.UncleanCells.{IsCleanCell, IsUncleanBelow}
use Rattle.library_answers.proofs.HierMerge.CleanOrders.{clean_before, numbers, one_more_clean, ordered_there}
use Rattle.look_commands.proofs.SquaresLaws.{unclean_there}
use Rattle.look_commands.proofs.command_squares.first_unclean.Goals as goal

-- where an order ends, all of it was seen
all_clean : (P : ℕ → Type 0) (order : List CellKey) (place : ℕ) → length order ≤ place → All P (take place (numbers order)) → All P (numbers order)
all_clean P order place end clean =
    subst (λ (cells : List ℕ). All P cells) (take_all place (numbers order) (omega (arith, end, length-map order (λ (key : CellKey). key.0)))) clean

-- where there are no strips, the list is empty
no_strip : (strips : List (ℕ × Rect)) (count : ℕ) (empty : Bool) → empty ≡ (count == 0) → empty ≡ true → count ≡ length strips → strips ≡ []
no_strip [] count empty is holds long = refl
no_strip (strip ∷ strips) count empty is holds long = absurd (grind arith)

pub offending_of-requires-clause-cell : goal.offending_of-requires-clause-cell
offending_of-requires-clause-cell g c =
    let order = c.args.order.now in
    ordered_there c.args.library.now c.lawful.ensures c.args.root.0 c.requires.root order
    (c.library_order_law.ensures.lists _ c.args.root.0 (numbers order) c.requires.order) c.loop-cell.cell-index (record { 0 = 0 })
    c.loop-cell-test.true

pub offending_of-requires-clause-clean : goal.offending_of-requires-clause-clean
offending_of-requires-clause-clean g c =
    let library = c.args.library.now in
    let order = c.args.order.now in
    let there =
    ordered_there library c.lawful.ensures c.args.root.0 c.requires.root order
    (c.library_order_law.ensures.lists _ c.args.root.0 (numbers order) c.requires.order) c.loop-cell.cell-index (record { 0 = 0 })
    c.loop-cell-test.true in
    clean_before library order (c.library_order_law.ensures.children_first _ c.args.root.0 (numbers order) c.requires.order) c.loop-cell.cell-index
    (record { 0 = 0 }) c.loop-cell-test.true c.loop-cell.invariant (c.unfolded.ensures _ there)

pub returns-then-not-is_empty-clause-found : goal.returns-then-not-is_empty-clause-found
returns-then-not-is_empty-clause-found g c =
    let library = c.args.library.now in
    let order = c.args.order.now in
    let there =
    ordered_there library c.lawful.ensures c.args.root.0 c.requires.root order
    (c.library_order_law.ensures.lists _ c.args.root.0 (numbers order) c.requires.order) c.loop-cell.cell-index (record { 0 = 0 })
    c.loop-cell-test.true in
    let found =
    unclean_there (seen library) c.args.root.0 order c.loop-cell.cell-index (record { 0 = 0 }) c.in_ok-squares.squares.items c.requires.order
    c.loop-cell-test.true c.loop-cell.invariant (λ clean.
    let none : c.in_ok-squares.squares.items ≡ [] = c.in_ok-squares.ensures.clean.1 clean in
    grind (arith, c.in_ok-squares.squares.ok.0, ap length none)) c.in_ok-squares.ensures.squares in (
      subst
          (λ (squares : List (ℕ × Rect)).
          IsUncleanBelow (seen library) c.args.root.0 (get_or order c.loop-cell.cell-index (record { 0 = 0 })).0 squares) (sym c.of.ensures) found,
      there,
    )

pub loop-cell-preserved : goal.loop-cell-preserved
loop-cell-preserved g c =
    let none : c.in_ok-squares.squares.items ≡ [] =
    no_strip c.in_ok-squares.squares.items _ c.is_empty.result c.is_empty.ensures c.if-not-is_empty.false c.in_ok-squares.squares.ok.0 in
    one_more_clean (seen c.args.library.now) c.args.order.now c.loop-cell.cell-index (record { 0 = 0 }) c.loop-cell-test.true c.loop-cell.invariant
    (c.in_ok-squares.ensures.clean.0 none)

pub returns-clause-found : goal.returns-clause-found
returns-clause-found g c =
    all_clean (IsCleanCell (seen c.args.library.now)) c.args.order.now c.loop-cell.cell-index (omega arith) c.loop-cell.invariant
