use Rattle.cif_writing.proofs.Common.{◌+◌, ◌<◌, ℕ, List, length, map, get_or, subst, arith, length-map, slice_get-get_or, err_from_is_err_and}
use Rattle.cif_writing.proofs.Common.{CellKey, In-slice_get, slice_get-map_there, seen, LONGEST_TEXT, IsSymbol}
use Rattle.cif_writing.proofs.OneText.{one_of_cells}
use Rattle.cif_writing.proofs.WritingLaws.{passed_on, too_long_at, too_long_with, writes_all, writes_more, writes_none}
use Rattle.cif_writing.proofs.writing.write_symbols.Goals as goal

pub loop-place-init : goal.loop-place-init
loop-place-init c =
    writes_none (IsSymbol (seen c.args.library.now) c.args.numbers.now) 1 (map (λ (key : CellKey). key.0) c.args.order.now) c.args.out.now.items

pub write_symbol-requires-clause-cell : goal.write_symbol-requires-clause-cell
write_symbol-requires-clause-cell c =
    let order = c.args.order.now in
    let place = c.loop-place.place in
    let key = get_or order place (record { 0 = 0 }) in
    let at = slice_get-map_there (λ (one : CellKey). one.0) order place key (slice_get-get_or order place (record { 0 = 0 }) c.loop-place-test.true) in
    c.requires.cells key.0 (In-slice_get (map (λ (one : CellKey). one.0) order) place key.0 at)

pub loop-place-preserved : goal.loop-place-preserved
loop-place-preserved c =
    let order = c.args.order.now in
    let place = c.loop-place.place in
    let key = get_or order place (record { 0 = 0 }) in
    let at = slice_get-map_there (λ (one : CellKey). one.0) order place key (slice_get-get_or order place (record { 0 = 0 }) c.loop-place-test.true) in
    writes_more (IsSymbol (seen c.args.library.now) c.args.numbers.now) 1 (map (λ (one : CellKey). one.0) order) place (place + 1) key.0
    c.args.out.now.items c.loop-place.out.items c.write_symbol.new.out.items at (omega arith) c.loop-place.invariant
    c.in_ok-write_symbol.ensures.written

pub returns-in_err-check_length-clause-refused : goal.returns-in_err-check_length-clause-refused
returns-in_err-check_length-clause-refused c =
    let order = c.args.order.now in
    let cells = map (λ (one : CellKey). one.0) order in
    let place = c.loop-place.place in
    let key = get_or order place (record { 0 = 0 }) in
    let at = slice_get-map_there (λ (one : CellKey). one.0) order place key (slice_get-get_or order place (record { 0 = 0 }) c.loop-place-test.true) in
    let long = subst (λ (text : List ℕ). LONGEST_TEXT < length text) c.deref.ensures.value c.in_err-check_length.ensures.refused in
    passed_on c.from_residual.result c.in_err-check_length.field-0.0 _ (err_from_is_err_and c.from_residual.result c.from_residual.ensures.1)
    (λ _. too_long_at (IsSymbol (seen c.args.library.now) c.args.numbers.now) 1 cells place (place + 1) key.0 c.args.out.now.items c.loop-place.out.items
    (one_of_cells c.args.library.now c.lawful.ensures c.args.numbers.now cells (λ k cell there. c.requires.cells cell (In-slice_get cells k cell there))) at
    (omega arith) c.loop-place.invariant (λ lines is. too_long_with lines c.loop-place.out.items long))

pub returns-in_err-write_symbol-clause-refused : goal.returns-in_err-write_symbol-clause-refused
returns-in_err-write_symbol-clause-refused c =
    let order = c.args.order.now in
    let cells = map (λ (one : CellKey). one.0) order in
    let place = c.loop-place.place in
    let key = get_or order place (record { 0 = 0 }) in
    let at = slice_get-map_there (λ (one : CellKey). one.0) order place key (slice_get-get_or order place (record { 0 = 0 }) c.loop-place-test.true) in
    passed_on c.from_residual-in_err-write_symbol.result c.in_err-write_symbol.field-0.0 _
    (err_from_is_err_and c.from_residual-in_err-write_symbol.result c.from_residual-in_err-write_symbol.ensures.1)
    (λ other. too_long_at (IsSymbol (seen c.args.library.now) c.args.numbers.now) 1 cells place (place + 1) key.0 c.args.out.now.items
    c.loop-place.out.items
    (one_of_cells c.args.library.now c.lawful.ensures c.args.numbers.now cells (λ k cell there. c.requires.cells cell (In-slice_get cells k cell there))) at
    (omega arith) c.loop-place.invariant (c.in_err-write_symbol.ensures.refused other))

pub returns-clause-written : goal.returns-clause-written
returns-clause-written c =
    let many = length-map c.args.order.now (λ (key : CellKey). key.0) in
    writes_all (IsSymbol (seen c.args.library.now) c.args.numbers.now) 1 (map (λ (key : CellKey). key.0) c.args.order.now) c.loop-place.place
    c.args.out.now.items c.loop-place.out.items (omega (arith, many, c.loop-place-test.false)) c.loop-place.invariant
