use Rattle.cif_writing.proofs.Common.{◌<◌, ℕ, List, length, map, sym, ap, subst, ◌∙◌, length-map, err_from_is_err_and, CellKey, In, In-slice_get}
use Rattle.cif_writing.proofs.Common.{children_in, seen, LONGEST_TEXT, symbol_number}
use Rattle.cif_writing.proofs.OrderLaws.{order_there}
use Rattle.cif_writing.proofs.SymbolLaws.{one_text, symbols_as, symbols_too_long, text_written, too_long_as}
use Rattle.cif_writing.proofs.WritingLaws.{passed_on}
use Rattle.cif_writing.proofs.writing.write_cif.Goals as goal

pub write_symbols-requires-clause-cells : goal.write_symbols-requires-clause-cells
write_symbols-requires-clause-cells c = λ cell among.
    let library = c.args.library.now in
    let order = map (λ (key : CellKey). key.0) c.in_ok-order.order.items in
    order_there library c.lawful.ensures c.args.cell.0 order c.requires
    (c.library_order_law.ensures.lists (children_in (seen library)) c.args.cell.0 order c.in_ok-order.ensures) cell
    (subst (λ (keys : List CellKey). In cell (map (λ (key : CellKey). key.0) keys)) c.as_slice-3.ensures.value among)

pub returns-in_err-write_symbols-clause-refused : goal.returns-in_err-write_symbols-clause-refused
returns-in_err-write_symbols-clause-refused c =
    let library = c.args.library.now in
    let order = map (λ (key : CellKey). key.0) c.in_ok-order.order.items in
    let lists = c.library_order_law.ensures.lists (children_in (seen library)) c.args.cell.0 order c.in_ok-order.ensures in
    passed_on c.from_residual-in_err-write_symbols.result c.in_err-write_symbols.field-0.0 _
    (err_from_is_err_and c.from_residual-in_err-write_symbols.result c.from_residual-in_err-write_symbols.ensures.1)
    (λ other. symbols_too_long library c.lawful.ensures c.args.cell.0 order c.in_ok-order.ensures
    (λ o is. c.library_order_law.ensures.unique (children_in (seen library)) c.args.cell.0 o order is c.in_ok-order.ensures)
    (λ k cell at. order_there library c.lawful.ensures c.args.cell.0 order c.requires lists cell (In-slice_get order k cell at))
    c.new-text.result.items c.new-text.ensures.items
    (too_long_as (seen library) _ _ order c.new-text.result.items
    (c.in_ok-numbers.ensures ∙ ap (map (λ (key : CellKey). key.0)) c.as_slice.ensures.value)
    (ap (map (λ (key : CellKey). key.0)) c.as_slice-3.ensures.value) (c.in_err-write_symbols.ensures.refused other)))

pub returns-clause-written : goal.returns-clause-written
returns-clause-written c =
    let library = c.args.library.now in
    let order = map (λ (key : CellKey). key.0) c.in_ok-order.order.items in
    let numbers = c.in_ok-numbers.ensures ∙ ap (map (λ (key : CellKey). key.0)) c.as_slice.ensures.value in
    text_written library c.lawful.ensures c.args.cell.0 order c.in_ok-order.ensures c.of_cell.result c.new-text.result.items
    c.write_symbols.new.out.items c.write_end.new.out.items c.new-text.ensures.items
    (symbols_as (seen library) _ _ order c.new-text.result.items c.write_symbols.new.out.items numbers
    (ap (map (λ (key : CellKey). key.0)) c.as_slice-3.ensures.value) c.in_ok-write_symbols.ensures.written)
    c.in_ok-write_end.ensures (c.of_cell.ensures ∙ ap (λ (o : List ℕ). symbol_number o c.args.cell.0) numbers)

pub returns-in_err-check_length-clause-refused : goal.returns-in_err-check_length-clause-refused
returns-in_err-check_length-clause-refused c =
    let library = c.args.library.now in
    let order = map (λ (key : CellKey). key.0) c.in_ok-order.order.items in
    let lists = c.library_order_law.ensures.lists (children_in (seen library)) c.args.cell.0 order c.in_ok-order.ensures in
    let numbers = c.in_ok-numbers.ensures ∙ ap (map (λ (key : CellKey). key.0)) c.as_slice.ensures.value in
    let long = subst (λ (text : List ℕ). LONGEST_TEXT < length text) c.deref.ensures.value c.in_err-check_length.ensures.refused in
    let written = text_written library c.lawful.ensures c.args.cell.0 order c.in_ok-order.ensures c.of_cell.result c.new-text.result.items
    c.write_symbols.new.out.items c.write_end.new.out.items c.new-text.ensures.items
    (symbols_as (seen library) _ _ order c.new-text.result.items c.write_symbols.new.out.items numbers
    (ap (map (λ (key : CellKey). key.0)) c.as_slice-3.ensures.value) c.in_ok-write_symbols.ensures.written)
    c.in_ok-write_end.ensures (c.of_cell.ensures ∙ ap (λ (o : List ℕ). symbol_number o c.args.cell.0) numbers) in
    passed_on c.from_residual-in_err-check_length.result c.in_err-check_length.field-0.0 _
    (err_from_is_err_and c.from_residual-in_err-check_length.result c.from_residual-in_err-check_length.ensures.1)
    (λ _ text is. subst (λ (t : List ℕ). LONGEST_TEXT < length t)
    (one_text library c.lawful.ensures c.args.cell.0 order c.in_ok-order.ensures
    (λ o other. c.library_order_law.ensures.unique (children_in (seen library)) c.args.cell.0 o order other c.in_ok-order.ensures)
    (λ k cell at. order_there library c.lawful.ensures c.args.cell.0 order c.requires lists cell (In-slice_get order k cell at))
    c.write_end.new.out.items text written is) long)

pub returns-clause-symbols : goal.returns-clause-symbols
returns-clause-symbols c = λ other is.
    let order = map (λ (key : CellKey). key.0) c.in_ok-order.order.items in
    c.len.ensures ∙ c.in_ok-order.order.ok.0 ∙ sym (length-map c.in_ok-order.order.items (λ (key : CellKey). key.0))
    ∙ ap (λ (o : List ℕ). length o) (c.library_order_law.ensures.unique (children_in (seen c.args.library.now)) c.args.cell.0 order other
    c.in_ok-order.ensures is)
