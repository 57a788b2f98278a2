use Rattle.cif_commands.proofs.Common.{◌≡◌, ◌≤◌, ℕ, List, length, rules, IsLibraryOrder, children_in, LONGEST_TEXT, IsCifText, both_ok}
use Rattle.cell_library.specs.Libraries.{seen}
use Rattle.cif_commands.proofs.CifLaws.{text_stored}
use Rattle.cif_commands.proofs.command_cif.cif.Goals as goal

pub returns-in-Ok-clause-effect : goal.returns-in-Ok-clause-effect
returns-in-Ok-clause-effect c =
    let library = seen c.args.library.now in
    let cell = c.args.cell.0 in
    let written = c.in-Ok.written in
    let is : IsCifText library cell written.text.items = search rules in
    let symbols : (order : List ℕ) → IsLibraryOrder (children_in library) cell order → written.symbols ≡ length order = search rules in
    let fits : length written.text.items ≤ LONGEST_TEXT = search rules in
    both_ok c.stored.result _ _ _
    (λ answer lines stores. text_stored c.args.number library cell c.args.name.now answer written.text.items written.symbols is
    (symbols is.order is.is_order) fits lines stores)
    c.stored.ensures.lines c.stored.ensures.stores
