use Rattle.cell_loading.proofs.Common.{◌∙◌, sym, ap, Bool, ◌||◌, list_any, bytes_eq, names_in}
use Rattle.cell_loading.proofs.KnownLaws.{known_is_among}
use Rattle.cell_loading.proofs.cell_files.is_known.Goals as goal

pub returns-then-is_some : goal.returns-then-is_some
returns-then-is_some c =
    let has = list_any (bytes_eq c.args.name.now) (names_in c.args.cells.now) in
    c.if-is_some.true ∙ sym (ap (λ (b : Bool). b || has) (sym c.is_some.ensures ∙ c.if-is_some.true))
    ∙ known_is_among c.args.library.now c.args.cells.now c.args.name.now c.find.result has c.find.ensures (λ i. has)

pub returns-else-is_some : goal.returns-else-is_some
returns-else-is_some c =
    sym (ap (λ (b : Bool). b || c.has.result) (sym c.is_some.ensures ∙ c.if-is_some.false))
    ∙ known_is_among c.args.library.now c.args.cells.now c.args.name.now c.find.result c.has.result c.find.ensures c.has.ensures
