use Rattle.cif_writing.proofs.OrderLaws.{number_found}
use Rattle.cif_writing.proofs.numbers.SymbolNumbers.of_cell.Goals as goal

pub returns : goal.returns
returns c =
    number_found c.self.inside.cells.keys c.args.self.now c.args.cell.0 c.unwrap_or.result c.len-count.result c.get_index_of.result c.self.view_is
    c.get_index_of.ensures.index c.len-count.ensures.len c.unwrap_or.ensures
