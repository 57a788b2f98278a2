use Rattle.cif_writing.proofs.Common.{get_or, slice_get-get_or}
use Rattle.cif_writing.proofs.OrderLaws.{cells_more}
use Rattle.cif_writing.proofs.numbers.SymbolNumbers.of.Goals as goal

pub loop-key-preserved : goal.loop-key-preserved
loop-key-preserved c =
    let order = c.args.order.now in
    let k = c.loop-key.key-index in
    cells_more order k (get_or order k (record { 0 = 0 })) _ _ c.requires (slice_get-get_or order k (record { 0 = 0 }) c.loop-key-test.true)
    c.loop-key.invariant c.in_ok-insert.ensures.keys
