use Rattle.tree_circuits.specs.SumLaws.{HasClosedSums}
use Rattle.tree_circuits.proofs.ClosedSums.{clean_tree_closes, of_each}
use Rattle.tree_circuits.proofs.sums_of_records_close.Goals as goal

pub returns : goal.returns
returns c = λ raw exts tree well rules is has.
    of_each raw (HasClosedSums raw exts tree) (λ quantity quantities. clean_tree_closes raw well rules quantity quantities exts tree is has)
