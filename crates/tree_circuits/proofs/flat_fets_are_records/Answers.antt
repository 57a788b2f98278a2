use Rattle.tree_circuits.proofs.Common.{elements_of, elements_for}
use Rattle.tree_circuits.proofs.RecordFets.{fets_of_records}
use Rattle.tree_circuits.proofs.flat_fets_are_records.Goals as goal

pub returns : goal.returns
returns c = λ raw exts tree root classes nodes flats formed rules is has found deep are_nodes are_fets.
    fets_of_records raw formed rules tree is exts has (elements_of exts root)
    (elements_for raw exts tree root has found deep) classes nodes flats
    are_nodes are_fets
