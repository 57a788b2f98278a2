use Rattle.tree_circuits.proofs.Common.{◌∙◌, is_named}
use Rattle.tree_circuits.specs.SumLaws.{HasSumsOfGroups}
use Rattle.tree_circuits.proofs.ClosedSums.{clean_tree_closes, of_each, one_total_each}
use Rattle.tree_circuits.proofs.ElementSums.{elements_have}
use Rattle.tree_circuits.proofs.flat_nodes_have_the_sums_of_their_groups.Goals as goal

pub returns : goal.returns
returns c = λ raw exts tree root node well rules is has found deep of.
    of_each raw (HasSumsOfGroups raw exts tree root node) (λ quantity quantities groups are.
    let closed = clean_tree_closes raw well rules quantity quantities exts tree is has in
    elements_have raw exts tree root quantity node has found deep
    ∙ closed.closes (is_named node) of
    ∙ one_total_each raw tree quantity closed.groups groups closed.are are (is_named node))
