use Rattle.vector_files.proofs.Common.{◌≡◌, ◌+◌, [], ◌∷◌, ◌++◌, ◌∙◌, take, sym, ap}
use Rattle.std.proofs.lemmas.List.{take_more, take_all}
use Rattle.vector_files.proofs.Places.{index_none}
use Rattle.vector_files.proofs.nodes.each_name_once.Goals as goal

pub loop-name-init : goal.loop-name-init
loop-name-init c = rw (c.new-names.ensures, c.new-nodes.ensures.items) index_none

pub loop-name-preserved : goal.loop-name-preserved
loop-name-preserved c =
    let named = c.args.named.now in
    let here = c.loop-name.name-index in
    let item = c.loop-name-item.result in
    let more : take (here + 1) named ≡ take here named ++ item ∷ [] =
    take_more named here item c.loop-name-test.true ∙ ap (λ x. take here named ++ x ∷ []) (sym c.loop-name-item.is) in
    rw more (rw c.bytes.ensures at (c.in_ok-add_node.ensures (take here named) c.loop-name.invariant))

pub returns : goal.returns
returns c = rw (take_all c.loop-name.name-index c.args.named.now c.loop-name-test.false) at c.loop-name.invariant
