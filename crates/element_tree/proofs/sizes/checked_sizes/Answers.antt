use Rattle.element_tree.proofs.Common.{inr, arith}
use Rattle.element_tree.proofs.Counting.{number_read, depth_fault, elements_fault, no_tree_fault}
use Rattle.element_tree.proofs.sizes.checked_sizes.Goals as goal

pub returns-then-index-gt-LONGEST_CHAIN-clause-fault : goal.returns-then-index-gt-LONGEST_CHAIN-clause-fault
returns-then-index-gt-LONGEST_CHAIN-clause-fault c =
    let chains = c.in_ok-chain_lengths.ensures in
    let deep = number_read _ _ _ _ _ _ c.requires.root c.requires.graph chains c.index.ensures in
    inr (depth_fault _ _ _ _ c.requires.graph chains (omega (arith, deep, c.if-index-gt-LONGEST_CHAIN.true)))

pub returns-then-index-gt-MOST_FLAT_ELEMENTS-clause-fault : goal.returns-then-index-gt-MOST_FLAT_ELEMENTS-clause-fault
returns-then-index-gt-MOST_FLAT_ELEMENTS-clause-fault c =
    let chains = c.in_ok-chain_lengths.ensures in
    let counts = c.in_ok-sizes.ensures in
    let deep = number_read _ _ _ _ _ _ c.requires.root c.requires.graph chains c.index.ensures in
    let many = number_read _ _ _ _ _ _ c.requires.root c.requires.graph counts c.index-2.ensures in
    inr (elements_fault _ _ _ _ c.requires.graph chains _ counts
    (omega (arith, deep, c.if-index-gt-LONGEST_CHAIN.false)) (omega (arith, many, c.if-index-gt-MOST_FLAT_ELEMENTS.true)))

pub returns-clause-few : goal.returns-clause-few
returns-clause-few c =
    let chains = c.in_ok-chain_lengths.ensures in
    let counts = c.in_ok-sizes.ensures in
    let deep = number_read _ _ _ _ _ _ c.requires.root c.requires.graph chains c.index.ensures in
    let many = number_read _ _ _ _ _ _ c.requires.root c.requires.graph counts c.index-2.ensures in
    no_tree_fault _ _ _ _ c.requires.graph chains _ counts
    (omega (arith, deep, c.if-index-gt-LONGEST_CHAIN.false)) (omega (arith, many, c.if-index-gt-MOST_FLAT_ELEMENTS.false))
