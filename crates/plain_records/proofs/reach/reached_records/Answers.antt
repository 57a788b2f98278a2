use Rattle.plain_records.proofs.Common.{inl, inr, sym, subst, arith, CellExt, AreRecords}
use Rattle.std.specs.Prelude.{List}
use Rattle.std.proofs.lemmas.Result.{err_from_is_err_and}
use Rattle.plain_records.proofs.ThinLaws.{thins_are_records}
use Rattle.plain_records.proofs.FoundLaws.{walk_is, are_reached, deep_is, size_there, many_is, none_is}
use Rattle.plain_records.proofs.reach.reached_records.Goals as goal

pub record_graph-requires-clause-records : goal.record_graph-requires-clause-records
record_graph-requires-clause-records c =
    let R : List CellExt → Type 0 = AreRecords in subst R (sym c.requires.thin) (thins_are_records c.args.exts.now c.requires.records)

pub returns-in_err-graph-clause-fault : goal.returns-in_err-graph-clause-fault
returns-in_err-graph-clause-fault c =
    let given = err_from_is_err_and c.from_residual.result c.from_residual.ensures.1 in
    rw (given.1, given.2) (elim c.in_err-graph.ensures.fault [
      | inl memory ↦ inl memory
      | inr walked ↦ inr (walk_is c.args.exts.now c.args.thin.now c.requires.thin c.args.root c.in_err-graph.field-0.0 walked)
    ])

pub returns-then-index-gt-LONGEST_CHAIN-clause-fault : goal.returns-then-index-gt-LONGEST_CHAIN-clause-fault
returns-then-index-gt-LONGEST_CHAIN-clause-fault c =
    inr (deep_is c.args.exts.now c.args.thin.now c.requires.thin c.args.root c.requires.records c.requires.root c.in_ok-graph.graph
    c.in_ok-graph.ensures.graph c.in_ok-graph.ensures.sound c.in_ok-chain_lengths.field-0.items c.in_ok-chain_lengths.ensures c.index.result.now
    c.index.ensures c.if-index-gt-LONGEST_CHAIN.true)

pub index-requires-2 : goal.index-requires-2
index-requires-2 c =
    let there = size_there c.args.exts.now c.args.thin.now c.requires.thin c.args.root c.requires.records c.requires.root c.in_ok-graph.graph
    c.in_ok-graph.ensures.graph c.in_ok-graph.ensures.sound c.in_ok-chain_lengths.field-0.items c.in_ok-chain_lengths.ensures c.index.result.now
    c.index.ensures c.in_ok-sizes.field-0.items c.in_ok-sizes.ensures in
    omega (arith, there, c.in_ok-sizes.field-0.ok.0)

pub returns-then-index-gt-MOST_FLAT_ELEMENTS-clause-fault : goal.returns-then-index-gt-MOST_FLAT_ELEMENTS-clause-fault
returns-then-index-gt-MOST_FLAT_ELEMENTS-clause-fault c =
    inr (many_is c.args.exts.now c.args.thin.now c.requires.thin c.args.root c.requires.records c.requires.root c.in_ok-graph.graph
    c.in_ok-graph.ensures.graph c.in_ok-graph.ensures.sound c.in_ok-chain_lengths.field-0.items c.in_ok-chain_lengths.ensures c.index.result.now
    c.index.ensures c.in_ok-sizes.field-0.items c.in_ok-sizes.ensures c.index-2.result.now c.index-2.ensures
    (omega (arith, c.if-index-gt-LONGEST_CHAIN.false)) c.if-index-gt-MOST_FLAT_ELEMENTS.true)

pub returns-clause-sound : goal.returns-clause-sound
returns-clause-sound c =
    none_is c.args.exts.now c.args.thin.now c.requires.thin c.args.root c.requires.records c.requires.root c.in_ok-graph.graph
    c.in_ok-graph.ensures.graph c.in_ok-graph.ensures.sound c.in_ok-chain_lengths.field-0.items c.in_ok-chain_lengths.ensures c.index.result.now
    c.index.ensures c.in_ok-sizes.field-0.items c.in_ok-sizes.ensures c.index-2.result.now c.index-2.ensures
    (omega (arith, c.if-index-gt-LONGEST_CHAIN.false)) c.if-index-gt-MOST_FLAT_ELEMENTS.false

pub returns-clause-order : goal.returns-clause-order
returns-clause-order c =
    are_reached c.args.exts.now c.args.thin.now c.requires.thin c.args.root c.requires.records c.requires.root c.in_ok-graph.graph
    c.in_ok-graph.ensures.graph c.in_ok-graph.ensures.sound c.in_ok-chain_lengths.field-0.items c.in_ok-chain_lengths.ensures c.index.result.now c.index.ensures
