use Rattle.vector_runs.proofs.Common.{◌≡◌, sym, ◌∙◌, arith, false≢true, bytes_eq-Decides}
use Rattle.vector_runs.proofs.NameSearch.{found_here, behind_more, not_found}
use Rattle.vector_runs.proofs.rails.node_named.Goals as goal

pub returns-then-eq : goal.returns-then-eq
returns-then-eq c =
    let equal = (bytes_eq-Decides c.bytes.result.now c.args.name.now).0 (sym c.if-eq.ensures) in
    found_here c.args.names.now c.args.name.now c.loop-known.known-index c.loop-known-item.result c.requires (omega arith)
    c.loop-known-item.is (sym c.bytes.ensures ∙ equal)

pub loop-known-preserved : goal.loop-known-preserved
loop-known-preserved c =
    let apart = λ (e : c.loop-known-item.result.0 ≡ c.args.name.now).
    false≢true (c.if-eq.ensures ∙ (bytes_eq-Decides c.bytes.result.now c.args.name.now).1 (c.bytes.ensures ∙ e)) in
    behind_more c.args.names.now c.args.name.now c.loop-known.known-index c.loop-known-item.result (omega arith) c.loop-known-item.is apart
    c.loop-known.invariant

pub returns : goal.returns
returns c = not_found c.args.names.now c.args.name.now c.loop-known.known-index (omega arith) c.loop-known.invariant
