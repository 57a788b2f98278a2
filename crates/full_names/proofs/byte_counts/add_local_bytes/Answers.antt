use Rattle.full_names.proofs.Common.{arith, err_from_is_err_and}
use Rattle.full_names.proofs.ByteLaws.{path_counts}
use Rattle.full_names.proofs.byte_counts.add_local_bytes.Goals as goal

pub returns-in_err-total-clause-many : goal.returns-in_err-total-clause-many
returns-in_err-total-clause-many c =
    let within = path_counts c.args.path_bytes c.args.names.now c.loop-name.name-index c.loop-name-test.true in
    let p = err_from_is_err_and c.from_residual.result c.from_residual.ensures.1 in
    rw p.1 (omega (arith, within, c.in_err-total.ensures.many, c.loop-name.invariant.sum))
