use Rattle.cif_writing.proofs.Common.{◌+◌, ℕ, List, refl, arith, err_from_is_err_and, UseBody, seen, view_at, IsUse}
use Rattle.cif_writing.proofs.OneText.{one_of_uses}
use Rattle.cif_writing.proofs.WritingLaws.{passed_on, too_long_at, writes_all, writes_more, writes_none}
use Rattle.cif_writing.proofs.writing.write_calls.Goals as goal

pub loop-k-init : goal.loop-k-init
loop-k-init c =
    let view = seen c.args.library.now in
    writes_none (λ k (entry : List ℕ × UseBody) calls. IsUse view c.args.numbers.now entry.1 calls) 1 (view_at view c.args.cell.0).uses c.args.out.now.items

pub loop-k-preserved : goal.loop-k-preserved
loop-k-preserved c =
    let view = seen c.args.library.now in
    writes_more (λ k (entry : List ℕ × UseBody) calls. IsUse view c.args.numbers.now entry.1 calls) 1 (view_at view c.args.cell.0).uses c.loop-k.k
    (1 + c.loop-k.k) (c.body_at-used.ensures.body.id, c.body_at-used.result.now) c.args.out.now.items c.loop-k.out.items c.write_use.new.out.items
    c.body_at-used.ensures.body.stands refl c.loop-k.invariant c.in_ok-write_use.ensures.written

pub returns-in_err-write_use-clause-refused : goal.returns-in_err-write_use-clause-refused
returns-in_err-write_use-clause-refused c =
    let view = seen c.args.library.now in
    passed_on c.from_residual.result c.in_err-write_use.field-0.0 _ (err_from_is_err_and c.from_residual.result c.from_residual.ensures.1)
    (λ other. too_long_at (λ k (entry : List ℕ × UseBody) calls. IsUse view c.args.numbers.now entry.1 calls) 1 (view_at view c.args.cell.0).uses c.loop-k.k
    (1 + c.loop-k.k) (c.body_at-used.ensures.body.id, c.body_at-used.result.now) c.args.out.now.items c.loop-k.out.items
    (one_of_uses c.args.library.now c.lawful.ensures c.args.numbers.now c.args.cell.0 c.requires) c.body_at-used.ensures.body.stands refl
    c.loop-k.invariant (c.in_err-write_use.ensures.refused other))

pub returns-clause-written : goal.returns-clause-written
returns-clause-written c =
    let view = seen c.args.library.now in
    writes_all (λ k (entry : List ℕ × UseBody) calls. IsUse view c.args.numbers.now entry.1 calls) 1 (view_at view c.args.cell.0).uses c.loop-k.k
    c.args.out.now.items c.loop-k.out.items (omega (arith, c.use_count-k-end.ensures, c.loop-k-test.false)) c.loop-k.invariant
