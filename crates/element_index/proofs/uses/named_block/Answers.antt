use Rattle.element_index.proofs.BlockLaws.{whole_block, indexed_block, kept_square}
use Rattle.element_index.proofs.uses.named_block.Goals as goal

pub returns-then-is_use_id-clause-some : goal.returns-then-is_use_id-clause-some
returns-then-is_use_id-clause-some c = rw c.one_square.ensures (whole_block c.args.name.now (cc))

pub returns-clause-some : goal.returns-clause-some
returns-clause-some c =
    let parts = c.in_ok-id.ensures.some in
    rw (c.one_square-2.ensures, kept_square c.in_ok-id.i c.in_ok-id.j parts.i_fits parts.j_fits)
    (indexed_block c.args.name.now c.in_ok-id.id.now c.in_ok-id.i c.in_ok-id.j parts)
