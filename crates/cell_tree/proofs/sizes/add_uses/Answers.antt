use Rattle.cell_tree.proofs.Common.{rules, ◌<◌, arith, length, ◌∙◌, sym, ap, Size, size_at}
use Rattle.cell_tree.specs.Sizes.{added}
use Rattle.cell_tree.proofs.SizeLaws.{body_at, grown-next}
use Rattle.cell_tree.proofs.sizes.add_uses.Goals as goal

pub offset_bounds-sizes-child : goal.offset_bounds-sizes-child
offset_bounds-sizes-child c =
    let at = body_at c.args.uses.now.entries c.loop-k.k c.body-used.result.now c.body-used.ensures in
    let within : c.body-used.result.now.child.0 < length c.args.sizes.now = (c.requires.lawful c.loop-k.k (at.0, c.body-used.result.now) at.1).1 in
    search rules

pub bounds-sizes-child : goal.bounds-sizes-child
bounds-sizes-child c =
    let at = body_at c.args.uses.now.entries c.loop-k.k c.body-used.result.now c.body-used.ensures in
    (c.requires.lawful c.loop-k.k (at.0, c.body-used.result.now) at.1).1

pub add_use-grown-requires-clause-lawful : goal.add_use-grown-requires-clause-lawful
add_use-grown-requires-clause-lawful c =
    let at = body_at c.args.uses.now.entries c.loop-k.k c.body-used.result.now c.body-used.ensures in
    (c.requires.lawful c.loop-k.k (at.0, c.body-used.result.now) at.1).0

pub loop-k-preserved : goal.loop-k-preserved
loop-k-preserved c =
    let at = body_at c.args.uses.now.entries c.loop-k.k c.body-used.result.now c.body-used.ensures in
    record {
      grows = c.add_use-grown.ensures.added
          ∙ ap (λ (s : Size). added c.args.dimension s c.body-used.result.now (size_at c.args.sizes.now c.body-used.result.now.child.0))
          c.loop-k.invariant.grows
          ∙ sym (grown-next c.args.dimension (size_at c.args.sizes.now) c.args.size.now c.args.uses.now.entries c.args.from c.loop-k.k
          (at.0, c.body-used.result.now) c.loop-k.auto.k at.1);
      few = omega (arith, c.add_use-grown.ensures.few, c.loop-k.invariant.few);
      flat = c.add_use-grown.ensures.flat;
    }
