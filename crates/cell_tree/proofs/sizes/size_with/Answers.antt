use Rattle.cell_tree.proofs.Common.{◌∙◌, ap, Depth, Elements, Hull, Size, size_at, grown, with_or_without}
use Rattle.cell_tree.proofs.SizeLaws.{size_from}
use Rattle.cell_tree.proofs.sizes.size_with.Goals as goal

pub refolded-deep-requires-clause-within : goal.refolded-deep-requires-clause-within
refolded-deep-requires-clause-within c = c.requires.within Depth

pub refolded-many-requires-clause-within : goal.refolded-many-requires-clause-within
refolded-many-requires-clause-within c = c.requires.within Elements

pub refolded-wide-requires-clause-within : goal.refolded-wide-requires-clause-within
refolded-wide-requires-clause-within c = c.requires.within Hull

pub returns : goal.returns
returns c =
    size_from (size_at c.args.sizes.now) (record { own = c.args.own; uses = with_or_without c.args.uses.now.entries c.args.at c.args.used.now })
    c.refolded-deep.result c.refolded-many.result c.refolded-wide.result
    (c.refolded-deep.ensures ∙ ap (λ (s : Size). grown Depth (size_at c.args.sizes.now) s (with_or_without c.args.uses.now.entries c.args.at c.args.used.now))
    c.own_size-own.ensures)
    (c.refolded-many.ensures ∙ ap (λ (s : Size).
    grown Elements (size_at c.args.sizes.now) s (with_or_without c.args.uses.now.entries c.args.at c.args.used.now)) c.own_size-own.ensures)
    (c.refolded-wide.ensures ∙ ap (λ (s : Size). grown Hull (size_at c.args.sizes.now) s (with_or_without c.args.uses.now.entries c.args.at c.args.used.now))
    c.own_size-own.ensures)
