use Rattle.cell_loading.proofs.Common.{◌∷◌, ◌+◌, ap, ◌∙◌, sym, List, ℕ, CellUse, seen, is_among, rest_of}
use Rattle.cell_loading.proofs.LeftLaws.{rest_of-next}
use Rattle.cell_loading.proofs.walks.take_use.Goals as goal

pub returns-then-is_known-clause-taken : goal.returns-then-is_known-clause-taken
returns-then-is_known-clause-taken c =
    let used = c.index-uses-frame.result in (
      used.cell,
      rest_of-next c.args.cells.now c.args.frame.now.cell c.args.frame.now.next c.uses_at-uses.result.now used c.uses_at-uses.ensures
          c.if-frame-uses.false c.index-uses-frame.is,
      ap (is_among (seen c.args.library.now) c.args.cells.now) (ap (λ (u : CellUse). u.cell) c.index-uses-frame.is ∙ sym c.bytes.ensures)
          ∙ sym c.is_known.ensures ∙ c.if-is_known.true,
    )

pub returns-clause-taken : goal.returns-clause-taken
returns-clause-taken c =
    let used = c.index-uses-frame.result in (
      rest_of-next c.args.cells.now c.args.frame.now.cell c.args.frame.now.next c.uses_at-uses.result.now used c.uses_at-uses.ensures
          c.if-frame-uses.false c.index-uses-frame.is
          ∙ ap (λ (name : List ℕ). name ∷ rest_of c.args.cells.now (record { cell = c.args.frame.now.cell; next = c.args.frame.now.next + 1 }))
          (ap (λ (u : CellUse). u.cell) c.index-uses-frame.is ∙ sym c.in_ok-copy.ensures),
      ap (is_among (seen c.args.library.now) c.args.cells.now) (c.in_ok-copy.ensures ∙ sym c.bytes.ensures) ∙ sym c.is_known.ensures
          ∙ c.if-is_known.false,
    )
