use Rattle.cell_tree.proofs.Common.{subst, Passed, CellState, Tree, cell_at, with_own, RefusesBox, WouldKeepWithin, IfOk-at_ok}
use Rattle.cell_tree.proofs.WholeLaws.{is_inside, would_keep}
use Rattle.cell_tree.proofs.TreeLaws.{own_lawful, own_refused, run_refused, run_fits}
use Rattle.std.proofs.lemmas.Result.{IfErr-at_err}
use Rattle.cell_tree.proofs.TableLaws.{on_ok_from, if_err_from, if_ok_none, if_err_none}
use Rattle.cell_tree.proofs.trees.CellTree.fits_box.Goals as goal
use Rattle.cell_tree.proofs.trees.CellTree.fits_box.Goals.{in-Ok, in-Err}

pub returns-clause-fits : goal.returns-clause-fits
returns-clause-fits c =
    let inside = is_inside c.self.invariant c.self.view_is c.args.cell c.requires.within in
    elim c.match-fits.branch [
      | in-Ok w ↦
          on_ok_from c.match-fits.result _ (subst (λ (t : Tree). WouldKeepWithin t c.args.cell (with_own (cell_at t.cells c.args.cell) c.args.own))
          c.self.view_is
          (would_keep c.self.invariant inside (own_lawful c.self.invariant c.args.cell inside c.args.own c.requires.lawful)
          (run_fits c.self.invariant (λ (cell : CellState). with_own cell c.args.own) c.args.cell c.as_slice-cells.ensures.value c.as_slice.ensures.value
          c.size_with_box-size.ensures (IfOk-at_ok _ w.in-Ok.is c.fits-fits.ensures.fits))))
      | in-Err w ↦ if_ok_none c.match-fits.result _ (Passed w.in-Err.dimension) w.result-is
    ]

pub returns-clause-refused : goal.returns-clause-refused
returns-clause-refused c =
    elim c.match-fits.branch [
      | in-Ok w ↦ if_err_none c.match-fits.result _ _ w.result-is
      | in-Err w ↦
          if_err_from c.match-fits.result _ (Passed w.in-Err.dimension) w.result-is
          (subst (λ (t : Tree). RefusesBox t c.args.cell c.args.own (Passed w.in-Err.dimension)) c.self.view_is
          (own_refused c.self.invariant c.args.cell (is_inside c.self.invariant c.self.view_is c.args.cell c.requires.within) c.args.own c.requires.lawful
          w.in-Err.dimension
          (run_refused c.self.invariant (λ (cell : CellState). with_own cell c.args.own) c.args.cell c.as_slice-cells.ensures.value c.as_slice.ensures.value
          c.size_with_box-size.ensures w.in-Err.dimension (IfErr-at_err _ w.in-Err.is c.fits-fits.ensures.refused))))
    ]
