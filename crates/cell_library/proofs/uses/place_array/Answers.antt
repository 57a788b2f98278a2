use Rattle.cell_library.proofs.Common.{◌≡◌, ◌&&◌, false, true≢false, sym, ◌∙◌, inr, Some, IfErr-weaker, is_displacement, cell_at, OutOfRange}
use Rattle.cell_library.proofs.Common.{TooMany, TreeRefusesMove, FirstOf}
use Rattle.cell_bodies.specs.Numbers.{are_few_elements}
use Rattle.cell_library.specs.declared.limits.LibraryLimit.TheVariants.{Elements}
use Rattle.cell_library.proofs.FaultLaws.{not_full}
use Rattle.cell_library.proofs.UseLists.{has_there}
use Rattle.cell_library.proofs.uses.place_array.Goals as goal

pub returns-clause-fault : goal.returns-clause-fault
returns-clause-fault c =
    IfErr-weaker c.set_grid.result
    (FirstOf ((is_displacement c.args.grid.xsep && is_displacement c.args.grid.ysep) ≡ false) OutOfRange
    (FirstOf (are_few_elements c.args.grid.xlo c.args.grid.xhi c.args.grid.ylo c.args.grid.yhi ≡ false) (TooMany Elements)
    (TreeRefusesMove c.args.tree.now c.args.cell c.in_ok-k.k c.in_ok-k.used.placed (Some c.args.grid)))) _
    (λ told why. inr (
      not_full _ c.in_ok-k.ensures.few,
      inr (
        λ none. true≢false (sym (has_there (cell_at c.args.tree.now.cells c.args.cell).uses c.in_ok-k.k c.args.id.now c.in_ok-k.used
            c.in_ok-k.ensures.found.is) ∙ none),
        record { k = c.in_ok-k.k; used = c.in_ok-k.used; has = c.in_ok-k.ensures.found; why = why },
      ),
    ))
    c.set_grid.ensures.fault
