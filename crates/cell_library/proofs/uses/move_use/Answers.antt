use Rattle.cell_library.proofs.Common.{◌≡◌, false, true≢false, sym, ◌∙◌, subst, inr, ℤ, IfErr-weaker, cell_at, OutOfRange, TreeRefusesMove}
use Rattle.cell_library.proofs.Common.{moved_use, FirstOf, stands_in_range, to_z-of_z}
use Rattle.cell_library.proofs.FaultLaws.{not_full}
use Rattle.cell_library.proofs.UseLists.{has_there}
use mir.Val.{of_z, to_z}
use mir.Syntax.{w64}
use Rattle.cell_library.proofs.uses.move_use.Goals as goal

pub returns-clause-fault : goal.returns-clause-fault
returns-clause-fault c =
    let dx : ℤ = to_z w64 (of_z w64 c.args.dx) in
    let dy : ℤ = to_z w64 (of_z w64 c.args.dy) in
    let used = c.in_ok-k.used in
    IfErr-weaker c.shift_use.result
    (FirstOf (stands_in_range (moved_use dx dy used) ≡ false) OutOfRange (TreeRefusesMove c.args.tree.now c.args.cell c.in_ok-k.k (moved_use dx dy used).placed
    used.grid)) _
    (λ told why. inr (
      not_full _ c.in_ok-k.ensures.few,
      inr (
        λ none. true≢false (sym (has_there (cell_at c.args.tree.now.cells c.args.cell).uses c.in_ok-k.k c.args.id.now used c.in_ok-k.ensures.found.is) ∙ none),
        record {
          k = c.in_ok-k.k;
          used = used;
          has = c.in_ok-k.ensures.found;
          why = subst (λ (x : ℤ). FirstOf (stands_in_range (moved_use x c.args.dy used) ≡ false) OutOfRange
              (TreeRefusesMove c.args.tree.now c.args.cell c.in_ok-k.k (moved_use x c.args.dy used).placed used.grid) told) (to_z-of_z w64 c.args.dx
              c.ranges.dx)
              (subst (λ (y : ℤ). FirstOf (stands_in_range (moved_use dx y used) ≡ false) OutOfRange
              (TreeRefusesMove c.args.tree.now c.args.cell c.in_ok-k.k (moved_use dx y used).placed used.grid) told) (to_z-of_z w64 c.args.dy c.ranges.dy) why);
        },
      ),
    ))
    c.shift_use.ensures.fault
