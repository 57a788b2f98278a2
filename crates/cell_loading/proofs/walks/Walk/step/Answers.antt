use Rattle.cell_loading.proofs.Common.{List, ℕ, ◌∙◌, ap, sym, subst, after_fetches, CellBody, seen, files_read, names_left, AreSoFar, GoesOnToBodies}
use Rattle.cell_loading.proofs.LeftLaws.{none_taken}
use Rattle.cell_loading.proofs.WalkLaws.{stepped_goes_on, stepped_so_far}
use Rattle.cell_loading.proofs.walks.Walk.step.Goals as goal

pub returns-in-None-clause-so_far : goal.returns-in-None-clause-so_far
returns-in-None-clause-so_far g c =
    let view = seen c.args.library.now in
    let cells = c.args.self.now.cells in
    let left = names_left cells c.args.self.now.frames.items in
    let after = names_left cells c.advance.new.self.frames.items in
    subst (λ (now : List (List ℕ × CellBody)). AreSoFar view now (names_left now c.advance.new.self.frames.items)) (sym c.advance.ensures.cells)
    (stepped_so_far view cells left after (none_taken view cells left after _ c.in-None.is c.in_ok-name.ensures.taken)
    c.requires.so_far)

pub returns-in-None-clause-goes_on : goal.returns-in-None-clause-goes_on
returns-in-None-clause-goes_on g c files read told are =
    let view = seen c.args.library.now in
    let cells = c.args.self.now.cells in
    let left = names_left cells c.args.self.now.frames.items in
    let after = names_left cells c.advance.new.self.frames.items in
    subst (λ (now : List (List ℕ × CellBody)). GoesOnToBodies files view read left now (names_left now c.advance.new.self.frames.items))
    (sym c.advance.ensures.cells)
    (stepped_goes_on files view read cells left after
    (none_taken view cells left after _ c.in-None.is c.in_ok-name.ensures.taken) are)

pub returns-in-None-clause-asked : goal.returns-in-None-clause-asked
returns-in-None-clause-asked g c first asked =
    asked ∙ ap (λ (cells : List (List ℕ × CellBody)). after_fetches first (files_read cells)) (sym c.advance.ensures.cells)
