use Rattle.cell_library.proofs.Common.{◌∙◌, ℕ, List, sym, ap, UseBody}
use Rattle.cell_library.specs.PutBackUses.{place_of}
use Rattle.cell_library.proofs.EditLaws.{here}
use Rattle.cell_library.proofs.PutBackUses.{found_place}
use Rattle.cell_library.proofs.UseEdits.{uses_here, ids_differ}
use Rattle.cell_library.proofs.library.Library.find_use.Goals as goal

pub returns : goal.returns
returns c =
    let below = here c.self.view_is c.requires in
    rw (← c.self.view_is) (found_place _ _ c.find_use.result (ids_differ _ c.self.invariant _ below) c.find_use.ensures.found c.find_use.ensures.absent
    ∙ ap (λ (uses : List (List ℕ × UseBody)). place_of uses c.args.id.now) (sym (uses_here _ c.self.invariant _ below)))
