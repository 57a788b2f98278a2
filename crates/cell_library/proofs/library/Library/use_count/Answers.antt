use Rattle.cell_library.proofs.Common.{◌<◌, ◌∙◌, ℕ, List, length, sym, ap, subst, UseBody, LibraryParts}
use Rattle.cell_library.proofs.UseEdits.{uses_here}
use Rattle.cell_library.proofs.library.Library.use_count.Goals as goal

pub returns : goal.returns
returns c =
    let below : c.args.cell.0 < length c.self.inside.contents = subst (λ (l : LibraryParts). c.args.cell.0 < length l.contents) (sym c.self.view_is) c.requires
    in
    rw (← c.self.view_is) (c.use_count.ensures ∙ ap (λ (uses : List (List ℕ × UseBody)). length uses)
    (sym (uses_here (record { tech = c.self.inside.tech; scale = c.self.inside.scale; contents = c.self.inside.contents; tree = c.self.inside.tree })
    c.self.invariant c.args.cell.0 below)))
