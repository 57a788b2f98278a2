use Rattle.cell_library.proofs.Common.{sym, ap, ◌∙◌, refl, on_ok_weaker, on_err_weaker, Held}
use Rattle.cell_library.proofs.ContentLaws.{content_there, repainted}
use Rattle.cell_library.proofs.KeptContents.{still_kept}
use Rattle.cell_library.proofs.contents.Contents.erase.Goals as goal

pub erase-done-requires-clause-kinds : goal.erase-done-requires-clause-kinds
erase-done-requires-clause-kinds c =
    ap (λ (held : Held). held.paint.kinds) (sym (content_there _ _ _ _ c.self.view_is c.index_mut-content.ensures.value)) ∙ c.requires.kinds

pub invariant_of-self : goal.invariant_of-self
invariant_of-self c = still_kept _ _ _ _ c.index_mut-content.ensures.value refl c.sound.ensures c.self.invariant

pub returns-clause-erased : goal.returns-clause-erased
returns-clause-erased c =
    on_ok_weaker _ (repainted _ _ _ _ _ _ c.self.view_is c.index_mut-content.ensures.value c.erase-done.ensures.kinds c.erase-done.ensures.planes)
    c.erase-done.ensures.erased

pub returns-clause-refused : goal.returns-clause-refused
returns-clause-refused c =
    on_err_weaker _ (repainted _ _ _ _ _ _ c.self.view_is c.index_mut-content.ensures.value c.erase-done.ensures.kinds c.erase-done.ensures.planes)
    c.erase-done.ensures.refused
