use Rattle.cell_library.proofs.Common.{subst, length, refl, on_ok_weaker, on_err_weaker, layout_of, IsSoundPaint, with_pieces, CanStandIn, Held}
use Rattle.cell_library.proofs.ContentLaws.{content_there, repainted}
use Rattle.cell_library.proofs.KeptContents.{still_kept}
use Rattle.cell_library.proofs.contents.Contents.put_back.Goals as goal

pub put_back-done-requires-clause-pieces : goal.put_back-done-requires-clause-pieces
put_back-done-requires-clause-pieces c =
    subst (λ (held : Held). CanStandIn c.args.area (length held.paint.planes) c.args.pieces.now)
    (content_there _ _ _ _ c.self.view_is c.index_mut-content.ensures.value) c.requires.pieces

pub put_back-done-requires-clause-sound : goal.put_back-done-requires-clause-sound
put_back-done-requires-clause-sound c =
    subst (λ (held : Held). IsSoundPaint held.paint.kinds (with_pieces c.args.area c.args.pieces.now (layout_of held.paint)))
    (content_there _ _ _ _ c.self.view_is c.index_mut-content.ensures.value) c.requires.sound

pub invariant_of-self : goal.invariant_of-self
invariant_of-self c = still_kept _ _ _ _ c.index_mut-content.ensures.value refl c.sound.ensures c.self.invariant

pub returns-clause-put : goal.returns-clause-put
returns-clause-put c =
    on_ok_weaker _ (repainted _ _ _ _ _ _ c.self.view_is c.index_mut-content.ensures.value c.put_back-done.ensures.kinds c.put_back-done.ensures.planes)
    c.put_back-done.ensures.put

pub returns-clause-refused : goal.returns-clause-refused
returns-clause-refused c =
    on_err_weaker _ (repainted _ _ _ _ _ _ c.self.view_is c.index_mut-content.ensures.value c.put_back-done.ensures.kinds c.put_back-done.ensures.planes)
    c.put_back-done.ensures.refused
