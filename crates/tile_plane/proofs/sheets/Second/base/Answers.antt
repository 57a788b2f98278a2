use Rattle.tile_plane.proofs.Common.{sym, subst, AreSet, value_at, IsSecond}
use Rattle.tile_plane.proofs.SetLaws.{set_once}
use Rattle.tile_plane.proofs.sheets.Second.base.Goals as goal

pub returns-in_ok-base-in-Behind-clause-same : goal.returns-in_ok-base-in-Behind-clause-same
returns-in_ok-base-in-Behind-clause-same c =
    let first = c.args.first.now.store in
    let sheet = c.in-Behind.sheet.store in
    let base = c.in_ok-base-in-Behind.base.store in
    let pieces = c.in-Behind.pieces.items in
    let behind = subst (IsSecond first) (sym c.in-Behind.ensures.value) c.requires.second in
    let again : AreSet (value_at sheet) (value_at base) pieces =
    subst (AreSet (value_at sheet) (value_at base)) c.deref.ensures.value c.in_ok-base-in-Behind.ensures.set in
    set_once (value_at sheet) (value_at first) (value_at base) pieces behind.1.set again
