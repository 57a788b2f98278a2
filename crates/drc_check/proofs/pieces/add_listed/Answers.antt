use Rattle.drc_check.proofs.Common.{◌+◌, Vec, Global, length, sym, ap, subst, ◌∙◌, arith, RawTech, ListedPiece, AddsMadePieces}
use Rattle.drc_check.proofs.PlanePieces.{IsListedBelow, all_planes, plane_added, plane_left_out}
use Rattle.drc_check.proofs.pieces.add_listed.Goals as goal
use Rattle.drc_check.proofs.pieces.add_listed.Goals.{then-names_plane+in_ok-add_of_plane, else-names_plane}

pub loop-plane-preserved : goal.loop-plane-preserved
loop-plane-preserved c =
    let raw = c.args.tech.now in
    let rules = c.args.rules.now in
    let tiles = c.args.tiles.now in
    let plane = c.loop-plane.plane in
    let old = c.args.pieces.now.items in
    let before = c.loop-plane.pieces.items in
    elim c.if-names_plane.branch [
      | then-names_plane+in_ok-add_of_plane w ↦
          subst (AddsMadePieces raw tiles (IsListedBelow rules (plane + 1)) old)
          (ap (λ (v : Vec ListedPiece Global). v.items) (sym w.pieces-is))
          (plane_added raw rules c.requires.lawful tiles c.args.marks.now c.requires.marked plane old before w.add_of_plane.new.pieces.items
          c.loop-plane.invariant w.in_ok-add_of_plane.ensures)
      | else-names_plane w ↦
          subst (AddsMadePieces raw tiles (IsListedBelow rules (plane + 1)) old)
          (ap (λ (v : Vec ListedPiece Global). v.items) (sym w.pieces-is))
          (plane_left_out raw rules c.requires.lawful tiles plane old before (sym c.names_plane.ensures ∙ w.if-names_plane.false) c.loop-plane.invariant)
    ]

pub returns : goal.returns
returns c =
    let raw = c.args.tech.now in
    let long = ap length c.items-plane-end.ensures in
    let value = ap (λ (r : RawTech). length r.planes) c.raw.ensures.value in
    let test = c.loop-plane-test.false in
    all_planes raw c.args.rules.now c.requires.lawful c.args.tiles.now c.loop-plane.plane c.args.pieces.now.items c.loop-plane.pieces.items
    (omega (arith, long, value, test)) c.loop-plane.invariant
