-- What the two calls changed.
use Rattle.geo_strips.proofs.Common.{◌≡◌, rules, to_z, of_z, w64, to_z-of_z}
use Rattle.geo_strips.proofs.sweeping.begin.Goals as goal

pub returns : goal.returns
returns c =
    let event = c.args.event.now in
    let from : to_z w64 (of_z w64 event.from) ≡ event.from = to_z-of_z w64 event.from (search rules) in
    let to : to_z w64 (of_z w64 event.to) ≡ event.to = to_z-of_z w64 event.to (search rules) in
    let row : to_z w64 (of_z w64 event.row) ≡ event.row = to_z-of_z w64 event.row (search rules) in
    let top : to_z w64 (of_z w64 event.top) ≡ event.top = to_z-of_z w64 event.top (search rules) in
    record { covered = rw (from, to, row) at c.in_ok-cover.ensures; raised = rw (from, to, top) at c.raise.ensures }
