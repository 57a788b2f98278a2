use Rattle.geo_core.proofs.Common.{◌≡◌, length, pos, to_z, of_z, rules}
use Rattle.std.proofs.Common.{slice_index_or, w64}
use Rattle.std.specs.Prelude.{Some, None}
use Rattle.geo_core.specs.Orientation.{orient_of}
use Rattle.geo_core.proofs.OrientationLaws.{six_of-found, six_of-none}
use Rattle.geo_core.proofs.transforms.Transform.of_six.Goals as goal

pub returns-in-Some-clause-some : goal.returns-in-Some-clause-some
returns-in-Some-clause-some c =
    let v = c.args.v in
    let count : length v ≡ 6 = search rules in
    let found : orient_of (slice_index_or v 0 (pos 0)) (slice_index_or v 1 (pos 0)) (slice_index_or v 3 (pos 0)) (slice_index_or v 4 (pos 0))
    ≡ Some c.in-Some.orient =
    search rules in
    let dx : to_z w64 (of_z w64 (slice_index_or v 2 (pos 0))) ≡ slice_index_or v 2 (pos 0) = search rules in
    let dy : to_z w64 (of_z w64 (slice_index_or v 5 (pos 0))) ≡ slice_index_or v 5 (pos 0) = search rules in
    rw (dx, dy) (six_of-found v c.in-Some.orient count found)

pub returns-in-None-clause-none : goal.returns-in-None-clause-none
returns-in-None-clause-none c =
    let v = c.args.v in
    let found : orient_of (slice_index_or v 0 (pos 0)) (slice_index_or v 1 (pos 0)) (slice_index_or v 3 (pos 0)) (slice_index_or v 4 (pos 0)) ≡ None =
    search rules in
    six_of-none v found
