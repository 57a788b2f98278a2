use Rattle.std.proofs.lemmas.Slice.Eq.{slice_eq-Decides}
use Rattle.merge_rows.proofs.Tests.{pair_test}
use Rattle.merge_rows.proofs.rows.same_measures.Goals as goal

pub returns : goal.returns
returns c = slice_eq-Decides pair_test c.args.one.now c.args.other.now c.eq.result c.eq.ensures
