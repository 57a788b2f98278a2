use Rattle.vector_runs.proofs.WatchedRuns.{fits_within, same_seen}
use Rattle.vector_runs.proofs.laws.watches_are_unique.Goals as goal

pub returns : goal.returns
returns c = λ net names budget vectors stuck shown others sound within a b.
    same_seen net names budget vectors stuck shown others sound (fits_within names net.nodes vectors.lines within) a b
