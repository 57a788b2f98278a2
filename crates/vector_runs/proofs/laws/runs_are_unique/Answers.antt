use Rattle.vector_runs.proofs.Common.{ℕ, List, refl, subst, Level, VecLine, IsLineWithin, LinesRun}
use Rattle.std.proofs.lemmas.List.Elements.{All-map}
use Rattle.vector_runs.specs.Runs.{begun_in, lines_of}
use Rattle.vector_runs.proofs.LineOutcomes.{same_lines}
use Rattle.vector_runs.proofs.Starts.{same_starts}
use Rattle.vector_runs.proofs.laws.runs_are_unique.Goals as goal

pub returns : goal.returns
returns c = λ net names budget vectors replies others sound within a b.
    let same = same_starts net names b.start a.start b.starts a.starts in
    let other : LinesRun budget (begun_in net a.start) (lines_of vectors) b.last others =
    subst (λ (start : List Level). LinesRun budget (begun_in net start) (lines_of vectors) b.last others) same b.runs in
    same_lines names net.nodes budget (lines_of vectors) (begun_in net a.start) a.last b.last replies others
    (All-map (IsLineWithin names net.nodes) (λ (line : ℕ × VecLine). line.1) vectors.lines within)
    (record { sound = sound; same_nodes = refl; one_state = a.starts.one_state }) a.runs other
