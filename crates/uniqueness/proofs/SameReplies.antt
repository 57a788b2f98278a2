-- What vectors reply rests on the network and on which name has which node, and not on how the names are listed.
use Rattle.uniqueness.proofs.Common.{◌≡◌, ℕ, List, Ok, sym, subst, Level, NameNodesBelow, Network, IsSound, Vectors, vectors_in, VecReply, NameAlike}
use Rattle.switch_net.specs.SimRecords.{AreStarts, IsStartOf}
use Rattle.vector_runs.proofs.VectorFiles.FittingLines.{vectors_in-within}
use Rattle.vector_runs.specs.Laws.{EachRunHasOneOutcome}
use Rattle.vector_runs.specs.Runs.{IsRun}

module _ (names others : List (List ℕ × ℕ)) (alike : NameAlike names others) where
  -- a node begins in the state that the other list gives it
  same_start : (v : ℕ) (x : Level) → IsStartOf others v x → IsStartOf names v x
  same_start v x start = record {
    power = λ power no_ground. start.power ((alike _ v).0 power) (λ ground. no_ground ((alike _ v).1 ground));
    ground = λ ground no_power. start.ground ((alike _ v).0 ground) (λ power. no_power ((alike _ v).1 power));
    both = λ power ground. start.both ((alike _ v).0 power) ((alike _ v).0 ground);
    neither = λ no_power no_ground. start.neither (λ power. no_power ((alike _ v).1 power)) (λ ground. no_ground ((alike _ v).1 ground));
  }

  -- and so do all
  pub begins_alike : (net : Network) (start : List Level) → AreStarts net others start → AreStarts net names start
  begins_alike net start starts = record { one_state = starts.one_state; each = λ v below. same_start v _ (starts.each v below) }

  -- a run with the names of the one list is one with those of the other
  same_run : (net : Network) (budget : ℕ) (vectors : Vectors) (replies : List VecReply) → IsRun net others budget vectors replies
      → IsRun net names budget vectors replies
  same_run net budget vectors replies run = record {
    start = run.start;
    starts = begins_alike net run.start run.starts;
    last = run.last;
    runs = run.runs;
  }

  -- vectors that were read have one list of replies
  pub same_replies : EachRunHasOneOutcome → (net other : Network) → IsSound net → NameNodesBelow net.nodes names → net ≡ other
      → (text : List ℕ) (budget : ℕ) (vectors : Vectors) (replies more : List VecReply) → vectors_in names text ≡ Ok vectors
      → IsRun net names budget vectors replies → IsRun other others budget vectors more → replies ≡ more
  same_replies one_outcome net other sound below same text budget vectors replies more read run also =
      let within = vectors_in-within net.nodes names below text vectors read in
      let there = subst (λ (of : Network). IsRun of others budget vectors more) (sym same) also in
      one_outcome net names budget vectors replies more sound within run (same_run net budget vectors more there)
