-- What answers a text of vectors on a network.
use Rattle.uniqueness.proofs.Common.{◌≡◌, ℕ, List, Ok, Err, refl, sym, ap, ◌∙◌, subst, Result, At, ReportLine, SimFile, Network, records_of}
use Rattle.uniqueness.proofs.Common.{VecFault, Vectors, vectors_in, VecReply, VectorAnswersAreUnique}
use Rattle.std.specs.Prelude.{map}
use Rattle.uniqueness.specs.VectorRuns.{RepliesAreUnique, VectorFilesAreUnique}
use Rattle.network_commands.specs.NetworkRuns.Simulations.{IsNetOf, TellsNet, TellsRead, TellsVectors, vector_line}
use Rattle.uniqueness.proofs.SimLimits.{numbered}

module _ (one_file : VectorFilesAreUnique) (one_reply : RepliesAreUnique) (budget number : ℕ) (sim : SimFile) (text : List ℕ) (net other : Network)
    (names others : List (List ℕ × ℕ)) (p : IsNetOf sim net names) (q : IsNetOf sim other others) where
  -- what was read is answered by the same lines
  same_told : (lines more : List ReportLine) (read : Result Vectors (At VecFault)) → vectors_in names text ≡ read
      → TellsRead budget number net names read lines → TellsRead budget number other others read more → lines ≡ more
  same_told lines more (Ok vectors) read tells also =
      let replies = one_reply (records_of sim) net other names others text budget vectors tells.replies also.replies
      (numbered sim net names p) (numbered sim other others q) read tells.is_run also.is_run in
      tells.are ∙ ap (λ (rs : List VecReply). map vector_line rs) replies ∙ sym also.are
  same_told lines more (Err at) read tells also = tells ∙ sym also

  pub same_lines : (lines more : List ReportLine) → TellsVectors budget number text net names lines
      → TellsVectors budget number text other others more → lines ≡ more
  same_lines lines more tells also =
      let files = one_file (records_of sim) net other names others text (numbered sim net names p) (numbered sim other others q) in
      let over = subst (λ (read : Result Vectors (At VecFault)). TellsRead budget number other others read more) (sym files) also in
      same_told lines more (vectors_in names text) refl tells over

-- the network is one of the sim file, and so are the lines
pub same_answer : VectorAnswersAreUnique → (budget number : ℕ) (sim : SimFile) (text : List ℕ) (lines more : List ReportLine)
    → TellsNet budget number sim text lines → TellsNet budget number sim text more → lines ≡ more
same_answer one budget number sim text lines more a b =
    one budget number sim text a.net b.net a.names b.names lines more a.is_net b.is_net a.tells b.tells
