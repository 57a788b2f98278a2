-- What answers a run on the network of a circuit.
use Rattle.uniqueness.proofs.Common.{◌≡◌, inl, inr, ℕ, List, length, Ok, Err, sym, ap, ◌∙◌, subst, arith, Result, At, ReportLine, Circuit, Network}
use Rattle.uniqueness.proofs.Common.{SimRecords, records_of, Outcome, VecFault, vectors_in, IsNumbered}
use Rattle.circuit_commands.specs.SimRecords.SimRecords.{sim_of}
use Rattle.network_commands.specs.StackRuns.Outcomes.{IsOutcome}
use Rattle.vector_runs.specs.VectorFiles.declared.files.Vectors.{Vectors as VectorFile}
use Rattle.uniqueness.specs.Networks.{NetworksAreUnique}
use Rattle.uniqueness.specs.VectorRuns.{FaultsAreUnique, GradesAreUnique, VectorFilesAreUnique}
use Rattle.uniqueness.proofs.AlikeNames.{like_named}
use Rattle.uniqueness.proofs.SameNetworks.{nodes_below, one_node_each}
use Rattle.network_commands.specs.NetworkRuns.declared.network_runs.NetworkRun.{NetworkRun}
use Rattle.network_commands.specs.NetworkRuns.declared.network_runs.NetworkRun.TheVariants.{Grade, Stack, Vectors}
use Rattle.network_commands.specs.NetworkRuns.Grading.{TellsCoverage, TellsFaults, TellsReadGrades, grade_lines, preferred_names}
use Rattle.network_commands.specs.NetworkRuns.NetworkRuns.{TellsCircuit, TellsOn, TellsOutcome, outcome_lines}
use Rattle.uniqueness.specs.Simulations.{NetworkAnswersAreUnique}
use Rattle.uniqueness.proofs.SimLimits.{numbered}
use Rattle.uniqueness.proofs.StackOutcomes.{one_outcome, same_outcome}

-- the vectors of a stack are answered by the same lines
same_stack : NetworksAreUnique → (budget n : ℕ) (circuit : Circuit) (lines more : List ReportLine) → TellsOutcome budget n circuit lines
    → TellsOutcome budget n circuit more → lines ≡ more
same_stack one_network budget n circuit lines more p q =
    let records = records_of (sim_of circuit) in
    let this = numbered (sim_of circuit) p.net p.names p.is_net in
    let that = numbered (sim_of circuit) q.net q.names q.is_net in
    let (net, alike) = one_network records p.net q.net p.names q.names this that in
    let one = one_node_each records p.net p.names this.is_network in
    let also = one_node_each records q.net q.names that.is_network in
    let there = subst (λ (of : Network). IsOutcome of q.names budget n q.outcome) (sym net) q.is_outcome in
    let here = same_outcome p.names q.names alike (like_named p.names q.names one also alike).nodes p.net budget n q.outcome there in
    let outcome = one_outcome p.net p.names budget n this.is_network.sound (nodes_below records p.net p.names this.is_network) p.outcome q.outcome
    p.is_outcome here in
    p.are ∙ ap (λ (came : Outcome). outcome_lines n circuit came) outcome ∙ sym q.are

-- grades of vectors are told by the same lines
module _ (one_network : NetworksAreUnique) (one_file : VectorFilesAreUnique) (one_list : FaultsAreUnique) (one_grading : GradesAreUnique)
    (budget number : ℕ) (cell text : List ℕ) (circuit : Circuit) (lines more : List ReportLine) where
  module _ (p : TellsCoverage budget number cell text circuit lines) (q : TellsCoverage budget number cell text circuit more) where
    abbrev records : SimRecords
    records = records_of (sim_of circuit)

    this : IsNumbered records p.net p.names
    this = numbered (sim_of circuit) p.net p.names p.is_net

    that : IsNumbered records q.net q.names
    that = numbered (sim_of circuit) q.net q.names q.is_net

    -- vectors that were read
    same_read : (read : Result VectorFile (At VecFault)) → TellsReadGrades budget number cell circuit p.net p.names read lines
        → TellsReadGrades budget number cell circuit q.net q.names read more → lines ≡ more
    same_read (Ok vectors) a b =
        let grades = one_grading records p.net q.net p.names q.names budget vectors a.grades b.grades this that a.are_grades b.are_grades in
        a.are ∙ ap (grade_lines cell (preferred_names circuit)) grades ∙ sym b.are
    same_read (Err at) a b = a ∙ sym b

    same_faults : TellsFaults budget number cell text circuit p.net p.names lines → TellsFaults budget number cell text circuit q.net q.names more
        → lines ≡ more
    same_faults (inl a) (inl b) = a.1 ∙ sym b.1
    same_faults (inl a) (inr b) =
        let same = ap length (one_list records p.net q.net p.names q.names this that) in absurd (omega (arith, a.0, b.0, same))
    same_faults (inr a) (inl b) =
        let same = ap length (one_list records p.net q.net p.names q.names this that) in absurd (omega (arith, a.0, b.0, same))
    same_faults (inr a) (inr b) =
        let files = one_file records p.net q.net p.names q.names text this that in
        same_read (vectors_in p.names text) a.1
        (subst (λ (read : Result VectorFile (At VecFault)). TellsReadGrades budget number cell circuit q.net q.names read more) (sym files) b.1)

  same_coverage : TellsCoverage budget number cell text circuit lines → TellsCoverage budget number cell text circuit more → lines ≡ more
  same_coverage p q = same_faults p q p.tells q.tells

-- What runs on the network of a circuit rests on.
pub record Laws : Type 0 where
  pub networks : NetworksAreUnique
  pub files : VectorFilesAreUnique
  pub faults : FaultsAreUnique
  pub grades : GradesAreUnique
  pub answers : NetworkAnswersAreUnique

same_on : Laws → (run : NetworkRun) (budget number : ℕ) (circuit : Circuit) (lines more : List ReportLine)
    → TellsOn run budget number circuit lines → TellsOn run budget number circuit more → lines ≡ more
same_on laws (Vectors text) budget number circuit lines more p q = laws.answers budget number (sim_of circuit) text lines more p q
same_on laws (Grade cell text) budget number circuit lines more p q =
    same_coverage laws.networks laws.files laws.faults laws.grades budget number cell text circuit lines more p q
same_on laws (Stack n) budget number circuit lines more p q = same_stack laws.networks budget n circuit lines more p q

-- or there are too many switches
pub same_circuit : Laws → (run : NetworkRun) (budget number : ℕ) (circuit : Circuit) (lines more : List ReportLine)
    → TellsCircuit run budget number circuit lines → TellsCircuit run budget number circuit more → lines ≡ more
same_circuit laws run budget number circuit lines more (inl p) (inl q) = p.1 ∙ sym q.1
same_circuit laws run budget number circuit lines more (inl p) (inr q) = absurd (omega (arith, p.0, q.0))
same_circuit laws run budget number circuit lines more (inr p) (inl q) = absurd (omega (arith, p.0, q.0))
same_circuit laws run budget number circuit lines more (inr p) (inr q) = same_on laws run budget number circuit lines more p.1 q.1
