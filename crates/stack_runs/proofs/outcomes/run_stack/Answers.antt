use Rattle.std.proofs.Common.{◌≡◌, ◌∙◌, ℕ, List, [], ◌++◌, sym, ap, subst, rules}
use Rattle.std.specs.Prelude.{All}
use Rattle.switch_net.specs.declared.switches.Level.{Level}
use Rattle.switch_net.specs.Names.{NameOneNodeEach}
use Rattle.switch_net.specs.Net.{network_of}
use Rattle.vector_files.specs.declared.files.Vectors.{Vectors}
use Rattle.vector_runs.specs.declared.replies.VecReply.{VecReply}
use Rattle.vector_runs.specs.Running.{FitsNodes}
use Rattle.vector_runs.specs.Runs.{EndsRun}
use Rattle.stack_runs.specs.StackVectors.{stack_vectors}
use Rattle.stack_runs.proofs.NamedAlike.{same_vectors, vectors_fit}
use Rattle.stack_runs.proofs.OnePhase.{outcome_is}
use Rattle.stack_runs.proofs.outcomes.run_stack.Goals as goal

pub of-requires : goal.of-requires
of-requires c = subst NameOneNodeEach (sym c.items.ensures) c.args.named.now.one_node

pub run_to_end-requires-clause-within : goal.run_to_end-requires-clause-within
run_to_end-requires-clause-within c =
    let named = c.args.named.now in
    let like = rw c.items.ensures at c.in_ok-names.ensures in
    let is : c.in_ok-vectors.vectors ≡ stack_vectors named.names c.args.n =
    c.in_ok-vectors.ensures ∙ same_vectors c.in_ok-names.names named.names like c.args.n in
    subst (λ (v : Vectors). All (λ line. FitsNodes named.net.nodes line.1) v.lines) (sym is)
    (vectors_fit named.net.nodes named.names named.named_within c.args.n)

pub returns-clause-outcome : goal.returns-clause-outcome
returns-clause-outcome c =
    let named = c.args.named.now in
    let like = rw c.items.ensures at c.in_ok-names.ensures in
    let is : c.in_ok-vectors.vectors ≡ stack_vectors named.names c.args.n =
    c.in_ok-vectors.ensures ∙ same_vectors c.in_ok-names.names named.names like c.args.n in
    let run = c.in_ok-states.ensures.run in
    let ends = subst (λ (v : Vectors). EndsRun (network_of named.net) named.names c.args.budget v run.0 c.in_ok-states.states.items) is run.1 in
    let replies : c.deref.result.now ≡ run.0 = search rules in
    let states : c.deref-2.result.now ≡ c.in_ok-states.states.items = search rules in
    let told = c.outcome_of.ensures in
    outcome_is (network_of named.net) named.names c.args.budget c.args.n c.deref.result.now c.deref-2.result.now c.outcome_of.result
    (subst (λ (all : List VecReply). EndsRun (network_of named.net) named.names c.args.budget (stack_vectors named.names c.args.n) all c.deref-2.result.now)
    (sym replies)
    (subst (λ (s : List Level). EndsRun (network_of named.net) named.names c.args.budget (stack_vectors named.names c.args.n) run.0 s) (sym states) ends))
    told.reply told.unsettled told.zeros told.ones
