use Rattle.steady_state.proofs.Common.{◌≡◌, ◌≢◌, ℕ, suc, arith, length, List, subst, sym, add-one, ap, ◌∙◌, slice_index, Level, state_of, NoneRests}
use Rattle.steady_state.proofs.Common.{IsStep, known, IsAmong, network_in}
use Rattle.switch_net.proofs.Phases.{none_more}
use Rattle.steady_state.proofs.Collecting.{marked-le, none_marked}
use Rattle.steady_state.proofs.Moving.{waiting_take, below_take, all_changed, steps_more, same_states, quiet_next}
use Rattle.steady_state.proofs.Wires.{sound_of}
use Rattle.steady_state.proofs.settling.take_steps.Goals as goal
use Rattle.steady_state.proofs.settling.take_steps.Goals.{After-changes-moved, Else-moved-eq0}

-- each node that changed is listed
found : (c : After-changes-moved) → (v : ℕ) → state_of c.steps.state v ≢ state_of c.step_marked.new.next v →
    IsAmong c.changes-moved.new.changed c.changes-moved.result v
found c =
    let marks = c.step_marked.new.marks in
    let few = marked-le (network_in c.args.net.now) marks c.step_marked.ensures.marks in
    all_changed c.steps.state c.step_marked.new.next marks.inside marks.order c.changes-moved.new.changed marks.count c.changes-moved.result
    (omega (arith, few, marks.listed.room, c.step_marked.ensures.marks.fits)) (λ v ins. known marks.inside marks.order marks.count v marks.listed ins)
    c.step_marked.ensures.kept (rw c.nodes.ensures at c.changes-moved.ensures.found)

pub returns-then-moved-eq0-clause-ends : goal.returns-then-moved-eq0-clause-ends
returns-then-moved-eq0-clause-ends c =
    let f = found (goal.at.returns-then-moved-eq0-clause-ends c).After-changes-moved in
    let same : c.steps.state ≡ c.step_marked.new.next = same_states c.steps.state c.step_marked.new.next
    (omega (arith, (c.step_marked.ensures.step c.steps.invariant.quiet).same_length)) (λ v ne. let q = f v ne in absurd (omega (arith, q.1))) in (
      record {
        reached = c.steps.invariant.reached;
        rests = subst (λ (x : List Level). IsStep (network_in c.args.net.now) c.steps.state x) (sym same) (c.step_marked.ensures.step c.steps.invariant.quiet);
        first = c.steps.invariant.none;
      },
      c.steps.invariant.within,
    )

-- the state still changes
moved : (c : Else-moved-eq0) → NoneRests (network_in c.args.net.now) (suc c.steps.steps) c.args.state.now
moved c = none_more (network_in c.args.net.now) (sound_of c.args.net.now) c.args.state.now c.requires.state c.steps.steps c.steps.state
    c.step_marked.new.next c.steps.invariant.reached (c.step_marked.ensures.step c.steps.invariant.quiet)
    (λ e. let d = c.changes-moved.ensures.differ 0 (omega arith) in d (ap (λ (x : List Level). state_of x (slice_index c.changes-moved.new.changed 0))
    (sym e))) c.steps.invariant.none

pub returns-then-steps-budget-clause-ends : goal.returns-then-steps-budget-clause-ends
returns-then-steps-budget-clause-ends c =
    let m = moved (goal.at.returns-then-steps-budget-clause-ends c).Else-moved-eq0 in
    record {
      reached = rw (← c.if-steps-budget.true) c.steps.invariant.reached;
      none_rests = rw (← c.if-steps-budget.true) m;
      step = c.step_marked.ensures.step c.steps.invariant.quiet;
      kept = c.step_marked.ensures.kept;
    }

pub commit-requires-clause-changed : goal.commit-requires-clause-changed
commit-requires-clause-changed c = below_take c.changes-moved.new.changed c.changes-moved.result (length c.steps.state) c.changes-moved.ensures.few
    c.changes-moved.ensures.below

pub commit-requires-clause-found : goal.commit-requires-clause-found
commit-requires-clause-found c = λ v ne.
    let f = found (goal.at.commit-requires-clause-found c).After-changes-moved in
    waiting_take c.changes-moved.new.changed c.changes-moved.result v c.changes-moved.ensures.few (f v ne)

pub mark_changed-requires-clause-changed : goal.mark_changed-requires-clause-changed
mark_changed-requires-clause-changed c =
    below_take c.changes-moved.new.changed c.changes-moved.result c.args.net.now.nodes c.changes-moved.ensures.few
    (λ i lt. let b = c.changes-moved.ensures.below i lt in omega (arith, b, (c.step_marked.ensures.step c.steps.invariant.quiet).same_length))

pub mark_changed-requires-clause-marks : goal.mark_changed-requires-clause-marks
mark_changed-requires-clause-marks c =
    none_marked (network_in c.args.net.now) c.clear-in-steps.new.self (c.clear-in-steps.ensures.fits ∙ c.step_marked.ensures.marks.fits)
    c.clear-in-steps.ensures.empty

pub steps-preserved : goal.steps-preserved
steps-preserved c =
    let m = moved (goal.at.steps-preserved c).Else-moved-eq0 in
    let f = found (goal.at.steps-preserved c).After-changes-moved in
    let e = c.commit.ensures in
    record {
      reached = steps_more (network_in c.args.net.now) c.args.state.now c.steps.state c.step_marked.new.next c.commit.new.state c.steps.steps
          c.steps.invariant.reached (c.step_marked.ensures.step c.steps.invariant.quiet) e;
      none = rw add-one m;
      within = omega arith;
      same = sym e;
      marks = c.mark_changed.ensures.marks;
      quiet = rw e (quiet_next (network_in c.args.net.now) c.steps.state c.step_marked.new.next c.mark_changed.new.marks.inside (sound_of c.args.net.now)
          (c.step_marked.ensures.step c.steps.invariant.quiet)
          (λ v ne st. let q = waiting_take c.changes-moved.new.changed c.changes-moved.result v c.changes-moved.ensures.few (f v ne) in let at = q.2 in rw at
          at (c.mark_changed.ensures.changed q.0 q.1 (rw at st)))
          (λ v ne. let q = waiting_take c.changes-moved.new.changed c.changes-moved.result v c.changes-moved.ensures.few (f v ne) in let at = q.2 in rw at at
          (c.mark_changed.ensures.gated q.0 q.1)));
      strengths = c.step_marked.ensures.strengths;
    }
