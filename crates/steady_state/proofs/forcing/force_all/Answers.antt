use Rattle.steady_state.proofs.Common.{◌≡◌, ◌≢◌, ◌∙◌, add-one, arith, length, refl, take, drop, ℕ, X, state_of, IsInside, known, network_in}
use Rattle.switch_net.proofs.Forcing.{forced_is_x}
use Rattle.steady_state.proofs.Collecting.{marked-le, none_marked}
use Rattle.steady_state.proofs.Moving.{all_changed, below_take, waiting_take}
use Rattle.steady_state.proofs.Rounds.{IsForcing, added_listed, added_within, are_over, differ_take, due_first, due_next, few_storage, forced_storage}
use Rattle.steady_state.proofs.Rounds.{is_round, next_same, none_set, slice_from}
use Rattle.steady_state.proofs.Wires.{sound_of}
use Rattle.steady_state.proofs.forcing.force_all.Goals as goal
use Rattle.steady_state.proofs.forcing.force_all.Goals.{After-force, Else-forced-before}

pub rounds-init : goal.rounds-init
rounds-init c =
    let net = network_in c.args.net.now in
    let fits = c.clear.ensures.fits ∙ c.requires.forced in
    record {
      reached = (none_set c.args.net.now.nodes c.clear.new.self fits c.clear.ensures.empty, refl);
      forced = none_marked net c.clear.new.self fits c.clear.ensures.empty;
      few = omega arith;
      marks = c.requires.marks;
      due = due_first net c.clear.new.self.inside c.args.state.now c.args.next.now c.args.marks.now.inside c.requires.step c.requires.marks.storage
          c.requires.kept;
      strengths = c.requires.strengths;
    }

pub force-requires-clause-nodes : goal.force-requires-clause-nodes
force-requires-clause-nodes c = below_take c.changes-moved.new.changed c.changes-moved.result (length c.rounds.state) c.changes-moved.ensures.few
    c.changes-moved.ensures.below

-- the nodes that differ were made X and forced
forcing : (c : After-force) → IsForcing c.rounds.state c.rounds.next (take c.changes-moved.result c.changes-moved.new.changed) c.rounds.forced
    c.force.new.forced c.force.new.state c.force.new.next
forcing c =
    let marks = c.rounds.marks in
    let listed = c.changes-moved.new.changed in
    let few = marked-le (network_in c.args.net.now) marks c.rounds.invariant.marks in
    let made = c.force.ensures in
    record {
      found = λ v ne. waiting_take listed c.changes-moved.result v c.changes-moved.ensures.few
          (all_changed c.rounds.state c.rounds.next marks.inside marks.order listed marks.count c.changes-moved.result
          (omega (arith, few, marks.listed.room, c.rounds.invariant.marks.fits)) (λ u ins. known marks.inside marks.order marks.count u marks.listed ins)
          c.rounds.invariant.due.kept (rw c.nodes.ensures at c.changes-moved.ensures.found) v ne);
      differ = differ_take (λ (v : ℕ). state_of c.rounds.state v ≢ state_of c.rounds.next v) listed c.changes-moved.result c.changes-moved.ensures.few
          c.changes-moved.ensures.differ;
      fits = made.fits;
      adds = made.adds;
      only = made.only;
      all = made.all;
      one_state = omega (arith, c.force.auto.state);
      one_next = omega (arith, c.force.auto.state, c.force.auto.next, c.rounds.auto.state, c.rounds.auto.next, c.requires.state, c.requires.step.same_length);
      made = made.state;
      made_next = made.next;
    }

-- what was forced before is X
was_x : (c : After-force) → (v : ℕ) → IsInside c.rounds.forced.inside v → state_of c.rounds.state v ≡ X
was_x c v ins = forced_is_x (network_in c.args.net.now) c.rounds.rounds c.rounds.forced.inside c.args.state.now c.rounds.state v c.rounds.invariant.reached ins

pub returns-then-forced-before-clause-rounds : goal.returns-then-forced-before-clause-rounds
returns-then-forced-before-clause-rounds c =
    let here = (goal.at.returns-then-forced-before-clause-rounds c).After-force in
    are_over (network_in c.args.net.now) (sound_of c.args.net.now) c.rounds.state c.rounds.next c.rounds.marks.inside
    (take c.changes-moved.result c.changes-moved.new.changed) c.rounds.forced c.force.new.forced c.force.new.state c.force.new.next c.rounds.invariant.due
    c.rounds.invariant.marks.storage (was_x here) (forcing here) c.if-forced-before.true c.rounds.rounds c.args.state.now c.rounds.invariant.reached

pub returns-then-forced-before-clause-few : goal.returns-then-forced-before-clause-few
returns-then-forced-before-clause-few c =
    let few = few_storage (network_in c.args.net.now) c.rounds.forced (sound_of c.args.net.now) c.rounds.invariant.forced in
    omega (arith, few, c.rounds.invariant.few)

pub mark_changed-requires-clause-changed : goal.mark_changed-requires-clause-changed
mark_changed-requires-clause-changed c =
    let fits : length c.force.new.forced.inside ≡ c.args.net.now.nodes = c.force.ensures.fits ∙ c.rounds.invariant.forced.fits in
    rw (slice_from c.nodes-in-rounds.result.now c.rounds.forced.count, c.nodes-in-rounds.ensures, ← fits)
    (λ k d lt. added_within c.force.new.forced c.rounds.forced.count k d lt)

pub step_marked-requires-clause-same : goal.step_marked-requires-clause-same
step_marked-requires-clause-same c =
    let here = (goal.at.step_marked-requires-clause-same c).After-force in
    next_same (network_in c.args.net.now) (sound_of c.args.net.now) c.rounds.state c.rounds.next c.rounds.marks.inside
    (take c.changes-moved.result c.changes-moved.new.changed) c.rounds.forced c.force.new.forced c.force.new.state c.force.new.next c.rounds.invariant.due
    c.rounds.invariant.marks.storage (was_x here) (forcing here)

pub rounds-preserved : goal.rounds-preserved
rounds-preserved c =
    let here = (goal.at.rounds-preserved c).After-force in
    let net = network_in c.args.net.now in
    let sound = sound_of c.args.net.now in
    let inv = c.rounds.invariant in
    let xs = take c.changes-moved.result c.changes-moved.new.changed in
    let old = c.rounds.forced in
    let new = c.force.new.forced in
    let t = c.force.new.state in
    let ys = drop old.count (take new.count new.order) in
    let same = slice_from c.nodes-in-rounds.result.now old.count in
    let marked = rw (same, c.nodes-in-rounds.ensures) at c.mark_changed.ensures.changed in
    let gated = rw (same, c.nodes-in-rounds.ensures) at c.mark_changed.ensures.gated in
    record {
      reached = rw add-one (
        old.inside,
        c.rounds.state,
        inv.reached,
        is_round net sound c.rounds.state c.rounds.next c.rounds.marks.inside xs old new t
            c.force.new.next inv.due inv.marks.storage (was_x here) (forcing here) c.if-forced-before.false,
      );
      forced = record {
        fits = c.force.ensures.fits ∙ inv.forced.fits;
        storage = forced_storage net sound c.rounds.state c.rounds.next c.rounds.marks.inside xs old new t c.force.new.next inv.due inv.marks.storage
            (was_x here) (forcing here) inv.forced.storage;
      };
      few = omega (arith, inv.few, c.force.ensures.adds.more, c.if-forced-before.false);
      marks = c.step_marked.ensures.marks;
      due = due_next net sound c.rounds.state c.rounds.next c.rounds.marks.inside xs old new t c.force.new.next inv.due inv.marks.storage (was_x here)
          (forcing here) c.mark_changed.new.marks.inside c.step_marked.new.marks.inside ys c.step_marked.new.next
          (λ v ins free. added_listed old new v c.force.ensures.adds ins free) marked gated c.step_marked.ensures.joined c.step_marked.ensures.steady
          c.step_marked.ensures.kept;
      strengths = c.step_marked.ensures.strengths;
    }
