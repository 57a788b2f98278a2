use Rattle.steady_state.proofs.Common.{◌≡◌, ◌∙◌, ◌<◌, ◌≤◌, ℕ, false, arith, subst, slice_index, slice_index_or, inl, inr, refl, length, get_or-take}
use Rattle.steady_state.proofs.Common.{cases_Bool, length-take-le, IsInside, count-le, known, none_inside, network_in}
use Rattle.steady_state.proofs.Collecting.{none_marked}
use Rattle.steady_state.proofs.Moving.{below_one}
use Rattle.steady_state.proofs.stepping.step_vicinities.Goals as goal
use Rattle.steady_state.proofs.stepping.step_vicinities.Goals.{After-clear, then-not-has, else-not-has}

-- the copy has the nodes that were marked
copied : (c : After-clear) (i : ℕ) → i < c.args.marks.now.count → slice_index c.copy_nodes.new.list i ≡ slice_index c.args.marks.now.order i
copied c i lt =
    let marks = c.args.marks.now in
    let room : marks.count ≤ length marks.order = omega (arith, count-le marks.inside marks.order marks.count marks.listed, marks.listed.room) in
    let e = c.nodes.ensures in
    let long : length c.nodes.result.now ≡ marks.count = rw e (length-take-le marks.count marks.order room) in
    c.copy_nodes.ensures i (omega (arith, long)) ∙ rw e (get_or-take marks.count marks.order i 0 lt)

seed_inside : (c : After-clear) (i : ℕ) → i < c.args.marks.now.count → IsInside c.args.marks.now.inside (slice_index c.copy_nodes.new.list i)
seed_inside c i lt = rw (copied c i lt) (c.args.marks.now.listed.listed i lt)

pub copy_nodes-requires : goal.copy_nodes-requires
copy_nodes-requires c =
    let marks = c.args.marks.now in
    let few = count-le marks.inside marks.order marks.count marks.listed in
    let e = c.nodes.ensures in
    let long : length c.nodes.result.now ≡ marks.count =
    rw e (length-take-le marks.count marks.order (omega (arith, few, marks.listed.room))) in
    omega (arith, few, long, c.requires.marks.fits, c.requires.seeds)

pub seeds-init : goal.seeds-init
seeds-init c =
    let cleared = c.clear.new.self in
    let none = λ (v : ℕ) (ins : IsInside cleared.inside v).
    none_inside cleared.inside cleared.order cleared.count v cleared.listed c.clear.ensures.empty ins in
    record {
      marks = none_marked (network_in c.args.net.now) cleared (c.clear.ensures.fits ∙ c.requires.marks.fits) c.clear.ensures.empty;
      seeded = λ i lt. absurd (omega arith);
      reached = λ roots k v ins. absurd (none v ins);
      closed = record { left = λ v ins. absurd (none v ins); right = λ v ins. absurd (none v ins) };
      steady = λ v ins. absurd (none v ins);
      kept = λ v out. refl;
      strengths = c.requires.strengths;
    }

pub step_vicinity-requires-clause-seed : goal.step_vicinity-requires-clause-seed
step_vicinity-requires-clause-seed c =
    (c.requires.marks.storage (slice_index c.copy_nodes.new.list c.seeds.place)
    (seed_inside (goal.at.step_vicinity-requires-clause-seed c).After-clear c.seeds.place c.seeds-test.true)).0

pub seeds-preserved : goal.seeds-preserved
seeds-preserved c =
    let inv = c.seeds.invariant in
    let start = (goal.at.seeds-preserved c).After-clear in
    let seed : ℕ = slice_index c.copy_nodes.new.list c.seeds.place in
    let was = seed_inside start c.seeds.place c.seeds-test.true in
    elim c.if-not-has.branch [
      | then-not-has w ↦ (let here = w.step_vicinity.ensures in
          rw (w.marks-is, w.next-is, w.strengths-is) (record {
            marks = here.marks;
            seeded = below_one (λ i. IsInside w.step_vicinity.new.marks.inside (slice_index c.copy_nodes.new.list i)) c.seeds.place
                (λ i lt. here.grown (slice_index c.copy_nodes.new.list i) (inv.seeded i lt)) (here.marked (c.requires.marks.storage seed was));
            reached = λ roots k. here.reached roots (inv.reached roots k) (k seed was);
            closed = here.closed;
            steady = λ v ins. elim (cases_Bool (slice_index_or c.seeds.marks.inside v false)) [
              | inl before ↦ rw (here.kept v (λ now. before)) (inv.steady v before)
              | inr out ↦ here.steady v ins (λ e. cc)
            ];
            kept = λ v out. here.kept v (λ now. absurd (cc)) ∙ inv.kept v (elim (cases_Bool (slice_index_or c.seeds.marks.inside v false)) [
              | inl before ↦ absurd (let now = here.grown v before in cc)
              | inr off ↦ off
            ]);
            strengths = here.strengths;
          }))
      | else-not-has w ↦ rw (w.marks-is, w.next-is, w.strengths-is) (record {
        marks = inv.marks;
        seeded = below_one (λ i. IsInside c.seeds.marks.inside (slice_index c.copy_nodes.new.list i)) c.seeds.place inv.seeded
            (c.has.ensures.0 w.if-not-has.false);
        reached = inv.reached;
        closed = inv.closed;
        steady = inv.steady;
        kept = inv.kept;
        strengths = inv.strengths;
      })
    ]

pub returns-clause-grown : goal.returns-clause-grown
returns-clause-grown c = λ v ins.
    let start = (goal.at.returns-clause-grown c).After-clear in
    let marks = c.args.marks.now in
    let q = known marks.inside marks.order marks.count v marks.listed ins in
    subst (λ (u : ℕ). IsInside c.seeds.marks.inside u) (copied start q.0 q.1 ∙ q.2) (c.seeds.invariant.seeded q.0 (omega (arith, q.1, c.seeds-test.false)))
