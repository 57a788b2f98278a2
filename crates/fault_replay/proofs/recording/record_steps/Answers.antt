use Rattle.fault_replay.proofs.Common.{◌≡◌, ◌++◌, ◌∷◌, [], ℕ, ◌<◌, List, ap, arith, length, refl, subst, sym, ◌∙◌, All, eqb-true, All-push, Level}
use Rattle.fault_replay.proofs.Common.{network_of, Network, IsInside, IsStep, sound_of, changed, IsQuietBut, StepsBy, listed}
use Rattle.std.proofs.Common.{length-append}
use Rattle.std.specs.List.{length_refill}
use Rattle.std.proofs.lemmas.List.Elements.{All-nil}
use Rattle.fault_replay.proofs.Recorded.{quiet_behind, quiet_first, steps_by_more}
use Rattle.fault_replay.proofs.recording.record_steps.Goals as goal

-- the nodes of changes are among so many
abbrev AreBelow : ℕ → List (ℕ × Level) → Type 0
AreBelow nodes changes = All (λ (change : ℕ × Level). change.0 < nodes) changes

pub steps-init : goal.steps-init
steps-init c =
    let net = network_of c.args.net.now in
    let s = c.args.states.now in
    let none = c.new-steps.ensures.items in
    let none_yet = ap length none in
    record {
      net = refl;
      states = c.requires.states;
      next = ap length c.in_ok-next.ensures.items ∙ c.requires.states;
      moved = c.in_ok-moved.ensures.fits;
      few = omega (arith, none_yet);
      steps = subst (λ (steps : List (List (ℕ × Level))). StepsBy net s steps s) (sym none) refl;
      within = subst (All (AreBelow c.args.net.now.nodes)) (sym none) (All-nil (AreBelow c.args.net.now.nodes));
      quiet = quiet_first net s c.in_ok-moved.moved c.in_ok-moved.ensures.all;
    }

pub steps-preserved : goal.steps-preserved
steps-preserved c =
    let before = c.steps.invariant in
    let found = c.in_ok-changes.ensures in
    let took = c.take_changes.ensures in
    let net = network_of c.args.net.now in
    let t = c.steps.states in
    let changes = c.in_ok-changes.changes.items in
    let moved = c.take_changes.new.moved in
    let nodes = ap (λ (net : Network). net.nodes) found.net in
    let first = ap (λ (net : Network). net.nodes) before.net in
    let step : IsStep net t (changed changes t) = subst (λ (n : Network). IsStep n t (changed changes t)) before.net
    (found.step (subst (λ (n : Network). IsQuietBut n t (listed c.steps.moved)) (sym before.net) before.quiet)) in
    let new = took.states ∙ ap (λ (all : List (ℕ × Level)). changed all t) c.deref.ensures.value in
    let items = c.in_ok-push.ensures.items ∙ ap (λ (one : List (ℕ × Level)). c.steps.steps.items ++ one ∷ []) c.of.ensures in
    let told = subst (All (λ (change : ℕ × Level). IsInside moved.inside change.0)) c.deref.ensures.value took.told in
    let more = ap length items in
    let one_more = length-append c.steps.steps.items (changes ∷ []) in
    let next_length = length_refill c.steps.next.len c.steps.next.items c.find_changes.new.next c.steps.next.ok.0 in
    record {
      net = found.net ∙ before.net;
      states = omega (arith, c.take_changes.auto.states, before.states, nodes);
      next = omega (arith, next_length, c.steps.next.ok.0, before.next, nodes);
      moved = omega (arith, took.fits, before.moved, nodes);
      few = omega (arith, more, one_more, before.few, c.if-len-most.false, c.len.ensures, c.steps.steps.ok.0);
      steps = subst (λ (steps : List (List (ℕ × Level))). StepsBy net c.args.states.now steps c.take_changes.new.states) (sym items)
          (subst (StepsBy net c.args.states.now (c.steps.steps.items ++ changes ∷ [])) (sym new)
          (steps_by_more net c.args.states.now t c.steps.steps.items changes before.steps step));
      within = subst (All (AreBelow c.args.net.now.nodes)) (sym items) (All-push (AreBelow c.args.net.now.nodes) c.steps.steps.items changes before.within
          (subst (λ (n : ℕ). AreBelow n changes) first found.within));
      quiet = subst (λ (s : List Level). IsQuietBut net s (listed moved)) (sym new) (quiet_behind net t changes moved (sound_of c.args.net.now) step told);
    }

-- a step without changes leaves the states as they are
still : (net : Network) (t : List Level) (changes : List (ℕ × Level)) → length changes ≡ 0 → IsStep net t (changed changes t) → IsStep net t t
still net t [] none step = step
still net t (change ∷ changes) none step = absurd (omega (arith, none))

pub returns-then-rests-clause-rests : goal.returns-then-rests-clause-rests
returns-then-rests-clause-rests c = λ yes.
    let before = c.steps.invariant in
    let t = c.steps.states in
    let changes = c.in_ok-changes.changes in
    let none : changes.len ≡ 0 = eqb-true changes.len 0 (sym c.is_empty-rests.ensures ∙ yes) in
    let step = subst (λ (n : Network). IsStep n t (changed changes.items t)) before.net
    (c.in_ok-changes.ensures.step (subst (λ (n : Network). IsQuietBut n t (listed c.steps.moved)) (sym before.net) before.quiet)) in
    still (network_of c.args.net.now) t changes.items (omega (arith, none, changes.ok.0)) step
