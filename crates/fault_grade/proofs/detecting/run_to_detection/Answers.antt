use Rattle.fault_grade.proofs.Common.{◌≡◌, ℕ, ◌+◌, ◌≤◌, ◌∷◌, true, ap, arith, length, refl, subst, sym, take, drop, ◌∙◌, sound_of, VecLine}
use Rattle.fault_grade.proofs.Common.{StuckFault, watched, is_left_out}
use Rattle.std.proofs.Common.{Option}
use Rattle.std.proofs.lemmas.List.{drop_more}
use Rattle.fault_replay.specs.Runs.{IsBeside}
use Rattle.fault_grade.proofs.Comparisons.{AreCompared, FindsBefore, found_first, found_last, found_now, one_compared, shown_enough, sound_shown}
use Rattle.fault_grade.proofs.detecting.run_to_detection.Goals as goal

pub split_at-requires : goal.split_at-requires
split_at-requires c =
    let from = c.requires.shown.0 in
    let shown = c.requires.shown.1 in
    let enough =
    shown_enough c.args.budget from (watched c.args.net.now c.args.run.now.run) c.args.run.now.run.stuck c.args.lines.now c.args.net.now.nodes c.requires.within
    (sound_shown c.args.budget c.args.net.now.nodes from c.args.lines.now c.args.good.now.seen.items shown)
    (record { sound = sound_of c.args.net.now; same_nodes = refl; one_state = c.requires.ready.under_way.states })
    c.loop-number.number-index c.loop-number-item.result (omega arith) c.loop-number-item.is c.loop-number.seen.now
    (watched c.loop-number.net c.loop-number.run.run) c.loop-number.found (c.loop-number.invariant.compared from shown) in
    subst (λ (n : ℕ). n ≤ length c.loop-number.seen.now) (sym c.asked_count.ensures) enough

pub returns-then-decides-clause-finds : goal.returns-then-decides-clause-finds
returns-then-decides-clause-finds c = λ from shown.
    let before = c.loop-number.invariant in
    let first = watched c.args.net.now c.args.run.now.run in
    let stuck = c.args.run.now.run.stuck in
    let lines = c.args.lines.now in
    let line = c.loop-number-item.result in
    let here = c.split_at.ensures.front ∙ ap (λ (n : ℕ). take n c.loop-number.seen.now) c.asked_count.ensures in
    let finds =
    found_now c.args.budget from first stuck lines c.args.net.now.nodes c.requires.within
    (sound_shown c.args.budget c.args.net.now.nodes from lines c.args.good.now.seen.items shown)
    (record { sound = sound_of c.args.net.now; same_nodes = refl; one_state = c.requires.ready.under_way.states }) c.loop-number.number-index line (omega arith)
    c.loop-number-item.is c.loop-number.seen.now (watched c.loop-number.net c.loop-number.run.run) c.loop-number.found (before.compared from shown)
    c.split_at.result.0.now c.is_apart.result here c.is_apart.ensures in
    found_first c.args.budget from first stuck lines (c.loop-number.number-index + 1) c.least_of-found.result
    (c.requires.rises (c.decides.ensures.rises c.if-decides.true)) (c.decides.ensures.some c.if-decides.true)
    (subst (FindsBefore c.args.budget from first stuck lines (c.loop-number.number-index + 1)) (sym c.least_of-found.ensures) finds)

pub loop-number-preserved : goal.loop-number-preserved
loop-number-preserved c =
    let before = c.loop-number.invariant in
    let takes = c.take_line.ensures in
    let first = watched c.args.net.now c.args.run.now.run in
    let new = watched c.take_line.new.net c.take_line.new.self.run in
    let stuck = c.args.run.now.run.stuck in
    let lines = c.args.lines.now in
    let line = c.loop-number-item.result in
    let here = c.split_at.ensures.front ∙ ap (λ (n : ℕ). take n c.loop-number.seen.now) c.asked_count.ensures in
    let later = c.split_at.ensures.back ∙ ap (λ (n : ℕ). drop n c.loop-number.seen.now) c.asked_count.ensures in
    let same = ap (λ (stuck : Option StuckFault). is_left_out stuck line.1) before.stuck in
    let rest = drop (c.loop-number.number-index + 1) lines in
    let split = drop_more lines c.loop-number.number-index line c.loop-number-test.true ∙ ap (λ (one : ℕ × VecLine). one ∷ rest) (sym c.loop-number-item.is) in
    let beside : c.loop-number.run.on ≡ true → IsBeside c.args.budget c.loop-number.net c.loop-number.run (line ∷ rest) =
    λ on. subst (IsBeside c.args.budget c.loop-number.net c.loop-number.run) split (before.beside on) in
    record {
      compared = λ from shown.
          let more =
          one_compared c.args.budget from first stuck lines c.args.net.now.nodes c.requires.within
          (sound_shown c.args.budget c.args.net.now.nodes from lines c.args.good.now.seen.items shown)
          (record { sound = sound_of c.args.net.now; same_nodes = refl; one_state = c.requires.ready.under_way.states }) c.loop-number.number-index line
          (omega arith)
          c.loop-number-item.is c.loop-number.seen.now (watched c.loop-number.net c.loop-number.run.run) c.loop-number.found (before.compared from shown) new
          c.split_at.result.0.now c.split_at.result.1.now c.is_apart.result here later c.is_apart.ensures (λ out. takes.left_out (same ∙ out))
          (λ counts. takes.taken line.0 rest beside (same ∙ counts)) in
          subst (AreCompared c.args.budget from first stuck lines (c.loop-number.number-index + 1) c.split_at.result.1.now new) (sym c.least_of-found.ensures)
          more;
      stuck = takes.stuck ∙ before.stuck;
      ready = takes.ready;
      beside = takes.beside line.0 rest beside;
      counted = omega (arith, takes.counted, before.counted);
      nodes = takes.nodes ∙ before.nodes;
      switches = takes.switches ∙ before.switches;
    }

pub returns-clause-finds : goal.returns-clause-finds
returns-clause-finds c = λ from shown.
    found_last c.args.budget from (watched c.args.net.now c.args.run.now.run) c.args.run.now.run.stuck c.args.lines.now c.loop-number.number-index
    c.loop-number.found
    (omega arith) (c.loop-number.invariant.compared from shown).finds
