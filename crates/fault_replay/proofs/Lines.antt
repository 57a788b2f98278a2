-- Lines that are no phases, in two runs beside each other.
use Rattle.fault_replay.proofs.Common.{◌≡◌, ◌≢◌, ◌==◌, ℕ, ◌<◌, List, ◌∷◌, Bool, true, false, inl, inr, refl, sym, ap, subst, ◌∙◌, arith, slice_set}
use Rattle.fault_replay.proofs.Common.{cases_Bool, cases_eq, eq-eqb, eqb-true, false≢true, get_or-set_other, get_or-set_same, length-set, Level, X}
use Rattle.fault_replay.proofs.Common.{IsSound, Network, is_input, state_of, IsInside, VecLine, Set, Free, Size, Phase, Show, with_input, with_size}
use Rattle.fault_replay.proofs.Common.{PhaseRecord, IsAlong, Records}
use Rattle.switch_net.specs.Network.{IsSize}
use Rattle.vector_runs.specs.declared.replies.VecReply.{VecReply}
use Rattle.vector_runs.specs.Running.{FitsNodes}
use Rattle.vector_runs.specs.Runs.{LineRuns, Standing}
use Rattle.vector_runs.specs.Watching.{LineIsTaken, Watched, is_of}
use Rattle.vector_runs.proofs.LineOutcomes.{input_sound, size_sound}
use Rattle.fault_replay.specs.Replays.{AreAlikeBut, states_after}
use Rattle.fault_replay.proofs.ChangedStates.{set_both}

-- equal tests tell equal numbers apart
apart : (v held : ℕ) → (v == held) ≡ false → v ≢ held
apart v held other e = false≢true (sym other ∙ eq-eqb v held e)

-- ---- networks that are alike but for a node

module _ (held : ℕ) (good net : Network) (alike : AreAlikeBut held good net) where
  -- the held node becomes an input of one of them, or stores charge there
  input_unlike : (input : Bool) → AreAlikeBut held (with_input good held input) net
  input_unlike input = record {
    nodes = alike.nodes;
    switches = alike.switches;
    inputs = λ u ne. get_or-set_other good.inputs held u input false ne ∙ alike.inputs u ne;
    sizes = alike.sizes;
  }

  -- or has another size there
  size_unlike : (size : ℕ) → AreAlikeBut held (with_size good held size) net
  size_unlike size = record {
    nodes = alike.nodes;
    switches = alike.switches;
    inputs = alike.inputs;
    sizes = λ u ne. get_or-set_other good.sizes held u size 0 ne ∙ alike.sizes u ne;
  }

  -- any node does so in both
  input_alike : IsSound good → IsSound net → (v : ℕ) (input : Bool) → AreAlikeBut held (with_input good v input) (with_input net v input)
  input_alike sound sound' v input = record {
    nodes = alike.nodes;
    switches = alike.switches;
    inputs = λ u ne. set_both good.inputs net.inputs v u input false (sound.one_input ∙ sym alike.nodes ∙ sym sound'.one_input) (alike.inputs u ne);
    sizes = alike.sizes;
  }

  size_alike : IsSound good → IsSound net → (v size : ℕ) → AreAlikeBut held (with_size good v size) (with_size net v size)
  size_alike sound sound' v size = record {
    nodes = alike.nodes;
    switches = alike.switches;
    inputs = alike.inputs;
    sizes = λ u ne. set_both good.sizes net.sizes v u size 0 (sound.one_size ∙ sym alike.nodes ∙ sym sound'.one_size) (alike.sizes u ne);
  }

-- ---- lines

module _ (good net : Network) (held : ℕ) (s t : List Level) (told new : List Bool) (sound : IsSound net) (along : IsAlong good net held s t told)
    (grown : (v : ℕ) → IsInside told v → IsInside new v) where
  -- the run without the fault sets the held node
  set_held : (x : Level) → IsInside new held → IsAlong (with_input good held true) net held (slice_set s held x) t new
  set_held x here = record {
    sound = input_sound good held true along.sound;
    alike = input_unlike held good net along.alike true;
    good_states = length-set s held x ∙ along.good_states;
    states = along.states;
    is_held = along.is_held;
    inputs = λ u ne input. get_or-set_other s held u x X ne ∙ along.inputs u ne input;
    covers = λ u differ. elim (cases_eq u held) [
      | inl e ↦ subst (IsInside new) (sym e) here
      | inr ne ↦ grown u (along.covers u (λ same. differ (get_or-set_other s held u x X ne ∙ same)))
    ];
  }

  -- frees it
  free_held : IsAlong (with_input good held false) net held s t new
  free_held = record {
    sound = input_sound good held false along.sound;
    alike = input_unlike held good net along.alike false;
    good_states = along.good_states;
    states = along.states;
    is_held = along.is_held;
    inputs = along.inputs;
    covers = λ u differ. grown u (along.covers u differ);
  }

  -- gives it a size
  size_held : (size : ℕ) → IsSize size → IsAlong (with_size good held size) net held s t new
  size_held size is_size = record {
    sound = size_sound good held size is_size along.sound;
    alike = size_unlike held good net along.alike size;
    good_states = along.good_states;
    states = along.states;
    is_held = along.is_held;
    inputs = along.inputs;
    covers = λ u differ. grown u (along.covers u differ);
  }

  -- both set a node
  set_along : (v : ℕ) (x : Level) → v < net.nodes → v ≢ held
      → IsAlong (with_input good v true) (with_input net v true) held (slice_set s v x) (slice_set t v x) new
  set_along v x below ne = record {
    sound = input_sound good v true along.sound;
    alike = input_alike held good net along.alike along.sound sound v true;
    good_states = length-set s v x ∙ along.good_states;
    states = length-set t v x ∙ along.states;
    is_held = get_or-set_other net.inputs v held true false (λ e. ne (sym e)) ∙ along.is_held;
    inputs = λ u other input. elim (cases_eq u v) [
      | inl e ↦ rw e both
      | inr not_v ↦ get_or-set_other s v u x X not_v
          ∙ along.inputs u other (sym (get_or-set_other net.inputs v u true false not_v) ∙ input) ∙ sym (get_or-set_other t v u x X not_v)
    ];
    covers = λ u differ. elim (cases_eq u v) [
      | inl e ↦ absurd (differ (rw e both))
      | inr not_v ↦ grown u (along.covers u (λ same. differ (get_or-set_other s v u x X not_v ∙ same ∙ sym (get_or-set_other t v u x X not_v))))
    ];
  }
    where
      both : state_of (slice_set s v x) v ≡ state_of (slice_set t v x) v
      both = get_or-set_same s v x X (omega (arith, below, along.good_states)) ∙ sym (get_or-set_same t v x X (omega (arith, below, along.states)))

  -- free one
  free_along : (v : ℕ) → v < net.nodes → v ≢ held → IsAlong (with_input good v false) (with_input net v false) held s t new
  free_along v below ne = record {
    sound = input_sound good v false along.sound;
    alike = input_alike held good net along.alike along.sound sound v false;
    good_states = along.good_states;
    states = along.states;
    is_held = get_or-set_other net.inputs v held false false (λ e. ne (sym e)) ∙ along.is_held;
    inputs = λ u other input. elim (cases_eq u v) [
      | inl e ↦ (
          let freed : is_input (with_input net v false) v ≡ false = get_or-set_same net.inputs v false false (omega (arith, below, sound.one_input)) in
          absurd (false≢true (sym freed ∙ subst (λ (w : ℕ). is_input (with_input net v false) w ≡ true) e input)))
      | inr not_v ↦ along.inputs u other (sym (get_or-set_other net.inputs v u false false not_v) ∙ input)
    ];
    covers = λ u differ. grown u (along.covers u differ);
  }

  -- give one a size
  size_along : (v size : ℕ) → IsSize size → IsAlong (with_size good v size) (with_size net v size) held s t new
  size_along v size is_size = record {
    sound = size_sound good v size is_size along.sound;
    alike = size_alike held good net along.alike along.sound sound v size;
    good_states = along.good_states;
    states = along.states;
    is_held = along.is_held;
    inputs = along.inputs;
    covers = λ u differ. grown u (along.covers u differ);
  }

  -- more nodes are told
  more_told : IsAlong good net held s t new
  more_told = record {
    sound = along.sound;
    alike = along.alike;
    good_states = along.good_states;
    states = along.states;
    is_held = along.is_held;
    inputs = along.inputs;
    covers = λ u differ. grown u (along.covers u differ);
  }

-- Both runs stand beside each other behind a line, and other lines are recorded from there on.
pub record StandsBehind (budget : ℕ) (net : Network) (held : ℕ) (s t : List Level) (told : List Bool) (rest : List (ℕ × VecLine))
    (phases : List PhaseRecord) : Type 0 where
  pub good : Network
  pub along : IsAlong good net held s t told
  pub records : Records budget good s rest phases

module _ (budget : ℕ) (good : Network) (old new : Standing) (held number : ℕ) (s : List Level) (told more : List Bool) (rest : List (ℕ × VecLine))
    (phases : List PhaseRecord) (sound : IsSound old.net) (along : IsAlong good old.net held s old.states told)
    (grown : (v : ℕ) → IsInside told v → IsInside more v) where
  -- a line of the held node, which the run with the fault leaves out
  left_behind : (line : VecLine) → line ≢ Phase → FitsNodes old.net.nodes line → ((x : Level) → line ≡ Set held x → IsInside more held)
      → is_of held line ≡ true → new ≡ old → Records budget good s ((number, line) ∷ rest) phases
      → StandsBehind budget new.net held (states_after line s) new.states more rest phases
  left_behind line other within here out same records =
      subst (λ (at : Standing). StandsBehind budget at.net held (states_after line s) at.states more rest phases) (sym same)
      (by line other within here out records)
    where
      by : (line : VecLine) → line ≢ Phase → FitsNodes old.net.nodes line → ((x : Level) → line ≡ Set held x → IsInside more held)
          → is_of held line ≡ true → Records budget good s ((number, line) ∷ rest) phases
          → StandsBehind budget old.net held (states_after line s) old.states more rest phases
      by (Set v x) other within here out records =
          let e : v ≡ held = eqb-true v held out in
          record {
            good = with_input good v true;
            along = rw e (set_held good old.net held s old.states told more sound along grown x (here x (ap (λ (w : ℕ). Set w x) e)));
            records = records;
          }
      by (Free v) other within here out records =
          let e : v ≡ held = eqb-true v held out in
          record { good = with_input good v false; along = rw e (free_held good old.net held s old.states told more sound along grown); records = records }
      by (Size v k) other within here out records =
          let e : v ≡ held = eqb-true v held out in
          record {
            good = with_size good v k;
            along = rw e (size_held good old.net held s old.states told more sound along grown k within.1);
            records = records;
          }
      by Phase other within here out records = absurd (other refl)
      by (Show asked) other within here out records = absurd (false≢true out)

  -- any other line
  taken_behind : (line : VecLine) (told_of : List VecReply) → line ≢ Phase → FitsNodes old.net.nodes line → is_of held line ≡ false
      → LineRuns budget old line new told_of
      → Records budget good s ((number, line) ∷ rest) phases → StandsBehind budget new.net held (states_after line s) new.states more rest phases
  taken_behind (Set v x) told_of other within counts runs records =
      subst (λ (at : Standing). StandsBehind budget at.net held (slice_set s v x) at.states more rest phases) (sym runs.0) (record {
        good = with_input good v true;
        along = set_along good old.net held s old.states told more sound along grown v x within (apart v held counts);
        records = records;
      })
  taken_behind (Free v) told_of other within counts runs records =
      subst (λ (at : Standing). StandsBehind budget at.net held s at.states more rest phases) (sym runs.0) (record {
        good = with_input good v false;
        along = free_along good old.net held s old.states told more sound along grown v within (apart v held counts);
        records = records;
      })
  taken_behind (Size v k) told_of other within counts runs records =
      subst (λ (at : Standing). StandsBehind budget at.net held s at.states more rest phases) (sym runs.0) (record {
        good = with_size good v k;
        along = size_along good old.net held s old.states told more sound along grown v k within.1;
        records = records;
      })
  taken_behind Phase told_of other within counts runs records = absurd (other refl)
  taken_behind (Show asked) told_of other within counts runs records =
      subst (λ (at : Standing). StandsBehind budget at.net held s at.states more rest phases) (sym runs.0) (record {
        good = good;
        along = more_told good old.net held s old.states told more sound along grown;
        records = records;
      })

-- a line is of the held node or not
pub line_behind : (budget : ℕ) (good : Network) (old new : Watched) (held number : ℕ) (s : List Level) (told more : List Bool) (rest : List (ℕ × VecLine))
    (phases : List PhaseRecord) (line : VecLine) → IsSound old.at.net → IsAlong good old.at.net held s old.at.states told
    → ((v : ℕ) → IsInside told v → IsInside more v) → line ≢ Phase → FitsNodes old.at.net.nodes line
    → ((x : Level) → line ≡ Set held x → IsInside more held) → (is_of held line ≡ true → new ≡ old)
    → (is_of held line ≡ false → LineIsTaken budget old line new) → Records budget good s ((number, line) ∷ rest) phases
    → StandsBehind budget new.at.net held (states_after line s) new.at.states more rest phases
line_behind budget good old new held number s told more rest phases line sound along grown other within here left taken records =
    elim (cases_Bool (is_of held line)) [
      | inl out ↦ left_behind budget good old.at new.at held number s told more rest phases sound along grown line other within here out
          (ap (λ (w : Watched). w.at) (left out)) records
      | inr counts ↦ (let is = taken counts in
          taken_behind budget good old.at new.at held number s told more rest phases sound along grown line is.replies other within counts is.runs records)
    ]
