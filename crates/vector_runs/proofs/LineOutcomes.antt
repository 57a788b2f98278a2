-- What lines do: they have one outcome, and they keep a network sound.
use Rattle.vector_runs.proofs.Common.{◌≡◌, ℕ, List, [], ◌∷◌, ◌++◌, Bool, true, false, refl, sym, ap, subst, ◌∙◌, length, replicate, All, length-set}
use Rattle.vector_runs.proofs.Common.{All-head, All-tail, Level, Network, IsSound, IsPhase, VecLine, Set, Free, Size, Phase, Show, IsLineWithin}
use Rattle.vector_runs.proofs.Common.{VecReply, LineRuns, LinesRun, RunsPhase, Standing, phase_reply, with_input}
use Rattle.std.proofs.lemmas.List.Elements.{All-set}
use Rattle.switch_net.specs.Network.{IsSize}
use Rattle.switch_net.proofs.Forcing.{rounds_length}
use Rattle.switch_net.proofs.Phases.{one_phase, steps_length}
use Rattle.vector_runs.specs.Runs.{with_size}

-- a standing in a sound network of so many nodes, with a state for each
pub record IsSoundAt (nodes : ℕ) (at : Standing) : Type 0 where
  pub sound : IsSound at.net
  pub same_nodes : at.net.nodes ≡ nodes
  pub one_state : length at.states ≡ nodes

-- standings with the same network, states and count of phases are one
same_standing : (a b : Standing) → a.net ≡ b.net → a.states ≡ b.states → a.phases ≡ b.phases → a ≡ b
same_standing a b net states phases =
    let standing : Network → List Level → ℕ → Standing = λ n s k. record { net = n; states = s; phases = k } in
    ap (λ (n : Network). standing n a.states a.phases) net ∙ ap (λ (s : List Level). standing b.net s a.phases) states
    ∙ ap (λ (k : ℕ). standing b.net b.states k) phases

-- the states after a phase are as many as before
pub phase_length : (net : Network) (budget : ℕ) (s : List Level) (done : Bool) (n : ℕ) (t : List Level) → IsSound net →
    length s ≡ net.nodes → IsPhase net budget s done n t → length t ≡ net.nodes
phase_length net budget s true n t sound len ran = steps_length net sound s len n t ran.0.reached
phase_length net budget s false n t sound len ran =
    let forced = ran.2.forced in
    rounds_length net ran.1 (replicate net.nodes false) forced.forced ran.2.last t forced.reached ∙ steps_length net sound s len budget ran.2.last ran.2.reached

-- a network stays sound where a node becomes an input or stores charge
pub input_sound : (net : Network) (v : ℕ) (input : Bool) → IsSound net → IsSound (with_input net v input)
input_sound net v input sound = record {
  switches_within = sound.switches_within;
  one_size = sound.one_size;
  one_input = length-set net.inputs v input ∙ sound.one_input;
  sizes_in_range = sound.sizes_in_range;
}

-- and where a node has another size
pub size_sound : (net : Network) (v size : ℕ) → IsSize size → IsSound net → IsSound (with_size net v size)
size_sound net v size is_size sound = record {
  switches_within = sound.switches_within;
  one_size = length-set net.sizes v size ∙ sound.one_size;
  one_input = sound.one_input;
  sizes_in_range = All-set IsSize net.sizes v size is_size sound.sizes_in_range;
}

-- a line within the network leaves it sound
pub line_sound : (names : List (List ℕ × ℕ)) (nodes budget : ℕ) (old new : Standing) (line : VecLine) (told : List VecReply) →
    IsLineWithin names nodes line → IsSoundAt nodes old → LineRuns budget old line new told → IsSoundAt nodes new
line_sound names nodes budget old new (Set v x) told within at runs = subst (IsSoundAt nodes) (sym runs.0) (record {
  sound = input_sound old.net v true at.sound;
  same_nodes = at.same_nodes;
  one_state = length-set old.states v x ∙ at.one_state;
})
line_sound names nodes budget old new (Free v) told within at runs = subst (IsSoundAt nodes) (sym runs.0) (record {
  sound = input_sound old.net v false at.sound;
  same_nodes = at.same_nodes;
  one_state = at.one_state;
})
line_sound names nodes budget old new (Size v k) told within at runs = subst (IsSoundAt nodes) (sym runs.0) (record {
  sound = size_sound old.net v k within.1 at.sound;
  same_nodes = at.same_nodes;
  one_state = at.one_state;
})
line_sound names nodes budget old new Phase told within at runs =
    let same : new.net.nodes ≡ old.net.nodes = ap (λ (net : Network). net.nodes) runs.same_net in
    let len : length new.states ≡ old.net.nodes = phase_length old.net budget old.states runs.done runs.steps new.states at.sound
    (at.one_state ∙ sym at.same_nodes) runs.is_phase in
    record {
      sound = subst IsSound (sym runs.same_net) at.sound;
      same_nodes = same ∙ at.same_nodes;
      one_state = len ∙ at.same_nodes;
    }
line_sound names nodes budget old new (Show asked) told within at runs = subst (IsSoundAt nodes) (sym runs.0) at

-- two outcomes of a phase are one
same_phase : (budget : ℕ) (old new other : Standing) (told others : List VecReply) → IsSound old.net → length old.states ≡ old.net.nodes →
    RunsPhase budget old new told → RunsPhase budget old other others → (new ≡ other) × (told ≡ others)
same_phase budget old new other told others sound len a b =
    let same = one_phase old.net sound old.states len budget a.done b.done a.steps b.steps new.states other.states a.is_phase b.is_phase in
    let net : new.net ≡ other.net = a.same_net ∙ sym b.same_net in
    let states : new.states ≡ other.states = same.2 in
    let phases : new.phases ≡ other.phases = a.counted ∙ sym b.counted in
    let done : a.done ≡ b.done = same.0 in
    let steps : a.steps ≡ b.steps = same.1 in
    let reply : phase_reply new.phases a.done a.steps ≡ phase_reply other.phases b.done b.steps = rw (phases, done, steps) refl in
    let replies : told ≡ others = a.replied ∙ ap (λ (reply : VecReply). reply ∷ []) reply ∙ sym b.replied in
    (same_standing new other net states phases, replies)

-- two outcomes of a line are one
pub same_line : (budget : ℕ) (old new other : Standing) (line : VecLine) (told others : List VecReply) → IsSound old.net →
    length old.states ≡ old.net.nodes → LineRuns budget old line new told → LineRuns budget old line other others →
    (new ≡ other) × (told ≡ others)
same_line budget old new other (Set v x) told others sound len a b = (a.0 ∙ sym b.0, a.1 ∙ sym b.1)
same_line budget old new other (Free v) told others sound len a b = (a.0 ∙ sym b.0, a.1 ∙ sym b.1)
same_line budget old new other (Size v k) told others sound len a b = (a.0 ∙ sym b.0, a.1 ∙ sym b.1)
same_line budget old new other Phase told others sound len a b = same_phase budget old new other told others sound len a b
same_line budget old new other (Show asked) told others sound len a b = (a.0 ∙ sym b.0, a.1 ∙ sym b.1)

module _ (names : List (List ℕ × ℕ)) (nodes budget : ℕ) where
  -- lines within the network leave it sound
  pub lines_sound : (lines : List VecLine) (old new : Standing) (told : List VecReply) → All (IsLineWithin names nodes) lines →
      IsSoundAt nodes old → LinesRun budget old lines new told → IsSoundAt nodes new
  lines_sound [] old new told within at runs = subst (IsSoundAt nodes) (sym runs.0) at
  lines_sound (line ∷ lines) old new told within at runs =
      let here = All-head (IsLineWithin names nodes) line lines within in
      let first = line_sound names nodes budget old runs.between line runs.first here at runs.runs in
      lines_sound lines runs.between new runs.others (All-tail (IsLineWithin names nodes) line lines within) first runs.rest

  -- two outcomes of lines are one
  pub same_lines : (lines : List VecLine) (old new other : Standing) (told others : List VecReply) → All (IsLineWithin names nodes) lines →
      IsSoundAt nodes old → LinesRun budget old lines new told → LinesRun budget old lines other others → told ≡ others
  same_lines [] old new other told others within at a b = a.1 ∙ sym b.1
  same_lines (line ∷ lines) old new other told others within at a b =
      let here = All-head (IsLineWithin names nodes) line lines within in
      let first = line_sound names nodes budget old a.between line a.first here at a.runs in
      let same = same_line budget old a.between b.between line a.first b.first at.sound (at.one_state ∙ sym at.same_nodes) a.runs b.runs in
      let rest : LinesRun budget a.between lines other b.others =
      subst (λ (mid : Standing). LinesRun budget mid lines other b.others) (sym same.0) b.rest in
      let later : a.others ≡ b.others =
      same_lines lines a.between new other a.others b.others (All-tail (IsLineWithin names nodes) line lines within) first a.rest rest in
      let front : a.first ≡ b.first = same.1 in
      a.replied ∙ ap (λ (more : List VecReply). more ++ a.others) front ∙ ap (λ (more : List VecReply). b.first ++ more) later
      ∙ sym b.replied
