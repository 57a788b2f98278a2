-- The lines of a report, cut at a phase and at what is shown behind it.
use Rattle.network_runs.proofs.Common.{◌≡◌, ℕ, ◌<◌, List, [], ◌∷◌, ◌++◌, refl, sym, ap, subst, ◌∙◌, All, ReportLine, Network, Settled, vector_line}
use Rattle.std.proofs.Common.{true, append_assoc}
use Rattle.std.specs.Prelude.{map}
use Rattle.std.proofs.lemmas.List.{map-append}
use Rattle.std.proofs.lemmas.List.Elements.{All-map}
use Rattle.switch_net.specs.declared.switches.Level.{Level}
use Rattle.switch_net.specs.Path.{is_input, state_of}
use Rattle.switch_net.specs.SimRecords.{AreStarts}
use Rattle.vector_files.specs.declared.files.VecLine.{VecLine}
use Rattle.vector_files.specs.declared.files.VecLine.TheVariants.{Phase, Show}
use Rattle.vector_runs.specs.declared.replies.VecReply.{VecReply}
use Rattle.vector_runs.specs.Laws.{IsShow, RunsBoth}
use Rattle.vector_runs.specs.Runs.{LinesRun, RunsPhase, Standing, begun_in, phase_reply, shown_in}
use Rattle.vector_runs.proofs.SplitRuns.{lines_keep, phase_keeps, settled_rests, shows_keep, split_run}
use Rattle.network_runs.specs.Headline.{ShowsSteadyValues}
use Rattle.network_runs.specs.Simulations.{TellsRun}

-- a line without its number
abbrev plain : ℕ × VecLine → VecLine
plain line = line.1

-- what is replied up to a phase and to the lines behind it
early_replies : (early told more one between : List VecReply) (reply : VecReply) → early ≡ told ++ more → more ≡ one ++ between →
    one ≡ reply ∷ [] → early ≡ told ++ reply ∷ between
early_replies early told more one between reply is_early is_more is_one = rw (is_early, is_more, is_one) refl

-- the lines of what is replied up to a phase and to the lines behind it
early_lines : (early told between : List VecReply) (reply : VecReply) → early ≡ told ++ reply ∷ between →
    map vector_line early ≡ map vector_line told ++ vector_line reply ∷ map vector_line between
early_lines early told between reply is = ap (map vector_line) is ∙ map-append vector_line told (reply ∷ between)

-- the lines of what is shown, and of what is replied behind that
late_lines : (late shown after : List VecReply) → late ≡ shown ++ after →
    map vector_line late ≡ map vector_line shown ++ map vector_line after
late_lines late shown after is = ap (map vector_line) is ∙ map-append vector_line shown after

-- the lines of all replies
all_lines : (replies early late : List VecReply) (front shown after : List ReportLine) → replies ≡ early ++ late →
    map vector_line early ≡ front → map vector_line late ≡ shown ++ after → map vector_line replies ≡ (front ++ shown) ++ after
all_lines replies early late front shown after whole is_early is_late =
    let parts : map vector_line replies ≡ map vector_line early ++ map vector_line late =
    ap (map vector_line) whole ∙ map-append vector_line early late in
    let first : map vector_line early ++ map vector_line late ≡ front ++ map vector_line late =
    ap (λ (one : List ReportLine). one ++ map vector_line late) is_early in
    let second : front ++ map vector_line late ≡ front ++ (shown ++ after) = ap (λ (one : List ReportLine). front ++ one) is_late in
    parts ∙ first ∙ second ∙ sym (append_assoc front shown after)

module _ (budget : ℕ) (net : Network) (names : List (List ℕ × ℕ)) (before since after : List (ℕ × VecLine)) (number other : ℕ)
    (asked : List (List ℕ × ℕ)) (lines : List ReportLine) where
  -- a run that is cut before the phase and before what is shown
  in_parts : (start : List Level) (last : Standing) (replies : List VecReply) → AreStarts net names start → lines ≡ map vector_line replies →
      All (λ (line : ℕ × VecLine). IsShow line.1) since →
      (late : RunsBoth budget (begun_in net start) (map plain (before ++ (number, Phase) ∷ since)) (Show asked ∷ map plain after) last replies) →
      RunsBoth budget (begun_in net start) (map plain before) (Phase ∷ map plain since) late.between late.first →
      ShowsSteadyValues budget net names before since number asked lines
  in_parts start last replies starts are shows late early =
      let ran = early.runs_second in
      let show = late.runs_second in
      let earlier = early.between in
      let settled = ran.between in
      let at = late.between in
      let phase = phase_reply settled.phases ran.runs.done ran.runs.steps in
      let only_show : All IsShow (map plain since) = All-map IsShow plain since shows in
      let kept : at ≡ settled = shows_keep budget (map plain since) settled at ran.others only_show ran.rest in
      let net_kept : at.net ≡ earlier.net = ap (λ (one : Standing). one.net) kept ∙ ran.runs.same_net in
      let same = lines_keep budget (map plain (before ++ (number, Phase) ∷ since)) (begun_in net start) at late.first late.runs_first in
      let is_early : late.first ≡ early.first ++ phase ∷ ran.others =
      early_replies late.first early.first early.second ran.first ran.others phase early.replied ran.replied ran.runs.replied in
      let is_late : late.second ≡ shown_in at.states asked ++ show.others =
      show.replied ∙ ap (λ (told : List VecReply). told ++ show.others) show.runs.1 in
      let front : map vector_line late.first ≡ map vector_line early.first ++ vector_line phase ∷ map vector_line ran.others =
      early_lines late.first early.first ran.others phase is_early in
      let back : map vector_line late.second ≡ map vector_line (shown_in at.states asked) ++ map vector_line show.others =
      late_lines late.second (shown_in at.states asked) show.others is_late in
      record {
        earlier = earlier;
        at = at;
        phase = phase;
        told = map vector_line early.first;
        between = map vector_line ran.others;
        later = map vector_line show.others;
        are = are ∙ all_lines replies late.first late.second (map vector_line early.first ++ vector_line phase ∷ map vector_line ran.others)
            (map vector_line (shown_in at.states asked)) (map vector_line show.others) late.replied front back;
        comes = record { start = start; starts = starts; replies = early.first; runs = early.runs_first; are = refl };
        goes_on = record {
          start = start;
          starts = starts;
          replies = late.first;
          runs = late.runs_first;
          are = sym front;
        };
        same_nodes = same.0;
        same_switches = same.1;
        at_rest = λ count steps is v below.
            let ran_so : RunsPhase budget earlier settled (Settled count steps ∷ []) =
            subst (RunsPhase budget earlier settled) (ran.runs.replied ∙ ap (λ (reply : VecReply). reply ∷ []) is) ran.runs in
            settled_rests budget count steps earlier settled at (map plain since) ran.others ran_so ran.rest only_show v
            (subst (λ (nodes : ℕ). v < nodes) (sym same.0) below);
        inputs = λ v below input.
            let within : v < earlier.net.nodes =
            subst (λ (one : Network). v < one.nodes) net_kept (subst (λ (nodes : ℕ). v < nodes) (sym same.0) below) in
            let is : is_input earlier.net v ≡ true = subst (λ (one : Network). is_input one v ≡ true) net_kept input in
            ap (λ (one : Standing). state_of one.states v) kept
            ∙ phase_keeps earlier.net v within is budget earlier.states settled.states ran.runs.done ran.runs.steps ran.runs.is_phase;
      }

  -- what a report shows behind a settled phase is steady
  pub shows_steady_values : TellsRun budget net names (record { lines = before ++ (number, Phase) ∷ since ++ (other, Show asked) ∷ after }) lines →
      All (λ (line : ℕ × VecLine). IsShow line.1) since → ShowsSteadyValues budget net names before since number asked lines
  shows_steady_values tells shows =
      let run = tells.is_run in
      let begun = begun_in net run.start in
      let until : List VecLine = map plain (before ++ (number, Phase) ∷ since) in
      let runs : LinesRun budget begun (until ++ Show asked ∷ map plain after) run.last tells.replies =
      subst (λ (all : List VecLine). LinesRun budget begun all run.last tells.replies)
      (map-append plain (before ++ (number, Phase) ∷ since) ((other, Show asked) ∷ after)) run.runs in
      let late = split_run budget until (Show asked ∷ map plain after) begun run.last tells.replies runs in
      let runs_first : LinesRun budget begun (map plain before ++ Phase ∷ map plain since) late.between late.first =
      subst (λ (all : List VecLine). LinesRun budget begun all late.between late.first)
      (map-append plain before ((number, Phase) ∷ since)) late.runs_first in
      let early = split_run budget (map plain before) (Phase ∷ map plain since) begun late.between late.first runs_first in
      in_parts run.start run.last tells.replies run.starts tells.are shows late early
