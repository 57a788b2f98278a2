-- How a run goes on from line to line.
use Rattle.session_model.proofs.Common.{◌≡◌, ◌+◌, inl, inr, ℕ, Bool, false, List, [], ◌∷◌, ◌++◌, length, Some, refl, sym, ◌∙◌, ap, subst}
use Rattle.session_model.proofs.Common.{append_assoc, append-nil, take, drop, arith, Result, Ok, Err, OnErr, CallPlan, Files, Store, ReportLine}
use Rattle.session_model.proofs.Common.{Effect, after_fetches, state_after, with_stores, BeginsNext, DoesPart, IsPrefixOf, Progress, is_told}
use Rattle.session_model.proofs.Common.{report_of, Act, LinesMean, acts_of, fetched_in, lines_in, stores_in}
use Rattle.std.proofs.Common.{◌||◌, Option}
use Rattle.std.proofs.Common.{take-append-drop, length-append}
use Rattle.std.proofs.lemmas.List.Folds.{list_any-append}
use Rattle.outside_io.specs.ToldBytes.{AppendsPrefix, ToldBytes, with_back}
use Rattle.session_model.specs.Reports.{tells}
use Rattle.session_model.proofs.EffectLaws.{fetched_and_last, fetches-append, files_and_last, lines_and_last, lines_and_one, report_of-append, report_of-nothing, state_and_last}
use Rattle.session_model.proofs.StoreLaws.{StoresSome-weaker}

-- The lines of a script up to a number were run, which did this, and these are left.
pub record UnderWay {State : Type 0} (Means : ℕ → State → Files → List ℕ → Effect State → Type 0) (quiet : Bool)
    (first : State) (files : Files) (before : List ℕ) (plan now_plan : Option CallPlan) (lines : List (List ℕ))
    (state : State) (told_files : Option Files) (written : ToldBytes) (number : ℕ) (told : Bool) (left : List (List ℕ)) : Type 0 where
  pub past : List (List ℕ)
  pub split : lines ≡ past ++ left
  pub count : length past ≡ number
  pub done : List (Effect State)
  pub means : LinesMean Means 1 first files past done
  pub state_is : state_after first done ≡ state
  pub files_are : told_files ≡ Some (with_stores files (stores_in (acts_of done)))
  pub reported : written ≡ Some (before ++ report_of quiet (lines_in (acts_of done)))
  pub tells : told ≡ is_told (lines_in (acts_of done))
  pub asked : now_plan ≡ after_fetches plan (fetched_in (acts_of done))

-- before the first line
pub under_way_start : {State : Type 0} (Means : ℕ → State → Files → List ℕ → Effect State → Type 0) (quiet : Bool)
    (first : State) (files : Files) (before : List ℕ) (plan : Option CallPlan) (lines : List (List ℕ)) (told_files : Option Files) (written : ToldBytes)
    → written ≡ Some before → told_files ≡ Some files
    → (way : UnderWay Means quiet first files before plan plan lines first told_files written 0 false lines) × (way.done ≡ [])
under_way_start Means quiet first files before plan lines told_files written told there = (
  record {
    past = [];
    split = refl;
    count = refl;
    done = [];
    means = refl;
    state_is = refl;
    files_are = there;
    reported = told ∙ ap (λ (xs : List ℕ). Some xs) (sym (append-nil before) ∙ ap (λ (xs : List ℕ). before ++ xs) (sym (report_of-nothing quiet)));
    tells = refl;
    asked = refl;
  },
  refl,
)

-- after one more line
pub under_way_next : {State : Type 0} (Means : ℕ → State → Files → List ℕ → Effect State → Type 0) (quiet : Bool)
    (first : State) (files : Files) (before : List ℕ) (plan now_plan next_plan : Option CallPlan) (lines : List (List ℕ))
    (state after : State) (told_files files_after : Option Files) (written later : ToldBytes) (number : ℕ) (told more : Bool) (line : List ℕ)
    (left : List (List ℕ))
    → (way : UnderWay Means quiet first files before plan now_plan lines state told_files written number told (line ∷ left))
    → (effect : Effect State) → Means (number + 1) state (with_stores files (stores_in (acts_of way.done))) line effect → effect.state ≡ after
    → later ≡ Some ((before ++ report_of quiet (lines_in (acts_of way.done))) ++ report_of quiet effect.lines)
    → files_after ≡ Some (with_stores (with_stores files (stores_in (acts_of way.done))) effect.stores)
    → more ≡ is_told effect.lines → next_plan ≡ after_fetches now_plan effect.fetched
    → (after_way : UnderWay Means quiet first files before plan next_plan lines after files_after later (number + 1) (told || more) left)
    × (after_way.done ≡ way.done ++ effect ∷ [])
under_way_next {State} Means quiet first files before plan now_plan next_plan lines state after told_files files_after written later number told more line
    left way effect means ends is stored also fetched =
    let done = way.done in
    let so_far = lines_in (acts_of done) in
    let here = subst (λ (s : State). Means (number + 1) s (with_stores files (stores_in (acts_of done))) line effect) (sym way.state_is) means in
    let number_is : number + 1 ≡ 1 + length way.past = omega (arith, way.count) in
    let numbered = subst (λ (n : ℕ). Means n (state_after first done) (with_stores files (stores_in (acts_of done))) line effect) number_is here in (
      record {
        past = way.past ++ line ∷ [];
        split = way.split ∙ sym (append_assoc way.past (line ∷ []) left);
        count = simp length-append (omega (arith, way.count));
        done = done ++ effect ∷ [];
        means = lines_and_one Means 1 first files way.past line done effect way.means numbered;
        state_is = state_and_last first done effect ∙ ends;
        files_are = stored ∙ ap (λ (f : Files). Some f) (sym (files_and_last files done effect));
        reported = is ∙ ap (λ (xs : List ℕ). Some xs) (append_assoc before (report_of quiet so_far) (report_of quiet effect.lines)
            ∙ ap (λ (xs : List ℕ). before ++ xs) (sym (ap (report_of quiet) (lines_and_last done effect) ∙ report_of-append quiet so_far effect.lines)));
        tells = ap (λ (b : Bool). b || more) way.tells ∙ ap (λ (b : Bool). is_told so_far || b) also
            ∙ sym (ap is_told (lines_and_last done effect) ∙ list_any-append (λ (one : ReportLine). tells one.kind) so_far effect.lines);
        asked = fetched ∙ ap (λ (p : Option CallPlan). after_fetches p effect.fetched) way.asked
            ∙ sym (ap (after_fetches plan) (fetched_and_last done effect) ∙ fetches-append plan (fetched_in (acts_of done)) effect.fetched);
      },
      refl,
    )

-- a part of a line is done, and a line is begun, whatever it means that a store failed
pub DoesPart-weaker : (quiet : Bool) (Fails Others : Type 0) → (Fails → Others) → (files : Files) (lines : List ReportLine) (stores : List Store)
    (front : List ℕ) (after : Files) → DoesPart quiet Fails files lines stores front after → DoesPart quiet Others files lines stores front after
DoesPart-weaker quiet Fails Others weaker files lines stores front after (inl (nothing, some)) =
    inl (nothing, StoresSome-weaker Fails Others weaker files stores after some)
DoesPart-weaker quiet Fails Others weaker files lines stores front after (inr begun) = inr begun

pub BeginsNext-weaker : {State : Type 0} (Means : ℕ → State → Files → List ℕ → Effect State → Type 0) (quiet : Bool) (Fails Others : Type 0)
    → (Fails → Others) → (number : ℕ) (state : State) (files : Files) (left : List (List ℕ)) (front : List ℕ) (after : Files)
    → BeginsNext Means quiet Fails number state files left front after → BeginsNext Means quiet Others number state files left front after
BeginsNext-weaker Means quiet Fails Others weaker number state files [] front after nothing = nothing
BeginsNext-weaker Means quiet Fails Others weaker number state files (line ∷ left) front after (inl nothing) = inl nothing
BeginsNext-weaker Means quiet Fails Others weaker number state files (line ∷ left) front after (inr (effect, means, part)) =
    inr (effect, means, DoesPart-weaker quiet Fails Others weaker files effect.lines effect.stores front after part)

-- what lines mean, and how far a run came, whatever it means more of each line
pub LinesMean-weaker : {State : Type 0} (Seen Means : ℕ → State → Files → List ℕ → Effect State → Type 0)
    → ((number : ℕ) (state : State) (files : Files) (line : List ℕ) (effect : Effect State) → Seen number state files line effect
    → Means number state files line effect)
    → (number : ℕ) (state : State) (files : Files) (lines : List (List ℕ)) (effects : List (Effect State))
    → LinesMean Seen number state files lines effects → LinesMean Means number state files lines effects
LinesMean-weaker Seen Means weaker number state files [] effects none = none
LinesMean-weaker Seen Means weaker number state files (line ∷ lines) effects (first, rest, are, seen, others) = (
  first,
  rest,
  are,
  weaker number state files line first seen,
  LinesMean-weaker Seen Means weaker (number + 1) first.state (with_stores files first.stores) lines rest others,
)

BeginsNext-means : {State : Type 0} (Seen Means : ℕ → State → Files → List ℕ → Effect State → Type 0)
    → ((number : ℕ) (state : State) (files : Files) (line : List ℕ) (effect : Effect State) → Seen number state files line effect
    → Means number state files line effect)
    → (quiet : Bool) (Fails : Type 0) (number : ℕ) (state : State) (files : Files) (left : List (List ℕ)) (front : List ℕ) (after : Files)
    → BeginsNext Seen quiet Fails number state files left front after → BeginsNext Means quiet Fails number state files left front after
BeginsNext-means Seen Means weaker quiet Fails number state files [] front after nothing = nothing
BeginsNext-means Seen Means weaker quiet Fails number state files (line ∷ left) front after (inl nothing) = inl nothing
BeginsNext-means Seen Means weaker quiet Fails number state files (line ∷ left) front after (inr (effect, seen, part)) =
    inr (effect, weaker number state files line effect seen, part)

pub Progress-weaker : {State : Type 0} (Seen Means : ℕ → State → Files → List ℕ → Effect State → Type 0)
    → ((number : ℕ) (state : State) (files : Files) (line : List ℕ) (effect : Effect State) → Seen number state files line effect
    → Means number state files line effect)
    → (quiet : Bool) (Fails Others : Type 0) → (Fails → Others) → (first : State) (files : Files) (lines : List (List ℕ)) (report : List ℕ) (after : Files)
    → Progress Seen quiet Fails first files lines report after → Progress Means quiet Others first files lines report after
Progress-weaker Seen Means weaker quiet Fails Others fails first files lines report after way = record {
  past = way.past;
  left = way.left;
  split = way.split;
  done = way.done;
  means = LinesMean-weaker Seen Means weaker 1 first files way.past way.done way.means;
  front = way.front;
  next = BeginsNext-weaker Means quiet Fails Others fails (1 + length way.past) (state_after first way.done)
      (with_stores files (stores_in (acts_of way.done))) way.left way.front after
      (BeginsNext-means Seen Means weaker quiet Fails (1 + length way.past) (state_after first way.done)
      (with_stores files (stores_in (acts_of way.done))) way.left way.front after way.next);
  reported = way.reported;
}

-- a line that stops is how far the run came
pub progress_in_line : {State : Type 0} (Means : ℕ → State → Files → List ℕ → Effect State → Type 0) (quiet : Bool) (Fails : Type 0)
    (first : State) (files : Files) (before : List ℕ) (plan now_plan : Option CallPlan) (lines : List (List ℕ))
    (state : State) (told_files files_after : Option Files) (written later : ToldBytes) (number : ℕ) (told : Bool) (line : List ℕ) (left : List (List ℕ))
    → (way : UnderWay Means quiet first files before plan now_plan lines state told_files written number told (line ∷ left))
    → (front : List ℕ) (after : Files)
    → BeginsNext Means quiet Fails (number + 1) state (with_stores files (stores_in (acts_of way.done))) (line ∷ []) front after
    → later ≡ Some ((before ++ report_of quiet (lines_in (acts_of way.done))) ++ front) → files_after ≡ Some after
    → (reported : List ℕ) × (at : Files) × Progress Means quiet Fails first files lines reported at × (later ≡ Some (before ++ reported))
    × (files_after ≡ Some at)
progress_in_line {State} Means quiet Fails first files before plan now_plan lines state told_files files_after written later number told line left way front
    after next is stored =
    let number_is : number + 1 ≡ 1 + length way.past = omega (arith, way.count) in
    let here = subst (λ (s : State). BeginsNext Means quiet Fails (number + 1) s (with_stores files (stores_in (acts_of way.done))) (line ∷ []) front after)
    (sym way.state_is) next in
    let numbered = subst (λ (n : ℕ). BeginsNext Means quiet Fails n (state_after first way.done) (with_stores files (stores_in (acts_of way.done)))
    (line ∷ []) front after) number_is here in (
      report_of quiet (lines_in (acts_of way.done)) ++ front,
      after,
      record {
        past = way.past;
        left = line ∷ left;
        split = way.split;
        done = way.done;
        means = way.means;
        front = front;
        next = numbered;
        reported = refl;
      },
      is ∙ ap (λ (xs : List ℕ). Some xs) (append_assoc before (report_of quiet (lines_in (acts_of way.done))) front),
      stored,
    )

-- after the last line all is done
pub progress_at_end : {State : Type 0} (Means : ℕ → State → Files → List ℕ → Effect State → Type 0) (quiet : Bool) (Fails : Type 0)
    (first : State) (files : Files) (before : List ℕ) (plan now_plan : Option CallPlan) (lines : List (List ℕ))
    (state : State) (told_files : Option Files) (written : ToldBytes) (number : ℕ) (told : Bool)
    → UnderWay Means quiet first files before plan now_plan lines state told_files written number told []
    → (reported : List ℕ) × (at : Files) × Progress Means quiet Fails first files lines reported at × (written ≡ Some (before ++ reported))
    × (told_files ≡ Some at)
progress_at_end Means quiet Fails first files before plan now_plan lines state told_files written number told way = (
  report_of quiet (lines_in (acts_of way.done)),
  with_stores files (stores_in (acts_of way.done)),
  record {
    past = way.past;
    left = [];
    split = way.split;
    done = way.done;
    means = way.means;
    front = [];
    next = (refl, refl);
    reported = sym (append-nil (report_of quiet (lines_in (acts_of way.done))));
  },
  way.reported,
  way.files_are,
)

-- after the last line the effect is that of the whole script
pub done_at_end : {State : Type 0} (Means : ℕ → State → Files → List ℕ → Effect State → Type 0) (quiet : Bool)
    (first : State) (files : Files) (before : List ℕ) (plan now_plan : Option CallPlan) (lines : List (List ℕ))
    (state : State) (told_files : Option Files) (written : ToldBytes) (number : ℕ) (told : Bool) (Came : List Act → Type 0)
    → (way : UnderWay Means quiet first files before plan now_plan lines state told_files written number told []) → Came (acts_of way.done)
    → (effects : List (Effect State)) × LinesMean Means 1 first files lines effects
    × (written ≡ Some (before ++ report_of quiet (lines_in (acts_of effects)))) × (told_files ≡ Some (with_stores files (stores_in (acts_of effects))))
    × (told ≡ is_told (lines_in (acts_of effects))) × (now_plan ≡ after_fetches plan (fetched_in (acts_of effects))) × Came (acts_of effects)
done_at_end Means quiet first files before plan now_plan lines state told_files written number told Came way came = (
  way.done,
  subst (λ (all : List (List ℕ)). LinesMean Means 1 first files all way.done) (sym (way.split ∙ append-nil way.past)) way.means,
  way.reported,
  way.files_are,
  way.tells,
  way.asked,
  came,
)

-- what a sink has of a text after a refusal is the beginning of it
pub begun_by_prefix : (old new : ToldBytes) (before text : List ℕ) → old ≡ Some before → AppendsPrefix old new text
    → (front : List ℕ) × IsPrefixOf front text × (new ≡ Some (before ++ front))
begun_by_prefix old new before text told prefix =
    let front = take prefix.0 text in
    (front, (drop prefix.0 text, sym (take-append-drop prefix.0 text)), prefix.1 ∙ ap (λ (t : ToldBytes). with_back t front) told)

-- what holds, holds after an error
pub on_err-given : {T E P : Type 0} → (result : Result T E) → P → OnErr result P
on_err-given (Ok value) holds = tt
on_err-given (Err fault) holds = holds
