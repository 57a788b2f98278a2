-- Watched runs: they grow by a line, and have one outcome.
use Rattle.vector_runs.proofs.Common.{◌≡◌, ℕ, ◌+◌, ◌<◌, List, [], ◌∷◌, ◌++◌, Bool, true, false, inl, inr, refl, sym, ap, subst, ◌∙◌, length, get_or}
use Rattle.vector_runs.proofs.Common.{take, append_assoc, All, Some, None, cases_Bool, false≢true, append-nil, length-set, take_more, All-head}
use Rattle.vector_runs.proofs.Common.{All-tail, Level, Network, IsSound, VecLine, Set, Free, Size, Phase, Show, Vectors, IsLineWithin, VecReply}
use Rattle.vector_runs.proofs.Common.{StuckFault, Seen, RunsPhase, Standing, phase_reply, shown_in, LinesShow, counting, is_left_out}
use Rattle.std.specs.Prelude.{Option, not}
use Rattle.std.proofs.lemmas.List.Elements.{All-filter, filter-append}
use Rattle.vector_runs.specs.Running.{FitsNodes}
use Rattle.vector_runs.specs.Watching.{AreSeen, LineIsTaken, Watched, begun_with, is_of, seen_in, settled_after}
use Rattle.vector_runs.proofs.LineOutcomes.{IsSoundAt, input_sound, line_sound, same_line}
use Rattle.vector_runs.proofs.Starts.{same_starts}

-- a phase is taken, and then it is known whether it settled
phase_settled : (number steps : ℕ) (done before : Bool) → done ≡ settled_after Phase (phase_reply number done steps ∷ []) before
phase_settled number steps true before = refl
phase_settled number steps false before = refl

pub phase_taken : (budget : ℕ) (old new : Watched) (line : VecLine) (done : Bool) (steps : ℕ) → line ≡ Phase →
    RunsPhase budget old.at new.at (phase_reply new.at.phases done steps ∷ []) → new.settled ≡ done → LineIsTaken budget old line new
phase_taken budget old new line done steps is runs settled = subst (λ (line : VecLine). LineIsTaken budget old line new) (sym is) (record {
  replies = phase_reply new.at.phases done steps ∷ [];
  runs = runs;
  settled = settled ∙ phase_settled new.at.phases steps done old.settled;
})

-- a line that shows leaves a run where it stands
pub show_taken : (budget : ℕ) (old : Watched) (line : VecLine) (asked : List (List ℕ × ℕ)) → line ≡ Show asked → LineIsTaken budget old line old
show_taken budget old line asked is = subst (λ (line : VecLine). LineIsTaken budget old line old) (sym is) (record {
  replies = shown_in old.at.states asked;
  runs = (refl, refl);
  settled = refl;
})

-- the lines that count, of two lists
pub counting-append : (stuck : Option StuckFault) (lines others : List (ℕ × VecLine))
    → counting stuck (lines ++ others) ≡ counting stuck lines ++ counting stuck others
counting-append None lines others = refl
counting-append (Some fault) lines others = filter-append (λ (line : ℕ × VecLine). not (is_of fault.node line.1)) lines others

-- lines are taken, and then others
pub shown_both : (budget : ℕ) (lines others : List (ℕ × VecLine)) (old mid new : Watched) (shown more : List Seen) →
    LinesShow budget old lines mid shown → LinesShow budget mid others new more → LinesShow budget old (lines ++ others) new (shown ++ more)
shown_both budget [] others old mid new shown more first second =
    let here = subst (λ (at : Watched). LinesShow budget at others new more) first.0 second in
    subst (λ (seen : List Seen). LinesShow budget old others new (seen ++ more)) (sym first.1) here
shown_both budget (line ∷ lines) others old mid new shown more first second = record {
  between = first.between;
  later = first.later ++ more;
  takes = first.takes;
  rest = shown_both budget lines others first.between mid new first.later more first.rest second;
  shows = ap (λ (seen : List Seen). seen ++ more) first.shows ∙ append_assoc (seen_in old line.0 line.1) first.later more;
}

-- one line is taken
taken_alone : (budget : ℕ) (line : ℕ × VecLine) (old new : Watched) → LineIsTaken budget old line.1 new →
    LinesShow budget old (line ∷ []) new (seen_in old line.0 line.1)
taken_alone budget line old new taken = record {
  between = new;
  later = [];
  takes = taken;
  rest = (refl, refl);
  shows = sym (append-nil (seen_in old line.0 line.1));
}

-- a line that changes a node shows nothing
shows_nothing : (v : ℕ) (at : Watched) (number : ℕ) (line : VecLine) → is_of v line ≡ true → seen_in at number line ≡ []
shows_nothing v at number (Set w x) is = refl
shows_nothing v at number (Free w) is = refl
shows_nothing v at number (Size w k) is = refl
shows_nothing v at number Phase is = refl
shows_nothing v at number (Show asked) is = absurd (false≢true is)

-- a line is taken, unless it does nothing
taken_or_left : (budget : ℕ) (stuck : Option StuckFault) (line : ℕ × VecLine) (old new : Watched) →
    (is_left_out stuck line.1 ≡ true → new ≡ old) → (is_left_out stuck line.1 ≡ false → LineIsTaken budget old line.1 new) →
    LinesShow budget old (counting stuck (line ∷ [])) new (seen_in old line.0 line.1)
taken_or_left budget None line old new left taken = taken_alone budget line old new (taken refl)
taken_or_left budget (Some fault) line old new left taken = elim (cases_Bool (is_of fault.node line.1)) [
  | inl out ↦ rw out (left out, shows_nothing fault.node old line.0 line.1 out)
  | inr counts ↦ rw counts (taken_alone budget line old new (taken counts))
]

-- the lines up to one were taken, and then this one
pub next_line : (budget : ℕ) (stuck : Option StuckFault) (lines : List (ℕ × VecLine)) (k : ℕ) (line : ℕ × VecLine) (old mid new : Watched) (shown : List Seen) →
    k < length lines → line ≡ get_or lines k line →
    (is_left_out stuck line.1 ≡ true → new ≡ mid) → (is_left_out stuck line.1 ≡ false → LineIsTaken budget mid line.1 new) →
    LinesShow budget old (counting stuck (take k lines)) mid shown →
    LinesShow budget old (counting stuck (take (k + 1) lines)) new (shown ++ seen_in mid line.0 line.1)
next_line budget stuck lines k line old mid new shown lt is left taken before =
    let front : take (k + 1) lines ≡ take k lines ++ line ∷ [] =
    take_more lines k line lt ∙ ap (λ (one : ℕ × VecLine). take k lines ++ one ∷ []) (sym is) in
    let counted : counting stuck (take (k + 1) lines) ≡ counting stuck (take k lines) ++ counting stuck (line ∷ []) =
    ap (counting stuck) front ∙ counting-append stuck (take k lines) (line ∷ []) in
    subst (λ (all : List (ℕ × VecLine)). LinesShow budget old all new (shown ++ seen_in mid line.0 line.1)) (sym counted)
    (shown_both budget (counting stuck (take k lines)) (counting stuck (line ∷ [])) old mid new shown (seen_in mid line.0 line.1) before
    (taken_or_left budget stuck line mid new left taken))

-- ---- one outcome

-- where two watched runs stand is one, where all of it is
same_watched : (a b : Watched) → a.at ≡ b.at → a.settled ≡ b.settled → a ≡ b
same_watched a b at settled =
    let make : Standing → Bool → Watched = λ s t. record { at = s; settled = t } in
    ap (λ (s : Standing). make s a.settled) at ∙ ap (λ (t : Bool). make b.at t) settled

-- a line that fits the nodes fits the network without names
fits_unnamed : (nodes : ℕ) (line : VecLine) → FitsNodes nodes line → IsLineWithin [] nodes line
fits_unnamed nodes (Set v x) fits = (fits, refl)
fits_unnamed nodes (Free v) fits = (fits, refl)
fits_unnamed nodes (Size v k) fits = ((fits.0, refl), fits.1)
fits_unnamed nodes Phase fits = tt
fits_unnamed nodes (Show asked) fits = fits

-- lines that fit a network fit its nodes
fit_within : (names : List (List ℕ × ℕ)) (nodes : ℕ) (line : VecLine) → IsLineWithin names nodes line → FitsNodes nodes line
fit_within names nodes (Set v x) within = within.0
fit_within names nodes (Free v) within = within.0
fit_within names nodes (Size v k) within = (within.0.0, within.1)
fit_within names nodes Phase within = tt
fit_within names nodes (Show asked) within = within

pub fits_within : (names : List (List ℕ × ℕ)) (nodes : ℕ) (lines : List (ℕ × VecLine)) → All (λ line. IsLineWithin names nodes line.1) lines →
    All (λ line. FitsNodes nodes line.1) lines
fits_within names nodes lines within = λ k d lt. fit_within names nodes (get_or lines k d).1 (within k d lt)

-- a line that is taken leaves the network sound
pub taken_sound : (nodes budget : ℕ) (old new : Watched) (line : VecLine) → FitsNodes nodes line → IsSoundAt nodes old.at →
    LineIsTaken budget old line new → IsSoundAt nodes new.at
taken_sound nodes budget old new line fits sound taken =
    line_sound [] nodes budget old.at new.at line taken.replies (fits_unnamed nodes line fits) sound taken.runs

-- a line has one outcome
same_taken : (nodes budget : ℕ) (old new other : Watched) (line : VecLine) → IsSoundAt nodes old.at → LineIsTaken budget old line new →
    LineIsTaken budget old line other → new ≡ other
same_taken nodes budget old new other line sound a b =
    let same = same_line budget old.at new.at other.at line a.replies b.replies sound.sound (sound.one_state ∙ sym sound.same_nodes) a.runs b.runs in
    let replies : a.replies ≡ b.replies = same.1 in
    same_watched new other same.0 (a.settled ∙ ap (λ (told : List VecReply). settled_after line told old.settled) replies ∙ sym b.settled)

-- and so have several
pub same_shown : (nodes budget : ℕ) (lines : List (ℕ × VecLine)) (old new other : Watched) (shown others : List Seen) →
    All (λ line. FitsNodes nodes line.1) lines → IsSoundAt nodes old.at → LinesShow budget old lines new shown → LinesShow budget old lines other others →
    (new ≡ other) × (shown ≡ others)
same_shown nodes budget [] old new other shown others fits sound a b = (a.0 ∙ sym b.0, a.1 ∙ sym b.1)
same_shown nodes budget (line ∷ lines) old new other shown others fits sound a b =
    let Fits : ℕ × VecLine → Type 0 = λ line. FitsNodes nodes line.1 in
    let here = All-head Fits line lines fits in
    let first = taken_sound nodes budget old a.between line.1 here sound a.takes in
    let between : a.between ≡ b.between = same_taken nodes budget old a.between b.between line.1 sound a.takes b.takes in
    let rest : LinesShow budget a.between lines other b.later =
    subst (λ (mid : Watched). LinesShow budget mid lines other b.later) (sym between) b.rest in
    let same = same_shown nodes budget lines a.between new other a.later b.later (All-tail Fits line lines fits) first a.rest rest in
    let later : a.later ≡ b.later = same.1 in
    (same.0, a.shows ∙ ap (λ (more : List Seen). seen_in old line.0 line.1 ++ more) later ∙ sym b.shows)

-- the lines that count fit where all fit
pub counting_fits : (nodes : ℕ) (stuck : Option StuckFault) (lines : List (ℕ × VecLine)) → All (λ line. FitsNodes nodes line.1) lines →
    All (λ line. FitsNodes nodes line.1) (counting stuck lines)
counting_fits nodes None lines fits = fits
counting_fits nodes (Some fault) lines fits =
    All-filter (λ (line : ℕ × VecLine). not (is_of fault.node line.1)) (λ (line : ℕ × VecLine). FitsNodes nodes line.1) lines fits

-- a sound network begins sound, whichever node is stuck
pub begun_sound : (net : Network) (stuck : Option StuckFault) (start : List Level) → IsSound net → length start ≡ net.nodes →
    IsSoundAt net.nodes (begun_with stuck net start).at
begun_sound net None start sound len = record { sound = sound; same_nodes = refl; one_state = len }
begun_sound net (Some fault) start sound len = record {
  sound = input_sound net fault.node true sound;
  same_nodes = refl;
  one_state = length-set start fault.node fault.value ∙ len;
}

-- what vectors show is determined by the network, its names, the budget and the stuck node
pub same_seen : (net : Network) (names : List (List ℕ × ℕ)) (budget : ℕ) (vectors : Vectors) (stuck : Option StuckFault) (shown others : List Seen) →
    IsSound net → All (λ line. FitsNodes net.nodes line.1) vectors.lines →
    AreSeen net names budget vectors stuck shown → AreSeen net names budget vectors stuck others → shown ≡ others
same_seen net names budget vectors stuck shown others sound fits a b =
    let same : b.start ≡ a.start = same_starts net names b.start a.start b.starts a.starts in
    let other : LinesShow budget (begun_with stuck net a.start) (counting stuck vectors.lines) b.last others =
    subst (λ (start : List Level). LinesShow budget (begun_with stuck net start) (counting stuck vectors.lines) b.last others) same b.show in
    let both = same_shown net.nodes budget (counting stuck vectors.lines) (begun_with stuck net a.start) a.last b.last shown others
    (counting_fits net.nodes stuck vectors.lines fits) (begun_sound net stuck a.start sound a.starts.one_state) a.show other in
    both.1
