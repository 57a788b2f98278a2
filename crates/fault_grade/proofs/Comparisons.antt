-- A run with a fault that is compared, line by line, with what the run without a fault has shown.
use Rattle.fault_grade.proofs.Common.{◌≡◌, ℕ, ◌+◌, ◌<◌, ◌≤◌, List, [], ◌∷◌, ◌++◌, Bool, true, false, refl, sym, ap, subst, ◌∙◌, arith, length}
use Rattle.fault_grade.proofs.Common.{get_or, take, drop, append_assoc, Level, VecLine, StuckFault, Seen, LinesShow, Watched, is_left_out, HasShown}
use Rattle.fault_grade.proofs.Common.{is_shown_apart}
use Rattle.std.proofs.Common.{suc, ◌⊎◌, ◌&&◌, inl, inr, map, add-one, drop-cons}
use Rattle.std.specs.Prelude.{All, Option, Some, None, IfSome, IsSomeAnd}
use Rattle.std.specs.List.Sorted.{IsNonDecreasingBy}
use Rattle.std.proofs.lemmas.Bool.{cases_Bool, cases_lt, false≢true, le-ltb, lt-ltb}
use Rattle.std.proofs.lemmas.List.{length-append, length-map, length-take, take-append-drop, take_more}
use Rattle.std.proofs.lemmas.List.Elements.{All-take}
use Rattle.std.proofs.Math.Seq.{drop-append_seam, get_or-append_seam, take-append_seam}
use Rattle.finite_sets.specs.Lists.{In}
use Rattle.switch_net.specs.Path.{state_of}
use Rattle.vector_files.specs.declared.files.VecLine.TheVariants.{Set, Free, Size, Phase, Show}
use Rattle.fault_replay.specs.VectorRuns.Running.{FitsNodes}
use Rattle.fault_replay.specs.VectorRuns.Watching.{LineIsTaken, counting, seen_in}
use Rattle.fault_replay.proofs.VectorRuns.LineOutcomes.{IsSoundAt}
use Rattle.fault_replay.proofs.VectorRuns.WatchedRuns.{counting_fits, next_line, same_shown}
use Rattle.fault_grade.specs.steps.Comparing.{Finds, are_apart, asked_count, is_apart, least_of}
use Rattle.fault_grade.specs.Grades.{Lead, TellsApart, are_opposed}

-- both hold of two tests that pass
both_pass : (a b : Bool) → (a && b) ≡ true → (a ≡ true) × (b ≡ true)
both_pass true true is = (refl, refl)
both_pass true false is = absurd (false≢true is)
both_pass false b is = absurd (false≢true is)

-- ---- the nodes that a line shows

module _ (states : List Level) (good : Watched) (number : ℕ) where
  -- what is seen of a node without a fault
  abbrev shown_as : List ℕ × ℕ → Seen
  shown_as named = record { line = number; name = named.0; value = state_of good.at.states named.1; settled = good.settled }

  -- the node is 0 in the one run and 1 in the other
  abbrev IsOpposed : List ℕ × ℕ → Type 0
  IsOpposed named = are_opposed (state_of good.at.states named.1) (state_of states named.1) ≡ true

  -- where the nodes tell the runs apart, one of them does
  one_tells : (asked : List (List ℕ × ℕ)) → are_apart states asked (map shown_as asked) ≡ true →
      (named : List ℕ × ℕ) × In named asked × (good.settled ≡ true) × IsOpposed named
  one_tells [] is = absurd (false≢true is)
  one_tells (named ∷ asked) is = elim (cases_Bool (is_shown_apart states named (shown_as named))) [
    | inl here ↦ (let both = both_pass good.settled (are_opposed (state_of good.at.states named.1) (state_of states named.1)) here in
        (named, inl refl, both.0, both.1))
    | inr other ↦ (let later = one_tells asked (rw other at is) in (later.0, inr later.1, later.2, later.3))
  ]

  -- and where one does, they do
  they_tell : (asked : List (List ℕ × ℕ)) (named : List ℕ × ℕ) → In named asked → good.settled ≡ true → IsOpposed named →
      are_apart states asked (map shown_as asked) ≡ true
  they_tell [] named stands settled opposed = absurd stands
  they_tell (other ∷ asked) named stands settled opposed = elim (cases_Bool (is_shown_apart states other (shown_as other))) [
    | inl here ↦ rw here refl
    | inr away ↦ elim stands [
      | inl e ↦
          let opposed_here : IsOpposed other = subst IsOpposed (sym e) opposed in
          let here : is_shown_apart states other (shown_as other) ≡ true = rw (settled, opposed_here) refl in
          absurd (false≢true (sym away ∙ here))
      | inr later ↦ rw away (they_tell asked named later settled opposed)
    ]
  ]

-- a line shows as many nodes as it asks for
asked_length : (good : Watched) (number : ℕ) (line : VecLine) → length (seen_in good number line) ≡ asked_count line
asked_length good number (Set v x) = refl
asked_length good number (Free v) = refl
asked_length good number (Size v k) = refl
asked_length good number Phase = refl
asked_length good number (Show asked) = length-map asked (shown_as [] good number)

-- ---- the lines

module _ (budget : ℕ) (good stuck : Watched) (fault : Option StuckFault) (lines : List (ℕ × VecLine)) where
  abbrev Told : ℕ → Type 0
  Told number = TellsApart budget good stuck fault lines number

  -- the least line that tells the runs apart, of those before the k-th
  pub record FindsBefore (k : ℕ) (found : Option ℕ) : Type 0 where
    pub tells : IfSome found (λ number. (told : Told number) × (length told.before < k))
    pub least : (number : ℕ) (told : Told number) → length told.before < k → IsSomeAnd found (λ first. first ≤ number)

  -- the runs stand before the k-th line, the one without a fault shows the rest from there on, and the lines before are compared
  pub record AreCompared (k : ℕ) (rest : List Seen) (stuck_now : Watched) (found : Option ℕ) : Type 0 where
    pub good_now : Watched
    pub last : Watched
    pub good_leads : Lead budget good (take k lines) good_now
    pub good_goes : LinesShow budget good_now (drop k lines) last rest
    pub stuck_leads : Lead budget stuck (counting fault (take k lines)) stuck_now
    pub finds : FindsBefore k found

  -- at first no lines are compared
  pub none_compared : (last : Watched) (rest : List Seen) → LinesShow budget good lines last rest → AreCompared 0 rest stuck None
  none_compared last rest shows = record {
    good_now = good;
    last = last;
    good_leads = ([], (refl, refl));
    good_goes = shows;
    stuck_leads = ([], nothing fault);
    finds = record { tells = tt; least = λ number told before. absurd (omega (arith, before)) };
  }
    where
      nothing : (fault : Option StuckFault) → LinesShow budget stuck (counting fault []) stuck []
      nothing None = (refl, refl)
      nothing (Some fault) = (refl, refl)

  -- at which place a line stands that tells the runs apart, and its number there
  told_place : (number : ℕ) (told : Told number) → length told.before < length lines
  told_place number told =
      let all = ap length told.stands ∙ length-append told.before ((number, Show told.asked) ∷ told.after) in
      omega (arith, all)

  told_line : (number : ℕ) (told : Told number) (d : ℕ × VecLine) → get_or lines (length told.before) d ≡ (number, Show told.asked)
  told_line number told d =
      ap (λ (all : List (ℕ × VecLine)). get_or all (length told.before) d) told.stands
      ∙ get_or-append_seam told.before (number, Show told.asked) told.after d

  -- behind all lines the least of all is found
  pub found_last : (k : ℕ) (found : Option ℕ) → length lines ≤ k → FindsBefore k found → Finds budget good stuck fault lines found
  found_last k found all finds = record {
    tells = forget found finds.tells;
    least = λ number told. finds.least number told (omega (arith, told_place number told, all));
  }
    where
      forget : (found : Option ℕ) → IfSome found (λ number. (told : Told number) × (length told.before < k)) → IfSome found Told
      forget None is = tt
      forget (Some number) is = is.0

  -- where the numbers rise, the first that is found is the least
  pub found_first : (k : ℕ) (found : Option ℕ) → IsNonDecreasingBy (λ line. line.0) lines → ¬ (found ≡ None) → FindsBefore k found →
      Finds budget good stuck fault lines found
  found_first k None rises some finds = absurd (some refl)
  found_first k (Some first) rises some finds = record {
    tells = finds.tells.0;
    least = λ number told.
        let early = finds.tells in
        let early_place = told_place first early.0 in
        let place = told_place number told in
        elim (cases_lt (length told.before) k) [
          | inl before ↦ finds.least number told before
          | inr behind ↦
              let one : ℕ × VecLine = (number, Show told.asked) in
              let rising = rises (length early.0.before) (length told.before) one (omega (arith, early.1, behind)) place in
              let first_is = ap (λ (line : ℕ × VecLine). line.0) (told_line first early.0 one) in
              let number_is = ap (λ (line : ℕ × VecLine). line.0) (told_line number told one) in
              omega (arith, rising, first_is, number_is)
        ];
  }

  -- the lines before a later one
  abbrev Before : ℕ → Option ℕ → Type 0
  Before k found = IfSome found (λ number. (told : Told number) × (length told.before < k))

  before_more : (k : ℕ) (found : Option ℕ) → Before k found → Before (k + 1) found
  before_more k None is = tt
  before_more k (Some number) is = (is.0, omega (arith, is.1))

  module _ (k line : ℕ) where
    -- where a line that tells the runs apart stands, of those up to the k-th
    reaches : (apart : Bool) → ((number : ℕ) (told : Told number) → length told.before ≡ k → (line ≡ number) × (apart ≡ true))
        → (number : ℕ) (told : Told number) → length told.before < k + 1 → (length told.before < k) ⊎ ((line ≡ number) × (apart ≡ true))
    reaches apart here number told before = elim (cases_lt (length told.before) k) [
      | inl earlier ↦ inl earlier
      | inr late ↦ inr (here number told (omega (arith, before, late)))
    ]

    -- the line of what was found is less, or not
    less_of : (first : ℕ) → (told : Told line) × (length told.before < k + 1) → FindsBefore k (Some first)
        → ((number : ℕ) (told : Told number) → length told.before ≡ k → (line ≡ number) × (true ≡ true)) → FindsBefore (k + 1) (least_of (Some first) true line)
    less_of first told finds here = elim (cases_lt first line) [
      | inl less ↦ rw (lt-ltb first line less) (record {
        tells = before_more k (Some first) finds.tells;
        least = λ number other before. elim (reaches true here number other before) [
          | inl earlier ↦ finds.least number other earlier
          | inr there ↦ (let same : line ≡ number = there.0 in omega (arith, less, same))
        ];
      })
      | inr more ↦ rw (le-ltb first line more) (record {
        tells = told;
        least = λ number other before. elim (reaches true here number other before) [
          | inl earlier ↦ (let old = finds.least number other earlier in omega (arith, more, old))
          | inr there ↦ (let same : line ≡ number = there.0 in omega (arith, same))
        ];
      })
    ]

    -- the least line of those up to the k-th
    finds_more : (apart : Bool) (found : Option ℕ) → (apart ≡ true → (told : Told line) × (length told.before < k + 1))
        → ((number : ℕ) (told : Told number) → length told.before ≡ k → (line ≡ number) × (apart ≡ true)) → FindsBefore k found
        → FindsBefore (k + 1) (least_of found apart line)
    finds_more false found told here finds = record {
      tells = before_more k found finds.tells;
      least = λ number other before. elim (reaches false here number other before) [
        | inl earlier ↦ finds.least number other earlier
        | inr there ↦ absurd (false≢true there.1)
      ];
    }
    finds_more true None told here finds = record {
      tells = told refl;
      least = λ number other before. elim (reaches true here number other before) [
        | inl earlier ↦ absurd (finds.least number other earlier)
        | inr there ↦ (let same : line ≡ number = there.0 in omega (arith, same))
      ];
    }
    finds_more true (Some first) told here finds = less_of first (told refl) finds here

  -- a line stands between those before and those after
  around : (k : ℕ) (line : ℕ × VecLine) → k < length lines → line ≡ get_or lines k line → lines ≡ take k lines ++ line ∷ drop (k + 1) lines
  around k line lt is =
      let front = take_more lines k line lt ∙ ap (λ (one : ℕ × VecLine). take k lines ++ one ∷ []) (sym is) in
      sym (take-append-drop (k + 1) lines) ∙ ap (λ (all : List (ℕ × VecLine)). all ++ drop (k + 1) lines) front
      ∙ append_assoc (take k lines) (line ∷ []) (drop (k + 1) lines)

  module _ (nodes : ℕ) (fits : All (λ line. FitsNodes nodes line.1) lines) (good_sound : IsSoundAt nodes good.at) (stuck_sound : IsSoundAt nodes stuck.at) where
    module _ (k : ℕ) (line : ℕ × VecLine) (lt : k < length lines) (is : line ≡ get_or lines k line) (rest : List Seen) (now : Watched) (found : Option ℕ)
        (compared : AreCompared k rest now found) where
      abbrev shown_here : List Seen
      shown_here = seen_in compared.good_now line.0 line.1

      -- what the run without a fault shows next
      goes : LinesShow budget compared.good_now (line ∷ drop (suc k) lines) compared.last rest
      goes =
          let next : drop k lines ≡ line ∷ drop (suc k) lines =
          drop-cons lines k line lt ∙ ap (λ (one : ℕ × VecLine). one ∷ drop (suc k) lines) (sym is) in
          subst (λ (all : List (ℕ × VecLine)). LinesShow budget compared.good_now all compared.last rest) next compared.good_goes

      -- the line shows a part of it
      pub shown_enough : asked_count line.1 ≤ length rest
      shown_enough =
          let all = ap length goes.shows ∙ length-append shown_here goes.later in
          omega (arith, all, asked_length compared.good_now line.0 line.1)

      shown_first : take (asked_count line.1) rest ≡ shown_here
      shown_first =
          ap (λ (n : ℕ). take n rest) (sym (asked_length compared.good_now line.0 line.1)) ∙ ap (take (length shown_here)) goes.shows
          ∙ take-append_seam shown_here goes.later

      shown_later : drop (asked_count line.1) rest ≡ goes.later
      shown_later =
          ap (λ (n : ℕ). drop n rest) (sym (asked_length compared.good_now line.0 line.1)) ∙ ap (drop (length shown_here)) goes.shows
          ∙ drop-append_seam shown_here goes.later

      -- whether the line tells the runs apart
      abbrev apart_here : Bool
      apart_here = is_apart now.settled now.at.states line.1 shown_here

      place_of : length (take k lines) ≡ k
      place_of = let n = length-take k lines in omega (arith, n, lt)

      told_by : (number : ℕ) (one : VecLine) → lines ≡ take k lines ++ (number, one) ∷ drop (k + 1) lines →
          is_apart now.settled now.at.states one (seen_in compared.good_now number one) ≡ true → (told : Told number) × (length told.before < k + 1)
      told_by number (Set v x) stands apart = absurd (false≢true apart)
      told_by number (Free v) stands apart = absurd (false≢true apart)
      told_by number (Size v size) stands apart = absurd (false≢true apart)
      told_by number Phase stands apart = absurd (false≢true apart)
      told_by number (Show asked) stands apart =
          let both = both_pass now.settled (are_apart now.at.states asked (seen_in compared.good_now number (Show asked))) apart in
          let one = one_tells now.at.states compared.good_now number asked both.1 in (
            record {
              before = take k lines;
              asked = asked;
              after = drop (k + 1) lines;
              stands = stands;
              good_now = compared.good_now;
              stuck_now = now;
              good_leads = compared.good_leads;
              stuck_leads = compared.stuck_leads;
              good_settled = one.2;
              stuck_settled = both.0;
              named = one.0;
              asks = one.1;
              opposed = one.3;
            },
            omega (arith, place_of),
          )

      -- where it does, it is one that does
      told_here : apart_here ≡ true → (told : Told line.0) × (length told.before < k + 1)
      told_here apart = told_by line.0 line.1 (around k line lt is) apart

      -- and one that does at its place is this line
      here_told : (number : ℕ) (told : Told number) → length told.before ≡ k → (line.0 ≡ number) × (apart_here ≡ true)
      here_told number told place =
          let same : line ≡ (number, Show told.asked) =
          is ∙ ap (λ (i : ℕ). get_or lines i line) (sym place) ∙ told_line number told line in
          let front : told.before ≡ take k lines =
          sym (take-append_seam told.before ((number, Show told.asked) ∷ told.after))
          ∙ ap (take (length told.before)) (sym told.stands) ∙ ap (λ (i : ℕ). take i lines) place in
          let fits_front = All-take (λ (line : ℕ × VecLine). FitsNodes nodes line.1) k lines fits in
          let good_there : LinesShow budget good (take k lines) told.good_now told.good_leads.0 =
          subst (λ (all : List (ℕ × VecLine)). LinesShow budget good all told.good_now told.good_leads.0) front told.good_leads.1 in
          let stuck_there : LinesShow budget stuck (counting fault (take k lines)) told.stuck_now told.stuck_leads.0 =
          subst (λ (all : List (ℕ × VecLine)). LinesShow budget stuck (counting fault all) told.stuck_now told.stuck_leads.0) front told.stuck_leads.1 in
          let good_same = same_shown nodes budget (take k lines) good told.good_now compared.good_now told.good_leads.0 compared.good_leads.0
          fits_front good_sound good_there compared.good_leads.1 in
          let stuck_same = same_shown nodes budget (counting fault (take k lines)) stuck told.stuck_now now told.stuck_leads.0 compared.stuck_leads.0
          (counting_fits nodes fault (take k lines) fits_front) stuck_sound stuck_there compared.stuck_leads.1 in
          let good_is : told.good_now ≡ compared.good_now = good_same.0 in
          let stuck_is : told.stuck_now ≡ now = stuck_same.0 in
          let shows : ℕ × VecLine → Watched → Watched → Bool = λ one g s. is_apart s.settled s.at.states one.1 (seen_in g one.0 one.1) in
          let many = they_tell told.stuck_now.at.states told.good_now number told.asked told.named told.asks told.good_settled told.opposed in
          let apart : shows (number, Show told.asked) told.good_now told.stuck_now ≡ true = rw (told.stuck_settled, many) refl in
          let moved : shows line compared.good_now now ≡ true =
          ap (λ (one : ℕ × VecLine). shows one compared.good_now now) same ∙ ap (λ (s : Watched). shows (number, Show told.asked) compared.good_now s)
          (sym stuck_is)
          ∙ ap (λ (g : Watched). shows (number, Show told.asked) g told.stuck_now) (sym good_is) ∙ apart in
          (ap (λ (one : ℕ × VecLine). one.0) same, moved)

      -- the least of the lines up to this one, before it is taken
      pub found_now : (here : List Seen) (apart : Bool) → here ≡ take (asked_count line.1) rest → apart ≡ is_apart now.settled now.at.states line.1 here
          → FindsBefore (k + 1) (least_of found apart line.0)
      found_now here apart here_is apart_is =
          let same : apart ≡ apart_here = apart_is ∙ ap (is_apart now.settled now.at.states line.1) (here_is ∙ shown_first) in
          finds_more k line.0 apart found (λ tells. told_here (sym same ∙ tells))
          (λ number told place. (let is = here_told number told place in (is.0, same ∙ is.1))) compared.finds

      -- one more line is compared
      pub one_compared : (new : Watched) (here later : List Seen) (apart : Bool) → here ≡ take (asked_count line.1) rest
          → later ≡ drop (asked_count line.1) rest
          → apart ≡ is_apart now.settled now.at.states line.1 here
          → (is_left_out fault line.1 ≡ true → new ≡ now) → (is_left_out fault line.1 ≡ false → LineIsTaken budget now line.1 new)
          → AreCompared (k + 1) later new (least_of found apart line.0)
      one_compared new here later apart here_is later_is apart_is left taken = record {
        good_now = goes.between;
        last = compared.last;
        good_leads = (
          compared.good_leads.0 ++ shown_here,
          next_line budget None lines k line good compared.good_now goes.between compared.good_leads.0 lt is (λ e. absurd (false≢true e))
              (λ e. goes.takes) compared.good_leads.1,
        );
        good_goes = subst (λ (seen : List Seen). LinesShow budget goes.between (drop (k + 1) lines) compared.last seen) (sym (later_is ∙ shown_later))
            (subst (λ (n : ℕ). LinesShow budget goes.between (drop n lines) compared.last goes.later) (sym (add-one k)) goes.rest);
        stuck_leads = (
          compared.stuck_leads.0 ++ seen_in now line.0 line.1,
          next_line budget fault lines k line stuck now new compared.stuck_leads.0 lt is left taken compared.stuck_leads.1,
        );
        finds = found_now here apart here_is apart_is;
      }

-- where a run has shown something, it stood on a sound network
pub sound_shown : (budget nodes : ℕ) (from : Watched) (lines : List (ℕ × VecLine)) (seen : List Seen) → HasShown budget nodes from lines seen
    → IsSoundAt nodes from.at
sound_shown budget nodes from lines seen shown = record { sound = shown.sound; same_nodes = shown.same_nodes; one_state = shown.one_state }
