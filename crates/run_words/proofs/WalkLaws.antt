-- How `clap` walks over known words, beside what they give.
use Rattle.std.proofs.Common.{◌≡◌, ◌∙◌, ◌++◌, ◌&&◌, ℕ, Bool, true, false, List, [], ◌∷◌, Option, Some, None, refl, sym, subst, ap, arith, take, drop}
use Rattle.std.specs.Prelude.{◌==◌, fold, codes, is_some}
use Rattle.std.specs.List.{list_all}
use Rattle.std.specs.Str.{bytes_eq}
use Rattle.std.proofs.lemmas.Bool.{ne_eqb}
use Rattle.std.proofs.lemmas.Slice.Eq.{bytes_eq-Decides}
use lib.ListN.{take-append-drop}
use Rattle.clap.specs.Walk.{Row, Rule, Text, Waiting, Walk, has_row, idle as rests, option, is_empty, settled_rows, used, nothing_held, walk_from, walked}
use Rattle.clap.specs.Lexer.{long_of, short_of}
use Rattle.clap.specs.Faults.{settle_fault, turn_fault, walk_fault}
use Rattle.clap.specs.Kinds.{Kinds, or_else}
use Rattle.clap.specs.Simple.{Shape, built, filled}
use Rattle.clap.proofs.OnLiterals.{clap_on_literals}
use Rattle.text_scan.proofs.NumberLemmas.{natural_of-empty, natural_of-fault}
use Rattle.run_words.specs.RunWords.{Given, begins_with_budget, budget_of, given_by, in_budget, nothing_given}
use Rattle.run_words.specs.steps.ClapWords.{budget_rule, command_line, digits_in, is_known, quiet_rule}

abbrev pub shape : Shape
shape = (built command_line).top

abbrev pub rules : List Rule
rules = shape.rules

-- ---- what clap has found so far

-- `--quiet`, and the digits of a budget with their number
pub data Found : Type 0 where
  none : Found
  quiet : Found
  budget : (digits : Text) (n : ℕ) → budget_of digits ≡ Some n → Found
  quiet_budget : (digits : Text) (n : ℕ) → budget_of digits ≡ Some n → Found
  budget_quiet : (digits : Text) (n : ℕ) → budget_of digits ≡ Some n → Found

abbrev with_quiet_row : List Row → List Row
with_quiet_row rows = used (filled quiet_rule) [] rows

abbrev with_budget_row : Text → List Row → List Row
with_budget_row digits rows = used (filled budget_rule) (digits ∷ []) rows

abbrev pub rows_at : Found → List Row
rows_at none = []
rows_at quiet = with_quiet_row []
rows_at (budget digits n e) = with_budget_row digits []
rows_at (quiet_budget digits n e) = with_budget_row digits (with_quiet_row [])
rows_at (budget_quiet digits n e) = with_quiet_row (with_budget_row digits [])

abbrev pub quiet_at : Found → Bool
quiet_at none = false
quiet_at quiet = true
quiet_at (budget digits n e) = false
quiet_at (quiet_budget digits n e) = true
quiet_at (budget_quiet digits n e) = true

abbrev pub budget_at : Found → Option ℕ
budget_at none = None
budget_at quiet = None
budget_at (budget digits n e) = Some n
budget_at (quiet_budget digits n e) = Some n
budget_at (budget_quiet digits n e) = Some n

abbrev pub given_at : Found → Given
given_at found = record { quiet = quiet_at found; budget = budget_at found; is_open = false }

abbrev first : Bool → Found
first true = quiet
first false = none

-- ---- where its walk stands

-- between options; behind a `--budget` without a number; behind that number, which has no row yet
pub data At : Type 0 where
  apart : Found → At
  wanting : Found → At
  holding : Bool → (digits : Text) (n : ℕ) → budget_of digits ≡ Some n → At

abbrev standing : Waiting → List Row → Option (Text × List Text) → Walk
standing waiting rows pending = record {
  held = record { rows = rows; pending = pending; skip = 0 };
  waiting = waiting;
  position = 1;
  is_trailing = false;
  stopped = None;
}

abbrev walk_wanting : List Row → Walk
walk_wanting rows = standing (option (codes "budget")) rows (Some (codes "budget", []))

abbrev walk_holding : List Row → Text → Walk
walk_holding rows digits = standing rests rows (Some (codes "budget", digits ∷ []))

abbrev pub walk_at : At → Walk
walk_at (apart found) = standing rests (rows_at found) None
walk_at (wanting found) = walk_wanting (rows_at found)
walk_at (holding flag digits n e) = walk_holding (rows_at (first flag)) digits

abbrev pub given_of : At → Given
given_of (apart found) = given_at found
given_of (wanting found) = record (given_at found) { is_open = true }
given_of (holding flag digits n e) = record { quiet = flag; budget = Some n; is_open = false }

-- ---- the two agree

abbrev pub walk_end : Walk → List Text → Walk
walk_end w words = fold (walked rules []) w words

abbrev pub faults_from : Walk → List Text → Kinds
faults_from w words = or_else (walk_fault shape [] w words) (settle_fault rules false (walk_end w words).held)

abbrev pub Agree : Kinds → Walk → Option Given → Type 0
Agree faults end None = is_empty faults ≡ false
Agree faults end (Some given) = (faults ≡ []) × (end.stopped ≡ None)
    × (found : Found) × (settled_rows rules end.held.pending end.held.rows ≡ rows_at found) × (given ≡ given_at found)

abbrev pub AgreesFrom : Walk → Given → List Text → Type 0
AgreesFrom w given words = Agree (faults_from w words) (walk_end w words) (given_by given words)

-- one more word, at which nothing is wrong
onward : (w after : Walk) (word : Text) (words : List Text) (given : Option Given) → turn_fault shape [] w word ≡ [] → walked rules [] w word ≡ after
    → Agree (faults_from after words) (walk_end after words) given → Agree (faults_from w (word ∷ words)) (walk_end w (word ∷ words)) given
unfolding walk_fault
onward w after word words given fine walks rest =
    let moved = subst (λ (next : Walk). Agree (faults_from next words) (walk_end next words) given) (sym walks) rest in
    rw fine moved

faulty : (first second : Kinds) → is_empty first ≡ false → is_empty (or_else first second) ≡ false
faulty [] second e = cc
faulty (kind ∷ kinds) second e = e

-- one more word, at which something is
halts : (w : Walk) (word : Text) (words : List Text) → is_empty (turn_fault shape [] w word) ≡ false → is_empty (faults_from w (word ∷ words)) ≡ false
unfolding walk_fault
halts w word words fault = faulty _ _ (faulty _ _ fault)

-- ---- known words

pub data Known (word : Text) : Type 0 where
  is_quiet : word ≡ codes "--quiet" → Known word
  is_budget : word ≡ codes "--budget" → Known word
  is_attached : (digits : Text) (n : ℕ) → word ≡ codes "--budget=" ++ digits → budget_of digits ≡ Some n → Known word
  is_number : (d : ℕ) (ds : Text) (n : ℕ) → word ≡ d ∷ ds → (d == 45) ≡ false → budget_of (d ∷ ds) ≡ Some n → Known word

some_number : (o : Option ℕ) → is_some o ≡ true → (n : ℕ) × (o ≡ Some n)
some_number None e = cc
some_number (Some n) e = (n, refl)

-- what begins with a minus is no budget
pub minus_is_none : (rest : Text) → budget_of (45 ∷ rest) ≡ None
minus_is_none rest = ap in_budget (natural_of-fault (45 ∷ rest) (omega arith) refl)

-- the first byte of a budget is no minus
digit_first : (d : ℕ) (ds : Text) (n : ℕ) → budget_of (d ∷ ds) ≡ Some n → (d == 45) ≡ false
digit_first d ds n e = ne_eqb d 45 (λ same. let bad : None ≡ Some n = sym (minus_is_none ds) ∙ subst (λ b. budget_of (b ∷ ds) ≡ Some n) same e in cc)

known_number : (word : Text) (n : ℕ) → budget_of word ≡ Some n → Known word
known_number [] n e = let none : budget_of [] ≡ None = ap in_budget (natural_of-empty [] refl) in cc
known_number (d ∷ ds) n e = is_number d ds n refl (digit_first d ds n e) e

-- a word that begins as a budget does
pub budget_front : (word : Text) → begins_with_budget word ≡ true → word ≡ codes "--budget=" ++ drop 9 word
budget_front word begins =
    let front : take 9 word ≡ codes "--budget=" = (bytes_eq-Decides (take 9 word) (codes "--budget=")).0 begins in
    sym (take-append-drop 9 word) ∙ ap (λ l. l ++ drop 9 word) front

known_digits : (word : Text) (begins : Bool) → begins_with_budget word ≡ begins → is_some (budget_of (digits_in word)) ≡ true → Known word
known_digits word true begins some =
    let found = some_number (budget_of (drop 9 word)) (rw begins at some) in
    is_attached (drop 9 word) found.0 (budget_front word begins) found.1
known_digits word false begins some =
    let found = some_number (budget_of word) (rw begins at some) in
    known_number word found.0 found.1

known_cases : (word : Text) → is_known word ≡ true → Known word
known_cases word known = go (bytes_eq word (codes "--quiet")) (bytes_eq word (codes "--budget")) refl refl
  where
    go : (q b : Bool) → bytes_eq word (codes "--quiet") ≡ q → bytes_eq word (codes "--budget") ≡ b → Known word
    go true b eq eb = is_quiet ((bytes_eq-Decides word (codes "--quiet")).0 eq)
    go false true eq eb = is_budget ((bytes_eq-Decides word (codes "--budget")).0 eb)
    go false false eq eb = known_digits word (begins_with_budget word) refl (rw (eq, eb) at known)

and_first : (a b : Bool) → (a && b) ≡ true → a ≡ true
and_first true b e = refl
and_first false b e = cc

and_second : (a b : Bool) → (a && b) ≡ true → b ≡ true
and_second true b e = e
and_second false b e = cc

-- ---- a word at each place

-- clap and the words agree from each place on
abbrev Next : List Text → Type 0
Next words = (at : At) → AgreesFrom (walk_at at) (given_of at) words

abbrev Step : At → Text → List Text → Type 0
Step at word words = AgreesFrom (walk_at at) (given_of at) (word ∷ words)

at_quiet : (at : At) (words : List Text) → Next words → Step at (codes "--quiet") words
unfolding clap_on_literals
at_quiet (apart none) words next =
    onward (walk_at (apart none)) (walk_at (apart quiet)) (codes "--quiet") words (given_by (given_at quiet) words) refl refl (next (apart quiet))
at_quiet (apart quiet) words next = halts (walk_at (apart quiet)) (codes "--quiet") words refl
at_quiet (apart (budget digits n e)) words next =
    onward (walk_at (apart (budget digits n e))) (walk_at (apart (budget_quiet digits n e))) (codes "--quiet") words
    (given_by (given_at (budget_quiet digits n e)) words) refl refl (next (apart (budget_quiet digits n e)))
at_quiet (apart (quiet_budget digits n e)) words next = halts (walk_at (apart (quiet_budget digits n e))) (codes "--quiet") words refl
at_quiet (apart (budget_quiet digits n e)) words next = halts (walk_at (apart (budget_quiet digits n e))) (codes "--quiet") words refl
at_quiet (wanting found) words next = rw (minus_is_none (codes "-quiet")) (halts (walk_at (wanting found)) (codes "--quiet") words refl)
at_quiet (holding false digits n e) words next = onward (walk_at (holding false digits n e)) (walk_at (apart (budget_quiet digits n e))) (codes "--quiet") words
    (given_by (given_at (budget_quiet digits n e)) words) refl refl (next (apart (budget_quiet digits n e)))
at_quiet (holding true digits n e) words next = halts (walk_at (holding true digits n e)) (codes "--quiet") words refl

at_budget : (at : At) (words : List Text) → Next words → Step at (codes "--budget") words
unfolding clap_on_literals
at_budget (apart found) words next = onward (walk_at (apart found)) (walk_at (wanting found)) (codes "--budget") words
    (given_by (given_of (wanting found)) words) refl refl (next (wanting found))
at_budget (wanting found) words next = rw (minus_is_none (codes "-budget")) (halts (walk_at (wanting found)) (codes "--budget") words refl)
at_budget (holding false digits n e) words next = onward (walk_at (holding false digits n e)) (walk_at (wanting (budget digits n e))) (codes "--budget") words
    (given_by (given_of (wanting (budget digits n e))) words) refl refl (next (wanting (budget digits n e)))
at_budget (holding true digits n e) words next =
    onward (walk_at (holding true digits n e)) (walk_at (wanting (quiet_budget digits n e))) (codes "--budget") words
    (given_by (given_of (wanting (quiet_budget digits n e))) words) refl refl (next (wanting (quiet_budget digits n e)))

at_attached : (at : At) (digits : Text) (n : ℕ) → budget_of digits ≡ Some n → (words : List Text) → Next words → Step at (codes "--budget=" ++ digits) words
unfolding clap_on_literals
at_attached (apart none) digits n e words next = rw e (onward (walk_at (apart none)) (walk_at (apart (budget digits n e))) (codes "--budget=" ++ digits) words
    (given_by (given_at (budget digits n e)) words) refl refl (next (apart (budget digits n e))))
at_attached (apart quiet) digits n e words next =
    rw e (onward (walk_at (apart quiet)) (walk_at (apart (quiet_budget digits n e))) (codes "--budget=" ++ digits) words
    (given_by (given_at (quiet_budget digits n e)) words) refl refl (next (apart (quiet_budget digits n e))))
at_attached (apart (budget before m f)) digits n e words next = rw e (halts (walk_at (apart (budget before m f))) (codes "--budget=" ++ digits) words refl)
at_attached (apart (quiet_budget before m f)) digits n e words next =
    rw e (halts (walk_at (apart (quiet_budget before m f))) (codes "--budget=" ++ digits) words refl)
at_attached (apart (budget_quiet before m f)) digits n e words next =
    rw e (halts (walk_at (apart (budget_quiet before m f))) (codes "--budget=" ++ digits) words refl)
at_attached (wanting found) digits n e words next =
    rw (minus_is_none (codes "-budget=" ++ digits)) (halts (walk_at (wanting found)) (codes "--budget=" ++ digits) words refl)
at_attached (holding false before m f) digits n e words next = rw e (halts (walk_at (holding false before m f)) (codes "--budget=" ++ digits) words refl)
at_attached (holding true before m f) digits n e words next = rw e (halts (walk_at (holding true before m f)) (codes "--budget=" ++ digits) words refl)

-- a word without a minus at its front is no option
no_dashes : (d : ℕ) (ds : Text) → (d == 45) ≡ false → bytes_eq (d ∷ ds) (45 ∷ 45 ∷ []) ≡ false
no_dashes d ds plain = rw plain refl

no_long : (d : ℕ) (ds : Text) → (d == 45) ≡ false → long_of (d ∷ ds) ≡ None
no_long d ds plain = rw plain refl

no_short : (d : ℕ) (ds : Text) → (d == 45) ≡ false → short_of (d ∷ ds) ≡ None
no_short d ds plain = rw plain refl

-- a number where none is wanted
stray_number : (rows : List Row) (pending : Option (Text × List Text)) (d : ℕ) (ds : Text) → (d == 45) ≡ false
    → is_empty (turn_fault shape [] (standing rests rows pending) (d ∷ ds)) ≡ false
unfolding clap_on_literals
stray_number rows pending d ds plain = rw (no_dashes d ds plain, no_long d ds plain, no_short d ds plain) refl

wanted_turn : (rows : List Row) (d : ℕ) (ds : Text) → (d == 45) ≡ false → turn_fault shape [] (walk_wanting rows) (d ∷ ds) ≡ []
unfolding clap_on_literals
wanted_turn rows d ds plain = rw (no_dashes d ds plain, no_long d ds plain, no_short d ds plain) refl

wanted_walk : (rows : List Row) (d : ℕ) (ds : Text) → (d == 45) ≡ false → walked rules [] (walk_wanting rows) (d ∷ ds) ≡ walk_holding rows (d ∷ ds)
unfolding clap_on_literals
wanted_walk rows d ds plain = rw (no_dashes d ds plain, no_long d ds plain, no_short d ds plain) refl

-- a second number is refused in the end, whatever follows
doomed_at : (rows : List Row) → has_row (codes "budget") rows ≡ true → (before : Text) (word : Text) → Known word
    → is_empty (turn_fault shape [] (walk_holding rows before) word) ≡ false
unfolding clap_on_literals
doomed_at rows has before word (is_quiet e) = rw (e, has) refl
doomed_at rows has before word (is_budget e) = rw (e, has) refl
doomed_at rows has before word (is_attached digits n e f) = rw (e, has) refl
doomed_at rows has before word (is_number d ds n e plain f) = rw e (stray_number rows (Some (codes "budget", before ∷ [])) d ds plain)

doomed_end : (rows : List Row) → has_row (codes "budget") rows ≡ true → (before : Text) → is_empty (faults_from (walk_holding rows before) []) ≡ false
unfolding clap_on_literals
doomed_end rows has before = rw has refl

doomed : (rows : List Row) → has_row (codes "budget") rows ≡ true → (before : Text) (words : List Text) → list_all is_known words ≡ true
    → is_empty (faults_from (walk_holding rows before) words) ≡ false
doomed rows has before [] known = doomed_end rows has before
doomed rows has before (word ∷ words) known =
    halts (walk_holding rows before) word words (doomed_at rows has before word (known_cases word (and_first (is_known word) (list_all is_known words) known)))

second_number : (found : Found) → has_row (codes "budget") (rows_at found) ≡ true → (d : ℕ) (ds : Text) → (d == 45) ≡ false
    → (words : List Text) → list_all is_known words ≡ true → is_empty (faults_from (walk_at (wanting found)) ((d ∷ ds) ∷ words)) ≡ false
second_number found has d ds plain words known = onward (walk_at (wanting found)) (walk_holding (rows_at found) (d ∷ ds)) (d ∷ ds) words None
    (wanted_turn (rows_at found) d ds plain) (wanted_walk (rows_at found) d ds plain) (doomed (rows_at found) has (d ∷ ds) words known)

at_number : (at : At) (d : ℕ) (ds : Text) (n : ℕ) → (d == 45) ≡ false → budget_of (d ∷ ds) ≡ Some n → (words : List Text) → list_all is_known words ≡ true
    → Next words → Step at (d ∷ ds) words
at_number (apart found) d ds n plain e words known next =
    rw plain (halts (walk_at (apart found)) (d ∷ ds) words (stray_number (rows_at found) None d ds plain))
at_number (wanting none) d ds n plain e words known next = rw e (onward (walk_at (wanting none)) (walk_at (holding false (d ∷ ds) n e)) (d ∷ ds) words
    (given_by (given_of (holding false (d ∷ ds) n e)) words) (wanted_turn (rows_at none) d ds plain)
    (wanted_walk (rows_at none) d ds plain) (next (holding false (d ∷ ds) n e)))
at_number (wanting quiet) d ds n plain e words known next = rw e (onward (walk_at (wanting quiet)) (walk_at (holding true (d ∷ ds) n e)) (d ∷ ds) words
    (given_by (given_of (holding true (d ∷ ds) n e)) words) (wanted_turn (rows_at quiet) d ds plain)
    (wanted_walk (rows_at quiet) d ds plain) (next (holding true (d ∷ ds) n e)))
at_number (wanting (budget before m f)) d ds n plain e words known next = rw e (second_number (budget before m f) refl d ds plain words known)
at_number (wanting (quiet_budget before m f)) d ds n plain e words known next = rw e (second_number (quiet_budget before m f) refl d ds plain words known)
at_number (wanting (budget_quiet before m f)) d ds n plain e words known next = rw e (second_number (budget_quiet before m f) refl d ds plain words known)
at_number (holding flag before m f) d ds n plain e words known next =
    rw plain (halts (walk_at (holding flag before m f)) (d ∷ ds) words (stray_number (rows_at (first flag)) (Some (codes "budget", before ∷ [])) d ds plain))

-- ---- all words

at_end : (at : At) → AgreesFrom (walk_at at) (given_of at) []
unfolding clap_on_literals
at_end (apart found) = (refl, refl, found, refl, refl)
at_end (wanting found) = refl
at_end (holding false digits n e) = (refl, refl, budget digits n e, refl, refl)
at_end (holding true digits n e) = (refl, refl, quiet_budget digits n e, refl, refl)

at_word : (at : At) (word : Text) → Known word → (words : List Text) → list_all is_known words ≡ true → Next words → Step at word words
at_word at word (is_quiet e) words known next = subst (λ (w : Text). Step at w words) (sym e) (at_quiet at words next)
at_word at word (is_budget e) words known next = subst (λ (w : Text). Step at w words) (sym e) (at_budget at words next)
at_word at word (is_attached digits n e f) words known next = subst (λ (w : Text). Step at w words) (sym e) (at_attached at digits n f words next)
at_word at word (is_number d ds n e plain f) words known next = subst (λ (w : Text). Step at w words) (sym e) (at_number at d ds n plain f words known next)

agrees_from : (words : List Text) → list_all is_known words ≡ true → Next words
agrees_from [] known at = at_end at
agrees_from (word ∷ words) known at =
    let rest = and_second (is_known word) (list_all is_known words) known in
    at_word at word (known_cases word (and_first (is_known word) (list_all is_known words) known)) words rest (agrees_from words rest)

-- from the start
pub agrees : (words : List Text) → list_all is_known words ≡ true → AgreesFrom (walk_from nothing_held) nothing_given words
agrees words known = agrees_from words known (apart none)
