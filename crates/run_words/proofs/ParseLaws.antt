-- What `clap` answers for known words, and that other words are not of the form.
use Rattle.std.proofs.Common.{◌≡◌, ◌∙◌, ◌&&◌, ◌||◌, ◌++◌, ◌⊎◌, length, drop, ℕ, Bool, true, false, List, [], ◌∷◌, Option, Some, None}
use Rattle.std.proofs.Common.{inl, inr, refl, sym, subst, ap, ap₂, arith}
use Rattle.std.specs.Prelude.{fold, codes, if◌then◌else◌, option_map, unwrap_or, is_some}
use Rattle.std.specs.List.{list_all}
use Rattle.std.specs.Str.{bytes_eq}
use Rattle.std.proofs.lemmas.Bool.{ne_eqb}
use Rattle.clap.specs.Walk.{Text, Walk, first_of, is_empty, nothing_held, one_of, settled_rows, walk_from, with_default}
use Rattle.clap.specs.Faults.{defaults_fault, entered_fault, fault_of, settle_fault, walk_fault}
use Rattle.clap.specs.Kinds.{HasKind, IsAmong, Kinds, or_else}
use Rattle.clap.specs.Values.{kind_of}
use Rattle.clap.specs.declared.error.Error.{Error}
use Rattle.clap.specs.declared.error.kind.ErrorKind.TheVariants.{OutOfMemory}
use Rattle.run_words.specs.declared.words.RunWords.{RunWords}
use Rattle.clap.specs.Simple.{built, matches_of}
use Rattle.clap.proofs.OnLiterals.{clap_on_literals}
use Rattle.run_words.specs.declared.limits.TheConstants.{DEFAULT_BUDGET}
use Rattle.run_words.specs.RunWords.{Given, begins_with_budget, budget_of, given_by, nothing_given, run_of, with_word, words_of}
use Rattle.run_words.specs.steps.ClapWords.{budget_told, command_line, digits_in, is_known}
use Rattle.run_words.proofs.WalkLaws.{Agree, Found, none, quiet, budget, quiet_budget, budget_quiet, quiet_at, budget_at, given_at, rows_at}
use Rattle.run_words.proofs.WalkLaws.{agrees, budget_front, faults_from, minus_is_none, rules, shape, walk_end}

-- the words of matches
abbrev flag_text : Bool → Text
flag_text flag = if flag then codes "true" else codes "false"

abbrev pub Tells : List Text → Option Given → Type 0
Tells words None = is_empty (fault_of command_line words) ≡ false
Tells words (Some given) = (fault_of command_line words ≡ [])
    × (one_of (codes "quiet") (matches_of command_line words) ≡ Some (flag_text given.quiet))
    × (budget_told (first_of (codes "budget") (matches_of command_line words)) ≡ unwrap_or given.budget DEFAULT_BUDGET)

-- a fault of the walk or of its end is one of the parse
stays : (first below end rest : Kinds) → is_empty (or_else first end) ≡ false → is_empty (or_else first (or_else below (or_else end rest))) ≡ false
stays (kind ∷ kinds) below end rest e = e
stays [] (kind ∷ kinds) end rest e = ne_eqb (length (kind ∷ kinds)) 0 (λ none. omega arith)
stays [] [] (kind ∷ kinds) rest e = e
stays [] [] [] rest e = cc

first_none : (first second : Kinds) → or_else first second ≡ [] → first ≡ []
first_none [] second e = refl
first_none (kind ∷ kinds) second e = cc

second_none : (first second : Kinds) → or_else first second ≡ [] → second ≡ []
second_none [] second e = e
second_none (kind ∷ kinds) second e = cc

-- what is left to check at the end is right
no_defaults_fault : (found : Found) → defaults_fault (rows_at found) rules ≡ []
unfolding clap_on_literals
no_defaults_fault none = refl
no_defaults_fault quiet = refl
no_defaults_fault (budget digits n e) = refl
no_defaults_fault (quiet_budget digits n e) = refl
no_defaults_fault (budget_quiet digits n e) = refl

quiet_told : (found : Found) → one_of (codes "quiet") (fold with_default (rows_at found) rules) ≡ Some (flag_text (quiet_at found))
unfolding clap_on_literals
quiet_told none = refl
quiet_told quiet = refl
quiet_told (budget digits n e) = refl
quiet_told (quiet_budget digits n e) = refl
quiet_told (budget_quiet digits n e) = refl

number_told : (found : Found) → budget_told (first_of (codes "budget") (fold with_default (rows_at found) rules)) ≡ unwrap_or (budget_at found) DEFAULT_BUDGET
unfolding clap_on_literals
number_told none = refl
number_told quiet = refl
number_told (budget digits n e) = rw e refl
number_told (quiet_budget digits n e) = rw e refl
number_told (budget_quiet digits n e) = rw e refl

abbrev end_of : List Text → Walk
end_of words = walk_end (walk_from nothing_held) words

tells_given : (words : List Text) (found : Found) → faults_from (walk_from nothing_held) words ≡ [] → (end_of words).stopped ≡ None
    → settled_rows rules (end_of words).held.pending (end_of words).held.rows ≡ rows_at found → Tells words (Some (given_at found))
tells_given words found fine whole rows =
    let walks = first_none (walk_fault shape [] (walk_from nothing_held) words) (settle_fault rules false (end_of words).held) fine in
    let settles = second_none (walk_fault shape [] (walk_from nothing_held) words) (settle_fault rules false (end_of words).held) fine in
    (rw (walks, whole, settles, rows, no_defaults_fault found) refl, rw rows (quiet_told found), rw rows (number_told found))

tells : (words : List Text) (given : Option Given) → Agree (faults_from (walk_from nothing_held) words) (end_of words) given → Tells words given
tells words None faulty = stays (walk_fault shape [] (walk_from nothing_held) words) (entered_fault (built command_line) (end_of words).stopped)
    (settle_fault rules false (end_of words).held) _ faulty
tells words (Some given) (fine, whole, found, rows, is) = subst (λ (told : Given). Tells words (Some told)) (sym is) (tells_given words found fine whole rows)

pub parse_tells : (words : List Text) → list_all is_known words ≡ true → Tells words (given_by nothing_given words)
parse_tells words known = tells words (given_by nothing_given words) (agrees words known)

-- ---- other words

all_false : (a b c : Bool) → (a || b || c) ≡ false → (a ≡ false) × (b ≡ false) × (c ≡ false)
all_false false false false e = (refl, refl, refl)
all_false true b c e = cc
all_false false true c e = cc
all_false false false true e = cc

not_some : (o : Option ℕ) → is_some o ≡ false → o ≡ None
not_some None e = refl
not_some (Some n) e = cc

-- neither the word nor what follows `--budget=` in it is a budget
no_budget : (word : Text) (begins : Bool) → begins_with_budget word ≡ begins → is_some (budget_of (digits_in word)) ≡ false
    → (budget_of word ≡ None) × ((begins ≡ false) ⊎ (budget_of (drop 9 word) ≡ None))
no_budget word true begins lacks =
    let front : budget_of (codes "--budget=" ++ drop 9 word) ≡ None = minus_is_none (codes "-budget=" ++ drop 9 word) in
    (ap budget_of (budget_front word begins) ∙ front, inr (not_some (budget_of (drop 9 word)) (rw begins at lacks)))
no_budget word false begins lacks = (not_some (budget_of word) (rw begins at lacks), inl refl)

unknown_word : (given : Given) (word : Text) → is_known word ≡ false → with_word given word ≡ None
unknown_word given word e = go given.is_open (begins_with_budget word) refl refl
  where
    tests : (bytes_eq word (codes "--quiet") ≡ false) × (bytes_eq word (codes "--budget") ≡ false) × (is_some (budget_of (digits_in word)) ≡ false)
    tests = all_false (bytes_eq word (codes "--quiet")) (bytes_eq word (codes "--budget")) (is_some (budget_of (digits_in word))) e

    go : (o begins : Bool) → given.is_open ≡ o → begins_with_budget word ≡ begins → with_word given word ≡ None
    go true begins o b = rw (o, (no_budget word begins b tests.2).0) refl
    go false false o b = rw (o, tests.0, tests.1, b) refl
    go false true o b = elim (no_budget word true b tests.2).1 [ inl bad ↦ cc | inr lacks ↦ rw (o, tests.0, tests.1, b, lacks) refl ]

unknown_next : (given : Given) (word : Text) (words : List Text) (next : Option Given) → with_word given word ≡ next
    → ((after : Given) → given_by after words ≡ None) → given_by given (word ∷ words) ≡ None
unknown_next given word words None is rest = rw is refl
unknown_next given word words (Some after) is rest = rw is (rest after)

unknown_here : (given : Given) (word : Text) (words : List Text) (known : Bool) → is_known word ≡ known → (known && list_all is_known words) ≡ false
    → (list_all is_known words ≡ false → (after : Given) → given_by after words ≡ None) → given_by given (word ∷ words) ≡ None
unknown_here given word words false f e rest = rw (unknown_word given word f) refl
unknown_here given word words true f e rest = unknown_next given word words (with_word given word) refl (rest e)

pub unknown_words : (words : List Text) → list_all is_known words ≡ false → (given : Given) → given_by given words ≡ None
unknown_words [] e given = cc
unknown_words (word ∷ words) e given = unknown_here given word words (is_known word) refl e (λ f after. unknown_words words f after)

-- ---- the answer

pub unknown_none : (words : List Text) → list_all is_known words ≡ false → words_of words ≡ None
unfolding words_of
unknown_none words e = rw (unknown_words words e nothing_given) refl

flag_from : (flag said : Bool) (text : Option Text) → text ≡ Some (flag_text flag)
    → (text ≡ Some (codes "true") → said ≡ true) → (text ≡ Some (codes "false") → said ≡ false) → said ≡ flag
flag_from true said text e on off = on e
flag_from false said text e on off = off e

taken : (words : List Text) (run : RunWords) → fault_of command_line words ≡ []
    → (one_of (codes "quiet") (matches_of command_line words) ≡ Some (codes "true") → run.quiet ≡ true)
    → (one_of (codes "quiet") (matches_of command_line words) ≡ Some (codes "false") → run.quiet ≡ false)
    → run.budget ≡ budget_told (first_of (codes "budget") (matches_of command_line words))
    → (given : Option Given) → Tells words given → Some run ≡ option_map run_of given
taken words run fine on off number None faulty = let bad : is_empty (fault_of command_line words) ≡ true = rw fine refl in cc
taken words run fine on off number (Some given) told =
    let is_quiet : run.quiet ≡ given.quiet = flag_from given.quiet run.quiet (one_of (codes "quiet") (matches_of command_line words)) told.1 on off in
    let is_budget : run.budget ≡ unwrap_or given.budget DEFAULT_BUDGET = number ∙ told.2 in
    ap₂ (λ (q : Bool) (b : ℕ). Some (record { quiet = q; budget = b })) is_quiet is_budget

pub taken_is : (words : List Text) (run : RunWords) → list_all is_known words ≡ true → fault_of command_line words ≡ []
    → (one_of (codes "quiet") (matches_of command_line words) ≡ Some (codes "true") → run.quiet ≡ true)
    → (one_of (codes "quiet") (matches_of command_line words) ≡ Some (codes "false") → run.quiet ≡ false)
    → run.budget ≡ budget_told (first_of (codes "budget") (matches_of command_line words)) → Some run ≡ words_of words
unfolding words_of
taken_is words run known fine on off number = taken words run fine on off number (given_by nothing_given words) (parse_tells words known)

refused : (words : List Text) (e : Error) → HasKind (fault_of command_line words) e → (kind_of e ≡ OutOfMemory → ⊥)
    → (given : Option Given) → Tells words given → None ≡ option_map run_of given
refused words e (inl memory) other given told = absurd (other memory)
refused words e (inr among) other None told = refl
refused words e (inr among) other (Some given) told = absurd (subst (IsAmong (kind_of e)) told.0 among)

pub refused_is : (words : List Text) (e : Error) → list_all is_known words ≡ true → HasKind (fault_of command_line words) e
    → (kind_of e ≡ OutOfMemory → ⊥) → None ≡ words_of words
unfolding words_of
refused_is words e known has other = refused words e has other (given_by nothing_given words) (parse_tells words known)
