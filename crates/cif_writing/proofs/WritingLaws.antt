-- What is written behind a text, part by part, and texts that are too long.
use Rattle.cif_writing.proofs.Common.{◌≡◌, ◌+◌, ◌<◌, ℕ, List, [], ◌∷◌, ◌++◌, length, map, take, drop, refl, sym, ap, subst, ◌∙◌, append_assoc}
use Rattle.cif_writing.proofs.Common.{append-nil, arith, Some, slice_get, text_of, text_of-append, lines_behind, LONGEST_TEXT, AreRuns, Writes}
use Rattle.cif_writing.proofs.Common.{IsTooLongWith, AreTooLong}
use Rattle.std.proofs.Common.{◌≢◌, ◌≤◌, zero, suc}
use Rattle.std.specs.Prelude.{Err, IfErr, Ok, Result}
use Rattle.std.proofs.lemmas.List.{drop_all, length-append, length-take-le, take_all}
use Rattle.std.proofs.lemmas.Option.{slice_get_within}
use Rattle.geo_core.proofs.FiniteSets.Places.{cut-slice_get, drop-slice_get, take-slice_get}
use Rattle.cif_writing.specs.declared.faults.CifWriteFault.{CifWriteFault}
use Rattle.cif_writing.specs.declared.faults.CifWriteFault.TheVariants.{Memory}
use Rattle.cif_writing.proofs.LineLaws.{lines_more, lines_cut, one_list_of_lines, HasOne, LinesCut}

-- ---- lines behind a text

-- a text that is too long stays so with more behind it
pub longer : (now more whole : List ℕ) → now ++ more ≡ whole → LONGEST_TEXT < length now → LONGEST_TEXT < length whole
longer now more whole is long =
    let count : length (now ++ more) ≡ length now + length more = length-append now more in
    subst (λ (text : List ℕ). LONGEST_TEXT < length text) is (omega arith)

-- so it does with any lines
pub too_long_with : (lines : List (List ℕ)) (text : List ℕ) → LONGEST_TEXT < length text → IsTooLongWith lines text
too_long_with lines text long = longer text (text_of lines) (text ++ text_of lines) refl long

-- lines that make a text too long do so with others before and behind them
pub too_long_among : (before here after : List (List ℕ)) (old now : List ℕ) → now ≡ old ++ text_of before → IsTooLongWith here now
    → IsTooLongWith (before ++ (here ++ after)) old
too_long_among before here after old now is long =
    longer (now ++ text_of here) (text_of after) (old ++ text_of (before ++ (here ++ after)))
    (lines_behind before (here ++ after) old now ((now ++ text_of here) ++ text_of after) is
    (append_assoc now (text_of here) (text_of after) ∙ ap (λ (text : List ℕ). now ++ text) (sym (text_of-append here after)))) long

-- ---- the answer that is passed on

pub passed_on : {T : Type 0} (answer : Result T CifWriteFault) (fault : CifWriteFault) (P : Type 0) → (y : CifWriteFault) × (answer ≡ Err y) × (y ≡ fault)
    → (fault ≢ Memory → P) → IfErr answer (λ told. told ≢ Memory → P)
passed_on answer fault P given told =
    subst (λ r. IfErr r (λ f. f ≢ Memory → P)) (sym given.1) (subst (λ f. f ≢ Memory → P) (sym given.2) told)

-- what a refused text is told by, where it follows from what another tells
pub refused_weaker : {T : Type 0} (answer : Result T CifWriteFault) (P Q : Type 0) → (P → Q) → IfErr answer (λ fault. fault ≢ Memory → P)
    → IfErr answer (λ fault. fault ≢ Memory → Q)
refused_weaker (Ok x) P Q follows told = told
refused_weaker (Err fault) P Q follows told = λ other. follows (told other)

-- ---- a line for each thing of a list

-- before the first line
pub line_first : {X : Type 0} (f : X → List ℕ) (xs : List X) (text : List ℕ) → text ++ text_of (map f (drop 0 xs)) ≡ text ++ text_of (map f xs)
line_first f [] text = refl
line_first f (x ∷ xs) text = refl

-- with the next line, what stands and what is left are still the whole
pub line_on : {X : Type 0} (f : X → List ℕ) (xs : List X) (k : ℕ) (x : X) (now new whole : List ℕ) → slice_get xs k ≡ Some x
    → now ++ text_of (map f (drop k xs)) ≡ whole → new ≡ now ++ text_of (f x ∷ []) → new ++ text_of (map f (drop (k + 1) xs)) ≡ whole
line_on {X} f xs k x now new whole at before next =
    let rest = text_of (map f (drop (k + 1) xs)) in
    ap (λ (text : List ℕ). text ++ rest) next ∙ append_assoc now (f x ++ 10 ∷ []) rest
    ∙ ap (λ (text : List ℕ). now ++ text) (append_assoc (f x) (10 ∷ []) rest)
    ∙ ap (λ (ys : List X). now ++ text_of (map f ys)) (sym (drop-slice_get xs k x at))
    ∙ before

-- behind the last line nothing is left
pub line_last : {X : Type 0} (f : X → List ℕ) (xs : List X) (k : ℕ) (now whole : List ℕ) → length xs ≤ k
    → now ++ text_of (map f (drop k xs)) ≡ whole → now ≡ whole
line_last {X} f xs k now whole past before =
    sym (ap (λ (ys : List X). now ++ text_of (map f ys)) (drop_all k xs past) ∙ append-nil now) ∙ before

-- ---- the lines of one thing after another

module _ {X : Type 0} (Of : ℕ → X → List (List ℕ) → Type 0) (number : ℕ) (xs : List X) where
  -- The lines of the first things were written.
  abbrev pub WritesFirst : ℕ → List ℕ → List ℕ → Type 0
  WritesFirst k old new = Writes (AreRuns Of number (take k xs)) old new

  -- before the first of them
  pub writes_none : (text : List ℕ) → WritesFirst 0 text text
  writes_none text = record { lines = []; are = none_of xs; is = sym (append-nil text) }
    where
      none_of : (ys : List X) → AreRuns Of number (take 0 ys) []
      none_of [] = refl
      none_of (y ∷ ys) = refl

  count : (k : ℕ) (x : X) → slice_get xs k ≡ Some x → length (take k xs) ≡ k
  count k x at = let within = slice_get_within xs k x at in length-take-le k xs (omega arith)

  -- one of them more
  pub writes_more : (k last : ℕ) (x : X) (old now new : List ℕ) → slice_get xs k ≡ Some x → last ≡ number + k → WritesFirst k old now
      → Writes (Of last x) now new → WritesFirst (k + 1) old new
  writes_more k last x old now new at is before next =
      let many = count k x at in
      record {
        lines = before.lines ++ next.lines;
        are = subst (λ (ys : List X). AreRuns Of number ys (before.lines ++ next.lines)) (sym (take-slice_get xs k x at))
            (lines_more Of number last (take k xs) x before.lines next.lines (omega arith) before.are next.are);
        is = lines_behind before.lines next.lines old now new before.is next.is;
      }

  -- all of them
  pub writes_all : (k : ℕ) (old new : List ℕ) → length xs ≤ k → WritesFirst k old new → Writes (AreRuns Of number xs) old new
  writes_all k old new past first =
      record { lines = first.lines; are = subst (λ (ys : List X). AreRuns Of number ys first.lines) (take_all k xs past) first.are; is = first.is }

  -- lines that are cut at one of the things are too long with its own
  too_long_cut : (k last : ℕ) (x : X) (old now : List ℕ) (lines : List (List ℕ)) → HasOne Of xs → WritesFirst k old now
      → LinesCut Of number last (take k xs) x lines → AreTooLong (Of last x) now → IsTooLongWith lines old
  too_long_cut k last x old now lines one before cut long =
      let same : before.lines ≡ cut.before =
      one_list_of_lines Of number (take k xs) (λ n j y there. one n j y (taken k xs j y there)) before.lines cut.before before.are cut.of_front in
      subst (λ (l : List (List ℕ)). IsTooLongWith l old) (sym cut.whole)
      (too_long_among cut.before cut.here cut.after old now (before.is ∙ ap (λ (l : List (List ℕ)). old ++ text_of l) same) (long cut.here cut.of_one))
    where
      taken : (k : ℕ) (ys : List X) (j : ℕ) (y : X) → slice_get (take k ys) j ≡ Some y → slice_get ys j ≡ Some y
      taken zero [] j y there = there
      taken zero (z ∷ ys) j y there = absurd (let no : ⊥ = cc in no)
      taken (suc k) [] j y there = there
      taken (suc k) (z ∷ ys) zero y there = there
      taken (suc k) (z ∷ ys) (suc j) y there = taken k ys j y there

  -- where one of them makes the text too long, all do
  pub too_long_at : (k last : ℕ) (x : X) (old now : List ℕ) → HasOne Of xs → slice_get xs k ≡ Some x → last ≡ number + k → WritesFirst k old now
      → AreTooLong (Of last x) now → AreTooLong (AreRuns Of number xs) old
  too_long_at k last x old now one at is before long lines are =
      let many = count k x at in
      too_long_cut k last x old now lines one before
      (lines_cut Of number last (take k xs) x (drop (k + 1) xs) lines (omega arith)
      (subst (λ (ys : List X). AreRuns Of number ys lines) (cut-slice_get xs k x at) are)) long
