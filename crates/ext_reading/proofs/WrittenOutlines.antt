-- The outline of a written text has the elements of all its uses.
use Rattle.ext_reading.proofs.Common.{◌≡◌, ℕ, Bool, true, false, cond, Option, List, [], ◌∷◌, ◌++◌, map, Result, Ok, Err, refl, sym, ap, ◌∙◌, subst}
use Rattle.ext_reading.proofs.Common.{append_assoc, append-nil, fold, AllByRecursion, map-append, In, Distinct, words_of, IsWord, line_of}
use Rattle.ext_reading.proofs.Common.{words_of-line_of, Grid, ArrayUse, UseElements, names_in, gives_again, ExtReadFault, UseLine, Use, elements_of}
use Rattle.ext_reading.proofs.Common.{with_elements, with_allowed, with_use_said, with_words, with_line}
use Rattle.ext_text.specs.WrittenTexts.{use_words}
use Rattle.ext_reading.proofs.Outcomes.{Each}
use Rattle.ext_reading.proofs.OutlineLaws.{kept_words}
use Rattle.ext_reading.proofs.WrittenParts.{IsWrittenUse, IsUseSaid, use_read, names_of_both, names_moved, new_here}

-- a line of these words adds what they say
line_words : (known : List UseElements) (words : List (List ℕ)) → AllByRecursion IsWord words
    → with_line true known (line_of words) ≡ with_words true known words
line_words known words all = ap (with_words true known) (words_of-line_of words all)

-- lines that say no use add none
pub none_said : (lines : List (List (List ℕ))) → AllByRecursion (AllByRecursion IsWord) lines
    → AllByRecursion (λ words. with_words true [] words ≡ []) lines → fold (with_line true) [] (map line_of lines) ≡ []
none_said [] all none = refl
none_said (words ∷ lines) all none =
    ap (λ (known : List UseElements). fold (with_line true) known (map line_of lines)) (line_words [] words all.0 ∙ none.0)
    ∙ none_said lines all.1 none.1

-- a use that gives no name again is added
use_added : (known : List UseElements) (used : ArrayUse) (line : UseLine) → IsUseSaid used line → gives_again known (elements_of used) ≡ false
    → with_use_said true known (Ok (Use line)) ≡ known ++ elements_of used ∷ []
use_added known used line said new =
    let added : List ℕ → Option Grid → List UseElements = λ id grid. with_elements known (record { id = id; grid = grid }) in
    ap (λ (found : Result (Option Grid) ExtReadFault). elim found [
      | Ok grid ↦ with_allowed true known (record { id = line.name.id; grid = grid })
      | Err fault ↦ known
    ]) said.grid
    ∙ (ap (λ (id : List ℕ). added id used.grid) said.id ∙ ap (λ (t : Bool). cond t known (known ++ elements_of used ∷ [])) new)

pub uses_added : (done uses : List ArrayUse) → AllByRecursion IsWrittenUse uses → Distinct (names_of_both done uses)
    → fold (with_line true) (map elements_of done) (map line_of (map use_words uses)) ≡ map elements_of (done ++ uses)
uses_added done [] all differ = ap (map elements_of) (sym (append-nil done))
uses_added done (u ∷ uses) all differ =
    let known = map elements_of done in
    let read = use_read (record { singles = []; all = []; last = 0 }) 0 true [] [] [] u all.0 in
    let said : with_words true known (use_words u) ≡ with_use_said true known (Ok (Use read.line)) = ap (with_use_said true known) read.said.says_it in
    let one : with_line true known (line_of (use_words u)) ≡ map elements_of (done ++ u ∷ []) =
    line_words known (use_words u) read.words
    ∙ (said ∙ (use_added known u read.line read.said (new_here done u uses differ) ∙ sym (map-append elements_of done (u ∷ [])))) in
    ap (λ (more : List UseElements). fold (with_line true) more (map line_of (map use_words uses))) one
    ∙ (uses_added (done ++ u ∷ []) uses all.1 (subst Distinct (sym (names_moved done u uses)) differ)
    ∙ ap (map elements_of) (append_assoc done (u ∷ []) uses))

-- the names so far stay
pub kept_lines : (known : List UseElements) (lines : List (List ℕ)) → Each (λ name. In name (names_in (fold (with_line true) known lines))) (names_in known)
kept_lines known [] = λ name h. h
kept_lines known (line ∷ lines) = λ name h. kept_lines (with_line true known line) lines name (kept_words true known (words_of line) name h)
