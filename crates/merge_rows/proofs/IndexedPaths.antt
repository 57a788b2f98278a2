-- Paths whose first name is an id with two indices, by what is before and behind its brackets and its comma.
use Rattle.std.proofs.Common.{◌≡◌, ◌≢◌, ◌↔◌, ◌++◌, ℕ, ℤ, Bool, List, [], ◌∷◌, Ok, Err, Result, IsTrue, refl, sym, subst, ap, ◌∙◌, append_assoc}
use Rattle.std.specs.Int.{w32}
use Rattle.std.specs.Int.RustNames.{FitsSigned}
use Rattle.std.proofs.Math.Facts.{sfits_widen}
use Rattle.text_scan.specs.declared.numeral.NumFault.{NumFault}
use Rattle.text_scan.specs.Decimal.{decimal}
use Rattle.text_scan.specs.Numbers.{number_of}
use Rattle.text_scan.proofs.DecimalLemmas.{number_of-decimal}
use Rattle.ext_model.specs.declared.names.TheConstants.{SLASH}
use Rattle.ext_model.specs.ElementNames.{is_use_id, indexed_name}
use Rattle.ext_model.specs.LawfulArrays.{BeginsIndexed}
use Rattle.ext_model.specs.Plain.{before, behind}
use Rattle.ext_model.proofs.IndexedNames.{id_plain, number_comma, number_bracket}
use Rattle.merge_rows.specs.steps.IndexTexts.{IsIndexText, HasIndexParts}
use Rattle.ext_model.proofs.CutLaws.{before-cut, behind-cut, cut_whole}

-- ---- indices

-- the text of a number of 32 bits is read as the number
number_is : (word : List ℕ) (z : ℤ) → FitsSigned w32 z → word ≡ decimal z → number_of word ≡ Ok z
number_is word z fits text = ap number_of text ∙ number_of-decimal z (sfits_widen tt fits)

-- a word that is read as a number is an index where the number fits and the word is its text
pub index_read : (word : List ℕ) (z : ℤ) → number_of word ≡ Ok z → (FitsSigned w32 z × (word ≡ decimal z)) ↔ IsIndexText word
index_read word z read = (
  λ is. record { index = z; fits = is.0; text = is.1 },
  λ is.
      let same : ◌≡◌ {A = Result ℤ NumFault} (Ok is.index) (Ok z) = sym (number_is word is.index is.fits is.text) ∙ read in
      let one : is.index ≡ z = cc in
      (subst (FitsSigned w32) one is.fits, is.text ∙ ap decimal one),
)

-- what is read as no number is none
pub index_refused : (word : List ℕ) (fault : NumFault) → ◌≡◌ {A = Result ℤ NumFault} (number_of word) (Err fault) → IsIndexText word → ⊥
index_refused word fault read is =
    let same : ◌≡◌ {A = Result ℤ NumFault} (Ok is.index) (Err fault) = sym (number_is word is.index is.fits is.text) ∙ read in
    cc

-- ---- paths

-- a name with indices, and what follows it
name_then : (id more : List ℕ) (i j : ℤ) → indexed_name id i j ++ more ≡ id ++ 91 ∷ (decimal i ++ 44 ∷ (decimal j ++ 93 ∷ more))
name_then id more i j =
    append_assoc id (91 ∷ (decimal i ++ 44 ∷ (decimal j ++ 93 ∷ []))) more
    ∙ ap (λ (rest : List ℕ). id ++ 91 ∷ rest) (append_assoc (decimal i) (44 ∷ (decimal j ++ 93 ∷ [])) more
    ∙ ap (λ (rest : List ℕ). decimal i ++ 44 ∷ rest) (append_assoc (decimal j) (93 ∷ []) more))

-- nothing is behind a byte where nothing is
some_behind : (mark : ℕ) (text : List ℕ) → behind mark text ≢ [] → text ≢ []
some_behind mark text some none = some (ap (behind mark) none)

-- where the parts have their forms, the path begins with a name with indices
begins : (path : List ℕ) → HasIndexParts path → BeginsIndexed path
begins path has =
    let indices = behind 91 path in
    let others = behind 44 indices in
    let i = has.first.index in
    let j = has.second.index in
    let more = SLASH ∷ has.rest in
    let third : behind 93 others ≢ [] = λ none. (let clash : ◌≡◌ {A = List ℕ} [] more = sym none ∙ has.slash in cc) in
    let second : others ≢ [] = some_behind 93 others third in
    let first : indices ≢ [] = some_behind 44 indices second in
    let last : others ≡ decimal j ++ 93 ∷ more =
    cut_whole 93 others third ∙ (λ k. has.second.text k ++ 93 ∷ has.slash k) in
    let both : indices ≡ decimal i ++ 44 ∷ (decimal j ++ 93 ∷ more) =
    cut_whole 44 indices second ∙ (λ k. has.first.text k ++ 44 ∷ last k) in
    record {
      name = indexed_name (before 91 path) i j;
      rest = has.rest;
      indexed = record {
        id = before 91 path;
        i = i;
        j = j;
        id_form = has.id;
        i_fits = has.first.fits;
        j_fits = has.second.fits;
        text = refl;
      };
      text = cut_whole 91 path first ∙ ap (λ (rest : List ℕ). before 91 path ++ 91 ∷ rest) both ∙ sym (name_then (before 91 path) more i j);
    }

-- and where it does, they have
parts : (path : List ℕ) → BeginsIndexed path → HasIndexParts path
parts path is =
    let one = is.indexed in
    let more = SLASH ∷ is.rest in
    let last = decimal one.j ++ 93 ∷ more in
    let both = decimal one.i ++ 44 ∷ last in
    let whole : path ≡ one.id ++ 91 ∷ both = is.text ∙ ap (λ (name : List ℕ). name ++ more) one.text ∙ name_then one.id more one.i one.j in
    let id = ap (before 91) whole ∙ before-cut 91 one.id both (id_plain one.id one.id_form) in
    let indices : behind 91 path ≡ both = ap (behind 91) whole ∙ behind-cut 91 one.id both (id_plain one.id one.id_form) in
    let others : behind 44 (behind 91 path) ≡ last = ap (behind 44) indices ∙ behind-cut 44 (decimal one.i) last (number_comma one.i) in
    record {
      id = subst (λ (word : List ℕ). IsTrue (is_use_id word)) (sym id) one.id_form;
      first = record {
        index = one.i;
        fits = one.i_fits;
        text = ap (before 44) indices ∙ before-cut 44 (decimal one.i) last (number_comma one.i);
      };
      second = record {
        index = one.j;
        fits = one.j_fits;
        text = ap (before 93) others ∙ before-cut 93 (decimal one.j) more (number_bracket one.j);
      };
      rest = is.rest;
      slash = ap (behind 93) others ∙ behind-cut 93 (decimal one.j) more (number_bracket one.j);
    }

-- a test of the parts tells whether the path does
told : (path : List ℕ) (test : Bool)
    → IsTrue test ↔ (IsTrue (is_use_id (before 91 path)) × IsIndexText (before 44 (behind 91 path)) × IsIndexText (before 93 (behind 44 (behind 91 path)))
    × (rest : List ℕ) × (behind 93 (behind 44 (behind 91 path)) ≡ SLASH ∷ rest))
    → IsTrue test ↔ BeginsIndexed path
told path test tests = (
  λ yes.
      let has = tests.0 yes in
      begins path (record { id = has.0; first = has.1; second = has.2; rest = has.3; slash = has.4 }),
  λ is.
      let has = parts path is in
      tests.1 (has.id, has.first, has.second, has.rest, has.slash),
)

-- where the text is cut piece by piece
pub parts_tested : (path : List ℕ) (test : Bool) (id indices first others second rest : List ℕ) → id ≡ before 91 path → indices ≡ behind 91 path
    → first ≡ before 44 indices → others ≡ behind 44 indices → second ≡ before 93 others → rest ≡ behind 93 others
    → IsTrue test ↔ (IsTrue (is_use_id id) × IsIndexText first × IsIndexText second × (more : List ℕ) × (rest ≡ SLASH ∷ more))
    → IsTrue test ↔ BeginsIndexed path
parts_tested path test id indices first others second rest is_id are_indices is_first are_others is_second is_rest tests =
    let others_are = are_others ∙ ap (behind 44) are_indices in
    let first_is = is_first ∙ ap (before 44) are_indices in
    let second_is = is_second ∙ ap (before 93) others_are in
    let rest_is = is_rest ∙ ap (behind 93) others_are in
    let parts_are : ◌≡◌ {A = List ℕ × List ℕ × List ℕ × List ℕ} (id, first, second, rest)
    (before 91 path, before 44 (behind 91 path), before 93 (behind 44 (behind 91 path)), behind 93 (behind 44 (behind 91 path))) =
    λ k. (is_id k, first_is k, second_is k, rest_is k) in
    told path test
    (subst (λ (p : List ℕ × List ℕ × List ℕ × List ℕ). IsTrue test ↔ (IsTrue (is_use_id p.0) × IsIndexText p.1 × IsIndexText p.2
    × (more : List ℕ) × (p.3 ≡ SLASH ∷ more))) parts_are tests)
