-- The parts of a name with indices, as cuts of its bytes find them.
use Rattle.element_index.proofs.Common.{◌≡◌, ℕ, ℤ, List, [], ◌∷◌, ◌++◌, inl, inr, ◌+◌, ◌-◌, ◌<◌, Bool, to_z, of_z, refl, false, length, get_or, take}
use Rattle.element_index.proofs.Common.{drop, IsTrue, sym, ap, ◌∙◌, subst, arith, length-drop, position, Some, None, ◌↔◌, w32, w64, both_ways, ints}
use Rattle.element_index.proofs.Common.{In, In-index, decimal, is_use_id, IsIndexed}
use Rattle.std.proofs.Common.{Result, Ok, Err, FitsSigned}
use Rattle.std.proofs.lemmas.Bool.{eq-eqb, eqb-true, ne_eqb}
use Rattle.std.proofs.lemmas.Iterator.Adapters.{position_from-zero}
use Rattle.std.proofs.lemmas.List.{get_or_default, get_or-take, length-take-le, take_all, take-append-drop}
use Rattle.std.proofs.lemmas.List.Quantifiers.{position-Some}
use Rattle.finite_sets.proofs.Searches.{drop_split, position_from-none}
use Rattle.text_scan.specs.declared.numeral.NumFault.{NumFault}
use Rattle.text_scan.specs.Numbers.{number_of}
use Rattle.text_scan.proofs.DecimalLemmas.{number_of-decimal}
use Rattle.ext_model.proofs.TextCuts.{Lacks, one_cut}
use Rattle.ext_model.proofs.IndexedNames.{id_plain, number_comma, number_bracket}
use Rattle.element_index.specs.NameParts.{is_byte, IsIndexText}
use Rattle.element_index.proofs.IdLaws.{has_byte}
use Rattle.element_index.proofs.SquareLaws.{kept_short}

-- a text in which the mark does not stand lacks it
lacks_absent : (mark : ℕ) (text : List ℕ) → (In mark text → ⊥) → Lacks mark text
lacks_absent mark [] absent = tt
lacks_absent mark (first ∷ text) absent = (ne_eqb first mark (λ e. absent (inl e)), lacks_absent mark text (λ here. absent (inr here)))

-- where the mark is not found, it does not stand
pub absent_unfound : (mark : ℕ) (text : List ℕ) → position (is_byte mark) text ≡ None → In mark text → ⊥
absent_unfound mark text none here =
    let fails = position_from-none (is_byte mark) 0 text mark (sym (position_from-zero (is_byte mark) text) ∙ none) here in
    both_ways (is_byte mark mark) fails (eq-eqb mark mark refl)

-- nor before its first place
pub absent_before : (mark : ℕ) (text : List ℕ) (at : ℕ) → position (is_byte mark) text ≡ Some at → In mark (take at text) → ⊥
absent_before mark text at found here =
    let place = position-Some (is_byte mark) text at 0 found in
    let there = In-index mark (take at text) here in
    let early : there.0 < at = omega (arith, there.1.0, length-take-le at text (omega (arith, place.0))) in
    let is : get_or text there.0 0 ≡ mark = sym (get_or-take at text there.0 0 early) ∙ there.1.1 0 in
    both_ways (is_byte mark (get_or text there.0 0)) (place.2 there.0 early) (eq-eqb (get_or text there.0 0) mark is)

-- the text is what stands before the mark, the mark, and what stands behind it
cut_whole : (mark : ℕ) (text : List ℕ) (at : ℕ) → position (is_byte mark) text ≡ Some at → text ≡ take at text ++ mark ∷ drop (at + 1) text
cut_whole mark text at found =
    let place = position-Some (is_byte mark) text at 0 found in
    let is : get_or text at 0 ≡ mark = eqb-true (get_or text at 0) mark place.1 in
    let there : mark ≡ get_or text at mark = sym (get_or_default text at mark 0 place.0 ∙ is) in
    sym (take-append-drop at text) ∙ ap (λ (rest : List ℕ). take at text ++ rest) (drop_split text at mark place.0 there)

-- the same, as slices have it
pub cut_parts : (mark : ℕ) (text : List ℕ) (at : ℕ) → position (is_byte mark) text ≡ Some at
    → text ≡ take at text ++ mark ∷ take (length text - (at + 1)) (drop (at + 1) text)
cut_parts mark text at found =
    let whole : take (length text - (at + 1)) (drop (at + 1) text) ≡ drop (at + 1) text =
    take_all (length text - (at + 1)) (drop (at + 1) text) (omega (arith, length-drop (at + 1) text)) in
    cut_whole mark text at found ∙ ap (λ (rest : List ℕ). take at text ++ mark ∷ rest) (sym whole)

-- a word that is the text of an index writes its number
number_told : (word : List ℕ) (z : ℤ) → IsIndexText word z → number_of word ≡ Ok z
number_told word z is = ap number_of is.text ∙ number_of-decimal z (fits_more z is.fits)
  where
    fits_more : (z : ℤ) → FitsSigned w32 z → FitsSigned w64 z
    fits_more z fits = record { sfits = omega (arith, ints) }

-- so the number that is read from it is that number
index_told : (word : List ℕ) (z t : ℤ) → Ok z ≡ number_of word → IsIndexText word t → IsIndexText word z
index_told word z t read is =
    let both : ◌≡◌ {A = Result ℤ NumFault} (Ok z) (Ok t) = read ∙ number_told word t is in
    let same : z ≡ t = cc in
    subst (IsIndexText word) (sym same) is

-- a word that is no number is no index
pub no_number : (word : List ℕ) (fault : NumFault) (z : ℤ) → Err fault ≡ number_of word → IsIndexText word z → ⊥
no_number word fault z read is =
    let both : ◌≡◌ {A = Result ℤ NumFault} (Err fault) (Ok z) = read ∙ number_told word z is in cc

-- nor is one whose number is too wide
pub not_short : (word : List ℕ) (z t : ℤ) (short : Bool) → Ok z ≡ number_of word → IsTrue short ↔ FitsSigned w32 (to_z w64 (of_z w64 z))
    → short ≡ false → IsIndexText word t → ⊥
not_short word z t short read told fails is =
    let mine = index_told word z t read is in
    both_ways short fails (told.1 (subst (FitsSigned w32) (sym (kept_short z mine.fits)) mine.fits))

-- nor one that has another text
pub not_shortest : (word : List ℕ) (z t : ℤ) (same : Bool) → Ok z ≡ number_of word → IsTrue same ↔ (word ≡ decimal (to_z w64 (of_z w64 z)))
    → same ≡ false → IsIndexText word t → ⊥
not_shortest word z t same read told fails is =
    let mine = index_told word z t read is in
    both_ways same fails (told.1 (mine.text ∙ ap decimal (sym (kept_short z mine.fits))))

-- A name is cut at its first opening bracket, behind that at the first comma, and behind that at the first closing bracket.
pub record IsCutName (name id first second behind : List ℕ) : Type 0 where
  pub rest : List ℕ
  pub more : List ℕ
  pub at_bracket : name ≡ id ++ 91 ∷ rest
  pub before_bracket : Lacks 91 id
  pub at_comma : rest ≡ first ++ 44 ∷ more
  pub before_comma : Lacks 44 first
  pub at_end : more ≡ second ++ 93 ∷ behind
  pub before_end : Lacks 93 second

-- one cut behind the other
pub cut_name : (name id rest first more second behind : List ℕ) → name ≡ id ++ 91 ∷ rest → (In 91 id → ⊥) → rest ≡ first ++ 44 ∷ more
    → (In 44 first → ⊥) → more ≡ second ++ 93 ∷ behind → (In 93 second → ⊥) → IsCutName name id first second behind
cut_name name id rest first more second behind at before then_at then_before last_at last_before = record {
  rest = rest;
  more = more;
  at_bracket = at;
  before_bracket = lacks_absent 91 id before;
  at_comma = then_at;
  before_comma = lacks_absent 44 first then_before;
  at_end = last_at;
  before_end = lacks_absent 93 second last_before;
}

-- The cuts of a name with indices are its parts.
pub record AreItsParts (id first second behind : List ℕ) : Type 0 where
  pub id_form : IsTrue (is_use_id id)
  pub i : ℤ
  pub j : ℤ
  pub first_text : IsIndexText first i
  pub second_text : IsIndexText second j
  pub ends : behind ≡ []

pub cuts_are_parts : (name id first second behind : List ℕ) → IsCutName name id first second behind → IsIndexed name
    → AreItsParts id first second behind
cuts_are_parts name id first second behind cut is =
    let last : List ℕ = decimal is.j ++ 93 ∷ [] in
    let one = one_cut 91 id is.id cut.rest (decimal is.i ++ 44 ∷ last) cut.before_bracket (id_plain is.id is.id_form) (sym cut.at_bracket ∙ is.text) in
    let two = one_cut 44 first (decimal is.i) cut.more last cut.before_comma (number_comma is.i) (sym cut.at_comma ∙ one.1) in
    let three = one_cut 93 second (decimal is.j) behind [] cut.before_end (number_bracket is.j) (sym cut.at_end ∙ two.1) in
    record {
      id_form = subst (λ (text : List ℕ). IsTrue (is_use_id text)) (sym one.0) is.id_form;
      i = is.i;
      j = is.j;
      first_text = record { fits = is.i_fits; text = two.0 };
      second_text = record { fits = is.j_fits; text = three.0 };
      ends = three.1;
    }

-- a name without an opening bracket has no indices
pub no_bracket : (name : List ℕ) → (In 91 name → ⊥) → IsIndexed name → ⊥
no_bracket name absent is =
    has_byte 91 is.id (decimal is.i ++ 44 ∷ (decimal is.j ++ 93 ∷ [])) (subst (Lacks 91) is.text (lacks_absent 91 name absent))

-- nor has one without a comma behind it
pub no_comma : (name id rest : List ℕ) → name ≡ id ++ 91 ∷ rest → (In 91 id → ⊥) → (In 44 rest → ⊥) → IsIndexed name → ⊥
no_comma name id rest at before absent is =
    let last : List ℕ = decimal is.j ++ 93 ∷ [] in
    let one =
    one_cut 91 id is.id rest (decimal is.i ++ 44 ∷ last) (lacks_absent 91 id before) (id_plain is.id is.id_form) (sym at ∙ is.text) in
    has_byte 44 (decimal is.i) last (subst (Lacks 44) one.1 (lacks_absent 44 rest absent))

-- nor one without a closing bracket behind that
pub no_end : (name id rest first more : List ℕ) → name ≡ id ++ 91 ∷ rest → (In 91 id → ⊥) → rest ≡ first ++ 44 ∷ more → (In 44 first → ⊥)
    → (In 93 more → ⊥) → IsIndexed name → ⊥
no_end name id rest first more at before then_at then_before absent is =
    let last : List ℕ = decimal is.j ++ 93 ∷ [] in
    let one =
    one_cut 91 id is.id rest (decimal is.i ++ 44 ∷ last) (lacks_absent 91 id before) (id_plain is.id is.id_form) (sym at ∙ is.text) in
    let two =
    one_cut 44 first (decimal is.i) more last (lacks_absent 44 first then_before) (number_comma is.i) (sym then_at ∙ one.1) in
    has_byte 93 (decimal is.j) [] (subst (Lacks 93) two.1 (lacks_absent 93 more absent))
