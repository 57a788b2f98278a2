-- Sim records can be made of flat transistors: their names are those of the records' transistors, and their lengths are sums of some of theirs.
use Rattle.circuit_laws.proofs.Common.{◌≡◌, ◌≤◌, ℕ, zero, suc, pos, Bool, cond, List, [], ◌∷◌, ◌++◌, refl, sym, ◌∙◌, subst, inl, inr, arith, ◌+ℤ◌}
use Rattle.circuit_laws.proofs.Common.{Option, Some, None, sum_by, bytes_eq, In, sum_on, In-map_source, All-from_In, find-In, In-flat_map_source}
use Rattle.circuit_laws.proofs.Common.{CellExt, FetRec, NodeRec, TermRec, UseRec, IsLawful, IsLawfulFet, Element, elements_of, AreFlatFets}
use Rattle.circuit_laws.proofs.Common.{IsFlatFet, fets_in, fets_of, side_name}
use Rattle.std.proofs.Common.{◌<◌, ◌+◌, ℤ, negsuc, true, false}
use Rattle.std.proofs.lemmas.Int.{ints}
use Rattle.std.specs.Prelude.{◌≢◌, ◌-ℤ◌, ◌≤ℤ◌, IsTrue}
use Rattle.std.specs.Int.RustNames.{unsigned_abs}
use Rattle.std.proofs.lemmas.List.Sums.{sum_by-cons}
use Rattle.finite_sets.proofs.Searches.{All-In}
use Rattle.full_names.specs.ExtModel.declared.limits.TheConstants.{LENGTHS_EDGE}
use Rattle.full_names.specs.ExtModel.NodeNames.{is_word}
use Rattle.full_names.specs.CircuitModel.Elements.{elements_below, ext_of, of_option}
use Rattle.sim_records.specs.SimRecords.{HasLetterAndLengths}
use Rattle.circuit_laws.specs.CircuitLaws.{FlatTransistorHasLetterAndLengths, FlatTransistorsHaveLetterAndLengths}

-- what holds of the record of an element and of all records holds of the record of each element at and below it
below : (P : CellExt → Type 0) (levels : ℕ) (exts : List CellExt) (uses : List UseRec) (ext : CellExt) → P ext
    → ((one : CellExt) → In one exts → P one) → (element : Element) → In element (elements_below levels exts uses ext) → P element.ext
unfolding elements_below
below P zero exts uses ext here each element absent = absurd absent
below P (suc levels) exts uses ext here each element (inl same) = subst (λ (e : Element). P e.ext) same here
below P (suc levels) exts uses ext here each element (inr later) =
    let under : UseRec → List Element = λ used. of_option (elements_below levels exts (uses ++ used ∷ [])) (ext_of exts used.cell) in
    let found = In-flat_map_source under element ext.uses later in
    step found.0 (ext_of exts found.0.cell) (λ child is. each child (find-In (λ one. bytes_eq one.cell found.0.cell) exts child is))
    (λ child holds. below P levels exts (uses ++ found.0 ∷ []) child holds each element) found.1.1
  where
    step : (used : UseRec) (child : Option CellExt) → ((one : CellExt) → child ≡ Some one → P one)
        → ((one : CellExt) → P one → In element (elements_below levels exts (uses ++ used ∷ []) one) → P element.ext)
        → In element (of_option (elements_below levels exts (uses ++ used ∷ [])) child) → P element.ext
    step used None holds under absent = absurd absent
    step used (Some child) holds under within = under child (holds child refl) within

-- each flat transistor is one of an element
is_of_one : (nodes : List NodeRec) (fets : List (Element × FetRec)) (flats : List FetRec) → AreFlatFets nodes fets flats → (flat : FetRec) → In flat flats
    → (fet : Element × FetRec) × (In fet fets × IsFlatFet nodes fet.0 fet.1 flat)
is_of_one nodes [] [] are flat absent = absurd absent
is_of_one nodes [] (one ∷ flats) are flat within = absurd are
is_of_one nodes (fet ∷ fets) [] are flat absent = absurd absent
is_of_one nodes (fet ∷ fets) (one ∷ flats) are flat (inl same) = (fet, (inl refl, subst (λ (f : FetRec). IsFlatFet nodes fet.0 fet.1 f) same are.0))
is_of_one nodes (fet ∷ fets) (one ∷ flats) are flat (inr later) =
    let rest = is_of_one nodes fets flats are.1 flat later in
    (rest.0, (inr rest.1.0, rest.1.1))

-- at most so much without its sign
IsUpTo : ℕ → ℤ → Type 0
IsUpTo n z = ((pos 0 -ℤ pos n) ≤ℤ z) × (z ≤ℤ pos n)

up_to_itself : (z : ℤ) → IsUpTo (unsigned_abs z) z
unfolding IsUpTo
up_to_itself (pos n) = (omega (arith, ints), omega (arith, ints))
up_to_itself (negsuc n) = (omega (arith, ints), omega (arith, ints))

up_to_abs : (n : ℕ) (z : ℤ) → IsUpTo n z → unsigned_abs z ≤ n
unfolding IsUpTo
up_to_abs n (pos m) h = let b = h.1 in omega (arith, ints, b)
up_to_abs n (negsuc m) h = let a = h.0 in omega (arith, ints, a)

-- the sum of some lengths is at most that of all without their signs
some_up_to : (test : TermRec → Bool) (sides : List TermRec)
    → IsUpTo (sum_by (λ side. unsigned_abs side.length) sides) (sum_on (λ side. cond (test side) side.length (pos 0)) sides)
unfolding IsUpTo
some_up_to test [] = (omega (arith, ints), omega (arith, ints))
some_up_to test (side ∷ sides) =
    let P : ℕ → Type 0 = λ n. IsUpTo n (cond (test side) side.length (pos 0) +ℤ sum_on (λ one. cond (test one) one.length (pos 0)) sides) in
    subst P (sym (sum_by-cons (λ (one : TermRec). unsigned_abs one.length) side sides))
    (step (test side) (up_to_itself side.length) (some_up_to test sides))
  where
    step : (t : Bool) → IsUpTo (unsigned_abs side.length) side.length
        → IsUpTo (sum_by (λ (one : TermRec). unsigned_abs one.length) sides) (sum_on (λ one. cond (test one) one.length (pos 0)) sides)
        → IsUpTo (unsigned_abs side.length + sum_by (λ (one : TermRec). unsigned_abs one.length) sides)
        (cond t side.length (pos 0) +ℤ sum_on (λ one. cond (test one) one.length (pos 0)) sides)
    step true h k = let a = h.0 in let b = h.1 in let c = k.0 in let d = k.1 in (omega (arith, ints, a, c), omega (arith, ints, b, d))
    step false h k = let c = k.0 in let d = k.1 in (omega (arith, ints, c), omega (arith, ints, d))

-- a word is not empty
word_some : (text : List ℕ) → IsTrue (is_word text) → text ≢ []
word_some text is none = cc (subst (λ (t : List ℕ). IsTrue (is_word t)) none is)

-- the flat transistor of a lawful one
pub flat_transistor_has_letter_and_lengths : FlatTransistorHasLetterAndLengths
flat_transistor_has_letter_and_lengths nodes element fet flat lawful is = record {
  letter = λ none. word_some fet.kind lawful.kind (sym is.kind ∙ none);
  lengths = All-from_In (λ side. unsigned_abs side.length < LENGTHS_EDGE) flat.terminals each;
}
  where
    each : (side : TermRec) → In side flat.terminals → unsigned_abs side.length < LENGTHS_EDGE
    each side within =
        let sum = some_up_to (λ part. bytes_eq side.node (side_name nodes element part)) fet.terminals in
        let small = up_to_abs _ side.length (subst (λ z. IsUpTo (sum_by (λ one. unsigned_abs one.length) fet.terminals) z) (sym (is.lengths side within))
        sum) in
        let all = lawful.lengths in
        omega (arith, small, all)

pub flat_transistors_have_letter_and_lengths : FlatTransistorsHaveLetterAndLengths
flat_transistors_have_letter_and_lengths exts root circuit records is =
    All-from_In HasLetterAndLengths circuit.fets each
  where
    each : (flat : FetRec) → In flat circuit.fets → HasLetterAndLengths flat
    each flat within =
        let one = is_of_one circuit.nodes (fets_of (elements_of exts is.top)) circuit.fets is.meaning.fets flat within in
        let source = In-flat_map_source fets_in one.0 (elements_of exts is.top) one.1.0 in
        let pair = In-map_source (λ fet. (source.0, fet)) one.0 source.0.ext.fets source.1.1 in
        let lawful = below IsLawful _ exts [] is.top (All-In IsLawful exts is.top records.lawful (find-In (λ ext. bytes_eq ext.cell root) exts is.top is.found))
        (λ ext there. All-In IsLawful exts ext records.lawful there) source.0 source.1.0 in
        let fet_lawful = All-In (IsLawfulFet source.0.ext) source.0.ext.fets pair.0 lawful.fets pair.1.0 in
        let flat_is = subst (λ (p : Element × FetRec). IsFlatFet circuit.nodes p.0 p.1 flat) (sym pair.1.1) one.1.1 in
        flat_transistor_has_letter_and_lengths circuit.nodes source.0 pair.0 flat fet_lawful flat_is
