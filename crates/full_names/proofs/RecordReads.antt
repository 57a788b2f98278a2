-- What is read of an element's record.
use Rattle.full_names.proofs.Common.{◌≡◌, ℕ, ◌<◌, List, [], Option, Some, None, length, get_or, refl, sym, ◌∙◌, ap, subst, arith, slice_get, vec_len}
use Rattle.full_names.proofs.Common.{length-map, get_or-map, slice_get_read, TreeElement, OwnName, RecordNames, locals_of, globals_of, no_element}
use Rattle.full_names.proofs.Common.{flat_at, AreOfRecords, Place, count_at, text_at}

pub locals_known : (records : List RecordNames) (cell : ℕ) (own : RecordNames) → slice_get records cell ≡ Some own
    → locals_of records cell ≡ own.locals.items
locals_known records cell own has = ap (λ (o : Option RecordNames). elim o as (λ _. List OwnName) [ None ↦ [] | Some r ↦ r.locals.items ]) has

pub globals_known : (records : List RecordNames) (cell : ℕ) (own : RecordNames) → slice_get records cell ≡ Some own
    → globals_of records cell ≡ own.globals.items
globals_known records cell own has = ap (λ (o : Option RecordNames). elim o as (λ _. List OwnName) [ None ↦ [] | Some r ↦ r.globals.items ]) has

-- the record of an element of a list is one of so many
pub cell_within : (flats items : List TreeElement) (count number : ℕ) → items ≡ flats → AreOfRecords count flats → number < length items
    → (flat_at items number).cell < count
cell_within flats items count number same are within =
    subst (λ (list : List TreeElement). (flat_at list number).cell < count) (sym same)
    (are number no_element (subst (λ (list : List TreeElement). number < length list) same within))

-- what is read for the element with a number is what its record has
pub record_read : (flats items : List TreeElement) (records : List RecordNames) (number : ℕ) (own : RecordNames) → items ≡ flats
    → AreOfRecords (length records) flats → number < length items → own ≡ get_or records (flat_at items number).cell own
    → slice_get records (flat_at flats number).cell ≡ Some own
record_read flats items records number own same are within read =
    ap (λ (list : List TreeElement). slice_get records (flat_at list number).cell) (sym same)
    ∙ slice_get_read records (length records) (flat_at items number).cell own refl (cell_within flats items (length records) number same are within) read

-- how many of the record's names are not global
pub count_read : (flats : List TreeElement) (records : List RecordNames) (number : ℕ) (own : RecordNames) (n : ℕ)
    → slice_get records (flat_at flats number).cell ≡ Some own → n ≡ vec_len own.locals → n ≡ count_at flats records number
count_read flats records number own n has long =
    long ∙ own.locals.ok.0 ∙ ap length (sym (locals_known records (flat_at flats number).cell own has))
    ∙ sym (length-map (locals_of records (flat_at flats number).cell) (λ (name : OwnName). name.text.now))

-- the text that is read at a place
pub text_read : (flats : List TreeElement) (records : List RecordNames) (place : Place) (own : RecordNames) (name : OwnName)
    → slice_get records (flat_at flats place.element).cell ≡ Some own → place.own < count_at flats records place.element
    → name ≡ get_or own.locals.items place.own name → name.text.now ≡ text_at flats records place
text_read flats records place own name has within read =
    let names = locals_of records (flat_at flats place.element).cell in
    let known = locals_known records (flat_at flats place.element).cell own has in
    let inside : place.own < length names = omega (arith, within, length-map names (λ (n : OwnName). n.text.now)) in
    ap (λ (n : OwnName). n.text.now) (read ∙ ap (λ (list : List OwnName). get_or list place.own name) (sym known))
    ∙ sym (get_or-map (λ (n : OwnName). n.text.now) names place.own name [] inside)
