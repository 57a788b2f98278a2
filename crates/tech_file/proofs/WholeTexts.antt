-- What a text gives: the technology of its sections, or its first fault.
use Rattle.tech_file.proofs.Common.{◌≡◌, ◌≢◌, ◌+◌, ◌==◌, ◌&&◌, ℕ, Bool, true, false, List, [], ◌∷◌, length, refl, sym, ap, subst, ◌∙◌, arith, inl}
use Rattle.tech_file.proofs.Common.{inr, Option, Some, None, Result, Ok, option_map, cases_Bool, In, lines_of, At, first_fault_or, last_number}
use Rattle.tech_file.proofs.Common.{Section, TechFault, Drafted, empty_draft, rule-ok, Place, Between, Skipped, Within, Heading, Reading, content_of}
use Rattle.tech_file.proofs.Common.{after, headings_of, place_after, standing, read_line, known_sections, words_in}
use Rattle.std.specs.Prelude.{is_none, Err, ◌↔◌}
use Rattle.std.specs.Option.{option_or}
use Rattle.std.proofs.lemmas.Bool.{eq-eqb, true≢false}
use Rattle.finite_sets.proofs.Searches.{find-none, none_found, option_map-none, option_or-none}
use Rattle.text_form.proofs.FoldLaws.{passed, first_fault_or-refused, first_fault_or-first}
use Rattle.tech_model.specs.declared.raw.RawTech.{RawTech}
use Rattle.tech_model.specs.declared.faults.TechFault.TheVariants.{NoSection, BadForm}
use Rattle.tech_model.specs.Rules.{rule_fault}
use Rattle.tech_draft.specs.Finished.{finished}
use Rattle.tech_file.specs.declared.reading.TechAt.{TechAt}
use Rattle.tech_file.specs.Sections.{required}
use Rattle.tech_file.specs.Outlines.{line_of, is_in_section, ends_open, missing}
use Rattle.tech_file.specs.Reading.{line_step, step_in, text_reading, fault_at, told, whole_fault, unless_broken}
use Rattle.tech_file.specs.Reading.{checked_reading, technology_of}
use Rattle.tech_file.specs.Texts.{AreInOrder, IsTechText, IsTechnologyOf, IsRefusedAt}
use Rattle.tech_file.proofs.HeadingLaws.{openings, sections_of, in_place-order, order-in_place, begins-somewhere, is-heading}
use Rattle.tech_file.proofs.TextRests.{line-taken, AreSections}
use Rattle.tech_file.proofs.ReadTexts.{remains-read}
use Rattle.tech_file.proofs.SectionTexts.{read-remains}
use Rattle.tech_file.proofs.WholeLaws.{finished_name}

-- ---- texts that end between sections

-- the last line of a text whose last section has no end is faulty
unended-refused : (headings : List Heading) (last number : ℕ) (line : List ℕ) (lines : List (List ℕ)) (start state : Reading)
    → number + length lines ≡ last
    → first_fault_or (line_step headings last true) number start (line ∷ lines) ≡ Ok state → ⊥
unended-refused headings last number line [] start state count e =
    let p = passed number (line_step headings last true number start line)
    (λ next. first_fault_or (line_step headings last true) (number + 1) next []) state e in
    let here : number ≡ last = omega (arith, count) in
    let faulty = rule-ok (number == last) BadForm (read_line headings number start.place start.draft (content_of line)) p.0 p.1 in
    true≢false (sym (eq-eqb number last here) ∙ faulty.0)
unended-refused headings last number line (next ∷ lines) start state count e =
    let p = passed number (line_step headings last true number start line)
    (λ next_state. first_fault_or (line_step headings last true) (number + 1) next_state (next ∷ lines)) state e in
    unended-refused headings last (number + 1) next lines p.0 state (omega (arith, count)) p.2

ended : (lines : List (List ℕ)) (state : Reading) → text_reading lines ≡ Ok state → ends_open lines ≡ false
ended [] state e = refl
ended (line ∷ lines) state e = elim (cases_Bool (ends_open (line ∷ lines))) [
  | inl unended ↦
      let count : 1 + length lines ≡ last_number (line ∷ lines) = omega arith in
      absurd (unended-refused (headings_of (line ∷ lines)) (last_number (line ∷ lines)) 1 line lines
      (standing Between empty_draft) state count
      (subst (λ (b : Bool). first_fault_or (line_step (headings_of (line ∷ lines)) (last_number (line ∷ lines)) b) 1
      (standing Between empty_draft) (line ∷ lines) ≡ Ok state) unended e))
  | inr fine ↦ fine
]

-- lines that are read end where their words say
ends-at : (headings : List Heading) (end : ℕ) (unended : Bool) (number : ℕ) (place : Place) (draft : Drafted) (lines : List (List ℕ))
    (state : Reading)
    → first_fault_or (line_step headings end unended) number (standing place draft) lines ≡ Ok state → state.place ≡ place_after place lines
ends-at headings end unended number place draft [] state e = let same : standing place draft
    ≡ state = cc in ap (λ (r : Reading). r.place) (sym same)
ends-at headings end unended number place draft (line ∷ lines) state e =
    let p = passed number (line_step headings end unended number (standing place draft) line)
    (λ next. first_fault_or (line_step headings end unended) (number + 1) next lines) state e in
    let read = rule-ok (unended && number == end) BadForm (read_line headings number place draft (content_of line)) p.0 p.1 in
    ends-at headings end unended (number + 1) p.0.place p.0.draft lines state p.2
    ∙ ap (λ (r : Reading). place_after r.place lines) (sym (line-taken headings number place draft (content_of line) p.0 read.1).1.1)

between : (place : Place) → is_in_section place ≡ false → place ≡ Between
between Between outside = refl
between Skipped outside = absurd (true≢false outside)
between (Within section) outside = absurd (true≢false outside)

-- a text that is read ends between sections
pub reads-to_end : (lines : List (List ℕ)) (state : Reading) → text_reading lines ≡ Ok state
    → text_reading lines ≡ Ok (standing Between state.draft)
reads-to_end lines state e =
    let at = ends-at (headings_of lines) (last_number lines) (ends_open lines) 1 Between empty_draft lines state e in
    let outside = between (place_after Between lines) (ended lines state e) in
    e ∙ ap (λ (p : Place). right (standing p state.draft)) (at ∙ outside)
  where
    right : Reading → Result Reading (At TechFault)
    right reading = Ok reading

-- ---- what is missing

none-missing : (lines : List (List ℕ)) (name : List ℕ) → missing (headings_of lines) name ≡ None
    → (name ≢ []) × ((section : Section) → In section required → In section (sections_of (openings 1 Between lines)))
none-missing lines [] none = absurd (cc)
none-missing lines (byte ∷ name) none = (
  (λ empty. let no : ⊥ = cc in no),
  λ section inside. begins-somewhere lines section
      (find-none (λ (s : Section). is_none (line_of (headings_of lines) s)) required section none inside),
)

all-present : (lines : List (List ℕ)) (name : List ℕ) → name ≢ []
    → ((section : Section) → In section required → In section (sections_of (openings 1 Between lines)))
    → missing (headings_of lines) name ≡ None
all-present lines [] some present = absurd (some refl)
all-present lines (byte ∷ name) some present =
    none_found (λ (s : Section). is_none (line_of (headings_of lines) s)) required
    (λ section inside. is-heading lines section (present section inside))

-- ---- the technology

abbrev right-raw : RawTech → Result RawTech TechAt
right-raw raw = Ok raw

unless_broken-ok : (last : ℕ) (raw after : RawTech) (fault : Option TechFault) → unless_broken last raw fault ≡ Ok after
    → (fault ≡ None) × (raw ≡ after)
unless_broken-ok last raw after None e = (refl, cc)
unless_broken-ok last raw after (Some fault) e = absurd (cc)

text-form : (lines : List (List ℕ)) (draft : Drafted) → text_reading lines ≡ Ok (standing Between draft)
    → missing (headings_of lines) draft.raw.name ≡ None → IsTechText lines draft
text-form lines draft read none =
    let left = remains-read (headings_of lines) (last_number lines) (ends_open lines) 1 Between empty_draft lines draft read in
    let there = none-missing lines draft.raw.name none in
    record {
      sections = left.0.sections;
      are_sections = left.0.are;
      words = left.0.words_are;
      in_order = subst AreInOrder left.0.known_are (in_place-order lines left.1);
      read = left.0.read;
      present = λ section inside. subst (In section) left.0.known_are (there.1 section inside);
      named = there.0;
    }

form-read : (lines : List (List ℕ)) (draft : Drafted) → IsTechText lines draft
    → (text_reading lines ≡ Ok (standing Between draft)) × (missing (headings_of lines) draft.raw.name ≡ None)
form-read lines draft text =
    let known = sections_of (openings 1 Between lines) in
    let left : AreSections empty_draft (words_in lines) (known_sections text.sections) draft = record {
      sections = text.sections;
      are = text.are_sections;
      words_are = text.words;
      known_are = refl;
      read = text.read;
    } in
    let on = read-remains (headings_of lines) (last_number lines) 1 Between empty_draft lines (known_sections text.sections) draft left in
    let outside : ends_open lines ≡ false = ap is_in_section on.ends in
    let order : AreInOrder known = subst AreInOrder (sym on.begin) text.in_order in (
      subst (λ (b : Bool). first_fault_or (line_step (headings_of lines) (last_number lines) b) 1 (standing Between empty_draft) lines
          ≡ Ok (standing Between draft)) (sym outside)
          (on.reads (order-in_place lines order)),
      all-present lines draft.raw.name text.named (λ section inside. subst (In section) (sym on.begin) (text.present section inside)),
    )

from-reading : (lines : List (List ℕ)) (raw : RawTech) (reading : Result Reading (At TechFault)) → text_reading lines ≡ reading
    → checked_reading lines (told reading) ≡ Ok raw → IsTechnologyOf lines raw
from-reading lines raw (Err at) read e = absurd (cc)
from-reading lines raw (Ok state) read e =
    let broken = unless_broken-ok (last_number lines) (finished state.draft) raw
    (whole_fault (headings_of lines) (finished state.draft)) e in
    let faults = option_or-none (option_map NoSection (missing (headings_of lines) (finished state.draft).name))
    (rule_fault (finished state.draft)) broken.0 in
    let none = option_map-none NoSection (missing (headings_of lines) (finished state.draft).name) faults.0 in (
      state.draft,
      (
        text-form lines state.draft (reads-to_end lines state read)
            (subst (λ (name : List ℕ). missing (headings_of lines) name ≡ None) (finished_name state.draft) none),
        (sym broken.1, subst (λ (r : RawTech). rule_fault r ≡ None) broken.1 faults.1),
      ),
    )

to-technology : (lines : List (List ℕ)) (raw : RawTech) → IsTechnologyOf lines raw
    → checked_reading lines (told (text_reading lines)) ≡ Ok raw
to-technology lines raw is =
    let draft = is.0 in
    let read = form-read lines draft is.1.0 in
    let none : missing (headings_of lines) (finished draft).name
    ≡ None = subst (λ (name : List ℕ). missing (headings_of lines) name ≡ None) (sym (finished_name draft)) read.1 in
    let lawful : rule_fault (finished draft) ≡ None = subst (λ (r : RawTech). rule_fault r ≡ None) is.1.1.0 is.1.1.1 in
    ap (λ found. checked_reading lines (told found)) read.0
    ∙ ap (λ (o : Option Section). unless_broken (last_number lines) (finished draft)
    (option_or (option_map NoSection o) (rule_fault (finished draft)))) none
    ∙ ap (unless_broken (last_number lines) (finished draft)) lawful
    ∙ ap right-raw (sym is.1.1.0)

-- A text gives a technology exactly where it is one of sections that say it.
pub technology-form : (text : List ℕ) (raw : RawTech) → (technology_of text ≡ Ok raw) ↔ IsTechnologyOf (lines_of text) raw
unfolding technology_of
technology-form text raw = (
  (λ e. from-reading (lines_of text) raw (text_reading (lines_of text)) refl e),
  (λ is. to-technology (lines_of text) raw is),
)

-- ---- the first fault

abbrev right-at : TechAt → Result RawTech TechAt
right-at at = Err at

unless_broken-err : (last : ℕ) (raw : RawTech) (at : TechAt) (fault : Option TechFault) → unless_broken last raw fault ≡ Err at
    → (at.line ≡ last) × (fault ≡ Some at.fault)
unless_broken-err last raw at None e = absurd (cc)
unless_broken-err last raw at (Some fault) e =
    let same : fault_at last fault ≡ at = cc in
    (ap (λ (a : TechAt). a.line) (sym same), ap (λ (a : TechAt). Some a.fault) same)

from-fault : (lines : List (List ℕ)) (at : TechAt) (reading : Result Reading (At TechFault)) → text_reading lines ≡ reading
    → checked_reading lines (told reading) ≡ Err at → IsRefusedAt lines at
from-fault lines at (Err first) read e =
    let same : fault_at first.line first.fault ≡ at = cc in
    inl (first_fault_or-first (step_in lines) 1 (standing Between empty_draft) lines (record { line = at.line; fault = at.fault })
    (subst (λ (a : TechAt). text_reading lines ≡ Err (record { line = a.line; fault = a.fault })) same read))
from-fault lines at (Ok state) read e =
    let broken = unless_broken-err (last_number lines) (finished state.draft) at
    (whole_fault (headings_of lines) (finished state.draft)) e in
    inr (state.draft, ((state.place, read), broken))

to-fault : (lines : List (List ℕ)) (at : TechAt) → IsRefusedAt lines at → checked_reading lines (told (text_reading lines)) ≡ Err at
to-fault lines at (inl first) =
    ap (λ found. checked_reading lines (told found))
    (first_fault_or-refused (step_in lines) 1 (standing Between empty_draft) lines (record { line = at.line; fault = at.fault }) first)
to-fault lines at (inr whole) =
    ap (λ found. checked_reading lines (told found)) whole.1.0.1
    ∙ ap (unless_broken (last_number lines) (finished whole.0)) whole.1.1.1
    ∙ ap (λ (n : ℕ). right-at (fault_at n at.fault)) (sym whole.1.1.0)

-- A text is refused exactly for its first fault.
pub technology-refused : (text : List ℕ) (at : TechAt) → (technology_of text ≡ Err at) ↔ IsRefusedAt (lines_of text) at
unfolding technology_of
technology-refused text at = (
  (λ e. from-fault (lines_of text) at (text_reading (lines_of text)) refl e),
  (λ is. to-fault (lines_of text) at is),
)
