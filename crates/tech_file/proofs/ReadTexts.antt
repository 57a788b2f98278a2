-- A text that is read is one of sections.
use Rattle.tech_file.proofs.Common.{◌≡◌, ◌⊎◌, ◌+◌, ◌==◌, ◌&&◌, ℕ, Bool, cond, List, [], ◌∷◌, refl, sym, ap, subst, ◌∙◌, inl, inr, Option, Some, None}
use Rattle.tech_file.proofs.Common.{Result, Ok, option_and_then, option_map_or, cases_Bool, In, At, first_fault_or, and_then, Section, TechFault}
use Rattle.tech_file.proofs.Common.{Drafted, right, and_then-ok, rule-ok, Place, Between, Skipped, Within, Heading, Reading, section_named}
use Rattle.tech_file.proofs.Common.{content_of, is_end, name_alone, opened, after, section_at, standing, draft_after, read_line, words_in}
use Rattle.tech_file.proofs.Common.{with_known, lines_in, section_in}
use Rattle.std.specs.Prelude.{not, Err, if◌then◌else◌}
use Rattle.text_form.proofs.FoldLaws.{passed}
use Rattle.tech_model.specs.declared.faults.TechFault.TheVariants.{BadForm, Twice}
use Rattle.tech_draft.specs.Lines.{line_in}
use Rattle.tech_file.specs.Places.{says_nothing}
use Rattle.tech_file.specs.Outlines.{is_too_early, is_second}
use Rattle.tech_file.specs.Reading.{begun, read_between, end_of, read_within, line_step}
use Rattle.tech_file.proofs.HeadingLaws.{opened_by, openings, sections_of, IsInPlace}
use Rattle.tech_file.proofs.TextRests.{Words, line-taken, AreSections, IsRest, Remains, end_word, name_word, with_section, with_end, with_line}

rest_of : (section : Option Section) (draft : Drafted) (words : List Words) (known : List Section) (last : Drafted)
    → Remains (option_map_or Within section Skipped) draft words known last → IsRest section draft words known last
rest_of None draft words known last rest = rest
rest_of (Some section) draft words known last rest = rest

-- a section that begins is in place
begun-ok : (headings : List Heading) (number : ℕ) (word : List ℕ) (section : Option Section) → begun headings number word section ≡ Ok tt
    → (o : Heading) → In o (opened_by number section []) → IsInPlace headings o
begun-ok headings number word None e o absent = absurd absent
begun-ok headings number word (Some section) e o (inl is) =
    let early = rule-ok (is_too_early headings number section) BadForm
    (if is_second headings number section then Err (Twice word) else Ok tt) tt e in
    let second = rule-ok (is_second headings number section) (Twice word) (Ok tt) tt early.1 in
    subst (IsInPlace headings) is (record { not_early = early.0; not_second = second.0 })
begun-ok headings number word (Some section) e o (inr none) = absurd none

opened_cases : (number : ℕ) (section : Option Section) (os : List Heading) (o : Heading) → In o (opened_by number section os)
    → In o (opened_by number section []) ⊎ In o os
opened_cases number None os o inside = inr inside
opened_cases number (Some section) os o (inl same) = inl (inl same)
opened_cases number (Some section) os o (inr later) = inr later

-- one more section that means something
pub opened_sections : (number : ℕ) (section : Option Section) (os : List Heading)
    → sections_of (opened_by number section os) ≡ with_known section (sections_of os)
opened_sections number None os = refl
opened_sections number (Some section) os = refl

-- the words of a line that says something, in front of others
abbrev pub in_front : Words → List Words → List Words
in_front line words = cond (not (says_nothing line)) (line ∷ words) words

-- what one line shows: what was left before it, and that a section that begins with it is in place
record Shows (headings : List Heading) (number : ℕ) (place : Place) (draft : Drafted) (line : Words) (words : List Words)
    (os : List Heading) (last : Drafted) : Type 0 where
  remains : Remains place draft (in_front line words) (sections_of (opened_by number (section_at place line) os)) last
  in_place : (o : Heading) → In o (opened_by number (section_at place line) []) → IsInPlace headings o

between-shows : (headings : List Heading) (number : ℕ) (draft : Drafted) (first : List ℕ) (others : Words) (words : List Words)
    (os : List Heading) (last : Drafted) (name : Option (List ℕ)) → name_alone (first ∷ others) ≡ name
    → read_between headings number name ≡ Ok tt → Remains (after Between (first ∷ others)) draft words (sections_of os) last
    → Shows headings number Between draft (first ∷ others) words os last
between-shows headings number draft first others words os last None named read rest = absurd (cc)
between-shows headings number draft first others words os last (Some word) named read rest =
    let is = name_word (first ∷ others) word named in
    let opens : section_at Between (first ∷ others) ≡ section_named word = ap (option_and_then section_named) named in
    let moves : after Between (first ∷ others)
    ≡ option_map_or Within (section_named word) Skipped = ap (λ (o : Option (List ℕ)). option_map_or opened o Between) named in
    let here = subst (λ (p : Place). Remains p draft words (sections_of os) last) moves rest in
    let all = with_section draft word words (sections_of os) last is.1 (rest_of (section_named word) draft words (sections_of os) last here) in
    record {
      remains = rw (opens, opened_sections number (section_named word) os, is.0) all;
      in_place = rw opens (begun-ok headings number word (section_named word) read);
    }

skipped-shows : (headings : List Heading) (number : ℕ) (draft : Drafted) (first : List ℕ) (others : Words) (words : List Words)
    (os : List Heading) (last : Drafted) → Remains (after Skipped (first ∷ others)) draft words (sections_of os) last
    → Shows headings number Skipped draft (first ∷ others) words os last
skipped-shows headings number draft first others words os last rest =
    let line = first ∷ others in
    record {
      remains = elim (cases_Bool (is_end line)) [
        | inl ends ↦
            let sections : AreSections draft words (sections_of os) last = rw ends at rest in
            rw (end_word line ends) (with_end None draft draft words (sections_of os) last refl sections)
        | inr goes_on ↦
            let more : IsRest None draft words (sections_of os) last = rw goes_on at rest in
            with_line None draft draft line words (sections_of os) last goes_on more refl
      ];
      in_place = λ o absent. absurd absent;
    }

-- a line that is read in front of others
line_first : (section : Section) (draft next : Drafted) (line : Words) (body : List Words) → line_in section draft line ≡ Ok next
    → section_in draft (Some section) (line ∷ body) ≡ section_in next (Some section) body
line_first section draft next line body read =
    ap (λ (found : Result Drafted TechFault). and_then (and_then found (λ d. lines_in section d body))
    (λ d. end_of section d.raw.name d)) read

within-shows : (headings : List Heading) (number : ℕ) (section : Section) (draft next : Drafted) (first : List ℕ) (others : Words)
    (words : List Words) (os : List Heading) (last : Drafted) → read_within section draft (first ∷ others) ≡ Ok next
    → Remains (after (Within section) (first ∷ others)) next words (sections_of os) last
    → Shows headings number (Within section) draft (first ∷ others) words os last
within-shows headings number section draft next first others words os last read rest =
    let line = first ∷ others in
    record {
      remains = elim (cases_Bool (is_end line)) [
        | inl ends ↦
            let sections : AreSections next words (sections_of os) last = rw ends at rest in
            rw (end_word line ends) (with_end (Some section) draft next words (sections_of os) last (rw ends at read) sections)
        | inr goes_on ↦
            let more : IsRest (Some section) next words (sections_of os) last = rw goes_on at rest in
            with_line (Some section) draft next line words (sections_of os) last goes_on more
            (line_first section draft next line more.body (rw goes_on at read))
      ];
      in_place = λ o absent. absurd absent;
    }

-- no section begins at a line that says nothing
pub no_section : (place : Place) → section_at place [] ≡ None
no_section Between = refl
no_section Skipped = refl
no_section (Within section) = refl

line-shows : (headings : List Heading) (number : ℕ) (place : Place) (draft next : Drafted) (line : Words) (words : List Words)
    (os : List Heading) (last : Drafted) → draft_after headings number place draft line ≡ Ok next
    → Remains (after place line) next words (sections_of os) last → Shows headings number place draft line words os last
line-shows headings number place draft next [] words os last read rest =
    let same : draft ≡ next = cc in
    record {
      remains = rw (no_section place) (subst (λ (d : Drafted). Remains place d words (sections_of os) last) (sym same) rest);
      in_place = rw (no_section place) (λ o absent. absurd absent);
    }
line-shows headings number Between draft next (first ∷ others) words os last read rest =
    let step = and_then-ok (read_between headings number (name_alone (first ∷ others))) (λ _. right draft) next read in
    let stays : right draft ≡ right next = step.1.1 in
    let same : draft ≡ next = cc in
    between-shows headings number draft first others words os last (name_alone (first ∷ others)) refl step.1.0
    (subst (λ (d : Drafted). Remains (after Between (first ∷ others)) d words (sections_of os) last) (sym same) rest)
line-shows headings number Skipped draft next (first ∷ others) words os last read rest =
    let same : draft ≡ next = cc in
    skipped-shows headings number draft first others words os last
    (subst (λ (d : Drafted). Remains (after Skipped (first ∷ others)) d words (sections_of os) last) (sym same) rest)
line-shows headings number (Within section) draft next (first ∷ others) words os last read rest =
    within-shows headings number section draft next first others words os last read rest

-- lines that end between sections
ends_between : (place : Place) (draft last : Drafted) → standing place draft ≡ standing Between last → Remains place draft [] [] last
ends_between Between draft last e =
    let same = ap (λ (r : Reading). r.draft) e in
    record {
      sections = [];
      are = λ s absent. absurd absent;
      words_are = refl;
      known_are = refl;
      read = ap
          (λ (d : Drafted). right d) same;
    }
ends_between Skipped draft last e = let at : Skipped ≡ Between = ap (λ (r : Reading). r.place) e in absurd (cc)
ends_between (Within section) draft last e = let at : Within section ≡ Between = ap (λ (r : Reading). r.place) e in absurd (cc)

abbrev read : Reading → Result Reading (At TechFault)
read reading = Ok reading

same_reading : (before after : Reading) → read before ≡ read after → before ≡ after
same_reading before after e = cc

-- what is left of a text that is read to its end, and that its sections begin in place
pub remains-read : (headings : List Heading) (end : ℕ) (unended : Bool) (number : ℕ) (place : Place) (draft : Drafted)
    (lines : List (List ℕ)) (last : Drafted)
    → first_fault_or (line_step headings end unended) number (standing place draft) lines ≡ Ok (standing Between last)
    → Remains place draft (words_in lines) (sections_of (openings number place lines)) last
    × ((o : Heading) → In o (openings number place lines) → IsInPlace headings o)
remains-read headings end unended number place draft [] last e =
    (ends_between place draft last (same_reading (standing place draft) (standing Between last) e), λ o absent. absurd absent)
remains-read headings end unended number place draft (line ∷ lines) last e =
    let content = content_of line in
    let p = passed number (line_step headings end unended number (standing place draft) line)
    (λ next. first_fault_or (line_step headings end unended) (number + 1) next lines) (standing Between last) e in
    let read = rule-ok (unended && number == end) BadForm (read_line headings number place draft content) p.0 p.1 in
    let taken = line-taken headings number place draft content p.0 read.1 in
    let os = openings (number + 1) (after place content) lines in
    let rest = remains-read headings end unended (number + 1) (after place content) taken.0 lines last
    (subst (λ (r : Reading). first_fault_or (line_step headings end unended) (number + 1) r lines ≡ Ok (standing Between last))
    (sym taken.1.1) p.2) in
    let shows = line-shows headings number place draft taken.0 content (words_in lines) os last taken.1.0 rest.0 in (
      shows.remains,
      λ o inside. elim (opened_cases number (section_at place content) os o inside) [
        | inl here ↦ shows.in_place o here
        | inr later ↦ rest.1 o later
      ],
    )
