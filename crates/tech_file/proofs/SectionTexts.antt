-- A text of sections is read.
use Rattle.tech_file.proofs.Common.{◌≡◌, ◌⊎◌, ◌+◌, ℕ, true, false, List, [], ◌∷◌, ◌++◌, refl, sym, ap, subst, ◌∙◌, inl, inr, Option, Some, None}
use Rattle.tech_file.proofs.Common.{Result, Ok, codes, option_and_then, option_map_or, In, first_fault_or, and_then, Section, TechFault, Drafted}
use Rattle.tech_file.proofs.Common.{right, and_then-ok, Place, Between, Skipped, Within, Heading, section_named, content_of, is_end, name_alone}
use Rattle.tech_file.proofs.Common.{opened, after, section_at, place_after, standing, draft_after, TextSection, IsSection, words_of_all, words_in}
use Rattle.tech_file.proofs.Common.{with_known, known_sections, lines_in, section_in, sections_in}
use Rattle.text_form.specs.Folds.{unless_faulty}
use Rattle.tech_draft.specs.Lines.{line_in}
use Rattle.tech_file.specs.Reading.{begun, read_between, end_of, line_step}
use Rattle.tech_file.proofs.HeadingLaws.{opened_by, openings, sections_of, IsInPlace}
use Rattle.tech_file.proofs.TextRests.{Words, AreSections, IsRest, Remains}
use Rattle.tech_file.proofs.ReadTexts.{opened_sections, in_front, no_section}

-- What a line does: it makes a draft, and what is left is left; a section that begins with it must be in place.
record Reads (headings : List Heading) (number : ℕ) (place : Place) (draft : Drafted) (line : Words) (words : List Words)
    (known : List Section) (last : Drafted) : Type 0 where
  next : Drafted
  later : List Section
  remains : Remains (after place line) next words later last
  known_are : known ≡ with_known (section_at place line) later
  reads : ((o : Heading) → In o (opened_by number (section_at place line) []) → IsInPlace headings o)
      → draft_after headings number place draft line ≡ Ok next

-- the first of these words, and the others
cons-same : {X : Type 0} (x y : X) (xs ys : List X) → x ∷ xs ≡ y ∷ ys → (x ≡ y) × (xs ≡ ys)
cons-same x y xs ys e = (cc, cc)

begins-well : (headings : List Heading) (number : ℕ) (word : List ℕ) (section : Option Section)
    → ((o : Heading) → In o (opened_by number section []) → IsInPlace headings o) → begun headings number word section ≡ Ok tt
begins-well headings number word None fine = refl
begins-well headings number word (Some section) fine =
    let here = fine (record { line = number; section = section }) (inl refl) in
    rw (here.not_early, here.not_second) refl

remains-of : (section : Option Section) (draft : Drafted) (words : List Words) (known : List Section) (last : Drafted)
    → IsRest section draft words known last → Remains (option_map_or Within section Skipped) draft words known last
remains-of None draft words known last rest = rest
remains-of (Some section) draft words known last rest = rest

between-reads : (headings : List Heading) (number : ℕ) (draft : Drafted) (first : List ℕ) (others : Words) (words : List Words)
    (known : List Section) (last : Drafted) (sections : List TextSection)
    → ((s : TextSection) → In s sections → IsSection s) → (first ∷ others) ∷ words ≡ words_of_all sections → known ≡ known_sections sections
    → sections_in draft sections ≡ Ok last
    → Reads headings number Between draft (first ∷ others) words known last
between-reads headings number draft first others words known last [] are words_are known_are read = absurd (let no : ⊥ = cc in no)
between-reads headings number draft first others words known last (s ∷ sections) are words_are known_are read =
    let parts = cons-same (first ∷ others) (s.name ∷ []) words (s.body ++ (codes "end" ∷ []) ∷ words_of_all sections) words_are in
    let section = are s (inl refl) in
    let named : name_alone (first ∷ others) ≡ Some s.name = ap name_alone parts.0 ∙ section.named in
    let opens : section_at Between (first ∷ others) ≡ section_named s.name = ap (option_and_then section_named) named in
    let moves : after Between (first ∷ others)
    ≡ option_map_or Within (section_named s.name) Skipped = ap (λ (o : Option (List ℕ)). option_map_or opened o Between) named in
    let step = and_then-ok (section_in draft (section_named s.name) s.body) (λ next. sections_in next sections) last read in
    let rest : IsRest (section_named s.name) draft words (known_sections sections) last = record {
      body = s.body;
      no_end = section.body;
      rest = words_of_all sections;
      words_are = parts.1;
      next = step.0;
      read = step.1.0;
      sections = record { sections = sections; are = λ x inside. are x (inr inside); words_are = refl; known_are = refl; read = step.1.1 };
    } in
    record {
      next = draft;
      later = known_sections sections;
      remains = subst (λ (p : Place). Remains p draft words (known_sections sections) last) (sym moves)
          (remains-of (section_named s.name) draft words (known_sections sections) last rest);
      known_are = rw opens known_are;
      reads = λ fine.
          let begun_at = begins-well headings number s.name (section_named s.name) (rw opens at fine) in
          ap (λ (o : Option (List ℕ)). and_then (read_between headings number o) (λ _. right draft)) named
          ∙ ap (λ (found : Result (Unit {0}) TechFault). and_then found (λ _. right draft)) begun_at;
    }

-- the first line of what is left of a section
rest-first : (section : Option Section) (draft : Drafted) (line : Words) (words : List Words) (known : List Section) (last : Drafted)
    (body rest : List Words) (next : Drafted)
    → ((l : Words) → In l body → is_end l ≡ false) → line ∷ words ≡ body ++ (codes "end" ∷ []) ∷ rest
    → section_in draft section body ≡ Ok next → AreSections next rest known last
    → ((line ≡ codes "end" ∷ []) × ((section_in draft section [] ≡ Ok next) × AreSections next words known last))
    ⊎ ((more : List Words) × ((is_end line ≡ false)
    × (((l : Words) → In l more → is_end l ≡ false)
    × ((words ≡ more ++ (codes "end" ∷ []) ∷ rest) × (section_in draft section (line ∷ more) ≡ Ok next)))))
rest-first section draft line words known last [] rest next no_end words_are read sections =
    let parts = cons-same line (codes "end" ∷ []) words rest words_are in
    inl (parts.0, (read, subst (λ ws. AreSections next ws known last) (sym parts.1) sections))
rest-first section draft line words known last (x ∷ body) rest next no_end words_are read sections =
    let parts = cons-same line x words (body ++ (codes "end" ∷ []) ∷ rest) words_are in
    inr (
      body,
      (
        (subst (λ (l : Words). is_end l ≡ false) (sym parts.0) (no_end x (inl refl))),
        (
          (λ l inside. no_end l (inr inside)),
          (parts.1, subst (λ (l : Words). section_in draft section (l ∷ body) ≡ Ok next) (sym parts.0) read),
        ),
      ),
    )

skipped-reads : (headings : List Heading) (number : ℕ) (draft : Drafted) (first : List ℕ) (others : Words) (words : List Words)
    (known : List Section) (last : Drafted)
    → IsRest None draft ((first ∷ others) ∷ words) known last → Reads headings number Skipped draft (first ∷ others) words known last
skipped-reads headings number draft first others words known last rest =
    let line = first ∷ others in
    elim (rest-first None draft line words known last rest.body rest.rest rest.next rest.no_end rest.words_are rest.read rest.sections) [
      | inl ended ↦
          let ends : is_end line ≡ true = ap is_end ended.0 in
          let same : draft ≡ rest.next = let e = ended.1.0 in cc in
          record {
            next = draft;
            later = known;
            remains = rw ends (subst (λ (d : Drafted). AreSections d words known last) (sym same) ended.1.1);
            known_are = refl;
            reads = λ fine. refl;
          }
      | inr goes_on ↦ record {
        next = draft;
        later = known;
        remains =
            let more : IsRest None draft words known last = record {
              body = goes_on.0;
              no_end = goes_on.1.1.0;
              rest = rest.rest;
              words_are = goes_on.1.1.1.0;
              next = rest.next;
              read = goes_on.1.1.1.1;
              sections = rest.sections;
            } in
            rw goes_on.1.0 more;
        known_are = refl;
        reads = λ fine. refl;
      }
    ]

within-reads : (headings : List Heading) (number : ℕ) (section : Section) (draft : Drafted) (first : List ℕ) (others : Words)
    (words : List Words) (known : List Section) (last : Drafted)
    → IsRest (Some section) draft ((first ∷ others) ∷ words) known last
    → Reads headings number (Within section) draft (first ∷ others) words known last
within-reads headings number section draft first others words known last rest =
    let line = first ∷ others in
    elim (rest-first
    (Some section) draft line words known last rest.body rest.rest rest.next rest.no_end rest.words_are rest.read rest.sections) [
      | inl ended ↦
          let ends : is_end line ≡ true = ap is_end ended.0 in
          record {
            next = rest.next;
            later = known;
            remains = rw ends ended.1.1;
            known_are = refl;
            reads = λ fine. rw ends ended.1.0;
          }
      | inr goes_on ↦
          let whole = and_then-ok (lines_in section draft (line ∷ goes_on.0))
          (λ next. end_of section next.raw.name next) rest.next goes_on.1.1.1.1 in
          let step = and_then-ok (line_in section draft line) (λ next. lines_in section next goes_on.0) whole.0 whole.1.0 in
          let more : IsRest (Some section) step.0 words known last = record {
            body = goes_on.0;
            no_end = goes_on.1.1.0;
            rest = rest.rest;
            words_are = goes_on.1.1.1.0;
            next = rest.next;
            read = ap (λ (found : Result Drafted TechFault). and_then found (λ next. end_of section next.raw.name next)) step.1.1
                ∙ whole.1.1;
            sections = rest.sections;
          } in
          record {
            next = step.0;
            later = known;
            remains = rw goes_on.1.0 more;
            known_are = refl;
            reads = λ fine. rw goes_on.1.0 step.1.0;
          }
    ]

says-reads : (headings : List Heading) (number : ℕ) (place : Place) (draft : Drafted) (first : List ℕ) (others : Words) (words : List Words)
    (known : List Section) (last : Drafted)
    → Remains place draft ((first ∷ others) ∷ words) known last → Reads headings number place draft (first ∷ others) words known last
says-reads headings number Between draft first others words known last rest =
    between-reads headings number draft first others words known last rest.sections rest.are rest.words_are rest.known_are rest.read
says-reads headings number Skipped draft first others words known last rest =
    skipped-reads headings number draft first others words known last rest
says-reads headings number (Within section) draft first others words known last rest =
    within-reads headings number section draft first others words known last rest

line-reads : (headings : List Heading) (number : ℕ) (place : Place) (draft : Drafted) (line : Words) (words : List Words)
    (known : List Section) (last : Drafted)
    → Remains place draft (in_front line words) known last → Reads headings number place draft line words known last
line-reads headings number place draft [] words known last rest = record {
  next = draft;
  later = known;
  remains = rest;
  known_are = rw (no_section place) refl;
  reads = λ fine. refl;
}
line-reads headings number place draft
    (first ∷ others) words known last rest = says-reads headings number place draft first others words known last rest

not_empty : (body rest : List Words) → [] ≡ body ++ (codes "end" ∷ []) ∷ rest → ⊥
not_empty [] rest e = let no : ⊥ = cc in no
not_empty (line ∷ body) rest e = let no : ⊥ = cc in no

-- nothing is left
nothing-left : (place : Place) (draft : Drafted) (known : List Section) (last : Drafted) → Remains place draft [] known last
    → (place ≡ Between) × ((draft ≡ last) × (known ≡ []))
nothing-left Between draft known last rest = no_sections rest.sections rest.words_are rest.known_are rest.read
  where
    no_sections : (sections : List TextSection) → [] ≡ words_of_all sections → known ≡ known_sections sections → sections_in draft sections
        ≡ Ok last → (Between ≡ Between) × ((draft ≡ last) × (known ≡ []))
    no_sections [] words_are known_are read = (refl, (cc, known_are))
    no_sections (s ∷ sections) words_are known_are read = absurd (let no : ⊥ = cc in no)
nothing-left Skipped draft known last rest = absurd (not_empty rest.body rest.rest rest.words_are)
nothing-left (Within section) draft known last rest = absurd (not_empty rest.body rest.rest rest.words_are)

-- What is left of a text of that form: its sections are those that begin in it, it ends between sections, and where they begin in place it
-- is read.
pub record IsReadOn (headings : List Heading) (end : ℕ) (number : ℕ) (place : Place) (draft : Drafted) (lines : List (List ℕ))
    (known : List Section) (last : Drafted) : Type 0 where
  pub begin : sections_of (openings number place lines) ≡ known
  pub ends : place_after place lines ≡ Between
  pub reads : ((o : Heading) → In o (openings number place lines) → IsInPlace headings o)
      → first_fault_or (line_step headings end false) number (standing place draft) lines ≡ Ok (standing Between last)

opened_in : (number : ℕ) (section : Option Section) (os : List Heading) (o : Heading) → In o (opened_by number section [])
    → In o (opened_by number section os)
opened_in number None os o absent = absurd absent
opened_in number (Some section) os o (inl same) = inl same
opened_in number (Some section) os o (inr absent) = absurd absent

opened_later : (number : ℕ) (section : Option Section) (os : List Heading) (o : Heading) → In o os → In o (opened_by number section os)
opened_later number None os o inside = inside
opened_later number (Some section) os o inside = inr inside

-- what is left of a text of that form is read on
pub read-remains : (headings : List Heading) (end : ℕ) (number : ℕ) (place : Place) (draft : Drafted) (lines : List (List ℕ))
    (known : List Section) (last : Drafted)
    → Remains place draft (words_in lines) known last → IsReadOn headings end number place draft lines known last
read-remains headings end number place draft [] known last rest =
    let none = nothing-left place draft known last rest in
    record {
      begin = sym none.1.1;
      ends = none.0;
      reads = λ fine. rw (none.0, none.1.0) refl;
    }
read-remains headings end number place draft (line ∷ lines) known last rest =
    let content = content_of line in
    let here = line-reads headings number place draft content (words_in lines) known last rest in
    let at = after place content in
    let on = read-remains headings end (number + 1) at here.next lines here.later last here.remains in
    let os = openings (number + 1) at lines in
    record {
      begin = opened_sections number (section_at place content) os ∙ ap (with_known (section_at place content)) on.begin
          ∙ sym here.known_are;
      ends = on.ends;
      reads = λ fine.
          let read = here.reads (λ o inside. fine o (opened_in number (section_at place content) os o inside)) in
          ap (λ (found : Result Drafted TechFault). unless_faulty number (and_then found (λ next. Ok (standing at next)))
          (λ next. first_fault_or (line_step headings end false) (number + 1) next lines)) read
          ∙ on.reads (λ o inside. fine o (opened_later number (section_at place content) os o inside));
    }
