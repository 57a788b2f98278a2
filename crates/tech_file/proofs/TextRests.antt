-- What is left of a text of sections, from where its first line stands.
use Rattle.tech_file.proofs.Common.{◌≡◌, ℕ, Bool, true, false, cond, List, [], ◌∷◌, ◌++◌, refl, sym, ap, subst, ◌∙◌, inl, inr, Option, Some, None}
use Rattle.tech_file.proofs.Common.{Result, Ok, codes, cases_Bool, In, Section, TechFault, Drafted, and_then-ok, Heading, Place, Between, Skipped}
use Rattle.tech_file.proofs.Common.{Within, Reading, section_named, is_end, name_alone, after, standing, draft_after, read_line, TextSection}
use Rattle.tech_file.proofs.Common.{IsSection, words_of_all, with_known, known_sections, section_in, sections_in}
use Rattle.std.specs.Str.{bytes_eq}
use Rattle.std.proofs.lemmas.Slice.Eq.{bytes_eq-Decides}

-- the words of a line
abbrev pub Words : Type 0
Words = List (List ℕ)

-- a reading without a fault
abbrev pub fine : Reading → Result Reading TechFault
fine reading = Ok reading

-- a line that is read makes a draft, and the next line stands behind it
pub line-taken : (headings : List Heading) (number : ℕ) (place : Place) (draft : Drafted) (line : Words) (state : Reading)
    → read_line headings number place draft line ≡ Ok state
    → (next : Drafted) × ((draft_after headings number place draft line ≡ Ok next) × (standing (after place line) next ≡ state))
line-taken headings number place draft line state e =
    let taken = and_then-ok (draft_after headings number place draft line) (λ next. fine (standing (after place line) next)) state e in
    let stands : fine (standing (after place line) taken.0) ≡ fine state = taken.1.1 in
    (taken.0, (taken.1.0, cc))

-- ---- what is left of a text, from where its first line stands

-- it is sections
pub record AreSections (draft : Drafted) (words : List Words) (known : List Section) (last : Drafted) : Type 0 where
  pub sections : List TextSection
  pub are : (section : TextSection) → In section sections → IsSection section
  pub words_are : words ≡ words_of_all sections
  pub known_are : known ≡ known_sections sections
  pub read : sections_in draft sections ≡ Ok last

-- it is the rest of a section, and sections
pub record IsRest (section : Option Section) (draft : Drafted) (words : List Words) (known : List Section) (last : Drafted) : Type 0 where
  pub body : List Words
  pub no_end : (line : Words) → In line body → is_end line ≡ false
  pub rest : List Words
  pub words_are : words ≡ body ++ (codes "end" ∷ []) ∷ rest
  pub next : Drafted
  pub read : section_in draft section body ≡ Ok next
  pub sections : AreSections next rest known last

-- it is that from this place
abbrev pub Remains : Place → Drafted → List Words → List Section → Drafted → Type 0
Remains Between draft words known last = AreSections draft words known last
Remains Skipped draft words known last = IsRest None draft words known last
Remains (Within section) draft words known last = IsRest (Some section) draft words known last

-- ---- words of lines

-- the one word that ends a section
pub end_word : (words : Words) → is_end words ≡ true → words ≡ codes "end" ∷ []
end_word [] is = absurd (cc)
end_word (word ∷ []) is = ap (λ (w : List ℕ). w ∷ []) ((bytes_eq-Decides word (codes "end")).0 is)
end_word (word ∷ next ∷ words) is = absurd (cc)

-- a name alone is a section's name, and the one word of its line
pub name_word : (words : Words) (word : List ℕ) → name_alone words ≡ Some word → (words ≡ word ∷ []) × (name_alone (word ∷ []) ≡ Some word)
name_word [] word is = absurd (cc)
name_word (first ∷ []) word is = elim (cases_Bool (bytes_eq first (codes "end"))) [
  | inl end ↦ (let no : None ≡ Some word = sym (ap (λ (b : Bool). cond b None (Some first)) end) ∙ is in absurd (cc))
  | inr name ↦
      let alone : name_alone (first ∷ []) ≡ Some first = ap (λ (b : Bool). cond b None (Some first)) name in
      let both : Some first ≡ Some word = sym alone ∙ is in
      let same : first ≡ word = cc in
      (ap (λ (w : List ℕ). w ∷ []) same, subst (λ (w : List ℕ). name_alone (w ∷ []) ≡ Some w) same alone)
]
name_word (first ∷ second ∷ words) word is = absurd (cc)

-- a section with its name in front
pub with_section : (draft : Drafted) (word : List ℕ) (words : List Words) (known : List Section) (last : Drafted)
    → name_alone (word ∷ []) ≡ Some word
    → IsRest (section_named word) draft words known last
    → AreSections draft ((word ∷ []) ∷ words) (with_known (section_named word) known) last
with_section draft word words known last alone rest =
    let section : TextSection = record { name = word; body = rest.body } in
    record {
      sections = section ∷ rest.sections.sections;
      are = λ s inside. elim inside [
        | inl same ↦ subst IsSection same (record { named = alone; body = rest.no_end })
        | inr later ↦ rest.sections.are s later
      ];
      words_are = ap (λ ws. (word ∷ []) ∷ ws) (rest.words_are ∙ ap (λ ws. rest.body ++ (codes "end" ∷ []) ∷ ws) rest.sections.words_are);
      known_are = ap (with_known (section_named word)) rest.sections.known_are;
      read = rw rest.read rest.sections.read;
    }

-- the end of a section that is left
pub with_end : (section : Option Section) (draft next : Drafted) (words : List Words) (known : List Section) (last : Drafted)
    → section_in draft section [] ≡ Ok next
    → AreSections next words known last → IsRest section draft ((codes "end" ∷ []) ∷ words) known last
with_end section draft next words known last read sections = record {
  body = [];
  no_end = λ line absent. absurd absent;
  rest = words;
  words_are = refl;
  next = next;
  read = read;
  sections = sections;
}

-- one more line of a section
pub with_line : (section : Option Section) (draft between : Drafted) (line : Words) (words : List Words) (known : List Section)
    (last : Drafted)
    → is_end line ≡ false
    → (rest : IsRest section between words known last) → section_in draft section (line ∷ rest.body) ≡ section_in between section rest.body
    → IsRest section draft (line ∷ words) known last
with_line section draft between line words known last goes_on rest same = record {
  body = line ∷ rest.body;
  no_end = λ other inside. elim inside [
    | inl is ↦ subst
        (λ (l : Words). is_end l ≡ false) is goes_on
    | inr later ↦ rest.no_end other later
  ];
  rest = rest.rest;
  words_are = ap (λ ws. line ∷ ws) rest.words_are;
  next = rest.next;
  read = same ∙ rest.read;
  sections = rest.sections;
}
