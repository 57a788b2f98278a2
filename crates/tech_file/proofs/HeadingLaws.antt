-- The first headings of each section, among all lines where a section begins.
use Rattle.tech_file.proofs.Common.{◌≡◌, ◌≢◌, ◌+◌, ◌==◌, ◌&&◌, ℕ, Bool, true, false, List, [], ◌∷◌, ◌++◌, refl, sym, ap, subst, ◌∙◌, arith, inl, inr}
use Rattle.tech_file.proofs.Common.{Option, Some, None, option_map, option_map_or, cases_Bool, In, Section, Place, Between, Heading, content_of}
use Rattle.tech_file.proofs.Common.{after, section_at, headings_from, headings_of}
use Rattle.std.proofs.Common.{◌<◌, ◌≤◌}
use Rattle.std.proofs.Common.{map}
use Rattle.std.specs.Prelude.{nat_lt, is_some, is_none, find, if◌then◌else◌}
use Rattle.std.specs.List.{list_any}
use Rattle.std.proofs.lemmas.Bool.{cases_lt, cases_eq, eqb-true, eqb-false, and_parts, ltb-true, ltb-false, lt-ltb}
use Rattle.std.proofs.lemmas.Bool.{le-ltb, true≢false}
use Rattle.std.proofs.lemmas.List.{append-nil}
use Rattle.std.proofs.Common.{append_assoc}
use Rattle.finite_sets.proofs.Members.{In-append_left, In-push, In-push_cases, In-map, In-map_source}
use Rattle.finite_sets.proofs.Searches.{find-In, find-none, find-passes, list_any-In, list_any-source}
use Rattle.tech_model.specs.declared.faults.Section.TheVariants.{Tech, Planes, Types, Contact, Compose, Connect, Extract}
use Rattle.tech_file.specs.Sections.{rank}
use Rattle.tech_file.specs.Outlines.{line_of, with_heading, is_too_early, is_second}
use Rattle.tech_file.specs.Texts.{AreInOrder}

-- a heading at this line, where a section begins there
abbrev pub opened_by : ℕ → Option Section → List Heading → List Heading
opened_by number None headings = headings
opened_by number (Some section) headings = record { line = number; section = section } ∷ headings

-- all lines where a section begins
abbrev pub openings : ℕ → Place → List (List ℕ) → List Heading
openings number place [] = []
openings number place (line ∷ lines) = opened_by number (section_at place (content_of line))
    (openings (number + 1) (after place (content_of line)) lines)

-- the sections that begin there
abbrev pub sections_of : List Heading → List Section
sections_of headings = map (λ heading. heading.section) headings

-- the first headings of each section, behind these
abbrev firsts : List Heading → List Heading → List Heading
firsts before [] = before
firsts before (o ∷ os) = firsts (with_heading before o.line (Some o.section)) os

firsts-opened : (before : List Heading) (number : ℕ) (section : Option Section) (os : List Heading)
    → firsts (with_heading before number section) os ≡ firsts before (opened_by number section os)
firsts-opened before number None os = refl
firsts-opened before number (Some section) os = refl

headings-firsts : (before : List Heading) (number : ℕ) (place : Place) (lines : List (List ℕ))
    → headings_from before number place lines ≡ firsts before (openings number place lines)
headings-firsts before number place [] = refl
headings-firsts before number place (line ∷ lines) =
    headings-firsts (with_heading before number (section_at place (content_of line))) (number + 1) (after place (content_of line)) lines
    ∙ firsts-opened before number (section_at place (content_of line)) (openings (number + 1) (after place (content_of line)) lines)

-- ---- what the first headings have

abbrev has_rank : Section → Heading → Bool
has_rank section heading = rank heading.section == rank section

-- The headings are some of the openings, one for each section among these, which is not behind any other of it.
record AreFirsts (firsts os : List Heading) : Type 0 where
  among : (h : Heading) → In h firsts → In h os
  unique : (g h : Heading) → In g firsts → In h firsts → rank g.section ≡ rank h.section → g ≡ h
  covered : (o : Heading) → In o os → (h : Heading) × (In h firsts × ((rank h.section ≡ rank o.section) × (h.line ≤ o.line)))

found_line : (headings : List Heading) (section : Section) (o : Option Heading) → find (has_rank section) headings ≡ o
    → is_some (option_map (λ (h : Heading). h.line) o) ≡ true
    → (h : Heading) × (In h headings × (rank h.section ≡ rank section))
found_line headings section None found some = absurd (true≢false (sym some))
found_line headings section (Some h) found some = (
  h,
  (
    find-In (has_rank section) headings h found,
    eqb-true (rank h.section) (rank section)
        (find-passes (has_rank section) headings h found),
  ),
)

no_line : (headings : List Heading) (section : Section) (o : Option Heading) → find (has_rank section) headings ≡ o
    → is_some (option_map (λ (h : Heading). h.line) o) ≡ false
    → (h : Heading) → In h headings → rank h.section ≢ rank section
no_line headings section None none missing h inside = eqb-false (rank h.section) (rank section)
    (find-none (has_rank section) headings h none inside)
no_line headings section (Some g) found missing h inside = absurd (true≢false missing)

push_firsts : (before os : List Heading) (o : Heading) → AreFirsts before os → ((h : Heading) → In h os → h.line < o.line)
    → AreFirsts (with_heading before o.line (Some o.section)) (os ++ o ∷ [])
push_firsts before os o firsts below = elim (cases_Bool (is_some (line_of before o.section))) [
  | inl there ↦
      let had = found_line before o.section (find (has_rank o.section) before) refl there in
      rw there (record {
        among = λ h inside. In-append_left h os (o ∷ []) (firsts.among h inside);
        unique = firsts.unique;
        covered = λ x inside. elim (In-push_cases x os o inside) [
          | inl before_it ↦ firsts.covered x before_it
          | inr same ↦ subst (λ (y : Heading). (h : Heading) × (In h before × ((rank h.section ≡ rank y.section) × (h.line ≤ y.line)))) same
              (had.0, (had.1.0, (had.1.1, (let less = below had.0 (firsts.among had.0 had.1.0) in omega (arith, less)))))
        ];
      })
  | inr new ↦
      let none = no_line before o.section (find (has_rank o.section) before) refl new in
      rw new (record {
        among = λ h inside. elim (In-push_cases h before o inside) [
          | inl old ↦ In-append_left h os (o ∷ []) (firsts.among h old)
          | inr same ↦ subst (λ (y : Heading). In y (os ++ o ∷ [])) same (In-push os o)
        ];
        unique = λ g h g_in h_in same. elim (In-push_cases g before o g_in) [
          | inl g_old ↦ elim (In-push_cases h before o h_in) [
            | inl h_old ↦ firsts.unique g h g_old h_old same
            | inr h_new ↦ absurd (none g g_old (same ∙ ap (λ (y : Heading). rank y.section) (sym h_new)))
          ]
          | inr g_new ↦ elim (In-push_cases h before o h_in) [
            | inl h_old ↦ absurd (none h h_old (sym same ∙ ap (λ (y : Heading). rank y.section) (sym g_new)))
            | inr h_new ↦ sym g_new ∙ h_new
          ]
        ];
        covered = λ x inside. elim (In-push_cases x os o inside) [
          | inl old ↦ (let had = firsts.covered x old in (had.0, (In-append_left had.0 before (o ∷ []) had.1.0, had.1.1)))
          | inr same ↦ subst (λ (y : Heading). (h : Heading)
              × (In h (before ++ o ∷ []) × ((rank h.section ≡ rank y.section) × (h.line ≤ y.line)))) same
              (o, (In-push before o, (refl, omega arith)))
        ];
      })
]

-- lines from this number on, each behind the one before
abbrev pub AreAscending : ℕ → List Heading → Type 0
AreAscending number [] = Unit {0}
AreAscending number (o ∷ os) = (number ≤ o.line) × AreAscending (o.line + 1) os

all_firsts : (before os more : List Heading) (number : ℕ) → AreFirsts before os → ((h : Heading) → In h os → h.line < number)
    → AreAscending number more → AreFirsts (firsts before more) (os ++ more)
all_firsts before os [] number are below ascending = subst (AreFirsts before) (sym (append-nil os)) are
all_firsts before os (o ∷ more) number are below ascending =
    let pushed = push_firsts before os o are (λ h inside. (let less = below h inside in omega (arith, less, ascending.0))) in
    let next : (h : Heading) → In h (os ++ o ∷ []) → h.line < o.line + 1 = λ h inside. elim (In-push_cases h os o inside) [
      | inl old ↦ (let less = below h old in omega (arith, less, ascending.0))
      | inr same ↦ (let at : o.line ≡ h.line = ap (λ (y : Heading). y.line) same in omega (arith, at))
    ] in
    let rest = all_firsts (with_heading before o.line (Some o.section)) (os ++ o ∷ []) more (o.line + 1) pushed next ascending.1 in
    rw append_assoc at rest

-- a section begins neither too early nor a second time
pub record IsInPlace (headings : List Heading) (o : Heading) : Type 0 where
  pub not_early : is_too_early headings o.line o.section ≡ false
  pub not_second : is_second headings o.line o.section ≡ false

-- ---- sections in their order

ascending_above : (number : ℕ) (os : List Heading) (o : Heading) → AreAscending number os → In o os → number ≤ o.line
ascending_above number [] o ascending absent = absurd absent
ascending_above number (x ∷ os) o ascending (inl same) = let at : x.line
    ≡ o.line = ap (λ (y : Heading). y.line) same in omega (arith, at, ascending.0)
ascending_above number (x ∷ os) o ascending (inr later) = let above = ascending_above (x.line + 1) os o ascending.1 later in omega
    (arith, above, ascending.0)

-- where a line is not behind the first one of its section, it is not behind this one
not_behind : (headings os : List Heading) (section : Section) (number : ℕ) (h : Heading) (found : Option Heading) → AreFirsts headings os
    → In h headings
    → rank h.section ≡ rank section → find (has_rank section) headings ≡ found
    → option_map_or (λ first. nat_lt first number) (option_map (λ (g : Heading). g.line) found) false ≡ false → number ≤ h.line
not_behind headings os section number h None are inside of none fine =
    absurd (eqb-false (rank h.section) (rank section) (find-none (has_rank section) headings h none inside) of)
not_behind headings os section number h (Some g) are inside of found fine =
    let g_rank = eqb-true (rank g.section) (rank section) (find-passes (has_rank section) headings g found) in
    let same = are.unique g h (find-In (has_rank section) headings g found) inside (g_rank ∙ sym of) in
    let at : g.line ≡ h.line = ap (λ (y : Heading). y.line) same in
    let late = ltb-false g.line number fine in
    omega (arith, at, late)

-- of two lines that are in place the later one has the later section
ranks_differ : (headings os : List Heading) (o p : Heading) → AreFirsts headings os → In o os → In p os → o.line < p.line
    → IsInPlace headings o → IsInPlace headings p
    → rank o.section < rank p.section
ranks_differ headings os o p are o_in p_in before o_fine p_fine =
    let h = are.covered p p_in in
    let late = not_behind headings os p.section p.line h.0 (find (has_rank p.section) headings) are h.1.0 h.1.1.0 refl p_fine.not_second in
    elim (cases_lt (rank o.section) (rank p.section)) [
      | inl less ↦ less
      | inr more ↦ elim (cases_eq (rank o.section) (rank p.section)) [
        | inl same ↦
            let g = are.covered o o_in in
            let one = are.unique g.0 h.0 g.1.0 h.1.0 (g.1.1.0 ∙ same ∙ sym h.1.1.0) in
            let at : g.0.line ≡ h.0.line = ap (λ (y : Heading). y.line) one in
            let first = g.1.1.1 in
            absurd (omega (arith, at, first, before, late))
        | inr apart ↦
            let test = list_any-In (λ (y : Heading). nat_lt (rank y.section)
            (rank o.section) && nat_lt o.line y.line) headings h.0 o_fine.not_early h.1.0 in
            let of_h = h.1.1.0 in
            let less : rank h.0.section < rank o.section = omega (arith, of_h, more, apart) in
            let later : o.line < h.0.line = omega (arith, before, late) in
            absurd (true≢false (sym (rw (lt-ltb (rank h.0.section) (rank o.section) less, lt-ltb o.line h.0.line later) refl) ∙ test))
      ]
    ]

in_order : (headings os rest : List Heading) (number : ℕ) → AreFirsts headings os → ((o : Heading) → In o rest → In o os)
    → AreAscending number rest
    → ((o : Heading) → In o os → IsInPlace headings o) → AreInOrder (sections_of rest)
in_order headings os [] number are within ascending fine = tt
in_order headings os (o ∷ rest) number are within ascending fine = (
  (λ section inside.
      let source = In-map_source (λ (y : Heading). y.section) section rest inside in
      let p = source.0 in
      let above = ascending_above (o.line + 1) rest p ascending.1 source.1.0 in
      let o_in = within o (inl refl) in
      let p_in = within p (inr source.1.0) in
      subst (λ (s : Section). rank o.section < rank s) source.1.1
      (ranks_differ headings os o p are o_in p_in (omega (arith, above)) (fine o o_in) (fine p p_in))),
  in_order headings os rest (o.line + 1) are (λ p inside. within p (inr inside)) ascending.1 fine,
)

-- lines in the order of their sections have ranks that rise
ranks_rise : (os : List Heading) (number : ℕ) → AreAscending number os → AreInOrder (sections_of os) → (o p : Heading) → In o os → In p os
    → o.line < p.line
    → rank o.section < rank p.section
ranks_rise [] number ascending order o p absent p_in less = absurd absent
ranks_rise (x ∷ os) number ascending order o p (inl o_is) (inl p_is) less =
    let at : o.line ≡ p.line = ap (λ (y : Heading). y.line) (sym o_is ∙ p_is) in absurd (omega (arith, at, less))
ranks_rise (x ∷ os) number ascending order o p (inl o_is) (inr p_in) less =
    let of : rank x.section ≡ rank o.section = ap (λ (y : Heading). rank y.section) o_is in
    let rises = order.0 p.section (In-map (λ (y : Heading). y.section) p os p_in) in omega (arith, of, rises)
ranks_rise (x ∷ os) number ascending order o p (inr o_in) (inl p_is) less =
    let at : x.line ≡ p.line = ap (λ (y : Heading). y.line) p_is in
    let above = ascending_above (x.line + 1) os o ascending.1 o_in in absurd (omega (arith, at, above, less))
ranks_rise (x ∷ os) number ascending order o p (inr o_in) (inr p_in) less = ranks_rise os
    (x.line + 1) ascending.1 order.1 o p o_in p_in less

second_fails : (headings os : List Heading) (number : ℕ) (o : Heading) (found : Option Heading) → AreFirsts headings os
    → AreAscending number os → AreInOrder (sections_of os)
    → In o os → find (has_rank o.section) headings ≡ found
    → option_map_or (λ first. nat_lt first o.line) (option_map (λ (g : Heading). g.line) found) false ≡ false
second_fails headings os number o None are ascending order inside none = refl
second_fails headings os number o (Some g) are ascending order inside found = elim (cases_lt g.line o.line) [
  | inl before ↦
      let g_rank = eqb-true (rank g.section) (rank o.section) (find-passes (has_rank o.section) headings g found) in
      let rises = ranks_rise os number ascending order g o (are.among g (find-In (has_rank o.section) headings g found)) inside before in
      absurd (omega (arith, g_rank, rises))
  | inr late ↦ le-ltb g.line o.line late
]

in_place : (headings os : List Heading) (number : ℕ) → AreFirsts headings os → AreAscending number os → AreInOrder (sections_of os)
    → (o : Heading) → In o os → IsInPlace headings o
in_place headings os number are ascending order o inside =
    let test = λ (y : Heading). nat_lt (rank y.section) (rank o.section) && nat_lt o.line y.line in
    record {
      not_early = elim (cases_Bool (list_any test headings)) [
        | inl early ↦
            let h = list_any-source test headings early in
            let both = and_parts (nat_lt (rank h.0.section) (rank o.section)) (nat_lt o.line h.0.line) h.1.1 in
            let rises = ranks_rise os number ascending order o h.0 inside (are.among h.0 h.1.0) (ltb-true o.line h.0.line both.1) in
            let less = ltb-true (rank h.0.section) (rank o.section) both.0 in
            absurd (omega (arith, rises, less))
        | inr fine ↦ fine
      ];
      not_second = second_fails headings os number o (find (has_rank o.section) headings) are ascending order inside refl;
    }

-- ---- the headings of a text

ascending_from : (m n : ℕ) (os : List Heading) → m ≤ n → AreAscending n os → AreAscending m os
ascending_from m n [] less ascending = tt
ascending_from m n (o ∷ os) less ascending = (omega (arith, less, ascending.0), ascending.1)

opened_ascending : (number : ℕ) (section : Option Section) (os : List Heading) → AreAscending (number + 1) os
    → AreAscending number (opened_by number section os)
opened_ascending number None os ascending = ascending_from number (number + 1) os (omega arith) ascending
opened_ascending number (Some section) os ascending = (omega arith, ascending)

openings_ascending : (number : ℕ) (place : Place) (lines : List (List ℕ)) → AreAscending number (openings number place lines)
openings_ascending number place [] = tt
openings_ascending number place (line ∷ lines) =
    opened_ascending number (section_at place (content_of line)) (openings (number + 1) (after place (content_of line)) lines)
    (openings_ascending (number + 1) (after place (content_of line)) lines)

no_firsts : AreFirsts [] []
no_firsts = record { among = λ h absent. absent; unique = λ g h absent other same. absurd absent; covered = λ o absent. absurd absent }

headings-are_firsts : (lines : List (List ℕ)) → AreFirsts (headings_of lines) (openings 1 Between lines)
headings-are_firsts lines =
    subst (λ (hs : List Heading). AreFirsts hs (openings 1 Between lines)) (sym (headings-firsts [] 1 Between lines))
    (all_firsts [] [] (openings 1 Between lines) 1 no_firsts (λ h absent. absurd absent) (openings_ascending 1 Between lines))

-- Sections begin in place exactly where they are in order.
pub in_place-order : (lines : List (List ℕ)) → ((o : Heading) → In o (openings 1 Between lines) → IsInPlace (headings_of lines) o)
    → AreInOrder (sections_of (openings 1 Between lines))
in_place-order lines fine =
    let os = openings 1 Between lines in
    in_order (headings_of lines) os os 1 (headings-are_firsts lines) (λ o inside. inside) (openings_ascending 1 Between lines) fine

-- sections in order begin in place
pub order-in_place : (lines : List (List ℕ)) → AreInOrder (sections_of (openings 1 Between lines)) → (o : Heading)
    → In o (openings 1 Between lines) → IsInPlace (headings_of lines) o
order-in_place lines order o inside =
    in_place (headings_of lines) (openings 1 Between lines) 1 (headings-are_firsts lines)
    (openings_ascending 1 Between lines) order o inside

-- ---- which sections are there

-- the section of this rank
abbrev section_at_rank : ℕ → Section
section_at_rank n =
    if n == 0 then Tech else if n == 1 then Planes else if n == 2 then Types else if n == 3 then Contact
    else if n == 4 then Compose else if n == 5 then Connect else Extract

ranked : (section : Section) → section_at_rank (rank section) ≡ section
ranked Tech = refl
ranked Planes = refl
ranked Types = refl
ranked Contact = refl
ranked Compose = refl
ranked Connect = refl
ranked Extract = refl

known_line : (lines : List (List ℕ)) (section : Section) (o : Option Heading) → find (has_rank section) (headings_of lines) ≡ o
    → is_none (option_map (λ (h : Heading). h.line) o) ≡ false → In section (sections_of (openings 1 Between lines))
known_line lines section None found some = absurd (true≢false some)
known_line lines section (Some h) found some =
    let os = openings 1 Between lines in
    let of = eqb-true (rank h.section) (rank section) (find-passes (has_rank section) (headings_of lines) h found) in
    let inside = (headings-are_firsts lines).among h (find-In (has_rank section) (headings_of lines) h found) in
    let same : h.section ≡ section = sym (ranked h.section) ∙ ap section_at_rank of ∙ ranked section in
    subst (λ (s : Section). In s (sections_of os)) same (In-map (λ (y : Heading). y.section) h os inside)

-- a section that is among the headings begins somewhere
pub begins-somewhere : (lines : List (List ℕ)) (section : Section) → is_none (line_of (headings_of lines) section) ≡ false
    → In section (sections_of (openings 1 Between lines))
begins-somewhere lines section some = known_line lines section (find (has_rank section) (headings_of lines)) refl some

some_line : (lines : List (List ℕ)) (section : Section) (h : Heading) (o : Option Heading) → find (has_rank section) (headings_of lines) ≡ o
    → In h (headings_of lines)
    → rank h.section ≡ rank section → is_none (option_map (λ (g : Heading). g.line) o) ≡ false
some_line lines section h None none inside of = absurd
    (eqb-false (rank h.section) (rank section) (find-none (has_rank section) (headings_of lines) h none inside) of)
some_line lines section h (Some g) found inside of = refl

-- a section that begins somewhere is among the headings
pub is-heading : (lines : List (List ℕ)) (section : Section) → In section (sections_of (openings 1 Between lines))
    → is_none (line_of (headings_of lines) section) ≡ false
is-heading lines section inside =
    let source = In-map_source (λ (y : Heading). y.section) section (openings 1 Between lines) inside in
    let h = (headings-are_firsts lines).covered source.0 source.1.0 in
    some_line lines section h.0 (find (has_rank section) (headings_of lines)) refl h.1.0 (h.1.1.0 ∙ ap rank source.1.1)
