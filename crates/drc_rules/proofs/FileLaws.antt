-- A file of rules line by line: what it says, and where it is refused.
use Rattle.std.proofs.Common.{◌≡◌, ◌↔◌, ◌+◌, ◌≤◌, ◌<◌, ℕ, Bool, List, [], ◌∷◌, ◌++◌, length, Result, Ok, Err, refl, sym, ap, subst, ◌∙◌}
use Rattle.std.proofs.Common.{arith, inl, inr, append_assoc}
use Rattle.std.specs.Prelude.{Option, Some, None, nat_le, if◌then◌else◌}
use Rattle.std.proofs.lemmas.Bool.{cases_Bool, leb-true, leb-false, le-leb, lt-leb}
use Rattle.std.proofs.lemmas.List.{append-nil, length_push, length-append}
use Rattle.text_scan.specs.Lines.{lines_of}
use Rattle.text_form.specs.declared.reading.At.{At}
use Rattle.text_form.specs.Folds.{unless_faulty, first_fault_or, finished, last_number}
use Rattle.text_form.specs.SaidLines.{and_then, AreSaid}
use Rattle.text_form.proofs.FoldLaws.{passed, first_fault_or-first, first_fault_or-refused}
use Rattle.tech_model.specs.declared.raw.RawTech.{RawTech}
use Rattle.drc_rules.specs.declared.rules.Rule.{Rule}
use Rattle.drc_rules.specs.declared.faults.DrcFault.{DrcFault}
use Rattle.drc_rules.specs.declared.faults.DrcFault.TheVariants.{TooManyRules}
use Rattle.drc_rules.specs.declared.limits.TheConstants.{MOST_RULES}
use Rattle.drc_rules.specs.RuleLines.{line_says}
use Rattle.drc_rules.specs.RuleFiles.{with_rule, with_line, rules_of, rules_among, SayRules, HasFault, IsRefusedAt}

-- ---- one line

-- What a line that is without fault adds to these rules.
record IsAdded (raw : RawTech) (rules : List Rule) (line : List ℕ) (next : List Rule) : Type 0 where
  said : Option Rule
  says : line_says raw line ≡ Ok said
  next_is : next ≡ rules ++ rules_among (said ∷ [])
  few : length next ≤ MOST_RULES

added : (raw : RawTech) (rules : List Rule) (line : List ℕ) (next : List Rule) (found : Result (Option Rule) DrcFault)
    → length rules ≤ MOST_RULES → line_says raw line ≡ found → and_then found (with_rule rules) ≡ Ok next → IsAdded raw rules line next
added raw rules line next (Err fault) few is e = absurd (let no : ⊥ = cc in no)
added raw rules line next (Ok None) few is e =
    let same : rules ≡ next = cc in
    record { said = None; says = is; next_is = sym same ∙ sym (append-nil rules); few = subst (λ (x : List Rule). length x ≤ MOST_RULES) same few }
added raw rules line next (Ok (Some rule)) few is e = elim (cases_Bool (nat_le MOST_RULES (length rules))) [
  | inl full ↦
      let refused = rw full at e in
      absurd (let no : ⊥ = cc in no)
  | inr room ↦
      let taken = rw room at e in
      let same : rules ++ rule ∷ [] ≡ next = cc in
      let below = leb-false MOST_RULES (length rules) room in
      record { said = Some rule; says = is; next_is = sym same; few = omega (arith, below, length_push rules rule, ap length same) }
]

-- and back: a line that says this adds it
adding : (raw : RawTech) (rules : List Rule) (line : List ℕ) (said : Option Rule) → line_says raw line ≡ Ok said
    → length (rules ++ rules_among (said ∷ [])) ≤ MOST_RULES → with_line raw rules line ≡ Ok (rules ++ rules_among (said ∷ []))
adding raw rules line None says few = ap (λ found. and_then found (with_rule rules)) says ∙ ap Ok (sym (append-nil rules))
adding raw rules line (Some rule) says few =
    let room : length rules < MOST_RULES = omega (arith, length_push rules rule) in
    ap (λ found. and_then found (with_rule rules)) says
    ∙ ap (λ (test : Bool). if test then Err TooManyRules else Ok (rules ++ rule ∷ [])) (lt-leb MOST_RULES (length rules) room)

-- ---- lines that are read

-- What lines say behind these rules: the first of all has the number.
record AreAdded (raw : RawTech) (number : ℕ) (rules : List Rule) (lines : List (List ℕ)) (last : List Rule) : Type 0 where
  said : List (Option Rule)
  fine : AreSaid (λ number. line_says raw) number lines said
  last_is : last ≡ rules ++ rules_among said
  few : length last ≤ MOST_RULES

among-cons : (said : Option Rule) (rest : List (Option Rule)) → rules_among (said ∷ rest) ≡ rules_among (said ∷ []) ++ rules_among rest
among-cons None rest = refl
among-cons (Some rule) rest = refl

lines_added : (raw : RawTech) (number : ℕ) (rules : List Rule) (lines : List (List ℕ)) (last : List Rule) → length rules ≤ MOST_RULES
    → first_fault_or (λ number. with_line raw) number rules lines ≡ Ok last → AreAdded raw number rules lines last
lines_added raw number rules [] last few e =
    let same : rules ≡ last = cc in
    record { said = []; fine = tt; last_is = sym same ∙ sym (append-nil rules); few = subst (λ (x : List Rule). length x ≤ MOST_RULES) same few }
lines_added raw number rules (line ∷ lines) last few e =
    let p = passed number (with_line raw rules line) (λ next. first_fault_or (λ number. with_line raw) (number + 1) next lines) last e in
    let first = added raw rules line p.0 (line_says raw line) few refl p.1 in
    let rest = lines_added raw (number + 1) p.0 lines last first.few p.2 in
    record {
      said = first.said ∷ rest.said;
      fine = (first.says, rest.fine);
      last_is =
          rest.last_is ∙ ap (λ (x : List Rule). x ++ rules_among rest.said) first.next_is
          ∙ append_assoc rules (rules_among (first.said ∷ [])) (rules_among rest.said)
          ∙ ap (λ (x : List Rule). rules ++ x) (sym (among-cons first.said rest.said));
      few = rest.few;
    }

adding_lines : (raw : RawTech) (number : ℕ) (rules : List Rule) (lines : List (List ℕ)) (said : List (Option Rule))
    → AreSaid (λ number. line_says raw) number lines said → length (rules ++ rules_among said) ≤ MOST_RULES
    → first_fault_or (λ number. with_line raw) number rules lines ≡ Ok (rules ++ rules_among said)
adding_lines raw number rules [] [] are few = ap Ok (sym (append-nil rules))
adding_lines raw number rules [] (x ∷ said) are few = absurd are
adding_lines raw number rules (line ∷ lines) [] are few = absurd are
adding_lines raw number rules (line ∷ lines) (x ∷ said) are few =
    let next : List Rule = rules ++ rules_among (x ∷ []) in
    let whole : rules ++ rules_among (x ∷ said) ≡ next ++ rules_among said =
    ap (λ (r : List Rule). rules ++ r) (among-cons x said) ∙ sym (append_assoc rules (rules_among (x ∷ [])) (rules_among said)) in
    let count = length-append next (rules_among said) in
    let less : length next ≤ MOST_RULES = omega (arith, count, ap length whole) in
    ap (λ found. unless_faulty number found (λ state. first_fault_or (λ number. with_line raw) (number + 1) state lines)) (adding raw rules line x are.0 less)
    ∙ adding_lines raw (number + 1) next lines said are.1 (omega (arith, ap length whole)) ∙ ap Ok (sym whole)

-- the end of a file has no fault
read_whole : (last : ℕ) (found : Result (List Rule) (At DrcFault)) (rules : List Rule) → finished Ok last found ≡ Ok rules → found ≡ Ok rules
read_whole last (Ok state) rules e = e
read_whole last (Err other) rules e = absurd (let no : ⊥ = cc in no)

refused_whole : (last : ℕ) (found : Result (List Rule) (At DrcFault)) (at : At DrcFault) → finished Ok last found ≡ Err at → found ≡ Err at
refused_whole last (Ok state) at e = absurd (let no : ⊥ = cc in no)
refused_whole last (Err other) at e = e

-- A file is read exactly where its lines say rules: these are those that it gives.
pub rules_of-Ok : (raw : RawTech) (text : List ℕ) (rules : List Rule) → (rules_of raw text ≡ Ok rules) ↔ SayRules raw (lines_of text) rules
unfolding rules_of
rules_of-Ok raw text rules =
    let step = λ (number : ℕ). with_line raw in
    let none : List Rule = [] in
    let found = first_fault_or step 1 none (lines_of text) in
    let last = last_number (lines_of text) in
    let few : length none ≤ MOST_RULES = omega arith in (
      λ e.
          let added = lines_added raw 1 none (lines_of text) rules few (read_whole last found rules e) in
          record { said = added.said; fine = added.fine; rules_are = added.last_is; few = added.few },
      λ say.
          let fits : length (rules_among say.said) ≤ MOST_RULES = subst (λ (x : List Rule). length x ≤ MOST_RULES) say.rules_are say.few in
          ap (finished Ok last) (adding_lines raw 1 none (lines_of text) say.said say.fine fits) ∙ ap Ok (sym say.rules_are),
    )

-- ---- a line that is refused

faulty : (raw : RawTech) (rules : List Rule) (line : List ℕ) (fault : DrcFault) (found : Result (Option Rule) DrcFault)
    → length rules ≤ MOST_RULES → line_says raw line ≡ found → and_then found (with_rule rules) ≡ Err fault → HasFault raw rules line fault
faulty raw rules line fault (Err other) few is e = let same : other ≡ fault = cc in inl (is ∙ ap Err same)
faulty raw rules line fault (Ok None) few is e = absurd (let no : ⊥ = cc in no)
faulty raw rules line fault (Ok (Some rule)) few is e = elim (cases_Bool (nat_le MOST_RULES (length rules))) [
  | inl full ↦
      let refused = rw full at e in
      let same : TooManyRules ≡ fault = cc in
      let above = leb-true MOST_RULES (length rules) full in
      inr (record { rule = rule; said = is; full = omega (arith, above); fault_is = sym same })
  | inr room ↦
      let taken = rw room at e in
      absurd (let no : ⊥ = cc in no)
]

refusing : (raw : RawTech) (rules : List Rule) (line : List ℕ) (fault : DrcFault) → HasFault raw rules line fault
    → with_line raw rules line ≡ Err fault
refusing raw rules line fault (inl own) = ap (λ found. and_then found (with_rule rules)) own
refusing raw rules line fault (inr more) =
    let full = le-leb MOST_RULES (length rules) (omega (arith, more.full)) in
    ap (λ found. and_then found (with_rule rules)) more.said
    ∙ ap (λ (test : Bool). if test then Err TooManyRules else Ok (rules ++ more.rule ∷ [])) full ∙ ap Err (sym more.fault_is)

-- A file is refused exactly at its first faulty line.
pub rules_of-Err : (raw : RawTech) (text : List ℕ) (at : At DrcFault) → (rules_of raw text ≡ Err at) ↔ IsRefusedAt raw text at
unfolding rules_of
rules_of-Err raw text at =
    let step = λ (number : ℕ). with_line raw in
    let none : List Rule = [] in
    let lines = lines_of text in
    let found = first_fault_or step 1 none lines in
    let last = last_number lines in
    let few : length none ≤ MOST_RULES = omega arith in (
      λ e.
          let first = first_fault_or-first step 1 none lines at (refused_whole last found at e) in
          let added = lines_added raw 1 none first.before first.state few first.fine in
          record {
            before = first.before;
            line = first.line;
            after = first.after;
            rules = first.state;
            lines_are = first.lines_are;
            fine = record { said = added.said; fine = added.fine; rules_are = added.last_is; few = added.few };
            numbered = first.numbered;
            faulty = faulty raw first.state first.line at.fault (line_says raw first.line) added.few refl first.faulty;
          },
      λ is.
          let fits : length (rules_among is.fine.said) ≤ MOST_RULES = subst (λ (x : List Rule). length x ≤ MOST_RULES) is.fine.rules_are is.fine.few in
          ap (finished Ok last) (first_fault_or-refused step 1 none lines at (record {
            before = is.before;
            line = is.line;
            after = is.after;
            state = is.rules;
            lines_are = is.lines_are;
            fine = adding_lines raw 1 none is.before is.fine.said is.fine.fine fits ∙ ap Ok (sym is.fine.rules_are);
            numbered = is.numbered;
            faulty = refusing raw is.rules is.line at.fault is.faulty;
          })),
    )
