-- A written text is read as the circuit that it was written from.
use Rattle.sim_text.proofs.Common.{◌≡◌, ◌≤◌, ℕ, ℤ, Bool, cond, List, [], ◌∷◌, ◌++◌, map, Ok, Err, sym, ap, ◌∙◌, append_assoc, append-nil, fold}
use Rattle.sim_text.proofs.Common.{AllByRecursion, first_fault_or, text_state, ended_at, last_number, and_then, saying, NoHeader, SimFet, SimFile}
use Rattle.sim_text.proofs.Common.{SimLine, Header, Fet, Cap, Alias, says, words_saying, saying_cap, saying_alias}
use Rattle.std.proofs.lemmas.List.Sums.{fold-append}
use Rattle.text_scan.specs.Written.{IsLine}
use Rattle.text_scan.proofs.WrittenLemmas.{lines_of-text_of, IsLine-line_of}
use Rattle.text_form.specs.Folds.{unless_faulty}
use Rattle.text_form.proofs.FoldLaws.{text_state-ended}
use Rattle.text_form.proofs.SaidLaws.{reads_said}
use Rattle.sim_text.specs.SimTexts.{nothing_yet, with_line, with_header, sim_in}
use Rattle.sim_text.specs.WrittenTexts.{line_saying, body_of, sim_text}
use Rattle.sim_text.specs.Writable.{IsWritableFet, IsWritableCap, IsWritableAlias, IsWritable}
use Rattle.sim_text.proofs.WrittenLines.{has_name, says-Header, says-Fet, says-Cap, says-Alias, words-Header, words-Fet, words-Cap, words-Alias}

-- A line that is written behind the first one is a line, and is read back.
record IsReadBack (said : SimLine) : Type 0 where
  is_line : IsLine (line_saying said)
  back : (k : ℕ) → 2 ≤ k → says k (line_saying said) ≡ Ok said

fets_back : (fets : List SimFet) → AllByRecursion IsWritableFet fets → AllByRecursion IsReadBack (map Fet fets)
fets_back [] all = tt
fets_back (fet ∷ fets) all =
    (record { is_line = IsLine-line_of (words_saying (Fet fet)) (words-Fet fet all.0); back = λ k above. says-Fet k fet above all.0 }, fets_back fets all.1)

caps_back : (caps : List (List ℕ × ℤ)) → AllByRecursion IsWritableCap caps → AllByRecursion IsReadBack (map saying_cap caps)
caps_back [] all = tt
caps_back (cap ∷ caps) all = (
  record {
    is_line = IsLine-line_of (words_saying (Cap cap.0 cap.1)) (words-Cap cap.0 cap.1 all.0.node);
    back = λ k above. says-Cap k cap.0 cap.1 above all.0.node all.0.within;
  },
  caps_back caps all.1,
)

aliases_back : (aliases : List (List ℕ × List ℕ)) → AllByRecursion IsWritableAlias aliases → AllByRecursion IsReadBack (map saying_alias aliases)
aliases_back [] all = tt
aliases_back (pair ∷ aliases) all = (
  record {
    is_line = IsLine-line_of (words_saying (Alias pair.0 pair.1)) (words-Alias pair.0 pair.1 all.0.node all.0.alias);
    back = λ k above. says-Alias k pair.0 pair.1 above all.0.node all.0.alias;
  },
  aliases_back aliases all.1,
)

both : (said more : List SimLine) → AllByRecursion IsReadBack said → AllByRecursion IsReadBack more → AllByRecursion IsReadBack (said ++ more)
both [] more all others = others
both (x ∷ said) more all others = (all.0, both said more all.1 others)

body_back : (sim : SimFile) → IsWritable sim → AllByRecursion IsReadBack (body_of sim)
body_back sim is =
    both (map Fet sim.fets) (map saying_cap sim.caps ++ map saying_alias sim.aliases) (fets_back sim.fets is.fets)
    (both (map saying_cap sim.caps) (map saying_alias sim.aliases) (caps_back sim.caps is.caps) (aliases_back sim.aliases is.aliases))

lines_are : (said : List SimLine) → AllByRecursion IsReadBack said → AllByRecursion IsLine (map line_saying said)
lines_are [] all = tt
lines_are (x ∷ said) all = (all.0.is_line, lines_are said all.1)

says_are : (said : List SimLine) → AllByRecursion IsReadBack said → AllByRecursion (λ x. (k : ℕ) → 2 ≤ k → says k (line_saying x) ≡ Ok x) said
says_are [] all = tt
says_are (x ∷ said) all = (all.0.back, says_are said all.1)

-- what the lines say makes the circuit
fets_added : (sim : SimFile) (fets : List SimFet) → fold with_line sim (map Fet fets) ≡ record sim { fets = sim.fets ++ fets }
fets_added sim [] = ap (λ (l : List SimFet). record sim { fets = l }) (sym (append-nil sim.fets))
fets_added sim (fet ∷ fets) =
    fets_added (record sim { fets = sim.fets ++ fet ∷ [] }) fets ∙ ap (λ (l : List SimFet). record sim { fets = l }) (append_assoc sim.fets (fet ∷ []) fets)

caps_added : (sim : SimFile) (caps : List (List ℕ × ℤ)) → fold with_line sim (map saying_cap caps) ≡ record sim { caps = sim.caps ++ caps }
caps_added sim [] = ap (λ (l : List (List ℕ × ℤ)). record sim { caps = l }) (sym (append-nil sim.caps))
caps_added sim (cap ∷ caps) =
    caps_added (record sim { caps = sim.caps ++ cap ∷ [] }) caps
    ∙ ap (λ (l : List (List ℕ × ℤ)). record sim { caps = l }) (append_assoc sim.caps (cap ∷ []) caps)

aliases_added : (sim : SimFile) (aliases : List (List ℕ × List ℕ))
    → fold with_line sim (map saying_alias aliases) ≡ record sim { aliases = sim.aliases ++ aliases }
aliases_added sim [] = ap (λ (l : List (List ℕ × List ℕ)). record sim { aliases = l }) (sym (append-nil sim.aliases))
aliases_added sim (pair ∷ aliases) =
    aliases_added (record sim { aliases = sim.aliases ++ pair ∷ [] }) aliases
    ∙ ap (λ (l : List (List ℕ × List ℕ)). record sim { aliases = l }) (append_assoc sim.aliases (pair ∷ []) aliases)

body_added : (sim : SimFile) → fold with_line (record nothing_yet { tech = sim.tech }) (body_of sim) ≡ sim
body_added sim =
    let others = map saying_cap sim.caps ++ map saying_alias sim.aliases in
    fold-append with_line (record nothing_yet { tech = sim.tech }) (map Fet sim.fets) others
    ∙ (ap (λ (s : SimFile). fold with_line s others) (fets_added (record nothing_yet { tech = sim.tech }) sim.fets)
    ∙ (fold-append with_line (record nothing_yet { tech = sim.tech; fets = sim.fets }) (map saying_cap sim.caps) (map saying_alias sim.aliases)
    ∙ (ap (λ (s : SimFile). fold with_line s (map saying_alias sim.aliases)) (caps_added (record nothing_yet { tech = sim.tech; fets = sim.fets }) sim.caps)
    ∙ aliases_added (record nothing_yet { tech = sim.tech; fets = sim.fets; caps = sim.caps }) sim.aliases)))

-- the written lines give the circuit
lines_back : (sim : SimFile) → IsWritable sim → first_fault_or (saying says with_line) 1 nothing_yet (map line_saying (Header sim.tech ∷ body_of sim)) ≡ Ok sim
lines_back sim is =
    ap (λ found. unless_faulty 1 (and_then found (λ said. Ok (with_line nothing_yet said)))
    (λ next. first_fault_or (saying says with_line) 2 next (map line_saying (body_of sim)))) (says-Header sim.tech is.tech)
    ∙ (reads_said says with_line line_saying 2 (record nothing_yet { tech = sim.tech }) (body_of sim) (says_are (body_of sim) (body_back sim is))
    ∙ ap Ok (body_added sim))

pub sim_in-sim_text : (sim : SimFile) → IsWritable sim → sim_in (sim_text sim) ≡ Ok sim
unfolding sim_in sim_text
sim_in-sim_text sim is =
    let lines = map line_saying (Header sim.tech ∷ body_of sim) in
    let all_lines : AllByRecursion IsLine lines =
    (IsLine-line_of (words_saying (Header sim.tech)) (words-Header sim.tech is.tech), lines_are (body_of sim) (body_back sim is)) in
    ap (text_state (saying says with_line) with_header nothing_yet) (lines_of-text_of lines all_lines)
    ∙ (text_state-ended (saying says with_line) with_header nothing_yet lines sim (lines_back sim is)
    ∙ ap (λ (b : Bool). ended_at (last_number lines) (cond b (Err NoHeader) (Ok sim))) (has_name sim.tech is.tech))
