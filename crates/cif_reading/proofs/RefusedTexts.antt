-- A text is refused exactly at its first faulty command, or at its end where it has none and no `E`.
use Rattle.cif_reading.proofs.Common.{◌≡◌, ℕ, Bool, true, false, List, [], ◌∷◌, sym, ap, ◌∙◌, if◌then◌else◌, says, CifFault, Draft, nothing_yet}
use Rattle.cif_reading.proofs.Common.{fault_in, takes}
use Rattle.std.proofs.Common.{◌↔◌, ◌⊎◌, inl, inr, Option, Some, None, Result, Ok, Err, refl}
use Rattle.text_scan.specs.Lines.{lines_of}
use Rattle.text_form.specs.declared.reading.At.{At}
use Rattle.text_form.specs.Folds.{ended_at, fault_at, finished, last_number, unless_faulty}
use Rattle.text_form.proofs.PartLaws.{first_faulty_part_or-first, first_faulty_part_or-refused}
use Rattle.cif_forms.specs.Cutting.{CommandText, commands_of, line_of_command, step_on}
use Rattle.cif_model.specs.Cifs.{CifParts}
use Rattle.cif_reading.specs.declared.faults.CifFault.TheVariants.{NoEnd}
use Rattle.cif_reading.specs.CifTexts.{cif_in, finish, parts_of, read_from, read_of, step, unless}
use Rattle.cif_reading.specs.RefusedTexts.{HasNoEnd, IsFirstFaultyCommand, Says}

-- a command refuses where the text goes on and it has a fault
faulty_there : (ended : Bool) (found : Option CifFault) (draft whole : Draft) (fault : CifFault)
    → (if ended then Ok draft else unless found whole) ≡ Err fault → (ended ≡ false) × (found ≡ Some fault)
faulty_there true found draft whole fault e = absurd (let no : ⊥ = cc in no)
faulty_there false None draft whole fault e = absurd (let no : ⊥ = cc in no)
faulty_there false (Some other) draft whole fault e = (refl, (let same : other ≡ fault = cc in ap Some same))

first_faulty : (text : List ℕ) (at : At CifFault) → read_of text ≡ Err at → IsFirstFaultyCommand text at
first_faulty text at e =
    let first = first_faulty_part_or-first line_of_command (step_on step) nothing_yet (commands_of text) at e in
    let draft = first.state in
    let said = says first.part.bytes in
    let there = faulty_there draft.ended (fault_in draft first.part.closed said) draft (takes draft said) at.fault first.faulty in
    record {
      before = first.before;
      command = first.part;
      after = first.after;
      draft = draft;
      commands_are = first.parts_are;
      fine = first.fine;
      goes_on = there.0;
      placed = first.placed;
      faulty = there.1;
    }

refuses : (text : List ℕ) (at : At CifFault) → IsFirstFaultyCommand text at → read_of text ≡ Err at
refuses text at is =
    let draft = is.draft in
    let said = says is.command.bytes in
    first_faulty_part_or-refused line_of_command (step_on step) nothing_yet (commands_of text) at (record {
      before = is.before;
      part = is.command;
      after = is.after;
      state = draft;
      parts_are = is.commands_are;
      fine = is.fine;
      placed = is.placed;
      faulty =
          ap (λ (ended : Bool). if ended then Ok draft else unless (fault_in draft is.command.closed said) (takes draft said)) is.goes_on
          ∙ ap (λ (found : Option CifFault). unless found (takes draft said)) is.faulty;
    })

-- ---- the end

no_end : (ended : Bool) (parts : CifParts) (last : ℕ) (at : At CifFault)
    → ended_at last (if ended then Ok parts else Err NoEnd) ≡ Err at → (ended ≡ false) × (at ≡ fault_at last NoEnd)
no_end true parts last at e = absurd (let no : ⊥ = cc in no)
no_end false parts last at e = (refl, (let same : at ≡ fault_at last NoEnd = cc in same))

an_end : (ended : Bool) (parts cif : CifParts) (last : ℕ)
    → ended_at last (if ended then Ok parts else Err NoEnd) ≡ Ok cif → (ended ≡ true) × (parts ≡ cif)
an_end true parts cif last e = (refl, (let same : parts ≡ cif = cc in same))
an_end false parts cif last e = absurd (let no : ⊥ = cc in no)

why : (text : List ℕ) (at : At CifFault) (found : Result Draft (At CifFault)) → read_of text ≡ found
    → finished finish (last_number (lines_of text)) found ≡ Err at
    → IsFirstFaultyCommand text at ⊎ HasNoEnd text at
why text at (Err other) is e = let same : other ≡ at = cc in inl (first_faulty text at (is ∙ ap Err same))
why text at (Ok draft) is e =
    let there = no_end draft.ended (parts_of draft) (last_number (lines_of text)) at e in
    inr (record { draft = draft; fine = is; goes_on = there.0; told = there.1 })

refused_at : (text : List ℕ) (at : At CifFault) → IsFirstFaultyCommand text at ⊎ HasNoEnd text at
    → finished finish (last_number (lines_of text)) (read_of text) ≡ Err at
refused_at text at (inl first) = ap (finished finish (last_number (lines_of text))) (refuses text at first)
refused_at text at (inr has) =
    let draft = has.draft in
    let last = last_number (lines_of text) in
    ap (finished finish last) has.fine
    ∙ (ap (λ (ended : Bool). ended_at last (if ended then Ok (parts_of draft) else Err NoEnd)) has.goes_on
    ∙ ap Err (sym has.told))

pub cif_in-refused : (text : List ℕ) (at : At CifFault) → (cif_in text ≡ Err at) ↔ (IsFirstFaultyCommand text at ⊎ HasNoEnd text at)
unfolding cif_in
cif_in-refused text at = (λ e. why text at (read_of text) refl e, λ is. refused_at text at is)

what : (text : List ℕ) (cif : CifParts) (found : Result Draft (At CifFault)) → read_of text ≡ found
    → finished finish (last_number (lines_of text)) found ≡ Ok cif → Says text cif
what text cif (Err other) is e = absurd (let no : ⊥ = cc in no)
what text cif (Ok draft) is e =
    let there = an_end draft.ended (parts_of draft) cif (last_number (lines_of text)) e in
    record { draft = draft; fine = is; ended = there.0; said = there.1 }

says_it : (text : List ℕ) (cif : CifParts) → Says text cif → finished finish (last_number (lines_of text)) (read_of text) ≡ Ok cif
says_it text cif is =
    let draft = is.draft in
    let last = last_number (lines_of text) in
    ap (finished finish last) is.fine
    ∙ (ap (λ (ended : Bool). ended_at last (if ended then Ok (parts_of draft) else Err NoEnd)) is.ended
    ∙ ap Ok is.said)

pub cif_in-read : (text : List ℕ) (cif : CifParts) → (cif_in text ≡ Ok cif) ↔ Says text cif
unfolding cif_in
cif_in-read text cif = (λ e. what text cif (read_of text) refl e, λ is. says_it text cif is)

-- behind an end nothing is read
pub read_from-ended : (draft : Draft) (commands : List CommandText) → draft.ended ≡ true → read_from draft commands ≡ Ok draft
read_from-ended draft [] e = refl
read_from-ended draft (command ∷ commands) e =
    let said = says command.bytes in
    let stays : step draft command.bytes command.closed ≡ Ok draft =
    ap (λ (ended : Bool). if ended then Ok draft else unless (fault_in draft command.closed said) (takes draft said)) e in
    ap (λ found. unless_faulty command.line found (λ next. read_from next commands)) stays ∙ read_from-ended draft commands e
