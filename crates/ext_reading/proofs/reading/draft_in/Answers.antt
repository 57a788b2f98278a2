use Rattle.ext_reading.proofs.Common.{◌≡◌, ◌∙◌, sym, ap, ℕ, List, Err, lines_of, text_state, ExtReadFault, Outline, Draft, nothing_yet, step, finish}
use Rattle.text_form.specs.declared.reading.At.{At}
use Rattle.ext_reading.specs.ExtTexts.{outline_of, draft_in}
use Rattle.ext_reading.proofs.reading.draft_in.Goals as goal

-- a fault of a text that is read with its outline
fault_told : (text : List ℕ) (outline : Outline) (start : Draft) (at : At ExtReadFault) → outline ≡ outline_of (lines_of text) → start ≡ nothing_yet
    → text_state (step outline) finish start (lines_of text) ≡ Err at → draft_in text ≡ Err at
unfolding draft_in
fault_told text outline start at outlined begun read =
    let lines = lines_of text in
    sym (ap (λ (o : Outline). text_state (step o) finish start lines) outlined
    ∙ ap (λ (draft : Draft). text_state (step (outline_of lines)) finish draft lines) begun)
    ∙ read

pub returns-clause-refused : goal.returns-clause-refused
returns-clause-refused c = λ known.
    fault_told c.args.bytes.now c.in-Ok.outline c.new-draft.result c.in-Err.at c.in-Ok.ensures c.new-draft.ensures (c.in-Err.ensures.refused known)
