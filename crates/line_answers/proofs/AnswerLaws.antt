-- What makes an answer the one that is meant.
use Rattle.std.proofs.Common.{◌≡◌, ℕ, List, [], ◌∷◌, sym, subst}
use Rattle.std.specs.Prelude.{Result, Ok, Err, IfOk}
use Rattle.session_model.specs.declared.answer.Answer.{Answer}
use Rattle.session_model.specs.declared.answer.Store.{Store}
use Rattle.session_model.specs.declared.report.ReportLine.{ReportLine}
use Rattle.session_model.specs.Effects.{AnswersFetching, Effect}
use Rattle.line_answers.specs.declared.refusals.Refusal.{Refusal}
use Rattle.line_answers.specs.LineEffects.{refused}
use Rattle.line_answers.specs.Refusals.{refusal_line}

-- an answer of these lines and stores is meant where the effect with them is
pub answers_with : {State : Type 0} (Means : Effect State → Type 0) (state : State) (answer : Answer) (lines : List ReportLine) (stores : List Store)
    (fetched : List (List ℕ))
    → answer.lines.items ≡ lines → answer.stores.items ≡ stores → Means (record { state = state; lines = lines; stores = stores; fetched = fetched })
    → AnswersFetching fetched Means state answer
answers_with Means state answer lines stores fetched lines_are stores_are means =
    subst (λ (xs : List ReportLine). Means (record { state = state; lines = xs; stores = answer.stores.items; fetched = fetched })) (sym lines_are)
    (subst (λ (ys : List Store). Means (record { state = state; lines = lines; stores = ys; fetched = fetched })) (sym stores_are) means)

-- where the effect that refuses a line is meant, so is the answer that refuses it
pub answers_refusal : {State : Type 0} (Means : Effect State → Type 0) (number : ℕ) (state : State) (refusal : Refusal) (fetched : List (List ℕ))
    (answer : Answer) → answer.lines.items ≡ refusal_line number refusal ∷ [] → answer.stores.items ≡ [] → Means (refused number state refusal fetched)
    → AnswersFetching fetched Means state answer
answers_refusal Means number state refusal fetched answer lines stores means =
    answers_with Means state answer (refusal_line number refusal ∷ []) [] fetched lines stores means

-- what two facts of an answer give, where there is one
pub both_ok : {X E : Type 0} (result : Result X E) (P Q R : X → Type 0) → ((x : X) → P x → Q x → R x) → IfOk result P → IfOk result Q → IfOk result R
both_ok (Ok x) P Q R gives one other = gives x one other
both_ok (Err e) P Q R gives one other = tt
