-- What `cifstat` answers in each case.
use Rattle.cif_commands.proofs.Common.{◌≡◌, inl, inr, ℕ, List, [], ◌∷◌, refl, sym, subst, Result, Ok, Err, At, Answer, FetchFault, AnswersFetching}
use Rattle.cif_commands.proofs.Common.{CifParts, CifFault, cif_in, StaysInRange, IsFirstPast, IsWithinLimits, answers_refusal, answers_with, refused}
use Rattle.cif_commands.proofs.Common.{refusal_line, too_many, MeasuresCif, MeasuresFetched, MeasuresText, TellsLayers}
use Rattle.cif_model.specs.Sizes.{size_of}
use Rattle.cif_expansion.specs.declared.limits.CifLimit.{CifLimit}
use Rattle.cif_expansion.specs.Expansions.{StandsOutside}
use Rattle.line_answers.specs.Refusals.{file_refusal, out_of_range}
use Rattle.cif_commands.specs.Refusals.{cif_limit_word, cif_refusal}

module _ (number : ℕ) (name file : List ℕ) (answer : Answer) where
  -- the layers are told
  pub cif_told : (cif : CifParts) → IsWithinLimits (size_of cif) → StaysInRange cif → TellsLayers cif name answer.lines.items → answer.stores.items ≡ []
      → AnswersFetching (file ∷ []) (MeasuresCif number name file cif) tt answer
  cif_told cif within range tells stores =
      answers_with (MeasuresCif number name file cif) tt answer answer.lines.items [] (file ∷ []) refl stores
      (inl (record { within = within; in_range = range; lines = answer.lines.items; tells = tells; is = refl }))

  -- the text is past a limit
  pub size_refused : (cif : CifParts) (limit : CifLimit) → IsFirstPast limit (size_of cif)
      → answer.lines.items ≡ refusal_line number (too_many (cif_limit_word limit)) ∷ [] → answer.stores.items ≡ []
      → AnswersFetching (file ∷ []) (MeasuresCif number name file cif) tt answer
  size_refused cif limit past lines stores =
      answers_refusal (MeasuresCif number name file cif) number tt (too_many (cif_limit_word limit)) (file ∷ []) answer lines stores
      (inr (inl (record { limit = limit; past = past; is = refl })))

  -- a box leaves the range
  pub range_refused : (cif : CifParts) → IsWithinLimits (size_of cif) → StandsOutside cif
      → answer.lines.items ≡ refusal_line number out_of_range ∷ [] → answer.stores.items ≡ []
      → AnswersFetching (file ∷ []) (MeasuresCif number name file cif) tt answer
  range_refused cif within outside lines stores =
      answers_refusal (MeasuresCif number name file cif) number tt out_of_range (file ∷ []) answer lines stores
      (inr (inr (record { within = within; outside = outside; is = refl })))

  -- the text says this
  pub text_measured : (read : Result CifParts (At CifFault)) (cif : CifParts) → read ≡ Ok cif
      → AnswersFetching (file ∷ []) (MeasuresCif number name file cif) tt answer → AnswersFetching (file ∷ []) (MeasuresText number name file read) tt answer
  text_measured read cif is means =
      subst (λ (r : Result CifParts (At CifFault)). AnswersFetching (file ∷ []) (MeasuresText number name file r) tt answer) (sym is) means

  -- it has a fault
  pub text_refused : (read : Result CifParts (At CifFault)) (at : At CifFault) → read ≡ Err at
      → answer.lines.items ≡ refusal_line number (cif_refusal file at) ∷ [] → answer.stores.items ≡ []
      → AnswersFetching (file ∷ []) (MeasuresText number name file read) tt answer
  text_refused read at is lines stores =
      answers_refusal (MeasuresText number name file read) number tt (cif_refusal file at) (file ∷ []) answer lines stores
      (subst
      (λ (r : Result CifParts (At CifFault)). MeasuresText number name file r (refused number tt (cif_refusal file at) (file ∷ [])))
      (sym is) refl)

  -- the file was fetched
  pub file_measured : (fetch : Result (List ℕ) FetchFault) (text : List ℕ) → fetch ≡ Ok text
      → AnswersFetching (file ∷ []) (MeasuresText number name file (cif_in text)) tt answer
      → AnswersFetching (file ∷ []) (MeasuresFetched number name file fetch) tt answer
  file_measured fetch text is means =
      subst (λ (f : Result (List ℕ) FetchFault). AnswersFetching (file ∷ []) (MeasuresFetched number name file f) tt answer) (sym is) means

  -- there is none
  pub file_refused : (fetch : Result (List ℕ) FetchFault) (fault : FetchFault) → fetch ≡ Err fault
      → answer.lines.items ≡ refusal_line number (file_refusal file fault) ∷ [] → answer.stores.items ≡ []
      → AnswersFetching (file ∷ []) (MeasuresFetched number name file fetch) tt answer
  file_refused fetch fault is lines stores =
      answers_refusal (MeasuresFetched number name file fetch) number tt (file_refusal file fault) (file ∷ []) answer lines stores
      (subst
      (λ (f : Result (List ℕ) FetchFault). MeasuresFetched number name file f (refused number tt (file_refusal file fault) (file ∷ [])))
      (sym is) refl)
