-- What `cif` answers in each case.
use Rattle.cif_commands.proofs.Common.{◌≡◌, ◌∙◌, ◌<◌, ◌≤◌, inl, inr, ℕ, List, [], ◌∷◌, length, refl, ap, Answer, LONGEST_TEXT, IsCifText}
use Rattle.cif_commands.proofs.Common.{answers_refusal, answers_with, reply, refusal_line, too_many, CifMeans, cif_store, written_text}
use Rattle.std.specs.Prelude.{codes}
use Rattle.session_model.specs.Effects.{AnswersAlone}
use Rattle.cell_library.specs.Views.{LibraryView}

module _ (number : ℕ) (library : LibraryView) (cell : ℕ) (name : List ℕ) (answer : Answer) where
  -- the text is stored
  pub text_stored : (text : List ℕ) (symbols : ℕ) → (is : IsCifText library cell text) → symbols ≡ length is.order → length text ≤ LONGEST_TEXT
      → answer.lines.items ≡ reply (written_text name symbols) ∷ [] → answer.stores.items ≡ cif_store name text ∷ []
      → AnswersAlone (CifMeans number library cell name) tt answer
  text_stored text symbols is so_many fits lines stores =
      answers_with (CifMeans number library cell name) tt answer (reply (written_text name (length is.order)) ∷ []) (cif_store name text ∷ []) []
      (lines ∙ ap (λ (count : ℕ). reply (written_text name count) ∷ []) so_many) stores
      (inl (record { text = text; is_text = is; fits = fits; is = refl }))

  -- it would be too long
  pub text_refused : ((text : List ℕ) → IsCifText library cell text → LONGEST_TEXT < length text)
      → answer.lines.items ≡ refusal_line number (too_many (codes "Text")) ∷ [] → answer.stores.items ≡ []
      → AnswersAlone (CifMeans number library cell name) tt answer
  text_refused long lines stores =
      answers_refusal (CifMeans number library cell name) number tt (too_many (codes "Text")) [] answer lines stores
      (inr (record { long = long; is = refl }))
