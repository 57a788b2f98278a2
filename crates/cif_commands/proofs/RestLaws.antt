-- What `cifstat` does rests on the file alone that it fetches.
use Rattle.cif_commands.proofs.Common.{◌≡◌, inl, inr, ℕ, List, [], ◌∷◌, refl, sym, ap, subst, arith, Result, Ok, Err, At, FetchFault, text_in}
use Rattle.cif_commands.proofs.Common.{CifParts, CifFault, cif_in, FreeEffect, cif_file, MeasuresCif, MeasuresFetched, MeasuresText}
use Rattle.outside_io.specs.Files.{Files}
use Rattle.session_model.specs.Fetches.{AgreeOn}
use Rattle.session_model.proofs.FetchLaws.{text_same}
use Rattle.cif_commands.specs.CommandCifstat.{CifstatMeans}

module _ (number : ℕ) (name file : List ℕ) (effect : FreeEffect) where
  -- the file was fetched, whatever its text says
  cif_fetched : (cif : CifParts) → MeasuresCif number name file cif effect → effect.fetched ≡ file ∷ []
  cif_fetched cif (inl told) = ap (λ (e : FreeEffect). e.fetched) told.is
  cif_fetched cif (inr (inl past)) = ap (λ (e : FreeEffect). e.fetched) past.is
  cif_fetched cif (inr (inr outside)) = ap (λ (e : FreeEffect). e.fetched) outside.is

  text_fetched : (read : Result CifParts (At CifFault)) → MeasuresText number name file read effect → effect.fetched ≡ file ∷ []
  text_fetched (Ok cif) measures = cif_fetched cif measures
  text_fetched (Err at) is = ap (λ (e : FreeEffect). e.fetched) is

  -- and so it was whether it is there or not
  file_fetched : (text : Result (List ℕ) FetchFault) → MeasuresFetched number name file text effect → effect.fetched ≡ file ∷ []
  file_fetched (Ok text) measures = text_fetched (cif_in text) measures
  file_fetched (Err fault) is = ap (λ (e : FreeEffect). e.fetched) is

  -- so the text is the same
  measures_rest : (files others : Files) → MeasuresFetched number name file (text_in files file) effect → AgreeOn effect.fetched files others
      → MeasuresFetched number name file (text_in others file) effect
  measures_rest files others measures agree =
      let fetched = file_fetched (text_in files file) measures in
      let here = subst (λ (names : List (List ℕ)). AgreeOn names files others) fetched agree in
      let same = text_same files others file (here file (0, omega arith, refl)) in
      subst (λ (text : Result (List ℕ) FetchFault). MeasuresFetched number name file text effect) (sym same) measures

-- what the command does is the same over files that agree on what it fetches
pub cifstat_rests : (number : ℕ) (files others : Files) (name : List ℕ) (effect : FreeEffect) → CifstatMeans number files name effect
    → AgreeOn effect.fetched files others → CifstatMeans number others name effect
cifstat_rests number files others name effect means agree = measures_rest number name (cif_file name) effect files others means agree
