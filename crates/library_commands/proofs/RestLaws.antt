-- What `tech` and `load` do rests on the files alone that they fetch.
use Rattle.library_commands.proofs.Common.{◌≡◌, ◌∙◌, ℕ, List, [], ◌∷◌, Some, None, inl, inr, refl, sym, ap, subst, arith, Files, FetchFault, Effect}
use Rattle.library_commands.proofs.Common.{AgreeOn, text_in, RawTech, TechAt, technology_of, State, LoadMeans, TechMeans, file_effect, tech_effect}
use Rattle.library_commands.proofs.Common.{tech_file}
use Rattle.std.specs.Prelude.{Result, Ok, Err}
use Rattle.session_model.proofs.FetchLaws.{text_same}
use Rattle.uniqueness.proofs.CellLoading.FileLaws.{loaded_rests, refused_rests}

-- whatever a technology's text says, its file was fetched
tech_fetched : (number : ℕ) (file : List ℕ) (read : Result RawTech TechAt) → (tech_effect number file read).fetched ≡ file ∷ []
tech_fetched number file (Ok raw) = refl
tech_fetched number file (Err at) = refl

-- and so it was whether it is there or not
file_fetched : (number : ℕ) (file : List ℕ) (text : Result (List ℕ) FetchFault) → (file_effect number file text).fetched ≡ file ∷ []
file_fetched number file (Ok text) = tech_fetched number file (technology_of text)
file_fetched number file (Err fault) = refl

pub tech_rests : (number : ℕ) (state : State) (files others : Files) (name : List ℕ) (effect : Effect State) → TechMeans number state files name effect
    → AgreeOn effect.fetched files others → TechMeans number state others name effect
tech_rests number None files others name effect is agree =
    let file = tech_file name in
    let fetched : effect.fetched ≡ file ∷ [] =
    ap (λ (e : Effect State). e.fetched) is ∙ file_fetched number file (text_in files file) in
    let here = subst (λ (names : List (List ℕ)). AgreeOn names files others) fetched agree in
    is ∙ ap (file_effect number file) (sym (text_same files others file (here file (0, omega arith, refl))))
tech_rests number (Some work) files others name effect is agree = is

pub load_rests : (number : ℕ) (state : State) (files others : Files) (cell : List ℕ) (effect : Effect State) → LoadMeans number state files cell effect
    → AgreeOn effect.fetched files others → LoadMeans number state others cell effect
load_rests number None files others cell effect is agree = is
load_rests number (Some work) files others cell effect (inl loads) agree =
    let here = subst (λ (names : List (List ℕ)). AgreeOn names files others) (ap (λ (e : Effect State). e.fetched) loads.is) agree in
    inl (record {
      after = loads.after;
      count = loads.count;
      fetched = loads.fetched;
      is_loaded = loaded_rests files others work.editing.library loads.after work.editing.edits cell loads.count loads.fetched loads.is_loaded here;
      is = loads.is;
    })
load_rests number (Some work) files others cell effect (inr refuses) agree =
    let here = subst (λ (names : List (List ℕ)). AgreeOn names files others) (ap (λ (e : Effect State). e.fetched) refuses.is) agree in
    inr (record {
      fault = refuses.fault;
      fetched = refuses.fetched;
      is_refused = refused_rests files others work.editing.library work.editing.edits cell refuses.fetched refuses.fault refuses.is_refused here;
      is = refuses.is;
    })
