-- What a line adds to the uses of the outline.
use Rattle.ext_reading.proofs.Common.{◌≡◌, ◌⊎◌, ◌||◌, ℕ, Bool, true, false, not, cond, Option, List, [], ◌∷◌, ◌++◌, Result, Ok, Err, sym, subst, inl}
use Rattle.ext_reading.proofs.Common.{inr, refl, codes, is_some, bytes_eq, In, In-append_left, In-append_cases, Grid, UseElements, element_ids}
use Rattle.ext_reading.proofs.Common.{names_in, gives_again, names_more, ExtReadFault, UseName, ExtLine, Use, use_line, grid_in, with_elements}
use Rattle.ext_reading.proofs.Common.{with_allowed, with_use_said, with_words}
use Rattle.ext_reading.specs.ExtTexts.{with_use_name}
use Rattle.ext_reading.proofs.Outcomes.{Each}

-- the names so far stay
abbrev Keeps : List UseElements → List UseElements → Type 0
Keeps known more = Each (λ name. In name (names_in more)) (names_in known)

kept_push : (known : List UseElements) (used : UseElements) → Keeps known (known ++ used ∷ [])
kept_push known used = λ name h.
    subst (λ (l : List (List ℕ)). In name l) (sym (names_more known used)) (In-append_left name (names_in known) (element_ids used.id used.grid) h)

kept_elements : (known : List UseElements) (used : UseElements) → Keeps known (with_elements known used)
kept_elements known used = step (gives_again known used)
  where
    step : (t : Bool) → Keeps known (cond t known (known ++ used ∷ []))
    step true = λ name h. h
    step false = kept_push known used

kept_allowed : (arrays : Bool) (known : List UseElements) (used : UseElements) → Keeps known (with_allowed arrays known used)
kept_allowed arrays known used = step (arrays || not (is_some used.grid))
  where
    step : (t : Bool) → Keeps known (cond t (with_elements known used) known)
    step true = kept_elements known used
    step false = λ name h. h

kept_said : (arrays : Bool) (known : List UseElements) (id : List ℕ) (found : Result (Option Grid) ExtReadFault)
    → Keeps known (elim found [ Ok grid ↦ with_allowed arrays known (record { id = id; grid = grid }) | Err fault ↦ known ])
kept_said arrays known id (Ok grid) = kept_allowed arrays known (record { id = id; grid = grid })
kept_said arrays known id (Err fault) = λ name h. h

pub kept_use : (arrays : Bool) (known : List UseElements) (found : Result ExtLine ExtReadFault) → Keeps known (with_use_said arrays known found)
kept_use arrays known (Ok (Use line)) = kept_said arrays known line.name.id (grid_in line.name.grid)
kept_use arrays known (Ok _) = λ name h. h
kept_use arrays known (Err fault) = λ name h. h

pub kept_words : (arrays : Bool) (known : List UseElements) (words : List (List ℕ)) → Keeps known (with_words arrays known words)
kept_words arrays known [] = λ name h. h
kept_words arrays known (key ∷ words) = step (bytes_eq key (codes "use"))
  where
    step : (t : Bool) → Keeps known (cond t (with_use_said arrays known (use_line words)) known)
    step true = kept_use arrays known (use_line words)
    step false = λ name h. h

-- the names of a use that is added, and no others, come to those so far
name_cases : (known : List UseElements) (used : UseElements) (name : List ℕ) → In name (names_in (with_elements known used))
    → In name (names_in known) ⊎ In name (element_ids used.id used.grid)
name_cases known used name h = step (gives_again known used) h
  where
    step : (t : Bool) → In name (names_in (cond t known (known ++ used ∷ []))) → In name (names_in known) ⊎ In name (element_ids used.id used.grid)
    step true h = inl h
    step false h =
        In-append_cases name (names_in known) (element_ids used.id used.grid) (subst (λ (l : List (List ℕ)). In name l) (names_more known used) h)

allowed_cases : (arrays : Bool) (known : List UseElements) (used : UseElements) (name : List ℕ) → In name (names_in (with_allowed arrays known used))
    → In name (names_in known) ⊎ In name (element_ids used.id used.grid)
allowed_cases arrays known used name h = step (arrays || not (is_some used.grid)) h
  where
    step : (t : Bool) → In name (names_in (cond t (with_elements known used) known)) → In name (names_in known) ⊎ In name (element_ids used.id used.grid)
    step true h = name_cases known used name h
    step false h = inl h

-- The name is one of the use that has this name.
pub record IsNameOf (name : List ℕ) (use_name : UseName) : Type 0 where
  pub grid : Option Grid
  pub read : grid_in use_name.grid ≡ Ok grid
  pub there : In name (element_ids use_name.id grid)

said_cases : (arrays : Bool) (known : List UseElements) (use_name : UseName) (name : List ℕ) (found : Result (Option Grid) ExtReadFault)
    → grid_in use_name.grid ≡ found
    → In name (names_in (elim found [ Ok grid ↦ with_allowed arrays known (record { id = use_name.id; grid = grid }) | Err fault ↦ known ]))
    → In name (names_in known) ⊎ IsNameOf name use_name
said_cases arrays known use_name name (Ok grid) e h = elim (allowed_cases arrays known (record { id = use_name.id; grid = grid }) name h) [
  | inl old ↦ inl old
  | inr there ↦ inr (record { grid = grid; read = e; there = there })
]
said_cases arrays known use_name name (Err fault) e h = inl h

pub use_cases : (arrays : Bool) (known : List UseElements) (use_name : UseName) (name : List ℕ) → In name (names_in (with_use_name arrays known use_name))
    → In name (names_in known) ⊎ IsNameOf name use_name
use_cases arrays known use_name name h = said_cases arrays known use_name name (grid_in use_name.grid) refl h
