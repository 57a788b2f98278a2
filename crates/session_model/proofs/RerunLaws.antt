-- A session over other files that agree with these on what it fetches.
use Rattle.session_model.proofs.Common.{◌≡◌, ◌⊎◌, inl, inr, ◌+◌, ℕ, Bool, true, false, cond, List, [], ◌∷◌, ◌++◌, sym, ◌∙◌, ap, subst, arith}
use Rattle.session_model.proofs.Common.{cases_Bool, false≢true, Contains-append_left, Contains-append_right, Contains, Option, Files, bytes_of}
use Rattle.session_model.proofs.Common.{with_file, Store, Effect, with_stores, StoresSome, Act, LinesMean, acts_of, fetched_in, stores_in}
use Rattle.std.proofs.Common.{◌≢◌}
use Rattle.std.proofs.lemmas.Cmp.{tied_itself}
use Rattle.std.proofs.lemmas.Map.Made.{Contains-tail}
use Rattle.std.specs.Prelude.{Some}
use Rattle.std.specs.Cmp.Lexicographic.{slice_cmp, nat_list_cmp_total}
use Rattle.std.specs.Cmp.{Equal-is}
use Rattle.std.specs.FinMap as finmap
use Rattle.std.specs.Ordering.{nat_cmp, eq_by_cmp, is_eq}
use Rattle.outside_io.proofs.FileLaws.{bytes_of-with_file, same_files}
use Rattle.session_model.specs.Reruns.{IsMadeGood, RestsOnFetched, names_stored}

-- the files agree on each name that is none of these
abbrev AgreeOff : List (List ℕ) → Files → Files → Type 0
AgreeOff names files others = (name : List ℕ) → (Contains names name → ⊥) → bytes_of others name ≡ bytes_of files name

-- names that the order tells apart are not one
apart : (other name : List ℕ) → eq_by_cmp (slice_cmp nat_cmp) other name ≡ false → other ≡ name → ⊥
apart other name differs same = false≢true (sym differs ∙ ap (eq_by_cmp (slice_cmp nat_cmp) other) (sym same) ∙ ap is_eq (tied_itself nat_list_cmp_total other))

-- names that tie are one
tied_is : (other name : List ℕ) → eq_by_cmp (slice_cmp nat_cmp) other name ≡ true → other ≡ name
tied_is other name tied = finmap.slice_cmp-IsAntisymmetric finmap.nat_cmp-IsAntisymmetric other name ((Equal-is (slice_cmp nat_cmp other name)).0 tied)

-- no list of no names has one
none_in : (name : List ℕ) → Contains [] name → ⊥
none_in name (k, within, is) = omega (arith, within)

-- a name that is neither the first nor one of the others is none of all
none_of : (first : List ℕ) (names : List (List ℕ)) (other : List ℕ) → (other ≡ first → ⊥) → (Contains names other → ⊥) → Contains (first ∷ names) other → ⊥
none_of first names other differs none among = none (Contains-tail first names other (λ same. differs (sym same)) among)

-- the first name and the others are names of all
first_is : (first : List ℕ) (names : List (List ℕ)) (other : List ℕ) → other ≡ first → Contains (first ∷ names) other
first_is first names other same = (0, omega arith, sym same)

other_is : (first : List ℕ) (names : List (List ℕ)) (other : List ℕ) → Contains names other → Contains (first ∷ names) other
other_is first names other among = Contains-append_right (first ∷ []) names other among

-- another name has its own bytes after a file is put
kept_elsewhere : (files : Files) (name bytes other : List ℕ) → (other ≡ name → ⊥) → bytes_of (with_file files name bytes) other ≡ bytes_of files other
kept_elsewhere files name bytes other differs = elim (cases_Bool (eq_by_cmp (slice_cmp nat_cmp) other name)) [
  | inl tied ↦ absurd (differs (tied_is other name tied))
  | inr free ↦ bytes_of-with_file files name bytes other ∙ ap (λ (b : Bool). cond b (Some bytes) (bytes_of files other)) free
]

-- what agreed but for some names, agrees so after the same file is put in both
agree_with_file : (names : List (List ℕ)) (files others : Files) (name bytes : List ℕ) → AgreeOff names files others
    → AgreeOff names (with_file files name bytes) (with_file others name bytes)
agree_with_file names files others name bytes agree other none =
    bytes_of-with_file others name bytes other
    ∙ ap (λ (held : Option (List ℕ)). cond (eq_by_cmp (slice_cmp nat_cmp) other name) (Some bytes) held) (agree other none)
    ∙ sym (bytes_of-with_file files name bytes other)

agree_with_stores : (names : List (List ℕ)) (files others : Files) (stores : List Store) → AgreeOff names files others
    → AgreeOff names (with_stores files stores) (with_stores others stores)
agree_with_stores names files others [] agree = agree
agree_with_stores names files others (store ∷ stores) agree =
    agree_with_stores names (with_file files store.name store.bytes) (with_file others store.name store.bytes) stores
    (agree_with_file names files others store.name store.bytes agree)

-- and where they agreed but for the names that are stored, they are the same in the end
agree_now : (names : List (List ℕ)) (files others : Files) (name bytes : List ℕ) → AgreeOff (name ∷ names) files others
    → AgreeOff names (with_file files name bytes) (with_file others name bytes)
agree_now names files others name bytes agree other none = elim (cases_Bool (eq_by_cmp (slice_cmp nat_cmp) other name)) [
  | inl tied ↦ bytes_of-with_file others name bytes other ∙ ap (λ (b : Bool). cond b (Some bytes) (bytes_of others other)) tied
      ∙ ap (λ (b : Bool). cond b (Some bytes) (bytes_of files other)) (sym tied) ∙ sym (bytes_of-with_file files name bytes other)
  | inr free ↦ kept_elsewhere others name bytes other (apart other name free)
      ∙ agree other (none_of name names other (apart other name free) none)
      ∙ sym (kept_elsewhere files name bytes other (apart other name free))
]

same_after : (files others : Files) (stores : List Store) → AgreeOff (names_stored stores) files others → with_stores others stores ≡ with_stores files stores
same_after files others [] agree = same_files others files (λ name. agree name (λ among. none_in name among))
same_after files others (store ∷ stores) agree =
    same_after (with_file files store.name store.bytes) (with_file others store.name store.bytes) stores
    (agree_now (names_stored stores) files others store.name store.bytes agree)

-- files after some of the stores agree with those before but for the names that are stored
agree_after_some : (Fails : Type 0) (files : Files) (stores : List Store) (after : Files) → StoresSome Fails files stores after
    → AgreeOff (names_stored stores) files after
agree_after_some Fails files [] after same other none = ap (λ (f : Files). bytes_of f other) same
agree_after_some Fails files (store ∷ stores) after (inl same) other none = ap (λ (f : Files). bytes_of f other) same
agree_after_some Fails files (store ∷ stores) after (inr (inl failed)) other none =
    failed.1 other (λ same. none (first_is store.name (names_stored stores) other same))
agree_after_some Fails files (store ∷ stores) after (inr (inr some)) other none =
    agree_after_some Fails (with_file files store.name store.bytes) stores after some other
    (λ among. none (other_is store.name (names_stored stores) other among))
    ∙ kept_elsewhere files store.name store.bytes other (λ same. none (first_is store.name (names_stored stores) other same))

-- Lines that fetch none of these names have the same effects over files that agree but for these names.
same_fold : {State : Type 0} (Means : ℕ → State → Files → List ℕ → Effect State → Type 0) → RestsOnFetched Means
    → (names : List (List ℕ)) (number : ℕ) (state : State) (files others : Files) (lines : List (List ℕ)) (effects : List (Effect State))
    → LinesMean Means number state files lines effects
    → ((name : List ℕ) → Contains (fetched_in (acts_of effects)) name → Contains names name → ⊥) → AgreeOff names files others
    → LinesMean Means number state others lines effects
same_fold Means rests names number state files others [] effects is none agree = is
same_fold {State} Means rests names number state files others (line ∷ lines) effects (first, rest, are, means, more) none agree =
    let free = subst (λ (es : List (Effect State)). (name : List ℕ) → Contains (fetched_in (acts_of es)) name → Contains names name → ⊥) are none in
    let here = rests number state files others line first means (λ name among. agree name (λ stored.
    free name (Contains-append_left first.fetched (fetched_in (acts_of rest)) name among) stored)) in
    let there = same_fold Means rests names (number + 1) first.state (with_stores files first.stores) (with_stores others first.stores) lines rest more
    (λ name among. free name (Contains-append_right first.fetched (fetched_in (acts_of rest)) name among))
    (agree_with_stores names files others first.stores agree) in
    (first, rest, are, here, there)

pub made_good : {State : Type 0} (Means : ℕ → State → Files → List ℕ → Effect State → Type 0) → RestsOnFetched Means → IsMadeGood Means
made_good {State} Means rests first files after lines acts (effects, have, are) none some =
    let agree = agree_after_some (Unit {0}) files (stores_in acts) after some in
    let free = subst (λ (all : List Act). (name : List ℕ) → Contains (fetched_in all) name → Contains (names_stored (stores_in acts)) name → ⊥) are none in (
      (effects, same_fold Means rests (names_stored (stores_in acts)) 1 first files after lines effects have free agree, are),
      same_after files after
          (stores_in acts) agree,
    )
