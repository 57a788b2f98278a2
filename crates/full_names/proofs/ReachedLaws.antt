-- The records of the first so many elements.
use Rattle.full_names.proofs.Common.{◌≡◌, ℕ, ◌+◌, ◌<◌, Bool, true, false, List, [], ◌∷◌, ◌++◌, length, inl, inr, sym, ◌∙◌, ap, subst, arith}
use Rattle.full_names.proofs.Common.{get_or-set_same, get_or-set_other, set, false≢true, cases_eq, cases_lt, In, In-push_cases, In-append_left}
use Rattle.full_names.proofs.Common.{In-push, TreeElement, is_reached, flat_at, AreReachedBelow}
use Rattle.std.proofs.Math.ListN.{replicate}
use Rattle.std.proofs.lemmas.List.{get_or-replicate, get_or_past, length-replicate}

-- One of the first elements is of the record.
pub record IsListed (flats : List TreeElement) (end : ℕ) (firsts : List ℕ) (cell : ℕ) : Type 0 where
  pub first : ℕ
  pub listed : In first firsts
  pub below : first < end
  pub is_cell : (flat_at flats first).cell ≡ cell

-- Of the elements so far the records are marked, and of each that is marked one is listed.
pub record AreSoFar (flats : List TreeElement) (end : ℕ) (cells : List Bool) (firsts : List ℕ) : Type 0 where
  pub below : AreReachedBelow flats end cells firsts
  pub known : (cell : ℕ) → is_reached cells cell ≡ true → IsListed flats end firsts cell

nothing_marked : (count cell : ℕ) → is_reached (replicate count false) cell ≡ false
nothing_marked count cell = elim (cases_lt cell count) [
  | inl within ↦ get_or-replicate count cell false false within
  | inr past ↦ get_or_past (replicate count false) cell false (omega (arith, length-replicate count false, past))
]

pub reached_none : (flats : List TreeElement) (count : ℕ) (cells : List Bool) (firsts : List ℕ) → cells ≡ replicate count false → firsts ≡ []
    → AreSoFar flats 0 cells firsts
reached_none flats count cells firsts unmarked none = record {
  below = record {
    within = λ first here. absurd (subst (In first) none here);
    marked = λ number below. absurd (omega arith);
    first = λ number below. absurd (omega arith);
  };
  known = λ cell marked. absurd (false≢true (sym (ap (λ (marks : List Bool). is_reached marks cell) unmarked ∙ nothing_marked count cell) ∙ marked));
}

listed_later : (flats : List TreeElement) (end : ℕ) (firsts : List ℕ) (cell : ℕ) → IsListed flats end firsts cell → IsListed flats (end + 1) firsts cell
listed_later flats end firsts cell one = record {
  first = one.first;
  listed = one.listed;
  below = let before = one.below in omega arith;
  is_cell = one.is_cell;
}

-- one more element, of a record that is marked already
pub reached_again : (flats : List TreeElement) (k : ℕ) (cells : List Bool) (firsts : List ℕ) → is_reached cells (flat_at flats k).cell ≡ true
    → AreSoFar flats k cells firsts → AreSoFar flats (k + 1) cells firsts
reached_again flats k cells firsts marked so_far = record {
  below = record {
    within = λ first here. let before = so_far.below.within first here in omega arith;
    marked = λ number below.
        elim (cases_lt number k) [
          | inl before ↦ so_far.below.marked number before
          | inr here ↦ (let same : k ≡ number = omega arith in ap (λ (n : ℕ). is_reached cells (flat_at flats n).cell) (sym same) ∙ marked)
        ];
    first = λ number below.
        elim (cases_lt number k) [
          | inl before ↦ so_far.below.first number before
          | inr here ↦ (let same : k ≡ number = omega arith in
              let one = so_far.known (flat_at flats k).cell marked in
              record {
                first = one.first;
                listed = one.listed;
                no_later = let before = one.below in omega arith;
                same = one.is_cell ∙ ap (λ (n : ℕ). (flat_at flats n).cell) same;
              })
        ];
  };
  known = λ cell is. listed_later flats k firsts cell (so_far.known cell is);
}

-- one more element, the first of its record
pub reached_new : (flats : List TreeElement) (k : ℕ) (cells : List Bool) (firsts : List ℕ) → (flat_at flats k).cell < length cells
    → AreSoFar flats k cells firsts → AreSoFar flats (k + 1) (set cells (flat_at flats k).cell true) (firsts ++ k ∷ [])
reached_new flats k cells firsts inside so_far =
    let cell = (flat_at flats k).cell in
    let now = set cells cell true in
    let keeps : (other : ℕ) → is_reached cells other ≡ true → is_reached now other ≡ true =
    λ other marked.
    elim (cases_eq other cell) [
      | inl same ↦ ap (is_reached now) same ∙ get_or-set_same cells cell true false inside
      | inr differ ↦ get_or-set_other cells cell other true false differ ∙ marked
    ] in
    let older : (first : ℕ) → In first firsts → In first (firsts ++ k ∷ []) = λ first here. In-append_left first firsts (k ∷ []) here in
    record {
      below = record {
        within = λ first here.
            elim (In-push_cases first firsts k here) [
              | inl old ↦ (let before = so_far.below.within first old in omega arith)
              | inr new ↦ omega arith
            ];
        marked = λ number below.
            elim (cases_lt number k) [
              | inl before ↦ keeps (flat_at flats number).cell (so_far.below.marked number before)
              | inr here ↦ (let same : number ≡ k = omega arith in
                  ap (λ (n : ℕ). is_reached now (flat_at flats n).cell) same ∙ get_or-set_same cells cell true false inside)
            ];
        first = λ number below.
            elim (cases_lt number k) [
              | inl before ↦ (let one = so_far.below.first number before in
                  record { first = one.first; listed = older one.first one.listed; no_later = one.no_later; same = one.same })
              | inr here ↦ (let same : k ≡ number = omega arith in record {
                first = k;
                listed = In-push firsts k;
                no_later = omega arith;
                same = ap (λ (n : ℕ). (flat_at flats n).cell) same;
              })
            ];
      };
      known = λ other marked.
          elim (cases_eq other cell) [
            | inl same ↦ record { first = k; listed = In-push firsts k; below = omega arith; is_cell = sym same }
            | inr differ ↦ (let one = so_far.known other (sym (get_or-set_other cells cell other true false differ) ∙ marked) in record {
              first = one.first;
              listed = older one.first one.listed;
              below = let before = one.below in omega arith;
              is_cell = one.is_cell;
            })
          ];
    }
