-- The work of several cells.
use Rattle.ext_cache.proofs.Common.{◌≡◌, ◌≤◌, ◌+◌, ◌*◌, ℕ, List, [], ◌∷◌, ◌++◌, refl, arith, LibraryView, IsWork, IsWorkOfAll}

-- The work of the first cells, and that of the others.
pub record WorkSplits (view : LibraryView) (first rest : List ℕ) (work : ℕ) : Type 0 where
  pub before : ℕ
  pub after : ℕ
  pub is_before : IsWorkOfAll view first before
  pub is_after : IsWorkOfAll view rest after
  pub sum : work ≡ before + after

pub work_splits : (view : LibraryView) (first rest : List ℕ) (work : ℕ) → IsWorkOfAll view (first ++ rest) work → WorkSplits view first rest work
work_splits view [] rest work is = record { before = 0; after = work; is_before = refl; is_after = is; sum = omega arith }
work_splits view (cell ∷ first) rest work (own, others, is_own, is_others, sum) =
    let split = work_splits view first rest others is_others in
    record {
      before = 2 * own + 2 + split.before;
      after = split.after;
      is_before = (own, split.before, is_own, split.is_before, refl);
      is_after = split.is_after;
      sum = omega (arith, sum, split.sum);
    }

-- Where the first cells took no more than their work, and the next no more than its own, all of it is within the work of all.
pub work_within : (view : LibraryView) (first rest : List ℕ) (cell start here after : ℕ)
    → ((work : ℕ) → IsWorkOfAll view first work → here ≤ start + work) → ((work : ℕ) → IsWork view cell work → after ≤ here + (2 * work + 2))
    → (work : ℕ) → IsWorkOfAll view (first ++ cell ∷ rest) work → after ≤ start + work
work_within view first rest cell start here after before own work is =
    let split = work_splits view first (cell ∷ rest) work is in
    let bound = before split.before split.is_before in
    let next = own split.is_after.0 split.is_after.2 in
    omega (arith, bound, next, split.sum, split.is_after.4)

-- There is such work of the cells, and the steps since the start are within it.
abbrev pub HasWorkOf : LibraryView → List ℕ → ℕ → ℕ → Type 0
HasWorkOf view cells start here = (work : ℕ) × IsWorkOfAll view cells work × (here ≤ start + work)

-- the work of one more cell behind the others
work_more : (view : LibraryView) (cells : List ℕ) (cell work own : ℕ) → IsWorkOfAll view cells work → IsWork view cell own
    → IsWorkOfAll view (cells ++ cell ∷ []) (work + (2 * own + 2))
work_more view [] cell work own none is_own = (own, 0, is_own, refl, omega (arith, none))
work_more view (first ∷ cells) cell work own (one, others, is_one, are_others, sum) is_own =
    (one, others + (2 * own + 2), is_one, work_more view cells cell others own are_others is_own, omega (arith, sum))

-- Where the cells took no more than work of theirs, and one more cell no more than work of its own, all of them took no more than theirs.
pub has_work_more : (view : LibraryView) (cells : List ℕ) (cell start here after : ℕ) → HasWorkOf view cells start here
    → ((own : ℕ) × IsWork view cell own × (after ≤ here + (2 * own + 2))) → HasWorkOf view (cells ++ cell ∷ []) start after
has_work_more view cells cell start here after (work, is, within) (own, is_own, next) =
    (work + (2 * own + 2), work_more view cells cell work own is is_own, omega (arith, within, next))
