-- What a step lists.
use Rattle.use_orders.proofs.Common.{◌≡◌, ℕ, ◌+◌, ◌<◌, ◌≤◌, true, false, List, [], ◌∷◌, ◌++◌, inl, refl, length, slice_index, drop, Mark, Unmet}
use Rattle.use_orders.proofs.Common.{Open, Listed, OpenCell, used_by, Visits, none, again, anew, WalkState, walk_mark, listed_by, with_open}
use Rattle.use_orders.proofs.Common.{one_further, after_meeting, after_listing, after_following, IsWalking, Continues}
use Rattle.std.proofs.lemmas.List.{drop_all, drop_more}
use Rattle.use_orders.specs.steps.Walks.{Advances}
use Rattle.use_orders.proofs.Listed.{listed_by-push}
use Rattle.use_orders.proofs.Visiting.{Visits-append}
use Rattle.use_orders.proofs.UnderWay.{not_both, under_way_further}

pub advances_then : (children : List (List ℕ)) (first : ℕ) (a b c : WalkState) → Advances children first a b → Advances children first b c
    → Advances children first a c
advances_then children first a b c p q calm = let later = q calm in let earlier = p later.0 in (earlier.0, λ after k. earlier.1 after (later.1 after k))

-- the present cell is listed once its uses were followed
pub advances_listed : (children : List (List ℕ)) (first : ℕ) (at : OpenCell) (s : WalkState) → IsWalking children first (with_open at s)
    → length (used_by children at.cell) ≤ at.followed → Advances children first (with_open at s) (after_listing at.cell s)
advances_listed children first at s u all calm = (
  calm,
  λ after k. (
    listed_by first s.order,
    (rw (drop_all at.followed (used_by children at.cell) all) none),
    (λ h. not_both s.marks at.cell (u.are_open at.cell (inl refl)) (u.marked at.cell h)),
    (rw (listed_by-push first s.order at.cell) at k),
  ),
)

-- what is left to do after a cell was met is a visit of the cell, and what was left before
pub visits_met : (children : List (List ℕ)) (first c : ℕ) (m : Mark) (s : WalkState) → IsWalking children first s → walk_mark s.marks c ≡ m
    → (after_meeting m c s).is_cyclic ≡ false → (s.is_cyclic ≡ false)
    × ((after : List ℕ) → Continues children (after_meeting m c s).way (listed_by first (after_meeting m c s).order) after
    → (mid : List ℕ) × Visits children (listed_by first s.order) (c ∷ []) mid × Continues children s.way mid after)
visits_met children first c Unmet s u e calm = (calm, λ after k. (k.0 ++ c ∷ [], anew k.1 k.2 none, k.3))
visits_met children first c Open s u e calm = absurd (let f : true ≡ false = calm in cc)
visits_met children first c Listed s u e calm = (calm, λ after k. (listed_by first s.order, again (u.listed c e) none, k))

-- the next use of the present cell is followed
pub advances_followed : (children : List (List ℕ)) (first : ℕ) (at : OpenCell) (s : WalkState) → IsWalking children first (with_open at s)
    → at.followed < length (used_by children at.cell) → Advances children first (with_open at s) (after_following children at s)
advances_followed children first at s u lt calm =
    let child : ℕ = slice_index (used_by children at.cell) at.followed in
    let met = visits_met children first child (walk_mark s.marks child) (with_open (one_further at) s)
    (under_way_further children first at s u lt) refl calm in (
      met.0,
      λ after k.
          let r = met.1 after k in
          let rest = r.2 in (
            rest.0,
            (rw (drop_more (used_by children at.cell) at.followed 0 lt)
                (Visits-append children (listed_by first s.order) (child ∷ []) r.0 (drop (at.followed + 1) (used_by children at.cell)) rest.0 r.1 rest.1)),
            rest.2,
            rest.3,
          ),
    )
