-- Each step leaves less to do.
use Rattle.use_orders.proofs.Common.{◌≡◌, ℕ, ◌+◌, ◌<◌, ◌≤◌, List, [], inl, refl, arith, length, slice_index, slice_set, Mark, Unmet, Open, Listed}
use Rattle.use_orders.proofs.Common.{OpenCell, used_by, AreCells, WalkState, walk_mark, with_open, one_further, after_meeting, after_listing}
use Rattle.use_orders.proofs.Common.{after_following, IsWalking, work_left}
use Rattle.std.specs.Prelude.{count_by, sum_by, cond}
use Rattle.std.proofs.lemmas.List.Sums.{sum_by-set, sum_by-cons, get_or-le-sum_by}
use Rattle.use_orders.specs.steps.Walks.{is_unmet, just_opened}
use Rattle.use_orders.specs.steps.Walks.{left_at}
use Rattle.use_orders.proofs.UnderWay.{next_is_used}

-- a mark of an unmet cell counts
counts : Mark → ℕ
counts m = cond (is_unmet m) 1 0

-- how many cells are unmet, after a mark was set
unmet-set : (marks : List Mark) (c : ℕ) (new was : Mark) → c < length marks → walk_mark marks c ≡ was
    → count_by is_unmet (slice_set marks c new) + cond (is_unmet was) 1 0 ≡ count_by is_unmet marks + cond (is_unmet new) 1 0
unmet-set marks c new was lt e = let r = sum_by-set (λ (m : Mark). cond (is_unmet m) 1 0) marks c new Unmet lt in rw e at r

-- a cell has no more uses than all cells have
few_uses : (children : List (List ℕ)) (c : ℕ) → c < length children → length (used_by children c) ≤ sum_by length children
few_uses children c lt = get_or-le-sum_by length children c [] lt

pub less_listed : (children : List (List ℕ)) (first : ℕ) (at : OpenCell) (s : WalkState) → IsWalking children first (with_open at s)
    → work_left children (after_listing at.cell s) < work_left children (with_open at s)
less_listed children first at s u =
    let same = unmet-set s.marks at.cell Listed Open (omega (arith, (u.within at (inl refl)).0, u.fits)) (u.are_open at.cell (inl refl)) in
    let more = sum_by-cons (left_at children) at s.way in
    let e : count_by is_unmet (slice_set s.marks at.cell Listed) ≡ count_by is_unmet s.marks = omega (arith, same) in
    rw e (omega (arith, more))

-- what is left once a cell was met
pub less_met : (children : List (List ℕ)) (first c : ℕ) (m : Mark) (s : WalkState) → IsWalking children first s → c < length children → walk_mark s.marks c ≡ m
    → work_left children (after_meeting m c s) ≤ work_left children s
less_met children first c Unmet s u lt e =
    let fewer = unmet-set s.marks c Open Unmet (omega (arith, lt, u.fits)) e in
    let more = sum_by-cons (left_at children) (just_opened c) s.way in
    let few = few_uses children c lt in
    let f : count_by is_unmet s.marks ≡ count_by is_unmet (slice_set s.marks c Open) + 1 = omega (arith, fewer) in
    rw f (omega (arith, more, few))
less_met children first c Open s u lt e = omega arith
less_met children first c Listed s u lt e = omega arith

pub less_followed : (children : List (List ℕ)) (first : ℕ) (at : OpenCell) (s : WalkState) → AreCells children → IsWalking children first (with_open at s)
    → IsWalking children first (with_open (one_further at) s)
    → at.followed < length (used_by children at.cell) → work_left children (after_following children at s) < work_left children (with_open at s)
less_followed children first at s cells u v lt =
    let child : ℕ = slice_index (used_by children at.cell) at.followed in
    let met = less_met children first child (walk_mark s.marks child) (with_open (one_further at) s) v
    (cells at.cell child (next_is_used children at lt)) refl in
    let a = sum_by-cons (left_at children) at s.way in
    let b = sum_by-cons (left_at children) (one_further at) s.way in
    omega (arith, met, a, b)
