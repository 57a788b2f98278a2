-- The runs of a row as they are taken out and put in.
use Rattle.geo_strips.proofs.Common.{◌≡◌, ◌⊎◌, inl, inr, ℤ, ◌≤ℤ◌, ◌<ℤ◌, ◌+ℤ◌, pos, true, false, List, Some, None, cond, sym, ◌∙◌, ap, subst, arith}
use Rattle.geo_strips.proofs.Common.{is_lt, int_cmp, int_max, int_min, ints, clamps, by_lt_z, In, Bar, Run, Row, IsInRow, AreRuns, bar_of, IsWritten}
use Rattle.geo_strips.proofs.Common.{Changes, IsLastRun, without, IsCovered, IsUncovered}
use Rattle.std.specs.Ordering.{is_eq, is_gt}
use Rattle.geo_strips.specs.RowRuns.{IsTaken, Touches, LiesClear, IsPlaced}

-- not greater
pub from_not_gt : (a b : ℤ) → is_gt (int_cmp a b) ≡ false → a ≤ℤ b
from_not_gt a b h = grind (arith, ints)

-- where the first is no greater, it does not compare as greater
pub not_gt : (a b : ℤ) → a ≤ℤ b → is_gt (int_cmp a b) ≡ false
not_gt a b h = grind (arith, ints)

-- not less
pub from_not_lt : (a b : ℤ) → is_lt (int_cmp a b) ≡ false → b ≤ℤ a
from_not_lt a b h = grind (arith, ints)

lt_not_eq : (a b : ℤ) → a <ℤ b → is_eq (int_cmp a b) ≡ false
lt_not_eq a b h = grind (arith, ints)

gt_not_eq : (a b : ℤ) → b <ℤ a → is_eq (int_cmp a b) ≡ false
gt_not_eq a b h = grind (arith, ints)

-- not equal
pub not_eq : (a b : ℤ) → (b ≡ a → ⊥) → is_eq (int_cmp a b) ≡ false
not_eq a b h = by_lt_z a b (lt_not_eq a b) (λ not_less. by_lt_z b a (gt_not_eq a b) (λ not_more. absurd (h (omega (arith, ints, not_less, not_more)))))

-- at one column one run begins
pub same_run : (row : Row) (a b : ℤ) (r s : Run) → row a ≡ Some r → row b ≡ Some s → a ≡ b → r ≡ s
same_run row a b r s e f same = cc (ap row same)

none_begins : (row : Row) (a b : ℤ) (r : Run) → row a ≡ Some r → row b ≡ None → a ≡ b → ⊥
none_begins row a b r e f same = cc (ap row same)

-- with fewer runs they still do not touch
pub fewer_runs : (old new : Row) → ((a : ℤ) (run : Run) → new a ≡ Some run → old a ≡ Some run) → AreRuns old → AreRuns new
fewer_runs old new back h = record {
  long = λ a run e. h.long a run (back a run e);
  apart = λ a b r s e f less. h.apart a b r s (back a r e) (back b s f) less;
}

-- if the last run ends before the columns, each does
pub none_touches : (row : Row) (from to start : ℤ) (run : Run) → AreRuns row → IsLastRun row to start run → run.to <ℤ from
    → (a : ℤ) (other : Run) → row a ≡ Some other → a ≤ℤ to → other.to <ℤ from
none_touches row from to start run runs last before a other begins no_later =
    let first : a ≤ℤ start = last.last a other begins no_later in
    by_lt_z a start
    (λ less. let apart = runs.apart a start other run begins last.begins less in let long = runs.long start run last.begins in
    omega (arith, ints, apart, long, before))
    (λ not_less. let same : a ≡ start = omega (arith, ints, first, not_less) in
    let one : other.to ≡ run.to = ap (λ r. r.to) (same_run row a start other run begins last.begins same) in omega (arith, ints, one, before))

-- the map without what stood at a column
pub record IsWithout (start : ℤ) (old new : Row) : Type 0 where
  pub none : new start ≡ None
  pub others : (a : ℤ) → (a ≡ start → ⊥) → new a ≡ old a

-- the other runs were there before
pub without_fewer : (start : ℤ) (old new : Row) → IsWithout start old new → (a : ℤ) (run : Run) → new a ≡ Some run → old a ≡ Some run
without_fewer start old new w a r e = sym (w.others a (λ same. none_begins new a start r e w.none same)) ∙ e

-- each run but that one is still there
still_there : (start a : ℤ) (run r : Run) (old new : Row) → IsWithout start old new → old start ≡ Some run → old a ≡ Some r
    → (new a ≡ Some r) ⊎ ((start ≡ a) × (run ≡ r))
still_there start a run r old new w begins e = by_lt_z a start
    (λ less. inl (w.others a (λ same. omega (arith, ints, same, less)) ∙ e))
    (λ not_less. by_lt_z start a
    (λ more. inl (w.others a (λ same. omega (arith, ints, same, more)) ∙ e))
    (λ not_more. let same : start ≡ a = omega (arith, ints, not_less, not_more) in inr (same, same_run old start a run r begins e same)))

same_is_eq : (a : ℤ) → is_eq (int_cmp a a) ≡ true
same_is_eq a = grind (arith, ints)

-- the row without a run has the others
pub is_without : (start : ℤ) (row : Row) → IsWithout start row (without start row)
is_without start row = record {
  none = ap (λ same. cond same None (row start)) (same_is_eq start);
  others = λ a other. ap (λ same. cond same None (row a)) (not_eq start a other);
}

-- of two runs that are not one, one ends before the other begins
beside : (row : Row) (a b : ℤ) (r s : Run) → AreRuns row → row a ≡ Some r → row b ≡ Some s → (a ≡ b) ⊎ ((r.to <ℤ b) ⊎ (s.to <ℤ a))
beside row a b r s runs e f = by_lt_z a b
    (λ less. inr (inl (runs.apart a b r s e f less)))
    (λ not_less. by_lt_z b a
    (λ more. inr (inr (runs.apart b a s r f e more)))
    (λ not_more. inl (omega (arith, ints, not_less, not_more))))

-- no run has the column where a run ends
ends_there : (row : Row) (start : ℤ) (run : Run) → AreRuns row → row start ≡ Some run → IsInRow row run.to → ⊥
ends_there row start run runs begins h =
    let after = h.after in let before = h.before in let long = runs.long start run begins in elim (beside row h.from start h.run run runs h.begins begins) [
      | inl same ↦ (let one : h.run.to ≡ run.to = ap (λ v. v.to) (same_run row h.from start h.run run h.begins begins same) in omega (arith, ints, one, before))
      | inr (inl k) ↦ omega (arith, ints, k, before, long)
      | inr (inr k) ↦ omega (arith, ints, k, after)
    ]

-- a run that has all the columns is taken out alone
pub taken_alone : (from to start : ℤ) (run : Run) (old : Row) → AreRuns old → old start ≡ Some run → start ≤ℤ from → from ≤ℤ to → to ≤ℤ run.to
    → IsTaken from to start run.to old (without start old)
taken_alone from to start run old runs begins no_later order no_sooner = let w = is_without start old in record {
  first = no_later;
  last = no_sooner;
  rest = λ a r e. let o = without_fewer start old (without start old) w a r e in (
    o,
    elim (beside old a start r run runs o begins) [
      | inl same ↦ absurd (none_begins (without start old) a start r e w.none same)
      | inr apart ↦ apart
    ],
  );
  gone = λ a r e. elim (still_there start a run r old (without start old) w begins e) [
    | inl k ↦ inl k
    | inr s ↦ inr (omega (arith, ints, s.0), (let one : run.to ≡ r.to = ap (λ v. v.to) s.1 in omega (arith, ints, one)))
  ];
  on_left = λ x after before. record { from = start; run = run; begins = begins; after = after; before = omega (arith, ints) };
  on_right = λ x after before. record { from = start; run = run; begins = begins; after = omega (arith, ints); before = before };
}

-- how far the taking out has come
pub record IsTaking (from to left right : ℤ) (old new : Row) : Type 0 where
  pub first : left ≤ℤ from
  pub last : to ≤ℤ right
  pub rest : (a : ℤ) (run : Run) → new a ≡ Some run → old a ≡ Some run
  pub gone : (a : ℤ) (run : Run) → old a ≡ Some run → (new a ≡ Some run) ⊎ ((left ≤ℤ a) × (run.to ≤ℤ right))
  pub left_run : (left ≡ from) ⊎ ((run : Run) × ((old left ≡ Some run) × (from ≤ℤ run.to)))
  pub right_run : (right ≡ to) ⊎ ((a : ℤ) × ((run : Run) × ((old a ≡ Some run) × (run.to ≡ right) × (a ≤ℤ to))))

-- one more run is taken
pub taking_more : (from to left right start : ℤ) (run : Run) (old mid new : Row) → IsTaking from to left right old mid → Touches mid from to start run
    → IsWithout start mid new
    → IsTaking from to (int_min left start) (int_max right run.to) old new
taking_more from to left right start run old mid new h t w =
    let first = h.first in let last = h.last in
    let begins : old start ≡ Some run = h.rest start run t.begins in
    record {
      first = omega (arith, ints, clamps, first);
      last = omega (arith, ints, clamps, last);
      rest = λ a r e. h.rest a r (sym (w.others a (λ same. none_begins new a start r e w.none same)) ∙ e);
      gone = λ a r e. elim (h.gone a r e) [
        | inl m ↦ elim (still_there start a run r mid new w t.begins m) [
          | inl k ↦ inl k
          | inr s ↦ inr (omega (arith, ints, clamps, s.0), (let one : run.to ≡ r.to = ap (λ v. v.to) s.1 in omega (arith, ints, clamps, one)))
        ]
        | inr g ↦ inr (omega (arith, ints, clamps, g.0), omega (arith, ints, clamps, g.1))
      ];
      left_run = by_lt_z start left
          (λ less. inr (run, (let is : start ≡ int_min left start = omega (arith, ints, clamps, less) in subst (λ v. old v ≡ Some run) is begins, t.no_sooner)))
          (λ not_less. let is : left ≡ int_min left start = omega (arith, ints, clamps, not_less) in elim h.left_run [
            | inl e ↦ inl (sym is ∙ e)
            | inr r ↦ inr (r.0, (subst (λ v. old v ≡ Some r.0) is r.1.0, r.1.1))
          ]);
      right_run = by_lt_z right run.to
          (λ less. inr (start, (run, (begins, omega (arith, ints, clamps, less), t.no_later))))
          (λ not_less. let is : right ≡ int_max right run.to = omega (arith, ints, clamps, not_less) in elim h.right_run [
            | inl e ↦ inl (sym is ∙ e)
            | inr r ↦ inr (r.0, (r.1.0, (r.1.1.0, r.1.1.1 ∙ is, r.1.1.2)))
          ]);
    }

-- no run is left to take
pub taking_ends : (from to left right : ℤ) (old new : Row) → from ≤ℤ to → AreRuns old → IsTaking from to left right old new
    → ((a : ℤ) (run : Run) → new a ≡ Some run → a ≤ℤ to → run.to <ℤ from) → IsTaken from to left right old new
taking_ends from to left right old new order runs h none = record {
  first = h.first;
  last = h.last;
  rest = λ a r e. (
    h.rest a r e,
    by_lt_z to a (λ after. inr (clear_right a r (h.rest a r e) after))
        (λ not_after. inl (clear_left a r (h.rest a r e) (none a r e not_after))),
  );
  gone = h.gone;
  on_left = λ x after before. elim h.left_run [
    | inl e ↦ absurd (omega (arith, ints, e, after, before))
    | inr r ↦ record { from = left; run = r.0; begins = r.1.0; after = after; before = (let ends = r.1.1 in omega (arith, ints, before, ends)) }
  ];
  on_right = λ x after before. elim h.right_run [
    | inl e ↦ absurd (omega (arith, ints, e, after, before))
    | inr r ↦ (let starts = r.1.1.2 in let ends = r.1.1.1 in
        record { from = r.0; run = r.1.0; begins = r.1.1.0; after = omega (arith, ints, after, starts); before = omega (arith, ints, before, ends) })
  ];
}
  where
    clear_right : (a : ℤ) (r : Run) → old a ≡ Some r → to <ℤ a → right <ℤ a
    clear_right a r e after = elim h.right_run [
      | inl same ↦ omega (arith, ints, same, after)
      | inr s ↦ (let starts = s.1.1.2 in let ends = s.1.1.1 in let apart = runs.apart s.0 a s.1.0 r s.1.1.0 e (omega (arith, ints, after, starts)) in
          omega (arith, ints, apart, ends))
    ]

    clear_left : (a : ℤ) (r : Run) → old a ≡ Some r → r.to <ℤ from → r.to <ℤ left
    clear_left a r e before = elim h.left_run [
      | inl same ↦ omega (arith, ints, same, before)
      | inr s ↦ (let ends = s.1.1 in by_lt_z a left
          (λ less. runs.apart a left r s.0 e s.1.0 less)
          (λ not_less. by_lt_z left a
          (λ more. absurd (let apart = runs.apart left a s.0 r s.1.0 e more in let long = runs.long a r e in omega (arith, ints, apart, long, ends, before)))
          (λ not_more. absurd (let same : a ≡ left = omega (arith, ints, not_less, not_more) in
          let one : r.to ≡ s.0.to = ap (λ v. v.to) (same_run old a left r s.0 e s.1.0 same) in omega (arith, ints, one, ends, before)))))
    ]

-- changes at one row, one after the other
pub changes_none : (y : ℤ) (row : Row) (bars : List Bar) → Changes y row row bars bars
changes_none y row bars = record { fresh = λ a r e. inl e; ended = λ a r e. inl e; kept = λ bar i. i; written = λ bar i. inl i }

written_before : (y : ℤ) (old mid : Row) (before after : List Bar) (bar : Bar) → Changes y old mid before after → IsWritten mid y bar → IsWritten old y bar
written_before y old mid before after bar h w = elim (h.fresh w.from w.run w.begins) [
  | inl e ↦ record { from = w.from; run = w.run; begins = e; high = w.high; is = w.is }
  | inr e ↦ absurd (let high = w.high in omega (arith, ints, e, high))
]

-- one change of a row and then another
pub changes_both : (y : ℤ) (old mid new : Row) (before between after : List Bar) → Changes y old mid before between → Changes y mid new between after
    → Changes y old new before after
changes_both y old mid new before between after g h = record {
  fresh = λ a r e. elim (h.fresh a r e) [ inl m ↦ g.fresh a r m | inr s ↦ inr s ];
  ended = λ a r e. elim (g.ended a r e) [
    | inl m ↦ h.ended a r m
    | inr (inl i) ↦ inr (inl (h.kept (bar_of a r y) i))
    | inr (inr late) ↦ inr (inr late)
  ];
  kept = λ bar i. h.kept bar (g.kept bar i);
  written = λ bar i. elim (h.written bar i) [ inl m ↦ g.written bar m | inr w ↦ inr (written_before y old mid before between bar g w) ];
}

-- one run is taken out and written
pub changes_taken : (y start : ℤ) (run : Run) (mid new : Row) (before after : List Bar) → mid start ≡ Some run → IsWithout start mid new
    → ((bar : Bar) → In bar before → In bar after) → In (bar_of start run y) after ⊎ (y ≤ℤ run.since)
    → ((bar : Bar) → In bar after → In bar before ⊎ ((run.since <ℤ y) × (bar_of start run y ≡ bar))) → Changes y mid new before after
changes_taken y start run mid new before after begins w keeps ends adds = record {
  fresh = λ a r e. inl (sym (w.others a (λ same. none_begins new a start r e w.none same)) ∙ e);
  ended = λ a r e. elim (still_there start a run r mid new w begins e) [
    | inl k ↦ inl k
    | inr s ↦ inr (subst (λ v. In (bar_of v r y) after ⊎ (y ≤ℤ r.since)) s.0 (subst (λ v. In (bar_of start v y) after ⊎ (y ≤ℤ v.since)) s.1 ends))
  ];
  kept = keeps;
  written = λ bar i. elim (adds bar i) [ inl k ↦ inl k | inr k ↦ inr (record { from = start; run = run; begins = begins; high = k.0; is = k.1 }) ];
}

-- a run is put in where none is
pub placed : (from to y : ℤ) (run : Run) (old new : Row) → from <ℤ to → AreRuns old → LiesClear from to old → run.to ≡ to → run.since ≡ y
    → new from ≡ Some run → ((a : ℤ) → (a ≡ from → ⊥) → new a ≡ old a) → IsPlaced from to y old new
placed from to y run old new long runs clear run_to run_since begins others =
    record {
      apart = record { long = longs; apart = aparts };
      kept = λ a r e. others a (λ same. not_there a r e same) ∙ e;
      fresh = fresh;
      added = λ x after before. record { from = from; run = run; begins = begins; after = after; before = omega (arith, ints, before, run_to) };
    }
  where
    not_there : (a : ℤ) (r : Run) → old a ≡ Some r → a ≡ from → ⊥
    not_there a r e same = let l = runs.long a r e in elim (clear a r e) [
      | inl h ↦ omega (arith, ints, h, l, same)
      | inr h ↦ omega (arith, ints, h, same, long)
    ]

    fresh : (a : ℤ) (r : Run) → new a ≡ Some r → (old a ≡ Some r) ⊎ ((a ≡ from) × (r.to ≡ to) × (r.since ≡ y))
    fresh a r e = by_lt_z a from
        (λ less. inl (sym (others a (λ same. omega (arith, ints, same, less))) ∙ e))
        (λ not_less. by_lt_z from a
        (λ more. inl (sym (others a (λ same. omega (arith, ints, same, more))) ∙ e))
        (λ not_more. let same : a ≡ from = omega (arith, ints, not_less, not_more) in
        let one : r ≡ run = same_run new a from r run e begins same in
        inr (same, ap (λ v. v.to) one ∙ run_to, ap (λ v. v.since) one ∙ run_since)))

    longs : (a : ℤ) (r : Run) → new a ≡ Some r → a <ℤ r.to
    longs a r e = elim (fresh a r e) [ inl o ↦ runs.long a r o | inr f ↦ (let s = f.0 in let t = f.1 in omega (arith, ints, s, t, long)) ]

    aparts : (a b : ℤ) (r s : Run) → new a ≡ Some r → new b ≡ Some s → a <ℤ b → r.to <ℤ b
    aparts a b r s e f less = elim (fresh a r e) [
      | inl o ↦ elim (fresh b s f) [
        | inl p ↦ runs.apart a b r s o p less
        | inr p ↦ elim (clear a r o) [
          | inl h ↦ (let q = p.0 in omega (arith, ints, h, q))
          | inr h ↦ absurd (let q = p.0 in omega (arith, ints, h, q, less, long))
        ]
      ]
      | inr o ↦ elim (fresh b s f) [
        | inl p ↦ elim (clear b s p) [
          | inl h ↦ absurd (let l = runs.long b s p in let q = o.0 in omega (arith, ints, h, q, l, less))
          | inr h ↦ (let q = o.1 in omega (arith, ints, h, q))
        ]
        | inr p ↦ absurd (let q = o.0 in let t = p.0 in omega (arith, ints, q, t, less))
      ]
    ]

-- a run is put in instead of the one that begins there
pub replaced : (from to y : ℤ) (run : Run) (old new : Row) → from <ℤ to → AreRuns old → LiesClear from to (without from old) → run.to ≡ to
    → run.since ≡ y → new from ≡ Some run → ((a : ℤ) → (a ≡ from → ⊥) → new a ≡ old a) → IsPlaced from to y (without from old) new
replaced from to y run old new long runs clear run_to run_since begins others =
    let w = is_without from old in
    placed from to y run (without from old) new long (fewer_runs old (without from old) (without_fewer from old (without from old) w) runs) clear
    run_to run_since begins (λ a other. others a other ∙ sym (w.others a other))

-- what is put in at a row changes it as it may
pub changes_placed : (from to y : ℤ) (old new : Row) (bars : List Bar) → IsPlaced from to y old new → Changes y old new bars bars
changes_placed from to y old new bars h = record {
  fresh = λ a r e. elim (h.fresh a r e) [ inl o ↦ inl o | inr f ↦ inr f.2 ];
  ended = λ a r e. inl (h.kept a r e);
  kept = λ bar i. i;
  written = λ bar i. inl i;
}

still_in : (old new : Row) → ((a : ℤ) (run : Run) → old a ≡ Some run → new a ≡ Some run) → (x : ℤ) → IsInRow old x → IsInRow new x
still_in old new keeps x h = record { from = h.from; run = h.run; begins = keeps h.from h.run h.begins; after = h.after; before = h.before }

-- a column of what was put in
in_placed : (from to y : ℤ) (old new : Row) (x : ℤ) → IsPlaced from to y old new → IsInRow new x → IsInRow old x ⊎ ((from ≤ℤ x) × (x <ℤ to))
in_placed from to y old new x p h = elim (p.fresh h.from h.run h.begins) [
  | inl o ↦ inl (record { from = h.from; run = h.run; begins = o; after = h.after; before = h.before })
  | inr f ↦ inr (let s = f.0 in let t = f.1 in let after = h.after in let before = h.before in (omega (arith, ints, s, after), omega (arith, ints, t, before)))
]

module _ (from to left right : ℤ) (old mid : Row) (t : IsTaken from to left right old mid) where
  pub taken_clear : LiesClear left right mid
  taken_clear a r e = (t.rest a r e).1

  -- a column of an old run is still in a run, or in one that was taken out
  in_taken : (x : ℤ) → IsInRow old x → IsInRow mid x ⊎ ((left ≤ℤ x) × (x <ℤ right))
  in_taken x h = elim (t.gone h.from h.run h.begins) [
    | inl m ↦ inl (record { from = h.from; run = h.run; begins = m; after = h.after; before = h.before })
    | inr g ↦ inr (let after = h.after in let before = h.before in (omega (arith, ints, g.0, after), omega (arith, ints, g.1, before)))
  ]

  was_in : (x : ℤ) → IsInRow mid x → IsInRow old x
  was_in = still_in mid old (λ a r e. (t.rest a r e).0)

  outer : (x : ℤ) → left ≤ℤ x → x <ℤ right → IsInRow old x ⊎ ((from ≤ℤ x) × (x <ℤ to))
  outer x after before = by_lt_z x from
      (λ less. inl (t.on_left x after less))
      (λ not_less. by_lt_z x to (λ inside. inr (not_less, inside)) (λ beyond. inl (t.on_right x beyond before)))

  pub covered : (y : ℤ) (new : Row) (before after : List Bar) → Changes y old mid before after → IsPlaced left right y mid new
      → IsCovered from to y old new before after
  covered y new before after c p = record {
    apart = p.apart;
    changes = changes_both y old mid new before after after c (changes_placed left right y mid new after p);
    kept = λ x h. elim (in_taken x h) [ inl m ↦ still_in mid new p.kept x m | inr g ↦ p.added x g.0 g.1 ];
    added = λ x first last. (let f = t.first in let l = t.last in p.added x (omega (arith, ints, f, first)) (omega (arith, ints, l, last)));
    only = λ x h. elim (in_placed left right y mid new x p h) [ inl m ↦ inl (was_in x m) | inr g ↦ outer x g.0 g.1 ];
  }

  -- two runs are put back, one on each side
  pub first_clear : from <ℤ to → LiesClear left from mid
  first_clear order a r e = elim (t.rest a r e).1 [ inl h ↦ inl h | inr h ↦ inr (let l = t.last in omega (arith, ints, h, l, order)) ]

  pub second_clear : (y : ℤ) (next : Row) → from <ℤ to → IsPlaced left from y mid next → LiesClear to right next
  second_clear y next order p a r e = elim (p.fresh a r e) [
    | inl m ↦ elim (t.rest a r m).1 [ inl h ↦ inl (let f = t.first in omega (arith, ints, h, f, order)) | inr h ↦ inr h ]
    | inr f ↦ inl (let s = f.1 in omega (arith, ints, s, order))
  ]

  pub uncovered : (y : ℤ) (next new : Row) (before after : List Bar) → from <ℤ to → Changes y old mid before after → IsPlaced left from y mid next
      → IsPlaced to right y next new
      → IsUncovered from to y old new before after
  uncovered y next new before after order c p q = record {
    apart = q.apart;
    changes = changes_both y old next new before after after (changes_both y old mid next before after after c
        (changes_placed left from y mid next after p)) (changes_placed to right y next new after q);
    stayed = λ x h. elim (in_placed to right y next new x q h) [
      | inl n ↦ elim (in_placed left from y mid next x p n) [ inl m ↦ was_in x m | inr g ↦ t.on_left x g.0 g.1 ]
      | inr g ↦ t.on_right x g.0 g.1
    ];
    none = λ x first last h. elim (in_placed to right y next new x q h) [
      | inl n ↦ elim (in_placed left from y mid next x p n) [ inl m ↦ not_inside x first last m | inr g ↦ (let s = g.1 in omega (arith, ints, s, first)) ]
      | inr g ↦ (let s = g.0 in omega (arith, ints, s, last))
    ];
    kept = λ x h. elim (in_taken x h) [
      | inl m ↦ inl (still_in next new q.kept x (still_in mid next p.kept x m))
      | inr g ↦ by_lt_z x from
          (λ less. inl (still_in next new q.kept x (p.added x g.0 less)))
          (λ not_less. by_lt_z x to (λ inside. inr (not_less, inside)) (λ beyond. inl (q.added x beyond g.1)))
    ];
  }
    where
      not_inside : (x : ℤ) → from ≤ℤ x → x <ℤ to → IsInRow mid x → ⊥
      not_inside x first last h = let after' = h.after in let before' = h.before in let f = t.first in let l = t.last in elim (t.rest h.from h.run h.begins).1 [
        | inl k ↦ omega (arith, ints, k, before', first, f)
        | inr k ↦ omega (arith, ints, k, after', last, l)
      ]

-- a run is made longer from its end on: the runs that begin after it are taken out, and then it is put in as it is now
module _ (to left right start : ℤ) (run : Run) (old mid : Row) (runs : AreRuns old) (begins : old start ≡ Some run)
    (t : IsTaken (run.to +ℤ pos 1) to left right old mid) (order : run.to ≤ℤ to) where
  begins_after : run.to <ℤ left
  begins_after = by_lt_z run.to left (λ less. less)
      (λ not_less. absurd (ends_there old start run runs begins (t.on_left run.to not_less (omega (arith, ints)))))

  unmoved : mid start ≡ Some run
  unmoved = elim (t.gone start run begins) [
    | inl m ↦ m
    | inr g ↦ absurd (let long = runs.long start run begins in let first = g.0 in let no = begins_after in omega (arith, ints, first, long, no))
  ]

  pub taken_longer : IsTaken run.to to start right old (without start mid)
  taken_longer = let w = is_without start mid in let long = runs.long start run begins in let last = t.last in record {
    first = omega (arith, ints, long);
    last = last;
    rest = λ a r e. let o = t.rest a r (without_fewer start mid (without start mid) w a r e) in (
      o.0,
      elim (beside old a start r run runs o.0 begins) [
        | inl same ↦ absurd (none_begins (without start mid) a start r e w.none same)
        | inr (inl k) ↦ inl k
        | inr (inr k) ↦ elim o.1 [
          | inl h ↦ absurd (let f = t.first in let l = runs.long a r o.0 in omega (arith, ints, k, h, f, l))
          | inr h ↦ inr h
        ]
      ],
    );
    gone = λ a r e. elim (t.gone a r e) [
      | inl m ↦ elim (still_there start a run r mid (without start mid) w unmoved m) [
        | inl k ↦ inl k
        | inr s ↦ inr (omega (arith, ints, s.0), (let one : run.to ≡ r.to = ap (λ v. v.to) s.1 in omega (arith, ints, one, order, last)))
      ]
      | inr g ↦ inr (let no = begins_after in (omega (arith, ints, g.0, no, long), g.1))
    ];
    on_left = λ x first before. record { from = start; run = run; begins = begins; after = first; before = before };
    on_right = t.on_right;
  }

  pub longer : (y : ℤ) (new : Row) (before now : List Bar) → run.since ≡ y → Changes y old mid before now → IsPlaced start right y (without start mid) new
      → IsCovered run.to to y old new before now
  longer y new before now since c p = covered run.to to start right old (without start mid) taken_longer y new before now
      (changes_both y old mid (without start mid) before now now c (changes_taken y start run mid (without start mid) now now unmoved
      (is_without start mid) (λ bar i. i) (inr (omega (arith, ints, since))) (λ bar i. inl i))) p

-- columns that a run has already need not come to it
pub covered_from : (from to y start : ℤ) (run : Run) (old new : Row) (before after : List Bar) → old start ≡ Some run → start ≤ℤ from → from ≤ℤ run.to
    → IsCovered run.to to y old new before after → IsCovered from to y old new before after
covered_from from to y start run old new before after begins first last h = record {
  apart = h.apart;
  changes = h.changes;
  kept = h.kept;
  added = λ x left right. by_lt_z x run.to
      (λ inside. h.kept x (record { from = start; run = run; begins = begins; after = omega (arith, ints, first, left); before = inside }))
      (λ beyond. h.added x beyond right);
  only = λ x i. elim (h.only x i) [ inl o ↦ inl o | inr o ↦ inr (omega (arith, ints, o.0, last), o.1) ];
}

-- nothing changes where there are no columns to be taken out
pub uncovered_before : (from to y : ℤ) (row : Row) (bars : List Bar) → AreRuns row → to ≤ℤ from → IsUncovered from to y row row bars bars
uncovered_before from to y row bars runs order = record {
  apart = runs;
  changes = changes_none y row bars;
  stayed = λ x h. h;
  none = λ x first last h. omega (arith, ints, first, last, order);
  kept = λ x h. inl h;
}
