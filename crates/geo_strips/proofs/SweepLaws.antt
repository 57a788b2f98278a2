-- The sweep keeps track of what rectangles cover, row by row.
use Rattle.geo_strips.proofs.Common.{◌≡◌, ◌⊎◌, inl, inr, ◌<◌, ℤ, pos, ◌-ℤ◌, ◌≤ℤ◌, ◌<ℤ◌, Bool, true, false, cond, List, [], ◌∷◌, ◌++◌, length, take}
use Rattle.geo_strips.proofs.Common.{drop, get_or, Some, None, refl, sym, ◌∙◌, ap, subst, arith, ◌&&◌, int_le, int_lt, int_max, cases_Bool}
use Rattle.geo_strips.proofs.Common.{false≢true, ints, clamps, by_lt_z, take_more, In, In-append_left, In-push, In-push_cases, In-index, In-get_or}
use Rattle.geo_strips.proofs.Common.{Square, Rect, Bar, Gap, Event, Run, until, IsTopped, IsCut, AreEvents, sides_of, Row, IsInRow, AreRuns, bar_of}
use Rattle.geo_strips.proofs.Common.{IsWritten, Changes, IsCovered, IsUncovered, IsRun, IsInUnion, row_of, HaveSquare, AreRunBars}
use Rattle.std.proofs.Common.{ℕ, zero, suc, ◌+◌}
use Rattle.std.proofs.Common.{length-drop, drop-cons, add-one}
use Rattle.std.specs.Prelude.{◌^◌, neg_ℤ}
use Rattle.std.proofs.lemmas.List.{take-append-drop, get_or-drop}
use Rattle.geo_core.proofs.FiniteSets.Members.{In-append_cases}
use Rattle.geo_strips.specs.Coverage.{raised, HaveColumn, AddsColumns, IsGap}
use Rattle.geo_core.specs.Covering.{Covers, IsProper}
use Rattle.geo_strips.specs.steps.RowEvents.{begin_of, HaveEnd}
use Rattle.geo_strips.specs.declared.sweeping.Sweep.{Sweep}
use Rattle.geo_strips.specs.steps.Sweeping.{RectBegins, RectsEnd}
use Rattle.geo_strips.proofs.RowLaws.{changes_both, same_run}

-- below all rows: the least signed number of 64 bits
abbrev pub lowest : ℤ
lowest = neg_ℤ (pos (2 ^ 63))

-- what the gaps so far took out of the runs
pub record IsEnding (y : ℤ) (done : List Gap) (old new : Row) (before after : List Bar) : Type 0 where
  pub apart : AreRuns new
  pub changes : Changes y old new before after
  pub stayed : (x : ℤ) → IsInRow new x → IsInRow old x
  pub none : (x : ℤ) → HaveColumn done x → IsInRow new x → ⊥
  pub kept : (x : ℤ) → IsInRow old x → IsInRow new x ⊎ HaveColumn done x

-- one more gap is taken out
pub ending_more : (y : ℤ) (done : List Gap) (gap : Gap) (old mid new : Row) (before between after : List Bar) → IsEnding y done old mid before between
    → IsUncovered gap.from gap.to y mid new between after → IsEnding y (done ++ gap ∷ []) old new before after
ending_more y done gap old mid new before between after h u = record {
  apart = u.apart;
  changes = changes_both y old mid new before between after h.changes u.changes;
  stayed = λ x i. h.stayed x (u.stayed x i);
  none = λ x c i. elim (In-push_cases c.0 done gap c.1.0) [
    | inl k ↦ h.none x (c.0, (k, c.1.1, c.1.2)) (u.stayed x i)
    | inr e ↦ u.none x (subst (λ (g : Gap). g.from ≤ℤ x) (sym e) c.1.1) (subst (λ (g : Gap). x <ℤ g.to) (sym e) c.1.2) i
  ];
  kept = λ x i. elim (h.kept x i) [
    | inl m ↦ elim (u.kept x m) [ inl n ↦ inl n | inr g ↦ inr (gap, (In-push done gap, g.0, g.1)) ]
    | inr c ↦ inr (c.0, (In-append_left c.0 done (gap ∷ []) c.1.0, c.1.1, c.1.2))
  ];
}

-- all gaps were taken out
pub sweep_ended : (event : Event) (old new : Sweep) (gaps : List Gap) → AddsColumns (IsGap old.coverage event.from event.to event.row) [] gaps
    → IsEnding event.row gaps (row_of old) (row_of new) old.found.items new.found.items → new.coverage ≡ old.coverage → RectsEnd event old new
sweep_ended event old new gaps adds e same = record {
  apart = e.apart;
  changes = e.changes;
  stayed = e.stayed;
  none = λ x u i. e.none x (adds.added x u) i;
  kept = λ x i. elim (e.kept x i) [ inl n ↦ inl n | inr g ↦ elim (adds.only x g) [ inl f ↦ absurd f.1.0 | inr u ↦ inr u ] ];
  same = same;
}

-- the square in this column and row
abbrev pub at : ℤ → ℤ → Square
at x y = record { x = x; y = y }

-- a beginning of the list at the row y, in columns of which x is one
pub record HaveBegin (events : List Event) (x y : ℤ) : Type 0 where
  pub event : Event
  pub in_list : In event events
  pub begins : event.ends ≡ false
  pub at_row : event.row ≡ y
  pub after : event.from ≤ℤ x
  pub before : x <ℤ event.to

module _ (S : Square → Type 0) where
  -- what is known of the runs below the row h: those that have ended, and those that there are
  pub record AreBooked (h : ℤ) (row : Row) (found : List Bar) : Type 0 where
    pub since : (a : ℤ) (run : Run) → row a ≡ Some run → run.since ≤ℤ h
    pub standing : (a : ℤ) (run : Run) → row a ≡ Some run → (y : ℤ) → run.since ≤ℤ y → y <ℤ h → IsRun S a run.to y
    pub long : (bar : Bar) → In bar found → bar.from <ℤ bar.to
    pub runs : (bar : Bar) → In bar found → (y : ℤ) → bar.from ≤ℤ y → y <ℤ bar.to → IsRun S bar.low bar.high y
    pub whole : (x y : ℤ) → S (at x y) → y <ℤ h
        → HaveSquare found x y ⊎ ((a : ℤ) × ((run : Run) × ((row a ≡ Some run) × (a ≤ℤ x) × (x <ℤ run.to) × (run.since ≤ℤ y))))

  written_long : (h : ℤ) (row : Row) (found : List Bar) (bar : Bar) → AreBooked h row found → IsWritten row h bar → bar.from <ℤ bar.to
  written_long h row found bar b w = subst (λ (v : Bar). v.from <ℤ v.to) w.is w.high

  written_runs : (h : ℤ) (row : Row) (found : List Bar) (bar : Bar) → AreBooked h row found → IsWritten row h bar → (y : ℤ) → bar.from ≤ℤ y
      → y <ℤ bar.to → IsRun S bar.low bar.high y
  written_runs h row found bar b w = subst (λ (v : Bar). (y : ℤ) → v.from ≤ℤ y → y <ℤ v.to → IsRun S v.low v.high y) w.is (b.standing w.from w.run w.begins)

  pub booked_changed : (h : ℤ) (row row' : Row) (found found' : List Bar) → AreBooked h row found → Changes h row row' found found' → AreBooked h row' found'
  booked_changed h row row' found found' b c = record {
    since = λ a r e. elim (c.fresh a r e) [ inl o ↦ b.since a r o | inr s ↦ omega (arith, ints, s) ];
    standing = λ a r e y from to. elim (c.fresh a r e) [ inl o ↦ b.standing a r o y from to | inr s ↦ absurd (omega (arith, ints, s, from, to)) ];
    long = λ bar i. elim (c.written bar i) [ inl k ↦ b.long bar k | inr w ↦ written_long h row found bar b w ];
    runs = λ bar i. elim (c.written bar i) [ inl k ↦ b.runs bar k | inr w ↦ written_runs h row found bar b w ];
    whole = λ x y s below. elim (b.whole x y s below) [
      | inl f ↦ inl (record { bar = f.bar; in_list = c.kept f.bar f.in_list; left = f.left; right = f.right; from = f.from; to = f.to })
      | inr r ↦ (let a = r.0 in let run = r.1.0 in let begins = r.1.1.0 in let since = r.1.1.3 in elim (c.ended a run begins) [
        | inl n ↦ inr (a, (run, (n, r.1.1.1, r.1.1.2, since)))
        | inr (inl i) ↦ inl (record { bar = bar_of a run h; in_list = i; left = r.1.1.1; right = r.1.1.2; from = since; to = below })
        | inr (inr late) ↦ absurd (omega (arith, ints, late, since, below))
      ])
    ];
  }

  -- up to a row h' the rows are as the runs say
  pub record IsSteady (h h' : ℤ) (row : Row) : Type 0 where
    pub there : (x y : ℤ) → h ≤ℤ y → y <ℤ h' → IsInRow row x → S (at x y)
    pub back : (x y : ℤ) → h ≤ℤ y → y <ℤ h' → S (at x y) → IsInRow row x

  -- a run of the row is a run of the set where the row is as the runs say
  run_of_row : (row : Row) (a y : ℤ) (run : Run) → AreRuns row → ((x : ℤ) → IsInRow row x → S (at x y)) → ((x : ℤ) → S (at x y) → IsInRow row x)
      → row a ≡ Some run → IsRun S a run.to y
  run_of_row row a y run runs there back begins = record {
    long = runs.long a run begins;
    within = λ x from to. there x (record { from = a; run = run; begins = begins; after = from; before = to });
    left = λ s. (let i = back (a -ℤ pos 1) s in let after = i.after in let before = i.before in
        let apart = runs.apart i.from a i.run run i.begins begins (omega (arith, ints, after)) in omega (arith, ints, apart, before));
    right = λ s. (let i = back run.to s in let after = i.after in let before = i.before in let long = runs.long a run begins in
        let apart = runs.apart a i.from run i.run begins i.begins in
        by_lt_z a i.from
        (λ less. let gap = apart less in omega (arith, ints, gap, after))
        (λ not_less. by_lt_z i.from a
        (λ more. let gap = runs.apart i.from a i.run run i.begins begins more in omega (arith, ints, gap, before, long))
        (λ not_more. let same : i.from ≡ a = omega (arith, ints, not_less, not_more) in
        let one : i.run.to ≡ run.to = ap (λ r. r.to) (same_run row i.from a i.run run i.begins begins same) in omega (arith, ints, one, before))));
  }

  pub booked_advanced : (h h' : ℤ) (row : Row) (found : List Bar) → h ≤ℤ h' → AreRuns row → IsSteady h h' row → AreBooked h row found → AreBooked h' row found
  booked_advanced h h' row found order apart steady b = record {
    since = λ a r e. (let early = b.since a r e in omega (arith, ints, early, order));
    standing = λ a r e y from to. by_lt_z y h
        (λ less. b.standing a r e y from less)
        (λ not_less. run_of_row row a y r apart (λ x i. steady.there x y not_less to i) (λ x s. steady.back x y not_less to s) e);
    long = b.long;
    runs = b.runs;
    whole = λ x y s below. by_lt_z y h
        (λ less. b.whole x y s less)
        (λ not_less. inr (let i = steady.back x y not_less below s in (
          i.from,
          (
            i.run,
            (
              i.begins,
              i.after,
              i.before,
              (let early = b.since i.from i.run
                  i.begins in omega (arith, ints, early, not_less)),
            ),
          ),
        )));
  }

-- what is known of the sweep at the row h, between the events that are done and the rest
pub record IsSweptTo (areas : List Rect) (h : ℤ) (done rest : List Event) (lowest : ℤ) (row : Row) (until : ℤ → ℤ) (found : List Bar) : Type 0 where
  pub past : (e : Event) → In e done → e.row ≤ℤ h
  pub coming : (e : Event) → In e rest → h ≤ℤ e.row
  pub apart : AreRuns row
  pub booked : AreBooked (IsInUnion areas) h row found
  pub surplus : (x : ℤ) → IsInRow row x → IsInUnion areas (at x h) ⊎ HaveEnd rest x h
  pub missing : (x : ℤ) → IsInUnion areas (at x h) → IsInRow row x ⊎ HaveBegin rest x h
  pub tall : (e : Event) → In e done → e.ends ≡ false → (x : ℤ) → e.from ≤ℤ x → x <ℤ e.to → e.top ≤ℤ until x
  pub reach : (x : ℤ) → (until x ≡ lowest) ⊎ ((e : Event) × ((In e done) × (e.ends ≡ false) × (e.from ≤ℤ x) × (x <ℤ e.to) × (until x ≤ℤ e.top)))

covers_proper : (area : Rect) (x y : ℤ) → Covers area (at x y) → IsProper area
covers_proper area x y c = let left = c.right_of_xlo in let right = c.left_of_xhi in let low = c.above_ylo in let high = c.below_yhi in
    record { wide = omega (arith, ints, left, right); high = omega (arith, ints, low, high) }

module _ (areas : List Rect) (events : List Event) (are : AreEvents areas events) (done rest : List Event) (lowest : ℤ) (row : Row) (until : ℤ → ℤ)
    (found : List Bar)
    (split : (e : Event) → In e events → In e done ⊎ In e rest) where
  -- a rectangle that covers a row before the next events has begun, and has not ended
  module _ (h h' : ℤ) (s : IsSweptTo areas h done rest lowest row until found) (later : (e : Event) → In e rest → h' ≤ℤ e.row) where
    begun_before : (area : Rect) (x y : ℤ) → In area areas → Covers area (at x y) → y <ℤ h' → area.ylo ≤ℤ h
    begun_before area x y i c below = elim (split (begin_of area) (are.begun area i (covers_proper area x y c))) [
      | inl k ↦ s.past (begin_of area) k
      | inr k ↦ absurd (let late = later (begin_of area) k in let low = c.above_ylo in omega (arith, ints, late, low, below))
    ]

    -- the top of a rectangle that covers the row h comes no sooner than the next events, where its end is
    end_after : (area : Rect) (x : ℤ) → In area areas → Covers area (at x h) → (h' ≤ℤ area.yhi) × HaveEnd rest x area.yhi
    end_after area x i c =
        let e = are.ended area x i (covers_proper area x h c) c.right_of_xlo c.left_of_xhi in
        let is = e.at_row in let high = c.below_yhi in
        elim (split e.event e.in_list) [
          | inl k ↦ absurd (let early = s.past e.event k in omega (arith, ints, early, is, high))
          | inr k ↦ (
            (let late = later e.event k in omega (arith, ints, late, is)),
            record { event = e.event; in_list = k; ends = e.ends; at_row = is; after = e.after; before = e.before },
          )
        ]

    same_below : (x y : ℤ) → h ≤ℤ y → y <ℤ h' → IsInUnion areas (at x h) → IsInUnion areas (at x y)
    same_below x y from to u =
        let c = u.1.1 in let late = (end_after u.0 x u.1.0 c).0 in let low = c.above_ylo in (
          u.0,
          (
            u.1.0,
            record {
              right_of_xlo = c.right_of_xlo;
              left_of_xhi = c.left_of_xhi;
              above_ylo = omega (arith, ints, low, from);
              below_yhi = omega (arith, ints, late, to);
            },
          ),
        )

    same_above : (x y : ℤ) → h ≤ℤ y → y <ℤ h' → IsInUnion areas (at x y) → IsInUnion areas (at x h)
    same_above x y from to u =
        let c = u.1.1 in let early = begun_before u.0 x y u.1.0 c to in let high = c.below_yhi in
        (u.0, (u.1.0, record { right_of_xlo = c.right_of_xlo; left_of_xhi = c.left_of_xhi; above_ylo = early; below_yhi = omega (arith, ints, high, from) }))

    -- with no event at the row the runs are those of the row
    in_union : h <ℤ h' → (x : ℤ) → IsInRow row x → IsInUnion areas (at x h)
    in_union order x i = elim (s.surplus x i) [
      | inl u ↦ u
      | inr e ↦ absurd (let late = later e.event e.in_list in let is = e.at_row in omega (arith, ints, late, is, order))
    ]

    in_row : h <ℤ h' → (x : ℤ) → IsInUnion areas (at x h) → IsInRow row x
    in_row order x u = elim (s.missing x u) [
      | inl i ↦ i
      | inr e ↦ absurd (let late = later e.event e.in_list in let is = e.at_row in omega (arith, ints, late, is, order))
    ]

    steady : IsSteady (IsInUnion areas) h h' row
    steady = record {
      there = λ x y from to i. same_below x y from to (in_union (omega (arith, ints, from, to)) x i);
      back = λ x y from to u. in_row (omega (arith, ints, from, to)) x (same_above x y from to u);
    }

    -- on to the row of the next event
    pub advanced : h <ℤ h' → IsSweptTo areas h' done rest lowest row until found
    advanced order = record {
      past = λ e i. (let early = s.past e i in omega (arith, ints, early, order));
      coming = later;
      apart = s.apart;
      booked = booked_advanced (IsInUnion areas) h h' row found (omega (arith, ints, order)) s.apart steady s.booked;
      surplus = λ x i.
          let u = in_union order x i in let c = u.1.1 in let e = end_after u.0 x u.1.0 c in
          let late = e.0 in let low = c.above_ylo in
          by_lt_z h' u.0.yhi
          (λ less. inl (
            u.0,
            (
              u.1.0,
              record {
                right_of_xlo = c.right_of_xlo;
                left_of_xhi = c.left_of_xhi;
                above_ylo = omega (arith, ints, low, order);
                below_yhi = less;
              },
            ),
          ))
          (λ not_less. inr (subst (HaveEnd rest x) (let same : u.0.yhi ≡ h' = omega (arith, ints, not_less, late) in same) e.1));
      missing = λ x u.
          let c = u.1.1 in let low = c.above_ylo in let high = c.below_yhi in
          elim (split (begin_of u.0) (are.begun u.0 u.1.0 (covers_proper u.0 x h' c))) [
            | inl k ↦ inl (in_row order x (
              u.0,
              (
                u.1.0,
                record {
                  right_of_xlo = c.right_of_xlo;
                  left_of_xhi = c.left_of_xhi;
                  above_ylo = s.past
                      (begin_of u.0) k;
                  below_yhi = omega (arith, ints, high, order);
                },
              ),
            ))
            | inr k ↦ inr (record {
              event = begin_of u.0;
              in_list = k;
              begins = refl;
              at_row = (let late = later (begin_of u.0) k in omega (arith, ints, late, low));
              after = c.right_of_xlo;
              before = c.left_of_xhi;
            })
          ];
      tall = s.tall;
      reach = s.reach;
    }

-- at the row h the next event is taken into account
module _ (areas : List Rect) (events : List Event) (are : AreEvents areas events) (done : List Event) (e : Event) (rest : List Event) (lowest h : ℤ)
    (row row' : Row) (until : ℤ → ℤ)
    (found found' : List Bar) (split : (f : Event) → In f events → In f done ⊎ In f (e ∷ rest)) (done_in : (f : Event) → In f done → In f events)
    (mine : In e events) (here : e.row ≡ h) (s : IsSweptTo areas h done (e ∷ rest) lowest row until found) where
  past_more : (f : Event) → In f (done ++ e ∷ []) → f.row ≤ℤ h
  past_more f i = elim (In-push_cases f done e i) [ inl k ↦ s.past f k | inr is ↦ subst (λ (v : Event). v.row ≤ℤ h) is (omega (arith, ints, here)) ]

  -- a rectangle begins
  module _ (no_end : e.ends ≡ false) (until' : ℤ → ℤ) (c : IsCovered e.from e.to h row row' found found')
      (r : (x : ℤ) → until' x ≡ raised (Some e.from) (Some e.to) e.top x (until x)) where
    no_lower : (x : ℤ) → until x ≤ℤ until' x
    no_lower x = elim (cases_Bool (int_le e.from x && int_lt x e.to)) [
      | inl t ↦ (let is = r x ∙ ap (λ v. cond v (int_max (until x) e.top) (until x)) t in omega (arith, ints, clamps, is))
      | inr t ↦ (let is = r x ∙ ap (λ v. cond v (int_max (until x) e.top) (until x)) t in omega (arith, ints, is))
    ]

    as_high : (x : ℤ) → e.from ≤ℤ x → x <ℤ e.to → e.top ≤ℤ until' x
    as_high x from to =
        let t : (int_le e.from x && int_lt x e.to) ≡ true = grind (arith, ints) in
        let is = r x ∙ ap (λ v. cond v (int_max (until x) e.top) (until x)) t in
        omega (arith, ints, clamps, is)

    tall_more : (f : Event) → In f (done ++ e ∷ []) → f.ends ≡ false → (x : ℤ) → f.from ≤ℤ x → x <ℤ f.to → f.top ≤ℤ until' x
    tall_more f i k x from to = elim (In-push_cases f done e i) [
      | inl j ↦ (let was = s.tall f j k x from to in let more = no_lower x in omega (arith, ints, was, more))
      | inr is ↦ subst (λ (v : Event). v.from ≤ℤ x → x <ℤ v.to → v.top ≤ℤ until' x) is (as_high x) from to
    ]

    still_reach : (x : ℤ) → until' x ≡ until x
        → (until' x ≡ lowest) ⊎ ((f : Event) × ((In f (done ++ e ∷ [])) × (f.ends ≡ false) × (f.from ≤ℤ x) × (x <ℤ f.to) × (until' x ≤ℤ f.top)))
    still_reach x same = elim (s.reach x) [
      | inl low ↦ inl (same ∙ low)
      | inr f ↦ inr (f.0, (In-append_left f.0 done (e ∷ []) f.1.0, f.1.1, f.1.2, f.1.3, (let below = f.1.4 in omega (arith, ints, same, below))))
    ]

    reach_more : (x : ℤ)
        → (until' x ≡ lowest) ⊎ ((f : Event) × ((In f (done ++ e ∷ [])) × (f.ends ≡ false) × (f.from ≤ℤ x) × (x <ℤ f.to) × (until' x ≤ℤ f.top)))
    reach_more x = elim (cases_Bool (int_le e.from x && int_lt x e.to)) [
      | inl t ↦ (let is = r x ∙ ap (λ v. cond v (int_max (until x) e.top) (until x)) t in by_lt_z (until x) e.top
          (λ less. inr (e, (In-push done e, no_end, (let w = within x t in w.0), (let w = within x t in w.1), omega (arith, ints, clamps, is, less))))
          (λ not_less. still_reach x (omega (arith, ints, clamps, is, not_less))))
      | inr t ↦ still_reach x (r x ∙ ap (λ v. cond v (int_max (until x) e.top) (until x)) t)
    ]
      where
        within : (x : ℤ) → (int_le e.from x && int_lt x e.to) ≡ true → (e.from ≤ℤ x) × (x <ℤ e.to)
        within x t = (grind (arith, ints), grind (arith, ints))

    begin_covers : (x : ℤ) → e.from ≤ℤ x → x <ℤ e.to → IsInUnion areas (at x h)
    begin_covers x from to =
        let b = are.begins e mine no_end in
        let bottom : b.area.ylo ≡ e.row = ap (λ v. v.row) b.is in
        let left : b.area.xlo ≡ e.from = ap (λ v. v.from) b.is in
        let right : b.area.xhi ≡ e.to = ap (λ v. v.to) b.is in
        let high = b.proper.high in (
          b.area,
          (
            b.in_list,
            record {
              right_of_xlo = omega (arith, ints, left, from);
              left_of_xhi = omega (arith, ints, right, to);
              above_ylo = omega (arith, ints, bottom, here);
              below_yhi = omega (arith, ints, bottom, here, high);
            },
          ),
        )

    pub begun : IsSweptTo areas h (done ++ e ∷ []) rest lowest row' until' found'
    begun = record {
      past = past_more;
      coming = λ f i. s.coming f (inr i);
      apart = c.apart;
      booked = booked_changed (IsInUnion areas) h row row' found found' s.booked c.changes;
      surplus = λ x i. elim (c.only x i) [
        | inl o ↦ elim (s.surplus x o) [
          | inl u ↦ inl u
          | inr f ↦ elim f.in_list [
            | inl is ↦ absurd (false≢true (sym no_end ∙ ap (λ v. v.ends) is ∙ f.ends))
            | inr k ↦ inr (record { event = f.event; in_list = k; ends = f.ends; at_row = f.at_row; after = f.after; before = f.before })
          ]
        ]
        | inr g ↦ inl (begin_covers x g.0 g.1)
      ];
      missing = λ x u. elim (s.missing x u) [
        | inl i ↦ inl (c.kept x i)
        | inr f ↦ elim f.in_list [
          | inl is ↦ inl (c.added x (subst (λ (v : Event). v.from ≤ℤ x) (sym is) f.after) (subst (λ (v : Event). x <ℤ v.to) (sym is) f.before))
          | inr k ↦ inr (record { event = f.event; in_list = k; begins = f.begins; at_row = f.at_row; after = f.after; before = f.before })
        ]
      ];
      tall = tall_more;
      reach = reach_more;
    }

  -- rectangles end
  module _ (is_end : e.ends ≡ true) (low : lowest ≤ℤ h) (apart' : AreRuns row') (changes : Changes h row row' found found')
      (stayed : (x : ℤ) → IsInRow row' x → IsInRow row x)
      (none : (x : ℤ) → e.from ≤ℤ x → x <ℤ e.to → until x ≤ℤ h → IsInRow row' x → ⊥) (kept : (x : ℤ) → IsInRow row x → IsInRow row' x ⊎ (until x ≤ℤ h)) where
    -- a column that is covered beyond the row is covered in it
    still_covered : (x : ℤ) → h <ℤ until x → IsInUnion areas (at x h)
    still_covered x beyond = elim (s.reach x) [
      | inl lowest_is ↦ absurd (omega (arith, ints, lowest_is, beyond, low))
      | inr f ↦ (let b = are.begins f.0 (done_in f.0 f.1.0) f.1.1 in
          let early = s.past f.0 f.1.0 in
          let bottom : b.area.ylo ≡ f.0.row = ap (λ v. v.row) b.is in
          let left : b.area.xlo ≡ f.0.from = ap (λ v. v.from) b.is in
          let right : b.area.xhi ≡ f.0.to = ap (λ v. v.to) b.is in
          let top : b.area.yhi ≡ f.0.top = ap (λ v. v.top) b.is in
          let from = f.1.2 in let to = f.1.3 in let reaches = f.1.4 in (
            b.area,
            (
              b.in_list,
              record {
                right_of_xlo = omega (arith, ints, left, from);
                left_of_xhi = omega (arith, ints, right, to);
                above_ylo = omega (arith, ints, bottom, early);
                below_yhi = omega (arith, ints, top, reaches, beyond);
              },
            ),
          ))
    ]

    pub ended : IsSweptTo areas h (done ++ e ∷ []) rest lowest row' until found'
    ended = record {
      past = past_more;
      coming = λ f i. s.coming f (inr i);
      apart = apart';
      booked = booked_changed (IsInUnion areas) h row row' found found' s.booked changes;
      surplus = λ x i. elim (s.surplus x (stayed x i)) [
        | inl u ↦ inl u
        | inr f ↦ elim f.in_list [
          | inl is ↦ by_lt_z h (until x)
              (λ beyond. inl (still_covered x beyond))
              (λ not_beyond. absurd (none x (subst (λ (v : Event). v.from ≤ℤ x) (sym is) f.after) (subst (λ (v : Event). x <ℤ v.to) (sym is) f.before)
              not_beyond i))
          | inr k ↦ inr (record { event = f.event; in_list = k; ends = f.ends; at_row = f.at_row; after = f.after; before = f.before })
        ]
      ];
      missing = λ x u. elim (s.missing x u) [
        | inl i ↦ elim (kept x i) [
          | inl j ↦ inl j
          | inr short ↦ (let c = u.1.1 in elim (split (begin_of u.0) (are.begun u.0 u.1.0 (covers_proper u.0 x h c))) [
            | inl k ↦ absurd (let high = s.tall (begin_of u.0) k refl x c.right_of_xlo c.left_of_xhi in let top = c.below_yhi in
                omega (arith, ints, high, top, short))
            | inr (inl is) ↦ absurd (false≢true (sym (ap (λ v. v.ends) is) ∙ is_end))
            | inr (inr k) ↦ inr (record {
              event = begin_of u.0;
              in_list = k;
              begins = refl;
              at_row = (let late = s.coming (begin_of u.0) (inr k) in let bottom = c.above_ylo in omega (arith, ints, late, bottom));
              after = c.right_of_xlo;
              before = c.left_of_xhi;
            })
          ])
        ]
        | inr f ↦ elim f.in_list [
          | inl is ↦ absurd (false≢true (sym f.begins ∙ sym (ap (λ v. v.ends) is) ∙ is_end))
          | inr k ↦ inr (record { event = f.event; in_list = k; begins = f.begins; at_row = f.at_row; after = f.after; before = f.before })
        ]
      ];
      tall = λ f i k x from to. elim (In-push_cases f done e i) [
        | inl j ↦ s.tall f j k x from to
        | inr is ↦ absurd (false≢true (sym k ∙ sym (ap (λ v. v.ends) is) ∙ is_end))
      ];
      reach = λ x. elim (s.reach x) [ inl l ↦ inl l | inr f ↦ inr (f.0, (In-append_left f.0 done (e ∷ []) f.1.0, f.1.1, f.1.2, f.1.3, f.1.4)) ];
    }

-- the sweep at some row
pub record IsSwept (areas : List Rect) (done rest : List Event) (lowest : ℤ) (row : Row) (until : ℤ → ℤ) (found : List Bar) : Type 0 where
  pub h : ℤ
  pub to : IsSweptTo areas h done rest lowest row until found

-- on to the row of the next event, if it is not there
pub at_next : (areas : List Rect) (events : List Event) → AreEvents areas events
    → (done : List Event) (e : Event) (rest : List Event) (lowest : ℤ) (row : Row) (until : ℤ → ℤ) (found : List Bar)
    → ((f : Event) → In f events → In f done ⊎ In f (e ∷ rest)) → ((f : Event) → In f (e ∷ rest) → e.row ≤ℤ f.row)
    → IsSwept areas done (e ∷ rest) lowest row until found → IsSweptTo areas e.row done (e ∷ rest) lowest row until found
at_next areas events are done e rest lowest row until found split later s =
    let first : s.h ≤ℤ e.row = s.to.coming e (inl refl) in
    by_lt_z s.h e.row
    (λ less. advanced areas events are done (e ∷ rest) lowest row until found split s.h e.row s.to later less)
    (λ not_less. subst (λ v. IsSweptTo areas v done (e ∷ rest) lowest row until found)
    (let same : s.h ≡ e.row = omega (arith, ints, first, not_less) in same) s.to)

-- before the first event
pub swept_first : (areas : List Rect) (events : List Event) (lowest h : ℤ) (row : Row) (until : ℤ → ℤ) → AreEvents areas events
    → ((e : Event) → In e events → h ≤ℤ e.row)
    → ((a : ℤ) → row a ≡ None) → ((x : ℤ) → until x ≡ lowest) → IsSweptTo areas h [] events lowest row until []
swept_first areas events lowest h row until are coming empty lows = record {
  past = λ e i. absurd i;
  coming = coming;
  apart = record { long = λ a r e. absurd (no_run a r e); apart = λ a b r s e f less. absurd (no_run a r e) };
  booked = record {
    since = λ a r e. absurd (no_run a r e);
    standing = λ a r e. absurd (no_run a r e);
    long = λ bar i. absurd i;
    runs = λ bar i. absurd i;
    whole = λ x y u below. absurd (let c = u.1.1 in let low = c.above_ylo in let first = coming (begin_of u.0)
        (are.begun u.0 u.1.0 (covers_proper u.0 x y c)) in omega (arith, ints, low, first, below));
  };
  surplus = λ x i. absurd (no_run i.from i.run i.begins);
  missing = λ x u. inr (let c = u.1.1 in let low = c.above_ylo in let i = are.begun u.0 u.1.0 (covers_proper u.0 x h c) in let first = coming
      (begin_of u.0) i in
      record { event = begin_of u.0; in_list = i; begins = refl; at_row = omega (arith, ints, low, first); after = c.right_of_xlo; before = c.left_of_xhi });
  tall = λ e i. absurd i;
  reach = λ x. inl (lows x);
}
  where
    no_run : (a : ℤ) (r : Run) → row a ≡ Some r → ⊥
    no_run a r e = cc (empty a)

-- after the last event the bars are all runs
pub swept_all : (areas : List Rect) (events : List Event) (lowest : ℤ) (row : Row) (until : ℤ → ℤ) (found : List Bar) → AreEvents areas events
    → IsSwept areas events [] lowest row until found → AreRunBars (IsInUnion areas) found
swept_all areas events lowest row until found are s = record {
  long = s.to.booked.long;
  runs = s.to.booked.runs;
  complete = λ x y u. by_lt_z y s.h
      (λ less. elim (s.to.booked.whole x y u less) [
        | inl f ↦ f
        | inr r ↦ (let a = r.0 in let run = r.1.0 in elim (s.to.surplus x (record {
          from = a;
          run = run;
          begins = r.1.1.0;
          after = r.1.1.1;
          before = r.1.1.2;
        })) [
          | inl v ↦ absurd (none_left v.0 x s.h v.1.0 v.1.1 (omega (arith, ints)))
          | inr e ↦ absurd e.in_list
        ])
      ])
      (λ not_less. absurd (none_left u.0 x y u.1.0 u.1.1 not_less));
}
  where
    none_left : (area : Rect) (x y : ℤ) → In area areas → Covers area (at x y) → s.h ≤ℤ y → ⊥
    none_left area x y i c late =
        let e = are.ended area x i (covers_proper area x y c) c.right_of_xlo c.left_of_xhi in
        let past = s.to.past e.event e.in_list in let is = e.at_row in let high = c.below_yhi in
        omega (arith, ints, past, is, high, late)

-- one event more, by its place
module _ (areas : List Rect) (events : List Event) (are : AreEvents areas events) (i : ℕ) (below : i < length events) (d : Event) where
  abbrev next : Event
  next = get_or events i d

  abbrev later : List Event
  later = drop (i + 1) events

  cut : drop i events ≡ next ∷ later
  cut = rw add-one (drop-cons events i d below)

  all_of : take i events ++ drop i events ≡ events
  all_of = take-append-drop i events

  split_at : (f : Event) → In f events → In f (take i events) ⊎ In f (next ∷ later)
  split_at f k = subst (λ v. In f (take i events) ⊎ In f v) cut (In-append_cases f (take i events) (drop i events) (subst (In f) (sym all_of) k))

  done_in : (f : Event) → In f (take i events) → In f events
  done_in f k = subst (In f) all_of (In-append_left f (take i events) (drop i events) k)

  rest_later : (f : Event) → In f (next ∷ later) → next.row ≤ℤ f.row
  rest_later f k =
      let found = In-index f (drop i events) (subst (In f) (sym cut) k) in
      let inside : found.0 + i < length events = (let a = found.1.0 in omega (arith, a, length-drop i events)) in
      let is : get_or events (i + found.0) d ≡ f = sym (get_or-drop i events found.0 d) ∙ found.1.1 d in
      subst (λ (v : Event). next.row ≤ℤ v.row) is (go found.0 inside)
    where
      go : (k : ℕ) → k + i < length events → next.row ≤ℤ (get_or events (i + k) d).row
      go zero h = let same : get_or events (i + 0) d ≡ next = ap (λ j. get_or events j d) (let e : i + 0 ≡ i = omega arith in e) in
          subst (λ (v : Event). next.row ≤ℤ v.row) (sym same) (omega (arith, ints))
      go (suc k) h = are.ordered i (i + suc k) d (omega arith) (omega (arith, h))

  mine : In next events
  mine = In-get_or events i d below

  grown : take i events ++ next ∷ [] ≡ take (i + 1) events
  grown = sym (take_more events i d below)

  module _ (lowest : ℤ) (row row' : Row) (until : ℤ → ℤ) (found found' : List Bar)
      (s : IsSwept areas (take i events) (drop i events) lowest row until found) where
    here : IsSweptTo areas next.row (take i events) (next ∷ later) lowest row until found
    here = at_next areas events are (take i events) next later lowest row until found split_at rest_later
        (subst (λ v. IsSwept areas (take i events) v lowest row until found) cut s)

    pub begun_at : (until' : ℤ → ℤ) → next.ends ≡ false → IsCovered next.from next.to next.row row row' found found'
        → ((x : ℤ) → until' x ≡ raised (Some next.from) (Some next.to) next.top x (until x))
        → IsSwept areas (take (i + 1) events) (drop (i + 1) events) lowest row' until' found'
    begun_at until' no_end c r = record {
      h = next.row;
      to = subst (λ v. IsSweptTo areas next.row v later lowest row' until' found') grown
          (begun areas events are (take i events) next later lowest next.row row row' until found found' split_at done_in mine refl here no_end until' c r);
    }

    pub ended_at : next.ends ≡ true → lowest ≤ℤ next.row → AreRuns row' → Changes next.row row row' found found' → ((x : ℤ) → IsInRow row' x → IsInRow row x)
        → ((x : ℤ) → next.from ≤ℤ x → x <ℤ next.to → until x ≤ℤ next.row → IsInRow row' x → ⊥) → ((x : ℤ) → IsInRow row x → IsInRow row'
        x ⊎ (until x ≤ℤ next.row))
        → IsSwept areas (take (i + 1) events) (drop (i + 1) events) lowest row' until found'
    ended_at is_end low apart changes stayed none kept = record {
      h = next.row;
      to = subst (λ v. IsSweptTo areas next.row v later lowest row' until found') grown
          (ended areas events are (take i events) next later lowest next.row row row' until found found' split_at done_in mine refl here is_end low
          apart changes stayed none kept);
    }

-- before the first event, at its row
pub swept_begins : (areas : List Rect) (events : List Event) (lowest : ℤ) (row : Row) (until : ℤ → ℤ) → AreEvents areas events
    → ((a : ℤ) → row a ≡ None) → ((x : ℤ) → until x ≡ lowest) → IsSwept areas [] events lowest row until []
swept_begins areas [] lowest row until are empty lows = record {
  h = lowest;
  to = swept_first areas [] lowest lowest row until are (λ e i. absurd i)
      empty lows;
}
swept_begins areas (e ∷ rest) lowest row until are empty lows = record {
  h = e.row;
  to = swept_first areas (e ∷ rest) lowest e.row row until are coming
      empty lows;
}
  where
    coming : (f : Event) → In f (e ∷ rest) → e.row ≤ℤ f.row
    coming f (inl is) = subst (λ (v : Event). e.row ≤ℤ v.row) is (omega (arith, ints))
    coming f (inr k) = let found = In-index f rest k in subst (λ (v : Event). e.row ≤ℤ v.row) (found.1.1 e)
        (are.ordered 0 (suc found.0) e (omega arith) (let a = found.1.0 in omega (arith, a)))

in_first : (f : Event) (rest : List Event) (x : ℤ) → f.ends ≡ false → In x (f.from ∷ f.to ∷ sides_of rest) → In x (sides_of (f ∷ rest))
in_first f rest x begins i = subst (λ v. In x (cond v (sides_of rest) (f.from ∷ f.to ∷ sides_of rest))) (sym begins) i

in_rest : (ends : Bool) (f : Event) (rest : List Event) (x : ℤ) → In x (sides_of rest) → In x (cond ends (sides_of rest) (f.from ∷ f.to ∷ sides_of rest))
in_rest true f rest x i = i
in_rest false f rest x i = inr (inr i)

-- a rectangle that begins has its sides among them
pub from_in_sides : (events : List Event) (e : Event) → In e events → e.ends ≡ false → In e.from (sides_of events)
from_in_sides [] e i begins = i
from_in_sides (f ∷ rest) e (inl is) begins = in_first f rest e.from (ap (λ v. v.ends) is ∙ begins) (inl (ap (λ v. v.from) is))
from_in_sides (f ∷ rest) e (inr k) begins = in_rest f.ends f rest e.from (from_in_sides rest e k begins)

-- and so is where it ends
pub to_in_sides : (events : List Event) (e : Event) → In e events → e.ends ≡ false → In e.to (sides_of events)
to_in_sides [] e i begins = i
to_in_sides (f ∷ rest) e (inl is) begins = in_first f rest e.to (ap (λ v. v.ends) is ∙ begins) (inr (inl (ap (λ v. v.to) is)))
to_in_sides (f ∷ rest) e (inr k) begins = in_rest f.ends f rest e.to (to_in_sides rest e k begins)

-- a beginning has columns
pub begin_long : (areas : List Rect) (events : List Event) (e : Event) → AreEvents areas events → In e events → e.ends ≡ false → e.from <ℤ e.to
begin_long areas events e are i no_end =
    let b = are.begins e i no_end in
    let left : b.area.xlo ≡ e.from = ap (λ v. v.from) b.is in
    let right : b.area.xhi ≡ e.to = ap (λ v. v.to) b.is in
    let wide = b.proper.wide in
    omega (arith, ints, left, right, wide)

-- the sweep before the event at place i: its coverage is cut at the sides of all rectangles that begin
pub record IsUnderWay (areas : List Rect) (events : List Event) (i : ℕ) (lowest : ℤ) (sweep : Sweep) : Type 0 where
  pub are : AreEvents areas events
  pub swept : IsSwept areas (take i events) (drop i events) lowest (row_of sweep) (until sweep.coverage) sweep.found.items
  pub topped : IsTopped sweep.coverage
  pub from_cut : (e : Event) → In e events → e.ends ≡ false → IsCut sweep.coverage e.from
  pub to_cut : (e : Event) → In e events → e.ends ≡ false → IsCut sweep.coverage e.to

module _ (areas : List Rect) (events : List Event) (i : ℕ) (lowest : ℤ) (old new : Sweep) (u : IsUnderWay areas events i lowest old)
    (below : i < length events) (d : Event) where
  pub begun_under_way : (get_or events i d).ends ≡ false → RectBegins (get_or events i d) old new → IsUnderWay areas events (i + 1) lowest new
  begun_under_way no_end b = record {
    are = u.are;
    swept = begun_at areas events u.are i below d lowest (row_of old) (row_of new) (until old.coverage) old.found.items new.found.items u.swept
        (until new.coverage) no_end b.covered b.raised.rows;
    topped = b.raised.topped;
    from_cut = λ e k begins. b.raised.cuts e.from (u.from_cut e k begins);
    to_cut = λ e k begins. b.raised.cuts e.to (u.to_cut e k begins);
  }

  pub ended_under_way : (get_or events i d).ends ≡ true → lowest ≤ℤ (get_or events i d).row → RectsEnd (get_or events i d) old new
      → IsUnderWay areas events (i + 1) lowest new
  ended_under_way is_end low e =
      let swept = ended_at areas events u.are i below d lowest (row_of old) (row_of new) (until old.coverage) old.found.items new.found.items u.swept
      is_end low e.apart e.changes e.stayed
      (λ x from to short. e.none x (record { after = from; before = to; uncovered = short }))
      (λ x k. elim (e.kept x k) [ inl n ↦ inl n | inr o ↦ inr o.uncovered ]) in
      record {
        are = u.are;
        swept = subst (λ c. IsSwept areas (take (i + 1) events) (drop (i + 1) events) lowest (row_of new) (until c) new.found.items) (sym e.same) swept;
        topped = subst IsTopped (sym e.same) u.topped;
        from_cut = λ f k begins. subst (λ c. IsCut c f.from) (sym e.same) (u.from_cut f k begins);
        to_cut = λ f k begins. subst (λ c. IsCut c f.to) (sym e.same) (u.to_cut f k begins);
      }
