-- The sweep keeps track of what two or more rectangles cover, row by row.
use Rattle.interact.proofs.Common.{◌≡◌, inl, inr, ℕ, zero, suc, ◌+◌, ◌<◌, ℤ, pos, ◌+ℤ◌, ◌≤ℤ◌, ◌<ℤ◌, true, false, cond, List, [], ◌∷◌, ◌++◌, length}
use Rattle.interact.proofs.Common.{take, drop, get_or, Some, refl, sym, ◌∙◌, ap, subst, arith, ◌&&◌, int_le, int_lt, cases_Bool, ints, by_lt_z}
use Rattle.interact.proofs.Common.{slice_get_within, get_or_from_slice_get, In, sum_on, In-index, In-get_or, Square, Rect, CoversAt, IsInTwo}
use Rattle.interact.proofs.Common.{AreRunBars, Counts, Edge, Sweep, IsCut, IsAdded, gain_of, begin_of, IsOf64Bits, AreEdges}
use Rattle.std.proofs.Common.{length-drop, drop-cons, add-one, None}
use Rattle.std.proofs.lemmas.Bool.{false≢true}
use Rattle.std.proofs.lemmas.List.{take_more, take-append-drop, get_or-drop}
use Rattle.std.proofs.lemmas.List.Elements.{All-contains}
use Rattle.finite_sets.proofs.Members.{In-push_cases, Contains-from_In}
use Rattle.finite_sets.proofs.Sums.{sum_on-append, sum_on-push, sum_on-same, sum_on-nothing}
use Rattle.geo_strips.specs.declared.row_runs.Run.{Run}
use Rattle.geo_strips.specs.RowRuns.{IsInRow}
use Rattle.geo_strips.proofs.SweepLaws.{at, AreBooked, IsSteady, booked_changed, booked_advanced}
use Rattle.interact.specs.steps.Counts.{count_of, row_of, IsFresh, IsSettled}
use Rattle.interact.specs.steps.Sweeps.{first_column, last_column, IsBetweenRows, SettlesRow}
use Rattle.interact.proofs.CoveringCounts.{covering, counts_two, two_cover}
use Rattle.interact.proofs.EdgeLaws.{proper_begin_in_edges}
use Rattle.interact.proofs.EdgeSums.{gain_at, gain_until, gains_cover, gains_end}

-- what is settled at the row from the first column to the last is settled in the whole row
pub row_settled : (old new : Sweep) → new.row ≡ old.row
    → IsSettled (pos 0) first_column last_column old.row old.counts new.counts old.shared new.shared → SettlesRow old new
row_settled old new same s = record {
  row = same;
  counts = s.counts;
  cuts = s.cuts;
  between = record {
    told = s.told;
    apart = s.apart;
    before = λ x from to. (
      (λ k. s.shared x from to ∙ at_least_two (count_of old.counts x) ((s.inside x from to).0 k)),
      (λ is. (s.inside x from to).1 (two_at_least (count_of old.counts x) (sym (s.shared x from to) ∙ is))),
    );
  };
  changes = s.changes;
  inside = λ x from to. (
    (λ k. let two = (s.inside x from to).0 k in omega (arith, ints, two)),
    (λ two. (s.inside x from to).1 (omega (arith, ints, two))),
  );
  outside = s.outside;
}
  where
    at_least_two : (count : ℤ) → pos 2 ≤ℤ (pos 0 +ℤ count) → int_le (pos 2) (pos 0 +ℤ count) ≡ true
    at_least_two count two = grind (arith, ints)

    two_at_least : (count : ℤ) → int_le (pos 2) (pos 0 +ℤ count) ≡ true → pos 2 ≤ℤ (pos 0 +ℤ count)
    two_at_least count test = grind (arith, ints)

-- a column that the sweep looks at
pub record IsColumn (x : ℤ) : Type 0 where
  pub first : first_column ≤ℤ x
  pub last : x <ℤ last_column

-- the sweep before the edge at place i
pub record IsUnderWay (areas : List Rect) (edges : List Edge) (i : ℕ) (sweep : Sweep) : Type 0 where
  pub are : AreEdges areas edges
  pub past : (e : Edge) → In e (take i edges) → e.row ≤ℤ sweep.row
  pub coming : (e : Edge) → In e (drop i edges) → sweep.row ≤ℤ e.row
  pub counts : (x : ℤ) → count_of sweep.counts x ≡ sum_on (gain_at x) (take i edges)
  pub from_cut : (e : Edge) → In e edges → IsCut sweep.counts e.from
  pub to_cut : (e : Edge) → In e edges → IsCut sweep.counts e.to
  pub between : IsBetweenRows sweep
  pub columns : (x : ℤ) → IsInRow (row_of sweep.shared) x → IsColumn x
  pub booked : AreBooked (IsInTwo areas) sweep.row (row_of sweep.shared) sweep.shared.ended.items

-- an edge that is not past the row counts
until_row : (x y : ℤ) (e : Edge) → e.row ≤ℤ y → gain_until x y e ≡ gain_at x e
until_row x y e past = let t : int_le e.row y ≡ true = grind (arith, ints) in ap (λ b. cond b (gain_at x e) (pos 0)) t

-- and one that is past it does not
after_row : (x y : ℤ) (e : Edge) → y <ℤ e.row → gain_until x y e ≡ pos 0
after_row x y e later = let t : int_le e.row y ≡ false = grind (arith, ints) in ap (λ b. cond b (gain_at x e) (pos 0)) t

-- in a row after the first edges and before the others as many rectangles cover a column as the first edges gain
gains_between : (areas : List Rect) (edges : List Edge) (i : ℕ) (x y : ℤ) → AreEdges areas edges → ((e : Edge) → In e (take i edges) → e.row ≤ℤ y)
    → ((e : Edge) → In e (drop i edges) → y <ℤ e.row) → sum_on (gain_at x) (take i edges) ≡ covering areas (at x y)
gains_between areas edges i x y are past coming =
    let done = sum_on-same (gain_until x y) (gain_at x) (take i edges) (λ e k. until_row x y e (past e k)) in
    let rest = sum_on-nothing (gain_until x y) (drop i edges) (λ e k. after_row x y e (coming e k)) in
    let both = sum_on-append (gain_until x y) (take i edges) (drop i edges) in
    let all = ap (sum_on (gain_until x y)) (take-append-drop i edges) in
    let cover = gains_cover areas edges x y are in
    omega (arith, ints, done, rest, both, all, cover)

-- the numbers of the beginning of a rectangle that covers a square are of 64 bits
covering_fits : (areas : List Rect) (edges : List Edge) (square : Square) (k : ℕ) → AreEdges areas edges → (c : CoversAt areas k square)
    → IsOf64Bits (begin_of c.area)
covering_fits areas edges square k are c =
    let there : In c.area areas = subst (λ (area : Rect). In area areas) (get_or_from_slice_get areas k c.area c.area c.there)
    (In-get_or areas k c.area (slice_get_within areas k c.area c.there)) in
    let left = c.covers.right_of_xlo in let right = c.covers.left_of_xhi in let low = c.covers.above_ylo in let high = c.covers.below_yhi in
    All-contains IsOf64Bits edges (begin_of c.area) are.fit (Contains-from_In (begin_of c.area) edges
    (proper_begin_in_edges areas edges are c.area there (record { wide = omega (arith, ints, left, right); high = omega (arith, ints, low, high) })))

-- a column that two rectangles cover is looked at
column_of_two : (areas : List Rect) (edges : List Edge) (x y : ℤ) → AreEdges areas edges → IsInTwo areas (at x y) → IsColumn x
column_of_two areas edges x y are two =
    let c = two.in_first in
    let fits = covering_fits areas edges (at x y) two.first are c in
    let from = fits.from in let to = fits.to in
    let left = c.covers.right_of_xlo in let right = c.covers.left_of_xhi in
    record { first = omega (arith, ints, from, left); last = omega (arith, ints, to, right) }

module _ (areas : List Rect) (edges : List Edge) (i : ℕ) (old new : Sweep) (u : IsUnderWay areas edges i old) (s : SettlesRow old new) where
  -- no other columns are in runs
  columns_settled : (x : ℤ) → IsInRow (row_of new.shared) x → IsColumn x
  columns_settled x k = by_lt_z x first_column
      (λ less. u.columns x ((s.outside x (inl less)).0 k))
      (λ not_less. by_lt_z x last_column
      (λ more. record { first = not_less; last = more })
      (λ not_more. u.columns x ((s.outside x (inr not_more)).0 k)))

  -- the runs are those of each row up to before the next edges
  steady : (h' : ℤ) → ((e : Edge) → In e (drop i edges) → h' ≤ℤ e.row) → IsSteady (IsInTwo areas) old.row h' (row_of new.shared)
  steady h' later = record {
    there = λ x y from to k.
        let column = columns_settled x k in
        let two = (s.inside x column.first column.last).0 k in
        let is = u.counts x in
        let cover = covers x y from to in
        two_cover areas (at x y) (omega (arith, ints, two, is, cover));
    back = λ x y from to two.
        let column = column_of_two areas edges x y u.are two in
        let some = counts_two areas (at x y) two in
        let is = u.counts x in
        let cover = covers x y from to in
        (s.inside x column.first column.last).1 (omega (arith, ints, some, is, cover));
  }
    where
      covers : (x y : ℤ) → old.row ≤ℤ y → y <ℤ h' → sum_on (gain_at x) (take i edges) ≡ covering areas (at x y)
      covers x y from to = gains_between areas edges i x y u.are
          (λ e k. let early = u.past e k in omega (arith, ints, early, from))
          (λ e k. let late = later e k in omega (arith, ints, late, to))

  -- what is known of the runs below the row holds for the new ones
  booked_settled : AreBooked (IsInTwo areas) old.row (row_of new.shared) new.shared.ended.items
  booked_settled = booked_changed (IsInTwo areas) old.row (row_of old.shared) (row_of new.shared) old.shared.ended.items new.shared.ended.items
      u.booked s.changes

  -- once its row is settled the sweep goes on to the row of the next edges
  settled : (h' : ℤ) → old.row ≤ℤ h' → ((e : Edge) → In e (drop i edges) → h' ≤ℤ e.row)
      → IsUnderWay areas edges i (record { row = h'; counts = new.counts; shared = new.shared })
  settled h' order later = record {
    are = u.are;
    past = λ e k. (let early = u.past e k in omega (arith, ints, early, order));
    coming = later;
    counts = λ x. s.counts x ∙ u.counts x;
    from_cut = λ e k. s.cuts e.from (u.from_cut e k);
    to_cut = λ e k. s.cuts e.to (u.to_cut e k);
    between = record { told = s.between.told; apart = s.between.apart; before = s.between.before };
    columns = columns_settled;
    booked = booked_advanced (IsInTwo areas) old.row h' (row_of new.shared) new.shared.ended.items order s.between.apart (steady h' later)
        booked_settled;
  }

  -- after the last edge the bars are all runs
  pub all_settled : take i edges ≡ edges → drop i edges ≡ [] → AreRunBars (IsInTwo areas) new.shared.ended.items
  all_settled done rest = record {
    long = booked_settled.long;
    runs = booked_settled.runs;
    complete = λ x y two. by_lt_z y old.row
        (λ less. elim (booked_settled.whole x y two less) [
          | inl f ↦ f
          | inr r ↦ absurd (none_left x (record { from = r.0; run = r.1.0; begins = r.1.1.0; after = r.1.1.1; before = r.1.1.2 }))
        ])
        (λ not_less. absurd (let some = counts_two areas (at x y) two in
        let cover = gains_between areas edges i x y u.are (λ e k. let early = u.past e k in omega (arith, ints, early, not_less))
        (λ e k. absurd (subst (In e) rest k)) in
        let none = nothing x in omega (arith, ints, some, cover, none)));
  }
    where
      nothing : (x : ℤ) → sum_on (gain_at x) (take i edges) ≡ pos 0
      nothing x = ap (sum_on (gain_at x)) done ∙ gains_end areas edges x u.are

      none_left : (x : ℤ) → IsInRow (row_of new.shared) x → ⊥
      none_left x k =
          let column = columns_settled x k in
          let two = (s.inside x column.first column.last).0 k in
          let is = u.counts x in
          let none = nothing x in
          omega (arith, ints, two, is, none)

-- one edge more, by its place
module _ (areas : List Rect) (edges : List Edge) (i : ℕ) (sweep : Sweep) (u : IsUnderWay areas edges i sweep) (below : i < length edges)
    (d : Edge) where
  -- the edge at the place
  abbrev next : Edge
  next = get_or edges i d

  -- it is the first of those to come
  cut : drop i edges ≡ next ∷ drop (i + 1) edges
  cut = rw add-one (drop-cons edges i d below)

  -- and then the last of those that are done
  grown : take (i + 1) edges ≡ take i edges ++ next ∷ []
  grown = take_more edges i d below

  -- the edges from the next one on are at no earlier row
  next_first : (e : Edge) → In e (drop i edges) → next.row ≤ℤ e.row
  next_first e k =
      let found = In-index e (drop i edges) k in
      let inside : found.0 + i < length edges = (let a = found.1.0 in omega (arith, a, length-drop i edges)) in
      let is : get_or edges (i + found.0) d ≡ e = sym (get_or-drop i edges found.0 d) ∙ found.1.1 d in
      subst (λ (v : Edge). next.row ≤ℤ v.row) is (go found.0 inside)
    where
      go : (k : ℕ) → k + i < length edges → next.row ≤ℤ (get_or edges (i + k) d).row
      go zero h = let same : get_or edges (i + 0) d ≡ next = ap (λ j. get_or edges j d) (let e : i + 0 ≡ i = omega arith in e) in
          subst (λ (v : Edge). next.row ≤ℤ v.row) (sym same) (omega (arith, ints))
      go (suc k) h = u.are.ordered i (i + suc k) d (omega arith) (omega (arith, h))

  -- the row before that of the next edge is settled
  pub next_settled : (new : Sweep) → SettlesRow sweep new → sweep.row <ℤ next.row
      → IsUnderWay areas edges i (record { row = next.row; counts = new.counts; shared = new.shared })
  next_settled new s less = settled areas edges i sweep new u s next.row (omega (arith, ints, less)) next_first

  -- the sweep is at the row of the next edge if that is not a later one
  pub next_here : next.row ≤ℤ sweep.row → next.row ≡ sweep.row
  next_here no_later = let first = u.coming next (subst (In next) (sym cut) (inl refl)) in omega (arith, ints, no_later, first)

  -- the next edge is counted
  pub counted : (counts : Counts) → next.row ≡ sweep.row → IsAdded (Some next.from) (Some next.to) (gain_of next) sweep.counts counts
      → IsUnderWay areas edges (i + 1) (record { row = sweep.row; counts = counts; shared = sweep.shared })
  counted counts here a = record {
    are = u.are;
    past = λ e k. elim (In-push_cases e (take i edges) next (subst (In e) grown k)) [
      | inl j ↦ u.past e j
      | inr is ↦ subst (λ (v : Edge). v.row ≤ℤ sweep.row) is (omega (arith, ints, here))
    ];
    coming = λ e k. u.coming e (subst (In e) (sym cut) (inr k));
    counts = λ x. added x ∙ sym (sum_on-push (gain_at x) (take i edges) next) ∙ sym (ap (sum_on (gain_at x)) grown);
    from_cut = λ e k. a.cuts e.from (u.from_cut e k);
    to_cut = λ e k. a.cuts e.to (u.to_cut e k);
    between = record {
      told = a.told;
      apart = u.between.apart;
      before = λ x from to. (
        (λ k. a.shared x ∙ (u.between.before x from to).0 k),
        (λ is. (u.between.before x from to).1 (sym (a.shared x) ∙ is)),
      );
    };
    columns = u.columns;
    booked = u.booked;
  }
    where
      added : (x : ℤ) → count_of counts x ≡ sum_on (gain_at x) (take i edges) +ℤ gain_at x next
      added x = elim (cases_Bool (int_le next.from x && int_lt x next.to)) [
        | inl t ↦ (let now = a.counts x ∙ ap (λ b. cond b (count_of sweep.counts x +ℤ gain_of next) (count_of sweep.counts x)) t in
            let gain = ap (λ b. cond b (gain_of next) (pos 0)) t in let was = u.counts x in omega (arith, ints, now, gain, was))
        | inr t ↦ (let now = a.counts x ∙ ap (λ b. cond b (count_of sweep.counts x +ℤ gain_of next) (count_of sweep.counts x)) t in
            let gain = ap (λ b. cond b (gain_of next) (pos 0)) t in let was = u.counts x in omega (arith, ints, now, gain, was))
      ]

-- before the first edge no column is covered and there are no runs
pub sweep_begins : (areas : List Rect) (edges : List Edge) (sweep : Sweep) → AreEdges areas edges → sweep.row ≡ first_column → IsFresh sweep.counts
    → ((e : Edge) → In e edges → IsCut sweep.counts e.from × IsCut sweep.counts e.to) → ((a : ℤ) → row_of sweep.shared a ≡ None)
    → sweep.shared.ended.items ≡ []
    → IsUnderWay areas edges 0 sweep
sweep_begins areas edges sweep are low fresh cuts empty none_ended = record {
  are = are;
  past = λ e k. absurd k;
  coming = λ e k. (let fits = (All-contains IsOf64Bits edges e are.fit (Contains-from_In e edges k)).row in omega (arith, ints, low, fits));
  counts = λ x. fresh.counts x;
  from_cut = λ e k. (cuts e k).0;
  to_cut = λ e k. (cuts e k).1;
  between = record {
    told = fresh.told;
    apart = record { long = λ a r e. absurd (no_run a r e); apart = λ a b r s e f less. absurd (no_run a r e) };
    before = λ x from to. ((λ k. absurd (no_run k.from k.run k.begins)), (λ is. absurd (false≢true (sym (fresh.lone x) ∙ is))));
  };
  columns = λ x k. absurd (no_run k.from k.run k.begins);
  booked = rw none_ended (record {
    since = λ a r e. absurd (no_run a r e);
    standing = λ a r e. absurd (no_run a r e);
    long = λ bar k. absurd k;
    runs = λ bar k. absurd k;
    whole = λ x y two below. absurd (let c = two.in_first in let fits = (covering_fits areas edges (at x y) two.first are c).row in
        let bottom = c.covers.above_ylo in omega (arith, ints, low, below, fits, bottom));
  });
}
  where
    no_run : (a : ℤ) (r : Run) → row_of sweep.shared a ≡ Some r → ⊥
    no_run a r e = cc (empty a)
