-- The sweep over the events of two lists finds the pairs of rectangles that have a square in common.
use Rattle.rect_contacts.proofs.Common.{◌≡◌, ◌≢◌, ◌⊎◌, inl, inr, ℕ, ◌+◌, ◌<◌, ℤ, pos, ◌-ℤ◌, ◌≤ℤ◌, ◌<ℤ◌, Bool, true, false, Some, List, [], ◌∷◌, ◌++◌}
use Rattle.rect_contacts.proofs.Common.{map, take, length, get_or, refl, sym, ◌∙◌, ap, subst, arith, All, AllPairs, int_max, false≢true, cases_lt}
use Rattle.rect_contacts.proofs.Common.{ints, clamps, Square, Rect, AreDisjoint, IsNear, IsSmall, Covers, IsProper, In, Distinct, Lists}
use Rattle.rect_contacts.proofs.Common.{Lists-append, Lists-iff, In-index, In-get_or, In-append_left, In-push, In-push_cases, Active, Event, no_rect}
use Rattle.rect_contacts.proofs.Common.{rect_at, pair_of, AreEvents}
use Rattle.std.proofs.Common.{not, if◌then◌else◌, None}
use Rattle.std.proofs.lemmas.List.{get_or-take, length-take-le, take_more}
use Rattle.geo_core.specs.FiniteSets.Order.{Lexicographic}
use Rattle.geo_core.proofs.FiniteSets.Distincts.{Distinct-places}
use Rattle.geo_core.proofs.FiniteSets.Listings.{Lists-map, Lists-none}
use Rattle.rect_contacts.specs.CommonSquares.{IsOverlap}
use Rattle.rect_contacts.specs.steps.Events.{ComesNoLater, list_of, event_at, IsEvent}
use Rattle.rect_contacts.specs.steps.Actives.{Row, AreActives, IsMet, AddsMet, IsWith, IsWithout, IsTurned}
use Rattle.rect_contacts.proofs.Apart.{AreApart, apart_from_disjoint, AreApart-sym}
use Rattle.rect_contacts.proofs.RowLaws.{int_same, one_ends}

-- a rectangle of one of two lists
abbrev pub rect_of : List Rect → List Rect → Bool → ℕ → Rect
rect_of first second s k = rect_at (list_of first second s) k

-- In each of two lists the rectangles have squares and bounds within planes, and lie apart.
pub record AreLists (first second : List Rect) : Type 0 where
  pub proper : (s : Bool) (k : ℕ) → k < length (list_of first second s) → IsProper (rect_of first second s k)
  pub near : (s : Bool) (k : ℕ) → k < length (list_of first second s) → IsNear (rect_of first second s k)
  pub apart : (s : Bool) (i j : ℕ) → i < length (list_of first second s) → j < length (list_of first second s) → (i ≡ j → ⊥)
      → AreApart (rect_of first second s i) (rect_of first second s j)

pub lists_are : (first second : List Rect) → All IsProper first → All IsNear first → AllPairs AreDisjoint first → All IsProper second → All IsNear second
    → AllPairs AreDisjoint second → AreLists first second
lists_are first second p n d q m e = record { proper = proper; near = near; apart = apart }
  where
    proper : (s : Bool) (k : ℕ) → k < length (list_of first second s) → IsProper (rect_of first second s k)
    proper false k h = p k no_rect h
    proper true k h = q k no_rect h

    near : (s : Bool) (k : ℕ) → k < length (list_of first second s) → IsNear (rect_of first second s k)
    near false k h = n k no_rect h
    near true k h = m k no_rect h

    disjoint : (s : Bool) (i j : ℕ) → i < j → j < length (list_of first second s) → AreDisjoint (rect_of first second s i) (rect_of first second s j)
    disjoint false i j h k = d i j no_rect h k
    disjoint true i j h k = e i j no_rect h k

    apart : (s : Bool) (i j : ℕ) → i < length (list_of first second s) → j < length (list_of first second s) → (i ≡ j → ⊥)
        → AreApart (rect_of first second s i) (rect_of first second s j)
    apart s i j h k differ = elim (cases_lt i j) [
      | inl less ↦ apart_from_disjoint (rect_of first second s i) (rect_of first second s j) (proper s i h) (proper s j k) (disjoint s i j less k)
      | inr ge ↦ (elim (cases_lt j i) [
        | inl more ↦ AreApart-sym (rect_of first second s j) (rect_of first second s i)
            (apart_from_disjoint (rect_of first second s j) (rect_of first second s i) (proper s j k) (proper s i h) (disjoint s j i more h))
        | inr le ↦ absurd (differ (omega arith))
      ])
    ]

-- The event is the next one after those that are done.
pub record IsNext (events done : List Event) (event : Event) : Type 0 where
  pub fresh : In event done → ⊥
  pub earlier : (e : Event) → In e done → ComesNoLater e event
  pub later : (e : Event) → In e events → (In e done → ⊥) → ComesNoLater event e

pub next_at : (events : List Event) (n : ℕ) (d : Event) → Distinct events → AllPairs ComesNoLater events → n < length events
    → IsNext events (take n events) (get_or events n d)
next_at events n d once ordered below = record {
  fresh = λ i.
      let x = In-index (get_or events n d) (take n events) i in
      let early : x.0 < n = early_place x.0 x.1.0 in
      Distinct-places events x.0 n d once early below (sym (get_or-take n events x.0 d early) ∙ x.1.1 d);
  earlier = λ e i.
      let x = In-index e (take n events) i in
      let early : x.0 < n = early_place x.0 x.1.0 in
      subst (λ (v : Event). ComesNoLater v (get_or events n d)) (sym (get_or-take n events x.0 d early) ∙ x.1.1 d) (ordered x.0 n d early below);
  later = λ e i undone.
      let x = In-index e events i in
      elim (cases_lt x.0 n) [
        | inl early ↦ absurd (undone (subst (λ (v : Event). In v (take n events)) (get_or-take n events x.0 d early ∙ x.1.1 d)
            (In-get_or (take n events) x.0 d (let len : length (take n events) ≡ n = length-take-le n events (omega arith) in omega (arith, len)))))
        | inr late ↦ (elim (cases_lt n x.0) [
          | inl more ↦ subst (λ (v : Event). ComesNoLater (get_or events n d) v) (x.1.1 d) (ordered n x.0 d more x.1.0)
          | inr same ↦ (let at : n ≡ x.0 = omega arith in
              subst (λ (v : Event). ComesNoLater (get_or events n d) v) (ap (λ (k : ℕ). get_or events k d) at ∙ x.1.1 d) (inr (refl, λ h. h)))
        ])
      ];
}
  where
    early_place : (k : ℕ) → k < length (take n events) → k < n
    early_place k h = let len : length (take n events) ≡ n = length-take-le n events (omega arith) in omega (arith, len)

-- a row of squares that the event's rectangle crosses, and whatever else is active then
abbrev pub crossed : Bool → ℤ → ℤ
crossed begins line = if begins then line else line -ℤ pos 1

crosses : (begins : Bool) (line lo hi : ℤ) → Lexicographic lo line (true ≡ true → begins ≡ true) → Lexicographic line hi (begins ≡ true → false ≡ true)
    → (lo ≤ℤ crossed begins line) × (crossed begins line <ℤ hi)
crosses true line lo hi (inl h) (inl k) = (omega (arith, ints), omega (arith, ints))
crosses true line lo hi (inr h) (inl k) = (let e = h.0 in (omega (arith, ints, e), omega (arith, ints)))
crosses true line lo hi h (inr k) = absurd (false≢true (k.1 refl))
crosses false line lo hi (inl h) (inl k) = (omega (arith, ints), omega (arith, ints))
crosses false line lo hi (inl h) (inr k) = (let e = k.0 in (omega (arith, ints), omega (arith, ints, e)))
crosses false line lo hi (inr h) k = absurd (false≢true (h.1 refl))

-- rectangles that lie apart and have squares in one row are apart there
apart_in_row : (a b : Rect) (y : ℤ) → AreApart a b → (a.ylo ≤ℤ y) × (y <ℤ a.yhi) → (b.ylo ≤ℤ y) × (y <ℤ b.yhi) → (a.xhi ≤ℤ b.xlo) ⊎ (b.xhi ≤ℤ a.xlo)
apart_in_row a b y (inl h) p q = h
apart_in_row a b y (inr (inl h)) p q = absurd (let l = p.1 in let m = q.0 in omega (arith, ints, l, m, h))
apart_in_row a b y (inr (inr h)) p q = absurd (let l = p.0 in let m = q.1 in omega (arith, ints, l, m, h))

-- The rectangle has begun and not ended, and this is what is kept of it.
pub record IsActive (first second : List Rect) (done : List Event) (s : Bool) (to : ℤ) (active : Active) : Type 0 where
  pub in_list : active.owner < length (list_of first second s)
  pub is_to : to ≡ (rect_of first second s active.owner).xhi
  pub is_from : active.from ≡ (rect_of first second s active.owner).xlo
  pub begun : In (event_at first second true s active.owner) done
  pub on : In (event_at first second false s active.owner) done → ⊥

-- what is kept of a rectangle
abbrev pub active_at : List Rect → List Rect → Bool → ℕ → Active
active_at first second s k = record { from = (rect_of first second s k).xlo; owner = k }

-- The row has the rectangles of a list that have begun and not ended.
pub record HasActives (first second : List Rect) (done : List Event) (s : Bool) (row : Row) : Type 0 where
  pub only : (to : ℤ) (active : Active) → row to ≡ Some active → IsActive first second done s to active
  pub all : (k : ℕ) → k < length (list_of first second s) → In (event_at first second true s k) done → (In (event_at first second false s k) done → ⊥)
      → row (rect_of first second s k).xhi ≡ Some (active_at first second s k)

-- the place of the rectangle of one of the lists
abbrev pub place_in : Bool → ℕ × ℕ → ℕ
place_in s pair = if s then pair.1 else pair.0

-- The two rectangles have a square in common, and both have begun.
pub record IsFound (first second : List Rect) (done : List Event) (pair : ℕ × ℕ) : Type 0 where
  pub overlap : IsOverlap first second pair
  pub begun : (s : Bool) → In (event_at first second true s (place_in s pair)) done

module _ (first second : List Rect) (lists : AreLists first second) (events done : List Event) (are : AreEvents first second events) (begins s : Bool) (owner
    : ℕ)
    (in_list : owner < length (list_of first second s)) (next : IsNext events done (event_at first second begins s owner)) where
  -- the row that the event is about
  abbrev now : ℤ
  now = crossed begins (event_at first second begins s owner).line

  own_row : ((rect_of first second s owner).ylo ≤ℤ now) × (now <ℤ (rect_of first second s owner).yhi)
  own_row = own begins
    where
      high : (rect_of first second s owner).ylo <ℤ (rect_of first second s owner).yhi
      high = (lists.proper s owner in_list).high

      own : (b : Bool) → ((rect_of first second s owner).ylo ≤ℤ crossed b (event_at first second b s owner).line)
          × (crossed b (event_at first second b s owner).line <ℤ (rect_of first second s owner).yhi)
      own true = (omega (arith, ints), high)
      own false = (omega (arith, ints, high), omega (arith, ints))

  active_row : (t : Bool) (k : ℕ) → k < length (list_of first second t) → In (event_at first second true t k) done
      → (In (event_at first second false t k) done → ⊥) → ((rect_of first second t k).ylo ≤ℤ now) × (now <ℤ (rect_of first second t k).yhi)
  active_row t k below begun on = crosses begins (event_at first second begins s owner).line (rect_of first second t k).ylo (rect_of first second t k).yhi
      (next.earlier (event_at first second true t k) begun)
      (next.later (event_at first second false t k) (are.all false t k below) on)

  -- what is active is apart along the line
  pub row_actives : (t : Bool) (row : Row) → HasActives first second done t row → AreActives row
  row_actives t row has = record {
    long = λ to active there. let a = has.only to active there in
        let wide = (lists.proper t active.owner a.in_list).wide in let is_to = a.is_to in let is_from = a.is_from in
        omega (arith, ints, wide, is_to, is_from);
    small = λ to active there. let a = has.only to active there in
        let small = (lists.near t active.owner a.in_list).xhi in
        let is_to = a.is_to in let low = small.0 in let high = small.1 in
        (omega (arith, ints, is_to, low), omega (arith, ints, is_to, high));
    apart = λ a b x y there other less.
        let p = has.only a x there in let q = has.only b y other in
        let e = p.is_to in let f = q.is_to in let g = p.is_from in let h = q.is_from in
        let wide = (lists.proper t x.owner p.in_list).wide in
        elim (apart_in_row (rect_of first second t x.owner) (rect_of first second t y.owner) now
        (lists.apart t x.owner y.owner p.in_list q.in_list
        (λ same. let one : (rect_of first second t x.owner).xhi ≡ (rect_of first second t y.owner).xhi = ap (λ (k : ℕ). (rect_of first second t k).xhi) same in
        omega (arith, ints, one, e, f, less)))
        (active_row t x.owner p.in_list p.begun p.on) (active_row t y.owner q.in_list q.begun q.on)) [
          | inl l ↦ omega (arith, ints, l, e, h)
          | inr r ↦ absurd (omega (arith, ints, r, e, f, g, wide, less))
        ];
    once = λ a b x y there other same.
        (has.only a x there).is_to ∙ ap (λ (k : ℕ). (rect_of first second t k).xhi) same ∙ sym (has.only b y other).is_to;
  }

  -- another active rectangle of the event's list ends at another column
  ends_elsewhere : (k : ℕ) → k < length (list_of first second s) → (k ≡ owner → ⊥) → In (event_at first second true s k) done
      → (In (event_at first second false s k) done → ⊥) → (rect_of first second s k).xhi ≡ (rect_of first second s owner).xhi → ⊥
  ends_elsewhere k below differ begun on same =
      let wide = (lists.proper s k below).wide in let own_wide = (lists.proper s owner in_list).wide in
      elim (apart_in_row (rect_of first second s k) (rect_of first second s owner) now (lists.apart s k owner below in_list differ) (active_row s k below
      begun on) own_row) [
        | inl l ↦ omega (arith, ints, l, own_wide, same)
        | inr r ↦ omega (arith, ints, r, wide, same)
      ]

  -- an event of another sort is done where it was
  still : (b t : Bool) (k : ℕ) → (event_at first second begins s owner ≡ event_at first second b t k → ⊥)
      → In (event_at first second b t k) (done ++ event_at first second begins s owner ∷ []) → In (event_at first second b t k) done
  still b t k other i = elim (In-push_cases (event_at first second b t k) done (event_at first second begins s owner) i) [
    | inl j ↦ j
    | inr e ↦ absurd (other e)
  ]

  kept : (e : Event) → In e done → In e (done ++ event_at first second begins s owner ∷ [])
  kept e i = In-append_left e done (event_at first second begins s owner ∷ []) i

  -- the other list's row stays
  pub others_stay : (t : Bool) (row : Row) → (s ≡ t → ⊥) → HasActives first second done t row
      → HasActives first second (done ++ event_at first second begins s owner ∷ []) t row
  others_stay t row differ has = record {
    only = λ to active there. let a = has.only to active there in record {
      in_list = a.in_list;
      is_to = a.is_to;
      is_from = a.is_from;
      begun = kept (event_at first second true t active.owner) a.begun;
      on = λ i. a.on (still false t active.owner (λ e. differ (ap (λ (v : Event). v.of_second) e)) i);
    };
    all = λ k below begun on. has.all k below (still true t k (λ e. differ (ap (λ (v : Event). v.of_second) e)) begun)
        (λ i. on (kept (event_at first second false t k) i));
  }

  -- the event's own row changes at the end of its rectangle alone
  stays_active : (to : ℤ) (active : Active) → active.owner ≢ owner → IsActive first second done s to active
      → IsActive first second (done ++ event_at first second begins s owner ∷ []) s to active
  stays_active to active differ a = record {
    in_list = a.in_list;
    is_to = a.is_to;
    is_from = a.is_from;
    begun = kept (event_at first second true s active.owner) a.begun;
    on = λ i. a.on (still false s active.owner (λ e. differ (sym (ap (λ (v : Event). v.owner) e))) i);
  }

  pub own_comes : (old new : Row) → begins ≡ true → IsWith (rect_of first second s owner).xhi (active_at first second s owner) old new
      → HasActives first second done s old → HasActives first second (done ++ event_at first second begins s owner ∷ []) s new
  own_comes old new b with has = record {
    only = only;
    all = λ k below begun on. elim (In-push_cases (event_at first second true s k) done (event_at first second begins s owner) begun) [
      | inl i ↦ with.others (rect_of first second s k).xhi (ends_elsewhere k below (λ same. next.fresh (again k same i)) i
          (λ j. on (kept (event_at first second false s k) j)))
          ∙ has.all k below i (λ j. on (kept (event_at first second false s k) j))
      | inr e ↦ (let same : owner ≡ k = ap (λ (v : Event). v.owner) e in
          subst (λ (v : ℕ). new (rect_of first second s v).xhi ≡ Some (active_at first second s v)) same with.there)
    ];
  }
    where
      again : (k : ℕ) → k ≡ owner → In (event_at first second true s k) done → In (event_at first second begins s owner) done
      again k same i = subst (λ (v : ℕ). In (event_at first second begins s v) done) same
          (subst (λ (v : Bool). In (event_at first second v s k) done) (sym b) i)

      not_ended : In (event_at first second false s owner) (done ++ event_at first second begins s owner ∷ []) → ⊥
      not_ended i = elim (In-push_cases (event_at first second false s owner) done (event_at first second begins s owner) i) [
        | inl j ↦ (let later = next.earlier (event_at first second false s owner) j in
            let high = (lists.proper s owner in_list).high in
            ended_first later high)
        | inr e ↦ false≢true (sym (ap (λ (v : Event). v.begins) e) ∙ b)
      ]
        where
          ended_first : ComesNoLater (event_at first second false s owner) (event_at first second begins s owner)
              → (rect_of first second s owner).ylo <ℤ (rect_of first second s owner).yhi → ⊥
          ended_first later high =
              let l = subst (λ (v : Bool). ComesNoLater (event_at first second false s owner) (event_at first second v s owner)) b later in
              elim l [
                | inl less ↦ omega (arith, ints, less, high)
                | inr same ↦ (let e = same.0 in omega (arith, ints, e, high))
              ]

      only : (to : ℤ) (active : Active) → new to ≡ Some active → IsActive first second (done ++ event_at first second begins s owner ∷ []) s to active
      only to active there = at (int_same to (rect_of first second s owner).xhi)
        where
          at : ((to ≡ (rect_of first second s owner).xhi) ⊎ (to ≡ (rect_of first second s owner).xhi → ⊥))
              → IsActive first second (done ++ event_at first second begins s owner ∷ []) s to active
          at (inl same) =
              let is : active_at first second s owner ≡ active = one_ends new (rect_of first second s owner).xhi to (active_at first second s owner) active
              with.there there (sym same) in
              subst (λ (v : Active). IsActive first second (done ++ event_at first second begins s owner ∷ []) s to v) is (record {
                in_list = in_list;
                is_to = same;
                is_from = refl;
                begun = subst (λ (v : Bool). In (event_at first second v s owner) (done ++ event_at first second begins s owner ∷ [])) b
                    (In-push done (event_at first second begins s owner));
                on = not_ended;
              })
          at (inr other) =
              let was = has.only to active (sym (with.others to other) ∙ there) in
              stays_active to active (λ same. next.fresh (again active.owner same was.begun)) was

  pub own_leaves : (old new : Row) → begins ≡ false → IsWithout (rect_of first second s owner).xhi old new
      → HasActives first second done s old → HasActives first second (done ++ event_at first second begins s owner ∷ []) s new
  own_leaves old new b without has = record {
    only = λ to active there.
        let other : to ≡ (rect_of first second s owner).xhi → ⊥ = λ same. gone there same in
        let was = has.only to active (sym (without.others to other) ∙ there) in
        stays_active to active (λ same. other (was.is_to ∙ ap (λ (k : ℕ). (rect_of first second s k).xhi) same)) was;
    all = λ k below begun on.
        let i = still true s k (λ e. false≢true (sym b ∙ ap (λ (v : Event). v.begins) e)) begun in
        let differ : k ≡ owner → ⊥ = λ same. on (ended k same) in
        without.others (rect_of first second s k).xhi (ends_elsewhere k below differ i (λ j. on (kept (event_at first second false s k) j)))
        ∙ has.all k below i (λ j. on (kept (event_at first second false s k) j));
  }
    where
      gone : {to : ℤ} {active : Active} → new to ≡ Some active → to ≡ (rect_of first second s owner).xhi → ⊥
      gone there same = let none = without.gone in cc (ap new same)

      ended : (k : ℕ) → k ≡ owner → In (event_at first second false s k) (done ++ event_at first second begins s owner ∷ [])
      ended k same = subst (λ (v : ℕ). In (event_at first second false s v) (done ++ event_at first second begins s owner ∷ [])) (sym same)
          (subst (λ (v : Bool). In (event_at first second v s owner) (done ++ event_at first second begins s owner ∷ [])) b
          (In-push done (event_at first second begins s owner)))

-- a square of two rectangles that have begun one after the other and meet along the line
common_square : (a b : Rect) → IsProper a → IsProper b → b.ylo ≤ℤ a.ylo → a.ylo <ℤ b.yhi → a.xlo <ℤ b.xhi → b.xlo <ℤ a.xhi
    → (square : Square) × (Covers a square × Covers b square)
common_square a b p q low high left right =
    let wide = p.wide in let tall = p.high in let other = q.wide in (
      record { x = int_max a.xlo b.xlo; y = a.ylo },
      (
        record {
          right_of_xlo = omega (arith, ints, clamps);
          left_of_xhi = omega (arith, ints, clamps, wide, right);
          above_ylo = omega (arith, ints);
          below_yhi = tall;
        },
        record {
          right_of_xlo = omega (arith, ints, clamps);
          left_of_xhi = omega (arith, ints, clamps, left, other);
          above_ylo = low;
          below_yhi = high;
        },
      ),
    )

-- the squares that both rectangles of a pair cover, by lists
covered_in : (first second : List Rect) (pair : ℕ × ℕ) (o : IsOverlap first second pair) (s : Bool)
    → (place_in s pair < length (list_of first second s)) × Covers (rect_of first second s (place_in s pair)) o.square
covered_in first second pair o false = (o.in_first, o.one)
covered_in first second pair o true = (o.in_second, o.other)

-- the pair that an event makes has its owner in its own list, and the other in the other
pair_own : (e : Event) (k : ℕ) → place_in e.of_second (pair_of e k) ≡ e.owner
pair_own e k = own e.of_second
  where
    own : (s : Bool) → place_in s (if s then (k, e.owner) else (e.owner, k)) ≡ e.owner
    own false = refl
    own true = refl

overlap_of : (first second : List Rect) (s : Bool) (i k : ℕ) (e : Event) → e.of_second ≡ s → e.owner ≡ i
    → i < length (list_of first second s) → k < length (list_of first second (not s))
    → (square : Square) × (Covers (rect_of first second s i) square × Covers (rect_of first second (not s) k) square) → IsOverlap first second (pair_of e k)
overlap_of first second s i k e side own below other common =
    let P : Bool → ℕ → Type 0 = λ t j. IsOverlap first second (if t then (k, j) else (j, k)) in
    subst (λ (t : Bool). P t e.owner) (sym side) (subst (λ (j : ℕ). P s j) (sym own) (at s below other common))
  where
    at : (t : Bool) → i < length (list_of first second t) → k < length (list_of first second (not t))
        → (square : Square) × (Covers (rect_of first second t i) square × Covers (rect_of first second (not t) k) square)
        → IsOverlap first second (if t then (k, i) else (i, k))
    at false h l c = record { in_first = h; in_second = l; square = c.0; one = c.1.0; other = c.1.1 }
    at true h l c = record { in_first = l; in_second = h; square = c.0; one = c.1.1; other = c.1.0 }

-- The sweep has come so far: the rows have what is active in each list, and the pairs found are those of rectangles that have begun.
pub record Swept (first second : List Rect) (done : List Event) (firsts seconds : Row) (pairs : List (ℕ × ℕ)) : Type 0 where
  pub on_first : HasActives first second done false firsts
  pub on_second : HasActives first second done true seconds
  pub found : Lists (IsFound first second done) pairs

-- the pair is one that the event makes
abbrev IsMade : Event → Row → ℕ × ℕ → Type 0
IsMade event row pair = (k : ℕ) × (IsMet event row k × (pair_of event k ≡ pair))

not-differs : (s : Bool) → s ≡ not s → ⊥
not-differs false e = false≢true e
not-differs true e = false≢true (sym e)

-- one of a pair is of one list, the other of the other
pair_split : (s : Bool) (i : ℕ) (e : Event) (pair : ℕ × ℕ) → e.of_second ≡ s → e.owner ≡ place_in s pair → pair_of e (place_in (not s) pair) ≡ pair
pair_split s i e pair side own =
    let P : Bool → ℕ → Type 0 = λ t j. (if t then (place_in (not s) pair, j) else (j, place_in (not s) pair)) ≡ pair in
    subst (λ (t : Bool). P t e.owner) (sym side) (subst (λ (j : ℕ). P s j) (sym own) (at s))
  where
    at : (t : Bool) → (if t then (place_in (not t) pair, place_in t pair) else (place_in t pair, place_in (not t) pair)) ≡ pair
    at false = refl
    at true = refl

pair_other : (s : Bool) (e : Event) (k : ℕ) → e.of_second ≡ s → place_in (not s) (pair_of e k) ≡ k
pair_other s e k side = subst (λ (t : Bool). place_in (not s) (if t then (k, e.owner) else (e.owner, k)) ≡ k) (sym side) (at s)
  where
    at : (t : Bool) → place_in (not t) (if t then (k, e.owner) else (e.owner, k)) ≡ k
    at false = refl
    at true = refl

module _ (first second : List Rect) (lists : AreLists first second) (events done : List Event) (are : AreEvents first second events) (s : Bool) (owner : ℕ)
    (in_list : owner < length (list_of first second s)) (next : IsNext events done (event_at first second true s owner)) (others : Row)
    (has : HasActives first second done (not s) others) where
  abbrev e : Event
  e = event_at first second true s owner

  -- a rectangle that has begun and not ended lies on the line
  crossing : (k : ℕ) → k < length (list_of first second (not s)) → In (event_at first second true (not s) k) done
      → (In (event_at first second false (not s) k) done → ⊥)
      → ((rect_of first second (not s) k).ylo ≤ℤ (rect_of first second s owner).ylo) × ((rect_of first second s owner).ylo <ℤ (rect_of first second (not s)
      k).yhi)
  crossing k below begun on = crosses true e.line (rect_of first second (not s) k).ylo (rect_of first second (not s) k).yhi
      (next.earlier (event_at first second true (not s) k) begun)
      (next.later (event_at first second false (not s) k) (are.all false (not s) k below) on)

  begun_both : (k : ℕ) → In (event_at first second true (not s) k) done → (t : Bool)
      → In (event_at first second true t (place_in t (pair_of e k))) (done ++ e ∷ [])
  begun_both k begun = both s refl
    where
      old : (f : Event) → In f done → In f (done ++ e ∷ [])
      old f i = In-append_left f done (e ∷ []) i

      both : (u : Bool) → s ≡ u → (t : Bool) → In (event_at first second true t (place_in t (if u then (k, owner) else (owner, k)))) (done ++ e ∷ [])
      both false same false = subst (λ (v : Bool). In (event_at first second true v owner) (done ++ e ∷ [])) same (In-push done e)
      both false same true = subst (λ (v : Bool). In (event_at first second true (not v) k) (done ++ e ∷ [])) same (old (event_at first second true (not s)
          k) begun)
      both true same false = subst (λ (v : Bool). In (event_at first second true (not v) k) (done ++ e ∷ [])) same (old (event_at first second true (not s)
          k) begun)
      both true same true = subst (λ (v : Bool). In (event_at first second true v owner) (done ++ e ∷ [])) same (In-push done e)

  -- a pair that is made has begun
  made_at : (to : ℤ) (active : Active) → IsActive first second done (not s) to active → e.from <ℤ to → active.from <ℤ e.to
      → IsFound first second (done ++ e ∷ []) (pair_of e active.owner)
  made_at to active a ends begins =
      let k = active.owner in
      let is_to = a.is_to in let is_from = a.is_from in
      let on = crossing k a.in_list a.begun a.on in
      record {
        overlap = overlap_of first second s owner k e refl refl in_list a.in_list
            (common_square (rect_of first second s owner) (rect_of first second (not s) k) (lists.proper s owner in_list) (lists.proper (not s) k a.in_list)
            on.0 on.1 (omega (arith, ints, ends, is_to)) (omega (arith, ints, begins, is_from)));
        begun = begun_both k a.begun;
      }

  made_found : (pair : ℕ × ℕ) → IsMade e others pair → IsFound first second (done ++ e ∷ []) pair
  made_found pair made =
      let m = made.1.0 in
      subst (IsFound first second (done ++ e ∷ [])) (ap (pair_of e) m.is ∙ made.1.1) (made_at m.to m.active (has.only m.to m.active m.there) m.ends m.begins)

  still_begun : (t : Bool) (k : ℕ) → (e ≡ event_at first second true t k → ⊥) → In (event_at first second true t k) (done ++ e ∷ [])
      → In (event_at first second true t k) done
  still_begun t k other i = elim (In-push_cases (event_at first second true t k) done e i) [ inl j ↦ j | inr f ↦ absurd (other f) ]

  -- what was found stays found
  found_stays : (pair : ℕ × ℕ) → IsFound first second done pair → IsFound first second (done ++ e ∷ []) pair
  found_stays pair f = record {
    overlap = f.overlap;
    begun = λ t. In-append_left (event_at first second true t (place_in t pair)) done (e ∷ []) (f.begun t);
  }

  -- the other rectangle of a pair that comes with the event is met
  met_from : (pair : ℕ × ℕ) → IsOverlap first second pair → In (event_at first second true (not s) (place_in (not s) pair)) done → owner ≡ place_in s pair
      → IsMade e others pair
  met_from pair o begun own =
      let k = place_in (not s) pair in
      let mine = covered_in first second pair o s in
      let its = covered_in first second pair o (not s) in
      let cover : Covers (rect_of first second s owner) o.square = subst (λ (v : ℕ). Covers (rect_of first second s v) o.square) (sym own) mine.1 in
      let cl = cover.right_of_xlo in let ch = cover.left_of_xhi in let cy = cover.above_ylo in
      let il = its.1.right_of_xlo in let ih = its.1.left_of_xhi in let iy = its.1.below_yhi in
      let on : In (event_at first second false (not s) k) done → ⊥ = λ i. not_above (next.earlier (event_at first second false (not s) k) i) iy cy in (
        k,
        (
          record {
            to = (rect_of first second (not s) k).xhi;
            active = active_at first second (not s) k;
            there = has.all k its.0 begun on;
            is = refl;
            ends = omega (arith, ints, cl, ih);
            begins = omega (arith, ints, il, ch);
          },
          pair_split s owner e pair refl own,
        ),
      )
    where
      not_above : {hi y lo : ℤ} → Lexicographic hi lo (false ≡ true → true ≡ true) → y <ℤ hi → lo ≤ℤ y → ⊥
      not_above (inl l) h k = omega (arith, ints, l, h, k)
      not_above (inr r) h k = let f = r.0 in omega (arith, ints, f, h, k)

  found_split : (pair : ℕ × ℕ) → IsFound first second (done ++ e ∷ []) pair → IsFound first second done pair ⊎ IsMade e others pair
  found_split pair f =
      let k = place_in (not s) pair in
      let theirs : In (event_at first second true (not s) k) done = still_begun (not s) k (λ g. not-differs s (ap (λ (v : Event). v.of_second) g)) (f.begun
      (not s)) in
      elim (In-push_cases (event_at first second true s (place_in s pair)) done e (f.begun s)) [
        | inl i ↦ inl (record { overlap = f.overlap; begun = both s i theirs })
        | inr g ↦ inr (met_from pair f.overlap theirs (ap (λ (v : Event). v.owner) g))
      ]
    where
      both : (u : Bool) → In (event_at first second true u (place_in u pair)) done → In (event_at first second true (not u) (place_in (not u) pair)) done
          → (t : Bool) → In (event_at first second true t (place_in t pair)) done
      both false i j false = i
      both false i j true = j
      both true i j false = j
      both true i j true = i

  -- one turn finds those pairs
  pub found_more : (before after : List (ℕ × ℕ)) → AddsMet e others before after → Lists (IsFound first second done) before
      → Lists (IsFound first second (done ++ e ∷ [])) after
  found_more before after adds found =
      let made = map (pair_of e) adds.owners in
      subst (Lists (IsFound first second (done ++ e ∷ []))) (sym adds.added)
      (Lists-iff (λ pair. IsFound first second done pair ⊎ IsMade e others pair) (IsFound first second (done ++ e ∷ [])) (before ++ made)
      (λ pair h. elim h [ inl f ↦ found_stays pair f | inr m ↦ made_found pair m ]) found_split
      (Lists-append (IsFound first second done) (IsMade e others) before made
      (λ pair f m. next.fresh (subst (λ (v : ℕ). In (event_at first second true s v) done) (ap (place_in s) (sym m.1.1) ∙ pair_own e m.0) (f.begun s)))
      found (Lists-map (IsMet e others) (pair_of e) adds.owners (λ a b p q same. sym (pair_other s e a refl) ∙ ap (place_in (not s)) same
      ∙ pair_other s e b refl) adds.met)))

-- an end makes no pairs
found_ends : (first second : List Rect) (done : List Event) (s : Bool) (owner : ℕ) (pairs : List (ℕ × ℕ)) → Lists (IsFound first second done) pairs
    → Lists (IsFound first second (done ++ event_at first second false s owner ∷ [])) pairs
found_ends first second done s owner pairs found =
    let e = event_at first second false s owner in
    Lists-iff (IsFound first second done) (IsFound first second (done ++ e ∷ [])) pairs
    (λ pair f. record { overlap = f.overlap; begun = λ t. In-append_left (event_at first second true t (place_in t pair)) done (e ∷ []) (f.begun t) })
    (λ pair f. record {
      overlap = f.overlap;
      begun = λ t. elim (In-push_cases (event_at first second true t (place_in t pair)) done e (f.begun t)) [
        | inl i ↦ i
        | inr g ↦ absurd (false≢true (ap (λ (v : Event). v.begins) g))
      ];
    })
    found

-- what a turn leaves
record LeavesTurned (first second : List Rect) (done : List Event) (s : Bool) (new others : Row) (pairs : List (ℕ × ℕ)) : Type 0 where
  own : HasActives first second done s new
  other : HasActives first second done (not s) others
  found : Lists (IsFound first second done) pairs

turned : (first second : List Rect) → AreLists first second → (events done : List Event) → AreEvents first second events → (begins s : Bool) (owner : ℕ)
    → owner < length (list_of first second s) → IsNext events done (event_at first second begins s owner) → (old new others : Row) (before after : List (ℕ × ℕ))
    → HasActives first second done s old → HasActives first second done (not s) others → Lists (IsFound first second done) before
    → IsTurned (event_at first second begins s owner) old new others before after
    → LeavesTurned first second (done ++ event_at first second begins s owner ∷ []) s new others after
turned first second lists events done are true s owner below next old new others before after own other found turn = record {
  own = own_comes first second lists events done are true s owner below next old new refl (turn.comes refl) own;
  other = others_stay first second lists events done are true s owner below next (not s) others (not-differs s) other;
  found = found_more first second lists events done are s owner below next others other before after (turn.met refl) found;
}
turned first second lists events done are false s owner below next old new others before after own other found turn = record {
  own = own_leaves first second lists events done are false s owner below next old new refl (turn.leaves refl) own;
  other = others_stay first second lists events done are false s owner below next (not s) others (not-differs s) other;
  found = subst (Lists (IsFound first second (done ++ event_at first second false s owner ∷ []))) (sym (turn.no_more refl))
      (found_ends first second done s owner before found);
}

-- columns of events are near
pub event_small : (first second : List Rect) (e : Event) → AreLists first second → IsEvent first second e → IsSmall e.from
event_small first second e lists is =
    subst (λ (v : Event). IsSmall v.from) (sym is.is) (lists.near e.of_second e.owner is.in_list).xlo

module _ (first second : List Rect) (lists : AreLists first second) (events : List Event) (are : AreEvents first second events) (n : ℕ) (d : Event)
    (below : n < length events) (firsts seconds : Row) (pairs : List (ℕ × ℕ)) (swept : Swept first second (take n events) firsts seconds pairs) where
  abbrev passed : Event
  passed = get_or events n d

  is : IsEvent first second passed
  is = are.each passed (In-get_or events n d below)

  next : IsNext events (take n events) passed
  next = next_at events n d are.once are.ordered below

  is_at : (s : Bool) → passed.of_second ≡ s → passed ≡ event_at first second passed.begins s passed.owner
  is_at s side = is.is ∙ ap (λ (v : Bool). event_at first second passed.begins v passed.owner) side

  in_list_at : (s : Bool) → passed.of_second ≡ s → passed.owner < length (list_of first second s)
  in_list_at s side = subst (λ (v : Bool). passed.owner < length (list_of first second v)) side is.in_list

  actives_at : (s : Bool) → passed.of_second ≡ s → (t : Bool) (row : Row) → HasActives first second (take n events) t row → AreActives row
  actives_at s side = row_actives first second lists events (take n events) are passed.begins s passed.owner (in_list_at s side)
      (subst (λ (v : Event). IsNext events (take n events) v) (is_at s side) next)

  pub first_actives : passed.of_second ≡ true → AreActives firsts
  first_actives side = actives_at true side false firsts swept.on_first

  pub second_actives : passed.of_second ≡ false → AreActives seconds
  second_actives side = actives_at false side true seconds swept.on_second

  leaves : (s : Bool) → passed.of_second ≡ s → (old new others : Row) (after : List (ℕ × ℕ)) → HasActives first second (take n events) s old
      → HasActives first second (take n events) (not s) others → IsTurned passed old new others pairs after
      → LeavesTurned first second (take (n + 1) events) s new others after
  leaves s side old new others after own other turn =
      subst (λ (v : List Event). LeavesTurned first second v s new others after) (ap (λ (v : Event). take n events ++ v ∷ []) (sym (is_at s side))
      ∙ sym (take_more events n d below))
      (turned first second lists events (take n events) are passed.begins s passed.owner (in_list_at s side)
      (subst (λ (v : Event). IsNext events (take n events) v) (is_at s side) next) old new others pairs after own other swept.found
      (subst (λ (v : Event). IsTurned v old new others pairs after) (is_at s side) turn))

  -- the event of a rectangle of the first list
  pub swept_first : (new : Row) (after : List (ℕ × ℕ)) → passed.of_second ≡ false → IsTurned passed firsts new seconds pairs after
      → Swept first second (take (n + 1) events) new seconds after
  swept_first new after side turn =
      let l = leaves false side firsts new seconds after swept.on_first swept.on_second turn in
      record { on_first = l.own; on_second = l.other; found = l.found }

  -- or of the second
  pub swept_second : (new : Row) (after : List (ℕ × ℕ)) → passed.of_second ≡ true → IsTurned passed seconds new firsts pairs after
      → Swept first second (take (n + 1) events) firsts new after
  swept_second new after side turn =
      let l = leaves true side seconds new firsts after swept.on_second swept.on_first turn in
      record { on_first = l.other; on_second = l.own; found = l.found }

-- before the first event
pub swept_none : (first second : List Rect) (firsts seconds : Row) → ((x : ℤ) → firsts x ≡ None) → ((x : ℤ) → seconds x ≡ None)
    → Swept first second [] firsts seconds []
swept_none first second firsts seconds none nothing = record {
  on_first = record { only = λ to active there. absurd (let e = none to in cc); all = λ k below begun on. absurd begun };
  on_second = record { only = λ to active there. absurd (let e = nothing to in cc); all = λ k below begun on. absurd begun };
  found = Lists-none (IsFound first second []) (λ pair f. f.begun false);
}

-- and after the last
pub swept_all : (first second : List Rect) (events : List Event) (firsts seconds : Row) (pairs : List (ℕ × ℕ)) → AreEvents first second events
    → Swept first second events firsts seconds pairs → Lists (IsOverlap first second) pairs
swept_all first second events firsts seconds pairs are swept =
    Lists-iff (IsFound first second events) (IsOverlap first second) pairs (λ pair f. f.overlap)
    (λ pair o. record { overlap = o; begun = λ s. are.all true s (place_in s pair) (covered_in first second pair o s).0 }) swept.found
