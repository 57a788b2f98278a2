-- The number of a row at x, and the runs that setting a piece leaves.
use Rattle.run_plane.proofs.Common.{◌≡◌, ◌≢◌, ◌⊎◌, inl, inr, ℕ, zero, suc, ◌≤◌, ◌<◌, ℤ, ◌≤ℤ◌, ◌<ℤ◌, true, false, cond, List, [], ◌∷◌, ◌++◌, map}
use Rattle.run_plane.proofs.Common.{length, get_or, drop, append_assoc, refl, sym, ◌∙◌, ap, subst, arith, int_le, int_min, int_max, ints, clamps, In}
use Rattle.run_plane.proofs.Common.{In-get_or, at_most_or_greater, Run, value_at, edge, AreRuns, Piece, IsSmall, IsNear, IsProper}
use Rattle.std.proofs.Common.{drop-cons}
use Rattle.std.specs.Prelude.{filter, int_lt}
use Rattle.std.proofs.lemmas.List.{drop_all}
use Rattle.run_plane.specs.Rows.{IsRunFrom}
use Rattle.run_plane.specs.steps.Changes.{parts_before, parts_after, AreRunsWith}

-- the first run has x
pub value_here : (run : Run) (runs : List Run) (x : ℤ) → run.xlo ≤ℤ x → x <ℤ run.xhi → value_at (run ∷ runs) x ≡ run.value
value_here run runs x p q = grind (arith, ints)

-- the first run begins after x
pub value_before : (run : Run) (runs : List Run) (x : ℤ) → x <ℤ run.xlo → value_at (run ∷ runs) x ≡ value_at runs x
value_before run runs x p = grind (arith, ints)

-- the first run ends at x or before
pub value_after : (run : Run) (runs : List Run) (x : ℤ) → run.xhi ≤ℤ x → value_at (run ∷ runs) x ≡ value_at runs x
value_after run runs x p = grind (arith, ints)

-- runs that begin after x say nothing of x
pub value_below : (low : ℤ) (runs : List Run) (x : ℤ) → AreRuns low runs → x <ℤ low → value_at runs x ≡ 0
value_below low [] x are p = refl
value_below low (run ∷ runs) x are p =
    let from : low ≤ℤ run.xlo = are.0.from in
    let long : run.xlo <ℤ run.xhi = are.0.long in
    let less : x <ℤ run.xlo = omega (arith, ints) in
    let less' : x <ℤ run.xhi = omega (arith, ints) in
    value_before run runs x less ∙ value_below run.xhi runs x are.1 less'

-- runs may be said to begin earlier
pub runs_earlier : (low low' : ℤ) (runs : List Run) → low' ≤ℤ low → AreRuns low runs → AreRuns low' runs
runs_earlier low low' [] p are = tt
runs_earlier low low' (run ∷ runs) p are =
    let from : low ≤ℤ run.xlo = are.0.from in
    (record { from = omega (arith, ints); long = are.0.long; left = are.0.left; right = are.0.right; material = are.0.material }, are.1)

-- the part of a run before x
abbrev pub before : ℤ → Run → Run
before x run = record { xlo = run.xlo; xhi = int_min run.xhi x; value = run.value }

-- the part of a run from x on
abbrev pub after : ℤ → Run → Run
after x run = record { xlo = int_max run.xlo x; xhi = run.xhi; value = run.value }

keep_before : (x : ℤ) (run : Run) (runs : List Run) → run.xlo <ℤ x → parts_before x (run ∷ runs) ≡ before x run ∷ parts_before x runs
keep_before x run runs p = let t : int_lt run.xlo x ≡ true = grind (arith, ints) in
    ap (λ v. map (before x) (cond v (run ∷ filter (λ run. int_lt run.xlo x) runs) (filter (λ run. int_lt run.xlo x) runs))) t

drop_before : (x : ℤ) (run : Run) (runs : List Run) → x ≤ℤ run.xlo → parts_before x (run ∷ runs) ≡ parts_before x runs
drop_before x run runs p = let t : int_lt run.xlo x ≡ false = grind (arith, ints) in
    ap (λ v. map (before x) (cond v (run ∷ filter (λ run. int_lt run.xlo x) runs) (filter (λ run. int_lt run.xlo x) runs))) t

keep_after : (x : ℤ) (run : Run) (runs : List Run) → x <ℤ run.xhi → parts_after x (run ∷ runs) ≡ after x run ∷ parts_after x runs
keep_after x run runs p = let t : int_lt x run.xhi ≡ true = grind (arith, ints) in
    ap (λ v. map (after x) (cond v (run ∷ filter (λ run. int_lt x run.xhi) runs) (filter (λ run. int_lt x run.xhi) runs))) t

drop_after : (x : ℤ) (run : Run) (runs : List Run) → run.xhi ≤ℤ x → parts_after x (run ∷ runs) ≡ parts_after x runs
drop_after x run runs p = let t : int_lt x run.xhi ≡ false = grind (arith, ints) in
    ap (λ v. map (after x) (cond v (run ∷ filter (λ run. int_lt x run.xhi) runs) (filter (λ run. int_lt x run.xhi) runs))) t

-- left of c the parts before c say what the runs say, where what follows says nothing
pub value_left : (c : ℤ) (runs rest : List Run) (x : ℤ) → x <ℤ c → value_at rest x ≡ 0 → value_at (parts_before c runs ++ rest) x ≡ value_at runs x
value_left c [] rest x p none = none
value_left c (run ∷ runs) rest x p none =
    let again = value_left c runs rest x p none in
    elim (at_most_or_greater c run.xlo) [
      | inl late ↦
          let less : x <ℤ run.xlo = omega (arith, ints, late) in
          ap (λ (v : List Run). value_at (v ++ rest) x) (drop_before c run runs late) ∙ again ∙ sym (value_before run runs x less)
      | inr early ↦ ap (λ (v : List Run). value_at (v ++ rest) x) (keep_before c run runs early) ∙
          elim (at_most_or_greater run.xlo x) [
            | inr less ↦ value_before (before c run) (parts_before c runs ++ rest) x less ∙ again ∙ sym (value_before run runs x less)
            | inl begun ↦ elim (at_most_or_greater run.xhi x) [
              | inl past ↦ (let past' : (before c run).xhi ≤ℤ x = omega (arith, ints, clamps, past) in
                  value_after (before c run) (parts_before c runs ++ rest) x past' ∙ again ∙ sym (value_after run runs x past))
              | inr in_run ↦ (let in_part : x <ℤ (before c run).xhi = omega (arith, ints, clamps, in_run, p) in
                  value_here (before c run) (parts_before c runs ++ rest) x begun in_part ∙ sym (value_here run runs x begun in_run))
            ]
          ]
    ]

-- from c on they say nothing
pub value_left_past : (c : ℤ) (runs rest : List Run) (x : ℤ) → c ≤ℤ x → value_at (parts_before c runs ++ rest) x ≡ value_at rest x
value_left_past c [] rest x p = refl
value_left_past c (run ∷ runs) rest x p =
    let again = value_left_past c runs rest x p in
    elim (at_most_or_greater c run.xlo) [
      | inl late ↦ ap (λ (v : List Run). value_at (v ++ rest) x) (drop_before c run runs late) ∙ again
      | inr early ↦
          let past : (before c run).xhi ≤ℤ x = omega (arith, ints, clamps, p) in
          ap (λ (v : List Run). value_at (v ++ rest) x) (keep_before c run runs early) ∙ value_after (before c run) (parts_before c runs ++ rest) x past ∙ again
    ]

-- from c on the parts after c say what the runs say
pub value_right : (c : ℤ) (runs : List Run) (x : ℤ) → c ≤ℤ x → value_at (parts_after c runs) x ≡ value_at runs x
value_right c [] x p = refl
value_right c (run ∷ runs) x p =
    let again = value_right c runs x p in
    elim (at_most_or_greater run.xhi c) [
      | inl gone ↦
          let past : run.xhi ≤ℤ x = omega (arith, ints, gone) in
          ap (λ (v : List Run). value_at v x) (drop_after c run runs gone) ∙ again ∙ sym (value_after run runs x past)
      | inr kept ↦ ap (λ (v : List Run). value_at v x) (keep_after c run runs kept) ∙
          elim (at_most_or_greater run.xhi x) [
            | inl past ↦ value_after (after c run) (parts_after c runs) x past ∙ again ∙ sym (value_after run runs x past)
            | inr in_run ↦ elim (at_most_or_greater run.xlo x) [
              | inr less ↦ (let less' : x <ℤ (after c run).xlo = omega (arith, ints, clamps, less) in
                  value_before (after c run) (parts_after c runs) x less' ∙ again ∙ sym (value_before run runs x less))
              | inl begun ↦ (let in_part : (after c run).xlo ≤ℤ x = omega (arith, ints, clamps, begun, p) in
                  value_here (after c run) (parts_after c runs) x in_part in_run ∙ sym (value_here run runs x begun in_run))
            ]
          ]
    ]

-- the lesser of two bounds between the edges
pub small_min : (a b : ℤ) → IsSmall a → IsSmall b → IsSmall (int_min a b)
small_min a b p q = (omega (arith, ints, clamps, p.0, q.0), omega (arith, ints, clamps, p.1, q.1))

-- the greater of two
pub small_max : (a b : ℤ) → IsSmall a → IsSmall b → IsSmall (int_max a b)
small_max a b p q = (omega (arith, ints, clamps, p.0, q.0), omega (arith, ints, clamps, p.1, q.1))

-- the parts before c, and after them runs from c on, are in order
pub before_ordered : (low c : ℤ) (runs rest : List Run) → low ≤ℤ c → IsSmall c → AreRuns low runs → AreRuns c rest → AreRuns low (parts_before c runs ++ rest)
before_ordered low c [] rest p small are more = runs_earlier c low rest p more
before_ordered low c (run ∷ runs) rest p small are more =
    let from : low ≤ℤ run.xlo = are.0.from in
    let long : run.xlo <ℤ run.xhi = are.0.long in
    elim (at_most_or_greater c run.xlo) [
      | inl late ↦
          let later : low ≤ℤ run.xhi = omega (arith, ints) in
          subst (λ (v : List Run). AreRuns low (v ++ rest)) (sym (drop_before c run runs late))
          (before_ordered low c runs rest p small (runs_earlier run.xhi low runs later are.1) more)
      | inr early ↦
          let end = int_min run.xhi c in
          let end_before : end ≤ℤ c = omega (arith, ints, clamps) in
          let end_in : end ≤ℤ run.xhi = omega (arith, ints, clamps) in
          let one : IsRunFrom low (before c run) = record {
            from = from;
            long = omega (arith, ints, clamps, early);
            left = are.0.left;
            right = small_min run.xhi c are.0.right
                small;
            material = are.0.material;
          } in
          subst (λ (v : List Run). AreRuns low (v ++ rest)) (sym (keep_before c run runs early))
          (one, before_ordered end c runs rest end_before small (runs_earlier run.xhi end runs end_in are.1) more)
    ]

-- the parts after c of runs that begin at c or later are these
after_later : (low c : ℤ) (runs : List Run) → c ≤ℤ low → IsSmall c → AreRuns low runs → AreRuns low (parts_after c runs)
after_later low c [] p small are = tt
after_later low c (run ∷ runs) p small are =
    let from : low ≤ℤ run.xlo = are.0.from in
    let long : run.xlo <ℤ run.xhi = are.0.long in
    let kept : c <ℤ run.xhi = omega (arith, ints) in
    let next : c ≤ℤ run.xhi = omega (arith, ints) in
    let one : IsRunFrom low (after c run) = record {
      from = omega (arith, ints, clamps);
      long = omega (arith, ints, clamps);
      left = small_max run.xlo c
          are.0.left small;
      right = are.0.right;
      material = are.0.material;
    } in
    subst (AreRuns low) (sym (keep_after c run runs kept)) (one, after_later run.xhi c runs next small are.1)

-- the parts after c are in order from c on
pub after_ordered : (low c : ℤ) (runs : List Run) → IsSmall c → AreRuns low runs → AreRuns c (parts_after c runs)
after_ordered low c [] small are = tt
after_ordered low c (run ∷ runs) small are =
    let long : run.xlo <ℤ run.xhi = are.0.long in
    elim (at_most_or_greater run.xhi c) [
      | inl gone ↦ subst (AreRuns c) (sym (drop_after c run runs gone)) (after_ordered run.xhi c runs small are.1)
      | inr kept ↦
          let next : c ≤ℤ run.xhi = omega (arith, ints, kept) in
          let one : IsRunFrom c (after c run) = record {
            from = omega (arith, ints, clamps);
            long = omega (arith, ints, clamps, kept);
            left = small_max
                run.xlo c are.0.left small;
            right = are.0.right;
            material = are.0.material;
          } in
          subst (AreRuns c) (sym (keep_after c run runs kept)) (one, after_later run.xhi c runs next small are.1)
    ]

-- each run of runs in order gives its number
pub value_of_run : (low : ℤ) (runs : List Run) (run : Run) (x : ℤ) → AreRuns low runs → In run runs → run.xlo ≤ℤ x → x <ℤ run.xhi → value_at runs x ≡ run.value
value_of_run low [] run x are i p q = elim i [ ]
value_of_run low (first ∷ runs) run x are (inl e) p q =
    subst (λ (r : Run). value_at (first ∷ runs) x ≡ r.value) e
    (value_here first runs x (subst (λ (r : Run). r.xlo ≤ℤ x) (sym e) p) (subst (λ (r : Run). x <ℤ r.xhi) (sym e) q))
value_of_run low (first ∷ runs) run x are (inr i) p q =
    value_after first runs x (begins_after first.xhi runs run x are.1 i p) ∙ value_of_run first.xhi runs run x are.1 i p q
  where
    begins_after : (low : ℤ) (runs : List Run) (run : Run) (x : ℤ) → AreRuns low runs → In run runs → run.xlo ≤ℤ x → low ≤ℤ x
    begins_after low [] run x are i p = elim i [ ]
    begins_after low (first ∷ runs) run x are (inl e) p = let from : low ≤ℤ first.xlo = are.0.from in
        let from' : first.xlo ≤ℤ x = subst (λ (r : Run). r.xlo ≤ℤ x) (sym e) p in omega (arith, ints)
    begins_after low (first ∷ runs) run x are (inr i) p =
        let later : first.xhi ≤ℤ x = begins_after first.xhi runs run x are.1 i p in
        let from : low ≤ℤ first.xlo = are.0.from in
        let long : first.xlo <ℤ first.xhi = are.0.long in
        omega (arith, ints)

-- a number other than 0 is that of a run
pub run_of_value : (runs : List Run) (x : ℤ) → value_at runs x ≢ 0 → (run : Run) × (In run runs × (run.xlo ≤ℤ x) × (x <ℤ run.xhi))
run_of_value [] x some = absurd (some refl)
run_of_value (run ∷ runs) x some = elim (at_most_or_greater run.xlo x) [
  | inr less ↦ (let rest = run_of_value runs x (λ e. some (value_before run runs x less ∙ e)) in (rest.0, (inr rest.1.0, rest.1.1, rest.1.2)))
  | inl begun ↦ elim (at_most_or_greater run.xhi x) [
    | inl past ↦ (let rest = run_of_value runs x (λ e. some (value_after run runs x past ∙ e)) in (rest.0, (inr rest.1.0, rest.1.1, rest.1.2)))
    | inr in_run ↦ (run, (inl refl, begun, in_run))
  ]
]

-- what holds of each run in order
pub run_facts : (low : ℤ) (runs : List Run) (run : Run) → AreRuns low runs → In run runs → IsRunFrom low run
run_facts low [] run are i = elim i [ ]
run_facts low (first ∷ runs) run are (inl e) = subst (IsRunFrom low) e are.0
run_facts low (first ∷ runs) run are (inr i) =
    let rest = run_facts first.xhi runs run are.1 i in
    let later : first.xhi ≤ℤ run.xlo = rest.from in
    let from : low ≤ℤ first.xlo = are.0.from in
    let long : first.xlo <ℤ first.xhi = are.0.long in
    record { from = omega (arith, ints); long = rest.long; left = rest.left; right = rest.right; material = rest.material }

-- the run that a piece sets, if its number is not 0
abbrev pub IsMiddle : Piece → List Run → Type 0
IsMiddle piece middle = ((piece.value ≡ 0) × (middle ≡ [])) ⊎ ((piece.value ≢ 0) × (middle ≡ record {
  xlo = piece.area.xlo;
  xhi = piece.area.xhi;
  value = piece.value;
} ∷ []))

-- the parts left of a piece, its run and the parts right of it
pub set_runs : (piece : Piece) (runs middle : List Run) → IsProper piece.area → IsNear piece.area → AreRuns edge runs → IsMiddle piece middle
    → AreRunsWith piece runs ((parts_before piece.area.xlo runs ++ middle) ++ parts_after piece.area.xhi runs)
set_runs piece runs middle proper near are middle_is =
    let lo = piece.area.xlo in
    let hi = piece.area.xhi in
    let wide : lo <ℤ hi = proper.wide in
    let last = parts_after hi runs in
    let low_edge : edge ≤ℤ lo = (let small = near.xlo.0 in omega (arith, ints, small)) in
    let last_ordered : AreRuns hi last = after_ordered edge hi runs near.xhi are in
    let assoc : (parts_before lo runs ++ middle) ++ last ≡ parts_before lo runs ++ (middle ++ last) = append_assoc (parts_before lo runs) middle last in
    let tail : AreRuns lo (middle ++ last) = elim middle_is [
      | inl (none, e) ↦ subst (λ (m : List Run). AreRuns lo (m ++ last)) (sym e) (runs_earlier hi lo last (omega (arith, ints)) last_ordered)
      | inr (some, e) ↦ subst (λ (m : List Run). AreRuns lo (m ++ last)) (sym e)
          (record { from = omega (arith, ints); long = wide; left = near.xlo; right = near.xhi; material = some }, last_ordered)
    ] in
    let middle_left : (x : ℤ) → x <ℤ lo → value_at (middle ++ last) x ≡ 0 = λ x p. value_below lo (middle ++ last) x tail p in
    let middle_in : (x : ℤ) → lo ≤ℤ x → x <ℤ hi → value_at (middle ++ last) x ≡ piece.value = λ x p q. elim middle_is [
      | inl (none, e) ↦ ap (λ (m : List Run). value_at (m ++ last) x) e ∙ value_below hi last x last_ordered q ∙ sym none
      | inr (some, e) ↦ ap (λ (m : List Run). value_at (m ++ last) x) e ∙ value_here (record { xlo = lo; xhi = hi; value = piece.value }) last x p q
    ] in
    let middle_right : (x : ℤ) → hi ≤ℤ x → value_at (middle ++ last) x ≡ value_at runs x = λ x p. elim middle_is [
      | inl (none, e) ↦ ap (λ (m : List Run). value_at (m ++ last) x) e ∙ value_right hi runs x p
      | inr (some, e) ↦ ap (λ (m : List Run). value_at (m ++ last) x) e ∙ value_after (record { xlo = lo; xhi = hi; value = piece.value }) last x p
          ∙ value_right hi runs x p
    ] in
    let whole : AreRunsWith piece runs (parts_before lo runs ++ (middle ++ last)) = record {
      ordered = before_ordered edge lo runs (middle ++ last) low_edge near.xlo are tail;
      inside = λ x p q. value_left_past lo runs (middle ++ last) x p ∙ middle_in x p q;
      outside = λ x side. elim side [
        | inl less ↦ value_left lo runs (middle ++ last) x less (middle_left x less)
        | inr more ↦ value_left_past lo runs (middle ++ last) x (omega (arith, ints, more)) ∙ middle_right x more
      ];
    } in
    subst (AreRunsWith piece runs) (sym assoc) whole

-- a run ends after the column where the runs begin
run_ends_after : (low : ℤ) (runs : List Run) → AreRuns low runs → (run : Run) → In run runs → low <ℤ run.xhi
run_ends_after low [] are run none = absurd none
run_ends_after low (first ∷ runs) are run (inl same) =
    let from : low ≤ℤ first.xlo = are.0.from in
    let long : first.xlo <ℤ first.xhi = are.0.long in
    let first_ends : low <ℤ first.xhi = omega (arith, ints) in
    subst (λ (r : Run). low <ℤ r.xhi) same first_ends
run_ends_after low (first ∷ runs) are run (inr later) =
    let from : low ≤ℤ first.xlo = are.0.from in
    let long : first.xlo <ℤ first.xhi = are.0.long in
    let next : first.xhi <ℤ run.xhi = run_ends_after first.xhi runs are.1 run later in
    omega (arith, ints)

-- of two runs the one further on ends no earlier
pub run_ends_rise : (low : ℤ) (runs : List Run) → AreRuns low runs → (i j : ℕ) (d : Run) → i ≤ j → j < length runs
    → (get_or runs i d).xhi ≤ℤ (get_or runs j d).xhi
run_ends_rise low [] are i j d p q = absurd (omega arith)
run_ends_rise low (run ∷ runs) are zero zero d p q = omega (arith, ints)
run_ends_rise low (run ∷ runs) are zero (suc j) d p q =
    let later : run.xhi <ℤ (get_or runs j d).xhi = run_ends_after run.xhi runs are.1 (get_or runs j d) (In-get_or runs j d (omega arith)) in
    omega (arith, ints)
run_ends_rise low (run ∷ runs) are (suc i) zero d p q = absurd (omega arith)
run_ends_rise low (run ∷ runs) are (suc i) (suc j) d p q = run_ends_rise run.xhi runs are.1 i j d (omega arith) (omega arith)

-- runs that end at x or before say nothing of x
value_past : (low : ℤ) (runs : List Run) (x : ℤ) (n : ℕ) → AreRuns low runs → ((k : ℕ) (d : Run) → k < length runs → k < n → (get_or runs k d).xhi ≤ℤ x)
    → (value_at runs x ≡ value_at (drop n runs) x) × ((start : ℤ) × AreRuns start (drop n runs))
value_past low [] x zero are past = (refl, (low, tt))
value_past low [] x (suc n) are past = (refl, (low, tt))
value_past low (run ∷ runs) x zero are past = (refl, (low, are))
value_past low (run ∷ runs) x (suc n) are past =
    let rest = value_past run.xhi runs x n are.1 (λ k d p q. past (suc k) d (omega arith) (omega arith)) in
    (value_after run runs x (past zero run (omega arith) (omega arith)) ∙ rest.0, rest.1)

-- the value at x, where the run at a place is the first that ends after x
pub value_found : (runs : List Run) (x : ℤ) (n : ℕ) (run : Run) → AreRuns edge runs → ((k : ℕ) (d : Run) → k < length runs → k < n → (get_or runs k d).xhi ≤ℤ x)
    → n < length runs → get_or runs n run ≡ run → x <ℤ run.xhi → value_at runs x ≡ cond (int_le run.xlo x) run.value 0
value_found runs x n run are past below is ends =
    let rest = value_past edge runs x n are past in
    let cut : drop n runs ≡ run ∷ drop (suc n) runs = drop-cons runs n run below ∙ ap (λ (r : Run). r ∷ drop (suc n) runs) is in
    let ordered : AreRuns rest.1.0 (run ∷ drop (suc n) runs) = subst (AreRuns rest.1.0) cut rest.1.1 in
    rest.0 ∙ ap (λ (rs : List Run). value_at rs x) cut ∙ (elim (at_most_or_greater run.xlo x) [
      | inl p ↦ let test : int_le run.xlo x ≡ true = grind (arith, ints) in value_here run (drop (suc n) runs) x p ends
          ∙ sym (ap (λ b. cond b run.value 0) test)
      | inr p ↦
          let test : int_le run.xlo x ≡ false = grind (arith, ints) in
          value_before run (drop (suc n) runs) x p ∙ value_below run.xhi (drop (suc n) runs) x ordered.1 ends ∙ sym (ap (λ b. cond b run.value 0) test)
    ])

-- there is no value at x where all runs end at x or before
pub value_none : (runs : List Run) (x : ℤ) (n : ℕ) → AreRuns edge runs → ((k : ℕ) (d : Run) → k < length runs → k < n → (get_or runs k d).xhi ≤ℤ x)
    → length runs ≤ n → value_at runs x ≡ 0
value_none runs x n are past all =
    (value_past edge runs x n are past).0 ∙ ap (λ (rs : List Run). value_at rs x) (drop_all n runs all)
