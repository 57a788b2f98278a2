-- Columns that are cut in two: what is known of their counts from those of the sides.
use Rattle.interact.proofs.Common.{◌≡◌, inl, inr, ℕ, ◌+◌, ◌<◌, ℤ, pos, ◌+ℤ◌, ◌≤ℤ◌, ◌<ℤ◌, Bool, true, false, cond, List, length, take, drop, get_or}
use Rattle.interact.proofs.Common.{Box, Global, Some, refl, sym, ◌∙◌, ap, subst, arith, ◌&&◌, int_le, int_lt, AllPairs, int_max, int_min, cases_Bool}
use Rattle.interact.proofs.Common.{ints, by_lt_z, In, In-index, In-get_or, begins_before, ends_after, Counts, Even, Fork, bounds_of, shifted, IsTold}
use Rattle.interact.proofs.Common.{IsCut, IsAdded}
use Rattle.std.proofs.Common.{◌⊎◌, ◌↔◌, ◌-◌}
use Rattle.std.proofs.Common.{length-drop, Option, None}
use Rattle.std.proofs.lemmas.Int.{clamps}
use Rattle.std.proofs.lemmas.List.{get_or-take, get_or-drop, length-take, take_rest}
use Rattle.geo_strips.specs.Coverage.{is_from, is_before, begin_after, end_before}
use Rattle.geo_strips.specs.RowRuns.{IsInRow, AreRuns, IsCovered, IsUncovered}
use Rattle.geo_strips.proofs.CoverageLaws.{lt_true, lt_false, le_true, le_false, before_on_left, from_on_right, not_from, not_before, and_false}
use Rattle.geo_strips.proofs.RowLaws.{changes_none, changes_both}
use Rattle.interact.specs.declared.counts.Bounds.{Bounds}
use Rattle.interact.specs.declared.counts.Counts.{Cut'}
use Rattle.interact.specs.declared.counts.SharedRuns.{SharedRuns}
use Rattle.interact.specs.steps.Counts.{count_of, is_shared, joined, of_told, told_or, refreshed, row_of}
use Rattle.interact.specs.steps.Counts.{AreBounds, IsOfAll, IsPushed, IsSettled}

module _ (a b : Bounds) (count count' : ℤ → ℤ) (shared shared' : ℤ → Bool) where
  -- the bounds of two sides hold wherever a column is on one of them
  joined_bounds : (on_left : ℤ → Bool) → AreBounds a count shared → AreBounds b count' shared'
      → AreBounds (joined a b) (λ x. cond (on_left x) (count x) (count' x)) (λ x. cond (on_left x) (shared x) (shared' x))
  joined_bounds on_left l r = record {
    least = λ x. least_at (on_left x) x;
    most = λ x. most_at (on_left x) x;
    least_shared = λ x. shared_at (on_left x) x;
    most_lone = λ x. lone_at (on_left x) x;
  }
    where
      least_at : (side : Bool) (x : ℤ) → int_min a.least b.least ≤ℤ cond side (count x) (count' x)
      least_at true x = let h = l.least x in omega (arith, ints, clamps, h)
      least_at false x = let h = r.least x in omega (arith, ints, clamps, h)

      most_at : (side : Bool) (x : ℤ) → cond side (count x) (count' x) ≤ℤ int_max a.most b.most
      most_at true x = let h = l.most x in omega (arith, ints, clamps, h)
      most_at false x = let h = r.most x in omega (arith, ints, clamps, h)

      shared_at : (side : Bool) (x : ℤ) → cond side (shared x) (shared' x) ≡ true
          → int_min a.least_shared b.least_shared ≤ℤ cond side (count x) (count' x)
      shared_at true x e = let h = l.least_shared x e in omega (arith, ints, clamps, h)
      shared_at false x e = let h = r.least_shared x e in omega (arith, ints, clamps, h)

      lone_at : (side : Bool) (x : ℤ) → cond side (shared x) (shared' x) ≡ false → cond side (count x) (count' x) ≤ℤ int_max a.most_lone b.most_lone
      lone_at true x e = let h = l.most_lone x e in omega (arith, ints, clamps, h)
      lone_at false x e = let h = r.most_lone x e in omega (arith, ints, clamps, h)

-- bounds hold of counts that are the same
pub same_bounds : (a : Bounds) (count count' : ℤ → ℤ) (shared shared' : ℤ → Bool) → ((x : ℤ) → count' x ≡ count x) → ((x : ℤ) → shared' x ≡ shared x)
    → AreBounds a count shared → AreBounds a count' shared'
same_bounds a count count' shared shared' f g h = record {
  least = λ x. subst (λ v. a.least ≤ℤ v) (sym (f x)) (h.least x);
  most = λ x. subst (λ v. v ≤ℤ a.most) (sym (f x)) (h.most x);
  least_shared = λ x e. subst (λ v. a.least_shared ≤ℤ v) (sym (f x)) (h.least_shared x (sym (g x) ∙ e));
  most_lone = λ x e. subst (λ v. v ≤ℤ a.most_lone) (sym (f x)) (h.most_lone x (sym (g x) ∙ e));
}

module _ (a : Bounds) (count : ℤ → ℤ) (shared : ℤ → Bool) (h : AreBounds a count shared) where
  -- so many rectangles more cover all of the columns
  pub shifted_bounds : (more : ℤ) → AreBounds (shifted more a) (λ x. count x +ℤ more) shared
  shifted_bounds more = record {
    least = λ x. let g = h.least x in omega (arith, ints, g);
    most = λ x. let g = h.most x in omega (arith, ints, g);
    least_shared = λ x e. let g = h.least_shared x e in omega (arith, ints, g);
    most_lone = λ x e. let g = h.most_lone x e in omega (arith, ints, g);
  }

  -- something is said of all columns, or nothing
  told_bounds : (all : Option Bool) → AreBounds (of_told all a) count (λ x. told_or all (shared x))
  told_bounds None = h
  told_bounds (Some true) = record { least = h.least; most = h.most; least_shared = λ x e. h.least x; most_lone = λ x e. cc }
  told_bounds (Some false) = record { least = h.least; most = h.most; least_shared = λ x e. cc; most_lone = λ x e. h.most x }

-- what is known of columns is true
pub are_bounds : (t : Counts) → IsTold t → AreBounds (bounds_of t) (count_of t) (is_shared t)
are_bounds (Even column) h =
    let one : Bounds = record { least = column.count; most = column.count; least_shared = column.count; most_lone = column.count } in
    let all : AreBounds one (λ x. column.count) (λ x. column.shared) = record {
      least = λ x. omega (arith, ints);
      most = λ x. omega (arith, ints);
      least_shared = λ x e. omega (arith, ints);
      most_lone = λ x e. omega (arith, ints);
    } in told_bounds one (λ x. column.count) (λ x. column.shared) all (Some column.shared)
are_bounds (Cut' p at extra all bounds left right) h = h.0

-- the bounds that are made from those of the sides are true
pub refreshed_bounds : (p : Box (Unit {0}) Global) (at extra : ℤ) (all : Option Bool) (bounds : Bounds) (left right : Counts)
    → IsTold left → IsTold right
    → AreBounds (of_told all (shifted extra (joined (bounds_of left) (bounds_of right)))) (count_of (Cut' p at extra all bounds left right))
    (is_shared (Cut' p at extra all bounds left right))
refreshed_bounds p at extra all bounds left right l r =
    let both = joined_bounds (bounds_of left) (bounds_of right) (count_of left) (count_of right) (is_shared left) (is_shared right) (λ x. int_lt x at)
    (are_bounds left l) (are_bounds right r) in
    let count : ℤ → ℤ = λ x. cond (int_lt x at) (count_of left x) (count_of right x) in
    let shared : ℤ → Bool = λ x. cond (int_lt x at) (is_shared left x) (is_shared right x) in
    let joint = joined (bounds_of left) (bounds_of right) in
    let more = told_bounds (shifted extra joint) (λ x. count x +ℤ extra) shared (shifted_bounds joint count shared both extra) all in
    same_bounds (of_told all (shifted extra joint)) (λ x. count x +ℤ extra) (count_of (Cut' p at extra all bounds left right))
    (λ x. told_or all (shared x)) (is_shared (Cut' p at extra all bounds left right)) (λ x. omega (arith, ints)) (λ x. refl) more

-- each side in order is a cut, if those before the middle one are cuts on the left and those after it on the right
pub cuts_from_sides : (left right : Counts) (sides : List ℤ) (middle : ℕ) (at : ℤ) → AllPairs ◌≤ℤ◌ sides → middle < length sides
    → ((d : ℤ) → get_or sides middle d ≡ at)
    → ((v : ℤ) → In v (take middle sides) → IsCut left v)
    → ((v : ℤ) → In v (take (length sides - (middle + 1)) (drop (middle + 1) sides)) → IsCut right v)
    → (v : ℤ) → In v sides → (v ≡ at) ⊎ (((v <ℤ at) × IsCut left v) ⊎ ((at <ℤ v) × IsCut right v))
cuts_from_sides left right sides middle at ordered inside is on_left on_right v i =
    let found = In-index v sides i in
    let k = found.0 in
    let below : k < length sides = found.1.0 in
    let here : get_or sides k v ≡ v = found.1.1 v in
    let there : get_or sides middle v ≡ at = is v in
    elim (either k middle) [
      | inl less ↦ by_lt_z v at
          (λ before. inr (inl (
            before,
            on_left v (subst (λ w. In w (take middle sides)) (get_or-take middle sides k v less ∙ here)
                (In-get_or (take middle sides) k v (omega (arith, length-take middle sides, less, below)))),
          )))
          (λ not_before. inl (let e = ordered k middle v less inside in omega (arith, ints, e, there, here)))
      | inr (inl same) ↦ inl (sym here ∙ ap (λ j. get_or sides j v) same ∙ there)
      | inr (inr more) ↦ by_lt_z at v
          (λ after. inr (inr (
            after,
            on_right v
                (let rest = drop (middle + 1) sides in
                let place : get_or rest (k - (middle + 1)) v ≡ v = get_or-drop (middle + 1) sides (k - (middle + 1)) v
                ∙ ap (λ j. get_or sides j v) (let j : middle + 1 + (k - (middle + 1)) ≡ k = omega (arith, more) in j) ∙ here in
                subst (λ w. In v w) (sym (take_rest sides (middle + 1))) (subst (λ w. In w rest) place
                (In-get_or rest (k - (middle + 1)) v (omega (arith, length-drop (middle + 1) sides, more, below))))),
          )))
          (λ not_after. inl (let e = ordered middle k v more below in omega (arith, ints, e, there, here)))
    ]
  where
    either : (a b : ℕ) → (a < b) ⊎ ((a ≡ b) ⊎ (b < a))
    either a b = grind arith

-- all columns at once
pub cut_shifted : (more : ℤ) (p q : Box (Unit {0}) Global) (at extra : ℤ) (all : Option Bool) (bounds : Bounds) (left right : Counts)
    → IsTold (Cut' p at extra all bounds left right)
    → IsAdded None None more (Cut' p at extra all bounds left right) (Cut' q at (extra +ℤ more) all (shifted more bounds) left right)
cut_shifted more p q at extra all bounds left right h = record {
  counts = λ x. omega (arith, ints);
  shared = λ x. refl;
  cuts = λ v c. c;
  told = (
    same_bounds (shifted more bounds) (λ x. count_of (Cut' p at extra all bounds left right) x +ℤ more)
        (count_of (Cut' q at (extra +ℤ more) all (shifted more bounds) left right)) (is_shared (Cut' p at extra all bounds left right))
        (is_shared (Cut' q at (extra +ℤ more) all (shifted more bounds) left right)) (λ x. omega (arith, ints)) (λ x. refl)
        (shifted_bounds bounds (count_of (Cut' p at extra all bounds left right)) (is_shared (Cut' p at extra all bounds left right)) h.0 more),
    h.1,
    h.2,
  );
}

-- the count of a column, if it lies between the bounds and so many rectangles more cover those
abbrev pub added : Option ℤ → Option ℤ → ℤ → ℤ → ℤ → ℤ
added from to more x count = cond (is_from from x && is_before to x) (count +ℤ more) count

-- a side after so many rectangles more cover the columns between the bounds
pub record SideIsAdded (IsHere : ℤ → Type 0) (from to : Option ℤ) (more : ℤ) (old new : Counts) : Type 0 where
  pub counts : (x : ℤ) → IsHere x → count_of new x ≡ added from to more x (count_of old x)
  pub shared : (x : ℤ) → is_shared new x ≡ is_shared old x
  pub cuts : (v : ℤ) → IsCut old v → IsCut new v
  pub told : IsTold new

module _ (from to : Option ℤ) (more at : ℤ) (old : Counts) where
  -- what was added up to the right of a cut is added left of it
  pub left_added : (new : Counts) → IsAdded from (end_before to at) more old new → SideIsAdded (λ x. x <ℤ at) from to more old new
  left_added new h = record {
    counts = λ x here. h.counts x ∙ ap (λ v. cond (is_from from x && v) (count_of old x +ℤ more) (count_of old x)) (before_on_left to at x here);
    shared = h.shared;
    cuts = h.cuts;
    told = h.told;
  }

  -- and what was added from the left of it on, right of it
  pub right_added : (new : Counts) → IsAdded (begin_after from at) to more old new → SideIsAdded (λ x. at ≤ℤ x) from to more old new
  right_added new h = record {
    counts = λ x here. h.counts x ∙ ap (λ v. cond (v && is_before to x) (count_of old x +ℤ more) (count_of old x)) (from_on_right from at x here);
    shared = h.shared;
    cuts = h.cuts;
    told = h.told;
  }

  -- what begins at the cut or after it leaves what is left of it
  pub left_same : begins_before from at ≡ false → IsTold old → SideIsAdded (λ x. x <ℤ at) from to more old old
  left_same e h = record {
    counts = λ x here. sym (ap (λ v. cond (v && is_before to x) (count_of old x +ℤ more) (count_of old x)) (not_from from at x e here));
    shared = λ x. refl;
    cuts = λ v c. c;
    told = h;
  }

  -- and what ends there or before it, what is right of it
  pub right_same : ends_after to at ≡ false → IsTold old → SideIsAdded (λ x. at ≤ℤ x) from to more old old
  right_same e h = record {
    counts = λ x here. sym (ap (λ v. cond v (count_of old x +ℤ more) (count_of old x))
        (ap (λ v. is_from from x && v) (not_before to at x e here) ∙ and_false (is_from from x)));
    shared = λ x. refl;
    cuts = λ v c. c;
    told = h;
  }

-- a cut count at a column of its left side, and of its right side
module _ (p : Box (Unit {0}) Global) (at extra : ℤ) (all : Option Bool) (bounds : Bounds) (left right : Counts) (x : ℤ) where
  abbrev whole : Counts
  whole = Cut' p at extra all bounds left right

  count_left : x <ℤ at → count_of whole x ≡ extra +ℤ count_of left x
  count_left h = ap (λ v. extra +ℤ cond v (count_of left x) (count_of right x)) (lt_true x at h)

  count_right : at ≤ℤ x → count_of whole x ≡ extra +ℤ count_of right x
  count_right h = ap (λ v. extra +ℤ cond v (count_of left x) (count_of right x)) (lt_false x at h)

  shared_left : x <ℤ at → is_shared whole x ≡ told_or all (is_shared left x)
  shared_left h = ap (λ v. told_or all (cond v (is_shared left x) (is_shared right x))) (lt_true x at h)

  shared_right : at ≤ℤ x → is_shared whole x ≡ told_or all (is_shared right x)
  shared_right h = ap (λ v. told_or all (cond v (is_shared left x) (is_shared right x))) (lt_false x at h)

-- the cuts of the sides are cuts of the whole
cut_cuts : (p q : Box (Unit {0}) Global) (at extra : ℤ) (all all' : Option Bool) (bounds bounds' : Bounds) (left right left' right' : Counts)
    → ((v : ℤ) → IsCut left v → IsCut left' v) → ((v : ℤ) → IsCut right v → IsCut right' v)
    → (v : ℤ) → IsCut (Cut' p at extra all bounds left right) v → IsCut (Cut' q at extra all' bounds' left' right') v
cut_cuts p q at extra all all' bounds bounds' left right left' right' l r v (inl e) = inl e
cut_cuts p q at extra all all' bounds bounds' left right left' right' l r v (inr (inl h)) = inr (inl (h.0, l v h.1))
cut_cuts p q at extra all all' bounds bounds' left right left' right' l r v (inr (inr h)) = inr (inr (h.0, r v h.1))

-- the extra of all columns does not matter to what is added
added_above : (extra more count : ℤ) (b : Bool) → extra +ℤ cond b (count +ℤ more) count ≡ cond b (extra +ℤ count +ℤ more) (extra +ℤ count)
added_above extra more count true = omega (arith, ints)
added_above extra more count false = omega (arith, ints)

-- so many rectangles more cover columns of the two sides, and of the whole
pub cut_added : (from to : Option ℤ) (more : ℤ) (p q : Box (Unit {0}) Global) (at extra : ℤ) (all : Option Bool) (bounds : Bounds)
    (left right left' right' : Counts) → SideIsAdded (λ x. x <ℤ at) from to more left left' → SideIsAdded (λ x. at ≤ℤ x) from to more right right'
    → IsAdded from to more (Cut' p at extra all bounds left right)
    (Cut' q at extra all (of_told all (shifted extra (joined (bounds_of left') (bounds_of right')))) left' right')
cut_added from to more p q at extra all bounds left right left' right' l r =
    let made = of_told all (shifted extra (joined (bounds_of left') (bounds_of right'))) in
    record {
      counts = λ x. by_lt_z x at
          (λ here. count_left q at extra all made left' right' x here ∙ ap (λ v. extra +ℤ v) (l.counts x here)
          ∙ added_above extra more (count_of left x) (is_from from x && is_before to x)
          ∙ sym (ap (added from to more x) (count_left p at extra all bounds left right x here)))
          (λ here. count_right q at extra all made left' right' x here ∙ ap (λ v. extra +ℤ v) (r.counts x here)
          ∙ added_above extra more (count_of right x) (is_from from x && is_before to x)
          ∙ sym (ap (added from to more x) (count_right p at extra all bounds left right x here)));
      shared = λ x. ap (λ v. told_or all (cond (int_lt x at) v (is_shared right' x))) (l.shared x)
          ∙ ap (λ v. told_or all (cond (int_lt x at) (is_shared left x) v)) (r.shared x);
      cuts = cut_cuts p q at extra all all bounds made left right left' right' l.cuts r.cuts;
      told = (refreshed_bounds q at extra all made left' right' l.told r.told, l.told, r.told);
    }

-- the columns that a fork cuts
abbrev pub cut : Box (Unit {0}) Global → Fork → Counts
cut p fork = Cut' p fork.at fork.extra fork.all fork.bounds fork.left fork.right

-- of a fork the left side alone is another, where so many rectangles more cover columns
pub record LeftIsAdded (from to : Option ℤ) (more : ℤ) (old new : Fork) : Type 0 where
  pub left : Counts
  pub becomes : new ≡ record old { left = left }
  pub done : SideIsAdded (λ x. x <ℤ old.at) from to more old.left left

-- or the right side alone
pub record RightIsAdded (from to : Option ℤ) (more at : ℤ) (old new : Fork) : Type 0 where
  pub right : Counts
  pub becomes : new ≡ record old { right = right }
  pub done : IsTold old.right → SideIsAdded (λ x. at ≤ℤ x) from to more old.right right

-- so many rectangles more cover columns of one side and then of the other
pub fork_added : (from to : Option ℤ) (more : ℤ) (p q : Box (Unit {0}) Global) (old mid last new : Fork) → IsTold (cut p old)
    → LeftIsAdded from to more old mid → RightIsAdded from to more old.at mid last → new ≡ refreshed last
    → IsAdded from to more (cut p old) (cut q new)
fork_added from to more p q old mid last new told l r e =
    let same : mid.right ≡ old.right = ap (λ v. v.right) l.becomes in
    let done = subst (λ v. SideIsAdded (λ x. old.at ≤ℤ x) from to more v r.right) same (r.done (subst IsTold (sym same) told.2)) in
    rw (e, r.becomes, l.becomes)
    (cut_added from to more p q old.at old.extra old.all old.bounds old.left old.right l.left r.right l.done done)

-- a column is in the runs if it is shared, and only then
abbrev pub Agree : Counts → SharedRuns → ℤ → Type 0
Agree t runs x = IsInRow (row_of runs) x ↔ (is_shared t x ≡ true)

-- columns for which nothing changes are settled
pub settle_stays : (above from to row : ℤ) (t : Counts) (runs : SharedRuns) → IsTold t → AreRuns (row_of runs)
    → ((x : ℤ) → from ≤ℤ x → x <ℤ to → Agree t runs x)
    → ((bounds_of t).most_lone +ℤ above) <ℤ pos 2 → pos 2 ≤ℤ ((bounds_of t).least_shared +ℤ above) → IsSettled above from to row t t runs runs
settle_stays above from to row t runs told apart before lone shared = record {
  counts = λ x. refl;
  shared = λ x f g. is_right x;
  cuts = λ v c. c;
  told = told;
  apart = apart;
  changes = changes_none row (row_of runs) runs.ended.items;
  inside = λ x f g. (
    λ i. from_le_true (pos 2) (above +ℤ count_of t x) (sym (is_right x) ∙ (before x f g).0 i),
    λ h. (before x f g).1 (is_right x ∙ le_true (pos 2) (above +ℤ count_of t x) h),
  );
  outside = λ x o. (λ i. i, λ i. i);
}
  where
    from_le_true : (x y : ℤ) → int_le x y ≡ true → x ≤ℤ y
    from_le_true x y h = grind (arith, ints)

    is_right : (x : ℤ) → is_shared t x ≡ int_le (pos 2) (above +ℤ count_of t x)
    is_right x = elim (cases_Bool (is_shared t x)) [
      | inl e ↦ e ∙ sym (let h = (are_bounds t told).least_shared x e in le_true (pos 2) (above +ℤ count_of t x) (omega (arith, ints, h, shared)))
      | inr e ↦ e ∙ sym (let h = (are_bounds t told).most_lone x e in le_false (pos 2) (above +ℤ count_of t x) (omega (arith, ints, h, lone)))
    ]

module _ (above from to row : ℤ) (old new : Counts) (before after : SharedRuns) (told : IsTold old) where
  -- no column lies beside the columns and among them
  not_both : (x : ℤ) → (x <ℤ from) ⊎ (to ≤ℤ x) → from ≤ℤ x → x <ℤ to → ⊥
  not_both x (inl b) f g = omega (arith, ints)
  not_both x (inr a) f g = omega (arith, ints)

  -- columns all of which two or more cover are settled once they are in runs
  pub settle_all : IsOfAll true old new → pos 2 ≤ℤ ((bounds_of old).least +ℤ above)
      → IsCovered from to row (row_of before) (row_of after) before.ended.items after.ended.items → IsSettled above from to row old new before after
  settle_all all low h = record {
    counts = all.counts;
    shared = λ x f g. all.shared x ∙ sym (le_true (pos 2) (above +ℤ count_of old x) (enough x));
    cuts = all.cuts;
    told = all.told;
    apart = h.apart;
    changes = h.changes;
    inside = λ x f g. (λ i. enough x, λ e. h.added x f g);
    outside = λ x o. (λ i. elim (h.only x i) [ inl k ↦ k | inr in_there ↦ absurd (not_both x o in_there.0 in_there.1) ], h.kept x);
  }
    where
      enough : (x : ℤ) → pos 2 ≤ℤ (above +ℤ count_of old x)
      enough x = let least = (are_bounds old told).least x in omega (arith, ints, least, low)

  -- columns none of which two or more cover are settled once they are in no runs
  pub settle_none : IsOfAll false old new → ((bounds_of old).most +ℤ above) <ℤ pos 2
      → IsUncovered from to row (row_of before) (row_of after) before.ended.items after.ended.items → IsSettled above from to row old new before after
  settle_none all high h = record {
    counts = all.counts;
    shared = λ x f g. all.shared x ∙ sym (le_false (pos 2) (above +ℤ count_of old x) (too_few x));
    cuts = all.cuts;
    told = all.told;
    apart = h.apart;
    changes = h.changes;
    inside = λ x f g. (λ i. absurd (h.none x f g i), λ e. absurd (let few = too_few x in omega (arith, ints, few, e)));
    outside = λ x o. (h.stayed x, λ i. elim (h.kept x i) [ inl k ↦ k | inr in_there ↦ absurd (not_both x o in_there.0 in_there.1) ]);
  }
    where
      too_few : (x : ℤ) → (above +ℤ count_of old x) <ℤ pos 2
      too_few x = let most = (are_bounds old told).most x in omega (arith, ints, most, high)

-- the sides of a fork that say themselves which columns are shared
module _ (above from to row : ℤ) (p : Box (Unit {0}) Global) (old pushed : Fork) (h : IsPushed old pushed) (before : SharedRuns) where
  -- the runs are those of the left side
  pub left_before : ((x : ℤ) → from ≤ℤ x → x <ℤ to → Agree (cut p old) before x)
      → (x : ℤ) → from ≤ℤ x → x <ℤ int_min to old.at → Agree pushed.left before x
  left_before agree x f g =
      let here : x <ℤ old.at = omega (arith, ints, clamps, g) in
      subst (λ v. IsInRow (row_of before) x ↔ (v ≡ true))
      (shared_left p old.at old.extra old.all old.bounds old.left old.right x here ∙ sym (h.left.shared x))
      (agree x f (omega (arith, ints, clamps, g)))

  module _ (left : Counts) (mid : SharedRuns) (d : IsSettled (above +ℤ old.extra) from (int_min to old.at) row pushed.left left before mid) where
    -- once the left side is settled they are still those of the right side
    pub right_before : ((x : ℤ) → from ≤ℤ x → x <ℤ to → Agree (cut p old) before x)
        → (x : ℤ) → int_max from old.at ≤ℤ x → x <ℤ to → Agree pushed.right mid x
    right_before agree x f g =
        let here : old.at ≤ℤ x = omega (arith, ints, clamps, f) in
        let same = d.outside x (inr (omega (arith, ints, clamps, here))) in
        let there = subst (λ v. IsInRow (row_of before) x ↔ (v ≡ true))
        (shared_right p old.at old.extra old.all old.bounds old.left old.right x here ∙ sym (h.right.shared x))
        (agree x (omega (arith, ints, clamps, f)) g) in
        (λ i. there.0 (same.0 i), λ e. same.1 (there.1 e))

    -- both sides are settled, and so is the whole
    pub fork_settled : (q : Box (Unit {0}) Global) (new : Fork) (right : Counts) (after : SharedRuns)
        → IsSettled (above +ℤ old.extra) (int_max from old.at) to row pushed.right right mid after
        → new ≡ refreshed (record pushed { left = left; right = right }) → IsSettled above from to row (cut p old) (cut q new) before after
    fork_settled q new right after e is = rw (is, h.at, h.extra, h.all) record {
      counts = λ x. by_lt_z x old.at
          (λ here. count_left q old.at old.extra None made left right x here ∙ ap (λ v. old.extra +ℤ v) (left_count x)
          ∙ sym (count_left p old.at old.extra old.all old.bounds old.left old.right x here))
          (λ here. count_right q old.at old.extra None made left right x here ∙ ap (λ v. old.extra +ℤ v) (right_count x)
          ∙ sym (count_right p old.at old.extra old.all old.bounds old.left old.right x here));
      shared = λ x f g. by_lt_z x old.at
          (λ here. shared_left q old.at old.extra None made left right x here ∙ d.shared x f (omega (arith, ints, clamps, here, g))
          ∙ ap (λ v. int_le (pos 2) v) (on_left x here))
          (λ here. shared_right q old.at old.extra None made left right x here ∙ e.shared x (omega (arith, ints, clamps, here, f)) g
          ∙ ap (λ v. int_le (pos 2) v) (on_right x here));
      cuts = cut_cuts p q old.at old.extra old.all None old.bounds made old.left old.right left right
          (λ v c. d.cuts v (h.left.cuts v c)) (λ v c. e.cuts v (h.right.cuts v c));
      told = (refreshed_bounds q old.at old.extra None made left right d.told e.told, d.told, e.told);
      apart = e.apart;
      changes = changes_both row (row_of before) (row_of mid) (row_of after) before.ended.items mid.ended.items after.ended.items d.changes e.changes;
      inside = λ x f g. by_lt_z x old.at
          (λ here. let one = d.inside x f (omega (arith, ints, clamps, here, g)) in
          let two = e.outside x (inl (omega (arith, ints, clamps, here))) in
          subst (λ v. IsInRow (row_of after) x ↔ (pos 2 ≤ℤ v)) (on_left x here) (λ i. one.0 (two.0 i), λ m. two.1 (one.1 m)))
          (λ here. subst (λ v. IsInRow (row_of after) x ↔ (pos 2 ≤ℤ v)) (on_right x here) (e.inside x (omega (arith, ints, clamps, here, f)) g));
      outside = λ x o.
          let one = d.outside x (elim o [ inl b ↦ inl b | inr a ↦ inr (omega (arith, ints, clamps, a)) ]) in
          let two = e.outside x (elim o [ inl b ↦ inl (omega (arith, ints, clamps, b)) | inr a ↦ inr a ]) in
          (λ i. one.0 (two.0 i), λ i. two.1 (one.1 i));
    }
      where
        made : Bounds
        made = shifted old.extra (joined (bounds_of left) (bounds_of right))

        left_count : (x : ℤ) → count_of left x ≡ count_of old.left x
        left_count x = d.counts x ∙ h.left.counts x

        right_count : (x : ℤ) → count_of right x ≡ count_of old.right x
        right_count x = e.counts x ∙ h.right.counts x

        on_left : (x : ℤ) → x <ℤ old.at → above +ℤ old.extra +ℤ count_of pushed.left x ≡ above +ℤ count_of (cut p old) x
        on_left x here = omega (arith, ints, h.left.counts x, count_left p old.at old.extra old.all old.bounds old.left old.right x here)

        on_right : (x : ℤ) → old.at ≤ℤ x → above +ℤ old.extra +ℤ count_of pushed.right x ≡ above +ℤ count_of (cut p old) x
        on_right x here = omega (arith, ints, h.right.counts x, count_right p old.at old.extra old.all old.bounds old.left old.right x here)
