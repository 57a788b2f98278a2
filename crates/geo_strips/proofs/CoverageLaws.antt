-- Columns that are cut in two: what is known of the whole from its sides.
use Rattle.geo_strips.proofs.Common.{◌≡◌, ◌⊎◌, inl, inr, ◌<◌, length, take, drop, get_or, ℤ, ◌≤ℤ◌, ◌<ℤ◌, Bool, true, false, cond, List, [], ◌∷◌}
use Rattle.geo_strips.proofs.Common.{◌++◌, Box, Global, Some, None, refl, sym, ◌∙◌, ap, subst, arith, to_z, of_z, ◌&&◌, int_le, int_lt, AllPairs}
use Rattle.geo_strips.proofs.Common.{int_max, int_min, w64, FitsSigned, cases_Bool, ints, clamps, by_lt_z, to_z-of_z, In, In-append_left, In-push}
use Rattle.geo_strips.proofs.Common.{In-push_cases, In-index, In-get_or, Gap, until, least_of, most_of, IsTopped, IsCut, IsCutAt, end_before}
use Rattle.std.proofs.Common.{ℕ, suc, ◌+◌, ◌-◌, length-drop}
use Rattle.std.proofs.Common.{Option}
use Rattle.std.proofs.Common.{Result, Ok, Err}
use Rattle.std.specs.Result.{OnOk}
use Rattle.std.proofs.lemmas.List.{get_or-take, get_or-drop, length-take}
use Rattle.std.proofs.Math.Seq.{take-length}
use Rattle.geo_strips.specs.declared.coverage.Coverage.{Coverage, Even, Cut'}
use Rattle.geo_strips.specs.Coverage.{is_from, is_before, raised, begins_before}
use Rattle.geo_strips.specs.Coverage.{ends_after, begin_after, IsRaised, AddsColumns, IsGap}

-- numbers that are kept in 64 bits
pub stored_max : (out a b : ℤ) → FitsSigned w64 out → FitsSigned w64 a → FitsSigned w64 b
    → out ≡ int_max (to_z w64 (of_z w64 a)) (to_z w64 (of_z w64 b)) → to_z w64 (of_z w64 out) ≡ int_max a b
stored_max out a b f g h e = to_z-of_z w64 out f ∙ e ∙ ap (λ v. int_max v (to_z w64 (of_z w64 b))) (to_z-of_z w64 a g) ∙ ap (int_max a) (to_z-of_z w64 b h)

-- the lesser of two numbers, as it is stored
pub stored_min : (out a b : ℤ) → FitsSigned w64 a → FitsSigned w64 b → out ≡ int_min (to_z w64 (of_z w64 a)) (to_z w64 (of_z w64 b)) → out ≡ int_min a b
stored_min out a b g h e = e ∙ ap (λ v. int_min v (to_z w64 (of_z w64 b))) (to_z-of_z w64 a g) ∙ ap (int_min a) (to_z-of_z w64 b h)

-- how many cuts there are
abbrev pub forks : Coverage → ℕ
forks (Even row) = 0
forks (Cut' p at least most left right) = suc (forks left + forks right)

pub lt_true : (x y : ℤ) → x <ℤ y → int_lt x y ≡ true
lt_true x y h = grind (arith, ints)

pub lt_false : (x y : ℤ) → y ≤ℤ x → int_lt x y ≡ false
lt_false x y h = grind (arith, ints)

pub le_true : (x y : ℤ) → x ≤ℤ y → int_le x y ≡ true
le_true x y h = grind (arith, ints)

pub le_false : (x y : ℤ) → y <ℤ x → int_le x y ≡ false
le_false x y h = grind (arith, ints)

pub from_lt_true : (x y : ℤ) → int_lt x y ≡ true → x <ℤ y
from_lt_true x y h = grind (arith, ints)

pub from_lt_false : (x y : ℤ) → int_lt x y ≡ false → y ≤ℤ x
from_lt_false x y h = grind (arith, ints)

-- no column is covered less far than the least says
pub least_bounds : (t : Coverage) (x : ℤ) → least_of t ≤ℤ until t x
least_bounds (Even row) x = omega (arith, ints)
least_bounds (Cut' p at least most left right) x = omega (arith, ints, clamps)

-- no column is covered farther than the most says
pub most_bounds : (t : Coverage) (x : ℤ) → IsTopped t → until t x ≤ℤ most_of t
most_bounds (Even row) x h = omega (arith, ints)
most_bounds (Cut' p at least most left right) x h = elim (cases_Bool (int_lt x at)) [
  | inl t ↦ subst (λ v. v ≤ℤ most) (sym (ap (λ v. int_max least (cond v (until left x) (until right x))) t))
      (let below = most_bounds left x h.3 in omega (arith, ints, clamps, below, h.0, h.1))
  | inr t ↦ subst (λ v. v ≤ℤ most) (sym (ap (λ v. int_max least (cond v (until left x) (until right x))) t))
      (let below = most_bounds right x h.4 in omega (arith, ints, clamps, below, h.0, h.2))
]

-- a cut coverage at a column of its left side, and of its right side
module _ (p : Box (Unit {0}) Global) (at least most : ℤ) (left right : Coverage) (x : ℤ) where
  until_left : x <ℤ at → until (Cut' p at least most left right) x ≡ int_max least (until left x)
  until_left h = ap (λ v. int_max least (cond v (until left x) (until right x))) (lt_true x at h)

  until_right : at ≤ℤ x → until (Cut' p at least most left right) x ≡ int_max least (until right x)
  until_right h = ap (λ v. int_max least (cond v (until left x) (until right x))) (lt_false x at h)

-- a bound that is cut to one side says the same of the columns there
pub before_on_left : (to : Option ℤ) (at x : ℤ) → x <ℤ at → is_before (end_before to at) x ≡ is_before to x
before_on_left None at x h = refl
before_on_left (Some to) at x h = elim (cases_Bool (int_lt to at)) [
  | inl t ↦ ap (λ v. is_before (cond v (Some to) None) x) t
  | inr t ↦ ap (λ v. is_before (cond v (Some to) None) x) t ∙ sym (let far = from_lt_false to at t in lt_true x to (omega (arith, ints, far)))
]

pub from_on_right : (from : Option ℤ) (at x : ℤ) → at ≤ℤ x → is_from (begin_after from at) x ≡ is_from from x
from_on_right None at x h = refl
from_on_right (Some from) at x h = elim (cases_Bool (int_lt at from)) [
  | inl t ↦ ap (λ v. is_from (cond v (Some from) None) x) t
  | inr t ↦ ap (λ v. is_from (cond v (Some from) None) x) t ∙ sym (let far = from_lt_false at from t in le_true from x (omega (arith, ints, far)))
]

pub not_from : (from : Option ℤ) (at x : ℤ) → begins_before from at ≡ false → x <ℤ at → is_from from x ≡ false
not_from None at x e h = cc
not_from (Some from) at x e h = let far = from_lt_false from at e in le_false from x (omega (arith, ints, far))

pub not_before : (to : Option ℤ) (at x : ℤ) → ends_after to at ≡ false → at ≤ℤ x → is_before to x ≡ false
not_before None at x e h = cc
not_before (Some to) at x e h = let far = from_lt_false at to e in lt_false x to (omega (arith, ints, far))

-- a side after the columns between the bounds are covered below the row `top`
pub record SideIsRaised (IsHere : ℤ → Type 0) (from to : Option ℤ) (top : ℤ) (old new : Coverage) : Type 0 where
  pub rows : (x : ℤ) → IsHere x → until new x ≡ raised from to top x (until old x)
  pub cuts : (v : ℤ) → IsCut old v → IsCut new v
  pub topped : IsTopped new

-- a raise that goes on to the right of a cut has raised what is left of it
pub left_raised : (from to : Option ℤ) (top at : ℤ) (old new : Coverage) → IsRaised from (end_before to at) top old new
    → SideIsRaised (λ x. x <ℤ at) from to top old new
left_raised from to top at old new h = record {
  rows = λ x here. h.rows x ∙ ap (λ v. cond (is_from from x && v) (int_max (until old x) top) (until old x)) (before_on_left to at x here);
  cuts = h.cuts;
  topped = h.topped;
}

-- and one that came from the left what is right of it
pub right_raised : (from to : Option ℤ) (top at : ℤ) (old new : Coverage) → IsRaised (begin_after from at) to top old new
    → SideIsRaised (λ x. at ≤ℤ x) from to top old new
right_raised from to top at old new h = record {
  rows = λ x here. h.rows x ∙ ap (λ v. cond (v && is_before to x) (int_max (until old x) top) (until old x)) (from_on_right from at x here);
  cuts = h.cuts;
  topped = h.topped;
}

pub and_false : (b : Bool) → (b && false) ≡ false
and_false true = refl
and_false false = refl

-- a raise from the cut on leaves what is left of it
pub left_stays : (from to : Option ℤ) (top at : ℤ) (old : Coverage) → begins_before from at ≡ false → IsTopped old
    → SideIsRaised (λ x. x <ℤ at) from to top old old
left_stays from to top at old e h = record {
  rows = λ x here. sym (ap (λ v. cond (v && is_before to x) (int_max (until old x) top) (until old x)) (not_from from at x e here));
  cuts = λ v c. c;
  topped = h;
}

-- and one up to the cut what is right of it
pub right_stays : (from to : Option ℤ) (top at : ℤ) (old : Coverage) → ends_after to at ≡ false → IsTopped old → SideIsRaised (λ x. at ≤ℤ x) from to top old old
right_stays from to top at old e h = record {
  rows = λ x here. sym (ap (λ v. cond v (int_max (until old x) top) (until old x))
      (ap (λ v. is_from from x && v) (not_before to at x e here) ∙ and_false (is_from from x)));
  cuts = λ v c. c;
  topped = h;
}

-- the row of a column from that of a side, where the whole is known to be covered below `other` at least
row_raised : (least low other row row' top : ℤ) (b : Bool) → low ≤ℤ row' → row' ≡ cond b (int_max row top) row
    → int_max (int_max least (int_min low other)) row' ≡ cond b (int_max (int_max least row) top) (int_max least row)
row_raised least low other row row' top true h e = omega (arith, ints, clamps, e)
row_raised least low other row row' top false h e = omega (arith, ints, clamps, e)

min_comm : (a b : ℤ) → int_min a b ≡ int_min b a
min_comm a b = omega (arith, ints, clamps)

module _ (from to : Option ℤ) (top : ℤ) (p q : Box (Unit {0}) Global) (at least most most' : ℤ) (left right left' right' : Coverage)
    (l : SideIsRaised (λ x. x <ℤ at) from to top left left') (r : SideIsRaised (λ x. at ≤ℤ x) from to top right right') where
  abbrev least' : ℤ
  least' = int_max least (int_min (least_of left') (least_of right'))

  cut_rows : (x : ℤ) → until (Cut' q at least' most' left' right') x ≡ raised from to top x (until (Cut' p at least most left right) x)
  cut_rows x = by_lt_z x at (λ here. until_left q at least' most' left' right' x here
      ∙ row_raised least (least_of left') (least_of right') (until left x) (until left' x) top (is_from from x && is_before to x) (least_bounds left' x)
      (l.rows x here)
      ∙ sym (ap (raised from to top x) (until_left p at least most left right x here)))
      (λ here. until_right q at least' most' left' right' x here
      ∙ ap (λ v. int_max (int_max least v) (until right' x)) (min_comm (least_of left') (least_of right'))
      ∙ row_raised least (least_of right') (least_of left') (until right x) (until right' x) top (is_from from x && is_before to x)
      (least_bounds right' x) (r.rows x here)
      ∙ sym (ap (raised from to top x) (until_right p at least most left right x here)))

  cut_cuts : (v : ℤ) → IsCut (Cut' p at least most left right) v → IsCut (Cut' q at least' most' left' right') v
  cut_cuts v (inl e) = inl e
  cut_cuts v (inr (inl h)) = inr (inl (h.0, l.cuts v h.1))
  cut_cuts v (inr (inr h)) = inr (inr (h.0, r.cuts v h.1))

-- the two sides were raised, and so is the whole
pub cut_raised : (from to : Option ℤ) (top : ℤ) (p q : Box (Unit {0}) Global) (at at' least most least' most' : ℤ) (left right left' right' : Coverage)
    → SideIsRaised (λ x. x <ℤ at) from to top left left' → SideIsRaised (λ x. at ≤ℤ x) from to top right right'
    → at' ≡ at → least' ≡ int_max least (int_min (least_of left') (least_of right')) → most' ≡ int_max most (int_max (most_of left') (most_of right'))
    → IsTopped (Cut' p at least most left right) → IsRaised from to top (Cut' p at least most left right) (Cut' q at' least' most' left' right')
cut_raised from to top p q at at' least most least' most' left right left' right' l r same_at e f h =
    let low = least_bounds left' at in
    let high = most_bounds left' at l.topped in
    let now = int_max least (int_min (least_of left') (least_of right')) in
    let made : IsRaised from to top (Cut' p at least most left right) (Cut' q at now most' left' right') = record {
      rows = cut_rows from to top p q at least most most' left right left' right' l r;
      cuts = cut_cuts from to top p q at least most most' left right left' right' l r;
      topped = (omega (arith, ints, clamps, low, high, f, h.0), omega (arith, ints, clamps, f), omega (arith, ints, clamps, f), l.topped, r.topped);
    } in
    subst (λ v. IsRaised from to top (Cut' p at least most left right) (Cut' q v least' most' left' right')) (sym same_at)
    (subst (λ v. IsRaised from to top (Cut' p at least most left right) (Cut' q at v most' left' right')) (sym e) made)

-- all columns at once
pub cut_lifted : (top : ℤ) (p q : Box (Unit {0}) Global) (at at' least least' most most' : ℤ) (left left' right right' : Coverage)
    → at' ≡ at → left' ≡ left → right' ≡ right → least' ≡ int_max least top → most' ≡ int_max most top
    → IsTopped (Cut' p at least most left right) → IsRaised None None top (Cut' p at least most left right) (Cut' q at' least' most' left' right')
cut_lifted top p q at at' least least' most most' left left' right right' same_at same_left same_right e f h =
    let made : IsRaised None None top (Cut' p at least most left right) (Cut' q at least' most' left right) = record {
      rows = λ x. omega (arith, ints, clamps, e);
      cuts = λ v c. c;
      topped = (omega (arith, ints, clamps, e, f, h.0), omega (arith, ints, clamps, f, h.1), omega (arith, ints, clamps, f, h.2), h.3, h.4);
    } in
    rw (same_at, same_left, same_right) made

-- what a side must be cut at
pub left_from_cut : (p : Box (Unit {0}) Global) (at least most : ℤ) (left right : Coverage) (from : Option ℤ) → begins_before from at ≡ true
    → IsCutAt (Cut' p at least most left right) from → IsCutAt left from
left_from_cut p at least most left right None e c = tt
left_from_cut p at least most left right (Some from) e (inl same) = let before = from_lt_true from at e in absurd (omega (arith, ints, before, same))
left_from_cut p at least most left right (Some from) e (inr (inl h)) = h.1
left_from_cut p at least most left right (Some from) e (inr (inr h)) = let before = from_lt_true from at e in absurd (omega (arith, ints, before, h.0))

-- an end right of the cut is a cut of the right side
pub right_to_cut : (p : Box (Unit {0}) Global) (at least most : ℤ) (left right : Coverage) (to : Option ℤ) → ends_after to at ≡ true
    → IsCutAt (Cut' p at least most left right) to → IsCutAt right to
right_to_cut p at least most left right None e c = tt
right_to_cut p at least most left right (Some to) e (inl same) = let after = from_lt_true at to e in absurd (omega (arith, ints, after, same))
right_to_cut p at least most left right (Some to) e (inr (inl h)) = let after = from_lt_true at to e in absurd (omega (arith, ints, after, h.0))
right_to_cut p at least most left right (Some to) e (inr (inr h)) = h.1

-- an end left of the cut is a cut of the left side
pub left_to_cut : (p : Box (Unit {0}) Global) (at least most : ℤ) (left right : Coverage) (to : Option ℤ)
    → IsCutAt (Cut' p at least most left right) to → IsCutAt left (end_before to at)
left_to_cut p at least most left right None c = tt
left_to_cut p at least most left right (Some to) c = elim (cases_Bool (int_lt to at)) [
  | inl t ↦ subst (λ v. IsCutAt left (cond v (Some to) None)) (sym t) (left_from_cut p at least most left right (Some to) t c)
  | inr t ↦ subst (λ v. IsCutAt left (cond v (Some to) None)) (sym t) tt
]

-- a beginning right of the cut is a cut of the right side
pub right_from_cut : (p : Box (Unit {0}) Global) (at least most : ℤ) (left right : Coverage) (from : Option ℤ)
    → IsCutAt (Cut' p at least most left right) from → IsCutAt right (begin_after from at)
right_from_cut p at least most left right None c = tt
right_from_cut p at least most left right (Some from) c = elim (cases_Bool (int_lt at from)) [
  | inl t ↦ subst (λ v. IsCutAt right (cond v (Some from) None)) (sym t) (right_to_cut p at least most left right (Some from) t c)
  | inr t ↦ subst (λ v. IsCutAt right (cond v (Some from) None)) (sym t) tt
]

-- what the first of two steps made of a cut coverage: its left side is done
pub record LeftIsDone (from to : Option ℤ) (top at at' least least' most most' : ℤ) (left left' right right' : Coverage) : Type 0 where
  pub same_at : at' ≡ at
  pub same_least : least' ≡ least
  pub same_most : most' ≡ most
  pub same_right : right' ≡ right
  pub done : SideIsRaised (λ x. x <ℤ at) from to top left left'

-- nothing is added, columns of one kind and then of another are, or those of a kind under another name
pub adds_none : (P : ℤ → Type 0) (gaps : List Gap) → ((x : ℤ) → P x → ⊥) → AddsColumns P gaps gaps
adds_none P gaps none = record { kept = λ x h. h; added = λ x h. absurd (none x h); only = λ x h. inl h }

-- columns under another name
pub adds_same : (P Q : ℤ → Type 0) (old new : List Gap) → ((x : ℤ) → P x → Q x) → ((x : ℤ) → Q x → P x) → AddsColumns P old new → AddsColumns Q old new
adds_same P Q old new there back h = record {
  kept = h.kept;
  added = λ x q. h.added x (back x q);
  only = λ x k. elim (h.only x k) [ inl o ↦ inl o | inr p ↦ inr (there x p) ];
}

-- columns added in two parts
pub adds_both : (P Q R : ℤ → Type 0) (old mid new : List Gap) → ((x : ℤ) → R x → P x ⊎ Q x) → ((x : ℤ) → P x → R x) → ((x : ℤ) → Q x → R x)
    → AddsColumns P old mid → AddsColumns Q mid new → AddsColumns R old new
adds_both P Q R old mid new split first second g h = record {
  kept = λ x o. h.kept x (g.kept x o);
  added = λ x r. elim (split x r) [ inl p ↦ h.kept x (g.added x p) | inr q ↦ h.added x q ];
  only = λ x n. elim (h.only x n) [ inl m ↦ elim (g.only x m) [ inl o ↦ inl o | inr p ↦ inr (first x p) ] | inr q ↦ inr (second x q) ];
}

-- a range is added at the end
pub adds_pushed : (gaps : List Gap) (from to : ℤ) → AddsColumns (λ x. (from ≤ℤ x) × (x <ℤ to)) gaps (gaps ++ record { from = from; to = to } ∷ [])
adds_pushed gaps from to = record {
  kept = λ x h. (h.0, (In-append_left h.0 gaps (record { from = from; to = to } ∷ []) h.1.0, h.1.1, h.1.2));
  added = λ x h. (record { from = from; to = to }, (In-push gaps (record { from = from; to = to }), h.0, h.1));
  only = λ x h. elim (In-push_cases h.0 gaps (record { from = from; to = to }) h.1.0) [
    | inl i ↦ inl (h.0, (i, h.1.1, h.1.2))
    | inr e ↦ inr (let same_from : from ≡ h.0.from = ap (λ g. g.from) e in
        let same_to : to ≡ h.0.to = ap (λ g. g.to) e in
        let f = h.1.1 in let g = h.1.2 in (omega (arith, ints, f, same_from), omega (arith, ints, g, same_to)))
  ];
}

-- or goes on where the last one ended
pub adds_joined : (gaps : List Gap) (last : Gap) (begin from to : ℤ) → last.to ≡ from → from <ℤ to → begin ≡ int_min from last.from
    → AddsColumns (λ x. (from ≤ℤ x) × (x <ℤ to)) (gaps ++ last ∷ []) (gaps ++ record { from = begin; to = to } ∷ [])
adds_joined gaps last begin from to touch long first =
    let join : Gap = record { from = begin; to = to } in
    record {
      kept = λ x h. elim (In-push_cases h.0 gaps last h.1.0) [
        | inl i ↦ (h.0, (In-append_left h.0 gaps (join ∷ []) i, h.1.1, h.1.2))
        | inr e ↦ (let same_from : last.from ≡ h.0.from = ap (λ g. g.from) e in
            let same_to : last.to ≡ h.0.to = ap (λ g. g.to) e in
            let f = h.1.1 in let g = h.1.2 in
            (join, (In-push gaps join, omega (arith, ints, clamps, f, same_from, first), omega (arith, ints, g, same_to, touch, long))))
      ];
      added = λ x h. (join, (In-push gaps join, omega (arith, ints, clamps, h.0, first), h.1));
      only = λ x h. elim (In-push_cases h.0 gaps join h.1.0) [
        | inl i ↦ inl (h.0, (In-append_left h.0 gaps (last ∷ []) i, h.1.1, h.1.2))
        | inr e ↦ (let same_from : begin ≡ h.0.from = ap (λ g. g.from) e in
            let same_to : to ≡ h.0.to = ap (λ g. g.to) e in
            let f = h.1.1 in let g = h.1.2 in
            by_lt_z x from
            (λ before. inl (last, (In-push gaps last, omega (arith, ints, clamps, f, same_from, first, before), omega (arith, ints, before, touch))))
            (λ after. inr (after, omega (arith, ints, g, same_to))))
      ];
    }

-- the gaps of a cut coverage are those of its sides
module _ (p : Box (Unit {0}) Global) (at least most : ℤ) (left right : Coverage) (from to row : ℤ) where
  abbrev whole : Coverage
  whole = Cut' p at least most left right

  abbrev OnLeft : ℤ → Type 0
  OnLeft = IsGap left from (int_min to at) row

  abbrev OnRight : ℤ → Type 0
  OnRight = IsGap right (int_max from at) to row

  gap_on_left : least ≤ℤ row → (x : ℤ) → OnLeft x → IsGap whole from to row x
  gap_on_left low x h =
      let first = h.after in let last = h.before in let open_there = h.uncovered in
      let here : x <ℤ at = omega (arith, ints, clamps, last) in
      record {
        after = first;
        before = omega (arith, ints, clamps, last);
        uncovered = subst (λ v. v ≤ℤ row)
            (sym (until_left p at least most left right x here)) (omega (arith, ints, clamps, low, open_there));
      }

  gap_on_right : least ≤ℤ row → (x : ℤ) → OnRight x → IsGap whole from to row x
  gap_on_right low x h =
      let first = h.after in let last = h.before in let open_there = h.uncovered in
      let here : at ≤ℤ x = omega (arith, ints, clamps, first) in
      record {
        after = omega (arith, ints, clamps, first);
        before = last;
        uncovered = subst (λ v. v ≤ℤ row)
            (sym (until_right p at least most left right x here)) (omega (arith, ints, clamps, low, open_there));
      }

  gap_on_side : (x : ℤ) → IsGap whole from to row x → OnLeft x ⊎ OnRight x
  gap_on_side x h =
      let first = h.after in let last = h.before in
      by_lt_z x at (λ here. inl (let open_there = subst (λ v. v ≤ℤ row) (until_left p at least most left right x here) h.uncovered in
      record { after = first; before = omega (arith, ints, clamps, last, here); uncovered = omega (arith, ints, clamps, open_there) }))
      (λ here. inr (let open_there = subst (λ v. v ≤ℤ row) (until_right p at least most left right x here) h.uncovered in
      record { after = omega (arith, ints, clamps, first, here); before = last; uncovered = omega (arith, ints, clamps, open_there) }))

  pub cut_gaps : (old mid new : List Gap) → least ≤ℤ row → AddsColumns OnLeft old mid → AddsColumns OnRight mid new
      → AddsColumns (IsGap whole from to row) old new
  cut_gaps old mid new low g h = adds_both OnLeft OnRight (IsGap whole from to row) old mid new gap_on_side (gap_on_left low) (gap_on_right low) g h

-- where no column is covered past the row, each is a gap
pub all_gap : (coverage : Coverage) (from to row : ℤ) (old new : List Gap) → IsTopped coverage → most_of coverage ≤ℤ row
    → AddsColumns (λ x. (from ≤ℤ x) × (x <ℤ to)) old new → AddsColumns (IsGap coverage from to row) old new
all_gap coverage from to row old new topped high h = adds_same (λ x. (from ≤ℤ x) × (x <ℤ to)) (IsGap coverage from to row) old new
    (λ x u. let top = most_bounds coverage x topped in record { after = u.0; before = u.1; uncovered = omega (arith, ints, top, high) })
    (λ x u. (u.after, u.before)) h

-- a fact that an answer implies
pub on_ok : {T E P Q : Type 0} (r : Result T E) → (P → Q) → OnOk r P → OnOk r Q
on_ok (Ok x) f h = f h
on_ok (Err e) f h = h

-- each side in order is a cut, if those before the middle one are cuts on the left and those after it on the right
pub cuts_from_sides : (left right : Coverage) (sides : List ℤ) (middle : ℕ) (at : ℤ) → AllPairs ◌≤ℤ◌ sides → middle < length sides
    → ((d : ℤ) → get_or sides middle d ≡ at)
    → ((v : ℤ) → In v (take middle sides) → IsCut left v) → ((v : ℤ) → In v (take (length sides - (middle + 1)) (drop (middle + 1) sides)) → IsCut right v)
    → (v : ℤ) → In v sides → (v ≡ at) ⊎ (((v <ℤ at) × IsCut left v) ⊎ ((at <ℤ v) × IsCut right v))
cuts_from_sides left right sides middle at ordered inside is on_left on_right v i =
    let found = In-index v sides i in
    let k = found.0 in
    let below : k < length sides = found.1.0 in
    let here : get_or sides k v ≡ v = found.1.1 v in
    by_lt_z v at (λ before. inr (inl (
      before,
      on_left v (elim (nat_cases k middle) [
        | inl less ↦ subst (λ w. In w (take middle sides)) (get_or-take middle sides k v less ∙ here)
            (In-get_or (take middle sides) k v (omega (arith, length-take middle sides, less, below)))
        | inr (inl same) ↦ absurd (let e : at ≡ v = sym (is v) ∙ ap (λ j. get_or sides j v) (sym same) ∙ here in omega (arith, ints, e))
        | inr (inr more) ↦ absurd (let e = ordered middle k v more below in let f = is v in omega (arith, ints, e, f, here, before))
      ]),
    )))
    (λ not_before. by_lt_z at v
    (λ after. inr (inr (
      after,
      on_right v (elim (nat_cases k middle) [
        | inl less ↦ absurd (let e = ordered k middle v less inside in let f = is v in omega (arith, ints, e, f, here, after))
        | inr (inl same) ↦ absurd (let e : at ≡ v = sym (is v) ∙ ap (λ j. get_or sides j v) (sym same) ∙ here in omega (arith, ints, e))
        | inr (inr more) ↦ (
            let rest = drop (middle + 1) sides in
            let place : get_or rest (k - (middle + 1)) v ≡ v = get_or-drop (middle + 1) sides (k - (middle + 1)) v ∙ ap (λ j. get_or sides j v)
            (let j : middle + 1 + (k - (middle + 1)) ≡ k = omega (arith, more) in j) ∙ here in
            let whole : take (length sides - (middle + 1)) rest ≡ rest = ap (λ n. take n rest) (sym (length-drop (middle + 1) sides)) ∙ take-length rest in
            subst (λ w. In v w) (sym whole) (subst (λ w. In w rest) place (In-get_or rest (k - (middle + 1)) v
            (omega (arith, length-drop (middle + 1) sides, more, below)))))
      ]),
    )))
    (λ not_after. inl (omega (arith, ints))))
  where
    nat_cases : (a b : ℕ) → (a < b) ⊎ ((a ≡ b) ⊎ (b < a))
    nat_cases a b = grind arith
