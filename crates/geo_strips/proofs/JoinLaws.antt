-- Joined bars have the points of the bars they were joined from, and lie apart.
use Rattle.geo_strips.proofs.Common.{◌≡◌, ◌⊎◌, inl, inr, ℤ, ◌≤ℤ◌, ◌<ℤ◌, true, false, cond, List, [], ◌∷◌, refl, sym, ◌∙◌, ap, subst, arith}
use Rattle.geo_strips.proofs.Common.{cases_Bool, ints, clamps, by_lt_z, In, Pairwise, Bar, joined_from, joined}
use Rattle.geo_core.specs.FiniteSets.Order.{Lexicographic}
use Rattle.geo_core.proofs.FiniteSets.Orders.{Lexicographic-trans, at_most-trans}
use Rattle.geo_strips.specs.Bars.{meets, reaching}

-- the bar has the point z of the lines from low to high
pub record HasPoint (bar : Bar) (low high z : ℤ) : Type 0 where
  pub low_is : bar.low ≡ low
  pub high_is : bar.high ≡ high
  pub from_no_later : bar.from ≤ℤ z
  pub to_later : z <ℤ bar.to

-- some bar of the list has it
pub record HavePoint (bars : List Bar) (low high z : ℤ) : Type 0 where
  pub bar : Bar
  pub in_list : In bar bars
  pub has : HasPoint bar low high z

-- the first bar begins no later than the second on its lines, or lies on lines before
abbrev pub NoLater : Bar → Bar → Type 0
NoLater a b = Lexicographic a.low b.low (Lexicographic a.high b.high (a.from ≤ℤ b.from))

-- bars on the same lines do not touch
abbrev pub LieApart : Bar → Bar → Type 0
LieApart a b = a.low ≡ b.low → a.high ≡ b.high → (a.to <ℤ b.from) ⊎ (b.to <ℤ a.from)

-- the bar has a point
abbrev pub IsLong : Bar → Type 0
IsLong bar = bar.from <ℤ bar.to

-- each bar of the list has one
abbrev pub AreLong : List Bar → Type 0
AreLong bars = (bar : Bar) → In bar bars → IsLong bar

NoLater-refl : (a : Bar) → NoLater a a
NoLater-refl a = inr (refl, inr (refl, omega (arith, ints)))

NoLater-trans : (a b c : Bar) → NoLater a b → NoLater b c → NoLater a c
NoLater-trans a b c =
    Lexicographic-trans a.low b.low c.low (Lexicographic-trans a.high b.high c.high (at_most-trans a.from b.from c.from))

-- what `meets` says
record Meet (a b : Bar) : Type 0 where
  low : a.low ≡ b.low
  high : a.high ≡ b.high
  from : b.from ≤ℤ a.to

meet_true : (a b : Bar) → meets a b ≡ true → Meet a b
meet_true a b t = record { low = grind (arith, ints); high = grind (arith, ints); from = grind (arith, ints) }

meet_false : (a b : Bar) → meets a b ≡ false → a.low ≡ b.low → a.high ≡ b.high → a.to <ℤ b.from
meet_false a b t e f = grind (arith, ints)

step_meets : (a b : Bar) (rest : List Bar) → meets a b ≡ true → joined_from a (b ∷ rest) ≡ joined_from (reaching a b) rest
step_meets a b rest t = ap (λ v. cond v (joined_from (reaching a b) rest) (a ∷ joined_from b rest)) t

step_ends : (a b : Bar) (rest : List Bar) → meets a b ≡ false → joined_from a (b ∷ rest) ≡ a ∷ joined_from b rest
step_ends a b rest t = ap (λ v. cond v (joined_from (reaching a b) rest) (a ∷ joined_from b rest)) t

in_order_reaching : (a b : Bar) (rest : List Bar) → Pairwise NoLater (a ∷ b ∷ rest) → Pairwise NoLater (reaching a b ∷ rest)
in_order_reaching a b rest h = ((λ c i. h.0 c (inr i)), h.1.1)

joined_no_later : (a : Bar) (rest : List Bar) → Pairwise NoLater (a ∷ rest) → (c : Bar) → In c (joined_from a rest) → NoLater a c
joined_no_later a [] h c (inl e) = subst (NoLater a) e (NoLater-refl a)
joined_no_later a [] h c (inr n) = absurd n
joined_no_later a (b ∷ rest) h c i = elim (cases_Bool (meets a b)) [
  | inl t ↦ joined_no_later (reaching a b) rest (in_order_reaching a b rest h) c (subst (In c) (step_meets a b rest t) i)
  | inr t ↦ elim (subst (In c) (step_ends a b rest t) i) [
    | inl e ↦ subst (NoLater a) e (NoLater-refl a)
    | inr k ↦ NoLater-trans a b c (h.0 b (inl refl)) (joined_no_later b rest h.1 c k)
  ]
]

-- bars that lie in order on the same lines
same_lines : (a b c : Bar) → NoLater a b → NoLater b c → a.low ≡ c.low → a.high ≡ c.high → (a.low ≡ b.low) × ((a.high ≡ b.high) × (b.from ≤ℤ c.from))
same_lines a b c (inl p) (inl q) e f = absurd (omega (arith, ints, p, q, e))
same_lines a b c (inl p) (inr q) e f = absurd (omega (arith, ints, p, q.0, e))
same_lines a b c (inr p) (inl q) e f = absurd (omega (arith, ints, p.0, q, e))
same_lines a b c (inr (g, inl p)) (inr (h, inl q)) e f = absurd (omega (arith, ints, p, q, f))
same_lines a b c (inr (g, inl p)) (inr (h, inr q)) e f = absurd (omega (arith, ints, p, q.0, f))
same_lines a b c (inr (g, inr p)) (inr (h, inl q)) e f = absurd (omega (arith, ints, p.0, q, f))
same_lines a b c (inr (g, inr p)) (inr (h, inr q)) e f = (g, (p.0, q.1))

-- joined bars lie apart
pub joined_apart : (a : Bar) (rest : List Bar) → Pairwise NoLater (a ∷ rest) → Pairwise LieApart (joined_from a rest)
joined_apart a [] h = ((λ y n. absurd n), tt)
joined_apart a (b ∷ rest) h = elim (cases_Bool (meets a b)) [
  | inl t ↦ subst (Pairwise LieApart) (sym (step_meets a b rest t)) (joined_apart (reaching a b) rest (in_order_reaching a b rest h))
  | inr t ↦ subst (Pairwise LieApart) (sym (step_ends a b rest t)) (
    (λ c i e f.
        let later = joined_no_later b rest h.1 c i in
        let s = same_lines a b c (h.0 b (inl refl)) later e f in
        let ends = meet_false a b t s.0 s.1.0 in
        let begins = s.1.1 in
        inl (omega (arith, ints, ends, begins))),
    joined_apart b rest h.1,
  )
]

-- joined bars have points
pub joined_long : (a : Bar) (rest : List Bar) → AreLong (a ∷ rest) → AreLong (joined_from a rest)
joined_long a [] h = h
joined_long a (b ∷ rest) h = elim (cases_Bool (meets a b)) [
  | inl t ↦ subst AreLong (sym (step_meets a b rest t)) (joined_long (reaching a b) rest (λ c i. elim i [
    | inl e ↦ subst IsLong e (let l : a.from <ℤ a.to = h a (inl refl) in omega (arith, ints, clamps))
    | inr k ↦ h c (inr (inr k))
  ]))
  | inr t ↦ subst AreLong (sym (step_ends a b rest t)) (λ c i. elim i [
    | inl e ↦ h c (inl e)
    | inr k ↦ joined_long b rest (λ d j. h d (inr j)) c k
  ])
]

begins_no_later : (a b : Bar) → a.low ≡ b.low → a.high ≡ b.high → NoLater a b → a.from ≤ℤ b.from
begins_no_later a b e f (inl p) = absurd (omega (arith, ints, p, e))
begins_no_later a b e f (inr (g, inl p)) = absurd (omega (arith, ints, p, f))
begins_no_later a b e f (inr (g, inr p)) = p.1

-- a joined bar has the points of the two, and no others
points_reaching : (a b : Bar) (low high z : ℤ) → Meet a b → NoLater a b → HasPoint a low high z ⊎ HasPoint b low high z → HasPoint (reaching a b) low high z
points_reaching a b low high z m h (inl p) =
    record {
      low_is = p.low_is;
      high_is = p.high_is;
      from_no_later = p.from_no_later;
      to_later = (let l : z <ℤ a.to = p.to_later in omega (arith, ints, clamps));
    }
points_reaching a b low high z m h (inr p) =
    let begins : a.from ≤ℤ b.from = begins_no_later a b m.low m.high h in
    record {
      low_is = m.low ∙ p.low_is;
      high_is = m.high ∙ p.high_is;
      from_no_later = (let l : b.from ≤ℤ z = p.from_no_later in omega (arith, ints));
      to_later = (let l : z <ℤ b.to = p.to_later in omega (arith, ints, clamps));
    }

points_of_two : (a b : Bar) (low high z : ℤ) → Meet a b → HasPoint (reaching a b) low high z → HasPoint a low high z ⊎ HasPoint b low high z
points_of_two a b low high z m p =
    let from : a.from ≤ℤ z = p.from_no_later in
    let to : z <ℤ (reaching a b).to = p.to_later in
    let begins : b.from ≤ℤ a.to = m.from in
    by_lt_z z a.to
    (λ inside. inl (record { low_is = p.low_is; high_is = p.high_is; from_no_later = from; to_later = inside }))
    (λ past. inr (record {
      low_is = sym m.low ∙ p.low_is;
      high_is = sym m.high ∙ p.high_is;
      from_no_later = omega (arith, ints);
      to_later = omega (arith, ints, clamps);
    }))

gathered : (a b : Bar) (rest : List Bar) (low high z : ℤ) → Meet a b → NoLater a b → HavePoint (a ∷ b ∷ rest) low high z
    → HavePoint (reaching a b ∷ rest) low high z
gathered a b rest low high z m h p = elim p.in_list [
  | inl e ↦ record { bar = reaching a b; in_list = inl refl; has = points_reaching a b low high z m h (inl (subst (λ c. HasPoint c low high z) (sym e) p.has)) }
  | inr (inl e) ↦ record {
    bar = reaching a b;
    in_list = inl refl;
    has = points_reaching a b low high z m h
        (inr (subst (λ c. HasPoint c low high z) (sym e) p.has));
  }
  | inr (inr i) ↦ record { bar = p.bar; in_list = inr i; has = p.has }
]

-- no point is lost by joining
pub joined_keeps : (a : Bar) (rest : List Bar) → Pairwise NoLater (a ∷ rest) → (low high z : ℤ) → HavePoint (a ∷ rest) low high z
    → HavePoint (joined_from a rest) low high z
joined_keeps a [] h low high z p = p
joined_keeps a (b ∷ rest) h low high z p = elim (cases_Bool (meets a b)) [
  | inl t ↦ subst (λ bars. HavePoint bars low high z) (sym (step_meets a b rest t))
      (joined_keeps (reaching a b) rest (in_order_reaching a b rest h) low high z (gathered a b rest low high z (meet_true a b t) (h.0 b (inl refl)) p))
  | inr t ↦ subst (λ bars. HavePoint bars low high z) (sym (step_ends a b rest t)) (elim p.in_list [
    | inl e ↦ record { bar = p.bar; in_list = inl e; has = p.has }
    | inr i ↦ (let q = joined_keeps b rest h.1 low high z (record { bar = p.bar; in_list = i; has = p.has }) in
        record { bar = q.bar; in_list = inr q.in_list; has = q.has })
  ])
]

scattered : (a b : Bar) (rest : List Bar) (low high z : ℤ) → Meet a b → HavePoint (reaching a b ∷ rest) low high z → HavePoint (a ∷ b ∷ rest) low high z
scattered a b rest low high z m p = elim p.in_list [
  | inl e ↦ elim (points_of_two a b low high z m (subst (λ c. HasPoint c low high z) (sym e) p.has)) [
    | inl q ↦ record { bar = a; in_list = inl refl; has = q }
    | inr q ↦ record { bar = b; in_list = inr (inl refl); has = q }
  ]
  | inr i ↦ record { bar = p.bar; in_list = inr (inr i); has = p.has }
]

-- and none is added
pub joined_adds_none : (a : Bar) (rest : List Bar) (low high z : ℤ) → HavePoint (joined_from a rest) low high z → HavePoint (a ∷ rest) low high z
joined_adds_none a [] low high z p = p
joined_adds_none a (b ∷ rest) low high z p = elim (cases_Bool (meets a b)) [
  | inl t ↦ scattered a b rest low high z (meet_true a b t) (joined_adds_none (reaching a b) rest low high z
      (subst (λ bars. HavePoint bars low high z) (step_meets a b rest t) p))
  | inr t ↦ (let q = subst (λ bars. HavePoint bars low high z) (step_ends a b rest t) p in elim q.in_list [
    | inl e ↦ record { bar = q.bar; in_list = inl e; has = q.has }
    | inr i ↦ (let r = joined_adds_none b rest low high z (record { bar = q.bar; in_list = i; has = q.has }) in
        record { bar = r.bar; in_list = inr r.in_list; has = r.has })
  ])
]

-- bars that were joined from bars in order
pub record AreJoined (bars found : List Bar) : Type 0 where
  pub long : AreLong found
  pub keeps : (low high z : ℤ) → HavePoint bars low high z → HavePoint found low high z
  pub adds_none : (low high z : ℤ) → HavePoint found low high z → HavePoint bars low high z
  pub apart : Pairwise LieApart found

-- bars in order, joined
pub joined-are : (bars : List Bar) → Pairwise NoLater bars → AreLong bars → AreJoined bars (joined bars)
joined-are [] h l = record { long = l; keeps = λ low high z p. p; adds_none = λ low high z p. p; apart = tt }
joined-are (a ∷ rest) h l = record {
  long = joined_long a rest l;
  keeps = joined_keeps a rest h;
  adds_none = joined_adds_none a rest;
  apart = joined_apart a rest h;
}
