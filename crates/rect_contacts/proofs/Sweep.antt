-- The sweep over two lists of sides: what has been found when so much of each list is left.
use Rattle.rect_contacts.proofs.Common.{◌≡◌, ◌≢◌, ℕ, suc, ◌+◌, ◌<◌, min, max, ℤ, pos, ◌≤ℤ◌, ◌<ℤ◌, List, [], ◌∷◌, ◌⊎◌, length, get_or, drop, inl, inr}
use Rattle.rect_contacts.proofs.Common.{refl, sym, ◌∙◌, ap, subst, arith, AllPairs, ints, by_lt_z, cases_lt, In, Distinct, In-append_left, In-push}
use Rattle.rect_contacts.proofs.Common.{In-push_cases, In-index, In-get_or, Contact, Side, AreOpposite, Meet, contact_of, IsMeeting}
use Rattle.std.proofs.Common.{length-drop, add-one}
use Rattle.std.proofs.Math.Seq.{drop-cons}
use Rattle.std.proofs.lemmas.List.{get_or-drop}
use Rattle.geo_core.proofs.FiniteSets.Distincts.{Distinct-push}
use Rattle.rect_contacts.specs.Contacts.{overlap}
use Rattle.rect_contacts.specs.steps.Sides.{EndsBefore, ReachesNoFarther, AddsContact}
use Rattle.rect_contacts.proofs.Intervals.{overlap-before, overlap-comm}

-- The contacts are those of sides of the two lists that meet, each once, but for sides that are both among what is left of their lists.
pub record Swept (lowers uppers lowers_left uppers_left : List Side) (contacts : List Contact) : Type 0 where
  pub distinct : Distinct contacts
  pub known : (contact : Contact) → In contact contacts → IsMeeting lowers uppers contact
  pub found : (a b : Side) → In a lowers → In b uppers → Meet a b → In (contact_of a b) contacts ⊎ (In a lowers_left × In b uppers_left)
  pub fresh : (a b : Side) → In a lowers_left → In b uppers_left → Meet a b → In (contact_of a b) contacts → ⊥

-- the side stands in the list, and before each of the rest
pub record Front (sides : List Side) (side : Side) (rest : List Side) : Type 0 where
  pub here : In side sides
  pub in_list : (a : Side) → In a rest → In a sides
  pub first : (a : Side) → In a rest → EndsBefore side a

-- two numbers with one minimum and one maximum
same_two : (a b c d : ℕ) → min a b ≡ min c d → max a b ≡ max c d → ((a ≡ c) × (b ≡ d)) ⊎ ((a ≡ d) × (b ≡ c))
same_two a b c d low high =
    elim (cases_lt a b) [
      | inl p ↦ elim (cases_lt c d) [ inl q ↦ inl (omega arith, omega arith) | inr q ↦ inr (omega arith, omega arith) ]
      | inr p ↦ elim (cases_lt c d) [ inl q ↦ inr (omega arith, omega arith) | inr q ↦ inl (omega arith, omega arith) ]
    ]

Meet-sym : (a b : Side) → Meet a b → Meet b a
Meet-sym a b m = record {
  one_line = sym m.one_line;
  common = subst (λ (z : ℤ). pos 0 <ℤ z) (overlap-comm a.from a.to b.from b.to) m.common;
}

-- a side meets none that stands after one that it reaches no farther than
no_meet_after : (a b c : Side) → ReachesNoFarther a b → EndsBefore b c → Meet a c → ⊥
no_meet_after a b c r s m =
    let apart = overlap-before a.from a.to c.from c.to in
    let line : a.line ≡ c.line = m.one_line in
    let common : pos 0 <ℤ overlap a.from a.to c.from c.to = m.common in
    elim r [
      | inl l ↦ elim s.before [ inl k ↦ omega (arith, ints) | inr k ↦ let e : b.line ≡ c.line = k.0 in omega (arith, ints) ]
      | inr l ↦ let e : a.line ≡ b.line = l.0 in let t : a.to ≤ℤ b.to = l.1 in elim s.before [
        | inl k ↦ omega (arith, ints)
        | inr k ↦ let f : b.to ≤ℤ c.from = k.1 in let z : overlap a.from a.to c.from c.to ≡ pos 0 = apart (omega (arith, ints)) in omega (arith, ints)
      ]
    ]

-- of sides of opposite lists, two that meet don't have the owners of two others that meet, exchanged
not_crossed : (lowers uppers : List Side) → AreOpposite lowers uppers → (a b x y : Side) → In a lowers → In b uppers → In x lowers → In y uppers
    → Meet a b → Meet x y → a.owner ≡ y.owner → b.owner ≡ x.owner → ⊥
not_crossed lowers uppers opposite a b x y ina inb inx iny m n e f =
    let p : y.line <ℤ a.line = opposite a y ina iny e in
    let q : b.line <ℤ x.line = opposite x b inx inb (sym f) in
    let s : a.line ≡ b.line = m.one_line in
    let t : x.line ≡ y.line = n.one_line in
    omega (arith, ints)

-- contacts of different owners are different
other_lower : (lowers uppers : List Side) → AreOpposite lowers uppers → (a b x y : Side) → In a lowers → In b uppers → In x lowers → In y uppers
    → Meet a b → Meet x y → a.owner ≢ x.owner → contact_of x y ≡ contact_of a b → ⊥
other_lower lowers uppers opposite a b x y ina inb inx iny m n differ e =
    elim (same_two a.owner b.owner x.owner y.owner (sym (ap (λ (c : Contact). c.first) e)) (sym (ap (λ (c : Contact). c.second) e))) [
      | inl k ↦ differ k.0
      | inr k ↦ not_crossed lowers uppers opposite a b x y ina inb inx iny m n k.0 k.1
    ]

other_upper : (lowers uppers : List Side) → AreOpposite lowers uppers → (a b x y : Side) → In a lowers → In b uppers → In x lowers → In y uppers
    → Meet a b → Meet x y → b.owner ≢ y.owner → contact_of x y ≡ contact_of a b → ⊥
other_upper lowers uppers opposite a b x y ina inb inx iny m n differ e =
    elim (same_two a.owner b.owner x.owner y.owner (sym (ap (λ (c : Contact). c.first) e)) (sym (ap (λ (c : Contact). c.second) e))) [
      | inl k ↦ differ k.1
      | inr k ↦ not_crossed lowers uppers opposite a b x y ina inb inx iny m n k.0 k.1
    ]

-- The lists' first sides' contact, if any, has been added.
pub noted : (lowers uppers : List Side) (x y : Side) (xs ys : List Side) (before after : List Contact)
    → Front lowers x xs → Front uppers y ys → AddsContact x y before after → Swept lowers uppers (x ∷ xs) (y ∷ ys) before
    → Distinct after × ((contact : Contact) → In contact after → IsMeeting lowers uppers contact)
noted lowers uppers x y xs ys before after f g (inl added) s = (
  subst Distinct (sym added.1) (Distinct-push before (contact_of x y) s.distinct (s.fresh x y (inl refl) (inl refl) added.0)),
  (λ contact i. elim (In-push_cases contact before (contact_of x y) (subst (In contact) added.1 i)) [
    | inl k ↦ s.known contact k
    | inr e ↦ record { lower = x; upper = y; in_lowers = f.here; in_uppers = g.here; meet = added.0; is = sym e }
  ]),
)
noted lowers uppers x y xs ys before after f g (inr same) s =
    (subst Distinct (sym same.1) s.distinct, (λ contact i. s.known contact (subst (In contact) same.1 i)))

-- what was added is the contact of the first two or was there before
added_cases : (x y : Side) (before after : List Contact) → AddsContact x y before after → (c : Contact) → In c after
    → In c before ⊎ (Meet x y × (contact_of x y ≡ c))
added_cases x y before after (inl added) c i = elim (In-push_cases c before (contact_of x y) (subst (In c) added.1 i))
    [ inl k ↦ inl k | inr e ↦ inr (added.0, e) ]
added_cases x y before after (inr same) c i = inl (subst (In c) same.1 i)

stays : (x y : Side) (before after : List Contact) → AddsContact x y before after → (c : Contact) → In c before → In c after
stays x y before after (inl added) c i = subst (In c) (sym added.1) (In-append_left c before (contact_of x y ∷ []) i)
stays x y before after (inr same) c i = subst (In c) (sym same.1) i

has_met : (x y : Side) (before after : List Contact) → AddsContact x y before after → Meet x y → In (contact_of x y) after
has_met x y before after (inl added) m = subst (In (contact_of x y)) (sym added.1) (In-push before (contact_of x y))
has_met x y before after (inr same) m = absurd (same.0 m)

module _ (lowers uppers : List Side) (opposite : AreOpposite lowers uppers) (x y : Side) (xs ys : List Side) (before after : List Contact)
    (f : Front lowers x xs) (g : Front uppers y ys) (a : AddsContact x y before after) (s : Swept lowers uppers (x ∷ xs) (y ∷ ys) before) where
  -- the first lower side is done with, where it reaches no farther than the first upper side
  pub swept_lower : ReachesNoFarther x y → Swept lowers uppers xs (y ∷ ys) after
  swept_lower r = record {
    distinct = (noted lowers uppers x y xs ys before after f g a s).0;
    known = (noted lowers uppers x y xs ys before after f g a s).1;
    found = λ p q inp inq m. elim (s.found p q inp inq m) [
      | inl k ↦ inl (stays x y before after a (contact_of p q) k)
      | inr k ↦ elim k.0 [
        | inr i ↦ inr (i, k.1)
        | inl e ↦ elim k.1 [
          | inl d ↦ inl (subst (λ (u : Side). In (contact_of u q) after) e (subst (λ (u : Side). In (contact_of x u) after) d
              (has_met x y before after a (subst (λ (u : Side). Meet x u) (sym d) (subst (λ (u : Side). Meet u q) (sym e) m)))))
          | inr j ↦ absurd (no_meet_after x y q r (g.first q j) (subst (λ (u : Side). Meet u q) (sym e) m))
        ]
      ]
    ];
    fresh = λ p q inp inq m i. elim (added_cases x y before after a (contact_of p q) i) [
      | inl k ↦ s.fresh p q (inr inp) inq m k
      | inr k ↦ other_lower lowers uppers opposite p q x y (f.in_list p inp)
          (elim inq [ inl d ↦ subst (λ (u : Side). In u uppers) d g.here | inr j ↦ g.in_list q j ]) f.here g.here m k.0
          (λ e. (f.first p inp).of_two (sym e)) k.1
    ];
  }

  -- and so is the first upper side, where it reaches no farther than the first lower side
  pub swept_upper : ReachesNoFarther y x → Swept lowers uppers (x ∷ xs) ys after
  swept_upper r = record {
    distinct = (noted lowers uppers x y xs ys before after f g a s).0;
    known = (noted lowers uppers x y xs ys before after f g a s).1;
    found = λ p q inp inq m. elim (s.found p q inp inq m) [
      | inl k ↦ inl (stays x y before after a (contact_of p q) k)
      | inr k ↦ elim k.1 [
        | inr i ↦ inr (k.0, i)
        | inl e ↦ elim k.0 [
          | inl d ↦ inl (subst (λ (u : Side). In (contact_of u q) after) d (subst (λ (u : Side). In (contact_of x u) after) e
              (has_met x y before after a (subst (λ (u : Side). Meet x u) (sym e) (subst (λ (u : Side). Meet u q) (sym d) m)))))
          | inr j ↦ absurd (no_meet_after y x p r (f.first p j) (Meet-sym p y (subst (λ (u : Side). Meet p u) (sym e) m)))
        ]
      ]
    ];
    fresh = λ p q inp inq m i. elim (added_cases x y before after a (contact_of p q) i) [
      | inl k ↦ s.fresh p q inp (inr inq) m k
      | inr k ↦ other_upper lowers uppers opposite p q x y
          (elim inp [ inl d ↦ subst (λ (u : Side). In u lowers) d f.here | inr j ↦ f.in_list p j ]) (g.in_list q inq) f.here g.here m k.0
          (λ e. (g.first q inq).of_two (sym e)) k.1
    ];
  }

-- what stands after an index stands at a greater one
after_index : (sides : List Side) (k : ℕ) (d a : Side) → In a (drop (suc k) sides) → (j : ℕ) × (k < j) × (j < length sides) × (get_or sides j d ≡ a)
after_index sides k d a i =
    let r = In-index a (drop (suc k) sides) i in
    let m : r.0 < length (drop (suc k) sides) = r.1.0 in
    (suc k + r.0, omega arith, omega (arith, m, length-drop (suc k) sides), sym (get_or-drop (suc k) sides r.0 d) ∙ r.1.1 d)

-- the side at an index, and those after it
pub front_at : (sides : List Side) (k : ℕ) (d : Side) → AllPairs EndsBefore sides → k < length sides → Front sides (get_or sides k d) (drop (suc k) sides)
front_at sides k d order h = record {
  here = In-get_or sides k d h;
  in_list = λ a i. let r = after_index sides k d a i in subst (λ (u : Side). In u sides) r.3 (In-get_or sides r.0 d r.2);
  first = λ a i. let r = after_index sides k d a i in subst (λ (u : Side). EndsBefore (get_or sides k d) u) r.3 (order k r.0 d r.1 r.2);
}

-- of two sides one reaches no farther than the other
pub reaches_back : (a b : Side) → (ReachesNoFarther a b → ⊥) → ReachesNoFarther b a
reaches_back a b n =
    by_lt_z b.line a.line (λ l. inl l)
    (λ le. by_lt_z a.line b.line (λ l. absurd (n (inl l)))
    (λ ge. let same : a.line ≡ b.line = omega (arith, ints) in
    inr (sym same, by_lt_z a.to b.to (λ l. absurd (n (inr (same, omega (arith, ints))))) (λ h. h))))

module _ (lowers uppers : List Side) (opposite : AreOpposite lowers uppers) (lower_order : AllPairs EndsBefore lowers)
    (upper_order : AllPairs EndsBefore uppers)
    (below above : ℕ) (d : Side) (before after : List Contact) (p : below < length lowers) (q : above < length uppers)
    (a : AddsContact (get_or lowers below d) (get_or uppers above d) before after)
    (s : Swept lowers uppers (drop below lowers) (drop above uppers) before) where
  both_fronts : Swept lowers uppers (get_or lowers below d ∷ drop (suc below) lowers) (get_or uppers above d ∷ drop (suc above) uppers) before
  both_fronts =
      subst (λ (xs : List Side). Swept lowers uppers xs (get_or uppers above d ∷ drop (suc above) uppers) before) (drop-cons lowers below d p)
      (subst (λ (ys : List Side). Swept lowers uppers (drop below lowers) ys before) (drop-cons uppers above d q) s)

  -- an iteration that goes on in the lower list
  pub lower_turn : ReachesNoFarther (get_or lowers below d) (get_or uppers above d) → Swept lowers uppers (drop (below + 1) lowers) (drop above uppers) after
  lower_turn r =
      rw (add-one below) (subst (λ (ys : List Side). Swept lowers uppers (drop (suc below) lowers) ys after) (sym (drop-cons uppers above d q))
      (swept_lower lowers uppers opposite (get_or lowers below d) (get_or uppers above d) (drop (suc below) lowers) (drop (suc above) uppers) before after
      (front_at lowers below d lower_order p) (front_at uppers above d upper_order q) a both_fronts r))

  -- and one that goes on in the upper list
  pub upper_turn : (ReachesNoFarther (get_or lowers below d) (get_or uppers above d) → ⊥)
      → Swept lowers uppers (drop below lowers) (drop (above + 1) uppers) after
  upper_turn n =
      rw (add-one above) (subst (λ (xs : List Side). Swept lowers uppers xs (drop (suc above) uppers) after) (sym (drop-cons lowers below d p))
      (swept_upper lowers uppers opposite (get_or lowers below d) (get_or uppers above d) (drop (suc below) lowers) (drop (suc above) uppers) before after
      (front_at lowers below d lower_order p) (front_at uppers above d upper_order q) a both_fronts
      (reaches_back (get_or lowers below d) (get_or uppers above d) n)))
