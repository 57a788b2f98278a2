-- Where a side of one rectangle meets the opposite side of another, their owners touch: from meetings of sides to contacts.
use Rattle.rect_contacts.proofs.Common.{◌≡◌, ◌≢◌, ℕ, ◌<◌, min, max, ℤ, pos, ◌+ℤ◌, ◌≤ℤ◌, ◌<ℤ◌, List, ◌++◌, ◌⊎◌, length, inl, inr, sym, ◌∙◌, ap, subst}
use Rattle.rect_contacts.proofs.Common.{arith, All, cases_lt, ints, by_lt_z, Rect, IsProper, Lists, Lists-append, Lists-iff, Contact, Edge, Left}
use Rattle.rect_contacts.proofs.Common.{Right, Bottom, Top, Side, rect_at, shared_length, IsSharedEdge, side_of, AreSidesOf, AreOpposite, Meet}
use Rattle.rect_contacts.proofs.Common.{IsMeeting}
use Rattle.rect_contacts.specs.Contacts.{overlap, shared_beside, shared_upon, shared_stacked, shared_abreast, IsSharedEdgeBy}
use Rattle.rect_contacts.proofs.Intervals.{overlap-not_negative}
use Rattle.rect_contacts.proofs.Shared.{shared_beside-cases, shared_upon-cases, shared_upon-not_negative, upon_not_beside, upon_not_beside_back}
use Rattle.rect_contacts.proofs.Sorting.{side_owner}

-- The number says how much of the one edge of a rectangle meets the other edge of another, which is opposite.
pub record Touches (high low : Edge) (touch : Rect → Rect → ℤ) : Type 0 where
  pub cases : (a b : Rect) (i j : ℕ)
      → (((side_of high a i).line ≡ (side_of low b j).line) × (touch a b ≡ overlap (side_of high a i).from (side_of high a i).to (side_of low b j).from
      (side_of low b j).to))
      ⊎ (((side_of high a i).line ≢ (side_of low b j).line) × (touch a b ≡ pos 0))
  pub opposite : (a : Rect) (i j : ℕ) → IsProper a → (side_of low a j).line <ℤ (side_of high a i).line

-- tops and bottoms meet where one rectangle lies upon another
pub upon_touches : Touches Top Bottom shared_upon
upon_touches = record { cases = λ a b i j. shared_upon-cases a b; opposite = λ a i j p. p.high }

-- right and left edges meet where they stand side by side
pub beside_touches : Touches Right Left shared_beside
beside_touches = record { cases = λ a b i j. shared_beside-cases a b; opposite = λ a i j p. p.wide }

-- what two rectangles have in common at these edges of theirs, whichever has the one and which the other
abbrev pub either_way : (Rect → Rect → ℤ) → Rect → Rect → ℤ
either_way touch a b = touch a b +ℤ touch b a

module _ (high low : Edge) (touch : Rect → Rect → ℤ) (t : Touches high low touch) where
  touch-not_negative : (a b : Rect) → pos 0 ≤ℤ touch a b
  touch-not_negative a b = elim (t.cases a b 0 0) [
    | inl k ↦ subst (λ (z : ℤ). pos 0 ≤ℤ z) (sym k.1) (overlap-not_negative (side_of high a 0).from (side_of high a 0).to (side_of low b 0).from
        (side_of low b 0).to)
    | inr k ↦ let none : touch a b ≡ pos 0 = k.1 in omega (arith, ints)
  ]

  -- where rectangles touch, the sides meet
  touch_meets : (a b : Rect) (i j : ℕ) → pos 0 <ℤ touch a b → Meet (side_of high a i) (side_of low b j)
  touch_meets a b i j h = elim (t.cases a b i j) [
    | inl k ↦ record { one_line = k.0; common = subst (λ (z : ℤ). pos 0 <ℤ z) k.1 h }
    | inr k ↦ let none : touch a b ≡ pos 0 = k.1 in absurd (omega (arith, ints))
  ]

  touch_is : (a b : Rect) (i j : ℕ) → Meet (side_of high a i) (side_of low b j)
      → touch a b ≡ overlap (side_of high a i).from (side_of high a i).to (side_of low b j).from (side_of low b j).to
  touch_is a b i j m = elim (t.cases a b i j) [ inl k ↦ k.1 | inr k ↦ absurd (k.0 m.one_line) ]

  -- where one rectangle touches another with its high edge, its low edge does not touch that one
  touch_one_way : (a b : Rect) → IsProper a → IsProper b → pos 0 <ℤ touch a b → touch b a ≡ pos 0
  touch_one_way a b p q h = elim (t.cases b a 1 0) [
    | inr k ↦ k.1
    | inl k ↦
        let m = touch_meets a b 0 1 h in
        let there : (side_of high a 0).line ≡ (side_of low b 1).line = m.one_line in
        let back : (side_of high b 1).line ≡ (side_of low a 0).line = k.0 in
        let up : (side_of low a 0).line <ℤ (side_of high a 0).line = t.opposite a 0 0 p in
        let down : (side_of low b 1).line <ℤ (side_of high b 1).line = t.opposite b 1 1 q in
        absurd (omega (arith, ints))
  ]

  -- the contact of two places in whichever order
  contact_at : (rects : List Rect) (contact : Contact) (i j : ℕ) (n : ℤ) → contact ≡ record { first = min i j; second = max i j; length = n } → i ≢ j
      → i < length rects → j < length rects
      → n ≡ touch (rect_at rects i) (rect_at rects j) → pos 0 <ℤ n → touch (rect_at rects j) (rect_at rects i) ≡ pos 0 → IsSharedEdgeBy
      (either_way touch) rects contact
  contact_at rects contact i j n e differ below above there long back =
      let first : contact.first ≡ min i j = ap (λ (c : Contact). c.first) e in
      let second : contact.second ≡ max i j = ap (λ (c : Contact). c.second) e in
      let size : contact.length ≡ n = ap (λ (c : Contact). c.length) e in
      let same : (k l : ℕ) → contact.first ≡ k → contact.second ≡ l → n ≡ touch (rect_at rects k) (rect_at rects l) +ℤ touch (rect_at rects l) (rect_at rects k)
      → contact.length ≡ touch (rect_at rects contact.first) (rect_at rects contact.second) +ℤ touch (rect_at rects contact.second)
      (rect_at rects contact.first) =
      λ k l p q r. size ∙ r ∙ (λ x. touch (rect_at rects (sym p x)) (rect_at rects (sym q x)) +ℤ touch (rect_at rects (sym q x)) (rect_at rects (sym p x))) in
      record {
        in_order = omega arith;
        in_list = omega arith;
        length_is = elim (cases_lt i j) [
          | inl less ↦ same i j (omega arith) (omega arith) (omega (arith, ints))
          | inr more ↦ same j i (omega arith) (omega arith) (omega (arith, ints))
        ];
        not_none = omega (arith, ints);
      }

  module _ (rects : List Rect) (proper : All IsProper rects) (highs lows : List Side) (of_high : AreSidesOf high rects highs)
      (of_low : AreSidesOf low rects lows) where
    -- the sides of one rectangle are opposite
    pub sides_opposite : AreOpposite highs lows
    sides_opposite a b i j e =
        let x = of_high.others a i in
        let y = of_low.others b j in
        let p : IsProper (rect_at rects b.owner) = proper b.owner _ y.0 in
        let line : a.line ≡ (side_of high (rect_at rects b.owner) a.owner).line = ap (λ (s : Side). s.line) x.1
        ∙ ap (λ (k : ℕ). (side_of high (rect_at rects k) a.owner).line) e in
        let other : b.line ≡ (side_of low (rect_at rects b.owner) b.owner).line = ap (λ (s : Side). s.line) y.1 in
        let up : (side_of low (rect_at rects b.owner) b.owner).line <ℤ (side_of high (rect_at rects b.owner) a.owner).line = t.opposite
        (rect_at rects b.owner) a.owner b.owner p in
        omega (arith, ints)

    -- a meeting of sides is a contact
    touch_from_meeting : (contact : Contact) → IsMeeting highs lows contact → IsSharedEdgeBy (either_way touch) rects contact
    touch_from_meeting contact m =
        let i = m.lower.owner in
        let j = m.upper.owner in
        let x = of_high.others m.lower m.in_lowers in
        let y = of_low.others m.upper m.in_uppers in
        let a = rect_at rects i in
        let b = rect_at rects j in
        let meet : Meet (side_of high a i) (side_of low b j) =
        subst (λ (s : Side). Meet s (side_of low b j)) x.1 (subst (λ (s : Side). Meet m.lower s) y.1 m.meet) in
        let n = overlap m.lower.from m.lower.to m.upper.from m.upper.to in
        let size : n ≡ touch a b =
        (λ k. overlap (x.1 k).from (x.1 k).to (y.1 k).from (y.1 k).to) ∙ sym (touch_is a b i j meet) in
        let long : pos 0 <ℤ n = m.meet.common in
        let differ : i ≢ j = λ e.
        let below : m.upper.line <ℤ m.lower.line = sides_opposite m.lower m.upper m.in_lowers m.in_uppers e in
        let same : m.lower.line ≡ m.upper.line = m.meet.one_line in omega (arith, ints) in
        contact_at rects contact i j n m.is differ x.0 y.0 size long
        (touch_one_way a b (proper i _ x.0) (proper j _ y.0) (subst (λ (z : ℤ). pos 0 <ℤ z) size long))

    -- the meeting at which the rectangle at place k has the high side
    meeting_at : (contact : Contact) (k l : ℕ) → k < length rects → l < length rects → pos 0 <ℤ touch (rect_at rects k) (rect_at rects l)
        → contact.first ≡ min k l → contact.second ≡ max k l → contact.length ≡ touch (rect_at rects k) (rect_at rects l) → IsMeeting highs lows contact
    meeting_at contact k l below above h first second size =
        let a = rect_at rects k in
        let b = rect_at rects l in
        let o = side_owner high a k in
        let p = side_owner low b l in
        let meet = touch_meets a b k l h in
        let length = size ∙ touch_is a b k l meet in
        record {
          lower = side_of high a k;
          upper = side_of low b l;
          in_lowers = of_high.each k below;
          in_uppers = of_low.each l above;
          meet = meet;
          is = λ x. record {
            first = (first ∙ (λ y. min (sym o y) (sym p y))) x;
            second = (second ∙ (λ y. max (sym o y) (sym p y))) x;
            length = length x;
          };
        }

    -- and a contact is a meeting of sides
    meeting_from_touch : (contact : Contact) → IsSharedEdgeBy (either_way touch) rects contact → IsMeeting highs lows contact
    meeting_from_touch contact m =
        let order : contact.first < contact.second = m.in_order in
        let last : contact.second < length rects = m.in_list in
        let below : contact.first < length rects = omega arith in
        let a = rect_at rects contact.first in
        let b = rect_at rects contact.second in
        let p : IsProper a = proper contact.first _ below in
        let q : IsProper b = proper contact.second _ last in
        let size : contact.length ≡ touch a b +ℤ touch b a = m.length_is in
        let long : pos 0 <ℤ contact.length = m.not_none in
        let n = touch-not_negative a b in
        by_lt_z (pos 0) (touch a b)
        (λ h. let back : touch b a ≡ pos 0 = touch_one_way a b p q h in
        meeting_at contact contact.first contact.second below last h (omega arith) (omega arith) (omega (arith, ints)))
        (λ h. let there : touch a b ≡ pos 0 = omega (arith, ints) in
        meeting_at contact contact.second contact.first last below (omega (arith, ints)) (omega arith) (omega arith) (omega (arith, ints)))

    -- the meetings of the sides are the contacts
    pub touches_from_meetings : (contacts : List Contact) → Lists (IsMeeting highs lows) contacts → Lists (IsSharedEdgeBy (either_way touch) rects) contacts
    touches_from_meetings contacts l = Lists-iff (IsMeeting highs lows) (IsSharedEdgeBy (either_way touch) rects) contacts touch_from_meeting
        meeting_from_touch l

-- the contacts at upper and lower edges, and those at right and left edges
upon_only : (a b : Rect) → pos 0 <ℤ shared_stacked a b → shared_abreast a b ≡ pos 0
upon_only a b h =
    let n = shared_upon-not_negative a b in
    by_lt_z (pos 0) (shared_upon a b)
    (λ k. let one = upon_not_beside a b k in let other = upon_not_beside_back a b k in omega (arith, ints))
    (λ k. let back : pos 0 <ℤ shared_upon b a = omega (arith, ints) in
    let one = upon_not_beside b a back in let other = upon_not_beside_back b a back in omega (arith, ints))

beside_only : (a b : Rect) → pos 0 <ℤ shared_abreast a b → shared_stacked a b ≡ pos 0
beside_only a b h =
    let m = shared_upon-not_negative a b in
    let n = shared_upon-not_negative b a in
    by_lt_z (pos 0) (shared_stacked a b)
    (λ k. let none = upon_only a b k in absurd (omega (arith, ints)))
    (λ k. omega (arith, ints))

module _ (rects : List Rect) where
  not_both : (contact : Contact) → IsSharedEdgeBy shared_stacked rects contact → IsSharedEdgeBy shared_abreast rects contact → ⊥
  not_both contact u v =
      let a = rect_at rects contact.first in
      let b = rect_at rects contact.second in
      let size : contact.length ≡ shared_stacked a b = u.length_is in
      let also : contact.length ≡ shared_abreast a b = v.length_is in
      let long : pos 0 <ℤ contact.length = u.not_none in
      let none = beside_only a b (omega (arith, ints)) in
      omega (arith, ints)

  contact_from_parts : (contact : Contact) → IsSharedEdgeBy shared_stacked rects contact ⊎ IsSharedEdgeBy shared_abreast rects contact
      → IsSharedEdge rects contact
  contact_from_parts contact (inl u) =
      let a = rect_at rects contact.first in
      let b = rect_at rects contact.second in
      let size : contact.length ≡ shared_stacked a b = u.length_is in
      let long : pos 0 <ℤ contact.length = u.not_none in
      let none = upon_only a b (omega (arith, ints)) in
      record { in_order = u.in_order; in_list = u.in_list; length_is = omega (arith, ints); not_none = long }
  contact_from_parts contact (inr v) =
      let a = rect_at rects contact.first in
      let b = rect_at rects contact.second in
      let size : contact.length ≡ shared_abreast a b = v.length_is in
      let long : pos 0 <ℤ contact.length = v.not_none in
      let none = beside_only a b (omega (arith, ints)) in
      record { in_order = v.in_order; in_list = v.in_list; length_is = omega (arith, ints); not_none = long }

  parts_of_contact : (contact : Contact) → IsSharedEdge rects contact
      → IsSharedEdgeBy shared_stacked rects contact ⊎ IsSharedEdgeBy shared_abreast rects contact
  parts_of_contact contact c =
      let a = rect_at rects contact.first in
      let b = rect_at rects contact.second in
      let size : contact.length ≡ shared_length a b = c.length_is in
      let long : pos 0 <ℤ contact.length = c.not_none in
      let m = shared_upon-not_negative a b in
      let n = shared_upon-not_negative b a in
      by_lt_z (pos 0) (shared_stacked a b)
      (λ h. let none = upon_only a b h in
      inl (record { in_order = c.in_order; in_list = c.in_list; length_is = omega (arith, ints); not_none = long }))
      (λ h. inr (record { in_order = c.in_order; in_list = c.in_list; length_is = omega (arith, ints); not_none = long }))

  -- together they are all the contacts
  pub contacts_of_both : (stacked abreast : List Contact) → Lists (IsSharedEdgeBy shared_stacked rects) stacked
      → Lists (IsSharedEdgeBy shared_abreast rects) abreast
      → Lists (IsSharedEdge rects) (stacked ++ abreast)
  contacts_of_both stacked abreast u v =
      Lists-iff (λ c. IsSharedEdgeBy shared_stacked rects c ⊎ IsSharedEdgeBy shared_abreast rects c) (IsSharedEdge rects) (stacked ++ abreast)
      contact_from_parts parts_of_contact
      (Lists-append (IsSharedEdgeBy shared_stacked rects) (IsSharedEdgeBy shared_abreast rects) stacked abreast not_both u v)
