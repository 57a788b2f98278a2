-- The interval that the code computes is what `overlap` says of the two sides.
use Rattle.rect_contacts.proofs.Common.{◌≡◌, ℕ, min, max, ℤ, pos, ◌≤ℤ◌, ◌<ℤ◌, ◌++◌, List, [], ◌∷◌, inl, inr, refl, ◌∙◌, ap, of_z, arith, int_max}
use Rattle.rect_contacts.proofs.Common.{int_min, ints, clamps, Contact, Side, contact_of}
use Rattle.std.proofs.Common.{w64}
use Rattle.rect_contacts.specs.Contacts.{overlap}
use Rattle.rect_contacts.proofs.Intervals.{overlap-positive, overlap-none}
use Rattle.rect_contacts.proofs.sides.note_contact.Goals as goal
use Rattle.rect_contacts.proofs.sides.note_contact.Goals.{else-lower-upper-via-then-lower-upper+else-from-to, else-lower-upper-via-else-lower-upper}

-- a list that got a contact of these parts got the contact of the two sides
got_contact : (a b : Side) (before after : List Contact) (first second : ℕ) (length : ℤ)
    → after ≡ before ++ record { first = first; second = second; length = length } ∷ []
    → first ≡ min a.owner b.owner → second ≡ max a.owner b.owner → length ≡ overlap a.from a.to b.from b.to → after ≡ before ++ contact_of a b ∷ []
got_contact a b before after first second length e f g h = e ∙ (λ i. before ++ record { first = f i; second = g i; length = h i } ∷ [])

pub returns-in_ok-push : goal.returns-in_ok-push
returns-in_ok-push c =
    let a = c.args.lower.now in
    let b = c.args.upper.now in
    let low : c.max-from.result ≡ int_max a.from b.from = omega (arith, ints, clamps, c.max-from.ensures.value) in
    let high : c.min-to.result ≡ int_min a.to b.to = omega (arith, ints, clamps, c.min-to.ensures.value) in
    let room : int_max a.from b.from <ℤ int_min a.to b.to = omega (arith, ints, low, high) in
    let length = overlap-positive a.from a.to b.from b.to room in
    inl (
      record {
        one_line = omega (arith, ints);
        common = omega (arith, ints, length, room);
      },
      got_contact a b c.args.contacts.now.items _ _ _ _ c.in_ok-push.ensures.items c.min.ensures c.max.ensures (omega (arith, ints, length, low, high)),
    )

pub returns-else-lower-upper : goal.returns-else-lower-upper
returns-else-lower-upper c =
    let a = c.args.lower.now in
    let b = c.args.upper.now in
    let low : c.max-from.result ≡ int_max a.from b.from = omega (arith, ints, clamps, c.max-from.ensures.value) in
    let high : c.min-to.result ≡ int_min a.to b.to = omega (arith, ints, clamps, c.min-to.ensures.value) in
    inr (
      (elim c.else-lower-upper.branch [
        | else-lower-upper-via-then-lower-upper+else-from-to w ↦ (λ m.
            let none : int_min a.to b.to ≤ℤ int_max a.from b.from = omega (arith, ints, low, high) in
            let z = overlap-none a.from a.to b.from b.to none in
            let k : pos 0 <ℤ overlap a.from a.to b.from b.to = m.common in
            omega (arith, ints, k, z))
        | else-lower-upper-via-else-lower-upper w ↦ (λ m. w.if-lower-upper.false (ap (of_z w64) m.one_line))
      ]),
      refl,
    )
