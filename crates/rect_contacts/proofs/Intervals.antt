-- Laws of `overlap`.
use Rattle.rect_contacts.proofs.Common.{◌≡◌, ℤ, pos, ◌-ℤ◌, ◌≤ℤ◌, ◌<ℤ◌, arith, int_max, int_min, ints, clamps}
use Rattle.rect_contacts.specs.Contacts.{overlap}

-- no overlap is negative
pub overlap-not_negative : (lo hi lo' hi' : ℤ) → pos 0 ≤ℤ overlap lo hi lo' hi'
unfolding overlap
overlap-not_negative lo hi lo' hi' = omega (arith, ints, clamps)

-- whichever interval is named first
pub overlap-comm : (lo hi lo' hi' : ℤ) → overlap lo hi lo' hi' ≡ overlap lo' hi' lo hi
unfolding overlap
overlap-comm lo hi lo' hi' = omega (arith, ints, clamps)

-- an interval has nothing in common with one that it ends before
pub overlap-before : (lo hi lo' hi' : ℤ) → hi ≤ℤ lo' → overlap lo hi lo' hi' ≡ pos 0
unfolding overlap
overlap-before lo hi lo' hi' h = omega (arith, ints, clamps)

-- intervals one after the other have none
pub overlap-after : (lo hi lo' hi' : ℤ) → hi' ≤ℤ lo → overlap lo hi lo' hi' ≡ pos 0
unfolding overlap
overlap-after lo hi lo' hi' h = omega (arith, ints, clamps)

-- where there is something in common, it ends at the lower end and begins at the higher beginning
pub overlap-positive : (lo hi lo' hi' : ℤ) → int_max lo lo' <ℤ int_min hi hi' → overlap lo hi lo' hi' ≡ int_min hi hi' -ℤ int_max lo lo'
unfolding overlap
overlap-positive lo hi lo' hi' h = omega (arith, ints, clamps)

-- intervals that end before both have begun have none
pub overlap-none : (lo hi lo' hi' : ℤ) → int_min hi hi' ≤ℤ int_max lo lo' → overlap lo hi lo' hi' ≡ pos 0
unfolding overlap
overlap-none lo hi lo' hi' h = omega (arith, ints, clamps)

-- two intervals that have something in common begin before the other ends
pub overlap-from_before_to : (lo hi lo' hi' : ℤ) → pos 0 <ℤ overlap lo hi lo' hi' → lo <ℤ hi'
unfolding overlap
overlap-from_before_to lo hi lo' hi' h = omega (arith, ints, clamps)

-- where there is one, the second begins before the first ends
pub overlap-to_after_from : (lo hi lo' hi' : ℤ) → pos 0 <ℤ overlap lo hi lo' hi' → lo' <ℤ hi
unfolding overlap
overlap-to_after_from lo hi lo' hi' h = omega (arith, ints, clamps)
