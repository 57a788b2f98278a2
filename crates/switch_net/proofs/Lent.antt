-- Lists whose items were lent to be changed in place.
use Rattle.switch_net.proofs.Common.{◌≡◌, ℕ, List, length, slice_set, arith, length-set}
use Rattle.std.specs.List.{refill}
use Rattle.std.proofs.lemmas.Grind.{common_steps}

-- as many items as before are the list
pub refilled : {X : Type 0} (xs ws : List X) → length ws ≡ length xs → refill (length xs) xs ws ≡ ws
refilled xs ws same = grind (arith, common_steps, same)

-- one item was set
pub refill-set : {X : Type 0} (xs ys : List X) (i : ℕ) (x : X) → ys ≡ xs → refill (length xs) xs (slice_set ys i x) ≡ slice_set xs i x
refill-set {X} xs ys i x same = rw same (refilled xs (slice_set xs i x) (simp length-set))
