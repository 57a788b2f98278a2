-- Laws of blanks at the ends of bytes.
use Rattle.std.proofs.Common.{◌≡◌, ℕ, Bool, false, cond, List, [], ◌∷◌, refl, ap}
use Rattle.cell_bodies.specs.Words.{begins_with_blank, without_first_blanks}

-- nothing is taken off where no blank stands in front
pub without_first_blanks-none : (bytes : List ℕ) → begins_with_blank bytes ≡ false → without_first_blanks bytes ≡ bytes
without_first_blanks-none [] none = refl
without_first_blanks-none (byte ∷ bytes) none = ap (λ (b : Bool). cond b (without_first_blanks bytes) (byte ∷ bytes)) none
