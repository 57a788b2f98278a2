-- The eight orientations in which a part of a layout may stand, and their matrices.
use Rattle.std.specs.Prelude.{ℤ, pos, negsuc, ◌+ℤ◌, ◌*ℤ◌, ◌&&◌, Bool, List, [], ◌∷◌, Option, find}
use Rattle.std.specs.Option.{is_some}
use Rattle.std.specs.Ordering.{int_eq}
use Rattle.geo_core.specs.declared.orients.Orient.{Orient}
use Rattle.geo_core.specs.declared.orients.Orient.TheVariants.{R0, R90, R180, R270, Mx, My, Mx90, My90}

-- A matrix takes (x, y) to (a*x + b*y, d*x + e*y).
pub record Matrix : Type 0 where
  pub a : ℤ
  pub b : ℤ
  pub d : ℤ
  pub e : ℤ

-- The turns are counterclockwise. Mx turns the y axis round and My the x axis; Mx90 and My90 do that first and then a quarter turn.
abbrev pub matrix : Orient → Matrix
matrix R0 = record { a = pos 1; b = pos 0; d = pos 0; e = pos 1 }
matrix R90 = record { a = pos 0; b = negsuc 0; d = pos 1; e = pos 0 }
matrix R180 = record { a = negsuc 0; b = pos 0; d = pos 0; e = negsuc 0 }
matrix R270 = record { a = pos 0; b = pos 1; d = negsuc 0; e = pos 0 }
matrix Mx = record { a = pos 1; b = pos 0; d = pos 0; e = negsuc 0 }
matrix My = record { a = negsuc 0; b = pos 0; d = pos 0; e = pos 1 }
matrix Mx90 = record { a = pos 0; b = pos 1; d = pos 1; e = pos 0 }
matrix My90 = record { a = pos 0; b = negsuc 0; d = negsuc 0; e = pos 0 }

-- the eight orientations
abbrev pub all_orients : List Orient
all_orients = R0 ∷ R90 ∷ R180 ∷ R270 ∷ Mx ∷ My ∷ Mx90 ∷ My90 ∷ []

-- the orientation has these factors
abbrev pub has_factors : ℤ → ℤ → ℤ → ℤ → Orient → Bool
has_factors a b d e orient =
    int_eq a (matrix orient).a && int_eq b (matrix orient).b && int_eq d (matrix orient).d && int_eq e (matrix orient).e

-- the orientation that has these factors, where one has
abbrev pub orient_of : ℤ → ℤ → ℤ → ℤ → Option Orient
orient_of a b d e = find (has_factors a b d e) all_orients

-- one of the eight orientations has these factors
unfoldable pub is_orientation : ℤ → ℤ → ℤ → ℤ → Bool
is_orientation a b d e = is_some (orient_of a b d e)

-- The matrix that does what the inner one does and then what the outer one does.
abbrev pub product : Matrix → Matrix → Matrix
product outer inner = record {
  a = (outer.a *ℤ inner.a) +ℤ (outer.b *ℤ inner.d);
  b = (outer.a *ℤ inner.b) +ℤ (outer.b *ℤ inner.e);
  d = (outer.d *ℤ inner.a) +ℤ (outer.e *ℤ inner.d);
  e = (outer.d *ℤ inner.b) +ℤ (outer.e *ℤ inner.e);
}

-- A quarter turn, and then the orientation.
abbrev pub after_turn : Orient → Orient
after_turn R0 = R90
after_turn R90 = R180
after_turn R180 = R270
after_turn R270 = R0
after_turn Mx = My90
after_turn My = Mx90
after_turn Mx90 = Mx
after_turn My90 = My

-- The y axis turned round, and then the orientation.
abbrev pub after_mirror : Orient → Orient
after_mirror R0 = Mx
after_mirror R90 = Mx90
after_mirror R180 = My
after_mirror R270 = My90
after_mirror Mx = R0
after_mirror My = R180
after_mirror Mx90 = R90
after_mirror My90 = R270

-- The first orientation, and then the second.
abbrev pub orient_then : Orient → Orient → Orient
orient_then R0 outer = outer
orient_then R90 outer = after_turn outer
orient_then R180 outer = after_turn (after_turn outer)
orient_then R270 outer = after_turn (after_turn (after_turn outer))
orient_then Mx outer = after_mirror outer
orient_then My outer = after_mirror (after_turn (after_turn outer))
orient_then Mx90 outer = after_mirror (after_turn outer)
orient_then My90 outer = after_mirror (after_turn (after_turn (after_turn outer)))

-- The orientation that undoes another.
abbrev pub orient_inverse : Orient → Orient
orient_inverse R0 = R0
orient_inverse R90 = R270
orient_inverse R180 = R180
orient_inverse R270 = R90
orient_inverse Mx = Mx
orient_inverse My = My
orient_inverse Mx90 = Mx90
orient_inverse My90 = My90
