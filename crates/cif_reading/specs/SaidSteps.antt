-- The steps of a call as they are said.
use Rattle.std.specs.Prelude.{◌&&◌, not, ℕ, ℤ, pos, int_lt, Bool, true, if◌then◌else◌, List}
use Rattle.std.specs.List.{list_all}
use Rattle.std.specs.Ordering.{int_eq}
use Rattle.cif_forms.specs.declared.commands.SaidMove.{SaidMove}
use Rattle.cif_forms.specs.declared.commands.SaidMove.TheVariants.{Shift as SaidShift, MirrorX as SaidMirrorX, MirrorY as SaidMirrorY, Toward}
use Rattle.cif_model.specs.declared.cifs.CifMove.{CifMove}
use Rattle.cif_model.specs.declared.cifs.CifMove.TheVariants.{Shift, MirrorX, MirrorY, Turn}
use Rattle.cif_reading.specs.declared.scales.Scale.{Scale}
use Rattle.cif_reading.specs.Scales.{is_whole, scaled}
use Rattle.cif_reading.specs.Boxes.{is_in_range}

-- a turn is to a point of an axis, which is not (0, 0)
abbrev pub is_along_axis : SaidMove → Bool
is_along_axis (Toward p q) = if int_eq p (pos 0) then not (int_eq q (pos 0)) else int_eq q (pos 0)
is_along_axis move = true

abbrev pub move_is_in_range : SaidMove → Bool
move_is_in_range (SaidShift x y) = is_in_range x && is_in_range y
move_is_in_range (Toward p q) = is_in_range p && is_in_range q
move_is_in_range move = true

-- a shift is whole when it is scaled
abbrev pub move_is_whole : Scale → SaidMove → Bool
move_is_whole scale (SaidShift x y) = is_whole scale x && is_whole scale y
move_is_whole scale move = true

-- all numbers of a call have 32 bits
unfoldable pub call_is_in_range : ℤ → List SaidMove → Bool
call_is_in_range n moves = is_in_range n && list_all move_is_in_range moves

-- how many quarter turns take (1, 0) to this side of this axis
abbrev pub quarters : ℤ → ℤ → ℕ
quarters p q = if int_lt (pos 0) p then 0 else if int_lt (pos 0) q then 1 else if int_lt p (pos 0) then 2 else 3

-- the step, its numbers scaled
abbrev pub move_said : Scale → SaidMove → CifMove
move_said scale (SaidShift x y) = Shift (scaled scale x) (scaled scale y)
move_said scale SaidMirrorX = MirrorX
move_said scale SaidMirrorY = MirrorY
move_said scale (Toward p q) = Turn (quarters p q)
