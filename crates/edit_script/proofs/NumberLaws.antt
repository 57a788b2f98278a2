-- The numbers of a command are not changed when they are passed on.
use Rattle.edit_script.proofs.Common.{◌≡◌, ℤ, arith, w64, to_z-of_z}
use Rattle.std.proofs.Common.{pos}
use Rattle.std.specs.Prelude.{IsTrue}
use Rattle.std.proofs.lemmas.Grind.{common_steps}
use Rattle.std.proofs.lemmas.Int.{ints}
use Rattle.script_lines.specs.CellBodies.declared.limits.TheConstants.{LAST_POSITION}
use Rattle.script_lines.specs.Arguments.{is_between}
use Rattle.script_lines.specs.Forms.{IsNumber}
use mir.Val.{of_z, to_z}

-- a number of 32 bits fits 64
pub number_passed : (z : ℤ) → IsNumber z → to_z w64 (of_z w64 z) ≡ z
number_passed z is = to_z-of_z w64 z (record { sfits = grind (arith, ints, common_steps) })

-- so does the number of a position
pub position_passed : (z : ℤ) → IsTrue (is_between (pos 0) (pos LAST_POSITION) z) → to_z w64 (of_z w64 z) ≡ z
position_passed z is = to_z-of_z w64 z (record { sfits = grind (arith, ints, common_steps) })
