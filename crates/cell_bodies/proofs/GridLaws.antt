-- The grids that a use may have are lawful.
use Rattle.std.proofs.Common.{◌≡◌, ◌*◌, ◌≤◌, ℤ, true, FitsSigned, arith}
use Rattle.std.specs.Prelude.{◌&&◌}
use Rattle.std.specs.Int.{w32}
use Rattle.std.proofs.lemmas.Bool.{and_parts}
use Rattle.std.proofs.lemmas.Bool.Decides.{nat_tests}
use Rattle.std.proofs.lemmas.Int.{ints}
use Rattle.geo_core.specs.declared.grids.Grid.{Grid}
use Rattle.geo_core.specs.declared.limits.TheConstants.{MOST_ELEMENTS}
use Rattle.geo_core.specs.Elements.{indices, IsLawful}
use Rattle.cell_bodies.specs.Numbers.{is_displacement, are_displacements, is_index, are_indices, are_few_elements, are_elements, is_grid}

index_fits : (z : ℤ) → is_index z ≡ true → FitsSigned w32 z
index_fits z is = record { sfits = grind (arith, ints) }

displacement_fits : (z : ℤ) → is_displacement z ≡ true → FitsSigned w32 z
displacement_fits z is = record { sfits = grind (arith, ints) }

few : (xlo xhi ylo yhi : ℤ) → are_few_elements xlo xhi ylo yhi ≡ true → indices xlo xhi * indices ylo yhi ≤ MOST_ELEMENTS
few xlo xhi ylo yhi is = grind (arith, nat_tests)

pub IsLawful-is_grid : (grid : Grid) → is_grid grid ≡ true → IsLawful grid
unfolding are_elements
IsLawful-is_grid grid is =
    let all = are_elements grid.xlo grid.xhi grid.ylo grid.yhi in
    let a = and_parts all (are_displacements grid.xsep grid.ysep) is in
    let b = and_parts (is_displacement grid.xsep) (is_displacement grid.ysep) a.1 in
    let c = and_parts (are_indices grid.xlo grid.xhi grid.ylo grid.yhi) (are_few_elements grid.xlo grid.xhi grid.ylo grid.yhi) a.0 in
    let d = and_parts (is_index grid.xlo && is_index grid.xhi && is_index grid.ylo) (is_index grid.yhi) c.0 in
    let e = and_parts (is_index grid.xlo && is_index grid.xhi) (is_index grid.ylo) d.0 in
    let f = and_parts (is_index grid.xlo) (is_index grid.xhi) e.0 in
    record {
      xlo = index_fits grid.xlo f.0;
      xhi = index_fits grid.xhi f.1;
      xsep = displacement_fits grid.xsep b.0;
      ylo = index_fits grid.ylo e.1;
      yhi = index_fits grid.yhi d.1;
      ysep = displacement_fits grid.ysep b.1;
      count = few grid.xlo grid.xhi grid.ylo grid.yhi c.1;
    }
