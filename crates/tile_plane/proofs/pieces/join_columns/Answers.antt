use Rattle.tile_plane.proofs.Common.{◌≡◌, ℤ, pos, ◌-ℤ◌, w64, to_z, of_z, subst, arith, rules, ints, to_z-of_z, IsTallAt}
use Rattle.tile_plane.proofs.KeepLaws.{grown_then}
use Rattle.tile_plane.proofs.PieceLaws.{columns_tall}
use Rattle.tile_plane.proofs.pieces.join_columns.Goals as goal

pub returns-clause-grown : goal.returns-clause-grown
returns-clause-grown c =
    let old = c.args.store.now in
    let area = c.args.area.now in
    let one = c.join_column-right.new.store in
    let two = c.join_column-left.new.store in
    let three = c.join_column-first.new.store in
    grown_then old two three (grown_then old one two c.join_column-right.ensures.grown c.join_column-left.ensures.grown) c.join_column-first.ensures.grown

pub returns-clause-tall : goal.returns-clause-tall
returns-clause-tall c =
    let old = c.args.store.now in
    let area = c.args.area.now in
    let one = c.join_column-right.new.store in
    let two = c.join_column-left.new.store in
    let three = c.join_column-first.new.store in
    let near = c.requires.near in
    let xlo = near.xlo in
    let low : to_z w64 (of_z w64 area.ylo) ≡ area.ylo = to_z-of_z w64 area.ylo (search rules) in
    let high : to_z w64 (of_z w64 area.yhi) ≡ area.yhi = to_z-of_z w64 area.yhi (search rules) in
    let right : to_z w64 (of_z w64 area.xhi) ≡ area.xhi = to_z-of_z w64 area.xhi (search rules) in
    let begin : to_z w64 (of_z w64 area.xlo) ≡ area.xlo = to_z-of_z w64 area.xlo (search rules) in
    let left : to_z w64 (of_z w64 (to_z w64 (of_z w64 area.xlo) -ℤ pos 1)) ≡ area.xlo -ℤ pos 1 = omega (arith, ints) in
    columns_tall area one two three c.join_column-left.ensures.partition c.join_column-first.ensures.partition c.join_column-left.ensures.grown
    c.join_column-first.ensures.grown
    (λ y from to. subst (λ (v : ℤ). IsTallAt one v y) right (c.join_column-right.ensures.tall y (omega (arith, ints)) (omega (arith, ints))))
    (λ y from to. subst (λ (v : ℤ). IsTallAt two v y) left (c.join_column-left.ensures.tall y (omega (arith, ints)) (omega (arith, ints))))
    (λ y from to. subst (λ (v : ℤ). IsTallAt three v y) begin (c.join_column-first.ensures.tall y (omega (arith, ints)) (omega (arith, ints))))
