use Rattle.tile_plane.proofs.Common.{◌≡◌, ◌∙◌, ℤ, w64, to_z, of_z, subst, arith, rules, ints, to_z-of_z, AreCutAt, NothingElseIsCut, AreCutAlongAt}
use Rattle.tile_plane.proofs.Common.{NothingElseIsCutAlong}
use Rattle.tile_plane.proofs.KeptLaws.{kept_then}
use Rattle.tile_plane.proofs.PieceLaws.{across_wide, across_kept, across_at, along_kept, opened}
use Rattle.tile_plane.proofs.pieces.cut_around.Goals as goal

pub cut_along-requires-clause-taken : goal.cut_along-requires-clause-taken
cut_along-requires-clause-taken c = c.in_ok-_high.ensures.nothing_else.stays c.in_ok-low.low c.in_ok-low.ensures.taken

pub cut_along-requires-2-clause-taken : goal.cut_along-requires-2-clause-taken
cut_along-requires-2-clause-taken c = c.in_ok-_right.ensures.nothing_else.stays c.in_ok-low.low
    (c.in_ok-_high.ensures.nothing_else.stays c.in_ok-low.low c.in_ok-low.ensures.taken)

pub returns : goal.returns
returns c =
    let area = c.args.area.now in
    let old = c.args.store.now in
    let one = c.cut_across.new.store in
    let two = c.cut_across-2.new.store in
    let three = c.cut_along.new.store in
    let four = c.cut_along-2.new.store in
    let low = c.in_ok-low.ensures in
    let high = c.in_ok-_high.ensures in
    let right = c.in_ok-_right.ensures in
    let left = c.in_ok-first.ensures in
    let same_low : to_z w64 (of_z w64 area.ylo) ≡ area.ylo = to_z-of_z w64 area.ylo (search rules) in
    let same_high : to_z w64 (of_z w64 area.yhi) ≡ area.yhi = to_z-of_z w64 area.yhi (search rules) in
    let same_right : to_z w64 (of_z w64 area.xhi) ≡ area.xhi = to_z-of_z w64 area.xhi (search rules) in
    let same_left : to_z w64 (of_z w64 area.xlo) ≡ area.xlo = to_z-of_z w64 area.xlo (search rules) in
    let only_right : NothingElseIsCutAlong area area.xhi two three = subst (λ (v : ℤ). NothingElseIsCutAlong area v two three) same_right right.nothing_else in
    let only_left : NothingElseIsCutAlong area area.xlo three four = subst (λ (v : ℤ). NothingElseIsCutAlong area v three four) same_left left.nothing_else in
    let only_low : NothingElseIsCut area area.ylo old one = subst (λ (v : ℤ). NothingElseIsCut area v old one) same_low low.nothing_else in
    let only_high : NothingElseIsCut area area.yhi one two = subst (λ (v : ℤ). NothingElseIsCut area v one two) same_high high.nothing_else in
    let at_low : AreCutAt one area.ylo area.xlo area.xhi = subst (λ (v : ℤ). AreCutAt one v area.xlo area.xhi) same_low low.at in
    let at_high : AreCutAt two area.yhi area.xlo area.xhi = subst (λ (v : ℤ). AreCutAt two v area.xlo area.xhi) same_high high.at in
    let at_right : AreCutAlongAt three area.xhi area.ylo area.yhi = subst (λ (v : ℤ). AreCutAlongAt three v area.ylo area.yhi) same_right right.at in
    let at_left : AreCutAlongAt four area.xlo area.ylo area.yhi = subst (λ (v : ℤ). AreCutAlongAt four v area.ylo area.yhi) same_left left.at in
    let wide = c.requires.proper.wide in
    let tall = c.requires.proper.high in
    record {
      partition = left.partition;
      stitches = left.stitches;
      taken = left.taken;
      same = λ s. left.same s ∙ right.same s ∙ high.same s ∙ low.same s;
      state = opened area two three four c.requires.proper high.partition right.partition left.partition
          (λ h. across_wide area area.yhi one two high.partition high.cut only_high h
          (across_wide area area.ylo old one low.partition low.cut only_low h (c.requires.wide h)))
          (across_at area area.yhi one two high.partition high.cut only_high area.ylo area.xlo area.xhi at_low) at_high right.cut only_right at_right left.cut
          only_left at_left;
      kept = kept_then area old three four
          (kept_then area old two three
          (kept_then area old one two (across_kept area area.ylo old one low.partition low.cut only_low (omega (arith, ints)) (omega (arith, ints)))
          (across_kept area area.yhi one two high.partition high.cut only_high (omega (arith, ints)) (omega (arith, ints))))
          (along_kept area area.xhi two three high.partition right.partition right.cut only_right (omega (arith, ints)) (omega (arith, ints))))
          (along_kept area area.xlo three four right.partition left.partition left.cut only_left (omega (arith, ints)) (omega (arith, ints)));
    }
