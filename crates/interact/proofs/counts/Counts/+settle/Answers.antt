use Rattle.interact.proofs.Common.{◌≡◌, ◌+ℤ◌, ◌<◌, Box, Global, rules, arith, sym, ap, ◌∙◌, w64, to_z, of_z, int_max, int_min, ints, to_z-of_z}
use Rattle.interact.proofs.Common.{stored_max, stored_min, Even, Fork, bounds_of, forks, shifted}
use Rattle.geo_strips.proofs.CoverageLaws.{on_ok}
use Rattle.interact.proofs.CountLaws.{settle_all, settle_none, settle_stays, cut, left_before, right_before, fork_settled}
use Rattle.interact.proofs.counts.Counts.+settle.Goals as goal

pub returns-then-bounds-ge-SHARING : goal.returns-then-bounds-ge-SHARING
returns-then-bounds-ge-SHARING t c =
    let above = to_z-of_z w64 c.args.above c.ranges.above in
    let made : c.in_ok-bounds.bounds ≡ shifted c.args.above (bounds_of c.args.self.now) =
    c.in_ok-bounds.ensures ∙ ap (λ v. shifted v c.bounds.result) above ∙ ap (shifted c.args.above) c.bounds.ensures in
    settle_stays c.args.above c.args.from c.args.to c.args.row c.args.self.now c.args.shared.now c.requires.told c.requires.apart c.requires.before
    (omega (arith, ints, ap (λ v. v.most_lone) made, c.if-bounds-lt-SHARING.true))
    (omega (arith, ints, ap (λ v. v.least_shared) made, c.if-bounds-ge-SHARING.true))

pub returns-then-bounds-ge-SHARING-2 : goal.returns-then-bounds-ge-SHARING-2
returns-then-bounds-ge-SHARING-2 t c =
    let above = to_z-of_z w64 c.args.above c.ranges.above in
    let from = to_z-of_z w64 c.args.from c.ranges.from in
    let to = to_z-of_z w64 c.args.to c.ranges.to in
    let row = to_z-of_z w64 c.args.row c.ranges.row in
    let made : c.in_ok-bounds.bounds ≡ shifted c.args.above (bounds_of c.args.self.now) =
    c.in_ok-bounds.ensures ∙ ap (λ v. shifted v c.bounds.result) above ∙ ap (shifted c.args.above) c.bounds.ensures in
    on_ok c.cover.result (settle_all c.args.above c.args.from c.args.to c.args.row c.args.self.now c.share.new.self c.args.shared.now
    (record { runs = c.cover.new.runs; ended = c.cover.new.found }) c.requires.told c.share.ensures
    (omega (arith, ints, ap (λ v. v.least) made, c.if-bounds-ge-SHARING-2.true))) (rw (from, to, row) at c.cover.ensures)

pub returns-then-bounds-lt-SHARING-2 : goal.returns-then-bounds-lt-SHARING-2
returns-then-bounds-lt-SHARING-2 t c =
    let above = to_z-of_z w64 c.args.above c.ranges.above in
    let from = to_z-of_z w64 c.args.from c.ranges.from in
    let to = to_z-of_z w64 c.args.to c.ranges.to in
    let row = to_z-of_z w64 c.args.row c.ranges.row in
    let made : c.in_ok-bounds.bounds ≡ shifted c.args.above (bounds_of c.args.self.now) =
    c.in_ok-bounds.ensures ∙ ap (λ v. shifted v c.bounds.result) above ∙ ap (shifted c.args.above) c.bounds.ensures in
    on_ok c.uncover.result (settle_none c.args.above c.args.from c.args.to c.args.row c.args.self.now
    c.share-then-bounds-lt-SHARING-2.new.self c.args.shared.now (record { runs = c.uncover.new.runs; ended = c.uncover.new.found })
    c.requires.told c.share-then-bounds-lt-SHARING-2.ensures
    (omega (arith, ints, ap (λ v. v.most) made, c.if-bounds-lt-SHARING-2.true))) (rw (from, to, row) at c.uncover.ensures)

pub settle-requires : goal.settle-requires
settle-requires t c =
    let now = c.deref_mut-fork.result.now in
    let pushed = c.push.new.fork in
    let is = c.deref_mut-fork.ensures.value in
    let from = to_z-of_z w64 c.args.from c.ranges.from in
    let box : Box (Unit {0}) Global = record { ptr = c.in-Cut.fork.ptr; alloc = c.in-Cut.fork.alloc; value = tt {0} } in
    let whole : c.args.self.now ≡ cut box now = c.in-Cut.is ∙ ap (λ (v : Fork). cut box v) (sym is) in
    let last : to_z w64 (of_z w64 c.min.result) ≡ int_min c.args.to now.at = to_z-of_z w64 c.min.result (search rules)
    ∙ stored_min c.min.result c.args.to pushed.at c.ranges.to (search rules) c.min.ensures.value ∙ ap (int_min c.args.to) c.push.ensures.at in
    let d : forks c.args.self.now ≡ t = c.decreases in
    let fewer : forks pushed.left < t = omega (arith, d, ap forks whole, c.push.ensures.left.as_many) in (
      fewer,
      (
        c.push.ensures.left.told,
        (
          c.requires.apart,
          rw (from, last)
              (left_before c.args.above c.args.from c.args.to c.args.row box now pushed c.push.ensures c.args.shared.now
              (rw whole at c.requires.before)),
        ),
      ),
    )

pub settle-requires-in-Cut : goal.settle-requires-in-Cut
settle-requires-in-Cut t c =
    let now = c.deref_mut-fork.result.now in
    let pushed = c.push.new.fork in
    let is = c.deref_mut-fork.ensures.value in
    let from = to_z-of_z w64 c.args.from c.ranges.from in
    let to = to_z-of_z w64 c.args.to c.ranges.to in
    let row = to_z-of_z w64 c.args.row c.ranges.row in
    let box : Box (Unit {0}) Global = record { ptr = c.in-Cut.fork.ptr; alloc = c.in-Cut.fork.alloc; value = tt {0} } in
    let whole : c.args.self.now ≡ cut box now = c.in-Cut.is ∙ ap (λ (v : Fork). cut box v) (sym is) in
    let above : to_z w64 (of_z w64 c.in_ok-above.above) ≡ c.args.above +ℤ now.extra =
    omega (arith, ints, c.in_ok-above.ensures, c.push.ensures.extra) in
    let last : to_z w64 (of_z w64 c.min.result) ≡ int_min c.args.to now.at = to_z-of_z w64 c.min.result (search rules)
    ∙ stored_min c.min.result c.args.to pushed.at c.ranges.to (search rules) c.min.ensures.value ∙ ap (int_min c.args.to) c.push.ensures.at in
    let first : to_z w64 (of_z w64 c.max.result) ≡ int_max c.args.from now.at =
    stored_max c.max.result c.args.from pushed.at (search rules) c.ranges.from (search rules) c.max.ensures.value
    ∙ ap (int_max c.args.from) c.push.ensures.at in
    let d : forks c.args.self.now ≡ t = c.decreases in
    let fewer : forks pushed.right < t = omega (arith, d, ap forks whole, c.push.ensures.right.as_many) in
    let done = rw (above, from, last, row) at c.in_ok-settle.ensures in (
      fewer,
      (
        c.push.ensures.right.told,
        (
          c.in_ok-settle.ensures.apart,
          rw (first, to)
              (right_before c.args.above c.args.from c.args.to c.args.row box now pushed c.push.ensures c.args.shared.now
              c.settle.new.self c.settle.new.shared done (rw whole at c.requires.before)),
        ),
      ),
    )

pub returns-in_ok-refresh : goal.returns-in_ok-refresh
returns-in_ok-refresh t c =
    let now = c.deref_mut-fork.result.now in
    let pushed = c.push.new.fork in
    let is = c.deref_mut-fork.ensures.value in
    let from = to_z-of_z w64 c.args.from c.ranges.from in
    let to = to_z-of_z w64 c.args.to c.ranges.to in
    let row = to_z-of_z w64 c.args.row c.ranges.row in
    let box : Box (Unit {0}) Global = record { ptr = c.in-Cut.fork.ptr; alloc = c.in-Cut.fork.alloc; value = tt {0} } in
    let whole : c.args.self.now ≡ cut box now = c.in-Cut.is ∙ ap (λ (v : Fork). cut box v) (sym is) in
    let above : to_z w64 (of_z w64 c.in_ok-above.above) ≡ c.args.above +ℤ now.extra =
    omega (arith, ints, c.in_ok-above.ensures, c.push.ensures.extra) in
    let last : to_z w64 (of_z w64 c.min.result) ≡ int_min c.args.to now.at = to_z-of_z w64 c.min.result (search rules)
    ∙ stored_min c.min.result c.args.to pushed.at c.ranges.to (search rules) c.min.ensures.value ∙ ap (int_min c.args.to) c.push.ensures.at in
    let first : to_z w64 (of_z w64 c.max.result) ≡ int_max c.args.from now.at =
    stored_max c.max.result c.args.from pushed.at (search rules) c.ranges.from (search rules) c.max.ensures.value
    ∙ ap (int_max c.args.from) c.push.ensures.at in
    rw whole (fork_settled c.args.above c.args.from c.args.to c.args.row box now pushed c.push.ensures c.args.shared.now
    c.settle.new.self c.settle.new.shared (rw (above, from, last, row) at c.in_ok-settle.ensures) box c.refresh.new.fork c.settle-in-Cut.new.self
    c.settle-in-Cut.new.shared (rw (above, first, to, row) at c.in_ok-settle-2.ensures) c.in_ok-refresh.ensures)

pub returns-in_default : goal.returns-in_default
returns-in_default t c =
    let above = to_z-of_z w64 c.args.above c.ranges.above in
    let column = c.in_default.field-0 in
    let made : c.in_ok-bounds.bounds ≡ shifted c.args.above (bounds_of (Even column)) =
    c.in_ok-bounds.ensures ∙ ap (λ v. shifted v c.bounds.result) above ∙ ap (shifted c.args.above) (c.bounds.ensures
    ∙ ap bounds_of c.in_default.is) in
    let least : c.in_ok-bounds.bounds.least ≡ column.count +ℤ c.args.above = ap (λ v. v.least) made in
    let most : c.in_ok-bounds.bounds.most ≡ column.count +ℤ c.args.above = ap (λ v. v.most) made in
    absurd (omega (arith, ints, least, most, c.if-bounds-ge-SHARING-2.false, c.if-bounds-lt-SHARING-2.false))
