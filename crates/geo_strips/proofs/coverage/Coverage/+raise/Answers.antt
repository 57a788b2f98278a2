use Rattle.geo_strips.proofs.Common.{◌≡◌, ◌<ℤ◌, ◌≤ℤ◌, Box, Global, true, false, to_z, of_z, arith, subst, sym, ap, ◌∙◌, ◌<◌, int_max, int_min, ints}
use Rattle.geo_strips.proofs.Common.{to_z-of_z, least_of, most_of, end_before, IsTopped, IsCutAt}
use Rattle.std.proofs.Common.{w64}
use Rattle.geo_strips.specs.Coverage.{begins_before, ends_after, begin_after}
use Rattle.geo_strips.proofs.CoverageLaws.{forks, LeftIsDone, SideIsRaised, cut_raised, left_raised, right_raised, left_stays}
use Rattle.geo_strips.proofs.CoverageLaws.{right_stays, left_from_cut, left_to_cut, right_from_cut, right_to_cut}
use Rattle.geo_strips.proofs.coverage.Coverage.+raise.Goals as goal
use Rattle.geo_strips.proofs.coverage.Coverage.+raise.Goals.{then-begins_before, else-begins_before, then-ends_after, else-ends_after}

pub raise-requires : goal.raise-requires
raise-requires t c =
    let fork = c.in-Cut.fork.value in
    let now = c.deref_mut-fork.result.now in
    let is = c.deref_mut-fork.ensures.value in
    let stored : now.at ≡ fork.at = ap (λ v. v.at) is in
    let same_at : to_z w64 (of_z w64 now.at) ≡ fork.at = omega (arith, ints, stored) in
    let same_left : fork.left ≡ now.left = sym (ap (λ v. v.left) is) in
    let box : Box (Unit {0}) Global = record { ptr = c.in-Cut.fork.ptr; alloc = c.in-Cut.fork.alloc; value = tt {0} } in
    let topped = subst IsTopped c.in-Cut.is c.requires.topped in
    let begins = subst (λ v. begins_before c.args.from v ≡ true) same_at (sym c.begins_before.ensures ∙ c.if-begins_before.true) in
    let from_cut = left_from_cut box fork.at fork.least fork.most fork.left fork.right c.args.from begins
    (subst (λ v. IsCutAt v c.args.from) c.in-Cut.is c.requires.from_cut) in
    let to_cut = left_to_cut box fork.at fork.least fork.most fork.left fork.right c.args.to
    (subst (λ v. IsCutAt v c.args.to) c.in-Cut.is c.requires.to_cut) in (
      (let d : forks c.args.self.now ≡ t = c.decreases in let fewer : forks now.left < t = omega (arith, d, ap forks c.in-Cut.is, ap forks same_left) in fewer),
      (
        subst IsTopped same_left topped.3,
        (
          subst (λ v. IsCutAt v c.args.from) same_left from_cut,
          subst (λ v. IsCutAt v c.end_before.result) same_left (subst (λ v. IsCutAt fork.left v)
              (sym (c.end_before.ensures ∙ ap (end_before c.args.to) same_at)) to_cut),
        ),
      ),
    )

pub raise-requires-then-ends_after : goal.raise-requires-then-ends_after
raise-requires-then-ends_after t c =
    let fork = c.in-Cut.fork.value in
    let now = c.deref_mut-fork.result.now in
    let next = c.if-begins_before.fork in
    let is = c.deref_mut-fork.ensures.value in
    let stored : now.at ≡ fork.at = ap (λ v. v.at) is in
    let same_at : to_z w64 (of_z w64 now.at) ≡ fork.at = omega (arith, ints, stored) in
    let box : Box (Unit {0}) Global = record { ptr = c.in-Cut.fork.ptr; alloc = c.in-Cut.fork.alloc; value = tt {0} } in
    let topped = subst IsTopped c.in-Cut.is c.requires.topped in
    let same_right : fork.right ≡ next.right = sym (elim c.if-begins_before.branch
    [ then-begins_before w ↦ ap (λ v. v.right) w.fork-is | else-begins_before w ↦ ap (λ v. v.right) w.fork-is ] ∙ ap (λ v. v.right) is) in
    let ends = subst (λ v. ends_after c.args.to v ≡ true) same_at (sym c.ends_after.ensures ∙ c.if-ends_after.true) in
    let to_cut = right_to_cut box fork.at fork.least fork.most fork.left fork.right c.args.to ends
    (subst (λ v. IsCutAt v c.args.to) c.in-Cut.is c.requires.to_cut) in
    let from_cut = right_from_cut box fork.at fork.least fork.most fork.left fork.right c.args.from
    (subst (λ v. IsCutAt v c.args.from) c.in-Cut.is c.requires.from_cut) in (
      (let d : forks c.args.self.now ≡ t = c.decreases in let fewer : forks next.right < t =
          omega (arith, d, ap forks c.in-Cut.is, ap forks same_right) in fewer),
      (
        subst IsTopped same_right topped.4,
        (
          subst (λ v. IsCutAt v c.begin_after.result) same_right (subst (λ v. IsCutAt fork.right v)
              (sym (c.begin_after.ensures ∙ ap (begin_after c.args.from) same_at)) from_cut),
          subst (λ v. IsCutAt v c.args.to) same_right to_cut,
        ),
      ),
    )

pub returns-after-ends_after : goal.returns-after-ends_after
returns-after-ends_after t c =
    let fork = c.in-Cut.fork.value in
    let now = c.deref_mut-fork.result.now in
    let next = c.if-begins_before.fork in
    let last = c.if-ends_after.fork in
    let is = c.deref_mut-fork.ensures.value in
    let stored : now.at ≡ fork.at = ap (λ v. v.at) is in
    let same_at : to_z w64 (of_z w64 now.at) ≡ fork.at = omega (arith, ints, stored) in
    let box : Box (Unit {0}) Global = record { ptr = c.in-Cut.fork.ptr; alloc = c.in-Cut.fork.alloc; value = tt {0} } in
    let topped = subst IsTopped c.in-Cut.is c.requires.topped in
    let top : to_z w64 (of_z w64 c.args.top) ≡ c.args.top = to_z-of_z w64 c.args.top c.ranges.top in
    let one : LeftIsDone c.args.from c.args.to c.args.top fork.at next.at fork.least next.least fork.most next.most fork.left next.left fork.right next.right =
    elim c.if-begins_before.branch [
      | then-begins_before w ↦ (
          let becomes : next.left ≡ w.raise.new.self = ap (λ v. v.left) w.fork-is in
          let bound : w.end_before.result ≡ end_before c.args.to fork.at = w.end_before.ensures ∙ ap (end_before c.args.to) same_at in
          let made = left_raised c.args.from c.args.to c.args.top fork.at fork.left next.left
          (rw (becomes, ← bound, ← ap (λ v. v.left) is, ← top) w.raise.ensures) in
          record {
            same_at = ap (λ v. v.at) w.fork-is ∙ stored;
            same_least = ap (λ v. v.least) w.fork-is ∙ ap (λ v. v.least) is;
            same_most = ap (λ v. v.most) w.fork-is ∙ ap (λ v. v.most) is;
            same_right = ap (λ v. v.right) w.fork-is ∙ ap (λ v. v.right) is;
            done = made;
          })
      | else-begins_before w ↦ (
          let becomes : fork.left ≡ next.left = sym (ap (λ v. v.left) w.fork-is ∙ ap (λ v. v.left) is) in
          let before = subst (λ v. begins_before c.args.from v ≡ false) same_at (sym c.begins_before.ensures ∙ w.if-begins_before.false) in
          let made = left_stays c.args.from c.args.to c.args.top fork.at fork.left before topped.3 in
          record {
            same_at = ap (λ v. v.at) w.fork-is ∙ stored;
            same_least = ap (λ v. v.least) w.fork-is ∙ ap (λ v. v.least) is;
            same_most = ap (λ v. v.most) w.fork-is ∙ ap (λ v. v.most) is;
            same_right = ap (λ v. v.right) w.fork-is ∙ ap (λ v. v.right) is;
            done = subst (SideIsRaised (λ x. x <ℤ fork.at) c.args.from c.args.to c.args.top fork.left) becomes made;
          })
    ] in
    let two : SideIsRaised (λ x. fork.at ≤ℤ x) c.args.from c.args.to c.args.top fork.right last.right =
    elim c.if-ends_after.branch [
      | then-ends_after w ↦ (
          let becomes : last.right ≡ w.raise-then-ends_after.new.self = ap (λ v. v.right) w.fork-is in
          let bound : w.begin_after.result ≡ begin_after c.args.from fork.at = w.begin_after.ensures ∙ ap (begin_after c.args.from) same_at in
          right_raised c.args.from c.args.to c.args.top fork.at fork.right last.right
          (rw (becomes, ← bound, ← one.same_right, ← top) w.raise-then-ends_after.ensures))
      | else-ends_after w ↦ (
          let becomes : fork.right ≡ last.right = sym (ap (λ v. v.right) w.fork-is ∙ one.same_right) in
          let after = subst (λ v. ends_after c.args.to v ≡ false) same_at (sym c.ends_after.ensures ∙ w.if-ends_after.false) in
          subst (SideIsRaised (λ x. fork.at ≤ℤ x) c.args.from c.args.to c.args.top fork.right) becomes
          (right_stays c.args.from c.args.to c.args.top fork.at fork.right after topped.4))
    ] in
    let last_at : last.at ≡ fork.at = elim c.if-ends_after.branch [
      | then-ends_after w ↦ ap (λ v. v.at) w.fork-is
      | else-ends_after w ↦ ap (λ v. v.at)
          w.fork-is
    ] ∙ one.same_at in
    let last_least : last.least ≡ fork.least = elim c.if-ends_after.branch [
      | then-ends_after w ↦ ap (λ v. v.least) w.fork-is
      | else-ends_after w ↦ ap (λ v. v.least) w.fork-is
    ] ∙ one.same_least in
    let last_most : last.most ≡ fork.most = elim c.if-ends_after.branch [
      | then-ends_after w ↦ ap (λ v. v.most) w.fork-is
      | else-ends_after w ↦ ap (λ v. v.most) w.fork-is
    ] ∙ one.same_most in
    let last_left : next.left ≡ last.left = sym (elim c.if-ends_after.branch [
      | then-ends_after w ↦ ap (λ v. v.left) w.fork-is
      | else-ends_after w ↦ ap (λ v. v.left) w.fork-is
    ]) in
    rw (c.in-Cut.is, c.refresh.ensures) (cut_raised c.args.from c.args.to c.args.top _ _ fork.at last.at fork.least fork.most _ _ fork.left fork.right
    last.left last.right
    (subst (SideIsRaised (λ x. x <ℤ fork.at) c.args.from c.args.to c.args.top fork.left) last_left one.done) two last_at
    (ap (λ v. int_max v (int_min (least_of last.left) (least_of last.right))) last_least)
    (ap (λ v. int_max v (int_max (most_of last.left) (most_of last.right))) last_most) topped)
