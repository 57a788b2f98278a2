use Rattle.offences.proofs.Common.{refl, bit_or, arith, SetTile, PartSum, tile_at, HaveSetsOf, ◌+◌, get_or, sym, subst}
use Rattle.offences.proofs.SumLaws.{AreSumsUpTo, with_material, no_sums, next_part, same_part, all_summed}
use Rattle.offences.proofs.part_sets.list_part_sets.Goals as goal
use Rattle.offences.proofs.part_sets.list_part_sets.Goals.{then-tile-sum+in_ok-push_material, else-tile-sum}

pub loop-member-init : goal.loop-member-init
loop-member-init c = no_sums c.args.tiles.now c.args.members.now c.clear.new.self.items c.clear.ensures.items

pub loop-member-preserved : goal.loop-member-preserved
loop-member-preserved c =
    let tiles = c.args.tiles.now in
    let members = c.args.members.now in
    let i = c.loop-member.member-index in
    let more = c.loop-member-test.true in
    let sums = c.loop-member.sums.items in
    let sum = c.loop-member.sum in
    let so_far = c.loop-member.invariant in
    let tile : SetTile = tile_at tiles (get_or members i 0) in
    elim c.if-tile-sum.branch [
      | then-tile-sum+in_ok-push_material w ↦
          let next : PartSum = record { part = tile.part; set = record { 0 = 0 } } in
          let begun = next_part tiles members i sums sum tile so_far more refl c.requires.within c.requires.ordered c.requires.ascending w.if-tile-sum.true in
          let step : AreSumsUpTo tiles members (i + 1) (with_material sums sum)
          (record { part = tile.part; set = record { 0 = bit_or 0 tile.set.0 } }) =
          same_part tiles members i (with_material sums sum) next tile begun more refl refl in
          rw (w.sums-is, w.sum-is, w.in_ok-push_material.ensures) step
      | else-tile-sum w ↦ rw (w.sums-is, w.sum-is) (same_part tiles members i sums sum tile so_far more refl w.if-tile-sum.false)
    ]

pub returns : goal.returns
returns c =
    let past = c.loop-member-test.false in
    subst (HaveSetsOf c.args.tiles.now c.args.members.now) (sym c.in_ok-push_material-2.ensures)
    (all_summed c.args.tiles.now c.args.members.now c.loop-member.member-index c.loop-member.sums.items c.loop-member.sum c.loop-member.invariant
    (omega (arith, past)))
