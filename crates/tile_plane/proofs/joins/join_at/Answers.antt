use Rattle.tile_plane.proofs.Common.{sym, subst, arith, ints, IsProper, Tile}
use Rattle.tile_plane.proofs.JoinLaws.{IsJoining, whole_partition, whole_same, whole_proper, join_two, join_round, join_end, join_joined}
use Rattle.tile_plane.proofs.joins.join_at.Goals as goal
use Rattle.tile_plane.proofs.joins.join_at.Goals.{After-remove}

joining : (c : After-remove)
    → IsJoining c.args.store.now c.put.new.self c.remove.new.self c.args.id c.args.other c.get-tile.result c.get-part.result c.whole_of-whole.result
joining c = record {
  partition = c.requires.partition;
  stitches = c.requires.stitches;
  taken = c.requires.stands.taken;
  other_taken = c.requires.stands.other_taken;
  two = join_two c.requires.upward c.requires.stands;
  round = join_round c.requires.upward c.requires.stands;
  value = c.requires.value;
  is = c.get-tile.ensures;
  is_part = c.get-part.ensures;
  is_whole = c.whole_of-whole.ensures;
  put = c.put.ensures;
  gone = c.remove.ensures.gone;
  removed = c.remove.ensures.others;
}

pub put-requires-clause-proper : goal.put-requires-clause-proper
put-requires-clause-proper c = rw (c.whole_of-whole.ensures, c.get-tile.ensures, c.get-part.ensures)
    (whole_proper (join_round c.requires.upward c.requires.stands) c.requires.stands.taken.proper)

pub put-requires-clause-within : goal.put-requires-clause-within
put-requires-clause-within c =
    let within = c.requires.partition.within c.args.id c.requires.stands.taken in
    let other = c.requires.partition.within c.args.other c.requires.stands.other_taken in
    rw (c.whole_of-whole.ensures, c.get-tile.ensures, c.get-part.ensures) (omega (arith, ints))

pub remove-requires : goal.remove-requires
remove-requires c = record {
  proper = subst (λ (t : Tile). IsProper t.area)
      (sym (c.put.ensures.others c.args.other (λ e. join_two c.requires.upward c.requires.stands (sym e)))) c.requires.stands.other_taken.proper;
}

pub mend_end-requires : goal.mend_end-requires
mend_end-requires c =
    let join = joining (goal.at.mend_end-requires c).After-remove in
    record { partition = whole_partition join; end = join_end c.requires.upward c.requires.stands join }

pub returns : goal.returns
returns c =
    let join = joining (goal.at.returns c).After-remove in
    let still = whole_same join c.mend_end.ensures in
    record {
      partition = still.partition;
      stitches = still.stitches;
      same = still.same;
      joined = join_joined c.requires.upward c.requires.stands join c.mend_end.ensures;
    }
