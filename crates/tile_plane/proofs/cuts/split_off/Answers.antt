use Rattle.tile_plane.proofs.Common.{◌≡◌, ℤ, w64, to_z, of_z, ◌∙◌, ap, subst, to_z-of_z, tile_at, Leads, opposite, square_at_cut, part_at, Side}
use Rattle.tile_plane.proofs.SplitLaws.{put_keeps, IsCutting, low_back, high_back, part_proper, part_within, cutting_partition, cutting_end, cutting_same, cutting_cut}
use Rattle.tile_plane.proofs.cuts.split_off.Goals as goal
use Rattle.tile_plane.proofs.cuts.split_off.Goals.{After-put}

cut : (c : After-put) → IsCutting c.args.side c.args.store.now c.insert.new.self c.put.new.self c.args.id c.in_ok-new.new
    c.beside_cut-near.result c.beside_cut-far.result c.args.at c.get-tile.result c.part_at-part.result c.part_at-rest.result
cut c =
    let same : to_z w64 (of_z w64 c.args.at) ≡ c.args.at = to_z-of_z w64 c.args.at c.ranges.at in
    record {
      off = record {
        partition = c.requires.partition;
        stitches = c.requires.stitches;
        taken = c.requires.taken;
        is = c.get-tile.ensures;
        is_part = c.part_at-part.ensures ∙ ap (λ (v : ℤ). part_at c.args.side v c.args.id c.beside_cut-near.result c.get-tile.result) same;
        is_rest = c.part_at-rest.ensures
            ∙ ap (λ (v : ℤ). part_at c.opposite-back.result v c.in_ok-new.new c.beside_cut-far.result c.get-tile.result) same
            ∙ ap (λ (s : Side). part_at s c.args.at c.in_ok-new.new c.beside_cut-far.result c.get-tile.result) c.opposite-back.ensures;
        free = c.in_ok-new.ensures.free;
        put_part = c.in_ok-new.ensures.put;
        put_rest = c.put.ensures;
      };
      from = c.requires.from;
      to = c.requires.to;
      near_leads = subst (λ (v : ℤ). Leads c.args.store.now c.beside_cut-near.result
          (square_at_cut c.args.side (tile_at c.args.store.now c.args.id).area v)) same c.beside_cut-near.ensures;
      far_leads = subst (λ (s : Side). Leads c.args.store.now c.beside_cut-far.result (square_at_cut s (tile_at c.args.store.now c.args.id).area c.args.at))
          c.opposite-back.ensures
          (subst (λ (v : ℤ). Leads c.args.store.now c.beside_cut-far.result
          (square_at_cut c.opposite-back.result (tile_at c.args.store.now c.args.id).area v)) same c.beside_cut-far.ensures);
    }

pub insert-requires-clause-proper : goal.insert-requires-clause-proper
insert-requires-clause-proper c =
    let same : to_z w64 (of_z w64 c.args.at) ≡ c.args.at = to_z-of_z w64 c.args.at c.ranges.at in
    rw (c.part_at-part.ensures, c.get-tile.ensures, same) (part_proper _ _ _ _ c.args.side c.requires.taken.proper c.requires.from c.requires.to)

pub insert-requires-clause-within : goal.insert-requires-clause-within
insert-requires-clause-within c =
    let same : to_z w64 (of_z w64 c.args.at) ≡ c.args.at = to_z-of_z w64 c.args.at c.ranges.at in
    rw (c.part_at-part.ensures, c.get-tile.ensures, same)
    (part_within _ _ _ _ c.args.side (c.requires.partition.within c.args.id c.requires.taken) c.requires.from c.requires.to)

pub put-requires-clause-proper : goal.put-requires-clause-proper
put-requires-clause-proper c =
    let same : to_z w64 (of_z w64 c.args.at) ≡ c.args.at = to_z-of_z w64 c.args.at c.ranges.at in
    rw (c.part_at-rest.ensures, c.opposite-back.ensures, c.get-tile.ensures, same)
    (part_proper _ _ _ _ (opposite c.args.side) c.requires.taken.proper (low_back c.args.side _ c.requires.from) (high_back c.args.side _ c.requires.to))

pub put-requires-clause-within : goal.put-requires-clause-within
put-requires-clause-within c =
    let same : to_z w64 (of_z w64 c.args.at) ≡ c.args.at = to_z-of_z w64 c.args.at c.ranges.at in
    rw (c.part_at-rest.ensures, c.opposite-back.ensures, c.get-tile.ensures, same)
    (part_within _ _ _ _ (opposite c.args.side) (c.requires.partition.within c.args.id c.requires.taken) (low_back c.args.side _ c.requires.from)
    (high_back c.args.side _ c.requires.to))

pub put-requires-clause-taken : goal.put-requires-clause-taken
put-requires-clause-taken c = put_keeps c.requires.taken c.in_ok-new.ensures.free c.in_ok-new.ensures.put

pub mend_end-requires : goal.mend_end-requires
mend_end-requires c =
    let at = cut (goal.at.mend_end-requires c).After-put in
    record { partition = cutting_partition at; end = cutting_end c.args.side at }

pub returns : goal.returns
returns c =
    let at = cut (goal.at.returns c).After-put in
    let all = c.mend_end.ensures in
    let still = cutting_same at all in
    record { partition = still.partition; stitches = still.stitches; same = still.same; cut = cutting_cut c.args.side at all; refused = tt }
