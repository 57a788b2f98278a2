use Rattle.meeting_sums.proofs.Common.{◌<◌, sym, subst, All, Amount, class_of, area_beyond}
use Rattle.meeting_sums.proofs.ColumnLaws.{group_keys}
use Rattle.meeting_sums.proofs.columns.areas_in.Goals as goal

pub sums_by_key-requires : goal.sums_by_key-requires
sums_by_key-requires c =
    subst (All (λ (a : Amount). a.key < c.args.count)) (sym c.as_slice.ensures.value)
    (group_keys c.args.groups.now (area_beyond (class_of c.args.class.now).contains c.args.stacks.now c.args.groups.now) c.in_ok-amounts.amounts.items
    c.push_areas.new.amounts.items c.args.count c.in_ok-amounts.ensures.items c.in_ok-push_areas.ensures c.requires.counted)
