use Rattle.names.proofs.Common.{ℕ, length, ◌∙◌, Vec, Global, IfOk-weaker, AreGroups, AreGroupsBy, region_key}
use Rattle.names.proofs.GroupLaws.{groups_of_regions, region_keys_below}
use Rattle.names.proofs.groups.region_groups.Goals as goal

pub grouped-requires : goal.grouped-requires
grouped-requires c = region_keys_below c.args.classes.now c.as_slice.result.now c.args.count (c.as_slice.ensures.value ∙ c.in_ok-keys.ensures) c.requires

pub returns : goal.returns
returns c = IfOk-weaker c.grouped.result (λ (v : Vec (Vec ℕ Global) Global). AreGroups c.as_slice.result.now c.args.count v.items)
    (λ v. AreGroupsBy (region_key c.args.classes.now) (length c.args.classes.now) c.args.count v.items)
    (λ v are. groups_of_regions c.args.classes.now c.as_slice.result.now c.args.count v.items (c.as_slice.ensures.value ∙ c.in_ok-keys.ensures) are)
    c.grouped.ensures
