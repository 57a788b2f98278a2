use Rattle.names.proofs.Common.{ℕ, length, ◌∙◌, Vec, Global, IfOk-weaker, AreGroups, AreGroupsBy, label_key}
use Rattle.names.proofs.GroupLaws.{groups_of_labels, label_keys_below}
use Rattle.names.proofs.groups.label_groups.Goals as goal

pub grouped-requires : goal.grouped-requires
grouped-requires c = label_keys_below c.args.classes.now c.args.named.now c.as_slice.result.now c.args.count
    (c.as_slice.ensures.value ∙ c.in_ok-keys.ensures) c.requires.classes c.requires.named

pub returns : goal.returns
returns c = IfOk-weaker c.grouped.result (λ (v : Vec (Vec ℕ Global) Global). AreGroups c.as_slice.result.now c.args.count v.items)
    (λ v. AreGroupsBy (label_key c.args.classes.now c.args.named.now) (length c.args.named.now) c.args.count v.items)
    (λ v are. groups_of_labels c.args.classes.now c.args.named.now c.as_slice.result.now c.args.count v.items
    (c.as_slice.ensures.value ∙ c.in_ok-keys.ensures) are)
    c.grouped.ensures
