use Rattle.tile_members.proofs.Common.{◌≡◌, ◌-◌, ℕ, suc, List, [], ◌∷◌, drop, length, take, Vec, Global, Some, sym, ap, subst, ◌∙◌, arith, IsSome}
use Rattle.tile_members.proofs.Common.{IfOk-weaker, ArrayExt, path_text, plain, Table, ext_of, Step, RecordsTellGroups, first_member}
use Rattle.tile_members.proofs.Climbs.{Climbs, climbed_more, climbed_none}
use Rattle.tile_members.proofs.ListPlaces.{all_behind, first_split, none_there}
use Rattle.tile_members.proofs.member_names.MemberNames.+climb.Goals as goal

pub climb-requires : goal.climb-requires
climb-requires t c =
    let table = c.args.self.now.records.now in
    let steps = c.args.steps.now in
    let rest = take (length steps - 1) (drop 1 steps) in
    let same = first_split steps c.step-item.result c.in-len1-up.len_at_least c.step-item.is in
    let longer : length steps ≡ suc (length rest) = ap (λ (s : List Step). length s) same in (
      omega (arith, longer, c.decreases),
      (c.requires.groups, all_behind (λ (s : Step). IsSome (ext_of table s.child)) steps c.step-item.result rest same c.requires.kept),
    )

pub returns-in-empty-clause-leads : goal.returns-in-empty-clause-leads
returns-in-empty-clause-leads t c =
    let library = c.args.library.now in
    let table = c.args.self.now.records.now in
    IfOk-weaker c.from_slice.result (λ (name : Vec ℕ Global). name.items ≡ c.bytes.result.now)
    (λ (name : Vec ℕ Global). Climbs library c.lawful.ensures table c.args.steps.now c.args.node.now name.items)
    (λ name same.
    climbed_none library c.lawful.ensures table c.args.steps.now c.args.node.now name.items (none_there c.args.steps.now c.in-empty.len_below)
    (same ∙ c.bytes.ensures)) c.from_slice.ensures.items

pub returns-in_ok-below-in-len1-up-clause-leads : goal.returns-in_ok-below-in-len1-up-clause-leads
returns-in_ok-below-in-len1-up-clause-leads t c =
    let library = c.args.library.now in
    let table = c.args.self.now.records.now in
    let steps = c.args.steps.now in
    let step = c.step-item.result in
    let node = c.args.node.now in
    let below = c.in_ok-below-in-len1-up.below.items in
    let same = first_split steps step c.in-len1-up.len_at_least c.step-item.is in
    let tells : RecordsTellGroups library.tech = subst RecordsTellGroups c.tech.ensures c.records_tell_groups.ensures in
    IfOk-weaker c.name_above.result
    (λ (name : Vec ℕ Global). (ext : ArrayExt) → ext_of c.climb.new.self.records.now step.child ≡ Some ext
    → name.items ≡ path_text (step.id ∷ []) (first_member (plain ext).merges c.as_slice.result.now))
    (λ (name : Vec ℕ Global). Climbs library c.lawful.ensures table steps node name.items)
    (λ name named. climbed_more library c.lawful.ensures table tells steps step (take (length steps - 1) (drop 1 steps)) node below name.items same
    c.in_ok-below-in-len1-up.ensures.leads
    (λ ext is.
    named ext (subst (λ (r : Table). ext_of r step.child ≡ Some ext) (sym (ap (λ r. r.now) c.climb.ensures.records)) is)
    ∙ ap (λ (b : List ℕ). path_text (step.id ∷ []) (first_member (plain ext).merges b)) c.as_slice.ensures.value)) c.name_above.ensures.name
