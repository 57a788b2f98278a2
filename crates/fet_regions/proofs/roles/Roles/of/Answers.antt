use Rattle.fet_regions.proofs.Common.{false, get_or, [], ◌∙◌}
use Rattle.fet_regions.proofs.RoleLaws.{channels_tabled, terminals_tabled}
use Rattle.fet_regions.proofs.roles.Roles.of.Goals as goal

pub returns : goal.returns
returns c =
    let raw = c.args.raw.now in
    record {
      channels = λ kind. (λ k. get_or (c.in_ok-channels.ensures k) kind false) ∙ channels_tabled raw c.requires kind;
      terminals = λ channel kind. (λ k. get_or (get_or (c.in_ok-terminals.ensures k) channel []) kind false) ∙ terminals_tabled raw c.requires channel kind;
    }
