use Rattle.tile_members.proofs.Common.{cond, Some, ap, ◌∙◌, get, same_key}
use Rattle.tile_members.proofs.known_members.KnownMembers.add.Goals as goal

pub returns-clause-numbers : goal.returns-clause-numbers
returns-clause-numbers c = λ other.
    c.in_ok-insert.ensures.updates.0 other
    ∙ ap (λ m. cond (same_key c.args.key other) (Some c.in_ok-number.number) (get same_key m other)) c.enter.ensures.numbers
