use Rattle.tech_draft.proofs.Common.{◌≡◌, ◌≤◌, length, arith, rules, layer_of_word, MOST_TYPES}
use Rattle.tech_draft.proofs.IndexLaws.{layer_of_word-bound}
use Rattle.tech_draft.proofs.draft.Draft.layer_of_word.Goals as goal

pub returns-clause-in_range : goal.returns-clause-in_range
returns-clause-in_range c =
    let room = c.self.invariant.room in
    let limit : length c.args.self.now.raw.layers ≤ MOST_TYPES = rw (← c.self.view_is)
    (omega (arith, room.layers_limit, room.types_limit)) in
    let below = layer_of_word-bound c.args.self.now.raw c.args.word.now limit in
    let value : c.unwrap_or.result.0 ≡ layer_of_word c.args.self.now.raw c.args.word.now = search rules in
    rw value below
