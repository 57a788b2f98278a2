use Rattle.geo_core.proofs.Common.{rules, joined_rect}
use Rattle.geo_core.proofs.SquareLaws.{rect_is}
use Rattle.geo_core.proofs.squares.Rect.joined.Goals as goal

pub returns : goal.returns
returns c = rect_is _ (joined_rect c.args.self.now c.args.other.now) (search rules) (search rules) (search rules) (search rules)
