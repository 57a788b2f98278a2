use Rattle.tile_plane.proofs.Common.{sym, ◌∙◌, ap, rules, Tile}
use Rattle.tile_plane.proofs.TileLaws.{owner_taken}
use Rattle.tile_plane.proofs.ValueLaws.{value_of_owner, value_off_range}
use Rattle.tile_plane.proofs.sheets.Sheet.at.Goals as goal

pub returns-then-not-is_in_range : goal.returns-then-not-is_in_range
returns-then-not-is_in_range c = sym (value_off_range c.args.self.now.store c.args.square c.requires.plane.partition (search rules))

pub get-requires : goal.get-requires
get-requires c = owner_taken c.args.self.now.store c.find.result c.args.square c.find.ensures

pub returns : goal.returns
returns c =
    ap (λ (t : Tile). t.value) c.get.ensures
    ∙ sym (value_of_owner c.args.self.now.store c.find.result c.args.square c.requires.plane.partition c.find.ensures)
