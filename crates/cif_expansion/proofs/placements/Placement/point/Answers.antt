-- Each orientation's arm computes what its matrix says.
use Rattle.cif_expansion.proofs.Common.{arith, ints, chain_reach}
use Rattle.geo_core.specs.declared.orients.Orient.TheVariants.{R0, R90, R180, R270, Mx, My, Mx90, My90}
use Rattle.cif_expansion.proofs.ViewLaws.{dx_seen, dy_seen, point_seen}
use Rattle.cif_expansion.proofs.placements.Placement.point.Goals as goal

pub returns-in-R0 : goal.returns-in-R0
returns-in-R0 c = point_seen _ _ R0 _ _ c.args.x c.args.y c.self.view_is c.in-R0.is
    (omega (arith, ints, dx_seen chain_reach _ _ c.self.view_is c.requires.moves))
    (omega (arith, ints, dy_seen chain_reach _ _ c.self.view_is c.requires.moves))

pub returns-in-R90 : goal.returns-in-R90
returns-in-R90 c = point_seen _ _ R90 _ _ c.args.x c.args.y c.self.view_is c.in-R90.is
    (omega (arith, ints, dx_seen chain_reach _ _ c.self.view_is c.requires.moves))
    (omega (arith, ints, dy_seen chain_reach _ _ c.self.view_is c.requires.moves))

pub returns-in-R180 : goal.returns-in-R180
returns-in-R180 c = point_seen _ _ R180 _ _ c.args.x c.args.y c.self.view_is c.in-R180.is
    (omega (arith, ints, dx_seen chain_reach _ _ c.self.view_is c.requires.moves))
    (omega (arith, ints, dy_seen chain_reach _ _ c.self.view_is c.requires.moves))

pub returns-in-R270 : goal.returns-in-R270
returns-in-R270 c = point_seen _ _ R270 _ _ c.args.x c.args.y c.self.view_is c.in-R270.is
    (omega (arith, ints, dx_seen chain_reach _ _ c.self.view_is c.requires.moves))
    (omega (arith, ints, dy_seen chain_reach _ _ c.self.view_is c.requires.moves))

pub returns-in-Mx : goal.returns-in-Mx
returns-in-Mx c = point_seen _ _ Mx _ _ c.args.x c.args.y c.self.view_is c.in-Mx.is
    (omega (arith, ints, dx_seen chain_reach _ _ c.self.view_is c.requires.moves))
    (omega (arith, ints, dy_seen chain_reach _ _ c.self.view_is c.requires.moves))

pub returns-in-My : goal.returns-in-My
returns-in-My c = point_seen _ _ My _ _ c.args.x c.args.y c.self.view_is c.in-My.is
    (omega (arith, ints, dx_seen chain_reach _ _ c.self.view_is c.requires.moves))
    (omega (arith, ints, dy_seen chain_reach _ _ c.self.view_is c.requires.moves))

pub returns-in-Mx90 : goal.returns-in-Mx90
returns-in-Mx90 c = point_seen _ _ Mx90 _ _ c.args.x c.args.y c.self.view_is c.in-Mx90.is
    (omega (arith, ints, dx_seen chain_reach _ _ c.self.view_is c.requires.moves))
    (omega (arith, ints, dy_seen chain_reach _ _ c.self.view_is c.requires.moves))

pub returns-in-My90 : goal.returns-in-My90
returns-in-My90 c = point_seen _ _ My90 _ _ c.args.x c.args.y c.self.view_is c.in-My90.is
    (omega (arith, ints, dx_seen chain_reach _ _ c.self.view_is c.requires.moves))
    (omega (arith, ints, dy_seen chain_reach _ _ c.self.view_is c.requires.moves))
