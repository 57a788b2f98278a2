use Rattle.geo_core.proofs.StripSets.{strips_apart}
use Rattle.cell_paint.proofs.AreaLaws.{strips_proper, strips_near, strips_cover}
use Rattle.cell_paint.proofs.paints.strips_of.Goals as goal

pub returns-clause-proper : goal.returns-clause-proper
returns-clause-proper c = strips_proper c.args.areas.now c.in_ok-found.found.items c.requires.fits c.in_ok-found.ensures

pub returns-clause-near : goal.returns-clause-near
returns-clause-near c = strips_near c.args.areas.now c.in_ok-found.found.items c.requires.fits c.in_ok-found.ensures

pub returns-clause-apart : goal.returns-clause-apart
returns-clause-apart c = strips_apart _ c.in_ok-found.found.items c.in_ok-found.ensures

pub returns-clause-same : goal.returns-clause-same
returns-clause-same c = strips_cover c.args.areas.now c.in_ok-found.found.items c.requires.fits c.in_ok-found.ensures
