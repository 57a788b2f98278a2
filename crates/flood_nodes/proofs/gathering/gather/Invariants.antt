use Rattle.flood_nodes.proofs.Common.{seen_in}
use Rattle.flood_nodes.proofs.GatherLaws.{HasGathered}
use Rattle.flood_nodes.proofs.gathering.gather.Given as goal

abbrev pub invariant-loop-plane : goal.invariant-loop-plane
invariant-loop-plane g l = HasGathered l.plane (seen_in l.area (g.Y.Layers.kind l.layers)) l.tiles.items
