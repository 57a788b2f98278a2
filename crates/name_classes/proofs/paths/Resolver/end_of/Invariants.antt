use Rattle.name_classes.proofs.Common.{length}
use Rattle.name_classes.proofs.PathLaws.{IsWalk}
use Rattle.name_classes.proofs.paths.Resolver.end_of.Given as goal

abbrev pub invariant-loop-id : goal.invariant-loop-id
invariant-loop-id l = IsWalk l.self.names.now l.number l.path l.at l.rest

abbrev pub decreases-loop-id : goal.decreases-loop-id
decreases-loop-id l = length l.rest
