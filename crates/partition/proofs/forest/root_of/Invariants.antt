use Rattle.std.proofs.Common.{◌≡◌, ◌<◌, length, get_or}
use Rattle.partition.specs.Parents.{PointDown, leaders_of}
use Rattle.partition.proofs.Ancestors.{Leads}
use Rattle.partition.proofs.forest.root_of.Given as goal

-- the classes stay, and the walk stays in that of the number
abbrev pub invariant-loop-parents : goal.invariant-loop-parents
invariant-loop-parents l =
    let leaders = leaders_of l.initial.parents in
    record {
      within : l.at < length l.parents;
      down : PointDown l.parents;
      leads : Leads l.parents leaders;
      same_class : get_or leaders l.at 0 ≡ get_or leaders l.number 0;
    }

abbrev pub decreases-loop-parents : goal.decreases-loop-parents
decreases-loop-parents l = l.at
