use Rattle.name_classes.proofs.Common.{take, AreFirsts}
use Rattle.name_classes.proofs.links.all_firsts.Given as goal

abbrev pub invariant-loop-links : goal.invariant-loop-links
invariant-loop-links l = AreFirsts (take l.links-index l.all) l.ends.items
