use Rattle.partition.specs.Divides.{IsPair}
use Rattle.partition.proofs.Uniqueness.{SameClasses-divided, IsNumbered-unique}
use Rattle.partition.proofs.stream.labels_are_unique.Goals as goal

pub returns : goal.returns
returns c = λ pairs labels others count number long d e n m.
    IsNumbered-unique labels others count number long (SameClasses-divided labels others (IsPair pairs) long d e) n m
