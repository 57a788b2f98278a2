use Rattle.names.proofs.Common.{◌≡◌, map, take, text_at}
use Rattle.names.proofs.naming.texts_at.Given as goal

abbrev pub invariant-loop-index : goal.invariant-loop-index
invariant-loop-index l = l.texts.items ≡ map (text_at l.labels) (take l.index-index l.indices)
