use Rattle.ext_text.proofs.Common.{◌≡◌, ◌++◌, take, behind_blanks}
use Rattle.ext_text.specs.NodeLines.{measure_words}
use Rattle.ext_text.proofs.words.append_measures.Given as goal

-- the measures passed have been appended
abbrev pub invariant-loop-measure : goal.invariant-loop-measure
invariant-loop-measure l = l.out.items ≡ l.initial.out.items ++ behind_blanks (measure_words (take l.measure-index l.measures))
