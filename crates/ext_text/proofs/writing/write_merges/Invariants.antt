use Rattle.ext_text.proofs.Common.{◌≡◌, ◌++◌, map, drop, merge_words}
use Rattle.ext_text.specs.WrittenTexts.{lines_text}
use Rattle.ext_text.proofs.writing.write_merges.Given as goal

abbrev pub invariant-loop-merge : goal.invariant-loop-merge
invariant-loop-merge l = l.out.items ++ lines_text (map merge_words (drop l.merge-index l.merges)) ≡ l.initial.out.items ++ lines_text (map merge_words l.merges)
