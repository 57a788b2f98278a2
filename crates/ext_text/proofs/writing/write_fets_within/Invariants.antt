use Rattle.ext_text.proofs.Common.{◌≡◌, ◌++◌, map, drop, fet_words}
use Rattle.ext_text.specs.WrittenTexts.{lines_text}
use Rattle.ext_text.proofs.writing.write_fets_within.Given as goal

abbrev pub invariant-loop-fet : goal.invariant-loop-fet
invariant-loop-fet l = l.out.items ++ lines_text (map fet_words (drop l.fet-index l.fets)) ≡ l.initial.out.items ++ lines_text (map fet_words l.fets)
