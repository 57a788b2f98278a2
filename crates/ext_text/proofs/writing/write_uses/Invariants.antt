use Rattle.ext_text.proofs.Common.{◌≡◌, ◌++◌, map, drop, use_words}
use Rattle.ext_text.specs.WrittenTexts.{lines_text}
use Rattle.ext_text.proofs.writing.write_uses.Given as goal

abbrev pub invariant-loop-used : goal.invariant-loop-used
invariant-loop-used l = l.out.items ++ lines_text (map use_words (drop l.used-index l.uses)) ≡ l.initial.out.items ++ lines_text (map use_words l.uses)
