use Rattle.ext_text.proofs.Common.{◌≡◌, ◌++◌, map, drop}
use Rattle.ext_text.specs.WrittenTexts.{equiv_words, lines_text}
use Rattle.ext_text.proofs.writing.write_aliases_within.Given as goal

abbrev pub invariant-loop-alias : goal.invariant-loop-alias
invariant-loop-alias l = l.out.items ++ lines_text (map (equiv_words l.name) (drop l.alias-index l.aliases)) ≡ l.initial.out.items ++ lines_text (map (equiv_words l.name) l.aliases)
