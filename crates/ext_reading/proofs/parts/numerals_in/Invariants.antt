use Rattle.ext_reading.proofs.Common.{◌≡◌, numerals_from, numerals_in}
use Rattle.ext_reading.proofs.parts.numerals_in.Given as goal

-- what the words that are left add is what all of them give
abbrev pub invariant-loop-word : goal.invariant-loop-word
invariant-loop-word l = numerals_from l.numerals.items l.word-iterator ≡ numerals_in l.fn.words
