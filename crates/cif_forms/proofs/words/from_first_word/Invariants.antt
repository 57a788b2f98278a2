use Rattle.cif_forms.proofs.Common.{◌≡◌, length, from_first_word}
use Rattle.cif_forms.proofs.words.from_first_word.Given as goal

abbrev pub invariant-loop-rest : goal.invariant-loop-rest
invariant-loop-rest l = from_first_word l.rest ≡ from_first_word l.bytes

abbrev pub decreases-loop-rest : goal.decreases-loop-rest
decreases-loop-rest l = length l.rest
