use Rattle.cif_forms.proofs.Common.{◌≡◌, ◌++◌, length}
use Rattle.cif_forms.specs.Words.{words_of}
use Rattle.cif_forms.proofs.words.words_of.Given as goal

abbrev pub invariant-loop-word : goal.invariant-loop-word
invariant-loop-word l = l.words.items ++ words_of l.rest ≡ words_of l.bytes

abbrev pub decreases-loop-word : goal.decreases-loop-word
decreases-loop-word l = length l.rest
