use Rattle.cif_forms.proofs.Common.{◌≡◌, length, without_last_blanks}
use Rattle.cif_forms.proofs.commands.without_last_blanks.Given as goal

abbrev pub invariant-loop-rest : goal.invariant-loop-rest
invariant-loop-rest l = without_last_blanks l.rest ≡ without_last_blanks l.bytes

abbrev pub decreases-loop-rest : goal.decreases-loop-rest
decreases-loop-rest l = length l.rest
