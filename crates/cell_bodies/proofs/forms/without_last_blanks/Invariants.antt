use Rattle.std.proofs.Common.{◌≡◌, length}
use Rattle.cell_bodies.specs.Words.{without_last_blanks}
use Rattle.cell_bodies.proofs.forms.without_last_blanks.Given as goal

abbrev pub invariant-loop-inner : goal.invariant-loop-inner
invariant-loop-inner l = without_last_blanks l.inner ≡ without_last_blanks l.bytes

abbrev pub decreases-loop-inner : goal.decreases-loop-inner
decreases-loop-inner l = length l.inner
