use Rattle.ext_reading.proofs.Common.{◌≡◌, length, is_path}
use Rattle.ext_reading.proofs.parts.is_path.Given as goal

-- the names so far are of their form
abbrev pub invariant-loop-name : goal.invariant-loop-name
invariant-loop-name l = is_path l.left ≡ is_path l.text

abbrev pub decreases-loop-name : goal.decreases-loop-name
decreases-loop-name l = length l.left
