use Rattle.ext_text.proofs.Common.{◌≡◌, ◌++◌, map, take, decimal, behind_blanks}
use Rattle.ext_text.proofs.words.append_coordinates.Given as goal

-- the values passed have been appended
abbrev pub invariant-loop-value : goal.invariant-loop-value
invariant-loop-value l = l.out.items ≡ l.initial.out.items ++ behind_blanks (map decimal (take l.value-index l.values))
