use Rattle.ext_text.proofs.Common.{◌≡◌, ◌++◌, take, flat_map, behind_blanks, term_words}
use Rattle.ext_text.proofs.records.append_terms.Given as goal

-- the terminals passed have been appended
abbrev pub invariant-loop-side : goal.invariant-loop-side
invariant-loop-side l = l.out.items ≡ l.initial.out.items ++ behind_blanks (flat_map term_words (take l.side-index l.sides))
