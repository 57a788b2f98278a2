use Rattle.cell_library.proofs.Common.{◌≡◌, map, take, kept_uses}
use Rattle.cell_library.proofs.additions.kept_uses.Given as goal

-- the uses so far are kept
abbrev pub invariant-loop-used : goal.invariant-loop-used
invariant-loop-used l = map (λ entry. (entry.0.items, entry.1)) l.kept.items ≡ kept_uses l.contents (take l.used-index l.uses)
