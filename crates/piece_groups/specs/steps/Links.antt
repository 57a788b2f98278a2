-- Which of the members in name order have one mark.
use Rattle.std.specs.Prelude.{◌≡◌, ◌<◌, ◌≤◌, ◌+◌, ◌==◌, ℕ, Option, None, List, drop, length, slice_index, slice_index_or}
use Rattle.std.specs.List.{position_from}
use Rattle.piece_groups.specs.declared.links.LinkedMembers.{LinkedMembers}
use Rattle.piece_groups.specs.steps.Members.{marks_of}

-- the first place at or behind another that has the mark
abbrev pub place_with : List ℕ → ℕ → ℕ → Option ℕ
place_with marks from mark = position_from (λ other. other == mark) from (drop from marks)

-- Behind this place, the first place of each of so many marks is known, and the next place with the mark of each.
pub record AreLinkedFrom (marks : List ℕ) (bound from : ℕ) (firsts nexts : List (Option ℕ)) : Type 0 where
  pub as_many : length firsts ≡ bound
  pub first : (mark : ℕ) → mark < bound → slice_index_or firsts mark None ≡ place_with marks from mark
  pub long : length nexts ≡ length marks
  pub next : (place : ℕ) → from ≤ place → place < length marks → slice_index_or nexts place None ≡ place_with marks (place + 1) (slice_index marks place)

-- The first place of each mark is known, and for each member the next place with its mark.
abbrev pub AreLinked : LinkedMembers → Type 0
AreLinked linked = AreLinkedFrom (marks_of linked.members.items) (length linked.firsts.items) 0 linked.firsts.items linked.nexts.items
