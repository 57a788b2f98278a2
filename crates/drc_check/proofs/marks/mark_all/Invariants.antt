use Rattle.drc_check.proofs.Common.{◌≡◌, ℕ, take, vec_len, In, TypeId, TYPE_NUMBERS, IsMarkedType}
use Rattle.drc_check.proofs.marks.mark_all.Given as goal

-- the types so far are marked, and all that were before
abbrev pub invariant-loop-kind : goal.invariant-loop-kind
invariant-loop-kind l = record {
  long : vec_len l.marks ≡ TYPE_NUMBERS;
  marked : (kind : TypeId) → In kind (take l.kind-index l.kinds) → IsMarkedType l.marks.items kind.0;
  kept : (number : ℕ) → IsMarkedType l.fn.marks.items number → IsMarkedType l.marks.items number;
}
