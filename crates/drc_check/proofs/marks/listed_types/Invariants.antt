use Rattle.drc_check.proofs.Common.{◌≡◌, ℕ, take, vec_len, TypeId, TYPE_NUMBERS, IsListedType, IsMarkedType}
use Rattle.drc_check.proofs.marks.listed_types.Given as goal

-- the types of the rules so far are marked
abbrev pub invariant-loop-rule : goal.invariant-loop-rule
invariant-loop-rule l = record {
  long : vec_len l.marks ≡ TYPE_NUMBERS;
  marked : (plane : ℕ) (kind : TypeId) → IsListedType (take l.rule-index l.rules) plane kind → IsMarkedType l.marks.items kind.0;
}
