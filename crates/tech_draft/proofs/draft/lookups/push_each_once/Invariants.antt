use Rattle.tech_draft.proofs.Common.{◌≡◌, drop, fold, with_type_once}
use Rattle.tech_draft.proofs.draft.lookups.push_each_once.Given as goal

-- what is left gives what all give
abbrev pub invariant-loop-kind : goal.invariant-loop-kind
invariant-loop-kind l = fold with_type_once l.types.items (drop l.kind-index l.more) ≡ fold with_type_once l.initial.types.items l.more
