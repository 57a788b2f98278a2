-- Marks of types.
use Rattle.drc_check.proofs.Common.{◌<◌, inl, inr, ℕ, Bool, true, false, List, length, sym, subst, ◌∙◌, set, IsMarkedType}
use Rattle.std.proofs.Common.{get_or-set_other, get_or-set_same}
use Rattle.std.proofs.lemmas.Bool.{cases_eq}

-- what is marked is
pub mark_set : (marks : List Bool) (at : ℕ) → at < length marks → IsMarkedType (set marks at true) at
mark_set marks at inside = get_or-set_same marks at true false inside

-- and other marks stay
pub mark_kept : (marks : List Bool) (at number : ℕ) → at < length marks → IsMarkedType marks number → IsMarkedType (set marks at true) number
mark_kept marks at number inside is = elim (cases_eq number at) [
  | inl same ↦ subst (IsMarkedType (set marks at true)) (sym same) (mark_set marks at inside)
  | inr other ↦ get_or-set_other marks at number true false other ∙ is
]
