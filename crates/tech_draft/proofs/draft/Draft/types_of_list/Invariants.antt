use Rattle.tech_draft.proofs.Common.{◌≡◌, fold, with_type_once, entry_types, types_of_list}
use Rattle.tech_draft.proofs.draft.Draft.types_of_list.Given as goal

-- what is left gives what all give
abbrev pub invariant-loop-entry : goal.invariant-loop-entry
invariant-loop-entry l =
    fold (λ types entry. fold with_type_once types (entry_types l.self.raw entry)) l.types.items l.entry-iterator
    ≡ types_of_list l.self.raw l.list
