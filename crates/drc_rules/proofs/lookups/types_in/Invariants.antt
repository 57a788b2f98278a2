use Rattle.std.proofs.Common.{◌≡◌, Ok, Err, if◌then◌else◌}
use Rattle.std.specs.Prelude.{fold}
use Rattle.std.specs.List.{list_any}
use Rattle.tech_draft.specs.Lookups.{with_type_once, entry_types}
use Rattle.drc_rules.specs.declared.faults.DrcFault.TheVariants.{NoLayer}
use Rattle.drc_rules.specs.RuleLines.{means_nothing, types_in}
use Rattle.drc_rules.proofs.lookups.types_in.Given as goal

-- what is left answers what all entries answer
abbrev pub invariant-loop-entry : goal.invariant-loop-entry
invariant-loop-entry l =
    (if list_any (means_nothing l.tech) l.entry-iterator
    then Err NoLayer
    else Ok (fold (λ types entry. fold with_type_once types (entry_types l.tech entry)) l.types.items l.entry-iterator))
    ≡ types_in l.tech l.list
