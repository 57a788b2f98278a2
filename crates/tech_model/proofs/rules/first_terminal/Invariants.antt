use Rattle.tech_model.proofs.Common.{◌≡◌, drop, map, find, flat_map, is_bad_terminal}
use Rattle.tech_model.specs.Rules.{fet_terminals}
use Rattle.tech_model.proofs.rules.first_terminal.Given as goal

abbrev pub invariant-loop-fet : goal.invariant-loop-fet
invariant-loop-fet l =
    find (is_bad_terminal l.tech) (fet_terminals l.tech)
    ≡ find (is_bad_terminal l.tech) (flat_map (λ fet. map (λ t. (fet.kind, t)) fet.terminals) (drop l.fet-index l.tech.fets))
