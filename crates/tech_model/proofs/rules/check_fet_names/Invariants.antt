use Rattle.tech_model.proofs.Common.{◌≡◌, drop, find, not, is_fet_name}
use Rattle.tech_model.proofs.rules.check_fet_names.Given as goal

abbrev pub invariant-loop-fet : goal.invariant-loop-fet
invariant-loop-fet l =
    find (λ fet. not (is_fet_name fet.name)) l.tech.fets ≡ find (λ fet. not (is_fet_name fet.name)) (drop l.fet-index l.tech.fets)
