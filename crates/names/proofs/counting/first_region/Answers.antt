use Rattle.names.proofs.Common.{◌∙◌}
use Rattle.names.proofs.TextMaps.{apart_from_test}
use Rattle.names.proofs.counting.first_region.Goals as goal

pub returns-clause-elsewhere : goal.returns-clause-elsewhere
returns-clause-elsewhere c = λ other apart.
    c.in_ok-insert.ensures.updates.2 other (apart_from_test c.in_ok-copy.field-0 other (λ e. apart (e ∙ c.in_ok-copy.ensures)))
