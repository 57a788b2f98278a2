use Rattle.tech_model.proofs.SetLaws.{set_not_empty}
use Rattle.tech_model.proofs.JoinedLaws.{joined-type}
use Rattle.tech_model.proofs.laws.sets_name_types.Goals as goal

pub returns : goal.returns
returns c = λ raw well_formed rules t is.
    let full = set_not_empty raw t well_formed is in
    (full, joined-type raw t rules.own_sets is full)
