use Rattle.tech_model.proofs.Common.{ap, ◌∙◌, parts_of, without}
use Rattle.tech_model.proofs.MarkLaws.{mark_of-contact, residue_set}
use Rattle.tech_model.proofs.laws.marks_are_bits.Goals as goal

pub returns : goal.returns
returns c = λ raw well_formed layer below many contact.
    let bit = mark_of-contact raw layer well_formed below many contact in
    (bit, λ t image. ap (without (parts_of raw t)) bit ∙ residue_set raw layer t contact many image)
