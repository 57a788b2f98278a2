-- A cell without uses has one record.
use Rattle.uniqueness.proofs.Common.{◌≡◌, sym, ◌∙◌}
use Rattle.uniqueness.specs.OwnUniqueness.{OwnRecordsAreUnique}
use Rattle.uniqueness.proofs.SameFets.{fet_records_are_one}
use Rattle.uniqueness.proofs.SameNodes.{same_nodes}

pub own_records_are_one : OwnRecordsAreUnique
own_records_are_one raw layout labels name ext other well p q =
    let cell : ext.cell ≡ other.cell = p.cell ∙ sym q.cell in
    let tech : ext.tech ≡ other.tech = p.tech ∙ sym q.tech in
    let classes : ext.classes ≡ other.classes = p.classes ∙ sym q.classes in
    let uses : ext.uses ≡ other.uses = p.uses ∙ sym q.uses in
    let nodes : ext.nodes ≡ other.nodes = same_nodes raw layout labels ext.nodes other.nodes p.nodes q.nodes in
    let fets : ext.fets ≡ other.fets = (fet_records_are_one raw layout labels ext.fets other.fets well).0 p.fets q.fets in
    let merges : ext.merges ≡ other.merges = p.merges ∙ sym q.merges in
    (λ i. record {
      cell = cell i;
      tech = tech i;
      classes = classes i;
      uses = uses i;
      nodes = nodes i;
      fets = fets i;
      merges = merges i;
    })
