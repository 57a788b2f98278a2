use Rattle.flatten.proofs.Common.{inl, inr, ◌∙◌, IfErr-weaker, ext_of}
use Rattle.flatten.proofs.FaultLaws.{flat_given, late_fault_at, something}
use Rattle.flatten.proofs.flat.flatten_plain.Goals as goal

pub returns-clause-fault : goal.returns-clause-fault
returns-clause-fault g c =
    let exts = c.args.exts.now in
    let root = c.args.root.now in
    let top = something (ext_of exts root) c.requires.root in
    let found = c.root_number-top.ensures.found ∙ top.1 in
    IfErr-weaker c.meant_circuit.result _ _
    (λ fault told. elim told [
      | inl memory ↦ inl memory
      | inr late ↦ inr (late_fault_at exts root c.root_number-top.result top.0 fault found top.1 c.in_ok-tree.ensures.sound c.in_ok-names.ensures.few late)
    ])
    c.meant_circuit.ensures.fault

pub returns-clause-meaning : goal.returns-clause-meaning
returns-clause-meaning g c =
    let exts = c.args.exts.now in
    let root = c.args.root.now in
    let top = something (ext_of exts root) c.requires.root in
    let found = c.root_number-top.ensures.found ∙ top.1 in
    flat_given g.S.FetSink.has exts root c.root_number-top.result top.0 found top.1 c.in_ok-tree.ensures.sound c.in_ok-names.ensures.few
    c.meant_circuit.result c.meant_circuit.ensures.sound c.meant_circuit.ensures.meaning
