use Rattle.sim_records.proofs.Common.{◌≡◌, ◌<◌, ◌++◌, List, length, sym, ap, subst, ◌∙◌, FetRec, SimFet, MOST_SWITCHES, switches_of}
use Rattle.std.proofs.Common.{◌⊎◌, get_or, inl, inr}
use Rattle.std.specs.Prelude.{IfErr}
use Rattle.std.proofs.lemmas.Result.{err_from_is_err_and}
use Rattle.sim_text.specs.declared.faults.SimFault.{SimFault}
use Rattle.sim_text.specs.declared.faults.SimFault.TheVariants.{Memory}
use Rattle.sim_records.specs.SimRecords.{HasTooManySwitches}
use Rattle.sim_records.proofs.Additions.{too_many_switches}
use Rattle.sim_records.proofs.records.sim_of.Goals as goal

pub returns-in_err-add_switches-clause-fault : goal.returns-in_err-add_switches-clause-fault
returns-in_err-add_switches-clause-fault c =
    let circuit = c.args.circuit.now in
    let fet = c.fet-item.result in
    let given = err_from_is_err_and c.from_residual.result c.from_residual.ensures.1 in
    let told : (c.in_err-add_switches.field-0.0 ≡ Memory) ⊎ HasTooManySwitches c.in_err-add_switches.field-0.0 circuit =
    elim c.in_err-add_switches.ensures.fault [
      | inl memory ↦ inl memory
      | inr many ↦
          inr (
            many.0,
            too_many_switches circuit.fets c.loop-fet.fet-index fet
                (subst (λ (fets : List FetRec). c.loop-fet.fet-index < length fets) c.items-fet-items.ensures c.loop-fet-test.true)
                (c.fet-item.is ∙ ap (λ (fets : List FetRec). get_or fets c.loop-fet.fet-index fet) c.items-fet-items.ensures)
                (subst (λ (items : List SimFet). MOST_SWITCHES < length (items ++ switches_of fet)) c.loop-fet.invariant.items many.1),
          )
    ] in
    subst (λ r. IfErr r (λ fault. (fault ≡ Memory) ⊎ HasTooManySwitches fault circuit)) (sym given.1)
    (subst (λ (fault : SimFault). (fault ≡ Memory) ⊎ HasTooManySwitches fault circuit) (sym given.2) told)
