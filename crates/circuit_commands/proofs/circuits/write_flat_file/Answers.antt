use Rattle.circuit_commands.proofs.Common.{◌≡◌, ◌≤◌, ◌++◌, ◌∷◌, [], ℕ, List, sym, subst, rules, codes, IfOk-weaker, Written, reply}
use Rattle.std.proofs.Common.{length}
use Rattle.ext_text.specs.declared.limits.TheConstants.{LONGEST_TEXT}
use Rattle.ext_text.specs.WrittenTexts.{flat_text}
use Rattle.circuit_commands.specs.Circuits.{IsFlatWritten, flat_reply}
use Rattle.circuit_commands.proofs.circuits.write_flat_file.Goals as goal

pub returns-in_ok-flat_lines-in-Ok-clause-written : goal.returns-in_ok-flat_lines-in-Ok-clause-written
returns-in_ok-flat_lines-in-Ok-clause-written c =
    let text : c.in-Ok.text.items ≡ flat_text c.args.circuit.now = c.in-Ok.ensures.written in
    let short : length (flat_text c.args.circuit.now) ≤ LONGEST_TEXT = subst (λ (t : List ℕ). length t ≤ LONGEST_TEXT) text c.in-Ok.ensures.within in
    let lines : c.in_ok-flat_lines-in-Ok.field-0.items ≡ reply (flat_reply c.args.name.now c.args.circuit.now) ∷ [] = search rules in
    IfOk-weaker c.stored.result _ _
    (λ written is. subst (λ (w : Written). IsFlatWritten c.args.name.now c.args.circuit.now w) (sym is)
    (short, lines, λ i. record { name = c.args.name.now ++ codes ".flat.ext"; bytes = text i }))
    c.stored.ensures.stored
