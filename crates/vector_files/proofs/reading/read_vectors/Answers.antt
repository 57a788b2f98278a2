use Rattle.vector_files.proofs.Common.{◌≡◌, ◌∙◌, Ok, Err, sym}
use Rattle.std.proofs.Common.{◌≢◌}
use Rattle.std.proofs.lemmas.Result.{IfOk-weaker, IfErr-weaker}
use Rattle.vector_files.specs.declared.faults.VecFault.TheVariants.{Memory}
use Rattle.vector_files.specs.VectorFiles.{IsWithin, vectors_in}
use Rattle.vector_files.proofs.Alike.{vectors-alike}
use Rattle.vector_files.proofs.FittingLines.{vectors_in-within}
use Rattle.vector_files.proofs.reading.read_vectors.Goals as goal

pub of-requires : goal.of-requires
of-requires c = rw c.items.ensures c.args.net.now.one_node

pub returns-in-Ok : goal.returns-in-Ok
returns-in-Ok c =
    let text = c.args.text.now in
    let net = c.args.net.now in
    let known = c.in-Ok.names in
    let found = c.read_lines.result in
    let same : vectors_in net.names text ≡ vectors_in known text =
    sym (vectors-alike known net.names (rw c.items.ensures at c.in-Ok.ensures) text) in
    record {
      read =
          IfOk-weaker found (λ vectors. vectors_in known text ≡ Ok vectors) (λ vectors. vectors_in net.names text ≡ Ok vectors)
          (λ vectors read. same ∙ read) c.read_lines.ensures.read;
      within =
          IfOk-weaker found (λ vectors. vectors_in known text ≡ Ok vectors) (IsWithin net)
          (λ vectors read. vectors_in-within net.net.nodes net.names net.named_within text vectors (same ∙ read)) c.read_lines.ensures.read;
      refused =
          IfErr-weaker found (λ at. at.fault ≢ Memory → vectors_in known text ≡ Err at)
          (λ at. at.fault ≢ Memory → vectors_in net.names text ≡ Err at)
          (λ at refused other. same ∙ refused other) c.read_lines.ensures.refused;
    }
