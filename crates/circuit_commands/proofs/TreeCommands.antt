-- What `ext2sim` answers in each case.
use Rattle.circuit_commands.proofs.Common.{◌≡◌, ℕ, List, [], ◌∷◌, refl, inl, inr, All, fetched_by, Circuit, ArrayExt, plains, circuit_files}
use Rattle.circuit_commands.proofs.Common.{answers_refusal, Written, Ext2simMeans}
use Rattle.outside_io.specs.Files.{Files}
use Rattle.session_model.specs.declared.answer.Answer.{Answer}
use Rattle.session_model.specs.Effects.{AnswersFetching}
use Rattle.circuit_model.specs.declared.faults.FlatFault.{FlatFault}
use Rattle.circuit_model.specs.Refusals.{IsFlatFaultOf, IsFlatOf}
use Rattle.ext_loading.specs.Loads.{AreRead}
use Rattle.line_answers.specs.Refusals.{refusal_line}
use Rattle.circuit_commands.specs.Circuits.{IsSimWritten, lines_of, stores_of}
use Rattle.circuit_commands.specs.Refusals.{flat_refusal}

-- the circuit of the records is written, or passes a limit
pub writes_tree : (number : ℕ) (files : Files) (cell : List ℕ) (exts : List ArrayExt) (circuit : Circuit) (written : Written) (answer : Answer)
    → AreRead files cell exts → IsFlatOf (plains exts) cell circuit → IsSimWritten cell circuit written
    → answer.lines.items ≡ lines_of number written → answer.stores.items ≡ stores_of written
    → AnswersFetching (fetched_by circuit_files (All exts)) (Ext2simMeans number files cell) tt answer
writes_tree number files cell exts circuit written answer read flat is lines stores =
    inr (inr (record {
      exts = exts;
      are_read = read;
      circuit = circuit;
      is_flat = flat;
      written = written;
      is_written = is;
      is = λ i. record { state = tt; lines = lines i; stores = stores i; fetched = fetched_by circuit_files (All exts) };
    }))

-- the records mean no circuit
pub refuses_records : (number : ℕ) (files : Files) (cell : List ℕ) (exts : List ArrayExt) (fault : FlatFault) (answer : Answer)
    → AreRead files cell exts → IsFlatFaultOf (plains exts) cell fault
    → answer.lines.items ≡ refusal_line number (flat_refusal fault) ∷ [] → answer.stores.items ≡ []
    → AnswersFetching (fetched_by circuit_files (All exts)) (Ext2simMeans number files cell) tt answer
refuses_records number files cell exts fault answer read is lines stores =
    answers_refusal (Ext2simMeans number files cell) number tt (flat_refusal fault) (fetched_by circuit_files (All exts)) answer lines stores
    (inr (inl (record { exts = exts; are_read = read; fault = fault; is_fault = is; is = refl })))
