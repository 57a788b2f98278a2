-- The statuses of a run: their numbers, and which one ends a run in the midst of its script.
use Rattle.std.specs.Prelude.{ℕ}
use Rattle.session_model.specs.declared.answer.Halt.{Halt}
use Rattle.session_model.specs.declared.answer.Halt.TheVariants as halts
use Rattle.magex_top.specs.declared.status.Status.{Status}
use Rattle.magex_top.specs.declared.status.Status.TheVariants.{Done, Told, Usage, ReadFault, WriteFault, Memory, ScriptTooLong}

-- the exit status of the program
abbrev pub code_of : Status → ℕ
code_of Done = 0
code_of Told = 1
code_of Usage = 2
code_of ReadFault = 3
code_of WriteFault = 4
code_of Memory = 5
code_of ScriptTooLong = 6

abbrev pub status_of : Halt → Status
status_of halts.ReadFault = ReadFault
status_of halts.WriteFault = WriteFault
status_of halts.Memory = Memory
