-- What ends a reading of files before all of them are read: a refusal, or a halt.
use Rattle.std.specs.Prelude.{◌≡◌, List, [], ◌∷◌, Option, Some, None, Result, Ok, Err}
use Rattle.outside_io.specs.CallPlans.{CallPlan, told_after_call}
use Rattle.session_model.specs.declared.answer.Halt.{Halt}
use Rattle.session_model.specs.declared.answer.Halt.TheVariants.{Memory}
use Rattle.session_model.specs.declared.report.Cause.{Cause}
use Rattle.session_model.specs.declared.report.Cause.TheVariants.{Inside}
use Rattle.session_model.specs.declared.report.LineKind.{LineKind}
use Rattle.session_model.specs.declared.report.LineKind.TheVariants.{Refusal}
use Rattle.session_model.specs.declared.stops.Stop.{Stop}
use Rattle.session_model.specs.declared.stops.Stop.TheVariants.{Refused, Halted}

-- what is told where there was no halt: nothing, or a refusal
abbrev pub answer_of : {T Fault : Type 0} → Result T (Stop Fault) → Result (Option Fault) Halt
answer_of (Ok value) = Ok None
answer_of (Err (Refused told)) = Ok (Some told)
answer_of (Err (Halted halt)) = Err halt

-- the kinds of the lines that it makes, by what each refusal comes from
abbrev pub kinds_of_told : {Fault : Type 0} → (Fault → Cause) → Option Fault → List LineKind
kinds_of_told cause None = []
kinds_of_told cause (Some told) = Refusal (cause told) ∷ []

-- The shelf was asked once, unless a halt ended the call.
abbrev pub AsksOnce : {T Fault : Type 0} → Option CallPlan → Option CallPlan → Result T (Stop Fault) → Type 0
AsksOnce old new (Ok value) = new ≡ told_after_call old
AsksOnce old new (Err (Refused told)) = new ≡ told_after_call old
AsksOnce old new (Err (Halted halt)) = Unit {0}

-- P, where this is a refusal
abbrev pub IfRefusal : {Fault : Type 0} → Stop Fault → (Fault → Type 0) → Type 0
IfRefusal (Refused told) P = P told
IfRefusal (Halted halt) P = Unit {0}

-- P, where it is refused
abbrev pub IfRefused : {T Fault : Type 0} → Result T (Stop Fault) → (Fault → Type 0) → Type 0
IfRefused (Ok value) P = Unit {0}
IfRefused (Err stop) P = IfRefusal stop P

-- It comes from inside: a refusal is not for a file that could not be had, and a halt is want of memory.
abbrev pub ComesFromInside : {T Fault : Type 0} → (Fault → Cause) → Result T (Stop Fault) → Type 0
ComesFromInside cause (Ok value) = Unit {0}
ComesFromInside cause (Err (Refused told)) = cause told ≡ Inside
ComesFromInside cause (Err (Halted halt)) = halt ≡ Memory
