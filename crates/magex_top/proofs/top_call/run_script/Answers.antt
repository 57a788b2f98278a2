use Rattle.magex_top.proofs.Common.{◌≡◌, ◌∙◌, sym, ap, refl, Ok, Err, Rose, Halt, is_told, lines_in, Status, Done, Told, WriteFault, state_of}
use Rattle.magex_top.proofs.Common.{RunState, status_of}
use Rattle.std.proofs.Common.{Bool, true, false, if◌then◌else◌}
use Rattle.session_model.specs.declared.answer.Halt.TheVariants as halt
use Rattle.session_model.specs.Causes.{StoreFailed}
use Rattle.magex_top.proofs.RunLaws.{begins_from_first, calm_read, calm_write, read_told, reached_from_first, session_from_first, write_told}
use Rattle.magex_top.proofs.top_call.run_script.Goals as goal

told_status : (told holds : Bool) → holds ≡ told → holds ≡ true → Told ≡ (if told then Told else Done)
told_status told holds is tells = rw (sym is ∙ tells) refl

done_status : (told holds : Bool) → holds ≡ told → holds ≡ false → Done ≡ (if told then Told else Done)
done_status told holds is quiet = rw (sym is ∙ quiet) refl

pub returns-in-Ok-true-clause-meaning : goal.returns-in-Ok-true-clause-meaning
returns-in-Ok-true-clause-meaning g c before files told files_told ends =
    let (acts, means, reported, stored, tells, asked, came) = c.in-Ok-true.ensures.effect before files told files_told in
    let first : RunState = record { session = state_of c.new_session.result; budget = c.args.asked.budget } in (
      record { acts = acts; status = Told },
      session_from_first c.args.asked first c.args.text.now files acts Told
          (λ i. record { session = c.new_session.ensures.state i; budget = c.args.asked.budget }) means
          (told_status (is_told (lines_in acts)) c.in-Ok-true.field-0 tells c.in-Ok-true.field-0-test),
      refl,
      reported,
      stored,
      asked,
      came,
    )

pub returns-in-Ok-false-clause-meaning : goal.returns-in-Ok-false-clause-meaning
returns-in-Ok-false-clause-meaning g c before files told files_told ends =
    let (acts, means, reported, stored, tells, asked, came) = c.in-Ok-false.ensures.effect before files told files_told in
    let first : RunState = record { session = state_of c.new_session.result; budget = c.args.asked.budget } in (
      record { acts = acts; status = Done },
      session_from_first c.args.asked first c.args.text.now files acts Done
          (λ i. record { session = c.new_session.ensures.state i; budget = c.args.asked.budget }) means
          (done_status (is_told (lines_in acts)) c.in-Ok-false.field-0 tells c.in-Ok-false.field-0-test),
      refl,
      reported,
      stored,
      asked,
      came,
    )

pub returns-in-Ok-true-clause-beginning : goal.returns-in-Ok-true-clause-beginning
returns-in-Ok-true-clause-beginning g c before files told files_told =
    let Fails = StoreFailed {T = Bool} g.F.Shelf c.args.shelf.now c.run_lines.new.shelf (Ok c.in-Ok-true.field-0) in
    let Others = (Told ≡ WriteFault) × Rose (g.F.Shelf.store_faults c.args.shelf.now) (g.F.Shelf.store_faults c.run_lines.new.shelf) in
    let first : RunState = record { session = state_of c.new_session.result; budget = c.args.asked.budget } in
    reached_from_first c.args.asked first c.args.text.now files Fails Others before (g.K.Sink.written c.run_lines.new.report)
    (g.F.Shelf.files c.run_lines.new.shelf) (λ i. record { session = c.new_session.ensures.state i; budget = c.args.asked.budget })
    (λ (is, rose). (let no : ⊥ = cc in absurd no, rose)) (c.in-Ok-true.ensures.progress before files told files_told)

pub returns-in-Ok-false-clause-beginning : goal.returns-in-Ok-false-clause-beginning
returns-in-Ok-false-clause-beginning g c before files told files_told =
    let Fails = StoreFailed {T = Bool} g.F.Shelf c.args.shelf.now c.run_lines.new.shelf (Ok c.in-Ok-false.field-0) in
    let Others = (Done ≡ WriteFault) × Rose (g.F.Shelf.store_faults c.args.shelf.now) (g.F.Shelf.store_faults c.run_lines.new.shelf) in
    let first : RunState = record { session = state_of c.new_session.result; budget = c.args.asked.budget } in
    reached_from_first c.args.asked first c.args.text.now files Fails Others before (g.K.Sink.written c.run_lines.new.report)
    (g.F.Shelf.files c.run_lines.new.shelf) (λ i. record { session = c.new_session.ensures.state i; budget = c.args.asked.budget })
    (λ (is, rose). (let no : ⊥ = cc in absurd no, rose)) (c.in-Ok-false.ensures.progress before files told files_told)

-- a halt for a write ends a run so
status_is : (h : Halt) (status : Status) → status ≡ status_of h → ◌≡◌ {A = Halt} h halt.WriteFault → status ≡ WriteFault
status_is h status is same = is ∙ ap status_of same

pub returns-clause-beginning : goal.returns-clause-beginning
returns-clause-beginning g c before files told files_told =
    let Fails = StoreFailed {T = Bool} g.F.Shelf c.args.shelf.now c.run_lines.new.shelf (Err c.in-Err.halt) in
    let Others = (c.from.result ≡ WriteFault) × Rose (g.F.Shelf.store_faults c.args.shelf.now) (g.F.Shelf.store_faults c.run_lines.new.shelf) in
    let first : RunState = record { session = state_of c.new_session.result; budget = c.args.asked.budget } in
    reached_from_first c.args.asked first c.args.text.now files Fails Others before (g.K.Sink.written c.run_lines.new.report)
    (g.F.Shelf.files c.run_lines.new.shelf) (λ i. record { session = c.new_session.ensures.state i; budget = c.args.asked.budget })
    (λ (is, rose). (status_is c.in-Err.halt c.from.result c.from.ensures (cc), rose)) (c.in-Err.ensures.progress before files told files_told)

pub returns-clause-read_fault : goal.returns-clause-read_fault
returns-clause-read_fault g c = read_told Bool c.in-Err.halt c.from.result _ c.in-Err.ensures.causes.read_fault c.from.ensures

pub returns-clause-write_fault : goal.returns-clause-write_fault
returns-clause-write_fault g c = write_told Bool c.in-Err.halt c.from.result _ c.in-Err.ensures.causes.write_fault c.from.ensures

pub returns-clause-calm_report : goal.returns-clause-calm_report
returns-clause-calm_report g c = calm_write Bool c.in-Err.halt c.from.result _ c.in-Err.ensures.causes.calm_report c.from.ensures

pub returns-clause-calm_fetch : goal.returns-clause-calm_fetch
returns-clause-calm_fetch g c = calm_read Bool c.in-Err.halt c.from.result _ c.in-Err.ensures.causes.calm_fetch c.from.ensures

pub returns-clause-calm_store : goal.returns-clause-calm_store
returns-clause-calm_store g c = calm_write Bool c.in-Err.halt c.from.result _ c.in-Err.ensures.causes.calm_store c.from.ensures

pub returns-in-Ok-true-clause-begins_each : goal.returns-in-Ok-true-clause-begins_each
returns-in-Ok-true-clause-begins_each g c before files told files_told =
    let Fails = StoreFailed {T = Bool} g.F.Shelf c.args.shelf.now c.run_lines.new.shelf (Ok c.in-Ok-true.field-0) in
    let Others = (Told ≡ WriteFault) × Rose (g.F.Shelf.store_faults c.args.shelf.now) (g.F.Shelf.store_faults c.run_lines.new.shelf) in
    let first : RunState = record { session = state_of c.new_session.result; budget = c.args.asked.budget } in
    begins_from_first c.args.asked first c.args.text.now files Fails Others before (g.K.Sink.written c.run_lines.new.report)
    (g.F.Shelf.files c.run_lines.new.shelf) (λ i. record { session = c.new_session.ensures.state i; budget = c.args.asked.budget })
    (λ (is, rose). (let no : ⊥ = cc in absurd no, rose)) (c.in-Ok-true.ensures.cut_short c.lines_have_one_effect.ensures before files told files_told)

pub returns-in-Ok-false-clause-begins_each : goal.returns-in-Ok-false-clause-begins_each
returns-in-Ok-false-clause-begins_each g c before files told files_told =
    let Fails = StoreFailed {T = Bool} g.F.Shelf c.args.shelf.now c.run_lines.new.shelf (Ok c.in-Ok-false.field-0) in
    let Others = (Done ≡ WriteFault) × Rose (g.F.Shelf.store_faults c.args.shelf.now) (g.F.Shelf.store_faults c.run_lines.new.shelf) in
    let first : RunState = record { session = state_of c.new_session.result; budget = c.args.asked.budget } in
    begins_from_first c.args.asked first c.args.text.now files Fails Others before (g.K.Sink.written c.run_lines.new.report)
    (g.F.Shelf.files c.run_lines.new.shelf) (λ i. record { session = c.new_session.ensures.state i; budget = c.args.asked.budget })
    (λ (is, rose). (let no : ⊥ = cc in absurd no, rose)) (c.in-Ok-false.ensures.cut_short c.lines_have_one_effect.ensures before files told files_told)

pub returns-clause-begins_each : goal.returns-clause-begins_each
returns-clause-begins_each g c before files told files_told =
    let Fails = StoreFailed {T = Bool} g.F.Shelf c.args.shelf.now c.run_lines.new.shelf (Err c.in-Err.halt) in
    let Others = (c.from.result ≡ WriteFault) × Rose (g.F.Shelf.store_faults c.args.shelf.now) (g.F.Shelf.store_faults c.run_lines.new.shelf) in
    let first : RunState = record { session = state_of c.new_session.result; budget = c.args.asked.budget } in
    begins_from_first c.args.asked first c.args.text.now files Fails Others before (g.K.Sink.written c.run_lines.new.report)
    (g.F.Shelf.files c.run_lines.new.shelf) (λ i. record { session = c.new_session.ensures.state i; budget = c.args.asked.budget })
    (λ (is, rose). (status_is c.in-Err.halt c.from.result c.from.ensures (cc), rose))
    (c.in-Err.ensures.cut_short c.lines_have_one_effect.ensures before files told files_told)
