use Rattle.session_model.proofs.Common.{◌≡◌, inl, inr, List, ℕ, [], append-nil, sym, ap, ◌∙◌, refl, subst, Some, Err, Rose, ComeFrom, StoreFailed}
use Rattle.session_model.proofs.Common.{line_kinds, Effect, after_fetches, is_told, WriteFault}
use Rattle.std.specs.Prelude.{Bool}
use Rattle.session_model.proofs.CauseLaws.{passed_on_as}
use Rattle.session_model.proofs.ProgressLaws.{DoesPart-weaker, on_err-given}
use Rattle.session_model.proofs.running.run_line.Goals as goal

pub returns-in_err-answer-clause-stopped : goal.returns-in_err-answer-clause-stopped
returns-in_err-answer-clause-stopped g c before files told files_told =
    on_err-given c.from_residual.result (
      [],
      files,
      inl (refl, refl),
      told ∙ ap (λ (xs : List ℕ). Some xs) (sym (append-nil before)),
      c.answer_line.ensures.files ∙ files_told,
    )

pub returns-in_err-carry_out-clause-stopped : goal.returns-in_err-carry_out-clause-stopped
returns-in_err-carry_out-clause-stopped g c before files told files_told =
    let answer = c.in_ok-answer.answer in
    let means = c.in_ok-answer.ensures.effect files files_told in
    let stopped = c.in_err-carry_out.ensures.some before files told (c.answer_line.ensures.files ∙ files_told) in
    let effect : Effect g.S.Session.State = record
    { state = g.S.Session.state c.answer_line.new.self; lines = answer.lines.items; stores = answer.stores.items; fetched = means.0 } in
    let Fails = StoreFailed {T = Unit {0}} g.F.Shelf c.answer_line.new.shelf c.carry_out.new.shelf (Err c.in_err-carry_out.field-0.0) in
    let Failed = StoreFailed g.F.Shelf c.args.shelf.now c.carry_out.new.shelf c.from_residual-in_err-carry_out.result in
    let part = DoesPart-weaker c.args.quiet Fails Failed
    (λ (is, rose). (
      passed_on_as (Unit {0}) Bool c.from_residual-in_err-carry_out.result c.in_err-carry_out.field-0.0 WriteFault
          c.from_residual-in_err-carry_out.ensures.1 is,
      subst (λ (n : ℕ). Rose n (g.F.Shelf.store_faults c.carry_out.new.shelf)) c.answer_line.ensures.causes.no_store rose,
    ))
    files answer.lines.items answer.stores.items stopped.0 stopped.1 stopped.2 in
    on_err-given c.from_residual-in_err-carry_out.result (
      stopped.0,
      stopped.1,
      inr (
        effect,
        ((c.args.session.now, c.requires, refl), (c.answer_line.new.self, c.answer_line.ensures.sound, refl), means.1),
        part,
      ),
      stopped.3,
      stopped.4,
    )

pub returns-clause-effect : goal.returns-clause-effect
returns-clause-effect g c before files told files_told =
    let answer = c.in_ok-answer.answer in
    let means = c.in_ok-answer.ensures.effect files files_told in
    let effect : Effect g.S.Session.State = record
    { state = g.S.Session.state c.answer_line.new.self; lines = answer.lines.items; stores = answer.stores.items; fetched = means.0 } in
    let done = c.in_ok-carry_out.ensures.all before files told (c.answer_line.ensures.files ∙ files_told) in
    let tells : c.is_told.result ≡ is_told answer.lines.items = c.is_told.ensures ∙ ap is_told c.as_slice.ensures.value in
    let refusals = c.in_ok-answer.ensures.causes.refusals in
    let came : ComeFrom g.F.Shelf c.args.shelf.now c.carry_out.new.shelf (line_kinds answer.lines.items) = record {
      absent = λ some. subst (λ (n : ℕ). Rose (g.F.Shelf.absences c.args.shelf.now) n) (sym c.carry_out.ensures.no_absence) (refusals.absent some);
      too_long = λ some. subst (λ (n : ℕ). Rose (g.F.Shelf.overlengths c.args.shelf.now) n) (sym c.carry_out.ensures.no_overlength) (refusals.too_long some);
    } in
    let asked : g.F.Shelf.fetch_plan c.carry_out.new.shelf ≡ after_fetches (g.F.Shelf.fetch_plan c.args.shelf.now) means.0 = c.carry_out.ensures.no_fetch_call
    ∙ means.2 in (
      effect,
      ((c.args.session.now, c.requires, refl), (c.answer_line.new.self, c.answer_line.ensures.sound, refl), means.1),
      refl,
      done.0,
      done.1,
      tells,
      asked,
      came,
    )
