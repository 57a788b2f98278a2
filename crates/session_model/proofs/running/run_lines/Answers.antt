use Rattle.session_model.proofs.Common.{◌≡◌, ◌+◌, ◌∙◌, ap, subst, refl, sym, List, [], ◌∷◌, ◌++◌, ℕ, arith, length, Err, Ok, lines_of, WriteFault}
use Rattle.session_model.proofs.Common.{Rose, ReportLine, StoreFailed, AreCounted, Effect, with_stores, report_of, Act, MeansInSound, acts_of}
use Rattle.session_model.proofs.Common.{answers_in, lines_in, stores_in}
use Rattle.std.proofs.Common.{zero-add}
use Rattle.std.specs.Prelude.{Bool}
use Rattle.session_model.proofs.CauseLaws.{passed_on_as}
use Rattle.session_model.proofs.ProgressLaws.{BeginsNext-weaker, under_way_start, under_way_next, done_at_end, progress_in_line, progress_at_end}
use Rattle.session_model.proofs.CountedLaws.{none_counted, one_more_counted}
use Rattle.session_model.proofs.EffectLaws.{answers_and_last}
use Rattle.session_model.proofs.SessionLaws.{cut_short}
use Rattle.session_model.proofs.running.run_lines.Goals as goal

pub loop-line-init : goal.loop-line-init
loop-line-init g c =
    let left : c.into_iter-line-iterator.result ≡ lines_of c.args.text.now = c.into_iter-line-iterator.ensures.into_iter_gives
    ∙ c.lines-line-items.ensures.value in
    let first = g.S.Session.state c.args.session.now in
    record {
      numbered = rw c.into_iter-line-iterator.ensures.into_iter_gives (rw zero-add c.lines-line-items.ensures.count);
      sound = c.requires;
      same_store = refl;
      same_fetch = refl;
      same_report = refl;
      more_absences = omega arith;
      more_overlengths = omega arith;
      way = λ before files told files_told.
          let way = under_way_start (MeansInSound g.S.Session.state g.S.Session.is_sound g.S.Session.means) c.args.quiet first files before
          (g.F.Shelf.fetch_plan c.args.shelf.now) (lines_of c.args.text.now) (g.F.Shelf.files c.args.shelf.now)
          (g.K.Sink.written c.args.report.now) told files_told in
          let none = subst (λ (done : List (Effect g.S.Session.State)). AreCounted g.F.Shelf c.args.shelf.now c.args.shelf.now (answers_in (acts_of done)))
          (sym way.1) (none_counted g.F.Shelf c.args.shelf.now) in
          rw left ((way.0, none));
    }

pub returns-in_err-tells-clause-progress : goal.returns-in_err-tells-clause-progress
returns-in_err-tells-clause-progress g c before files told files_told =
    let first = g.S.Session.state c.args.session.now in
    let here = rw c.in-Some.ensures.steps at (c.loop-line.invariant.way before files told files_told) in
    let way = here.0 in
    let stopped = c.in_err-tells.ensures.stopped (before ++ report_of c.args.quiet (lines_in (acts_of way.done)))
    (with_stores files (stores_in (acts_of way.done))) way.reported
    way.files_are in
    let Fails = StoreFailed {T = Bool} g.F.Shelf c.loop-line.shelf c.run_line.new.shelf (Err c.in_err-tells.field-0.0) in
    let Failed = StoreFailed g.F.Shelf c.args.shelf.now c.run_line.new.shelf c.from_residual.result in
    let next = BeginsNext-weaker (MeansInSound g.S.Session.state g.S.Session.is_sound g.S.Session.means) c.args.quiet Fails Failed
    (λ (is, rose). (
      passed_on_as Bool Bool c.from_residual.result c.in_err-tells.field-0.0 WriteFault c.from_residual.ensures.1 is,
      subst
          (λ (n : ℕ). Rose n (g.F.Shelf.store_faults c.run_line.new.shelf)) c.loop-line.invariant.same_store rose,
    ))
    (c.loop-line.number + 1) (g.S.Session.state c.loop-line.session) (with_stores files (stores_in (acts_of way.done))) (c.in-Some.line.now ∷ [])
    stopped.0 stopped.1 stopped.2 in
    progress_in_line (MeansInSound g.S.Session.state g.S.Session.is_sound g.S.Session.means) c.args.quiet Failed first files before
    (g.F.Shelf.fetch_plan c.args.shelf.now)
    (g.F.Shelf.fetch_plan c.loop-line.shelf) (lines_of c.args.text.now) (g.S.Session.state c.loop-line.session)
    (g.F.Shelf.files c.loop-line.shelf) (g.F.Shelf.files c.run_line.new.shelf) (g.K.Sink.written c.loop-line.report)
    (g.K.Sink.written c.run_line.new.report) c.loop-line.number c.loop-line.told c.in-Some.line.now c.next.new.self way stopped.0 stopped.1 next
    stopped.3 stopped.4

pub loop-line-preserved : goal.loop-line-preserved
loop-line-preserved g c = record {
  numbered = omega (arith, ap length c.in-Some.ensures.steps, c.loop-line.invariant.numbered);
  sound = c.in_ok-tells.ensures.sound;
  same_store = c.in_ok-tells.ensures.causes.calm_store ∙ c.loop-line.invariant.same_store;
  same_fetch = c.in_ok-tells.ensures.causes.calm_fetch ∙ c.loop-line.invariant.same_fetch;
  same_report = c.in_ok-tells.ensures.causes.calm_report ∙ c.loop-line.invariant.same_report;
  more_absences = omega (arith, c.loop-line.invariant.more_absences, c.in_ok-tells.ensures.more_absences);
  more_overlengths = omega (arith, c.loop-line.invariant.more_overlengths, c.in_ok-tells.ensures.more_overlengths);
  way = λ before files told files_told.
      let first = g.S.Session.state c.args.session.now in
      let here = rw c.in-Some.ensures.steps at (c.loop-line.invariant.way before files told files_told) in
      let way = here.0 in
      let done = c.in_ok-tells.ensures.effect (before ++ report_of c.args.quiet (lines_in (acts_of way.done)))
      (with_stores files (stores_in (acts_of way.done))) way.reported
      way.files_are in
      let next = under_way_next (MeansInSound g.S.Session.state g.S.Session.is_sound g.S.Session.means) c.args.quiet first files before
      (g.F.Shelf.fetch_plan c.args.shelf.now) (g.F.Shelf.fetch_plan c.loop-line.shelf) (g.F.Shelf.fetch_plan c.run_line.new.shelf)
      (lines_of c.args.text.now) (g.S.Session.state c.loop-line.session)
      (g.S.Session.state c.run_line.new.session) (g.F.Shelf.files c.loop-line.shelf) (g.F.Shelf.files c.run_line.new.shelf)
      (g.K.Sink.written c.loop-line.report) (g.K.Sink.written c.run_line.new.report) c.loop-line.number c.loop-line.told c.in_ok-tells.tells
      c.in-Some.line.now c.next.new.self way done.0 done.1 done.2 done.3 done.4 done.5 done.6 in
      let counted = one_more_counted g.F.Shelf c.args.shelf.now c.loop-line.shelf c.run_line.new.shelf (answers_in (acts_of way.done)) done.0.lines
      c.loop-line.invariant.more_absences c.in_ok-tells.ensures.more_absences c.loop-line.invariant.more_overlengths
      c.in_ok-tells.ensures.more_overlengths here.1 done.7 in
      let answers_are = ap (λ (all : List (Effect g.S.Session.State)). answers_in (acts_of all)) next.1 ∙ answers_and_last way.done done.0 in
      (next.0, subst (λ (answers : List (List ReportLine)). AreCounted g.F.Shelf c.args.shelf.now c.run_line.new.shelf answers) (sym answers_are) counted);
}

pub returns-clause-effect : goal.returns-clause-effect
returns-clause-effect g c before files told files_told =
    let here = rw c.in-None.ensures.steps.0 at (c.loop-line.invariant.way before files told files_told) in
    let (effects, means, reported, stored, tells, asked, came) =
    done_at_end (MeansInSound g.S.Session.state g.S.Session.is_sound g.S.Session.means) c.args.quiet
    (g.S.Session.state c.args.session.now) files before (g.F.Shelf.fetch_plan c.args.shelf.now) (g.F.Shelf.fetch_plan c.loop-line.shelf)
    (lines_of c.args.text.now)
    (g.S.Session.state c.loop-line.session) (g.F.Shelf.files c.loop-line.shelf) (g.K.Sink.written c.loop-line.report) c.loop-line.number c.loop-line.told
    (λ (acts : List Act). AreCounted g.F.Shelf c.args.shelf.now c.loop-line.shelf (answers_in acts)) here.0 here.1 in
    (acts_of effects, (effects, means, refl), reported, stored, tells, asked, came)

pub returns-clause-progress : goal.returns-clause-progress
returns-clause-progress g c before files told files_told =
    let here = rw c.in-None.ensures.steps.0 at (c.loop-line.invariant.way before files told files_told) in
    let Fails = StoreFailed {T = Bool} g.F.Shelf c.args.shelf.now c.loop-line.shelf (Ok c.loop-line.told) in
    progress_at_end (MeansInSound g.S.Session.state g.S.Session.is_sound g.S.Session.means) c.args.quiet Fails (g.S.Session.state c.args.session.now) files
    before (g.F.Shelf.fetch_plan c.args.shelf.now) (g.F.Shelf.fetch_plan c.loop-line.shelf) (lines_of c.args.text.now)
    (g.S.Session.state c.loop-line.session) (g.F.Shelf.files c.loop-line.shelf) (g.K.Sink.written c.loop-line.report) c.loop-line.number
    c.loop-line.told here.0

pub returns-in_err-tells-clause-cut_short : goal.returns-in_err-tells-clause-cut_short
returns-in_err-tells-clause-cut_short g c one before files told files_told =
    let (reported, after, way, written, left) = returns-in_err-tells-clause-progress g c before files told files_told in
    let Fails = StoreFailed g.F.Shelf c.args.shelf.now c.run_line.new.shelf c.from_residual.result in (
      reported,
      after,
      written,
      left,
      λ acts means. cut_short (MeansInSound g.S.Session.state g.S.Session.is_sound g.S.Session.means) g.S.Session.means one
          c.args.quiet Fails (g.S.Session.state c.args.session.now) files (lines_of c.args.text.now) reported after way acts means,
    )

pub returns-clause-cut_short : goal.returns-clause-cut_short
returns-clause-cut_short g c one before files told files_told =
    let (reported, after, way, written, left) = returns-clause-progress g c before files told files_told in
    let Fails = StoreFailed {T = Bool} g.F.Shelf c.args.shelf.now c.loop-line.shelf (Ok c.loop-line.told) in (
      reported,
      after,
      written,
      left,
      λ acts means. cut_short (MeansInSound g.S.Session.state g.S.Session.is_sound g.S.Session.means) g.S.Session.means one
          c.args.quiet Fails (g.S.Session.state c.args.session.now) files (lines_of c.args.text.now) reported after way acts means,
    )
