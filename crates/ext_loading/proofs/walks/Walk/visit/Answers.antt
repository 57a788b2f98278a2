use Rattle.ext_loading.proofs.Common.{◌≡◌, ◌∙◌, ◌∷◌, ap, sym, List, reverse, Err, after_fetches, StopsAsking, files_of, ArrayExt, circuit_files}
use Rattle.std.proofs.lemmas.Result.{err_from_is_err_and, on_ok_weaker}
use Rattle.finite_sets.proofs.Searches.{on_ok_both}
use Rattle.outside_io.specs.CallPlans.{told_after_call}
use Rattle.outside_io.specs.Files.{no_files}
use Rattle.session_model.proofs.FileTreeLaws.{asked_for_one, goes_past, stops_asking_here}
use Rattle.session_model.proofs.StopLaws.{refused_asking, refused_by}
use Rattle.ext_loading.specs.ExtFiles.{file_gives, is_read}
use Rattle.ext_loading.proofs.ReadingLaws.{goes_on_by, so_far_passed, so_far_read}
use Rattle.ext_loading.proofs.walks.Walk.visit.Goals as goal

pub returns-then-has-clause-so_far : goal.returns-then-has-clause-so_far
returns-then-has-clause-so_far g c root are =
    let read = c.args.self.now.read in
    so_far_passed root read c.args.name (reverse c.args.self.now.left.items)
    (ap (is_read read) (sym c.bytes.ensures) ∙ sym c.has.ensures ∙ c.if-has.true) are

pub returns-then-has-clause-goes_on : goal.returns-then-has-clause-goes_on
returns-then-has-clause-goes_on g c files told =
    goes_past circuit_files files c.args.self.now.read c.args.name (reverse c.args.self.now.left.items)
    (ap (is_read c.args.self.now.read) (sym c.bytes.ensures) ∙ sym c.has.ensures ∙ c.if-has.true)

pub returns-clause-so_far : goal.returns-clause-so_far
returns-clause-so_far g c root are =
    let read = c.args.self.now.read in
    on_ok_both c.add.result (λ read_is left_is. so_far_read read c.add.new.self.read c.args.self.now.left.items c.add.new.self.left.items c.args.name
    c.in_ok-ext.ext read_is left_is (ap (is_read read) (sym c.bytes.ensures) ∙ sym c.has.ensures ∙ c.if-has.false) root c.in_ok-ext.ensures.follows are)
    c.add.ensures.read c.add.ensures.left

pub returns-clause-goes_on : goal.returns-clause-goes_on
returns-clause-goes_on g c files told =
    let read = c.args.self.now.read in
    on_ok_both c.add.result (λ read_is left_is. goes_on_by read c.add.new.self.read c.args.self.now.left.items c.add.new.self.left.items c.args.name
    c.in_ok-ext.ext read_is left_is (ap (is_read read) (sym c.bytes.ensures) ∙ sym c.has.ensures ∙ c.if-has.false) files
    (c.in_ok-ext.ensures.read files told))
    c.add.ensures.read c.add.ensures.left

pub returns-in_err-ext-clause-stops : goal.returns-in_err-ext-clause-stops
returns-in_err-ext-clause-stops g c files told =
    let read = c.args.self.now.read in
    let left = reverse c.args.self.now.left.items in
    let told_on = err_from_is_err_and c.from_residual.result c.from_residual.ensures.1 in
    let old = g.F.Shelf.fetch_plan c.args.shelf.now in
    let new = g.F.Shelf.fetch_plan c.read_ext_file.new.shelf in
    refused_by c.from_residual.result c.in_err-ext.field-0.0 (λ told. (file_gives files read c.args.name ≡ Err told) × (new ≡ told_after_call old))
    (StopsAsking circuit_files files read (c.args.name ∷ left) old new) (told_on.1 ∙ ap Err told_on.2)
    (λ fault (gives, once). stops_asking_here circuit_files files read c.args.name left old new fault
    (ap (is_read read) (sym c.bytes.ensures) ∙ sym c.has.ensures ∙ c.if-has.false) gives once)
    (refused_asking ArrayExt old new c.in_err-ext.field-0.0 (λ told. file_gives files read c.args.name ≡ Err told) (c.in_err-ext.ensures.refused files told)
    c.in_err-ext.ensures.asked)

pub returns-then-has-clause-asked : goal.returns-then-has-clause-asked
returns-then-has-clause-asked g c = λ first asked. asked

pub returns-clause-asked : goal.returns-clause-asked
returns-clause-asked g c =
    let read = c.args.self.now.read in
    let old = g.F.Shelf.fetch_plan c.args.shelf.now in
    let new = g.F.Shelf.fetch_plan c.read_ext_file.new.shelf in
    on_ok_weaker c.add.result (λ read_is first asked. asked_for_one circuit_files no_files first old new read c.in_ok-ext.ext c.in_ok-ext.ensures.asked asked
    ∙ ap (λ (exts : List ArrayExt). after_fetches first (files_of circuit_files exts)) (sym read_is))
    c.add.ensures.read
