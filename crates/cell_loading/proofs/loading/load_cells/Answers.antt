use Rattle.cell_loading.proofs.Common.{◌∙◌, [], ◌∷◌, sym, ap, GivesFetching, StopsAsking, seen, cell_named, LoadGives, cell_files, files_read}
use Rattle.std.proofs.lemmas.Result.{IfOk-weaker}
use Rattle.session_model.proofs.StopLaws.{refusal_told}
use Rattle.cell_loading.specs.Arrivals.{Arrives}
use Rattle.cell_loading.proofs.ArrivalLaws.{arrived, file_refuses}
use Rattle.cell_loading.proofs.KnownLaws.{new_is_not_among, not_named}
use Rattle.cell_loading.proofs.loading.load_cells.Goals as goal

pub read_below-requires-clause-new : goal.read_below-requires-clause-new
read_below-requires-clause-new g c =
    new_is_not_among c.args.library.now c.args.root.now c.find.result
    (c.find.ensures ∙ ap (cell_named (seen c.args.library.now)) c.bytes.ensures) (sym c.is_some.ensures ∙ c.if-is_some.false)

pub returns-in-Ok-clause-effect : goal.returns-in-Ok-clause-effect
returns-in-Ok-clause-effect g c files told =
    let unknown = not_named c.args.library.now c.args.root.now c.find.result
    (c.find.ensures ∙ ap (cell_named (seen c.args.library.now)) c.bytes.ensures) (sym c.is_some.ensures ∙ c.if-is_some.false) in
    IfOk-weaker c.add_cells.result (Arrives c.args.library.now c.add_cells.new.library c.in-Ok.cells.items)
    (λ given. GivesFetching (LoadGives files c.args.library.now c.add_cells.new.library c.args.root.now given) (g.F.Shelf.fetch_plan c.args.shelf.now)
    (g.F.Shelf.fetch_plan c.read_below.new.shelf))
    (λ given came. (
      files_read c.in-Ok.cells.items,
      arrived files c.args.library.now c.add_cells.new.library c.args.root.now c.in-Ok.cells.items given unknown (c.in-Ok.ensures.read files told) came,
      c.in-Ok.ensures.asked,
    )) c.add_cells.ensures.arrives

pub returns-in-Err-Refused-clause-effect : goal.returns-in-Err-Refused-clause-effect
returns-in-Err-Refused-clause-effect g c files told =
    let unknown = not_named c.args.library.now c.args.root.now c.find.result
    (c.find.ensures ∙ ap (cell_named (seen c.args.library.now)) c.bytes.ensures) (sym c.is_some.ensures ∙ c.if-is_some.false) in
    let plan = g.F.Shelf.fetch_plan c.args.shelf.now in
    let now = g.F.Shelf.fetch_plan c.read_below.new.shelf in
    file_refuses files c.args.library.now c.args.root.now plan now c.in-Err-Refused.fault unknown
    (refusal_told c.in-Err-Refused.field-0 c.in-Err-Refused.fault
    (StopsAsking (cell_files (seen c.args.library.now)) files [] (c.args.root.now ∷ []) plan now) c.in-Err-Refused.field-0-is
    (c.in-Err-Refused.ensures.refused files told))
