use Rattle.cell_loading.proofs.Common.{◌≡◌, ◌∷◌, told_after_call, StopsAsking, CellBody, seen, cell_files, names_left, Err}
use Rattle.finite_sets.proofs.Searches.{on_ok_both}
use Rattle.std.proofs.lemmas.Result.{on_ok_weaker}
use Rattle.session_model.proofs.StopLaws.{refusal_weaker, refused_asking}
use Rattle.cell_loading.specs.CellFiles.{file_gives}
use Rattle.cell_loading.proofs.ReadingLaws.{stops_here}
use Rattle.cell_loading.proofs.WalkLaws.{asked_for_cell, read_few, read_frames, read_goes_on, read_pushed, read_so_far}
use Rattle.cell_loading.proofs.walks.Walk.read.Goals as goal

pub returns-in-Err-clause-stops : goal.returns-in-Err-clause-stops
returns-in-Err-clause-stops g c files read told are =
    let view = seen c.args.library.now in
    let cells = c.args.self.now.cells in
    let old = g.F.Shelf.fetch_plan c.args.shelf.now in
    let new = g.F.Shelf.fetch_plan c.read_cell_file.new.shelf in
    refusal_weaker c.in-Err.stop (λ told. (file_gives files view read c.args.name ≡ Err told) × (new ≡ told_after_call old))
    (StopsAsking (cell_files view) files read (c.args.name ∷ names_left cells c.args.self.now.frames.items) old new)
    (λ fault (gives, once).
    stops_here files view read cells c.args.name (names_left cells c.args.self.now.frames.items) old new fault are c.requires.new gives once)
    (refused_asking CellBody old new c.in-Err.stop (λ told. file_gives files view read c.args.name ≡ Err told) (c.in-Err.ensures.refused files read told are)
    c.in-Err.ensures.asked)

pub returns-in-Ok-clause-asked : goal.returns-in-Ok-clause-asked
returns-in-Ok-clause-asked g c =
    on_ok_weaker c.add.result (λ cells_are first asked. asked_for_cell first (g.F.Shelf.fetch_plan c.args.shelf.now)
    (g.F.Shelf.fetch_plan c.read_cell_file.new.shelf) c.args.self.now.cells c.add.new.self.cells c.args.name c.in-Ok.body cells_are c.in-Ok.ensures.asked asked)
    c.add.ensures.cells

pub returns-in-Ok-clause-so_far : goal.returns-in-Ok-clause-so_far
returns-in-Ok-clause-so_far g c =
    on_ok_both c.add.result (λ cells_are frames_are. read_so_far (seen c.args.library.now) c.args.self.now.cells c.args.self.now.frames.items
    c.args.name
    c.in-Ok.body c.add.new.self.cells c.add.new.self.frames.items cells_are frames_are c.requires.frames c.requires.so_far c.requires.new
    c.in-Ok.ensures.follows) c.add.ensures.cells c.add.ensures.frames

pub returns-in-Ok-clause-frames : goal.returns-in-Ok-clause-frames
returns-in-Ok-clause-frames g c =
    on_ok_both c.add.result (λ cells_are frames_are. read_frames (seen c.args.library.now) c.args.self.now.cells c.args.self.now.frames.items
    c.args.name
    c.in-Ok.body c.add.new.self.cells c.add.new.self.frames.items cells_are frames_are c.requires.frames) c.add.ensures.cells c.add.ensures.frames

pub returns-in-Ok-clause-pushed : goal.returns-in-Ok-clause-pushed
returns-in-Ok-clause-pushed g c =
    on_ok_both c.add.result (λ cells_are frames_are. read_pushed (seen c.args.library.now) c.args.self.now.cells c.args.self.now.frames.items
    c.args.name
    c.in-Ok.body c.add.new.self.cells c.add.new.self.frames.items cells_are frames_are c.requires.frames) c.add.ensures.cells c.add.ensures.frames

pub returns-in-Ok-clause-few : goal.returns-in-Ok-clause-few
returns-in-Ok-clause-few g c =
    on_ok_both c.add.result (λ cells_are frames_are. read_few (seen c.args.library.now) c.args.self.now.cells c.args.self.now.frames.items c.args.name
    c.in-Ok.body c.add.new.self.cells c.add.new.self.frames.items cells_are frames_are c.requires.frames c.in-Ok.ensures.follows.few_uses)
    c.add.ensures.cells c.add.ensures.frames

pub returns-in-Ok-clause-goes_on : goal.returns-in-Ok-clause-goes_on
returns-in-Ok-clause-goes_on g c files read told are =
    let given = c.in-Ok.ensures.read files read told are in
    on_ok_both c.add.result (λ cells_are frames_are. read_goes_on (seen c.args.library.now) c.args.self.now.cells c.args.self.now.frames.items
    c.args.name
    c.in-Ok.body c.add.new.self.cells c.add.new.self.frames.items cells_are frames_are c.requires.frames files read given.0 are c.requires.new given.1
    given.2) c.add.ensures.cells c.add.ensures.frames
