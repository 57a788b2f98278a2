use Rattle.cell_loading.proofs.Common.{inl, inr, seen, rest_of}
use Rattle.cell_loading.proofs.LeftLaws.{frames_replaced, known_taken, left_popped, left_taken, nothing_taken, one_popped, one_taken, unknown_taken}
use Rattle.cell_loading.proofs.walks.Walk.advance.Goals as goal

pub returns-in-Nothing-clause-taken : goal.returns-in-Nothing-clause-taken
returns-in-Nothing-clause-taken c =
    let cells = c.args.self.now.cells in
    inl (left_popped cells c.args.self.now.frames.items c.pop.new.self.items c.in-Some.frame c.in-Some.ensures.items
    (nothing_taken (seen c.args.library.now) cells (rest_of cells c.in-Some.frame) (rest_of cells c.take_use.new.frame) c.in_ok-take_use.field-0
    c.in-Nothing.is c.in_ok-take_use.ensures.taken))

pub returns-in-Nothing-clause-less : goal.returns-in-Nothing-clause-less
returns-in-Nothing-clause-less c =
    let cells = c.args.self.now.cells in
    one_popped cells c.args.self.now.frames.items c.pop.new.self.items c.in-Some.frame c.in-Some.ensures.items
    (left_popped cells c.args.self.now.frames.items c.pop.new.self.items c.in-Some.frame c.in-Some.ensures.items
    (nothing_taken (seen c.args.library.now) cells (rest_of cells c.in-Some.frame) (rest_of cells c.take_use.new.frame) c.in_ok-take_use.field-0
    c.in-Nothing.is c.in_ok-take_use.ensures.taken))

pub returns-in_ok-push-in-Known-clause-frames : goal.returns-in_ok-push-in-Known-clause-frames
returns-in_ok-push-in-Known-clause-frames c =
    frames_replaced _ c.args.self.now.frames.items c.pop.new.self.items c.push.new.self.items c.in-Some.frame c.take_use.new.frame
    c.in-Some.ensures.items c.in_ok-push-in-Known.ensures.items c.take_use.ensures.same c.requires.frames

pub returns-in_ok-push-in-Known-clause-taken : goal.returns-in_ok-push-in-Known-clause-taken
returns-in_ok-push-in-Known-clause-taken c =
    let cells = c.args.self.now.cells in
    let known = known_taken (seen c.args.library.now) cells (rest_of cells c.in-Some.frame)
    (rest_of cells c.take_use.new.frame) c.in_ok-take_use.field-0
    c.in-Known.is c.in_ok-take_use.ensures.taken in
    inr (
      known.0,
      left_taken cells c.args.self.now.frames.items c.pop.new.self.items c.push.new.self.items c.in-Some.frame c.take_use.new.frame known.0
          c.in-Some.ensures.items c.in_ok-push-in-Known.ensures.items known.1,
      known.2,
    )

pub returns-in_ok-push-in-Known-clause-less : goal.returns-in_ok-push-in-Known-clause-less
returns-in_ok-push-in-Known-clause-less c =
    let cells = c.args.self.now.cells in
    let known = known_taken (seen c.args.library.now) cells (rest_of cells c.in-Some.frame)
    (rest_of cells c.take_use.new.frame) c.in_ok-take_use.field-0
    c.in-Known.is c.in_ok-take_use.ensures.taken in
    one_taken cells c.args.self.now.frames.items c.pop.new.self.items c.push.new.self.items c.in-Some.frame c.take_use.new.frame known.0
    c.in-Some.ensures.items c.in_ok-push-in-Known.ensures.items
    (left_taken cells c.args.self.now.frames.items c.pop.new.self.items c.push.new.self.items c.in-Some.frame c.take_use.new.frame known.0
    c.in-Some.ensures.items c.in_ok-push-in-Known.ensures.items known.1)

pub returns-in_ok-push-in-Unknown-clause-frames : goal.returns-in_ok-push-in-Unknown-clause-frames
returns-in_ok-push-in-Unknown-clause-frames c =
    frames_replaced _ c.args.self.now.frames.items c.pop.new.self.items c.push-in-Unknown.new.self.items c.in-Some.frame c.take_use.new.frame
    c.in-Some.ensures.items c.in_ok-push-in-Unknown.ensures.items c.take_use.ensures.same c.requires.frames

pub returns-in_ok-push-in-Unknown-clause-taken : goal.returns-in_ok-push-in-Unknown-clause-taken
returns-in_ok-push-in-Unknown-clause-taken c =
    let cells = c.args.self.now.cells in
    let unknown = unknown_taken (seen c.args.library.now) cells (rest_of cells c.in-Some.frame) (rest_of cells c.take_use.new.frame)
    c.in_ok-take_use.field-0 c.in-Unknown.name c.in-Unknown.is c.in_ok-take_use.ensures.taken in (
      left_taken cells c.args.self.now.frames.items c.pop.new.self.items c.push-in-Unknown.new.self.items c.in-Some.frame c.take_use.new.frame
          c.in-Unknown.name c.in-Some.ensures.items c.in_ok-push-in-Unknown.ensures.items unknown.0,
      unknown.1,
    )

pub returns-in_ok-push-in-Unknown-clause-less : goal.returns-in_ok-push-in-Unknown-clause-less
returns-in_ok-push-in-Unknown-clause-less c =
    let cells = c.args.self.now.cells in
    let unknown = unknown_taken (seen c.args.library.now) cells (rest_of cells c.in-Some.frame) (rest_of cells c.take_use.new.frame)
    c.in_ok-take_use.field-0 c.in-Unknown.name c.in-Unknown.is c.in_ok-take_use.ensures.taken in
    one_taken cells c.args.self.now.frames.items c.pop.new.self.items c.push-in-Unknown.new.self.items c.in-Some.frame c.take_use.new.frame
    c.in-Unknown.name c.in-Some.ensures.items c.in_ok-push-in-Unknown.ensures.items
    (left_taken cells c.args.self.now.frames.items c.pop.new.self.items c.push-in-Unknown.new.self.items c.in-Some.frame c.take_use.new.frame
    c.in-Unknown.name c.in-Some.ensures.items c.in_ok-push-in-Unknown.ensures.items unknown.0)
