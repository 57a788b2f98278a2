use Rattle.cell_library.proofs.UseSteps.{moved_coordinate}
use Rattle.cell_library.proofs.uses.moved_placing.Goals as goal

pub returns : goal.returns
returns c = λ i. record {
  orient = c.args.used.now.placed.orient;
  dx = moved_coordinate c.args.used.now.placed.dx c.args.dx c.requires.lawful.dx c.requires.dx i;
  dy = moved_coordinate c.args.used.now.placed.dy c.args.dy c.requires.lawful.dy c.requires.dy i;
}
