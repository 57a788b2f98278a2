-- Each orientation's arm computes what its matrix says.
use Rattle.geo_core.proofs.Common.{arith, ints, R0, R90, R180, R270, Mx, My, Mx90, My90}
use Rattle.geo_core.proofs.ImageLaws.{point_x_at, point_y_at}
use Rattle.geo_core.proofs.transforms.Transform.point.Goals as goal

pub returns-in-R0-clause-across : goal.returns-in-R0-clause-across
returns-in-R0-clause-across c = point_x_at c.args.self.now R0 _ c.args.x c.args.y c.in-R0.is (omega (arith, ints))

pub returns-in-R0-clause-up : goal.returns-in-R0-clause-up
returns-in-R0-clause-up c = point_y_at c.args.self.now R0 _ c.args.x c.args.y c.in-R0.is (omega (arith, ints))

pub returns-in-R90-clause-across : goal.returns-in-R90-clause-across
returns-in-R90-clause-across c = point_x_at c.args.self.now R90 _ c.args.x c.args.y c.in-R90.is (omega (arith, ints))

pub returns-in-R90-clause-up : goal.returns-in-R90-clause-up
returns-in-R90-clause-up c = point_y_at c.args.self.now R90 _ c.args.x c.args.y c.in-R90.is (omega (arith, ints))

pub returns-in-R180-clause-across : goal.returns-in-R180-clause-across
returns-in-R180-clause-across c = point_x_at c.args.self.now R180 _ c.args.x c.args.y c.in-R180.is (omega (arith, ints))

pub returns-in-R180-clause-up : goal.returns-in-R180-clause-up
returns-in-R180-clause-up c = point_y_at c.args.self.now R180 _ c.args.x c.args.y c.in-R180.is (omega (arith, ints))

pub returns-in-R270-clause-across : goal.returns-in-R270-clause-across
returns-in-R270-clause-across c = point_x_at c.args.self.now R270 _ c.args.x c.args.y c.in-R270.is (omega (arith, ints))

pub returns-in-R270-clause-up : goal.returns-in-R270-clause-up
returns-in-R270-clause-up c = point_y_at c.args.self.now R270 _ c.args.x c.args.y c.in-R270.is (omega (arith, ints))

pub returns-in-Mx-clause-across : goal.returns-in-Mx-clause-across
returns-in-Mx-clause-across c = point_x_at c.args.self.now Mx _ c.args.x c.args.y c.in-Mx.is (omega (arith, ints))

pub returns-in-Mx-clause-up : goal.returns-in-Mx-clause-up
returns-in-Mx-clause-up c = point_y_at c.args.self.now Mx _ c.args.x c.args.y c.in-Mx.is (omega (arith, ints))

pub returns-in-My-clause-across : goal.returns-in-My-clause-across
returns-in-My-clause-across c = point_x_at c.args.self.now My _ c.args.x c.args.y c.in-My.is (omega (arith, ints))

pub returns-in-My-clause-up : goal.returns-in-My-clause-up
returns-in-My-clause-up c = point_y_at c.args.self.now My _ c.args.x c.args.y c.in-My.is (omega (arith, ints))

pub returns-in-Mx90-clause-across : goal.returns-in-Mx90-clause-across
returns-in-Mx90-clause-across c = point_x_at c.args.self.now Mx90 _ c.args.x c.args.y c.in-Mx90.is (omega (arith, ints))

pub returns-in-Mx90-clause-up : goal.returns-in-Mx90-clause-up
returns-in-Mx90-clause-up c = point_y_at c.args.self.now Mx90 _ c.args.x c.args.y c.in-Mx90.is (omega (arith, ints))

pub returns-in-My90-clause-across : goal.returns-in-My90-clause-across
returns-in-My90-clause-across c = point_x_at c.args.self.now My90 _ c.args.x c.args.y c.in-My90.is (omega (arith, ints))

pub returns-in-My90-clause-up : goal.returns-in-My90-clause-up
returns-in-My90-clause-up c = point_y_at c.args.self.now My90 _ c.args.x c.args.y c.in-My90.is (omega (arith, ints))
