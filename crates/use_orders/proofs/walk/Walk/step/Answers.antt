use Rattle.use_orders.proofs.Common.{◌<◌, ◌≤◌, arith, inl, refl, length, on_ok_weaker, used_by, walk_state}
use Rattle.use_orders.proofs.Stepping.{later_listed, later_followed, less_after_listing, less_after_following}
use Rattle.use_orders.proofs.walk.Walk.step.Goals as goal

pub use_count-requires : goal.use_count-requires
use_count-requires g c = (c.requires.under_way.within c.args.at (inl refl)).0

pub returns-then-at-use_count-clause-later : goal.returns-then-at-use_count-clause-later
returns-then-at-use_count-clause-later g c =
    let children = g.G.UseGraph.children c.args.graph.now in
    let lt : c.args.at.followed < length (used_by children c.args.at.cell) = omega arith in
    on_ok_weaker c.follow.result
    (λ e. later_followed children c.args.self.now.first c.args.at (walk_state c.args.self.now) (walk_state c.follow.new.self) c.requires.cells
    c.requires.under_way lt e)
    c.follow.ensures.state

pub returns-then-at-use_count-clause-less : goal.returns-then-at-use_count-clause-less
returns-then-at-use_count-clause-less g c =
    let children = g.G.UseGraph.children c.args.graph.now in
    let lt : c.args.at.followed < length (used_by children c.args.at.cell) = omega arith in
    on_ok_weaker c.follow.result
    (λ e. less_after_following children c.args.self.now.first c.args.at (walk_state c.args.self.now) (walk_state c.follow.new.self) c.requires.cells
    c.requires.under_way lt e)
    c.follow.ensures.state

pub returns-else-at-use_count-clause-later : goal.returns-else-at-use_count-clause-later
returns-else-at-use_count-clause-later g c =
    let children = g.G.UseGraph.children c.args.graph.now in
    let all : length (used_by children c.args.at.cell) ≤ c.args.at.followed = omega arith in
    on_ok_weaker c.list.result
    (λ e. later_listed children c.args.self.now.first c.args.at (walk_state c.args.self.now) (walk_state c.list.new.self) c.requires.under_way all e)
    c.list.ensures.state

pub returns-else-at-use_count-clause-less : goal.returns-else-at-use_count-clause-less
returns-else-at-use_count-clause-less g c =
    let children = g.G.UseGraph.children c.args.graph.now in
    on_ok_weaker c.list.result
    (λ e. less_after_listing children c.args.self.now.first c.args.at (walk_state c.args.self.now) (walk_state c.list.new.self) c.requires.under_way e)
    c.list.ensures.state
