use Rattle.use_orders.proofs.Common.{arith, ℕ, Vec, Global, lists_of}
use Rattle.std.proofs.lemmas.List.{length-map}
use Rattle.use_orders.proofs.Users.{child_fits, added_old, added_new, added_all}
use Rattle.use_orders.proofs.own_descendants.add_uses.Goals as goal
use Rattle.use_orders.proofs.own_descendants.add_uses.Goals.{then-first-child+in_ok-add_user, else-first-child}

pub add_user-requires : goal.add_user-requires
add_user-requires g c =
    child_fits (g.G.UseGraph.children c.args.graph.now) c.args.first c.args.parent c.uses.place c.child-child.result c.args.users.now.items c.uses.users.items
    c.requires.cells c.requires.fits c.child-child.ensures (omega arith) c.uses.invariant

pub uses-preserved : goal.uses-preserved
uses-preserved g c =
    let children = g.G.UseGraph.children c.args.graph.now in
    elim c.if-first-child.branch [
      | then-first-child+in_ok-add_user w ↦ rw w.users-is
          (added_new children c.args.first c.args.parent c.uses.place c.child-child.result (lists_of c.args.users.now.items) (lists_of c.uses.users.items)
          (lists_of w.add_user.new.users.items) c.child-child.ensures (omega arith) c.requires.new w.if-first-child.true
          (rw (length-map c.uses.users.items (λ (vector : Vec ℕ Global). vector.items))
          (child_fits children c.args.first c.args.parent c.uses.place c.child-child.result c.args.users.now.items c.uses.users.items
          c.requires.cells c.requires.fits c.child-child.ensures (omega arith) c.uses.invariant))
          w.in_ok-add_user.ensures c.uses.invariant)
      | else-first-child w ↦ rw w.users-is
          (added_old children c.args.first c.args.parent c.uses.place c.child-child.result (lists_of c.args.users.now.items) (lists_of c.uses.users.items)
          c.child-child.ensures w.if-first-child.false c.uses.invariant)
    ]

pub returns-clause-there : goal.returns-clause-there
returns-clause-there g c =
    added_all (g.G.UseGraph.children c.args.graph.now) c.args.first c.args.parent c.uses.place (lists_of c.args.users.now.items) (lists_of c.uses.users.items)
    (omega arith) c.uses.invariant
