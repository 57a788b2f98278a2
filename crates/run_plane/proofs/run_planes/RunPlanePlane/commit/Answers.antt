use Rattle.run_plane.proofs.Common.{List, sym, subst, arith, AreSet, Row, number_at, AreRows, Contents}
use Rattle.run_plane.proofs.CommitLaws.{unchanged}
use Rattle.run_plane.proofs.run_planes.RunPlanePlane.commit.Goals as goal

pub invariant_of-self : goal.invariant_of-self
invariant_of-self c =
    let none = c.put_into.ensures.none in
    let from = none.from in
    let until = none.until in
    let empty = none.empty in
    let room = c.put_into.ensures.still_room in
    let now : AreRows c.put_into.new.rows.items = subst AreRows (sym c.put_into.ensures.rows) c.self.invariant.later in
    record {
      now = now;
      later = subst AreRows (sym (unchanged c.put_into.new.rows.items c.put_into.new.self none)) now;
      in_order = omega arith;
      within = omega arith;
      room = omega arith;
    }

pub returns : goal.returns
returns c =
    let pieces = c.args._pieces.now in
    let ready = subst (λ (held : Contents). AreSet (number_at c.args.self.now.rows) (number_at held.next) pieces) (sym c.self.view_is) c.requires.ready in
    subst (λ (rows : List Row). AreSet (number_at c.args.self.now.rows) (number_at rows) pieces) (sym c.put_into.ensures.rows) ready
