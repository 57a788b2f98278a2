use Rattle.use_orders.proofs.Common.{◌≡◌, ◌+◌, ◌-◌, ℕ, arith, subst, slice_index, ◌∙◌, In-get_or, lists_of, IsSearched, walk_state}
use Rattle.use_orders.proofs.Rings.{users_are_cells, searched_more, searched_all}
use Rattle.use_orders.proofs.Users.{length-lists_of}
use Rattle.use_orders.proofs.own_descendants.least_own_descendant.Goals as goal

pub search-requires-clause-cells : goal.search-requires-clause-cells
search-requires-clause-cells g c =
    rw c.deref.ensures.value
    (users_are_cells (g.G.UseGraph.children c.args.graph.now) (lists_of c.in_ok-users.users.items) c.args.first c.in_ok-users.ensures)

pub search-requires-clause-cell : goal.search-requires-clause-cell
search-requires-clause-cell g c =
    let order = c.args.order.now in
    let new = c.requires.order.each.2 (slice_index order (c.places.place - 1)) (In-get_or order (c.places.place - 1) 0 (omega arith)) in
    rw c.deref.ensures.value (omega (arith, new.1, c.in_ok-users.ensures.fits, length-lists_of c.in_ok-users.users.items))

pub places-preserved : goal.places-preserved
places-preserved g c =
    let children = g.G.UseGraph.children c.args.graph.now in
    let users = lists_of c.in_ok-users.users.items in
    let order = c.args.order.now in
    let place : ℕ = c.places.place - 1 in
    let P : ℕ → Type 0 = λ z. IsSearched children users c.args.first order z (walk_state c.places.walk) c.places.least in
    let e : c.places.place ≡ place + 1 = omega arith in
    record {
      first = c.search.ensures.first ∙ c.places.invariant.first;
      within = omega arith;
      searched = searched_more children users c.args.first order c.requires.order c.in_ok-users.ensures place (omega arith) (walk_state c.places.walk)
          (walk_state c.search.new.walk) c.places.least c.in_ok-least.least (subst P e c.places.invariant.searched)
          (rw (c.deref.ensures.value, c.places.invariant.first) at c.in_ok-least.ensures.visited)
          (rw c.deref.ensures.value at c.in_ok-least.ensures.lowered);
    }

pub returns : goal.returns
returns g c =
    let children = g.G.UseGraph.children c.args.graph.now in
    let users = lists_of c.in_ok-users.users.items in
    let P : ℕ → Type 0 = λ z. IsSearched children users c.args.first c.args.order.now z (walk_state c.places.walk) c.places.least in
    let e : c.places.place ≡ 0 = omega arith in
    searched_all children users c.args.first c.args.order.now (walk_state c.places.walk) c.places.least c.requires.order (subst P e c.places.invariant.searched)
