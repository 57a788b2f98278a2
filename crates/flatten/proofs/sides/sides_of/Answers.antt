use Rattle.flatten.proofs.Common.{◌≡◌, ℕ, ℤ, List, [], ◌∷◌, ◌++◌, length, get_or, sym, ◌∙◌, ap, rules, to_z, of_z, w128, to_z-of_z, map_more}
use Rattle.flatten.proofs.Common.{TermRec, Local, IsSpotOf, element_at, cell_at, Side, side_of}
use Rattle.flatten.proofs.PlaceLaws.{AreAlong-at}
use Rattle.flatten.proofs.sides.sides_of.Goals as goal

abbrev name_of : TermRec → List ℕ
name_of side = side.node

pub node_of-requires-clause-spot : goal.node_of-requires-clause-spot
node_of-requires-clause-spot c = (
  c.index-terminals-at.result.node,
  AreAlong-at (IsSpotOf c.args.names.now (cell_at c.args.names.now c.args.element)) name_of c.args.terminals.now c.args.spots.now c.requires.spots
      c.loop-at.at
      c.loop-at-test.true c.index-terminals-at.result c.index-terminals-at.is (Local 0),
)

pub loop-at-preserved : goal.loop-at-preserved
loop-at-preserved c list is_list =
    let terminals = c.args.terminals.now in
    let i = c.loop-at.at in
    let term : TermRec = c.index-terminals-at.result in
    let f = side_of list c.args.labels.now (element_at c.args.names.now c.args.element) in
    let is_spot = AreAlong-at (IsSpotOf c.args.names.now (cell_at c.args.names.now c.args.element)) name_of terminals c.args.spots.now c.requires.spots i
    c.loop-at-test.true term c.index-terminals-at.is (Local 0) in
    let node : c.node_of.result ≡ (f term).node = c.node_of.ensures.node list is_list term.node is_spot in
    let length_is : to_z w128 (of_z w128 term.length) ≡ term.length = to_z-of_z w128 term.length (search rules) in
    let side : ℕ → ℤ → Side = λ k z. record { node = k; length = z } in
    c.in_ok-push.ensures.items
    ∙ ap (λ (k : ℕ). c.loop-at.sides.items ++ side k (to_z w128 (of_z w128 term.length)) ∷ []) node
    ∙ ap (λ (z : ℤ). c.loop-at.sides.items ++ side (f term).node z ∷ []) length_is
    ∙ ap (λ (t : TermRec). c.loop-at.sides.items ++ f t ∷ []) c.index-terminals-at.is
    ∙ ap (λ (l : List Side). l ++ f (get_or terminals i term) ∷ []) (c.loop-at.invariant list is_list)
    ∙ sym (map_more f terminals i term c.loop-at-test.true)
