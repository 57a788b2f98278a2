use Rattle.flatten.proofs.Common.{◌≡◌, get_or, ◌∙◌, sym, ap, subst, rules, to_z, of_z, ℤ, w32, w64, FitsSigned, to_z-of_z, Square, NodeRec, Element}
use Rattle.geo_core.specs.Images.{image}
use Rattle.circuit_model.specs.Elements.{placed}
use Rattle.flatten.proofs.FlatLimits.TreeLaws.{no_flat}
use Rattle.flatten.proofs.PlacedLaws.{IsOriginHere, origin_here, lies_in_reach, node_within, node_read}
use Rattle.flatten.proofs.SpotLaws.{read_small}
use Rattle.flatten.proofs.nodes.placed_node.Goals as goal
use Rattle.flatten.proofs.nodes.placed_node.Goals.{After-items}

abbrev square : ℤ → ℤ → Square
square a b = record { x = a; y = b }

-- the name's node, as it is read
from : (c : After-items) → IsOriginHere c.args.names.now c.args.name c.origin-origin.result c.args.exts.now c.items.result.now
from c =
    let are = c.requires.names in
    origin_here are (c.origin-origin.ensures are.list are.is_list c.args.name (c.requires.name are.list are.is_list)) c.requires.exts c.requires.tree
    c.items.ensures

pub bounds-items-origin : goal.bounds-items-origin
bounds-items-origin c = (from (goal.at.bounds-items-origin c).After-items).within

pub offset_bounds-items-origin : goal.offset_bounds-items-origin
offset_bounds-items-origin c = let within = (from (goal.at.offset_bounds-items-origin c).After-items).within in search rules

pub bounds-exts-element : goal.bounds-exts-element
bounds-exts-element c = (from (goal.at.bounds-exts-element c).After-items).read.within

pub offset_bounds-exts-element : goal.offset_bounds-exts-element
offset_bounds-exts-element c = let within = (from (goal.at.offset_bounds-exts-element c).After-items).read.within in search rules

pub bounds-items-origin-2 : goal.bounds-items-origin-2
bounds-items-origin-2 c = node_within (from (goal.at.bounds-items-origin-2 c).After-items) _ c.items-2.ensures

pub offset_bounds-items-origin-2 : goal.offset_bounds-items-origin-2
offset_bounds-items-origin-2 c =
    let within = node_within (from (goal.at.offset_bounds-items-origin-2 c).After-items) _ c.items-2.ensures in
    search rules

pub square-place-requires-clause-moves : goal.square-place-requires-clause-moves
square-place-requires-clause-moves c = (from (goal.at.square-place-requires-clause-moves c).After-items).read.here.for.moves

pub square-place-requires-clause-lies : goal.square-place-requires-clause-lies
square-place-requires-clause-lies c =
    let o = from (goal.at.square-place-requires-clause-lies c).After-items in
    let node = node_read o _ c.items-2.ensures c.index-items-origin.is in
    let x = subst (λ (n : NodeRec). FitsSigned w32 n.x) (sym node) o.lawful.x in
    let y = subst (λ (n : NodeRec). FitsSigned w32 n.y) (sym node) o.lawful.y in
    let x_is = read_small c.index-items-origin.result.x x in
    let y_is = read_small c.index-items-origin.result.y y in
    rw (x_is, y_is) (lies_in_reach c.index-items-origin.result.x c.index-items-origin.result.y x y)

pub returns-clause-place : goal.returns-clause-place
returns-clause-place c =
    let o = from (goal.at.returns-clause-place c).After-items in
    let node = node_read o _ c.items-2.ensures c.index-items-origin.is in
    let x_is = read_small c.index-items-origin.result.x (subst (λ (n : NodeRec). FitsSigned w32 n.x) (sym node) o.lawful.x) in
    let y_is = read_small c.index-items-origin.result.y (subst (λ (n : NodeRec). FitsSigned w32 n.y) (sym node) o.lawful.y) in
    let place = c.square-place.result in
    let place_x : to_z w64 (of_z w64 place.x) ≡ place.x = to_z-of_z w64 place.x (search rules) in
    let place_y : to_z w64 (of_z w64 place.y) ≡ place.y = to_z-of_z w64 place.y (search rules) in
    let to_root = (get_or c.items.result.now c.origin-origin.result.element no_flat).to_root in
    record {
      element = o.came.element;
      part = o.came.node;
      first = o.came.first;
      carrier = o.came.first_node;
      point = ap (λ (a : ℤ). square a (to_z w64 (of_z w64 place.y))) place_x ∙ ap (square place.x) place_y ∙ c.square-place.ensures.value
          ∙ ap (λ (a : ℤ). image to_root (square a (to_z w64 (of_z w64 c.index-items-origin.result.y)))) x_is
          ∙ ap (λ (b : ℤ). image to_root (square c.index-items-origin.result.x b)) y_is
          ∙ ap (λ (n : NodeRec). image to_root (square n.x n.y)) node
          ∙ o.read.here.for.places (square o.came.node.x o.came.node.y) o.lawful.x o.lawful.y
          ∙ ap (λ (e : Element). placed e.uses (square o.came.node.x o.came.node.y)) o.same;
      kind = c.in_ok-copy.ensures ∙ ap (λ (n : NodeRec). n.kind) node;
    }
