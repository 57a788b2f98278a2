use Rattle.flatten.proofs.Common.{◌≡◌, ℤ, List, length, get_or, sym, ◌∙◌, ap, subst, arith, rules, to_z, of_z, w64, w128, to_z-of_z, Square, TermRec}
use Rattle.flatten.proofs.Common.{ElementTree, element_at, AreFlatTerminals}
use Rattle.flatten.proofs.NameClasses.TreeLaws.{tree_of_names}
use Rattle.geo_core.specs.Images.{image}
use Rattle.flatten.proofs.FlatLimits.TreeLaws.{no_flat}
use Rattle.flatten.proofs.SpotLaws.{element_here, read_small}
use Rattle.flatten.proofs.fets.flat_fet.Goals as goal

abbrev square : ℤ → ℤ → Square
square a b = record { x = a; y = b }

pub square-place-requires-clause-moves : goal.square-place-requires-clause-moves
square-place-requires-clause-moves c =
    let names = c.args.names.now in
    let all = c.items.ensures ∙ ap (λ (tree : ElementTree). tree.elements) c.requires.tree in
    let long = (tree_of_names names c.requires.names).long in
    let many = ap length all in
    let inside = c.requires.element in
    (element_here names c.requires.names c.items.result.now all c.args.element (omega (arith, long, many, inside)) no_flat).for.moves

pub returns : goal.returns
returns c =
    let names = c.args.names.now in
    let fet = c.args.fet.now in
    let all = c.items.ensures ∙ ap (λ (tree : ElementTree). tree.elements) c.requires.tree in
    let long = (tree_of_names names c.requires.names).long in
    let many = ap length all in
    let inside = c.requires.element in
    let here = element_here names c.requires.names c.items.result.now all c.args.element (omega (arith, long, many, inside)) no_flat in
    let to_root = (get_or c.items.result.now c.args.element no_flat).to_root in
    let place = c.square-place.result in
    let place_x : to_z w64 (of_z w64 place.x) ≡ place.x = to_z-of_z w64 place.x (search rules) in
    let place_y : to_z w64 (of_z w64 place.y) ≡ place.y = to_z-of_z w64 place.y (search rules) in
    let x_is = read_small fet.x c.requires.fet.x in
    let y_is = read_small fet.y c.requires.fet.y in
    let P : List TermRec → Type 0 = λ l. AreFlatTerminals c.args.nodes.now (element_at names c.args.element) l c.of.result in
    let Q : List TermRec → Type 0 = λ l. AreFlatTerminals c.args.nodes.now (element_at names c.args.element) c.items-sides.result.now l in
    let terminals = subst P c.items-sides.ensures (subst Q (sym c.of.ensures) c.in_ok-terminals.ensures) in
    record {
      kind = c.in_ok-copy.ensures;
      point = ap (λ (a : ℤ). square a (to_z w64 (of_z w64 place.y))) place_x ∙ ap (square place.x) place_y ∙ c.square-place.ensures.value
          ∙ ap (λ (a : ℤ). image to_root (square a (to_z w64 (of_z w64 fet.y)))) x_is ∙ ap (λ (b : ℤ). image to_root (square fet.x b)) y_is
          ∙ here.for.places (square fet.x fet.y) c.requires.fet.x c.requires.fet.y;
      area = to_z-of_z w128 fet.area (search rules);
      perimeter = to_z-of_z w128 fet.perimeter (search rules);
      substrate = c.in_ok-copy-2.ensures;
      gate = c.in_ok-flat_gate.ensures.node;
      gate_length = c.in_ok-flat_gate.ensures.length;
      in_order = terminals.in_order;
      terminals = terminals.each;
      lengths = terminals.lengths;
    }
