use Rattle.flatten.proofs.Common.{◌≤◌, List, length, get_or, sym, ◌∙◌, ap, subst, get_or_from_slice_get, In, CellExt, Element, elements_of}
use Rattle.flatten.proofs.Common.{node_count, merge_count, class_fault, MOST_NODES, MOST_MERGES, elements_in, with_fets, no_element}
use Rattle.finite_sets.proofs.Firsts.{first_some-none_In}
use Rattle.circuit_model.specs.Circuits.{IsCircuitOf}
use Rattle.flatten.proofs.FaultLaws.{few_nodes, few_merges, alike_classes, elements_at_root, root_here}
use Rattle.flatten.proofs.flat.meant_circuit.Goals as goal

pub circuit_of-requires-clause-measured : goal.circuit_of-requires-clause-measured
circuit_of-requires-clause-measured g c element here =
    let exts = c.args.exts.now in
    let top = get_or exts c.args.root no_element.ext in
    let at = root_here c.requires.names c.requires.exts c.requires.root no_element.ext in
    alike_classes top element (first_some-none_In (class_fault top) (elements_of exts top) (c.in_ok-check_classes.ensures.alike top at.0) element
    (subst (In element) at.1 here))
    ∙ ap (λ (e : CellExt). length e.classes)
    (sym (get_or_from_slice_get exts c.args.root top c.index-exts-root.result at.0) ∙ sym c.index-exts-root.is)

pub circuit_of-requires-clause-few_nodes : goal.circuit_of-requires-clause-few_nodes
circuit_of-requires-clause-few_nodes g c =
    let at = root_here c.requires.names c.requires.exts c.requires.root no_element.ext in
    subst (λ (l : List Element). node_count l ≤ MOST_NODES) (sym at.1) (few_nodes c.args.exts.now _ (c.requires.few _ at.0))

pub circuit_of-requires-clause-few_merges : goal.circuit_of-requires-clause-few_merges
circuit_of-requires-clause-few_merges g c =
    let at = root_here c.requires.names c.requires.exts c.requires.root no_element.ext in
    subst (λ (l : List Element). merge_count l ≤ MOST_MERGES) (sym at.1) (few_merges c.args.exts.now _ (c.requires.few _ at.0))

pub returns-clause-meaning : goal.returns-clause-meaning
returns-clause-meaning g c =
    let exts = c.args.exts.now in
    let root = c.args.root in
    let given = c.in_ok-circuit_of.ensures in
    let circuit = with_fets c.in_ok-circuit_of.field-0 given.0 in (
      given.0,
      (
        given.1.0,
        λ top is. (let elements = elements_at_root c.args.names.now exts c.requires.exts root c.requires.root top is in
            let P : List Element → Type 0 = λ l. IsCircuitOf l top circuit in
            let Q : CellExt → Type 0 = λ e. IsCircuitOf (elements_in c.args.names.now) e circuit in
            subst P elements (subst Q (c.index-exts-root.is ∙ get_or_from_slice_get exts root top c.index-exts-root.result is) given.1.1)),
      ),
    )
