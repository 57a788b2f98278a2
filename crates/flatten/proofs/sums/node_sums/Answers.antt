use Rattle.flatten.proofs.Common.{◌≡◌, ◌<◌, ℕ, List, [], ◌++◌, length, map, take, get_or, sym, ◌∙◌, ap, subst, arith, rules, append_assoc, flat_map}
use Rattle.flatten.proofs.Common.{NodeRec, CellExt, Element, ElementTree, TreeElement, FullNames, IsFullNameList, elements_in, MergeEnd, NameClasses}
use Rattle.flatten.proofs.Common.{AreClasses, HasEnds, tree_of_names, AreSpotsOf, element_at, cell_at, no_element, HaveSums, Addend, addends_in}
use Rattle.flatten.proofs.Common.{node_addends, merge_addends, Capacitance, Area, Perimeter, take_all}
use Rattle.flatten.proofs.FlatLimits.TreeLaws.{no_flat}
use Rattle.flatten.proofs.SpotLaws.{IsRead, element_read, spots_read, spots_within}
use Rattle.flatten.specs.steps.Sums.{AddNodes, AddMerges}
use Rattle.flatten.proofs.EndLaws.{node_named, merge_named}
use Rattle.flatten.proofs.NodeLaws.{has_name_is}
use Rattle.flatten.proofs.PlaceLaws.{refilled}
use Rattle.std.proofs.lemmas.List.{get_or_default}
use Rattle.flatten.proofs.TotalLaws.{lawful_elements, room_for_nodes, room_for_merges, addends_more, sum_is}
use Rattle.flatten.proofs.sums.node_sums.Goals as goal
use Rattle.flatten.proofs.sums.node_sums.Goals.{In-loop-number, After-deref_mut-in-loop-number}

-- the ends of the element's merges
firsts_within : {names : FullNames} {classes : NameClasses} → AreClasses names classes → {exts : List CellExt} → exts ≡ names.exts.now
    → {firsts : List (List MergeEnd)} → firsts ≡ classes.firsts → {number : ℕ} {flat : TreeElement} → IsRead names number exts flat
    → flat.cell < length firsts
firsts_within are all same read = omega (arith, are.long, ap length all, ap length same, read.within)

firsts_read : {names : FullNames} {classes : NameClasses} → AreClasses names classes → {exts : List CellExt} → exts ≡ names.exts.now
    → {firsts : List (List MergeEnd)} → firsts ≡ classes.firsts → {number : ℕ} {flat : TreeElement} → IsRead names number exts flat
    → (d : List MergeEnd) → HasEnds names number (element_at names number) (get_or firsts flat.cell d)
firsts_read {names} are all {firsts} same {number} {flat} read d =
    subst (HasEnds names number (element_at names number)) (sym (get_or_default firsts flat.cell d [] (firsts_within are all same read)
    ∙ ap (λ (l : List (List MergeEnd)). get_or l flat.cell []) same)) (are.ends number (element_at names number) flat read.here.is)

-- the element of a step, as it is read
read : (c : In-loop-number) → IsRead c.args.names.now c.loop-number.number c.args.exts.now (get_or c.items-element-items.result.now c.loop-number.number no_flat)
read c = element_read c.requires.names c.requires.exts c.requires.tree c.items-element-items.ensures c.loop-number-test.true

pub bounds-exts-cell : goal.bounds-exts-cell
bounds-exts-cell c = (read (goal.at.bounds-exts-cell c).In-loop-number).within

pub offset_bounds-exts-cell : goal.offset_bounds-exts-cell
offset_bounds-exts-cell c = let within = (read (goal.at.offset_bounds-exts-cell c).In-loop-number).within in search rules

pub bounds-spots-cell : goal.bounds-spots-cell
bounds-spots-cell c = spots_within c.requires.spots c.requires.exts (read (goal.at.bounds-spots-cell c).In-loop-number)

pub offset_bounds-spots-cell : goal.offset_bounds-spots-cell
offset_bounds-spots-cell c =
    let within = spots_within c.requires.spots c.requires.exts (read (goal.at.offset_bounds-spots-cell c).In-loop-number) in
    search rules

pub bounds-firsts-cell : goal.bounds-firsts-cell
bounds-firsts-cell c = firsts_within c.requires.classes c.requires.exts c.items-firsts.ensures (read (goal.at.bounds-firsts-cell c).In-loop-number)

pub offset_bounds-firsts-cell : goal.offset_bounds-firsts-cell
offset_bounds-firsts-cell c =
    let within = firsts_within c.requires.classes c.requires.exts c.items-firsts.ensures (read (goal.at.offset_bounds-firsts-cell c).In-loop-number) in
    search rules

pub add_nodes-requires-clause-element : goal.add_nodes-requires-clause-element
add_nodes-requires-clause-element c = (read (goal.at.add_nodes-requires-clause-element c).In-loop-number).here.within

pub add_nodes-requires-clause-nodes : goal.add_nodes-requires-clause-nodes
add_nodes-requires-clause-nodes c =
    c.items.ensures ∙ ap (λ (e : CellExt). e.nodes) (c.index-exts-cell.is ∙ (read (goal.at.add_nodes-requires-clause-nodes c).In-loop-number).ext _)

pub add_nodes-requires-clause-spots : goal.add_nodes-requires-clause-spots
add_nodes-requires-clause-spots c =
    let read = read (goal.at.add_nodes-requires-clause-spots c).In-loop-number in
    let nodes = c.items.ensures ∙ ap (λ (e : CellExt). e.nodes) (c.index-exts-cell.is ∙ read.ext _) in
    let spots = spots_read c.requires.spots c.requires.exts read c.index-spots-cell.result in
    let R = AreSpotsOf c.args.names.now (cell_at c.args.names.now c.loop-number.number) in
    subst (λ (l : List NodeRec). R (map (λ node. node.name) l) c.items-in-loop-number.result.now) (sym nodes) (subst (R _) (sym c.items-in-loop-number.ensures) spots.nodes)

pub add_nodes-requires-clause-room : goal.add_nodes-requires-clause-room
add_nodes-requires-clause-room c =
    let are = c.requires.names in
    let read = read (goal.at.add_nodes-requires-clause-room c).In-loop-number in
    room_for_nodes are.list c.args.classes.now.labels (elements_in c.args.names.now) c.loop-number.number no_element read.here.within _ _
    (lawful_elements are c.requires.measured) c.requires.few_nodes c.requires.few_merges
    (subst (HaveSums _ _ _) (sym c.deref_mut.ensures.value) (c.loop-number.invariant are.list are.is_list))
    (c.items.ensures ∙ ap (λ (e : CellExt). e.nodes) (c.index-exts-cell.is ∙ read.ext _))

pub add_merges-requires-clause-merges : goal.add_merges-requires-clause-merges
add_merges-requires-clause-merges c =
    c.items-in-loop-number-2.ensures
    ∙ ap (λ (e : CellExt). e.merges) (c.index-exts-cell.is ∙ (read (goal.at.add_merges-requires-clause-merges c).In-loop-number).ext _)

pub add_merges-requires-clause-ends : goal.add_merges-requires-clause-ends
add_merges-requires-clause-ends c =
    subst (HasEnds _ _ _) (sym (c.items-in-loop-number-3.ensures ∙ c.index-firsts-cell.is))
    (firsts_read c.requires.classes c.requires.exts c.items-firsts.ensures (read (goal.at.add_merges-requires-clause-ends c).In-loop-number)
    c.index-firsts-cell.result)

-- the sums with the element's nodes, as they are lent
with_nodes : (c : After-deref_mut-in-loop-number) (list : List (List ℕ)) → IsFullNameList (elements_in c.args.names.now) list
    → HaveSums c.args.classes.now.count c.args.measured
    (flat_map (addends_in list c.args.classes.now.labels) (take c.loop-number.number (elements_in c.args.names.now))
    ++ node_addends list c.args.classes.now.labels (element_at c.args.names.now c.loop-number.number)) c.deref_mut-in-loop-number.result.now
with_nodes c list is_list =
    let after = c.deref_mut-in-loop-number.ensures.value
    ∙ refilled _ _ c.add_nodes.new.sums (omega (arith, c.add_nodes.auto.sums, ap length c.deref_mut.ensures.value, c.loop-number.sums.ok.0))
    (c.add_nodes.auto.sums ∙ ap length c.deref_mut.ensures.value) in
    let adds = subst (λ (l : List ℕ). AddNodes c.args.names.now l c.loop-number.number c.deref_mut.result.now c.add_nodes.new.sums) c.items-labels.ensures
    c.add_nodes.ensures in
    subst (HaveSums _ _ _) (sym after)
    (adds list is_list _ _ _ (subst (HaveSums _ _ _) (sym c.deref_mut.ensures.value) (c.loop-number.invariant list is_list)))

pub add_merges-requires-clause-room : goal.add_merges-requires-clause-room
add_merges-requires-clause-room c =
    let are = c.requires.names in
    let read = read (goal.at.add_merges-requires-clause-room c).In-loop-number in
    room_for_merges are.list c.args.classes.now.labels (elements_in c.args.names.now) c.loop-number.number no_element read.here.within _ _
    (lawful_elements are c.requires.measured) c.requires.few_nodes c.requires.few_merges
    (with_nodes (goal.at.add_merges-requires-clause-room c).After-deref_mut-in-loop-number are.list are.is_list)
    (c.items-in-loop-number-2.ensures ∙ ap (λ (e : CellExt). e.merges) (c.index-exts-cell.is ∙ read.ext _))

pub loop-number-preserved : goal.loop-number-preserved
loop-number-preserved c list is_list =
    let names = c.args.names.now in
    let number = c.loop-number.number in
    let labels = c.args.classes.now.labels in
    let before = flat_map (addends_in list labels) (take number (elements_in names)) in
    let have = with_nodes (goal.at.loop-number-preserved c).After-deref_mut-in-loop-number list is_list in
    let merged = subst (λ (l : List ℕ). AddMerges names l number c.deref_mut-in-loop-number.result.now c.add_merges.new.sums) c.items-labels.ensures
    c.add_merges.ensures in
    let many : length c.add_merges.new.sums ≡ length c.loop-number.sums.items = c.add_merges.auto.sums ∙ have.long
    ∙ sym (c.loop-number.invariant list is_list).long in
    subst (HaveSums _ _ _) (sym (refilled _ _ c.add_merges.new.sums (omega (arith, many, c.loop-number.sums.ok.0))
    (c.add_merges.auto.sums ∙ ap length c.deref_mut-in-loop-number.ensures.value)))
    (subst (λ (l : List Addend). HaveSums c.args.classes.now.count c.args.measured l c.add_merges.new.sums)
    (append_assoc before (node_addends list labels (element_at names number)) (merge_addends list labels (element_at names number))
    ∙ addends_more list labels (elements_in names) number no_element (read (goal.at.loop-number-preserved c).In-loop-number).here.within)
    (merged list is_list _ _ _ have))

pub returns : goal.returns
returns c list is_list =
    let names = c.args.names.now in
    let elements = elements_in names in
    let labels = c.args.classes.now.labels in
    let count = c.args.classes.now.count in
    let long = (tree_of_names names c.requires.names).long in
    let past = c.loop-number-test.false in
    let all : length c.items-element-items.result.now ≡ length names.tree.now.elements =
    ap length (c.items-element-items.ensures ∙ ap (λ (tree : ElementTree). tree.elements) c.requires.tree) in
    let P : List Element → Type 0 = λ l. HaveSums count c.args.measured (flat_map (addends_in list labels) l) c.loop-number.sums.items in
    let have = subst P (take_all c.loop-number.number elements (omega (arith, long, past, all))) (c.loop-number.invariant list is_list) in
    let divided = c.requires.classes.labels list is_list in
    record {
      long = have.long;
      each = λ number sum node at named.
          (let of = have.each number sum at in
          let tells = has_name_is elements list labels count is_list.in_order divided node number named in
          let nodes = node_named names list is_list in
          let merges = merge_named names c.requires.names c.args.classes.now c.requires.classes list is_list in
          record {
            cap = of.each Capacitance tt ∙ sum_is list labels Capacitance node number tells elements nodes merges;
            measured = of.measured;
            areas = λ class inside. of.each (Area class) inside ∙ sum_is list labels (Area class) node number tells elements nodes merges;
            perimeters = λ class inside. of.each (Perimeter class) inside ∙ sum_is list labels (Perimeter class) node number tells elements nodes merges;
          });
    }
