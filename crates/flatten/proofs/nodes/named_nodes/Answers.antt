use Rattle.flatten.proofs.Common.{◌≡◌, ◌<◌, ◌≤◌, ◌+◌, ℕ, List, [], ◌∷◌, ◌++◌, length, sym, ◌∙◌, ap, subst, arith, Vec, Global, refl, Some, slice_get}
use Rattle.flatten.proofs.Common.{slice_index, set, slice_get_read, In-slice_get, NodeRec, names_of, elements_in, HasAlias, ArePlaced}
use Rattle.flatten.proofs.PlacedLaws.{placed_alias, placed_set, placed_push}
use Rattle.flatten.proofs.ScanLaws.{AreNamedUpTo, scan_alias, scan_new, next_label, scan_all}
use Rattle.flatten.proofs.nodes.named_nodes.Goals as goal
use Rattle.flatten.proofs.nodes.named_nodes.Goals.{then-label-len+in_ok-add_alias, else-label-len+in_ok-placed_node+in_ok-push}

pub loop-number-preserved : goal.loop-number-preserved
loop-number-preserved c =
    let names = c.args.names.now in
    let labels = c.args.labels.now in
    let n = c.loop-number.number in
    let nodes = c.loop-number.nodes.items in
    let label = slice_index labels n in
    let inside = c.loop-number-test.true in
    elim c.if-label-len.branch [
      | then-label-len+in_ok-add_alias w ↦
          (let before : label < length nodes = (let less = w.if-label-len.true in let many = c.len.ensures in let stored = c.loop-number.nodes.ok.0 in
          omega (arith, less, many, stored)) in
          let node : NodeRec = w.index_mut.result.now in
          let new : NodeRec = w.add_alias.new.node in
          let here : slice_get nodes label ≡ Some node = slice_get_read nodes (length nodes) label node refl before w.index_mut.ensures.value in
          let alias : HasAlias node c.in_ok-name.name new = w.in_ok-add_alias.ensures in
          let is : c.if-label-len.nodes.items ≡ set nodes label new = ap (λ (v : Vec NodeRec Global). v.items) w.nodes-is in
          record {
            named = λ list is_list.
                (let P : List NodeRec → Type 0 = AreNamedUpTo list labels (n + 1) in
                subst P (sym is)
                (scan_alias list labels (c.requires.labels list is_list).long n inside c.in_ok-name.name (c.in_ok-name.ensures list is_list) nodes
                (c.loop-number.invariant.named list is_list) node new here (ap names_of alias.is)));
            placed =
                (let P : List NodeRec → Type 0 = ArePlaced names in
                subst P (sym is)
                (placed_set names nodes label new c.loop-number.invariant.placed
                (placed_alias (elements_in names) node c.in_ok-name.name new alias
                (c.loop-number.invariant.placed node (In-slice_get nodes label node here)))));
          })
      | else-label-len+in_ok-placed_node+in_ok-push w ↦
          (let past : length nodes ≤ label = (let more = w.if-label-len.false in let many = c.len.ensures in let stored = c.loop-number.nodes.ok.0 in
          omega (arith, more, many, stored)) in
          let new : NodeRec = w.in_ok-placed_node.field-0 in
          let is : c.if-label-len.nodes.items ≡ nodes ++ new ∷ [] = ap (λ (v : Vec NodeRec Global). v.items) w.nodes-is ∙ w.in_ok-push.ensures.items in
          record {
            named = λ list is_list.
                (let P : List NodeRec → Type 0 = AreNamedUpTo list labels (n + 1) in
                let was = c.loop-number.invariant.named list is_list in
                let are = c.requires.labels list is_list in
                subst P (sym is)
                (scan_new list labels are.long n inside c.in_ok-name.name (c.in_ok-name.ensures list is_list) nodes was
                (next_label (elements_in names) list labels c.args.count are n nodes inside was past) new w.in_ok-placed_node.ensures.name));
            placed =
                (let P : List NodeRec → Type 0 = ArePlaced names in
                subst P (sym is) (placed_push names nodes new c.loop-number.invariant.placed w.in_ok-placed_node.ensures.place));
          })
    ]

pub returns-clause-named : goal.returns-clause-named
returns-clause-named c list is_list =
    let labels = c.args.labels.now in
    let past = c.loop-number-test.false in
    let upto = c.loop-number.auto.number-end in
    let all : c.loop-number.number ≡ length labels = omega (arith, past, upto) in
    let P : ℕ → Type 0 = λ n. AreNamedUpTo list labels n c.loop-number.nodes.items in
    scan_all (elements_in c.args.names.now) list labels c.args.count (c.requires.labels list is_list) c.loop-number.nodes.items
    (subst P all (c.loop-number.invariant.named list is_list))
