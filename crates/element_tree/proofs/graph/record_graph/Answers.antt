use Rattle.element_tree.proofs.Common.{List, ℕ, Some, sym, ap, subst, ◌∙◌, inl, inr, map, option_map, get_or_from_slice_get, Graph, IsGraph, IsOrder}
use Rattle.element_tree.proofs.Common.{number_fault, WalkFault, IsGraphOf, cells_of, found_goals, goal_graph, IsUseOf, IsNamedFault}
use Rattle.circuit_model.specs.Refusals.{walk_fault}
use Rattle.element_tree.proofs.RecordWalks.{fault_named, walks_find}
use Rattle.element_tree.proofs.Orders.{is_graph, graph_of_order, fault_at, named_is}
use Rattle.element_tree.proofs.graph.record_graph.Goals as goal

pub walk-requires-clause-graph : goal.walk-requires-clause-graph
walk-requires-clause-graph c =
    let is = c.deref.ensures.value ∙ c.in_ok-graph.ensures ∙ ap (λ (cells : List (List ℕ)). goal_graph cells c.args.exts.now) c.in_ok-index.ensures in
    subst IsGraph (sym is) (is_graph c.args.exts.now)

pub returns-in-Ok-clause-sound : goal.returns-in-Ok-clause-sound
returns-in-Ok-clause-sound c top found =
    let exts = c.args.exts.now in
    let is = c.deref.ensures.value ∙ c.in_ok-graph.ensures ∙ ap (λ (cells : List (List ℕ)). goal_graph cells exts) c.in_ok-index.ensures in
    let here = get_or_from_slice_get exts c.args.root top top found in
    ap (walk_fault exts) (sym here) ∙ walks_find exts top c.requires.records.cells_differ c.args.root c.requires.root
    ∙ ap (λ (graph : Graph). option_map (fault_named exts top) (number_fault graph c.args.root)) (sym is)
    ∙ ap (option_map (fault_named exts top)) c.in-Ok.ensures.no_fault

pub returns-in-Ok-clause-graph : goal.returns-in-Ok-clause-graph
returns-in-Ok-clause-graph c =
    let exts = c.args.exts.now in
    let is = c.deref.ensures.value ∙ c.in_ok-graph.ensures ∙ ap (λ (cells : List (List ℕ)). goal_graph cells exts) c.in_ok-index.ensures in
    let again = c.deref-in-Ok.ensures.value ∙ c.in_ok-graph.ensures ∙ ap (λ (cells : List (List ℕ)). goal_graph cells exts) c.in_ok-index.ensures in
    let walked = graph_of_order exts c.args.root c.in-Ok.order.items (subst (λ
    (graph : Graph). IsOrder graph c.args.root c.in-Ok.order.items) is c.in-Ok.ensures.order) in
    let children = c.in_ok-all_found-in-Ok.ensures ∙ ap (map found_goals) again in
    subst (λ (lists : List (List ℕ)). IsGraphOf exts c.args.root (record { children = lists; order = c.of.result })) (sym children)
    (subst (λ (order : List ℕ). IsGraphOf exts c.args.root (record { children = map found_goals (goal_graph (cells_of exts) exts); order = order }))
    (sym c.of.ensures) walked)

pub named-requires : goal.named-requires
named-requires c =
    let exts = c.args.exts.now in
    let fault = c.in-Err.fault in
    let is = c.deref.ensures.value ∙ c.in_ok-graph.ensures ∙ ap (λ (cells : List (List ℕ)). goal_graph cells exts) c.in_ok-index.ensures in
    elim c.in-Err.ensures.fault [
      | inl none ↦ subst (IsUseOf exts) (sym none) tt
      | inr found ↦ fault_at exts c.args.root c.requires.root fault (ap (λ (graph : Graph). number_fault graph c.args.root) (sym is) ∙ found)
    ]

pub returns-clause-fault : goal.returns-clause-fault
returns-clause-fault c =
    let exts = c.args.exts.now in
    let fault = c.in-Err.fault in
    let flat = c.in_ok-named-in-Err.field-0 in
    let is = c.deref.ensures.value ∙ c.in_ok-graph.ensures ∙ ap (λ (cells : List (List ℕ)). goal_graph cells exts) c.in_ok-index.ensures in
    elim c.in-Err.ensures.fault [
      | inl none ↦ inl (subst (λ (f : WalkFault). IsNamedFault exts f flat) none c.in_ok-named-in-Err.ensures)
      | inr found ↦
          inr (λ top stands.
          ap (walk_fault exts) (sym (get_or_from_slice_get exts c.args.root top top stands))
          ∙ walks_find exts top c.requires.records.cells_differ c.args.root c.requires.root
          ∙ ap (λ (graph : Graph). option_map (fault_named exts top) (number_fault graph c.args.root)) (sym is)
          ∙ ap (option_map (fault_named exts top)) found
          ∙ ap Some (named_is exts top fault flat c.in_ok-named-in-Err.ensures))
    ]
