-- The sweep before the first edge, one edge more, and after the last.
use Rattle.interact.proofs.Common.{◌≡◌, ℤ, pos, false, get_or, Some, refl, sym, ◌∙◌, ap, subst, arith, rules, w64, to_z, of_z, int_cmp, ints}
use Rattle.interact.proofs.Common.{to_z-of_z, In, In-get_or, Edge, Sweep, IsCut, IsAdded, gain_of, AreEdges, sides_of}
use Rattle.std.proofs.Common.{take_all}
use Rattle.std.specs.BTreeMap.{is_at}
use Rattle.std.specs.Map.{lookup}
use Rattle.std.proofs.lemmas.List.{drop_all}
use Rattle.interact.proofs.EdgeLaws.{edge_sides}
use Rattle.interact.proofs.SweepLaws.{all_settled, next_settled, next_here, counted, sweep_begins}
use Rattle.interact.proofs.sweep.shared_runs.Goals as goal
use Rattle.interact.proofs.sweep.shared_runs.Goals.{then-sweep-edge+in_ok-settle, else-sweep-edge}

abbrev no_edge : Edge
no_edge = record { row = pos 0; from = pos 0; to = pos 0; begins = false }

pub loop-edge-init : goal.loop-edge-init
loop-edge-init c =
    let items = c.deref-edge-items.result.now in
    let are = subst (AreEdges c.args.rects.now) (sym c.deref-edge-items.ensures.value) c.in_ok-edges.ensures in
    let counts = c.in_ok-no_counts.field-0 in
    let cuts : (x : ℤ) → In x (sides_of items) → IsCut counts x = λ x i.
    c.in_ok-no_counts.ensures.cuts x (subst (In x) (sym c.as_slice-2.ensures.value) (c.in_ok-sides.ensures.all x
    (subst (λ v. In x (sides_of v)) (c.deref-edge-items.ensures.value ∙ sym c.as_slice.ensures.value) i))) in
    sweep_begins c.args.rects.now items _ are refl c.in_ok-no_counts.ensures.fresh
    (λ e i. let sides = edge_sides c.args.rects.now items are e i in (cuts e.from sides.0, cuts e.to sides.1))
    (λ a. ap (λ v. lookup (is_at (int_cmp a)) v) c.new.ensures.empty) c.new-2.ensures.items

pub settle-requires : goal.settle-requires
settle-requires c = c.loop-edge.invariant.between

pub add-requires-clause-told : goal.add-requires-clause-told
add-requires-clause-told c = elim c.if-sweep-edge.branch [
  | then-sweep-edge+in_ok-settle w ↦ rw w.sweep-is w.in_ok-settle.ensures.between.told
  | else-sweep-edge w ↦ rw w.sweep-is c.loop-edge.invariant.between.told
]

pub add-requires-clause-from_cut : goal.add-requires-clause-from_cut
add-requires-clause-from_cut c =
    let items = c.deref-edge-items.result.now in
    let edge : Edge = get_or items c.loop-edge.edge-index no_edge in
    let mine = In-get_or items c.loop-edge.edge-index no_edge c.loop-edge-test.true in
    let cut = c.loop-edge.invariant.from_cut edge mine in
    rw (to_z-of_z w64 edge.from (search rules)) (elim c.if-sweep-edge.branch [
      | then-sweep-edge+in_ok-settle w ↦ rw w.sweep-is (w.in_ok-settle.ensures.cuts edge.from cut)
      | else-sweep-edge w ↦ rw w.sweep-is cut
    ])

pub add-requires-clause-to_cut : goal.add-requires-clause-to_cut
add-requires-clause-to_cut c =
    let items = c.deref-edge-items.result.now in
    let edge : Edge = get_or items c.loop-edge.edge-index no_edge in
    let mine = In-get_or items c.loop-edge.edge-index no_edge c.loop-edge-test.true in
    let cut = c.loop-edge.invariant.to_cut edge mine in
    rw (to_z-of_z w64 edge.to (search rules)) (elim c.if-sweep-edge.branch [
      | then-sweep-edge+in_ok-settle w ↦ rw w.sweep-is (w.in_ok-settle.ensures.cuts edge.to cut)
      | else-sweep-edge w ↦ rw w.sweep-is cut
    ])

pub loop-edge-preserved : goal.loop-edge-preserved
loop-edge-preserved c =
    let rects = c.args.rects.now in
    let items = c.deref-edge-items.result.now in
    let i = c.loop-edge.edge-index in
    let inside = c.loop-edge-test.true in
    let edge : Edge = get_or items i no_edge in
    let u = c.loop-edge.invariant in
    let at_row : to_z w64 (of_z w64 edge.row) ≡ edge.row = to_z-of_z w64 edge.row (search rules) in
    let raw : IsAdded (Some (to_z w64 (of_z w64 edge.from))) (Some (to_z w64 (of_z w64 edge.to))) (to_z w64 (of_z w64 c.gain.result))
    c.if-sweep-edge.sweep.counts c.add.new.self = c.in_ok-add.ensures in
    let added : IsAdded (Some edge.from) (Some edge.to) (gain_of edge) c.if-sweep-edge.sweep.counts c.add.new.self =
    rw (to_z-of_z w64 edge.from (search rules), to_z-of_z w64 edge.to (search rules), to_z-of_z w64 c.gain.result (search rules), c.gain.ensures)
    at raw in
    elim c.if-sweep-edge.branch [
      | then-sweep-edge+in_ok-settle w ↦ (let less = w.if-sweep-edge.true in
          let settled = next_settled rects items i c.loop-edge.sweep u inside no_edge w.settle.new.sweep w.in_ok-settle.ensures
          (omega (arith, ints, less)) in
          counted rects items i c.if-sweep-edge.sweep (rw (w.sweep-is, at_row) settled) inside no_edge c.add.new.self
          (sym (ap (λ (s : Sweep). s.row) w.sweep-is ∙ at_row)) added)
      | else-sweep-edge w ↦ (let no_less = w.if-sweep-edge.false in
          let here = next_here rects items i c.loop-edge.sweep u inside no_edge (omega (arith, ints, no_less)) in
          counted rects items i c.if-sweep-edge.sweep (rw w.sweep-is u) inside no_edge c.add.new.self
          (here ∙ sym (ap (λ (s : Sweep). s.row) w.sweep-is)) added)
    ]

pub settle-requires-2 : goal.settle-requires-2
settle-requires-2 c = c.loop-edge.invariant.between

pub returns : goal.returns
returns c =
    let items = c.deref-edge-items.result.now in
    all_settled c.args.rects.now items c.loop-edge.edge-index c.loop-edge.sweep c.settle-2.new.sweep c.loop-edge.invariant c.in_ok-settle-2.ensures
    (take_all c.loop-edge.edge-index items c.loop-edge-test.false) (drop_all c.loop-edge.edge-index items c.loop-edge-test.false)
