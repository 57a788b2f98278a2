-- The sizes of transistors: the lengths of terminals add up to the edges that lead to terminals, and near places have few edges.
use Rattle.own_record_laws.proofs.Common.{◌≡◌, ◌⊎◌, ◌^◌, ℤ, pos, ◌≤ℤ◌, true, List, [], ◌∷◌, map, IsTrue, inl, inr, refl, sym, ◌∙◌, ap, subst, arith}
use Rattle.own_record_laws.proofs.Common.{ints, In, Distinct, sum_on, RawTech, is_terminal, LeadsAcross, IsEdgeCount, Layout, Place, AreOneChannel}
use Rattle.own_record_laws.proofs.Common.{IsTerminalOf, Transistor, IsTransistor, IsNearPlace}
use Rattle.std.proofs.Common.{◌+ℤ◌, ◌*ℤ◌}
use Rattle.full_names.specs.FiniteSets.Total.{Total}
use Rattle.full_names.proofs.FiniteSets.Listings.{length-lists}
use Rattle.full_names.proofs.FiniteSets.Sums.{sum_on-count, sum_on-scale}
use Rattle.full_names.proofs.FiniteSets.Totals.{Total-none, Total-iff, Total-union, Total-from_list}
use Rattle.tree_records.specs.LayoutModel.Measures.{perimeter_at}
use Rattle.tree_records.specs.LayoutModel.Technologies.{Class}
use Rattle.tree_records.proofs.FloodNodes.OpenEdges.{edges_by_places}
use Rattle.tree_records.proofs.Measures.BoundLaws.{measures_are_small}

-- ---- few edges

-- the class of all types
abbrev all_types : Class
all_types = record { contains = λ kind. true; per_area = pos 0; per_perimeter = pos 0 }

-- near places are few
pub few_places : (Within : Place → Type 0) (n : ℤ) → ((place : Place) → Within place → IsNearPlace place) → Total Within (λ place. pos 1) n
    → (pos 0 ≤ℤ n) × (n ≤ℤ pos (2 ^ 61))
few_places Within n near total =
    let layout : Layout = λ place. 0 in
    let edges = sum_on (perimeter_at all_types.contains layout) total.0 in
    let small = measures_are_small (all_types ∷ []) layout Within ((n, edges) ∷ []) near
    (total, Total-from_list Within (perimeter_at all_types.contains layout) total.0 total.1.0, tt) 0 (n, edges) (omega arith) in
    (small.some_area, small.most_area)

-- a set of edges that lead out of near places has few
pub few_edges : (From To : Place → Type 0) (area n : ℤ) → ((place : Place) → From place → IsNearPlace place) → Total From (λ place. pos 1) area
    → IsEdgeCount From To n → (pos 0 ≤ℤ n) × (n ≤ℤ pos (2 ^ 63))
few_edges From To area n near places edges =
    let few = few_places From area near places in
    let all = edges_by_places From (λ place. true) places.0 places.1.0 in
    let fewer = length-lists (LeadsAcross From To) (LeadsAcross From (λ place. true ≡ true)) edges.0 all.0
    (λ e across. record { from = across.from; to = refl; near = across.near }) edges.1.0 all.1.0 in
    let so_many : sum_on (λ (p : Place). pos 4) places.0 ≡ pos 4 *ℤ area = sum_on-scale (pos 4) (λ (p : Place). pos 1) places.0
    ∙ ap (λ (z : ℤ). pos 4 *ℤ z) places.1.1 in
    let most = few.1 in (
      omega (arith, ints, edges.1.1, sum_on-count edges.0),
      omega (arith, ints, edges.1.1, sum_on-count edges.0, all.1.1, sum_on-count all.0, fewer, so_many, most),
    )

-- ---- terminals

module _ {N : Type 0} (From : Place → Type 0) (To : N → Place → Type 0) (apart : (m n : N) (place : Place) → To m place → To n place → m ≡ n) where
  abbrev key : N × ℤ → N
  key t = t.0

  -- the place is of one of the keys
  abbrev ToSome : List (N × ℤ) → Place → Type 0
  ToSome ts place = (n : N) × (In n (map key ts) × To n place)

  -- edges to different sets are counted by the sum
  pub edges_to_some : (ts : List (N × ℤ)) → Distinct (map key ts) → ((n : N) (length : ℤ) → In {X = N × ℤ} (n, length) ts → IsEdgeCount From (To n) length)
      → IsEdgeCount From (ToSome ts) (sum_on (λ t. t.1) ts)
  edges_to_some [] distinct each = Total-none (LeadsAcross From (ToSome [])) (λ e. pos 1) (λ e across. across.to.1.0)
  edges_to_some (t ∷ ts) distinct each =
      Total-iff (λ (e : Place × Place). LeadsAcross From (To t.0) e ⊎ LeadsAcross From (ToSome ts) e) (LeadsAcross From (ToSome (t ∷ ts))) (λ e. pos 1)
      (t.1 +ℤ sum_on (λ u. u.1) ts)
      (λ e h. elim h [
        | inl first ↦ record { from = first.from; to = (t.0, (inl refl, first.to)); near = first.near }
        | inr rest ↦ record { from = rest.from; to = (rest.to.0, (inr rest.to.1.0, rest.to.1.1)); near = rest.near }
      ])
      (λ e h. elim h.to.1.0 [
        | inl same ↦ inl (record { from = h.from; to = subst (λ (n : N). To n e.1) (sym same) h.to.1.1; near = h.near })
        | inr later ↦ inr (record { from = h.from; to = (h.to.0, (later, h.to.1.1)); near = h.near })
      ])
      (Total-union (LeadsAcross From (To t.0)) (LeadsAcross From (ToSome ts)) (λ e. pos 1) t.1 (sum_on (λ u. u.1) ts)
      (λ e first rest. distinct.0 (subst (λ (n : N). In n (map key ts)) (apart rest.to.0 t.0 e.1 rest.to.1.1 first.to) rest.to.1.0))
      (each t.0 t.1 (inl refl)) (edges_to_some ts distinct.1 (λ n length later. each n length (inr later))))

-- the lengths of a transistor's terminals add up to the edges that lead to places of a terminal's type
pub terminals_total : {N : Type 0} (raw : RawTech) (layout : Layout) (Owns : N → Place → Type 0) (fet : Transistor N)
    → ((m n : N) (place : Place) → Owns m place → Owns n place → m ≡ n) → IsTransistor raw layout Owns fet
    → IsEdgeCount (AreOneChannel layout fet.least) (λ place. IsTrue (is_terminal raw fet.kind (layout place))) (sum_on (λ terminal. terminal.1) fet.terminals)
terminals_total {N} raw layout Owns fet apart is =
    let Channel = AreOneChannel layout fet.least in
    let To : N → Place → Type 0 = IsTerminalOf raw layout Owns fet.kind in
    let To_some : Place → Type 0 = λ place. (n : N) × (In n (map (λ (t : N × ℤ). t.0) fet.terminals) × To n place) in
    let Listed : Place → Type 0 = λ place. IsTrue (is_terminal raw fet.kind (layout place)) in
    Total-iff (LeadsAcross Channel To_some) (LeadsAcross Channel Listed) (λ e. pos 1) (sum_on (λ (t : N × ℤ). t.1) fet.terminals)
    (λ e h. record { from = h.from; to = h.to.1.1.listed; near = h.near })
    (λ e h. let at = is.whole e.0 e.1 h.from h.near h.to in
    record { from = h.from; to = (at.0, (at.1, record { listed = h.to; owned = at.2 })); near = h.near })
    (edges_to_some Channel To (λ m n place p q. apart m n place p.owned q.owned) fet.terminals is.once (λ n length listed. (is.terminals n length listed).1))
