-- Links lead both ways, and a layout has one list of nodes.
use Rattle.std.proofs.Common.{◌≡◌, ℕ, ℤ, Bool, List, [], ◌∷◌, inl, inr, refl, sym, subst, ap, ◌∙◌}
use Rattle.geo_core.specs.FiniteSets.Lists.{In}
use Rattle.geo_core.proofs.FiniteSets.Chains.{Chain-back}
use Rattle.geo_core.proofs.FiniteSets.Totals.{Total-unique}
use Rattle.geo_core.specs.FiniteSets.Laws.{IsTransitive}
use Rattle.geo_core.proofs.FiniteSets.InOrder.{same_by_order, Pairwise-from_order}
use Rattle.layout_model.specs.Places.{Place, IsBefore}
use Rattle.layout_model.specs.Layouts.{Layout}
use Rattle.layout_model.specs.Links.{AreLinked, AreOneNode}
use Rattle.layout_model.specs.Measures.{area_at, perimeter_at}
use Rattle.layout_model.specs.Technologies.{Class, Technology}
use Rattle.layout_model.specs.Nodes.{Node, AreMeasures, IsNode, AreNodes}
use Rattle.layout_model.specs.Laws.{ConnectsBothWays, HasOneNodeList}
use Rattle.layout_model.proofs.PlaceLaws.{AreNeighbours-sym, AreStacked-sym, IsBefore-irreflexive, IsBefore-trans, IsNoLater-antisym}

-- links go both ways
pub AreLinked-sym : (connects : ℕ → ℕ → Bool) (layout : Layout) → ConnectsBothWays connects → (a b : Place) → AreLinked connects layout a b
    → AreLinked connects layout b a
AreLinked-sym connects layout symmetric a b link = record {
  here = link.there;
  there = link.here;
  near = elim link.near [ inl beside ↦ inl (AreNeighbours-sym a b beside) | inr stacked ↦ inr (AreStacked-sym a b stacked) ];
  connected = sym (symmetric (layout a) (layout b)) ∙ link.connected;
}

-- and so do chains of them
pub AreOneNode-sym : (connects : ℕ → ℕ → Bool) (layout : Layout) → ConnectsBothWays connects → {a b : Place} → AreOneNode connects layout a b
    → AreOneNode connects layout b a
AreOneNode-sym connects layout symmetric chain = Chain-back (AreLinked-sym connects layout symmetric) chain

-- the measures of a set are determined
pub same_measures : (classes : List Class) (layout : Layout) (Within : Place → Type 0) (ms ns : List (ℤ × ℤ)) → AreMeasures classes layout Within ms
    → AreMeasures classes layout Within ns → ms ≡ ns
same_measures [] layout Within [] [] p q = refl
same_measures [] layout Within [] (n ∷ ns) p q = absurd q
same_measures [] layout Within (m ∷ ms) ns p q = absurd p
same_measures (class ∷ classes) layout Within [] ns p q = absurd p
same_measures (class ∷ classes) layout Within (m ∷ ms) [] p q = absurd q
same_measures (class ∷ classes) layout Within (m ∷ ms) (n ∷ ns) p q =
    let area = Total-unique Within (area_at class.contains layout) m.0 n.0 p.0 q.0 in
    let perimeter = Total-unique Within (perimeter_at class.contains layout) m.1 n.1 p.1 q.1 in
    let both : m ≡ n = ap (λ (v : ℤ). (v, m.1)) area ∙ ap (λ (v : ℤ). (n.0, v)) perimeter in
    rw (both, same_measures classes layout Within ms ns p.2 q.2) refl

-- a node is determined by its least place
same_node : (technology : Technology) (layout : Layout) (m n : Node) → IsNode technology layout m → IsNode technology layout n → m.least ≡ n.least → m ≡ n
same_node technology layout m n p q same =
    let kind : m.kind ≡ n.kind = p.kind ∙ ap layout same ∙ sym q.kind in
    let theirs = subst (λ (place : Place). AreMeasures technology.classes layout (AreOneNode technology.connects layout place) m.measures) same p.measures in
    let measures = same_measures technology.classes layout (AreOneNode technology.connects layout n.least) m.measures n.measures theirs q.measures in
    let whole : record { least = m.least; kind = m.kind; measures = m.measures } ≡ n = rw (same, kind, measures) refl in
    whole

-- the least place of the first node stands before that of the second
abbrev IsFirst : Node → Node → Type 0
IsFirst x y = IsBefore x.least y.least

IsFirst-trans : IsTransitive IsFirst
IsFirst-trans x y z = IsBefore-trans x.least y.least z.least

-- each node of one list stands in the other
stands_there : (technology : Technology) (layout : Layout) (xs ys : List Node) → ConnectsBothWays technology.connects → AreNodes technology layout xs
    → AreNodes technology layout ys → (z : Node) → In z xs → In z ys
stands_there technology layout xs ys symmetric p q z inside =
    let mine = p.sound z inside in
    let other = q.whole z.least mine.material in
    let theirs = q.sound other.0 other.1 in
    let back = AreOneNode-sym technology.connects layout symmetric other.2 in
    let same = IsNoLater-antisym z.least other.0.least (mine.least.1 other.0.least back) (theirs.least.1 z.least other.2) in
    subst (λ (n : Node). In n ys) (sym (same_node technology layout z other.0 mine theirs same)) other.1

-- a layout has one list of nodes
pub has_one_node_list : HasOneNodeList
has_one_node_list technology layout xs ys symmetric p q =
    same_by_order IsFirst (λ x. IsBefore-irreflexive x.least) IsFirst-trans xs ys
    (Pairwise-from_order IsFirst IsFirst-trans xs p.in_order) (Pairwise-from_order IsFirst IsFirst-trans ys q.in_order)
    (stands_there technology layout xs ys symmetric p q)
    (stands_there technology layout ys xs symmetric q p)
