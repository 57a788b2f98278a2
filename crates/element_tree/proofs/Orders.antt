-- The order in which the walk is done with records, and the places of its faults.
use Rattle.element_tree.proofs.Common.{◌≡◌, ℕ, zero, suc, ◌<◌, ◌≤◌, ◌+◌, ◌==◌, Bool, true, false, cond, Option, Some, None, List, [], ◌∷◌, ◌++◌}
use Rattle.element_tree.proofs.Common.{length, map, inl, inr, refl, sym, ◌∙◌, ap, subst, arith, reverse, list_any, position, option_or, bytes_eq}
use Rattle.element_tree.proofs.Common.{length-map, get_or-map, reverse-append, get_or_from_slice_get, In, Distinct, Distinct-append_left}
use Rattle.element_tree.proofs.Common.{Distinct-append_apart, In-reverse, In-reverse_source, UsePlace, WalkFault, NoCellAt, CycleAt, NoMemory, Graph}
use Rattle.element_tree.proofs.Common.{uses_of, IsGraph, IsOrder, number_fault, UseRec, CellExt, FlatFault, LeadTo, AreDone, IsGraphOf, children_of}
use Rattle.element_tree.proofs.Common.{cells_of, goals_in, goal_graph, found_goals, IsUseOf, IsNamedFault}
use Rattle.std.specs.Prelude.{slice_get}
use Rattle.std.proofs.lemmas.List.{get_or_past}
use Rattle.std.proofs.lemmas.Option.{slice_get_cases}
use Rattle.name_index.proofs.FiniteSets.Members.{In-map_source}
use Rattle.name_index.proofs.FiniteSets.Searches.{All-from_In}
use Rattle.element_tree.specs.steps.Walks.{IsDoneIn, IsClosed, fault_from, fault_below}
use Rattle.circuit_model.specs.declared.faults.FlatFault.TheVariants.{NoCell, Cycle}
use Rattle.element_tree.specs.steps.Goals.{IsUseAt}
use Rattle.element_tree.proofs.Cells.{numbered}
use Rattle.element_tree.proofs.RecordWalks.{fault_named, cell_of_use}

-- ---- lists turned round

reverse-cons : {X : Type 0} (x : X) (xs : List X) → reverse (x ∷ xs) ≡ reverse xs ++ x ∷ []
reverse-cons x xs = reverse-append (x ∷ []) xs

Distinct-from_reverse : {X : Type 0} (xs : List X) → Distinct (reverse xs) → Distinct xs
Distinct-from_reverse [] h = h
Distinct-from_reverse (x ∷ xs) h =
    let turned = subst Distinct (reverse-cons x xs) h in (
      (λ l. Distinct-append_apart (reverse xs) (x ∷ []) turned x (In-reverse x xs l) (inl refl)),
      Distinct-from_reverse xs (Distinct-append_left (reverse xs) (x ∷ []) turned),
    )

-- ---- where faults stand

-- The use stands in the graph.
abbrev IsIn : Graph → UsePlace → Type 0
IsIn graph place = (place.cell < length graph) × (place.at < length (uses_of graph place.cell))

abbrev StandsIn : Graph → WalkFault → Type 0
StandsIn graph (NoCellAt place) = IsIn graph place
StandsIn graph (CycleAt place) = IsIn graph place
StandsIn graph NoMemory = Unit {0}

abbrev AreIn : Graph → Option WalkFault → Type 0
AreIn graph None = Unit {0}
AreIn graph (Some fault) = StandsIn graph fault

either_in : (graph : Graph) (one other : Option WalkFault) → AreIn graph one → AreIn graph other → AreIn graph (option_or one other)
either_in graph None other h k = k
either_in graph (Some fault) other h k = h

from_in : (graph : Graph) (below : ℕ → Option WalkFault) → ((child : ℕ) → child < length graph → AreIn graph (below child)) → IsGraph graph
    → (open_cells : List ℕ) (cell at : ℕ) → cell < length graph → (uses : List (Option ℕ)) → ((goal : Option ℕ) → In goal uses → In goal (uses_of graph cell))
    → at + length uses ≤ length (uses_of graph cell) → AreIn graph (fault_from below open_cells cell at uses)
from_in graph below right is_graph open_cells cell at h [] members fits = tt
from_in graph below right is_graph open_cells cell at h (None ∷ uses) members fits = (h, omega (arith, fits))
from_in graph below right is_graph open_cells cell at h (Some child ∷ uses) members fits =
    step (list_any (λ other. other == child) open_cells)
    (from_in graph below right is_graph open_cells cell (suc at) h uses (λ u k. members u (inr k)) (omega (arith, fits)))
  where
    step : (t : Bool) → AreIn graph (fault_from below open_cells cell (suc at) uses)
        → AreIn graph (cond t (Some (CycleAt (record { cell = cell; at = at }))) (option_or (below child) (fault_from below open_cells cell (suc at) uses)))
    step true more = (h, omega (arith, fits))
    step false more =
        either_in graph (below child) (fault_from below open_cells cell (suc at) uses) (right child (is_graph cell child (members (Some child)
        (inl refl)))) more

below_in : (graph : Graph) → IsGraph graph → (depth : ℕ) (open_cells : List ℕ) (cell : ℕ) → cell < length graph → AreIn graph
    (fault_below depth graph open_cells cell)
unfolding fault_below
below_in graph is_graph zero open_cells cell h = tt
below_in graph is_graph (suc depth) open_cells cell h =
    from_in graph (λ child. fault_below depth graph (child ∷ open_cells) child) (λ child k. below_in graph is_graph depth (child ∷ open_cells) child k) is_graph
    open_cells cell 0 h (uses_of graph cell) (λ u k. k) (omega arith)

module _ (exts : List CellExt) where
  abbrev pub graph : Graph
  graph = goal_graph (cells_of exts) exts

  long : length graph ≡ length exts
  long = length-map exts (goals_in (cells_of exts))

  -- the goals of the record of a number
  uses_are : (cell : ℕ) (ext : CellExt) → slice_get exts cell ≡ Some ext → cell < length exts → uses_of graph cell ≡ goals_in (cells_of exts) ext
  uses_are cell ext is h =
      get_or-map (goals_in (cells_of exts)) exts cell ext [] h ∙ ap (goals_in (cells_of exts)) (get_or_from_slice_get exts cell ext ext is)

  goals_within : (uses : List UseRec) (child : ℕ) → In (Some child) (map (λ used. position (bytes_eq used.cell) (cells_of exts)) uses) → child < length exts
  goals_within uses child h =
      let source = In-map_source (λ used. position (bytes_eq used.cell) (cells_of exts)) (Some child) uses h in
      (numbered exts source.0.cell child source.1.1).0

  -- each goal is a record
  pub is_graph : IsGraph graph
  is_graph cell child h =
      elim (slice_get_cases exts cell).1 [
        | inl there ↦
            let found = uses_are cell there.0 there.2 there.1 in
            let within = goals_within there.0.uses child (subst (In (Some child)) found h) in
            omega (arith, within, long)
        | inr past ↦ absurd (subst (In (Some child)) (get_or_past graph cell [] (omega (arith, past.0, long))) h)
      ]

  -- ---- the uses of records that are done

  lead_to : (done : List ℕ) (uses : List UseRec) → IsDoneIn done (map (λ used. position (bytes_eq used.cell) (cells_of exts)) uses)
      → LeadTo exts done uses (found_goals (map (λ used. position (bytes_eq used.cell) (cells_of exts)) uses))
  lead_to done [] h = tt
  lead_to done (used ∷ uses) h = step (position (bytes_eq used.cell) (cells_of exts)) refl h (lead_to done uses)
    where
      goals : List (Option ℕ)
      goals = map (λ used. position (bytes_eq used.cell) (cells_of exts)) uses

      step : (goal : Option ℕ) → position (bytes_eq used.cell) (cells_of exts) ≡ goal → IsDoneIn done (goal ∷ goals)
          → (IsDoneIn done goals → LeadTo exts done uses (found_goals goals)) → LeadTo exts done (used ∷ uses) (found_goals (goal ∷ goals))
      step None e h more = absurd h
      step (Some child) e h more = (sym (numbered exts used.cell child e).1, (h.0, more h.1))

  are_done : (done : List ℕ) → ((cell : ℕ) → In cell done → cell < length exts) → IsClosed graph done → AreDone exts (map found_goals graph) done
  are_done [] within h = tt
  are_done (cell ∷ done) within h = (
    (λ ext is.
        let inside = within cell (inl refl) in
        let found = uses_are cell ext is inside in
        let children : children_of (map found_goals graph) cell ≡ found_goals (goals_in (cells_of exts) ext) =
        get_or-map found_goals graph cell [] [] (omega (arith, inside, long)) ∙ ap found_goals found in
        subst (LeadTo exts done ext.uses) (sym children) (lead_to done ext.uses (subst (IsDoneIn done) found h.0))),
    are_done done (λ c k. within c (inr k)) h.1,
  )

  -- the order of a walk without fault makes the graph
  pub graph_of_order : (root : ℕ) (order : List ℕ) → IsOrder graph root order
      → IsGraphOf exts root (record { children = map found_goals graph; order = order })
  graph_of_order root order walked = record {
    long = length-map graph found_goals ∙ long;
    once = Distinct-from_reverse order walked.once;
    within = All-from_In (λ cell. cell < length exts) order (λ cell h. let k = walked.within cell (In-reverse cell order h) in omega (arith, k, long));
    root_in = In-reverse_source root order walked.root_in;
    done = are_done (reverse order) (λ cell h. let k = walked.within cell h in omega (arith, k, long)) walked.closed;
  }

  -- ---- the fault of a walk

  use_at : (place : UsePlace) → IsIn graph place → IsUseAt exts place
  use_at place h =
      elim (slice_get_cases exts place.cell).1 [
        | inl there ↦
            let found = uses_are place.cell there.0 there.2 there.1 in
            let count : length (uses_of graph place.cell) ≡ length there.0.uses =
            ap length found ∙ length-map there.0.uses (λ used. position (bytes_eq used.cell) (cells_of exts)) in
            (there.0, (there.2, (let k = h.1 in omega (arith, k, count))))
        | inr past ↦ absurd (let k = h.0 in omega (arith, past.0, k, long))
      ]

  use_of : (fault : WalkFault) → StandsIn graph fault → IsUseOf exts fault
  use_of (NoCellAt place) h = use_at place h
  use_of (CycleAt place) h = use_at place h
  use_of NoMemory h = tt

  -- it names a use
  pub fault_at : (root : ℕ) → root < length exts → (fault : WalkFault) → number_fault graph root ≡ Some fault → IsUseOf exts fault
  fault_at root h fault is =
      use_of fault (subst (AreIn graph) is (below_in graph is_graph (suc (length graph)) (root ∷ []) root (omega (arith, h, long))))

-- the fault with the name of the use's cell is that of the records
pub named_is : (exts : List CellExt) (top : CellExt) (fault : WalkFault) (flat : FlatFault) → IsNamedFault exts fault flat → fault_named exts top fault ≡ flat
named_is exts top (NoCellAt place) flat named =
    let at = get_or_from_slice_get exts place.cell named.1.0.0 top named.1.0.1.0 in
    ap (λ (ext : CellExt). NoCell (cell_of_use (slice_get ext.uses place.at))) at
    ∙ ap (λ (used : Option UseRec). NoCell (cell_of_use used)) named.1.0.1.1.1.0
    ∙ ap NoCell (sym named.1.0.1.1.1.1) ∙ sym named.1.1
named_is exts top (CycleAt place) flat named =
    let at = get_or_from_slice_get exts place.cell named.1.0.0 top named.1.0.1.0 in
    ap (λ (ext : CellExt). Cycle (cell_of_use (slice_get ext.uses place.at))) at
    ∙ ap (λ (used : Option UseRec). Cycle (cell_of_use used)) named.1.0.1.1.1.0
    ∙ ap Cycle (sym named.1.0.1.1.1.1) ∙ sym named.1.1
named_is exts top NoMemory flat named = sym named
