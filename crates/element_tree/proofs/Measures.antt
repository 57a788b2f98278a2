-- The records in the order in which they are done, and the numbers that their children's make theirs.
use Rattle.element_tree.proofs.Common.{◌≡◌, ℕ, suc, ◌<◌, ◌≤◌, ◌+◌, max, List, [], ◌∷◌, ◌++◌, length, get_or, set, map, take, drop, reverse, All, inl}
use Rattle.element_tree.proofs.Common.{inr, refl, sym, ◌∙◌, ap, subst, arith, get_or_read, get_or-set_same, get_or-set_other, take_more}
use Rattle.element_tree.proofs.Common.{reverse-append, length-reverse, In, Distinct, In-get_or, Distinct-append_left, Distinct-append_apart}
use Rattle.element_tree.proofs.Common.{In-reverse_source, All-In, slice_get-below, UseRec, CellExt, greatest, RecordGraph, LeadTo, AreDone}
use Rattle.element_tree.proofs.Common.{IsGraphOf, children_of, value_at, chain_from, AreMeasured}
use Rattle.std.proofs.lemmas.List.{take-append-drop, length-take-le}
use Rattle.std.proofs.lemmas.List.Elements.{All-take}
use Rattle.std.proofs.lemmas.List.Recursion.{max_push}

-- the last of the first so many stands first when they are reversed
pub reverse_more : (xs : List ℕ) (i : ℕ) (d : ℕ) → i < length xs → reverse (take (i + 1) xs) ≡ get_or xs i d ∷ reverse (take i xs)
reverse_more xs i d h = ap reverse (take_more xs i d h) ∙ reverse-append (take i xs) (get_or xs i d ∷ [])

AreDone-back : (exts : List CellExt) (children : List (List ℕ)) (later done : List ℕ) → AreDone exts children (later ++ done) → AreDone exts children done
AreDone-back exts children [] done h = h
AreDone-back exts children (cell ∷ later) done h = AreDone-back exts children later done h.1

-- The record is the next to be done behind those.
pub record IsNext (exts : List CellExt) (children : List (List ℕ)) (cell : ℕ) (done : List ℕ) : Type 0 where
  pub fresh : In cell done → ⊥
  pub leads : AreDone exts children (cell ∷ done)
  pub within : cell < length exts
  pub done_within : (other : ℕ) → In other done → other < length exts

-- the record at a place of the order is the next behind those before it
pub next_in_order : (exts : List CellExt) (root : ℕ) (graph : RecordGraph) (i : ℕ) → IsGraphOf exts root graph → i < length graph.order
    → IsNext exts graph.children (get_or graph.order i 0) (reverse (take i graph.order))
next_in_order exts root graph i is h =
    let order = graph.order in
    let cell = get_or order i 0 in
    let front : List ℕ = take i order in
    let cut : (front ++ cell ∷ []) ++ drop (i + 1) order ≡ order = ap (λ z. z ++ drop (i + 1) order) (sym (take_more order i 0 h))
    ∙ take-append-drop (i + 1) order in
    let once = Distinct-append_left (front ++ cell ∷ []) (drop (i + 1) order) (subst (λ z. Distinct z) (sym cut) is.once) in
    let turned : reverse order ≡ reverse (drop (i + 1) order) ++ (cell ∷ reverse front) =
    ap reverse (sym (take-append-drop (i + 1) order)) ∙ reverse-append (take (i + 1) order) (drop (i + 1) order)
    ∙ ap (λ z. reverse (drop (i + 1) order) ++ z) (reverse_more order i 0 h) in
    record {
      fresh = λ k. Distinct-append_apart front (cell ∷ []) once cell (In-reverse_source cell front k) (inl refl);
      leads = AreDone-back exts graph.children (reverse (drop (i + 1) order)) (cell ∷ reverse front) (subst (AreDone exts graph.children) turned is.done);
      within = is.within i 0 h;
      done_within = λ other k. All-In (λ z. z < length exts) front other (All-take (λ z. z < length exts) i order is.within) (In-reverse_source other front k);
    }

-- the children of a record that leads to done ones are done
pub children_done : (exts : List CellExt) (done : List ℕ) (uses : List UseRec) (children : List ℕ) → LeadTo exts done uses children
    → (child : ℕ) → In child children → In child done
children_done exts done [] [] h child k = absurd k
children_done exts done [] (c ∷ children) h child k = absurd h
children_done exts done (u ∷ uses) [] h child k = absurd h
children_done exts done (u ∷ uses) (c ∷ children) h child (inl e) = subst (λ z. In z done) e h.1.0
children_done exts done (u ∷ uses) (c ∷ children) h child (inr k) = children_done exts done uses children h.1.1 child k

-- where the children of the next record stand
pub next_children : (exts : List CellExt) (children : List (List ℕ)) (cell : ℕ) (done : List ℕ) → cell < length exts → AreDone exts children (cell ∷ done)
    → (child : ℕ) → In child (children_of children cell) → In child done
next_children exts children cell done within leads child h =
    let found = slice_get-below exts cell within in
    children_done exts done (found.0).uses (children_of children cell) (leads.0 found.0 found.1) child h

same_values : (values others : List ℕ) (cells : List ℕ) → ((cell : ℕ) → In cell cells → value_at others cell ≡ value_at values cell)
    → map (value_at others) cells ≡ map (value_at values) cells
same_values values others [] same = refl
same_values values others (cell ∷ cells) same =
    let first = same cell (inl refl) in
    let rest = same_values values others cells (λ c h. same c (inr h)) in
    cc

value_kept : (values : List ℕ) (cell v other : ℕ) (done : List ℕ) → (In cell done → ⊥) → In other done
    → value_at (set values cell v) other ≡ value_at values other
value_kept values cell v other done fresh h = get_or-set_other values cell other v 1 (λ e. fresh (subst (λ z. In z done) e h))

measured_kept : (from : List ℕ → ℕ) (exts : List CellExt) (children : List (List ℕ)) (values : List ℕ) (cell v : ℕ) (done : List ℕ)
    → (In cell done → ⊥) → ((other : ℕ) → In other done → other < length exts) → AreDone exts children done → AreMeasured from children values done
    → AreMeasured from children (set values cell v) done
measured_kept from exts children values cell v [] fresh within leads measured = tt
measured_kept from exts children values cell v (other ∷ done) fresh within leads measured =
    let own = value_kept values cell v other (other ∷ done) fresh (inl refl) in
    let below = same_values values (set values cell v) (children_of children other) (λ c h. value_kept values cell v c done (λ k. fresh (inr k))
    (next_children exts children other done (within other (inl refl)) leads c h)) in (
      own ∙ measured.0 ∙ ap from (sym below),
      measured_kept from exts children values cell v done (λ h. fresh (inr h)) (λ c h. within c (inr h)) leads.1 measured.1,
    )

-- one more record has its number
pub measured_more : (from : List ℕ → ℕ) (exts : List CellExt) (children : List (List ℕ)) (values : List ℕ) (cell v : ℕ) (done : List ℕ)
    → IsNext exts children cell done → length values ≡ length exts → AreMeasured from children values done
    → v ≡ from (map (value_at values) (children_of children cell)) → AreMeasured from children (set values cell v) (cell ∷ done)
measured_more from exts children values cell v done next long measured e =
    let within = next.within in
    let below = same_values values (set values cell v) (children_of children cell) (λ c h. value_kept values cell v c done next.fresh
    (next_children exts children cell done next.within next.leads c h)) in (
      get_or-set_same values cell v 1 (omega arith) ∙ e ∙ ap from (sym below),
      measured_kept from exts children values cell v done next.fresh next.done_within next.leads.1 measured,
    )

-- and the same as the loop over the order has it
pub measured_in_order : (from : List ℕ → ℕ) (exts : List CellExt) (root : ℕ) (graph : RecordGraph) (values : List ℕ) (i v : ℕ) → IsGraphOf exts root graph
    → i < length graph.order → length values ≡ length exts → AreMeasured from graph.children values (reverse (take i graph.order))
    → v ≡ from (map (value_at values) (children_of graph.children (get_or graph.order i 0)))
    → AreMeasured from graph.children (set values (get_or graph.order i 0) v) (reverse (take (i + 1) graph.order))
measured_in_order from exts root graph values i v is h long measured e =
    subst (AreMeasured from graph.children (set values (get_or graph.order i 0) v)) (sym (reverse_more graph.order i 0 h))
    (measured_more from exts graph.children values (get_or graph.order i 0) v (reverse (take i graph.order))
    (next_in_order exts root graph i is h) long measured e)

-- the children of the next record are records
pub children_within : (exts : List CellExt) (root : ℕ) (graph : RecordGraph) (i : ℕ) → IsGraphOf exts root graph → i < length graph.order
    → All (λ child. child < length exts) (children_of graph.children (get_or graph.order i 0))
children_within exts root graph i is h = λ k d fits.
    let next = next_in_order exts root graph i is h in
    let cell = get_or graph.order i 0 in
    next.done_within (get_or (children_of graph.children cell) k d)
    (next_children exts graph.children cell (reverse (take i graph.order)) next.within next.leads (get_or (children_of graph.children cell) k d)
    (In-get_or (children_of graph.children cell) k d fits))

-- numbers that are all bounded have a bounded greatest
pub greatest-le : (values : ℕ → ℕ) (cells : List ℕ) (m : ℕ) → ((cell : ℕ) → In cell cells → values cell ≤ m) → greatest (map values cells) ≤ m
greatest-le values [] m bound = omega arith
greatest-le values (cell ∷ cells) m bound =
    let first = bound cell (inl refl) in
    let rest = greatest-le values cells m (λ c h. bound c (inr h)) in
    omega arith

-- a chain has no more records than are done
pub chain_bound : (exts : List CellExt) (children : List (List ℕ)) (lengths done : List ℕ) → ((cell : ℕ) → In cell done → cell < length exts)
    → AreDone exts children done → AreMeasured chain_from children lengths done → (cell : ℕ) → In cell done → value_at lengths cell ≤ length done
chain_bound exts children lengths [] within leads measured cell h = absurd h
chain_bound exts children lengths (other ∷ done) within leads measured cell (inl e) =
    let rest = greatest-le (value_at lengths) (children_of children other) (length done)
    (λ c k. chain_bound exts children lengths done (λ d l. within d (inr l))
    leads.1 measured.1 c (next_children exts children other done (within other (inl refl)) leads c k)) in
    subst (λ z. value_at lengths z ≤ suc (length done)) e (omega (arith, measured.0))
chain_bound exts children lengths (other ∷ done) within leads measured cell (inr h) =
    let more = chain_bound exts children lengths done (λ d l. within d (inr l)) leads.1 measured.1 cell h in omega arith

-- the longest chain of the children of the next record is no longer than the place of the record
pub greatest_below : (exts : List CellExt) (root : ℕ) (graph : RecordGraph) (lengths : List ℕ) (i : ℕ) → IsGraphOf exts root graph → i < length graph.order
    → AreMeasured chain_from graph.children lengths (reverse (take i graph.order))
    → greatest (map (value_at lengths) (children_of graph.children (get_or graph.order i 0))) ≤ i
greatest_below exts root graph lengths i is h measured =
    let next = next_in_order exts root graph i is h in
    let cell = get_or graph.order i 0 in
    let done = reverse (take i graph.order) in
    let long : length done ≡ i = length-reverse (take i graph.order) ∙ length-take-le i graph.order (omega arith) in
    greatest-le (value_at lengths) (children_of graph.children cell) i (λ c k.
    let bound = chain_bound exts graph.children lengths done next.done_within next.leads.1 measured c
    (next_children exts graph.children cell done next.within next.leads c k) in omega arith)

-- the greatest of one number more
pub greatest_more : (values : ℕ → ℕ) (cells : List ℕ) (i : ℕ) → i < length cells
    → greatest (map values (take (i + 1) cells)) ≡ max (greatest (map values (take i cells))) (values (get_or cells i 0))
greatest_more values cells i h =
    ap (λ z. greatest (map values z)) (take_more cells i 0 h)
    ∙ max_push (λ z. greatest (map values z)) values refl (λ x xs. refl) (take i cells) (get_or cells i 0)

-- What a loop over the order reads at a place: the children of the record there.
pub record IsRead (exts : List CellExt) (root : ℕ) (graph : RecordGraph) (place cell : ℕ) (row : List ℕ) : Type 0 where
  pub is : IsGraphOf exts root graph
  pub before_end : place < length graph.order
  pub same_cell : cell ≡ get_or graph.order place 0
  pub same_row : row ≡ children_of graph.children (get_or graph.order place 0)

pub row_read : (exts : List CellExt) (root : ℕ) (graph : RecordGraph) (place : ℕ) (order : List ℕ) (lists : List (List ℕ)) (stored row : List ℕ)
    → IsGraphOf exts root graph → order ≡ graph.order → place < length order → lists ≡ graph.children
    → stored ≡ get_or lists (get_or order place 0) stored → row ≡ stored → IsRead exts root graph place (get_or order place 0) row
row_read exts root graph place order lists stored row is same h lists_same s r =
    let before : place < length graph.order = subst (λ z. place < length z) same h in
    let cell : get_or order place 0 ≡ get_or graph.order place 0 = ap (λ z. get_or z place 0) same in
    let fits : get_or graph.order place 0 < length graph.children = (let within = is.within place 0 before in omega (arith, is.long)) in
    let read : stored ≡ get_or graph.children (get_or graph.order place 0) stored =
    s ∙ ap (λ z. get_or z (get_or order place 0) stored) lists_same ∙ ap (λ z. get_or graph.children z stored) cell in
    record {
      is = is;
      before_end = before;
      same_cell = cell;
      same_row = r ∙ get_or_read graph.children (get_or graph.order place 0) stored fits read [];
    }

-- the children are records
pub read_within : (exts : List CellExt) (root : ℕ) (graph : RecordGraph) (place cell n : ℕ) (row : List ℕ) → IsRead exts root graph place cell row
    → n ≡ length exts → All (λ child. child < n) row
read_within exts root graph place cell n row read e =
    subst (λ z. All (λ child. child < z) row) (sym e)
    (subst (λ z. All (λ child. child < length exts) z) (sym read.same_row) (children_within exts root graph place read.is read.before_end))

-- the longest chain of the children is no longer than the place
pub read_greatest : (exts : List CellExt) (root : ℕ) (graph : RecordGraph) (place cell : ℕ) (row lengths : List ℕ) → IsRead exts root graph place cell row
    → AreMeasured chain_from graph.children lengths (reverse (take place graph.order)) → greatest (map (value_at lengths) row) ≤ place
read_greatest exts root graph place cell row lengths read measured =
    subst (λ z. greatest (map (value_at lengths) z) ≤ place) (sym read.same_row) (greatest_below exts root graph lengths place read.is read.before_end measured)

-- the record gets its number
pub read_measured : (from : List ℕ → ℕ) (exts : List CellExt) (root : ℕ) (graph : RecordGraph) (place cell : ℕ) (row values : List ℕ) (v : ℕ)
    → IsRead exts root graph place cell row → length values ≡ length exts → AreMeasured from graph.children values (reverse (take place graph.order))
    → v ≡ from (map (value_at values) row) → AreMeasured from graph.children (set values cell v) (reverse (take (place + 1) graph.order))
read_measured from exts root graph place cell row values v read long measured e =
    subst (λ z. AreMeasured from graph.children (set values z v) (reverse (take (place + 1) graph.order))) (sym read.same_cell)
    (measured_in_order from exts root graph values place v read.is read.before_end long measured
    (e ∙ ap (λ z. from (map (value_at values) z)) read.same_row))
