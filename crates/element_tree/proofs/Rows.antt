-- The branches of one record after the other.
use Rattle.element_tree.proofs.Common.{◌≡◌, ℕ, ◌<◌, ◌≤◌, ◌+◌, Some, ◌⊎◌, List, [], ◌∷◌, length, get_or, set, map, take, reverse, inl, inr, refl, sym}
use Rattle.element_tree.proofs.Common.{◌∙◌, ap, subst, arith, slice_get, take_more, length-set, get_or-set_same, get_or-set_other, get_or_default}
use Rattle.element_tree.proofs.Common.{slice_get_read, In, In-get_or, In-reverse, UseRec, CellExt, MOST_FLAT_ELEMENTS, RecordGraph, LeadTo}
use Rattle.element_tree.proofs.Common.{children_of, Branch, branches_of, value_at, size_from, AreMeasuredIn, Fits, AreBranchesOf, AreBranches}
use Rattle.name_index.proofs.FiniteSets.Members.{In-push_cases}
use Rattle.element_tree.proofs.Measures.{IsRead, next_in_order}
use Rattle.element_tree.proofs.Counting.{measured_at}

-- as many children as uses
pub LeadTo-long : (exts : List CellExt) (done : List ℕ) (uses : List UseRec) (children : List ℕ) → LeadTo exts done uses children
    → length children ≡ length uses
LeadTo-long exts done [] [] h = refl
LeadTo-long exts done [] (c ∷ children) h = absurd h
LeadTo-long exts done (u ∷ uses) [] h = absurd h
LeadTo-long exts done (u ∷ uses) (c ∷ children) h = let more = LeadTo-long exts done uses children h.1.1 in omega arith

-- What a loop over the order reads at a place beside the children: the uses of the record there.
pub record IsUsesRead (exts : List CellExt) (root : ℕ) (graph : RecordGraph) (place cell : ℕ) (uses : List UseRec) (row : List ℕ) : Type 0 where
  pub read : IsRead exts root graph place cell row
  pub ext : CellExt
  pub found : slice_get exts cell ≡ Some ext
  pub same_uses : uses ≡ ext.uses

pub uses_read : (exts : List CellExt) (root : ℕ) (graph : RecordGraph) (place cell : ℕ) (ext : CellExt) (uses : List UseRec) (row : List ℕ)
    → IsRead exts root graph place cell row → ext ≡ get_or exts cell ext → uses ≡ (get_or exts cell ext).uses
    → IsUsesRead exts root graph place cell uses row
uses_read exts root graph place cell ext uses row read e same =
    let next = next_in_order exts root graph place read.is read.before_end in
    let within : cell < length exts = subst (λ z. z < length exts) (sym read.same_cell) next.within in
    record {
      read = read;
      ext = ext;
      found = slice_get_read exts (length exts) cell ext refl within e;
      same_uses = same ∙ ap (λ (z : CellExt). z.uses) (sym e);
    }

-- they are as many
pub read_long : (exts : List CellExt) (root : ℕ) (graph : RecordGraph) (place cell : ℕ) (uses : List UseRec) (row : List ℕ)
    → IsUsesRead exts root graph place cell uses row → length row ≡ length uses
read_long exts root graph place cell uses row r =
    let read = r.read in
    let next = next_in_order exts root graph place read.is read.before_end in
    let found : slice_get exts (get_or graph.order place 0) ≡ Some r.ext = ap (slice_get exts) (sym read.same_cell) ∙ r.found in
    ap length read.same_row
    ∙ LeadTo-long exts (reverse (take place graph.order)) (r.ext).uses (children_of graph.children (get_or graph.order place 0)) (next.leads.0 r.ext found)
    ∙ ap length (sym r.same_uses)

-- the size of the record is that of its children
pub read_size : (exts : List CellExt) (root : ℕ) (graph : RecordGraph) (place cell d : ℕ) (row sizes : List ℕ) → IsRead exts root graph place cell row
    → AreMeasuredIn size_from graph sizes → get_or sizes cell d ≡ size_from (map (value_at sizes) row)
read_size exts root graph place cell d row sizes read counts =
    let next = next_in_order exts root graph place read.is read.before_end in
    let at = get_or graph.order place 0 in
    let within : cell < length sizes = subst (λ z. z < length sizes) (sym read.same_cell) (omega (arith, next.within, counts.long, read.is.long)) in
    let here = In-reverse at graph.order (In-get_or graph.order place 0 read.before_end) in
    get_or_default sizes cell d 1 within ∙ ap (value_at sizes) read.same_cell
    ∙ measured_at size_from graph.children sizes (reverse graph.order) at counts.measured here
    ∙ ap (λ z. size_from (map (value_at sizes) z)) (sym read.same_row)

-- one more record has its branches
pub branches_more : (exts : List CellExt) (root : ℕ) (graph : RecordGraph) (place cell : ℕ) (uses : List UseRec) (row sizes : List ℕ)
    (branches : List (List Branch)) (new : List Branch) → IsUsesRead exts root graph place cell uses row
    → AreBranches exts graph.children (take place graph.order) sizes branches
    → (value_at sizes cell ≤ MOST_FLAT_ELEMENTS → AreBranchesOf (value_at sizes) uses row new)
    → AreBranches exts graph.children (take (place + 1) graph.order) sizes (set branches cell new)
branches_more exts root graph place cell uses row sizes branches new r before fresh =
    record { long = length-set branches cell new ∙ before.long; right = right }
  where
    kept : (other : ℕ) (ext : CellExt) → In other (take place graph.order) → value_at sizes other ≤ MOST_FLAT_ELEMENTS → slice_get exts other ≡ Some ext
        → AreBranchesOf (value_at sizes) ext.uses (children_of graph.children other) (branches_of (set branches cell new) other)
    kept other ext h small found =
        let next = next_in_order exts root graph place (r.read).is (r.read).before_end in
        let apart : other ≡ cell → ⊥ = λ e. next.fresh (In-reverse (get_or graph.order place 0) (take place graph.order)
        (subst (λ z. In z (take place graph.order)) (e ∙ (r.read).same_cell) h)) in
        subst (AreBranchesOf (value_at sizes) ext.uses (children_of graph.children other)) (sym (get_or-set_other branches cell other new [] apart))
        (before.right other ext (record { reached = h; small = small }) found)

    own : (ext : CellExt) → value_at sizes cell ≤ MOST_FLAT_ELEMENTS → slice_get exts cell ≡ Some ext
        → AreBranchesOf (value_at sizes) ext.uses (children_of graph.children cell) (branches_of (set branches cell new) cell)
    own ext small found =
        let next = next_in_order exts root graph place (r.read).is (r.read).before_end in
        let within : cell < length exts = subst (λ z. z < length exts) (sym (r.read).same_cell) next.within in
        let same : r.ext ≡ ext = (let both = sym r.found ∙ found in cc) in
        let long = before.long in
        subst (AreBranchesOf (value_at sizes) ext.uses (children_of graph.children cell)) (sym (get_or-set_same branches cell new [] (omega arith)))
        (subst (λ z. AreBranchesOf (value_at sizes) ext.uses z new) ((r.read).same_row ∙ ap (children_of graph.children) (sym (r.read).same_cell))
        (subst (λ z. AreBranchesOf (value_at sizes) z row new) (r.same_uses ∙ ap (λ (z : CellExt). z.uses) same) (fresh small)))

    right : (other : ℕ) (ext : CellExt) → Fits (take (place + 1) graph.order) sizes other → slice_get exts other ≡ Some ext
        → AreBranchesOf (value_at sizes) ext.uses (children_of graph.children other) (branches_of (set branches cell new) other)
    right other ext fits found =
        step (In-push_cases other (take place graph.order) (get_or graph.order place 0)
        (subst (λ z. In other z) (take_more graph.order place 0 (r.read).before_end) fits.reached))
      where
        step : In other (take place graph.order) ⊎ (get_or graph.order place 0 ≡ other)
            → AreBranchesOf (value_at sizes) ext.uses (children_of graph.children other) (branches_of (set branches cell new) other)
        step (inl h) = kept other ext h fits.small found
        step (inr e) =
            let is : cell ≡ other = (r.read).same_cell ∙ e in
            let P : ℕ → Type 0 = λ z. value_at sizes z ≤ MOST_FLAT_ELEMENTS → slice_get exts z ≡ Some ext
            → AreBranchesOf (value_at sizes) ext.uses (children_of graph.children z) (branches_of (set branches cell new) z) in
            (subst P is (own ext)) fits.small found
