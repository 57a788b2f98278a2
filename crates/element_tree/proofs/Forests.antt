-- The links of records that fit are those of a forest.
use Rattle.element_tree.proofs.Common.{◌≡◌, ℕ, suc, ◌<◌, ◌≤◌, ◌+◌, Some, List, [], ◌∷◌, length, map, reverse, All, inl, inr, refl, sym, ◌∙◌, ap}
use Rattle.element_tree.proofs.Common.{subst, arith, slice_get, sum_by, sum_by-cons, sum-map, In, Distinct, In-reverse, In-reverse_source, All-In}
use Rattle.element_tree.proofs.Common.{slice_get-below, UseRec, CellExt, AreRecords, ext_of, greatest, RecordGraph, LeadTo, IsGraphOf, children_of}
use Rattle.element_tree.proofs.Common.{Branch, branches_of, Link, links_from, value_at, chain_from, size_from, AreMeasuredIn, Fits, AreSteps}
use Rattle.element_tree.proofs.Common.{AreBranchesOf, AreBranches, lesser, AreInSteps, AreForest}
use Rattle.name_index.proofs.FiniteSets.Members.{In-index}
use Rattle.name_index.proofs.FiniteSets.Places.{All-slice_get}
use Rattle.ext_model.specs.Lawful.{IsLawful, IsLawfulUse}
use Rattle.element_tree.specs.steps.Links.{links_of}
use Rattle.element_tree.proofs.Counting.{leads_at, measured_at}
use Rattle.element_tree.proofs.Growth.{links_of-found}
use Rattle.element_tree.proofs.Steps.{AreSteps-long}
use Rattle.element_tree.proofs.Rows.{LeadTo-long}

All-In_use : (uses : List UseRec) (used : UseRec) → All IsLawfulUse uses → In used uses → IsLawfulUse used
All-In_use uses used all h = let i = In-index used uses h in subst IsLawfulUse (i.1.1 used) (all i.0 used i.1.0)

greatest_bounds : (values : ℕ → ℕ) (cells : List ℕ) (cell : ℕ) → In cell cells → values cell ≤ greatest (map values cells)
greatest_bounds values [] cell h = absurd h
greatest_bounds values (c ∷ cells) cell (inl e) = let same = ap values e in omega arith
greatest_bounds values (c ∷ cells) cell (inr h) = let more = greatest_bounds values cells cell h in omega arith

sum_bounds : (size : ℕ → ℕ) (links : List Link) (link : Link) → In link links → size link.branch.child ≤ sum_by (λ z. size z.branch.child) links
sum_bounds size [] link h = absurd h
sum_bounds size (other ∷ links) link (inl e) =
    let same : size other.branch.child ≡ size link.branch.child = ap (λ (z : Link). size z.branch.child) e in
    omega (arith, sum_by-cons (λ (z : Link). size z.branch.child) other links)
sum_bounds size (other ∷ links) link (inr h) =
    let more = sum_bounds size links link h in omega (arith, sum_by-cons (λ (z : Link). size z.branch.child) other links)

-- A link leads where its use does.
pub record IsLed (exts : List CellExt) (done children : List ℕ) (uses : List UseRec) (link : Link) : Type 0 where
  pub leads : slice_get exts link.branch.child ≡ ext_of exts link.used.cell
  pub is_done : In link.branch.child done
  pub is_child : In link.branch.child children
  pub is_use : In link.used uses

link_led : (exts : List CellExt) (done : List ℕ) (size : ℕ → ℕ) (number start : ℕ) (uses : List UseRec) (children : List ℕ) (row : List Branch)
    → LeadTo exts done uses children → AreSteps size start children row → (link : Link) → In link (links_from number uses row)
    → IsLed exts done children uses link
link_led exts done size number start [] children row leads steps link h = absurd h
link_led exts done size number start (u ∷ uses) [] row leads steps link h = absurd leads
link_led exts done size number start (u ∷ uses) (c ∷ children) [] leads steps link h = absurd h
link_led exts done size number start (u ∷ uses) (c ∷ children) (b ∷ row) leads steps link (inl e) =
    let used : u ≡ link.used = ap (λ (z : Link). z.used) e in
    let child : c ≡ link.branch.child = sym steps.0 ∙ ap (λ (z : Link). z.branch.child) e in
    record {
      leads = ap (slice_get exts) (sym child) ∙ leads.0 ∙ ap (λ (z : UseRec). ext_of exts z.cell) used;
      is_done = subst (λ z. In z done) child leads.1.0;
      is_child = inl child;
      is_use = inl used;
    }
link_led exts done size number start (u ∷ uses) (c ∷ children) (b ∷ row) leads steps link (inr h) =
    let more = link_led exts done size (suc number) (start + size c) uses children row leads.1.1 steps.2 link h in
    record { leads = more.leads; is_done = more.is_done; is_child = inr more.is_child; is_use = inr more.is_use }

-- the sizes behind the links are those of the children
links_sum : (size : ℕ → ℕ) (number start : ℕ) (uses : List UseRec) (children : List ℕ) (row : List Branch) → length children ≡ length uses
    → AreSteps size start children row → sum_by (λ link. size link.branch.child) (links_from number uses row) ≡ sum_by size children
links_sum size number start [] [] row long steps = refl
links_sum size number start [] (c ∷ children) row long steps = absurd (omega (arith, long))
links_sum size number start (u ∷ uses) [] row long steps = absurd (omega (arith, long))
links_sum size number start (u ∷ uses) (c ∷ children) [] long steps = absurd steps
links_sum size number start (u ∷ uses) (c ∷ children) (b ∷ row) long steps =
    let more = links_sum size (suc number) (start + size c) uses children row (omega (arith, long)) steps.2 in
    let same = ap size steps.0 in
    let first : Link = record { at = number; used = u; branch = b } in
    omega (arith, more, same, sum_by-cons size c children, sum_by-cons (λ (z : Link). size z.branch.child) first (links_from (suc number) uses row))

-- the links stand one behind the other
links_in_steps : (size : ℕ → ℕ) (number start : ℕ) (uses : List UseRec) (children : List ℕ) (row : List Branch) → length children ≡ length uses
    → AreSteps size start children row → AreInSteps size start (links_from number uses row)
links_in_steps size number start [] children row long steps = tt
links_in_steps size number start (u ∷ uses) [] row long steps = absurd (omega (arith, long))
links_in_steps size number start (u ∷ uses) (c ∷ children) [] long steps = absurd steps
links_in_steps size number start (u ∷ uses) (c ∷ children) (b ∷ row) long steps =
    let more = links_in_steps size (suc number) (start + size c) uses children row (omega (arith, long)) steps.2 in
    (steps.1, subst (λ z. AreInSteps size (start + size z) (links_from (suc number) uses row)) (sym steps.0) more)

-- the uses of the links are the uses
pub links_uses : {X : Type 0} (f : UseRec → X) (number : ℕ) (uses : List UseRec) (row : List Branch) → length row ≡ length uses
    → map (λ link. f link.used) (links_from number uses row) ≡ map f uses
links_uses f number [] row long = refl
links_uses f number (u ∷ uses) [] long = absurd (omega (arith, long))
links_uses f number (u ∷ uses) (b ∷ row) long = ap (λ z. f u ∷ z) (links_uses f (suc number) uses row (omega (arith, long)))

-- What is known of a record that fits.
pub record IsOpen (exts : List CellExt) (graph : RecordGraph) (sizes : List ℕ) (branches : List (List Branch)) (cell : ℕ) : Type 0 where
  pub ext : CellExt
  pub found : slice_get exts cell ≡ Some ext
  pub lawful : IsLawful ext
  pub leads : LeadTo exts (reverse graph.order) ext.uses (children_of graph.children cell)
  pub are : AreBranchesOf (value_at sizes) ext.uses (children_of graph.children cell) (branches_of branches cell)
  pub links : links_of exts branches cell ≡ links_from 0 ext.uses (branches_of branches cell)
  pub children_long : length (children_of graph.children cell) ≡ length ext.uses
  pub row_long : length (branches_of branches cell) ≡ length ext.uses
  pub size : value_at sizes cell ≡ suc (sum_by (value_at sizes) (children_of graph.children cell))

open_row : (exts : List CellExt) (root : ℕ) (graph : RecordGraph) (sizes : List ℕ) (branches : List (List Branch)) → AreRecords exts → IsGraphOf exts root graph
    → AreMeasuredIn size_from graph sizes → AreBranches exts graph.children graph.order sizes branches → (cell : ℕ) → Fits graph.order sizes cell
    → IsOpen exts graph sizes branches cell
open_row exts root graph sizes branches records is counts are cell fits =
    let within = All-In (λ z. z < length exts) graph.order cell is.within fits.reached in
    let there = slice_get-below exts cell within in
    let ext = there.0 in
    let here = In-reverse cell graph.order fits.reached in
    let leads = leads_at exts graph.children (reverse graph.order) cell ext is.done here there.1 in
    let right = are.right cell ext fits there.1 in
    let children = LeadTo-long exts (reverse graph.order) ext.uses (children_of graph.children cell) leads in
    let row = AreSteps-long (value_at sizes) 1 (children_of graph.children cell) (branches_of branches cell) right.steps in
    let size = measured_at size_from graph.children sizes (reverse graph.order) cell counts.measured here in
    let total = sum-map (value_at sizes) (children_of graph.children cell) in
    record {
      ext = ext;
      found = there.1;
      lawful = All-slice_get IsLawful exts cell ext records.lawful there.1;
      leads = leads;
      are = right;
      links = links_of-found exts branches cell ext there.1;
      children_long = children;
      row_long = row ∙ children;
      size = omega (arith, size, total, fits.small);
    }

-- what holds of the links as they are made holds of those of the record
on_links : (exts : List CellExt) (graph : RecordGraph) (sizes : List ℕ) (branches : List (List Branch)) (cell : ℕ) (row : IsOpen exts graph sizes branches cell)
    (P : List Link → Type 0) → P (links_from 0 (row.ext).uses (branches_of branches cell)) → P (links_of exts branches cell)
on_links exts graph sizes branches cell row P h = subst P (sym row.links) h

-- each link leads where its use does
led : (exts : List CellExt) (graph : RecordGraph) (sizes : List ℕ) (branches : List (List Branch)) (cell : ℕ) (row : IsOpen exts graph sizes branches cell)
    (link : Link) → In link (links_of exts branches cell)
    → IsLed exts (reverse graph.order) (children_of graph.children cell) (row.ext).uses link
led exts graph sizes branches cell row link h =
    link_led exts (reverse graph.order) (value_at sizes) 0 1 (row.ext).uses (children_of graph.children cell) (branches_of branches cell) row.leads
    (row.are).steps
    link (subst (λ z. In link z) row.links h)

sized : (exts : List CellExt) (graph : RecordGraph) (sizes : List ℕ) (branches : List (List Branch)) (cell : ℕ) → IsOpen exts graph sizes branches cell
    → value_at sizes cell ≡ suc (sum_by (λ link. value_at sizes link.branch.child) (links_of exts branches cell))
sized exts graph sizes branches cell row =
    on_links exts graph sizes branches cell row (λ z. value_at sizes cell ≡ suc (sum_by (λ link. value_at sizes link.branch.child) z))
    (row.size ∙ ap suc (sym (links_sum (value_at sizes) 0 1 (row.ext).uses (children_of graph.children cell) (branches_of branches cell) row.children_long
    (row.are).steps)))

-- the links of all records that fit
pub forest_of : (exts : List CellExt) (root : ℕ) (graph : RecordGraph) (lengths sizes : List ℕ) (branches : List (List Branch)) → AreRecords exts
    → IsGraphOf exts root graph → AreMeasuredIn chain_from graph lengths → AreMeasuredIn size_from graph sizes
    → AreBranches exts graph.children graph.order sizes branches → AreForest exts branches graph.order sizes (value_at lengths)
forest_of exts root graph lengths sizes branches records is chains counts are = record {
  long = are.long;
  within = λ cell fits. All-In (λ z. z < length exts) graph.order cell is.within fits.reached;
  some = λ cell fits. (let own = length_at cell fits in omega arith);
  paired = λ cell ext fits found. (let row = row_at cell fits in
      let same : row.ext ≡ ext = (let both = sym row.found ∙ found in cc) in
      row.row_long ∙ ap (λ (z : CellExt). length z.uses) same);
  leads = λ cell link fits h. (led_at cell fits link h).leads;
  fits = λ cell link fits h. (let own = sized exts graph sizes branches cell (row_at cell fits) in
      let part = sum_bounds (value_at sizes) (links_of exts branches cell) link h in
      record {
        reached = In-reverse_source link.branch.child graph.order (led_at cell fits link h).is_done;
        small = omega (arith, own, part, fits.small);
      });
  shorter = λ cell link fits h. (let own = length_at cell fits in
      let bound = greatest_bounds (value_at lengths) (children_of graph.children cell) link.branch.child (led_at cell fits link h).is_child in
      omega arith);
  sized = λ cell fits. sized exts graph sizes branches cell (row_at cell fits);
  steps = λ cell fits. (let row = row_at cell fits in
      on_links exts graph sizes branches cell row (AreInSteps (value_at sizes) 1)
      (links_in_steps (value_at sizes) 0 1 (row.ext).uses (children_of graph.children cell) (branches_of branches cell) row.children_long (row.are).steps));
  ranks = λ cell link fits h. (let row = row_at cell fits in
      (on_links exts graph sizes branches cell row (λ z. In link z → link.branch.rank_step ≡ suc (lesser (value_at sizes) link.used.id z))
      ((row.are).ranks link)) h);
  names = λ cell fits. (let row = row_at cell fits in
      on_links exts graph sizes branches cell row (λ z. Distinct (map (λ link. link.used.id) z))
      (subst (λ z. Distinct z) (sym (links_uses (λ used. used.id) 0 (row.ext).uses (branches_of branches cell) row.row_long))
      (row.lawful).element_names_differ));
  placed = λ cell link fits h. (let row = row_at cell fits in
      (All-In_use (row.ext).uses link.used (row.lawful).uses (led_at cell fits link h).is_use).six);
}
  where
    row_at : (cell : ℕ) → Fits graph.order sizes cell → IsOpen exts graph sizes branches cell
    row_at cell fits = open_row exts root graph sizes branches records is counts are cell fits

    led_at : (cell : ℕ) (fits : Fits graph.order sizes cell) (link : Link) → In link (links_of exts branches cell)
        → IsLed exts (reverse graph.order) (children_of graph.children cell) ((row_at cell fits).ext).uses link
    led_at cell fits link h = led exts graph sizes branches cell (row_at cell fits) link h

    length_at : (cell : ℕ) → Fits graph.order sizes cell → value_at lengths cell ≡ suc (greatest (map (value_at lengths) (children_of graph.children cell)))
    length_at cell fits = measured_at chain_from graph.children lengths (reverse graph.order) cell chains.measured (In-reverse cell graph.order fits.reached)
