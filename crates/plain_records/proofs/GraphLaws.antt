-- The graph of thin records tells that of the plain ones.
use Rattle.plain_records.proofs.Common.{◌≡◌, ℕ, zero, suc, ◌<◌, List, [], ◌∷◌, ◌++◌, length, map, reverse, inl, inr, refl, sym, ◌∙◌, ap, subst}
use Rattle.plain_records.proofs.Common.{arith, Some, slice_get, flat_map, length-map, same_Some, In, Distinct, slice_get-map_source}
use Rattle.plain_records.proofs.Common.{slice_get-map_there, slice_get-below, All-In, UseRec, CellExt, ArrayUse, ArrayExt, plain, plain_uses, ext_of}
use Rattle.plain_records.proofs.Common.{greatest, RecordGraph, LeadTo, children_of, value_at, chain_from, AreMeasured, AreMeasuredIn, LeadTo-long}
use Rattle.plain_records.proofs.Common.{plains, first_use, thin, thins, spread, spreads, spread_graph}
use Rattle.std.proofs.Common.{max}
use Rattle.finite_sets.proofs.Images.{In-reverse_source}
use Rattle.flat_limits.specs.ElementTree.Graphs.{AreDone, IsGraphOf}
use Rattle.plain_records.proofs.UseLaws.{some_uses, uses_cell, first_in}
use Rattle.plain_records.proofs.PlaceLaws.{leads_plain}

-- there is a list for each record
pub length-spreads : (exts : List ArrayExt) (lists : List (List ℕ)) → length lists ≡ length exts → length (spreads exts lists) ≡ length exts
length-spreads [] lists long = refl
length-spreads (ext ∷ exts) [] long = absurd (omega (arith, long))
length-spreads (ext ∷ exts) (children ∷ lists) long = ap suc (length-spreads exts lists (omega (arith, long)))

-- and it is that of its uses
pub spreads-at : (exts : List ArrayExt) (lists : List (List ℕ)) (cell : ℕ) (ext : ArrayExt) → length lists ≡ length exts → slice_get exts cell ≡ Some ext
    → children_of (spreads exts lists) cell ≡ spread ext.uses (children_of lists cell)
spreads-at [] lists cell ext long at = absurd (cc)
spreads-at (other ∷ exts) [] cell ext long at = absurd (omega (arith, long))
spreads-at (other ∷ exts) (children ∷ lists) zero ext long at = ap (λ (z : ArrayExt). spread z.uses children) (same_Some other ext at)
spreads-at (other ∷ exts) (children ∷ lists) (suc cell) ext long at = spreads-at exts lists cell ext (omega (arith, long)) at

-- elements of one use lead to one record
lead_block : (records : List CellExt) (done : List ℕ) (block uses : List UseRec) (child : ℕ) (children : List ℕ)
    → ((one : UseRec) → In one block → slice_get records child ≡ ext_of records one.cell) → In child done → LeadTo records done uses children
    → LeadTo records done (block ++ uses) (map (λ _. child) block ++ children)
lead_block records done [] uses child children led there more = more
lead_block records done (one ∷ block) uses child children led there more =
    (led one (inl refl), (there, lead_block records done block uses child children (λ z h. led z (inr h)) there more))

module _ (exts : List ArrayExt) (differ : Distinct (map (λ ext. ext.cell) exts)) where
  LeadTo-spread : (done : List ℕ) (uses : List ArrayUse) (children : List ℕ) → LeadTo (thins exts) done (map first_use uses) children
      → LeadTo (plains exts) done (flat_map plain_uses uses) (spread uses children)
  LeadTo-spread done [] children leads = tt
  LeadTo-spread done (used ∷ uses) [] leads = absurd leads
  LeadTo-spread done (used ∷ uses) (child ∷ children) leads =
      lead_block (plains exts) done (plain_uses used) (flat_map plain_uses uses) child (spread uses children)
      (λ one here.
      leads_plain exts differ child (first_use used).cell leads.0
      ∙ ap (ext_of (plains exts)) (uses_cell used (first_use used) (first_in used) ∙ sym (uses_cell used one here)))
      leads.1.0 (LeadTo-spread done uses children leads.1.1)

  AreDone-spread : (lists : List (List ℕ)) (order : List ℕ) → length lists ≡ length exts → AreDone (thins exts) lists order
      → AreDone (plains exts) (spreads exts lists) order
  AreDone-spread lists [] long leads = tt
  AreDone-spread lists (cell ∷ order) long leads = (
    (λ ext at. (let made = slice_get-map_source plain exts cell ext at in
        let L : CellExt → List ℕ → Type 0 = λ e children. LeadTo (plains exts) order e.uses children in
        let thin_leads = leads.0 (thin made.0) (slice_get-map_there thin exts cell made.0 made.1.0) in
        let led = LeadTo-spread order (made.0).uses (children_of lists cell) thin_leads in
        subst (λ z. L z (children_of (spreads exts lists) cell)) made.1.1
        (subst (L (plain made.0)) (sym (spreads-at exts lists cell made.0 long made.1.0)) led))),
    AreDone-spread lists order long leads.1,
  )

  -- the graph of the plain records
  pub graph-spread : (root : ℕ) (graph : RecordGraph) → IsGraphOf (thins exts) root graph → IsGraphOf (plains exts) root (spread_graph exts graph)
  graph-spread root graph is =
      let thin_long = length-map exts thin in
      let plain_long = length-map exts plain in
      let long : length graph.children ≡ length exts = is.long ∙ thin_long in
      record {
        long = length-spreads exts graph.children long ∙ sym plain_long;
        once = is.once;
        within = λ k d h. (let below = is.within k d h in omega (arith, below, thin_long, plain_long));
        root_in = is.root_in;
        done = AreDone-spread graph.children (reverse graph.order) long is.done;
      }

-- the greatest of numbers of which the first is taken several times
greatest_block : (values : ℕ → ℕ) (block : List UseRec) (child : ℕ) (children : List ℕ) → 0 < length block
    → greatest (map values (map (λ _. child) block ++ children)) ≡ max (values child) (greatest (map values children))
greatest_block values [] child children some = absurd (omega (arith, some))
greatest_block values (one ∷ []) child children some = refl
greatest_block values (one ∷ other ∷ block) child children some =
    let more = greatest_block values (other ∷ block) child children (omega arith) in
    ap (max (values child)) more ∙ omega arith

-- the greatest of the numbers of children that are taken several times
greatest-spread : (values : ℕ → ℕ) (uses : List ArrayUse) (children : List ℕ) → length children ≡ length uses
    → greatest (map values (spread uses children)) ≡ greatest (map values children)
greatest-spread values [] [] long = refl
greatest-spread values [] (child ∷ children) long = absurd (omega (arith, long))
greatest-spread values (used ∷ uses) [] long = absurd (omega (arith, long))
greatest-spread values (used ∷ uses) (child ∷ children) long =
    greatest_block values (plain_uses used) child (spread uses children) (some_uses used)
    ∙ ap (max (values child)) (greatest-spread values uses children (omega (arith, long)))

chains_spread : (exts : List ArrayExt) (lists : List (List ℕ)) (lengths done : List ℕ) → length lists ≡ length exts
    → ((cell : ℕ) → In cell done → cell < length exts) → AreDone (thins exts) lists done → AreMeasured chain_from lists lengths done
    → AreMeasured chain_from (spreads exts lists) lengths done
chains_spread exts lists lengths [] long within leads chains = tt
chains_spread exts lists lengths (cell ∷ done) long within leads chains =
    let found = slice_get-below exts cell (within cell (inl refl)) in
    let paired = LeadTo-long (thins exts) done (map first_use (found.0).uses) (children_of lists cell)
    (leads.0 (thin found.0) (slice_get-map_there thin exts cell found.0 found.1)) ∙ length-map (found.0).uses first_use in
    let same : greatest (map (value_at lengths) (children_of (spreads exts lists) cell)) ≡ greatest (map (value_at lengths) (children_of lists cell)) =
    ap (λ z. greatest (map (value_at lengths) z)) (spreads-at exts lists cell found.0 long found.1)
    ∙ greatest-spread (value_at lengths) (found.0).uses (children_of lists cell) paired in
    (chains.0 ∙ ap suc (sym same), chains_spread exts lists lengths done long (λ c h. within c (inr h)) leads.1 chains.1)

-- the chains of thin records are those of the plain ones
pub chains-spread : (exts : List ArrayExt) (root : ℕ) (graph : RecordGraph) (lengths : List ℕ) → IsGraphOf (thins exts) root graph
    → AreMeasuredIn chain_from graph lengths → AreMeasuredIn chain_from (spread_graph exts graph) lengths
chains-spread exts root graph lengths is chains =
    let long : length graph.children ≡ length exts = is.long ∙ length-map exts thin in
    let thin_long = length-map exts thin in
    record {
      long = chains.long ∙ long ∙ sym (length-spreads exts graph.children long);
      measured = chains_spread exts graph.children lengths (reverse graph.order) long
          (λ cell h. (let below = All-In (λ z. z < length (thins exts)) graph.order cell is.within (In-reverse_source cell graph.order h) in
          omega (arith, below, thin_long)))
          is.done chains.measured;
    }
