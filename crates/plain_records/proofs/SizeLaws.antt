-- The sizes of records by those of their children, each taken as often as its use has elements.
use Rattle.plain_records.proofs.Common.{◌≡◌, ℕ, ◌<◌, ◌≤◌, ◌+◌, ◌*◌, List, [], ◌∷◌, ◌++◌, length, map, reverse, get_or, take, drop, refl, sym, ◌∙◌}
use Rattle.plain_records.proofs.Common.{ap, subst, arith, Some, slice_get, get_or_default, length-map, take_all, sum_by-cons, slice_get_read}
use Rattle.plain_records.proofs.Common.{slice_get-map_there, UseRec, ArrayUse, ArrayExt, plain_uses, RecordGraph, children_of, AreMeasured}
use Rattle.plain_records.proofs.Common.{LeadTo-long, plains, AreArrayRecords, first_use, thin, thins, spread, spreads, spread_graph}
use Rattle.std.specs.List.{sum}
use Rattle.finite_sets.proofs.Searches.{drop_split}
use Rattle.flat_limits.proofs.ElementTree.Measures.{IsRead, next_in_order}
use Rattle.plain_records.proofs.GraphLaws.{spreads-at, graph-spread}

sum_block : (values : ℕ → ℕ) (block : List UseRec) (child : ℕ) (children : List ℕ)
    → sum (map values (map (λ _. child) block ++ children)) ≡ length block * values child + sum (map values children)
sum_block values [] child children = omega arith
sum_block values (one ∷ block) child children =
    let more = sum_block values block child children in
    let all = sum_by-cons (λ (n : ℕ). n) (values child) (map values (map (λ _. child) block ++ children)) in
    omega (arith, more, all)

-- what the elements behind the uses from a place on are
abbrev pub rest_of : (ℕ → ℕ) → List ArrayUse → List ℕ → ℕ → ℕ
rest_of values uses children at = sum (map values (spread (drop at uses) (drop at children)))

-- the use at the place counts as often as it has elements
pub rest_step : (values : ℕ → ℕ) (uses : List ArrayUse) (children : List ℕ) (at : ℕ) (used : ArrayUse) → length children ≡ length uses
    → at < length children → used ≡ get_or uses at used
    → rest_of values uses children at ≡ length (plain_uses used) * values (get_or children at 0) + rest_of values uses children (at + 1)
rest_step values uses children at used long within is =
    let child = get_or children at 0 in
    let here : drop at uses ≡ used ∷ drop (at + 1) uses = drop_split uses at used (omega (arith, long)) is in
    let there : drop at children ≡ child ∷ drop (at + 1) children = drop_split children at child within (read children at within) in
    ap (λ z. sum (map values (spread z (drop at children)))) here
    ∙ ap (λ z. sum (map values (spread (used ∷ drop (at + 1) uses) z))) there
    ∙ sum_block values (plain_uses used) child (spread (drop (at + 1) uses) (drop (at + 1) children))
  where
    read : (xs : List ℕ) (k : ℕ) → k < length xs → get_or xs k 0 ≡ get_or xs k (get_or xs k 0)
    read xs k h = get_or_default xs k 0 (get_or xs k 0) h

-- the record that is read at a place
ext_read : (exts : List ArrayExt) (root : ℕ) (graph : RecordGraph) (place cell : ℕ) (row : List ℕ) (ext : ArrayExt)
    → IsRead (thins exts) root graph place cell row → ext ≡ get_or exts cell ext → slice_get exts cell ≡ Some ext
ext_read exts root graph place cell row ext read is =
    let within : get_or graph.order place 0 < length (thins exts) = read.is.within place 0 read.before_end in
    let long = length-map exts thin in
    slice_get_read exts (length exts) cell ext refl (let same = read.same_cell in omega (arith, within, long, same)) is

-- What the loop over the order reads at a place: the children of the plain record there.
pub spread_read : (exts : List ArrayExt) → AreArrayRecords exts → (root : ℕ) (graph : RecordGraph) (place cell : ℕ) (row : List ℕ) (ext : ArrayExt)
    (uses : List ArrayUse) → IsRead (thins exts) root graph place cell row → ext ≡ get_or exts cell ext → uses ≡ ext.uses
    → IsRead (plains exts) root (spread_graph exts graph) place cell (spread uses row)
spread_read exts are root graph place cell row ext uses read is own =
    let long : length graph.children ≡ length exts = read.is.long ∙ length-map exts thin in
    let lists = spreads exts graph.children in
    let at = ext_read exts root graph place cell row ext read is in
    record {
      is = graph-spread exts are.cells_differ root graph read.is;
      before_end = read.before_end;
      same_cell = read.same_cell;
      same_row = ap (λ z. spread z row) own
          ∙ ap (spread ext.uses) (read.same_row ∙ ap (children_of graph.children) (sym read.same_cell))
          ∙ sym (spreads-at exts graph.children cell ext long at) ∙ ap (children_of lists) read.same_cell;
    }

-- there are as many children as uses
pub read_paired : (exts : List ArrayExt) (root : ℕ) (graph : RecordGraph) (place cell : ℕ) (row : List ℕ) (ext : ArrayExt) (uses : List ArrayUse)
    → IsRead (thins exts) root graph place cell row → ext ≡ get_or exts cell ext → uses ≡ ext.uses → length row ≡ length uses
read_paired exts root graph place cell row ext uses read is own =
    let at = ext_read exts root graph place cell row ext read is in
    let next = next_in_order (thins exts) root graph place read.is read.before_end in
    let there : slice_get (thins exts) (get_or graph.order place 0) ≡ Some (thin ext) =
    ap (slice_get (thins exts)) (sym read.same_cell) ∙ slice_get-map_there thin exts cell ext at in
    let leads = next.leads.0 (thin ext) there in
    ap length read.same_row
    ∙ LeadTo-long (thins exts) (reverse (take place graph.order)) (map first_use ext.uses) (children_of graph.children (get_or graph.order place 0)) leads
    ∙ length-map ext.uses first_use ∙ sym (ap length own)

-- the numbers of all records of the order
pub measured_all : (from : List ℕ → ℕ) (lists : List (List ℕ)) (values order : List ℕ) (i : ℕ) → length order ≤ i
    → AreMeasured from lists values (reverse (take i order)) → AreMeasured from lists values (reverse order)
measured_all from lists values order i past measured = subst (λ z. AreMeasured from lists values (reverse z)) (take_all i order past) measured
