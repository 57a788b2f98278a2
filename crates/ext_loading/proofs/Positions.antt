-- The positions of records by the names of their cells, and the graph that they make.
use Rattle.ext_loading.proofs.Common.{◌≡◌, ℕ, true, false, List, [], get_or, refl, sym, ap, ◌∙◌, subst, arith, list_any, position_or_len, bytes_eq}
use Rattle.ext_loading.proofs.Common.{bytes_eq-Decides, In, Distinct, In-map, In-map_source, ArrayExt, ArrayUse, cells_read, children_in, cells_used}
use Rattle.std.proofs.Common.{◌<◌, Bool, length, true≢false}
use Rattle.std.specs.Prelude.{nat_lt, slice_index}
use Rattle.std.specs.List.{position}
use Rattle.std.proofs.lemmas.Bool.{ltb-false, ltb-true}
use Rattle.std.proofs.lemmas.List.{length-map, get_or-map, get_or_past}
use Rattle.std.proofs.lemmas.List.Sums.{position_or_len_is}
use Rattle.finite_sets.proofs.Distincts.{Distinct-places}
use Rattle.finite_sets.proofs.Members.{In-get_or, In-index}
use Rattle.finite_sets.proofs.Searches.{list_any-In}
use Rattle.use_orders.specs.Uses.{used_by, AreCells}
use Rattle.ext_reading.proofs.NameLaws.{place_found}
use Rattle.ext_loading.specs.Loads.{positions_used}

-- the position of the record of a cell
abbrev pub position_in : List ArrayExt → List ℕ → ℕ
position_in read name = position_or_len (bytes_eq name) (cells_read read)

-- a cell that was read has a position
pub position_below : (read : List ArrayExt) (name : List ℕ) → In name (cells_read read) → position_in read name < length read
position_below read name there = step (list_any (bytes_eq name) (cells_read read)) refl
  where
    step : (t : Bool) → list_any (bytes_eq name) (cells_read read) ≡ t → position_in read name < length read
    step true some =
        let below = ltb-true (position_in read name) (length (cells_read read)) (place_found (bytes_eq name) (cells_read read) ∙ some) in
        omega (arith, below, length-map read (λ (ext : ArrayExt). ext.cell))
    step false none =
        absurd (true≢false (sym ((bytes_eq-Decides name name).1 refl) ∙ list_any-In (bytes_eq name) (cells_read read) name none there))

-- which is that of its record
pub position_of : (read : List ArrayExt) (k : ℕ) (ext : ArrayExt) → Distinct (cells_read read) → k < length read → get_or read k ext ≡ ext
    → position_in read ext.cell ≡ k
position_of read k ext differ inside is =
    position_or_len_is (bytes_eq ext.cell) cells k ext.cell (omega (arith, inside, long))
    (λ j before. other j before (bytes_eq ext.cell (get_or cells j ext.cell)) refl)
    (λ _. (bytes_eq-Decides ext.cell (get_or cells k ext.cell)).1 (sym here))
  where
    cells : List (List ℕ)
    cells = cells_read read

    long : length cells ≡ length read
    long = length-map read (λ (e : ArrayExt). e.cell)

    here : get_or cells k ext.cell ≡ ext.cell
    here = get_or-map (λ (e : ArrayExt). e.cell) read k ext ext.cell inside ∙ ap (λ (e : ArrayExt). e.cell) is

    other : (j : ℕ) → j < k → (t : Bool) → bytes_eq ext.cell (get_or cells j ext.cell) ≡ t → t ≡ false
    other j before true same =
        absurd (Distinct-places cells j k ext.cell differ before (omega (arith, inside, long))
        (sym ((bytes_eq-Decides ext.cell (get_or cells j ext.cell)).0 same) ∙ sym here))
    other j before false differs = refl

-- ---- the graph

-- the cells that the record at a position uses, by the positions of their records
children_at : (read : List ArrayExt) (cell : ℕ) (ext : ArrayExt) → cell < length read
    → used_by (children_in read) cell ≡ positions_used read (get_or read cell ext)
children_at read cell ext there = get_or-map (positions_used read) read cell ext [] there

-- one of them
pub child_at : (read : List ArrayExt) (cell place : ℕ) (ext : ArrayExt) (used : ArrayUse) → cell < length (children_in read)
    → place < length (used_by (children_in read) cell) → ext ≡ get_or read cell ext
    → position_in read (get_or ext.uses place used).cell ≡ slice_index (used_by (children_in read) cell) place
child_at read cell place ext used there within is =
    sym (ap (λ (children : List ℕ). slice_index children place) children
    ∙ get_or-map (position_in read) (cells_used ext) place used.cell 0 (omega (arith, inside, long))
    ∙ ap (position_in read) (get_or-map (λ (u : ArrayUse). u.cell) ext.uses place used used.cell inside))
  where
    children : used_by (children_in read) cell ≡ positions_used read ext
    children =
        children_at read cell ext (omega (arith, there, length-map read (positions_used read))) ∙ ap (positions_used read) (sym is)

    long : length (cells_used ext) ≡ length ext.uses
    long = length-map ext.uses (λ (u : ArrayUse). u.cell)

    inside : place < length ext.uses
    inside = omega (arith, within, ap length children, length-map (cells_used ext) (position_in read), long)

-- a record uses another by their positions
pub uses_by_position : (read : List ArrayExt) (ext : ArrayExt) (name : List ℕ) → Distinct (cells_read read) → In ext read → In name (cells_used ext)
    → In (position_in read name) (used_by (children_in read) (position_in read ext.cell))
uses_by_position read ext name differ there used =
    let at = In-index ext read there in
    let number : position_in read ext.cell ≡ at.0 = position_of read at.0 ext differ at.1.0 (at.1.1 ext) in
    let children : used_by (children_in read) (position_in read ext.cell) ≡ positions_used read ext =
    ap (used_by (children_in read)) number ∙ children_at read at.0 ext at.1.0 ∙ ap (positions_used read) (at.1.1 ext) in
    subst (In (position_in read name)) (sym children) (In-map (position_in read) name (cells_used ext) used)

-- what stands past the end of a list of records
no_ext : ArrayExt
no_ext = record { cell = []; tech = []; classes = []; uses = []; nodes = []; fets = []; merges = [] }

-- where each cell that a record uses was read, each child has a position
pub children_are_cells : (read : List ArrayExt) → ((ext : ArrayExt) (name : List ℕ) → In ext read → In name (cells_used ext) → In name (cells_read read))
    → AreCells (children_in read)
children_are_cells read closed parent child used = step (nat_lt parent (length read)) refl
  where
    long : length (children_in read) ≡ length read
    long = length-map read (positions_used read)

    ext : ArrayExt
    ext = get_or read parent no_ext

    step : (t : Bool) → nat_lt parent (length read) ≡ t → child < length (children_in read)
    step true inside =
        let there = ltb-true parent (length read) inside in
        let source = In-map_source (position_in read) child (cells_used ext) (subst (In child) (children_at read parent no_ext there) used) in
        let below = position_below read source.0 (closed ext source.0 (In-get_or read parent no_ext there) source.1.0) in
        omega (arith, below, source.1.1, long)
    step false past = absurd (subst (In child) (get_or_past (children_in read) parent [] (omega (arith, long, ltb-false parent (length read) past))) used)
