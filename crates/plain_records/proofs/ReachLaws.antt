-- What is at and below a root depends on the records reached alone.
use Rattle.plain_records.proofs.Common.{◌≡◌, ℕ, zero, suc, ◌<◌, Bool, true, false, cond, List, [], ◌∷◌, ◌++◌, length, map, reverse, sum_by, inl, inr}
use Rattle.plain_records.proofs.Common.{refl, sym, ◌∙◌, ap, subst, Option, Some, None, slice_get, flat_map, option_or, option_map, length-map}
use Rattle.plain_records.proofs.Common.{map-append, same_Some, In, slice_get-map_source, slice_get-below, All-In, find-In, UseRec, CellExt, ArrayExt}
use Rattle.plain_records.proofs.Common.{plain, FlatFault, Cycle, Depth, Elements, Merges, LONGEST_CHAIN, MOST_FLAT_ELEMENTS, MOST_MERGES, ext_of}
use Rattle.plain_records.proofs.Common.{walk_fault, greatest, merge_count, past, LeadTo, children_of, plains, with_merges, IsExpandedAt, at_use}
use Rattle.std.specs.Prelude.{find}
use Rattle.std.specs.Str.{bytes_eq}
use Rattle.std.proofs.lemmas.List.Folds.{flat_map-map}
use Rattle.finite_sets.proofs.Images.{In-flat_map_source, In-reverse, In-reverse_source, map-same, map-fixed}
use Rattle.finite_sets.proofs.Sums.{sum_by-map}
use Rattle.ext_model.specs.declared.circuits.Circuit.{Circuit}
use Rattle.ext_model.specs.NodeNames.{slashes_in}
use Rattle.circuit_model.specs.declared.faults.FlatFault.TheVariants.{NoPath}
use Rattle.circuit_model.specs.declared.limits.CircuitLimit.TheVariants.{Nodes, Names}
use Rattle.circuit_model.specs.declared.limits.TheConstants.{MOST_NODES, MOST_NAME_BYTES}
use Rattle.circuit_model.specs.Elements.{Element, of_option, elements_below, elements_of}
use Rattle.circuit_model.specs.FlatNodes.{is_among}
use Rattle.circuit_model.specs.FullNames.{full_names}
use Rattle.circuit_model.specs.Circuits.{IsMeaning, IsCircuitOf}
use Rattle.circuit_model.specs.Refusals.{first_fault, use_fault, chain_length, depth_of, once, name_bytes, node_count}
use Rattle.circuit_model.specs.Refusals.{class_fault, before_slash, after_slash, leads, path_fault, merge_fault, element_fault, flat_fault}
use Rattle.flat_limits.proofs.ElementTree.Cells.{found_cell}
use Rattle.flat_limits.specs.ElementTree.Trees.{tree_fault}
use Rattle.flat_limits.proofs.ElementTree.Counting.{leads_at}
use Rattle.plain_records.specs.Reached.{reach_fault}
use Rattle.plain_records.proofs.PlaceLaws.{found_at}

-- The record is one of those in the order.
pub record IsReached (records : List CellExt) (order : List ℕ) (ext : CellExt) : Type 0 where
  pub cell : ℕ
  pub within : In cell order
  pub at : slice_get records cell ≡ Some ext

-- A cell has a record that is reached, if it has one, and its new record is that one with its merges or without.
record LeadsSame (merged : Bool) (records news : List CellExt) (order : List ℕ) (cell : List ℕ) : Type 0 where
  same : ext_of news cell ≡ option_map (with_merges merged) (ext_of records cell)
  below : (child : CellExt) → ext_of records cell ≡ Some child → IsReached records order child

-- what each thing gives alike, the first gives alike
first_same : {X : Type 0} (f g : X → Option FlatFault) (xs : List X) → ((x : X) → In x xs → f x ≡ g x) → first_fault f xs ≡ first_fault g xs
first_same f g [] same = refl
first_same f g (x ∷ xs) same =
    ap (λ o. option_or o (first_fault f xs)) (same x (inl refl)) ∙ ap (option_or (g x)) (first_same f g xs (λ z h. same z (inr h)))

-- parts that are images make an image
flat_map-images : {X Y : Type 0} (h : Y → Y) (f g : X → List Y) (xs : List X) → ((x : X) → In x xs → f x ≡ map h (g x))
    → flat_map f xs ≡ map h (flat_map g xs)
flat_map-images h f g [] same = refl
flat_map-images h f g (x ∷ xs) same =
    ap (λ z. z ++ flat_map f xs) (same x (inl refl)) ∙ ap (λ z. map h (g x) ++ z) (flat_map-images h f g xs (λ z k. same z (inr k)))
    ∙ sym (map-append h (g x) (flat_map g xs))

-- the element with its record's merges or without
abbrev pub element_form : Bool → Element → Element
element_form merged element = record { uses = element.uses; ext = with_merges merged element.ext }

abbrev chain_at : ℕ → List CellExt → Option CellExt → ℕ
chain_at bound records found = elim found [ None ↦ 0 | Some child ↦ chain_length bound records child ]

abbrev leads_to : ℕ → List CellExt → List ℕ → Option CellExt → Bool
leads_to slashes records path found = elim found [ None ↦ false | Some child ↦ leads slashes records child (after_slash path) ]

abbrev leads_by : ℕ → List CellExt → List ℕ → Option UseRec → Bool
leads_by slashes records path found = elim found [ None ↦ false | Some used ↦ leads_to slashes records path (ext_of records used.cell) ]

module _ (merged : Bool) (records news : List CellExt) (order : List ℕ)
    (closed : (ext : CellExt) → IsReached records order ext → (used : UseRec) → In used ext.uses → LeadsSame merged records news order used.cell) where
  -- what is the same for each child is the same where a use leads
  same_behind : {Y : Type 0} (f g : Option CellExt → Y) (cell : List ℕ) → LeadsSame merged records news order cell → f None ≡ g None
      → ((child : CellExt) → IsReached records order child → f (Some (with_merges merged child)) ≡ g (Some child))
      → f (ext_of news cell) ≡ g (ext_of records cell)
  same_behind {Y} f g cell led none some = ap f led.same ∙ between (ext_of records cell) led.below
    where
      between : (found : Option CellExt) → ((child : CellExt) → found ≡ Some child → IsReached records order child)
          → f (option_map (with_merges merged) found) ≡ g found
      between None below = none
      between (Some child) below = some child (below child refl)

  use_fault-new : (bound : ℕ) (open_cells : List (List ℕ)) (ext : CellExt) → IsReached records order ext
      → use_fault bound news open_cells (with_merges merged ext) ≡ use_fault bound records open_cells ext
  unfolding use_fault
  use_fault-new zero open_cells ext is = refl
  use_fault-new (suc bound) open_cells ext is =
      first_same (λ used. at_use bound news open_cells used.cell (ext_of news used.cell))
      (λ used. at_use bound records open_cells used.cell (ext_of records used.cell)) ext.uses
      (λ used here.
      same_behind (at_use bound news open_cells used.cell) (at_use bound records open_cells used.cell) used.cell (closed ext is used here) refl
      (λ child below.
      ap (cond (is_among open_cells used.cell) (Some (Cycle used.cell))) (use_fault-new bound (used.cell ∷ open_cells) child below)))

  chain_length-new : (bound : ℕ) (ext : CellExt) → IsReached records order ext
      → chain_length bound news (with_merges merged ext) ≡ chain_length bound records ext
  unfolding chain_length
  chain_length-new zero ext is = refl
  chain_length-new (suc bound) ext is =
      ap (λ ns. suc (greatest ns))
      (map-same (λ used. chain_at bound news (ext_of news used.cell)) (λ used. chain_at bound records (ext_of records used.cell)) ext.uses
      (λ used here.
      same_behind (chain_at bound news) (chain_at bound records) used.cell (closed ext is used here) refl (chain_length-new bound)))

  elements_below-new : (levels : ℕ) (path : List UseRec) (ext : CellExt) → IsReached records order ext
      → elements_below levels news path (with_merges merged ext) ≡ map (element_form merged) (elements_below levels records path ext)
  unfolding elements_below
  elements_below-new zero path ext is = refl
  elements_below-new (suc levels) path ext is =
      ap (λ z. record { uses = path; ext = with_merges merged ext } ∷ z)
      (flat_map-images (element_form merged) (λ used. of_option (elements_below levels news (path ++ used ∷ [])) (ext_of news used.cell))
      (λ used. of_option (elements_below levels records (path ++ used ∷ [])) (ext_of records used.cell)) ext.uses
      (λ used here.
      same_behind (of_option (elements_below levels news (path ++ used ∷ [])))
      (λ found. map (element_form merged) (of_option (elements_below levels records (path ++ used ∷ [])) found)) used.cell
      (closed ext is used here) refl (elements_below-new levels (path ++ used ∷ []))))

  leads-new : (slashes : ℕ) (ext : CellExt) (path : List ℕ) → IsReached records order ext
      → leads slashes news (with_merges merged ext) path ≡ leads slashes records ext path
  unfolding leads
  leads-new zero ext path is = refl
  leads-new (suc slashes) ext path is =
      by_use (find (λ used. bytes_eq used.id (before_slash path)) ext.uses)
      (λ used found. closed ext is used (find-In (λ (used : UseRec). bytes_eq used.id (before_slash path)) ext.uses used found))
      (λ child below. leads-new slashes child (after_slash path) below)
    where
      by_use : (found : Option UseRec) → ((used : UseRec) → found ≡ Some used → LeadsSame merged records news order used.cell)
          → ((child : CellExt) → IsReached records order child
          → leads slashes news (with_merges merged child) (after_slash path) ≡ leads slashes records child (after_slash path))
          → leads_by slashes news path found ≡ leads_by slashes records path found
      by_use None led same = refl
      by_use (Some used) led same = same_behind (leads_to slashes news path) (leads_to slashes records path) used.cell (led used refl) refl same

  -- the records of all elements are reached
  element_reached : (levels : ℕ) (path : List UseRec) (ext : CellExt) → IsReached records order ext → (element : Element)
      → In element (elements_below levels records path ext) → IsReached records order element.ext
  unfolding elements_below
  element_reached zero path ext is element here = absurd here
  element_reached (suc levels) path ext is element (inl same) =
      let R : Element → Type 0 = λ e. IsReached records order e.ext in subst R same is
  element_reached (suc levels) path ext is element (inr here) =
      let behind : UseRec → List Element = λ used. of_option (elements_below levels records (path ++ used ∷ [])) (ext_of records used.cell) in
      let from = In-flat_map_source behind element ext.uses here in
      through from.0 (ext_of records (from.0).cell) (closed ext is from.0 from.1.0).below from.1.1
      (λ child below there. element_reached levels (path ++ from.0 ∷ []) child below element there)
    where
      through : (used : UseRec) (found : Option CellExt) → ((child : CellExt) → found ≡ Some child → IsReached records order child)
          → In element (of_option (elements_below levels records (path ++ used ∷ [])) found)
          → ((child : CellExt) → IsReached records order child → In element (elements_below levels records (path ++ used ∷ []) child)
          → IsReached records order element.ext)
          → IsReached records order element.ext
      through used None below there more = absurd there
      through used (Some child) below there more = more child (below child refl) there

-- Where a use leads.
record LeadsOne (records : List CellExt) (done : List ℕ) (cell : List ℕ) : Type 0 where
  child : ℕ
  led : slice_get records child ≡ ext_of records cell
  there : In child done

lead_one : (records : List CellExt) (done : List ℕ) (uses : List UseRec) (children : List ℕ) → LeadTo records done uses children → (used : UseRec)
    → In used uses → LeadsOne records done used.cell
lead_one records done [] children led used here = absurd here
lead_one records done (one ∷ uses) [] led used here = absurd led
lead_one records done (one ∷ uses) (child ∷ children) led used (inl same) =
    let L : UseRec → Type 0 = λ z. LeadsOne records done z.cell in subst L same (record { child = child; led = led.0; there = led.1.0 })
lead_one records done (one ∷ uses) (child ∷ children) led used (inr here) = lead_one records done uses children led.1.1 used here

module _ (merged : Bool) (exts : List ArrayExt) (root : ℕ) (news : List CellExt) (are : IsExpandedAt merged exts root news) where
  -- the new record at the place of one that is reached
  pub new_at : (cell : ℕ) (ext : CellExt) → In cell are.order → slice_get (plains exts) cell ≡ Some ext → slice_get news cell ≡ Some (with_merges merged ext)
  new_at cell ext there at =
      let made = slice_get-map_source plain exts cell ext at in
      are.expanded.plain cell made.0 there made.1.0 ∙ ap (λ z. Some (with_merges merged z)) made.1.1

  -- and by its cell
  pub new_of : (cell : ℕ) (ext : CellExt) → In cell are.order → slice_get (plains exts) cell ≡ Some ext → ext_of news ext.cell ≡ Some (with_merges merged ext)
  new_of cell ext there at =
      found_at (λ (z : CellExt). z.cell) news cell (with_merges merged ext) are.expanded.lawful.cells_differ (new_at cell ext there at)

  closed_under : (ext : CellExt) → IsReached (plains exts) are.order ext → (used : UseRec) → In used ext.uses
      → LeadsSame merged (plains exts) news are.order used.cell
  closed_under ext is used here =
      let reached = are.reached in
      let leads = leads_at (plains exts) reached.children (reverse are.order) is.cell ext reached.is.done (In-reverse is.cell are.order is.within) is.at in
      let one = lead_one (plains exts) (reverse are.order) ext.uses (children_of reached.children is.cell) leads used here in
      let there = In-reverse_source one.child are.order one.there in
      let found = slice_get-below (plains exts) one.child (All-In (λ z. z < length (plains exts)) are.order one.child reached.is.within there) in
      let led : ext_of (plains exts) used.cell ≡ Some found.0 = sym one.led ∙ found.1 in
      let cell = found_cell (plains exts) used.cell found.0 led in
      record {
        same = ap (ext_of news) (sym cell) ∙ new_of one.child found.0 there found.1 ∙ sym (ap (option_map (with_merges merged)) led);
        below = λ child e. (let same : found.0 ≡ child = same_Some found.0 child (sym led ∙ e) in
            let R : CellExt → Type 0 = IsReached (plains exts) are.order in
            subst R same (record { cell = one.child; within = there; at = found.1 }));
      }

  long : length news ≡ length (plains exts)
  long =
      sym (length-map news (λ (z : CellExt). z.cell)) ∙ ap length are.expanded.called ∙ length-map exts (λ (z : ArrayExt). z.cell)
      ∙ sym (length-map exts plain)

  module _ (top : CellExt) (at : slice_get (plains exts) root ≡ Some top) where
    pub top_reached : IsReached (plains exts) are.order top
    top_reached = record { cell = root; within = are.reached.is.root_in; at = at }

    pub top_at : slice_get news root ≡ Some (with_merges merged top)
    top_at = new_at root top are.reached.is.root_in at

    walk-new : walk_fault news (with_merges merged top) ≡ walk_fault (plains exts) top
    walk-new =
        ap (λ n. use_fault (suc n) news (top.cell ∷ []) (with_merges merged top)) long
        ∙ use_fault-new merged (plains exts) news are.order closed_under (suc (length (plains exts))) (top.cell ∷ []) top top_reached

    depth-new : depth_of news (with_merges merged top) ≡ depth_of (plains exts) top
    depth-new =
        ap (λ n. chain_length (suc n) news (with_merges merged top)) long
        ∙ chain_length-new merged (plains exts) news are.order closed_under (suc (length (plains exts))) top top_reached

    -- the elements are those of the plain records
    pub elements-new : elements_of news (with_merges merged top) ≡ map (element_form merged) (elements_of (plains exts) top)
    elements-new = elements_below-new merged (plains exts) news are.order closed_under LONGEST_CHAIN [] top top_reached

    pub all_reached : (element : Element) → In element (elements_of (plains exts) top) → IsReached (plains exts) are.order element.ext
    all_reached = element_reached merged (plains exts) news are.order closed_under LONGEST_CHAIN [] top top_reached

    -- no more and no fewer can be reached
    pub reach_fault-new : reach_fault news (with_merges merged top) ≡ reach_fault (plains exts) top
    reach_fault-new =
        ap (λ o. option_or o (tree_fault news (with_merges merged top))) walk-new
        ∙ ap (λ n. option_or (walk_fault (plains exts) top) (option_or (past LONGEST_CHAIN Depth n)
        (past MOST_FLAT_ELEMENTS Elements (length (elements_of news (with_merges merged top)))))) depth-new
        ∙ ap (λ n. option_or (walk_fault (plains exts) top) (option_or (past LONGEST_CHAIN Depth (depth_of (plains exts) top))
        (past MOST_FLAT_ELEMENTS Elements n)))
        (ap length elements-new ∙ length-map (elements_of (plains exts) top) (element_form merged))

    -- they have as many nodes
    pub node_count-new : node_count (elements_of news (with_merges merged top)) ≡ node_count (elements_of (plains exts) top)
    node_count-new =
        ap node_count elements-new
        ∙ sum_by-map (λ (element : Element). length element.ext.nodes) (element_form merged) (elements_of (plains exts) top)

    -- and as many bytes of names
    pub name_bytes-new : name_bytes (elements_of news (with_merges merged top)) ≡ name_bytes (elements_of (plains exts) top)
    name_bytes-new =
        ap name_bytes elements-new
        ∙ ap (λ names. sum_by length (once [] names)) (flat_map-map full_names (element_form merged) (elements_of (plains exts) top))

module _ (exts : List ArrayExt) (root : ℕ) (news : List CellExt) (are : IsExpandedAt true exts root news) (top : CellExt)
    (at : slice_get (plains exts) root ≡ Some top) where
  elements_same : elements_of news top ≡ elements_of (plains exts) top
  elements_same = elements-new true exts root news are top at ∙ map-fixed (element_form true) (elements_of (plains exts) top) (λ element here. refl)

  paths_same : (element : Element) → In element (elements_of (plains exts) top) → element_fault news element ≡ element_fault (plains exts) element
  paths_same element here =
      let ext = element.ext in
      let is = all_reached true exts root news are top at element here in
      let same : (path : List ℕ) → path_fault news ext path ≡ path_fault (plains exts) ext path =
      λ path. (ap (λ t. cond t None (Some (NoPath ext.cell path)))
      (leads-new true (plains exts) news are.order (closed_under true exts root news are) (slashes_in path) ext path is)) in
      first_same (merge_fault news ext) (merge_fault (plains exts) ext) ext.merges
      (λ merge there.
      ap (λ o. option_or o (path_fault news ext merge.second)) (same merge.first)
      ∙ ap (option_or (path_fault (plains exts) ext merge.first)) (same merge.second))

  -- the faults from the counts on
  abbrev later : ℕ → List Element → Option FlatFault → Option FlatFault
  later depth elements last =
      option_or
      (option_or (past LONGEST_CHAIN Depth depth)
      (option_or (past MOST_FLAT_ELEMENTS Elements (length elements))
      (option_or (past MOST_NODES Nodes (node_count elements))
      (option_or (past MOST_NAME_BYTES Names (name_bytes elements)) (past MOST_MERGES Merges (merge_count elements))))))
      (option_or (first_fault (class_fault top) elements) last)

  -- the fault is that of the plain records
  pub flat_fault-new : flat_fault news top ≡ flat_fault (plains exts) top
  flat_fault-new =
      ap (λ o. option_or o (later (depth_of news top) (elements_of news top) (first_fault (element_fault news) (elements_of news top))))
      (walk-new true exts root news are top at)
      ∙ ap (λ n. option_or (walk_fault (plains exts) top) (later n (elements_of news top) (first_fault (element_fault news) (elements_of news top))))
      (depth-new true exts root news are top at)
      ∙ ap (λ l. option_or (walk_fault (plains exts) top) (later (depth_of (plains exts) top) l (first_fault (element_fault news) l))) elements_same
      ∙ ap (λ o. option_or (walk_fault (plains exts) top) (later (depth_of (plains exts) top) (elements_of (plains exts) top) o))
      (first_same (element_fault news) (element_fault (plains exts)) (elements_of (plains exts) top) paths_same)

  -- and so is the meaning
  pub meaning-new : (circuit : Circuit) → IsMeaning news top circuit → IsMeaning (plains exts) top circuit
  meaning-new circuit means = let P : List Element → Type 0 = λ l. IsCircuitOf l top circuit in subst P elements_same means
