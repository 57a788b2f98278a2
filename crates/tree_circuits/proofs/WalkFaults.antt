-- The walk through the records of a tree comes to the record of each cell and to no open cell, and its chains are no longer than the tree
-- is deep.
use Rattle.tree_circuits.proofs.Common.{◌≡◌, ◌≤◌, ℕ, zero, suc, Bool, false, if◌then◌else◌, Option, None, List, [], ◌∷◌, map, length, inl, inr, refl}
use Rattle.tree_circuits.proofs.Common.{sym, ◌∙◌, ap, subst, arith, option_or, cases_Bool, bytes_eq-Decides, bytes_eq, In, In-from_list_any, RawTech}
use Rattle.tree_circuits.proofs.Common.{CellExt, FlatFault, ext_of, is_among}
use Rattle.std.proofs.Common.{◌<◌, max, Some}
use Rattle.tree_names.specs.ExtModel.declared.records.UseRec.{UseRec}
use Rattle.tree_names.specs.CircuitModel.declared.faults.FlatFault.TheVariants.{NoCell, Cycle}
use Rattle.tree_names.specs.CircuitModel.Refusals.{chain_length, first_fault, greatest, use_fault, walk_fault}
use Rattle.tree_circuits.specs.TreeRecords.NamedTrees.{NamedTree, NamedElements, own_body}
use Rattle.tree_circuits.specs.TreeRecords.NamedTrees.NamedTree.{named_tree}
use Rattle.tree_circuits.specs.TreeRecords.NamedTrees.NamedElements.{no_more, element_then}
use Rattle.tree_circuits.specs.TreeRecords.TreeRecords.{HasTreeRecords, HaveTreeRecords, use_records}
use Rattle.tree_circuits.specs.TreeNames.CleanTrees.{depth_below, depth_of}
use Rattle.tree_circuits.proofs.TreeNames.TreeElements.{one_record, record_is, top_record}

-- the cell of the first use
abbrev first_cell : List UseRec → List ℕ
first_cell [] = []
first_cell (used ∷ uses) = used.cell

-- the uses behind the first
abbrev behind_first : List UseRec → List UseRec
behind_first [] = []
behind_first (used ∷ uses) = uses

module _ (raw : RawTech) (exts : List CellExt) where
  mutual
    -- cells of one name are equally deep
    one_depth : (tree other : NamedTree) → HasTreeRecords raw exts tree → HasTreeRecords raw exts other
        → (own_body tree).name ≡ (own_body other).name → depth_of tree ≡ depth_of other
    one_depth (named_tree own elements) (named_tree next others) has has_other same =
        let found : ext_of exts next.name ≡ Some has.0.ext = ap (ext_of exts) (sym same) ∙ has.0.found in
        let one = one_record exts next.name has.0.ext has_other.0.ext found has_other.0.found in
        ap suc (one_depth_below elements others has.1 has_other.1
        (sym has.0.is.uses ∙ ap (λ (ext : CellExt). ext.uses) one ∙ has_other.0.is.uses))

    -- and so are elements with the same uses
    one_depth_below : (elements others : NamedElements) → HaveTreeRecords raw exts elements → HaveTreeRecords raw exts others
        → use_records elements ≡ use_records others → depth_below elements ≡ depth_below others
    one_depth_below no_more no_more have have_others same = refl
    one_depth_below no_more (element_then id placed tree rest) have have_others same = absurd (cc)
    one_depth_below (element_then id placed tree rest) no_more have have_others same = absurd (cc)
    one_depth_below (element_then id placed tree rest) (element_then next moved other others) have have_others same =
        let first = one_depth tree other have.0 have_others.0 (ap first_cell same) in
        let later = one_depth_below rest others have.1 have_others.1 (ap behind_first same) in
        ap (λ n. max n (depth_below rest)) first ∙ ap (λ n. max (depth_of other) n) later

  -- Each of the open cells is at least so deep.
  abbrev AreDeep : List (List ℕ) → ℕ → Type 0
  AreDeep open_cells depth =
      (name : List ℕ) → In name open_cells
      → (tree : NamedTree) × HasTreeRecords raw exts tree × ((own_body tree).name ≡ name) × (depth ≤ depth_of tree)

  -- a cell that is less deep is none of them
  not_open : (open_cells : List (List ℕ)) (depth : ℕ) (tree : NamedTree) → HasTreeRecords raw exts tree → depth_of tree < depth
      → AreDeep open_cells depth → is_among open_cells (own_body tree).name ≡ false
  not_open open_cells depth tree has less deep = elim (cases_Bool (is_among open_cells (own_body tree).name)) [
    | inl among ↦
        let at = deep (own_body tree).name (In-from_list_any bytes_eq bytes_eq-Decides (own_body tree).name open_cells among) in
        absurd (omega (arith, less, at.3, one_depth at.0 tree at.1 has at.2))
    | inr none ↦ none
  ]

  -- what a use gives, whose cell has this record
  abbrev at_use : ℕ → List (List ℕ) → List ℕ → Option CellExt → Option FlatFault
  at_use bound open_cells name found =
      elim found [
        | None ↦ Some (NoCell name)
        | Some child ↦ if is_among open_cells name then Some (Cycle name) else use_fault bound exts (name ∷ open_cells) child
      ]

  -- what uses give
  abbrev uses_fault : ℕ → List (List ℕ) → List UseRec → Option FlatFault
  uses_fault bound open_cells uses = first_fault (λ used. at_use bound open_cells used.cell (ext_of exts used.cell)) uses

  mutual
    unfolding use_fault

    -- the walk from a cell finds no fault
    no_use_fault : (tree : NamedTree) (bound : ℕ) (open_cells : List (List ℕ)) (ext : CellExt) → HasTreeRecords raw exts tree
        → ext_of exts (own_body tree).name ≡ Some ext → AreDeep open_cells (depth_of tree) → use_fault bound exts open_cells ext ≡ None
    no_use_fault (named_tree own elements) zero open_cells ext has found deep = refl
    no_use_fault (named_tree own elements) (suc bound) open_cells ext has found deep =
        let is = record_is raw exts (named_tree own elements) ext has.0 found in
        ap (uses_fault bound open_cells) is.uses ∙ no_uses_fault elements bound open_cells has.1 deep

    -- nor does that from elements
    no_uses_fault : (elements : NamedElements) (bound : ℕ) (open_cells : List (List ℕ)) → HaveTreeRecords raw exts elements
        → AreDeep open_cells (suc (depth_below elements)) → uses_fault bound open_cells (use_records elements) ≡ None
    no_uses_fault no_more bound open_cells have deep = refl
    no_uses_fault (element_then id placed tree rest) bound open_cells have deep =
        let top = top_record raw exts tree have.0 in
        let name = (own_body tree).name in
        let apart = not_open open_cells (suc (max (depth_of tree) (depth_below rest))) tree have.0 (omega arith) deep in
        let below = no_use_fault tree bound (name ∷ open_cells) top.ext have.0 top.found (λ other. elim [
          | inl same ↦ (tree, have.0, same, omega arith)
          | inr older ↦ let at = deep other older in (at.0, at.1, at.2, omega (arith, at.3))
        ]) in
        let first : at_use bound open_cells name (ext_of exts name) ≡ None =
        ap (at_use bound open_cells name) top.found
        ∙ ap (λ (t : Bool). if t then Some (Cycle name) else use_fault bound exts (name ∷ open_cells) top.ext) apart
        ∙ below in
        ap (λ (fault : Option FlatFault). option_or fault (uses_fault bound open_cells (use_records rest))) first
        ∙ no_uses_fault rest bound open_cells have.1 (λ other older. let at = deep other older in (at.0, at.1, at.2, omega (arith, at.3)))

  -- the walk from the top finds no fault
  pub no_walk_fault : (tree : NamedTree) (root : CellExt) → HasTreeRecords raw exts tree → ext_of exts (own_body tree).name ≡ Some root
      → walk_fault exts root ≡ None
  no_walk_fault tree root has found =
      let is = record_is raw exts tree root (top_record raw exts tree has) found in
      no_use_fault tree (suc (length exts)) (root.cell ∷ []) root has found (λ name. elim [
        | inl same ↦ (tree, has, sym is.cell ∙ same, omega arith)
        | inr none ↦ absurd none
      ])

  -- how long the chains from where a use leads are
  abbrev chain_at : ℕ → Option CellExt → ℕ
  chain_at bound found = elim found [ None ↦ 0 | Some child ↦ chain_length bound exts child ]

  -- and those from uses
  abbrev chain_from : ℕ → List UseRec → ℕ
  chain_from bound uses = greatest (map (λ used. chain_at bound (ext_of exts used.cell)) uses)

  mutual
    unfolding chain_length

    -- chains are no longer than the tree is deep
    pub chain_within : (tree : NamedTree) (bound : ℕ) (ext : CellExt) → HasTreeRecords raw exts tree
        → ext_of exts (own_body tree).name ≡ Some ext → chain_length bound exts ext ≤ depth_of tree
    chain_within (named_tree own elements) zero ext has found = omega arith
    chain_within (named_tree own elements) (suc bound) ext has found =
        let is = record_is raw exts (named_tree own elements) ext has.0 found in
        let below = chains_within elements bound has.1 in
        let step : suc (chain_from bound (use_records elements)) ≤ suc (depth_below elements) = omega (arith, below) in
        subst (λ (uses : List UseRec). suc (chain_from bound uses) ≤ suc (depth_below elements)) (sym is.uses) step

    chains_within : (elements : NamedElements) (bound : ℕ) → HaveTreeRecords raw exts elements
        → chain_from bound (use_records elements) ≤ depth_below elements
    chains_within no_more bound have = omega arith
    chains_within (element_then id placed tree rest) bound have =
        let top = top_record raw exts tree have.0 in
        let first : chain_at bound (ext_of exts (own_body tree).name) ≤ depth_of tree =
        subst (λ (found : Option CellExt). chain_at bound found ≤ depth_of tree) (sym top.found)
        (chain_within tree bound top.ext have.0 top.found) in
        let later = chains_within rest bound have.1 in
        omega (arith, first, later)
