-- Where no cell of a tree stands below itself, no use leads back.
use Rattle.ext_loading.proofs.Common.{◌≡◌, ℕ, true, false, List, [], ◌∷◌, inl, inr, refl, sym, ap, ◌∙◌, subst, arith, Option, None, bytes_eq}
use Rattle.ext_loading.proofs.Common.{bytes_eq-Decides, In, In-map, In-map_source, ArrayExt, ArrayUse, cells_read, CanBeFlattened, children_in}
use Rattle.ext_loading.proofs.Common.{cells_used, IsTree}
use Rattle.std.proofs.Common.{zero, suc, Bool, true≢false, length}
use Rattle.std.specs.Prelude.{Some, if◌then◌else◌}
use Rattle.finite_sets.specs.Chain.{Chain}
use Rattle.finite_sets.proofs.Chains.{Chain-map, Chain-one, Chain-push, Chain-same}
use Rattle.finite_sets.proofs.Searches.{find-In, find-none, find-passes, In-from_list_any}
use Rattle.finite_sets.proofs.Firsts.{first_some-none}
use Rattle.finite_sets.proofs.Images.{In-flat_map_source}
use Rattle.use_orders.specs.NewCells.{IsOwnDescendant}
use Rattle.use_orders.specs.Uses.{used_by, UsesNewCell}
use Rattle.ext_model.specs.declared.records.UseRec.{UseRec}
use Rattle.ext_model.specs.declared.records.CellExt.{CellExt}
use Rattle.ext_model.specs.Plain.{plain, plain_uses}
use Rattle.plain_records.specs.CircuitModel.declared.faults.FlatFault.{FlatFault}
use Rattle.plain_records.specs.CircuitModel.declared.faults.FlatFault.TheVariants.{NoCell, Cycle}
use Rattle.plain_records.specs.CircuitModel.Elements.{ext_of}
use Rattle.plain_records.specs.CircuitModel.FlatNodes.{is_among}
use Rattle.plain_records.specs.CircuitModel.Refusals.{use_fault}
use Rattle.plain_records.specs.Plains.{plains}
use Rattle.plain_records.proofs.UseLaws.{uses_cell}
use Rattle.ext_loading.proofs.Positions.{position_in, uses_by_position}

-- a record of this cell
record IsRecordOf (read : List ArrayExt) (name : List ℕ) (ext : ArrayExt) : Type 0 where
  found : ext_of (plains read) name ≡ Some (plain ext)
  there : In ext read
  cell : ext.cell ≡ name

-- a cell that was read has a record
record_of_cell : (read : List ArrayExt) (name : List ℕ) → In name (cells_read read) → (ext : ArrayExt) × IsRecordOf read name ext
record_of_cell read name there = by_found (ext_of (plains read) name) refl
  where
    by_found : (found : Option CellExt) → ext_of (plains read) name ≡ found → (ext : ArrayExt) × IsRecordOf read name ext
    by_found (Some one) is =
        let source = In-map_source plain one read (find-In (λ (e : CellExt). bytes_eq e.cell name) (plains read) one is) in (
          source.0,
          record {
            found = is ∙ ap Some (sym source.1.1);
            there = source.1.0;
            cell = ap (λ (e : CellExt). e.cell) source.1.1 ∙ (bytes_eq-Decides one.cell name).0
                (find-passes (λ (e : CellExt). bytes_eq e.cell name) (plains read) one is);
          },
        )
    by_found None is =
        let source = In-map_source (λ (e : ArrayExt). e.cell) name read there in
        absurd (true≢false (sym ((bytes_eq-Decides source.0.cell name).1 source.1.1)
        ∙ find-none (λ (e : CellExt). bytes_eq e.cell name) (plains read) (plain source.0) is (In-map plain source.0 read source.1.0)))

-- the cell of an element of a record is one that the record uses
element_cell : (ext : ArrayExt) (used : UseRec) → In used (plain ext).uses → In used.cell (cells_used ext)
element_cell ext used within =
    let source = In-flat_map_source plain_uses used ext.uses within in
    subst (λ (name : List ℕ). In name (cells_used ext)) (sym (uses_cell source.0 used source.1.1))
    (In-map (λ (u : ArrayUse). u.cell) source.0 ext.uses source.1.0)

module _ (root : List ℕ) (read : List ArrayExt) (tree : IsTree root read) (acyclic : (cell : ℕ) → IsOwnDescendant (children_in read) 0 cell → ⊥) where
  -- a record of the cell uses the other
  abbrev Leads : List ℕ → List ℕ → Type 0
  Leads cell other = (ext : ArrayExt) × (In ext read × ((ext.cell ≡ cell) × In other (cells_used ext)))

  -- so do their positions
  leads_on : (cell other : List ℕ) → Leads cell other → UsesNewCell (children_in read) 0 (position_in read cell) (position_in read other)
  leads_on cell other by = (
    omega arith,
    omega arith,
    subst (λ (name : List ℕ). In (position_in read other) (used_by (children_in read) (position_in read name))) by.1.1.0
        (uses_by_position read by.0 other tree.records.cells_differ by.1.0 by.1.1.1),
  )

  -- what uses lead to does not lead back
  never_back : (cell other : List ℕ) → Leads cell other → Chain Leads other cell → ⊥
  never_back cell other by back =
      acyclic (position_in read cell) (
        position_in read other,
        (leads_on cell other by, Chain-map (position_in read) (λ a b step. Chain-one (leads_on a b step)) back),
      )

  -- what a use gives, whose cell has this record
  abbrev at_use : ℕ → List (List ℕ) → List ℕ → Option CellExt → Option FlatFault
  at_use bound open_cells name found =
      elim found [
        | None ↦ Some (NoCell name)
        | Some child ↦ if is_among open_cells name then Some (Cycle name) else use_fault bound (plains read) (name ∷ open_cells) child
      ]

  -- a use that leads to a record without fault has none, where uses lead to it from all open cells
  use_without_fault : (bound : ℕ) (open_cells : List (List ℕ)) (ext : ArrayExt) (child : CellExt) (name : List ℕ) → Leads ext.cell name
      → ((other : List ℕ) → In other open_cells → Chain Leads other ext.cell) → use_fault bound (plains read) (name ∷ open_cells) child ≡ None → (t : Bool)
      → is_among open_cells name ≡ t → (if t then Some (Cycle name) else use_fault bound (plains read) (name ∷ open_cells) child) ≡ None
  use_without_fault bound open_cells ext child name leads above none true opened =
      absurd (never_back ext.cell name leads (above name (In-from_list_any bytes_eq bytes_eq-Decides name open_cells opened)))
  use_without_fault bound open_cells ext child name leads above none false opened = none

  -- a record to which uses lead from all open cells has no fault
  no_fault : (bound : ℕ) (open_cells : List (List ℕ)) (ext : ArrayExt) → In ext read
      → ((name : List ℕ) → In name open_cells → Chain Leads name ext.cell) → use_fault bound (plains read) open_cells (plain ext) ≡ None
  unfolding use_fault
  no_fault zero open_cells ext there above = refl
  no_fault (suc bound) open_cells ext there above =
      first_some-none (λ used. at_use bound open_cells used.cell (ext_of (plains read) used.cell)) (plain ext).uses
      (λ used within.
      let named : In used.cell (cells_used ext) = element_cell ext used within in
      let leads : Leads ext.cell used.cell = (ext, (there, (refl, named))) in
      let child = record_of_cell read used.cell (tree.asked used.cell (inr (ext, (there, named)))) in
      ap (at_use bound open_cells used.cell) child.1.found
      ∙ use_without_fault bound open_cells ext (plain child.0) used.cell leads above
      (no_fault bound (used.cell ∷ open_cells) child.0 child.1.there (λ name. elim [
        | inl is ↦ Chain-same Leads name child.0.cell (sym is ∙ sym child.1.cell)
        | inr older ↦ Chain-push (above name older) (subst (Leads ext.cell) (sym child.1.cell) leads)
      ]))
      (is_among open_cells used.cell) refl)

  -- so the records may be flattened
  pub may_be_flattened : CanBeFlattened root read
  may_be_flattened =
      let top = record_of_cell read root (tree.asked root (inl refl)) in
      record {
        records = tree.records;
        top = plain top.0;
        found = top.1.found;
        leads = no_fault (suc (length (plains read))) (top.0.cell ∷ []) top.0 top.1.there
            (λ name. elim [ inl is ↦ Chain-same Leads name top.0.cell (sym is) | inr none ↦ absurd none ]);
      }
