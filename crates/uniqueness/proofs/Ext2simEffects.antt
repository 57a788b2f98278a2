-- `ext2sim` has one effect.
use Rattle.uniqueness.proofs.Common.{◌≡◌, inl, inr, ℕ, List, refl, sym, ap, ◌∙◌, subst, Files, All, ReadingIsOne, fetched_by, ArrayExt, Circuit}
use Rattle.uniqueness.proofs.Common.{FlatFault, IsFlatFaultOf, IsFlatOf, ExtLoadFault, circuit_files, FreeEffect, refused, Written}
use Rattle.circuit_commands.specs.PlainRecords.Plains.{plains}
use Rattle.circuit_commands.specs.Circuits.{IsSimWritten, lines_of, stores_of}
use Rattle.circuit_commands.specs.CommandExt2sim.{Ext2simMeans, RefusesRecords, RefusesTree, WritesTree}
use Rattle.circuit_commands.specs.Refusals.{flat_refusal, tree_refusal}
use Rattle.uniqueness.specs.FlatCircuits.{FlatCircuitsAreUnique}
use Rattle.uniqueness.proofs.CircuitTrees.{not_both, same_read, same_refusal}
use Rattle.uniqueness.proofs.FlatCircuits.{no_fault, same_fault}
use Rattle.uniqueness.proofs.WrittenCircuits.{same_sim}

module _ (one_circuit : FlatCircuitsAreUnique) (one_reading : ReadingIsOne ArrayExt ExtLoadFault) (number : ℕ) (files : Files) (cell : List ℕ)
    (effect other : FreeEffect) where
  -- the tree is refused for one fault
  same_tree : RefusesTree number files cell effect → RefusesTree number files cell other → effect ≡ other
  same_tree p q =
      let same = same_refusal one_reading files cell p.fetched q.fetched p.fault q.fault p.is_refused q.is_refused in
      p.is
      ∙ ap (λ (fault : ExtLoadFault). refused {State = Unit {0}} number tt (tree_refusal fault) p.fetched) same.1
      ∙ ap (λ (fetched : List (List ℕ)). refused {State = Unit {0}} number tt (tree_refusal q.fault) fetched) same.0
      ∙ sym q.is

  -- its records are, for one fault
  same_records : RefusesRecords number files cell effect → RefusesRecords number files cell other → effect ≡ other
  same_records p q =
      let exts = same_read one_reading files cell p.exts q.exts p.are_read q.are_read in
      let is_fault = subst (λ (all : List ArrayExt). IsFlatFaultOf (plains all) cell q.fault) (sym exts) q.is_fault in
      let fault = same_fault (plains p.exts) (plains p.exts) cell (λ name way. refl) p.fault q.fault p.is_fault is_fault in
      p.is
      ∙ ap (λ (told : FlatFault). refused {State = Unit {0}} number tt (flat_refusal told) (fetched_by circuit_files (All p.exts))) fault
      ∙ ap (λ (all : List ArrayExt). refused {State = Unit {0}} number tt (flat_refusal q.fault) (fetched_by circuit_files (All all))) exts
      ∙ sym q.is

  -- or one sim file is written
  same_writing : WritesTree number files cell effect → WritesTree number files cell other → effect ≡ other
  same_writing p q =
      let exts = same_read one_reading files cell p.exts q.exts p.are_read q.are_read in
      let is_flat = subst (λ (all : List ArrayExt). IsFlatOf (plains all) cell q.circuit) (sym exts) q.is_flat in
      let circuit = one_circuit (plains p.exts) (plains p.exts) cell (λ name way. refl) p.circuit q.circuit p.is_flat is_flat in
      let is_written = subst (λ (of : Circuit). IsSimWritten cell of q.written) (sym circuit) q.is_written in
      let written = same_sim cell p.circuit p.written q.written p.is_written is_written in
      let effect_of : Written → List ArrayExt → FreeEffect = λ told all. record {
        state = tt;
        lines = lines_of number told;
        stores = stores_of told;
        fetched = fetched_by circuit_files (All all);
      } in
      p.is ∙ ap (λ (told : Written). effect_of told p.exts) written ∙ ap (λ (all : List ArrayExt). effect_of q.written all) exts ∙ sym q.is

pub same_effect : FlatCircuitsAreUnique → ReadingIsOne ArrayExt ExtLoadFault → (number : ℕ) (files : Files) (cell : List ℕ)
    (effect other : FreeEffect) → Ext2simMeans number files cell effect → Ext2simMeans number files cell other → effect ≡ other
same_effect one_circuit one_reading number files cell effect other = cases
  where
    -- records have a fault or a circuit
    fault_or_circuit : (a b : FreeEffect) → RefusesRecords number files cell a → WritesTree number files cell b → ⊥
    fault_or_circuit a b p q =
        let exts = same_read one_reading files cell p.exts q.exts p.are_read q.are_read in
        no_fault (plains p.exts) (plains p.exts) cell (λ name way. refl) q.circuit p.fault
        (subst (λ (all : List ArrayExt). IsFlatOf (plains all) cell q.circuit) (sym exts) q.is_flat) p.is_fault

    cases : Ext2simMeans number files cell effect → Ext2simMeans number files cell other → effect ≡ other
    cases (inl p) (inl q) = same_tree one_circuit one_reading number files cell effect other p q
    cases (inl p) (inr (inl q)) = absurd (not_both one_reading files cell q.exts p.fetched p.fault q.are_read p.is_refused)
    cases (inl p) (inr (inr q)) = absurd (not_both one_reading files cell q.exts p.fetched p.fault q.are_read p.is_refused)
    cases (inr (inl p)) (inl q) = absurd (not_both one_reading files cell p.exts q.fetched q.fault p.are_read q.is_refused)
    cases (inr (inl p)) (inr (inl q)) = same_records one_circuit one_reading number files cell effect other p q
    cases (inr (inl p)) (inr (inr q)) = absurd (fault_or_circuit effect other p q)
    cases (inr (inr p)) (inl q) = absurd (not_both one_reading files cell p.exts q.fetched q.fault p.are_read q.is_refused)
    cases (inr (inr p)) (inr (inl q)) = absurd (fault_or_circuit other effect q p)
    cases (inr (inr p)) (inr (inr q)) = same_writing one_circuit one_reading number files cell effect other p q
