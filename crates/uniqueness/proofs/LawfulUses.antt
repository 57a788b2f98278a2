-- The uses of a lawful library lead to its cells.
use Rattle.uniqueness.proofs.Common.{inl, inr, ◌<◌, ◌≤◌, ℕ, List, [], length, map, subst, ◌∙◌, arith, cases_lt, get_or_past, length-map, In}
use Rattle.uniqueness.proofs.Common.{Chain-one, AreCells, UseBody, children_in, IsLawfulLibrary, LibraryParts, seen, CellView}
use Rattle.edit_script.proofs.CellLibrary.ViewLaws.{count_seen}
use Rattle.edit_script.proofs.CellLibrary.ChildLaws.{below_there}

pub uses_lead_to_cells : (library : LibraryParts) → IsLawfulLibrary library → AreCells (children_in (seen library))
uses_lead_to_cells library lawful parent child uses =
    let children = children_in (seen library) in
    let long = length-map (seen library).cells (λ (body : CellView). map (λ (entry : List ℕ × UseBody). entry.1.child.0) body.uses) in
    let all = count_seen library in
    elim (cases_lt parent (length library.contents)) [
      | inl there ↦ (
          let within = below_there library lawful parent child there (Chain-one uses) in
          omega (arith, within, long, all)
          )
      | inr past ↦ (
          let beyond : length children ≤ parent = omega (arith, past, long, all) in
          absurd (subst (λ (used : List ℕ). In child used) (get_or_past children parent [] beyond) uses)
          )
    ]
