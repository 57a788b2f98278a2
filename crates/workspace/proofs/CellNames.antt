-- The names of the cells of a library.
use Rattle.workspace.proofs.Common.{◌≡◌, ◌<◌, ◌∙◌, ℕ, List, [], length, map, inl, inr, sym, ap, length-map, IsLawfulLibrary, LibraryParts, seen}
use Rattle.workspace.proofs.Common.{view_at, own_body, named_tree_at}
use Rattle.std.proofs.Common.{get_or, arith}
use Rattle.std.proofs.lemmas.Bool.{cases_eq, cases_lt}
use Rattle.std.proofs.lemmas.List.{get_or-map}
use Rattle.finite_sets.proofs.Distincts.{Distinct-places}
use Rattle.ext_cache.specs.CellLibrary.Contents.{Held}
use Rattle.ext_cache.specs.CellLibrary.Libraries.{cells_seen, uses_in}
use Rattle.ext_cache.specs.CellLibrary.Views.{no_cell}
use Rattle.ext_cache.proofs.CellLibrary.ViewLaws.{length-cell_views, names_seen}
use Rattle.circuit_laws.specs.TreeRecords.NamedTrees.{NamedTree}
use Rattle.ext_cache.proofs.LibraryTrees.WholeTrees.{named_tree_unfolds}

module _ (library : LibraryParts) (lawful : IsLawfulLibrary library) where
  -- the tree of a cell has the cell's name
  pub tree_named : (cell : ℕ) → cell < length library.contents → (own_body (named_tree_at (seen library) cell)).name ≡ (view_at (seen library) cell).name
  tree_named cell there = ap (λ (tree : NamedTree). (own_body tree).name) (named_tree_unfolds library lawful cell there)

  -- the name of a cell stands at its position in the list of names
  name_there : (cell : ℕ) → cell < length library.contents
      → get_or (map (λ (held : Held). held.name) library.contents) cell [] ≡ (view_at (seen library) cell).name
  name_there cell there =
      let views = cells_seen library.contents library.tree in
      ap (λ (names : List (List ℕ)). get_or names cell []) (sym (names_seen library.contents (uses_in library.tree.cells)))
      ∙ get_or-map (λ view. view.name) views cell no_cell [] (omega (arith, there, length-cell_views library.contents (uses_in library.tree.cells)))

  -- an earlier cell has another name
  earlier_differs : (a b : ℕ) → a < b → b < length library.contents → (view_at (seen library) a).name ≡ (view_at (seen library) b).name → ⊥
  earlier_differs a b before there same =
      Distinct-places (map (λ (held : Held). held.name) library.contents) a b [] lawful.names_differ before
      (omega (arith, there, length-map library.contents (λ (held : Held). held.name)))
      (name_there a (omega (arith, before, there)) ∙ same ∙ sym (name_there b there))

  -- names tell cells
  pub names_tell : (a b : ℕ) → a < length library.contents → b < length library.contents
      → (view_at (seen library) a).name ≡ (view_at (seen library) b).name → a ≡ b
  names_tell a b a_there b_there same = elim (cases_eq a b) [
    | inl one ↦ one
    | inr apart ↦ elim (cases_lt a b) [
      | inl before ↦ absurd (earlier_differs a b before b_there same)
      | inr behind ↦ absurd (earlier_differs b a (omega (arith, apart, behind)) a_there (sym same))
    ]
  ]
