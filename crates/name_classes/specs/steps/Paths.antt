-- Where the paths of records lead.
use Rattle.std.specs.Prelude.{◌≡◌, ◌+◌, ℕ, Bool, true, false, Some, None, List, ◌∷◌, ◌++◌, find, slice_get}
use Rattle.std.specs.Str.{bytes_eq}
use Rattle.partition.specs.FiniteSets.Lists.{In}
use Rattle.ext_model.specs.declared.names.TheConstants.{SLASH}
use Rattle.ext_model.specs.declared.records.UseRec.{UseRec}
use Rattle.ext_model.specs.declared.records.CellExt.{CellExt}
use Rattle.ext_model.specs.NodeNames.{slashes_in}
use Rattle.ext_model.specs.RecordNames.{node_names}
use Rattle.circuit_model.specs.Elements.{Element}
use Rattle.circuit_model.specs.FullNames.{name_in}
use Rattle.circuit_model.specs.Refusals.{leads}
use Rattle.full_names.specs.ElementTree.declared.tree.Branch.{Branch}
use Rattle.full_names.specs.ElementTree.declared.tree.TreeElement.{TreeElement}
use Rattle.full_names.specs.ElementTree.Trees.{branches_of}
use Rattle.full_names.specs.declared.names.FullNames.{FullNames}
use Rattle.full_names.specs.Names.{AreNames, IsElement, IsSpotOf}
use Rattle.name_classes.specs.declared.classes.MergeEnd.{MergeEnd}
use Rattle.name_classes.specs.declared.paths.Resolver.{Resolver}
use Rattle.name_classes.specs.steps.UseTables.{AreUseTables}

-- The path is the first name, a slash and what stands behind it.
pub record IsSplit (path first behind : List ℕ) : Type 0 where
  pub text : path ≡ first ++ SLASH ∷ behind
  pub whole : slashes_in first ≡ 0

-- The records, the tree and the tables are those of the names.
pub record IsResolver (resolver : Resolver) : Type 0 where
  pub names : AreNames resolver.names.now
  pub exts : resolver.exts.now ≡ resolver.names.now.exts.now
  pub tree : resolver.tree.now ≡ resolver.names.now.tree.now
  pub tables : AreUseTables resolver.exts.now resolver.tables.items

-- The branch is along the first use of the record whose element has this name.
pub record IsBranchOf (names : FullNames) (cell : ℕ) (id : List ℕ) (branch : Branch) : Type 0 where
  pub ext : CellExt
  pub at : ℕ
  pub used : UseRec
  pub record_ : slice_get names.exts.now cell ≡ Some ext
  pub first : find (λ used. bytes_eq used.id id) ext.uses ≡ Some used
  pub use_of : slice_get ext.uses at ≡ Some used
  pub found : slice_get (branches_of names.tree.now.branches cell) at ≡ Some branch

-- no element of the record has this name
abbrev pub LacksUse : FullNames → ℕ → List ℕ → Type 0
LacksUse names cell id =
    (ext : CellExt) → slice_get names.exts.now cell ≡ Some ext → find (λ used. bytes_eq used.id id) ext.uses ≡ None

-- From the element, the path leads to the element that the end says, and to the name there.
pub record EndsThere (names : FullNames) (number : ℕ) (element : Element) (path : List ℕ) (end : MergeEnd) : Type 0 where
  pub below : Element
  pub flat : TreeElement
  pub name : List ℕ
  pub stands : IsElement names (number + end.step) below flat
  pub is_spot : IsSpotOf names flat.cell name end.spot
  pub full : name_in below name ≡ name_in element path

-- From each element of the record, the path leads there.
pub record IsEndOf (names : FullNames) (cell : ℕ) (path : List ℕ) (end : MergeEnd) : Type 0 where
  pub each : (number : ℕ) (element : Element) (flat : TreeElement) → IsElement names number element flat → flat.cell ≡ cell
      → EndsThere names number element path end

-- the path leads to a node of the records, from this one on
abbrev pub leads_from : FullNames → CellExt → List ℕ → Bool
leads_from names ext path = leads (slashes_in path) names.exts.now ext path

-- From the record of the element with this number, the path leads to the end.
pub record IsEndFrom (names : FullNames) (number : ℕ) (path : List ℕ) (end : MergeEnd) : Type 0 where
  pub flat : TreeElement
  pub ext : CellExt
  pub stands : slice_get names.tree.now.elements number ≡ Some flat
  pub record_ : slice_get names.exts.now flat.cell ≡ Some ext
  pub leads : leads_from names ext path ≡ true
  pub ends : IsEndOf names flat.cell path end

-- From the record of the element with this number, the path leads to no node.
pub record LeadsNowhere (names : FullNames) (number : ℕ) (path : List ℕ) : Type 0 where
  pub flat : TreeElement
  pub ext : CellExt
  pub stands : slice_get names.tree.now.elements number ≡ Some flat
  pub record_ : slice_get names.exts.now flat.cell ≡ Some ext
  pub leads : leads_from names ext path ≡ false

-- A node of the record of the element with this number has this name.
pub record IsNameOf (names : FullNames) (number : ℕ) (name : List ℕ) : Type 0 where
  pub flat : TreeElement
  pub ext : CellExt
  pub stands : slice_get names.tree.now.elements number ≡ Some flat
  pub record_ : slice_get names.exts.now flat.cell ≡ Some ext
  pub named : In name (node_names ext)
