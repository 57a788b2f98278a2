-- Which names the elements of a record make one node of.
use Rattle.std.specs.Prelude.{◌≡◌, ◌⊎◌, ℕ, Bool, true, false, IsTrue, Option, Some, None, List, [], ◌∷◌, ◌++◌, length, map}
use Rattle.std.specs.Prelude.{slice_get}
use Rattle.partition.specs.FiniteSets.Lists.{In}
use Rattle.ext_model.specs.declared.records.NodeRec.{NodeRec}
use Rattle.ext_model.specs.declared.records.MergeRec.{MergeRec}
use Rattle.ext_model.specs.declared.records.CellExt.{CellExt}
use Rattle.ext_model.specs.NodeNames.{is_global}
use Rattle.ext_model.specs.Paths.{last_name}
use Rattle.ext_model.specs.RecordNames.{names_of}
use Rattle.circuit_model.specs.declared.faults.FlatFault.{FlatFault}
use Rattle.circuit_model.specs.Refusals.{first_fault, path_fault, merge_fault}
use Rattle.full_names.specs.ElementTree.declared.tree.TreeElement.{TreeElement}
use Rattle.full_names.specs.declared.names.FullNames.{FullNames}
use Rattle.name_classes.specs.declared.classes.MergeEnd.{MergeEnd}
use Rattle.name_classes.specs.declared.links.Link.{Link}
use Rattle.name_classes.specs.declared.links.NodeLinks.{NodeLinks}
use Rattle.name_classes.specs.declared.links.RecordLinks.{RecordLinks}
use Rattle.name_classes.specs.steps.Paths.{IsEndFrom}

-- The element with this number has this record.
pub record HasRecord (names : FullNames) (number : ℕ) (ext : CellExt) : Type 0 where
  pub flat : TreeElement
  pub stands : slice_get names.tree.now.elements number ≡ Some flat
  pub record_ : slice_get names.exts.now flat.cell ≡ Some ext

-- From the record of the element with this number, the two names or paths lead to the ends of the link.
pub record IsLink (names : FullNames) (number : ℕ) (link : Link) (one other : List ℕ) : Type 0 where
  pub first : IsEndFrom names number one link.first
  pub second : IsEndFrom names number other link.second

-- One of the links is of these two.
pub record HasLink (names : FullNames) (number : ℕ) (links : List Link) (one other : List ℕ) : Type 0 where
  pub link : Link
  pub within : In link links
  pub is_link : IsLink names number link one other

-- the name is the same in all elements
abbrev pub IsGlobalName : List ℕ → Type 0
IsGlobalName name = IsTrue (is_global (last_name name))

-- The link is of two names of the node.
pub record IsNodeLink (names : FullNames) (number : ℕ) (node : NodeRec) (link : Link) : Type 0 where
  pub one : List ℕ
  pub other : List ℕ
  pub has_one : In one (names_of node)
  pub has_other : In other (names_of node)
  pub is_link : IsLink names number link one other

-- The name is near where it is the preferred one or linked with it.
abbrev pub IsNear : FullNames → ℕ → NodeLinks → List ℕ → List ℕ → Type 0
IsNear names number links preferred name = (preferred ≡ name) ⊎ HasLink names number links.each.items preferred name

-- Two global names are linked, the first of them near.
pub record IsLinkedByGlobal (names : FullNames) (number : ℕ) (links : NodeLinks) (preferred name : List ℕ) : Type 0 where
  pub global : List ℕ
  pub global_is : IsGlobalName global
  pub name_is : IsGlobalName name
  pub near : IsNear names number links preferred global
  pub linked : HasLink names number links.once.items global name

-- the name is linked with the preferred one
abbrev pub IsLinkedTo : FullNames → ℕ → NodeLinks → List ℕ → List ℕ → Type 0
IsLinkedTo names number links preferred name = IsNear names number links preferred name ⊎ IsLinkedByGlobal names number links preferred name

-- One more link of an alias, and the first global name from then on.
abbrev pub AddsAlias : MergeEnd → Option MergeEnd → MergeEnd → Bool → NodeLinks → NodeLinks → Option MergeEnd → Type 0
AddsAlias preferred (Some global) alias true old new next =
    (new.each.items ≡ old.each.items) × (new.once.items ≡ old.once.items ++ record { first = global; second = alias } ∷ []) × (next ≡ Some global)
AddsAlias preferred (Some global) alias false old new next =
    (new.each.items ≡ old.each.items ++ record { first = preferred; second = alias } ∷ []) × (new.once.items ≡ old.once.items) × (next ≡ Some global)
AddsAlias preferred None alias true old new next =
    (new.each.items ≡ old.each.items ++ record { first = preferred; second = alias } ∷ []) × (new.once.items ≡ old.once.items) × (next ≡ Some alias)
AddsAlias preferred None alias false old new next =
    (new.each.items ≡ old.each.items ++ record { first = preferred; second = alias } ∷ []) × (new.once.items ≡ old.once.items) × (next ≡ None)

-- The new links are the old ones and some of names of the node.
pub record Grow (names : FullNames) (number : ℕ) (node : NodeRec) (old new : List Link) : Type 0 where
  pub kept : (link : Link) → In link old → In link new
  pub added : (link : Link) → In link new → In link old ⊎ IsNodeLink names number node link

-- The links are added that join these aliases with the node's preferred name.
pub record AddsNode (names : FullNames) (number : ℕ) (node : NodeRec) (aliases : List (List ℕ)) (old new : NodeLinks) : Type 0 where
  pub each : Grow names number node old.each.items new.each.items
  pub once : Grow names number node old.once.items new.once.items
  pub linked : (alias : List ℕ) → In alias aliases → IsLinkedTo names number new node.name alias

-- The link is of two names of one of the nodes.
pub record IsLinkIn (names : FullNames) (number : ℕ) (nodes : List NodeRec) (link : Link) : Type 0 where
  pub node : NodeRec
  pub within : In node nodes
  pub is_link : IsNodeLink names number node link

-- The links are of the nodes, and join each alias with the preferred name.
pub record AreNodeLinks (names : FullNames) (number : ℕ) (nodes : List NodeRec) (links : NodeLinks) : Type 0 where
  pub each : (link : Link) → In link links.each.items → IsLinkIn names number nodes link
  pub once : (link : Link) → In link links.once.items → IsLinkIn names number nodes link
  pub linked : (node : NodeRec) → In node nodes → (alias : List ℕ) → In alias node.aliases → IsLinkedTo names number links node.name alias

-- The links are those of the merges, one for one.
pub record AreMergeLinks (names : FullNames) (number : ℕ) (merges : List MergeRec) (links : List Link) : Type 0 where
  pub long : length links ≡ length merges
  pub each : (at : ℕ) (merge : MergeRec) (link : Link) → slice_get merges at ≡ Some merge → slice_get links at ≡ Some link
      → IsLink names number link merge.first merge.second

-- The links are those of the record of the element that they begin with.
pub record AreLinksOf (names : FullNames) (links : RecordLinks) : Type 0 where
  pub ext : CellExt
  pub at : HasRecord names links.element ext
  pub nodes : AreNodeLinks names links.element ext.nodes links.nodes
  pub merges : AreMergeLinks names links.element ext.merges links.merges.items

-- The links of the record with this number are there.
pub record HasLinks (names : FullNames) (all : List RecordLinks) (cell : ℕ) : Type 0 where
  pub links : RecordLinks
  pub first : TreeElement
  pub found : slice_get all cell ≡ Some links
  pub starts : slice_get names.tree.now.elements links.element ≡ Some first
  pub same : first.cell ≡ cell
  pub are : AreLinksOf names links

-- The links of each element's record are there.
pub record AreAllLinks (names : FullNames) (all : List RecordLinks) : Type 0 where
  pub long : length all ≡ length names.exts.now
  pub each : (number : ℕ) (flat : TreeElement) → slice_get names.tree.now.elements number ≡ Some flat → HasLinks names all flat.cell

-- The path of the record of the element with this number has this fault.
pub record IsPathFault (names : FullNames) (number : ℕ) (path : List ℕ) (fault : FlatFault) : Type 0 where
  pub ext : CellExt
  pub at : HasRecord names number ext
  pub faulty : path_fault names.exts.now ext path ≡ Some fault

-- The merges of the record of the element with this number have this fault first.
pub record IsMergeFault (names : FullNames) (number : ℕ) (fault : FlatFault) : Type 0 where
  pub ext : CellExt
  pub at : HasRecord names number ext
  pub faulty : first_fault (merge_fault names.exts.now ext) ext.merges ≡ Some fault

-- where the first paths of the merges of each record lead
abbrev pub AreFirsts : List RecordLinks → List (List MergeEnd) → Type 0
AreFirsts all firsts = firsts ≡ map (λ links. map (λ link. link.first) links.merges.items) all
