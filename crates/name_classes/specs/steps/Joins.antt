-- Full names by their numbers, joined by links.
use Rattle.std.specs.Prelude.{◌≡◌, ◌<◌, ◌+◌, ◌==◌, if◌then◌else◌, ℕ, Some, List, [], ◌++◌, length, slice_get}
use Rattle.partition.specs.FiniteSets.Lists.{In}
use Rattle.partition.specs.Divides.{Divides, IsPair}
use Rattle.full_names.specs.ElementTree.declared.tree.TreeElement.{TreeElement}
use Rattle.full_names.specs.declared.names.FullNames.{FullNames}
use Rattle.full_names.specs.Names.{HasSpot, GivesName}
use Rattle.name_classes.specs.declared.links.Link.{Link}
use Rattle.name_classes.specs.declared.links.RecordLinks.{RecordLinks}

-- From the element with this number the link has ends.
pub record HasEndsAt (names : FullNames) (number : ℕ) (link : Link) : Type 0 where
  pub first : HasSpot names (number + link.first.step) link.first.spot
  pub second : HasSpot names (number + link.second.step) link.second.spot

-- The numbers are those of the full names at the ends of the link.
pub record JoinsEnds (names : FullNames) (number : ℕ) (link : Link) (a b : ℕ) : Type 0 where
  pub first : GivesName names (number + link.first.step) link.first.spot a
  pub second : GivesName names (number + link.second.step) link.second.spot b

-- One of the links joins the numbers.
pub record IsJoin (names : FullNames) (number : ℕ) (links : List Link) (a b : ℕ) : Type 0 where
  pub link : Link
  pub within : In link links
  pub joins : JoinsEnds names number link a b

-- One of the pairs is what the link joins.
pub record HasJoin (names : FullNames) (number : ℕ) (pairs : List (ℕ × ℕ)) (link : Link) : Type 0 where
  pub a : ℕ
  pub b : ℕ
  pub within : IsPair pairs a b
  pub joins : JoinsEnds names number link a b

-- What divides the new marks is what divides the old ones, and what the links join.
pub record AddsJoins (names : FullNames) (number : ℕ) (links : List Link) (old new : List ℕ) : Type 0 where
  pub long : length new ≡ length old
  pub added : List (ℕ × ℕ)
  pub divides : (pairs : List (ℕ × ℕ)) → Divides old (IsPair pairs) → Divides new (IsPair (pairs ++ added))
  pub sound : (a b : ℕ) → IsPair added a b → IsJoin names number links a b
  pub whole : (link : Link) → In link links → HasJoin names number added link

-- what is global is joined at the first element of a record alone
abbrev pub once_at : ℕ → RecordLinks → List Link
once_at number links = if links.element == number then links.nodes.once.items else []

-- what is joined at the element with this number
abbrev pub links_at : ℕ → RecordLinks → List Link
links_at number links = once_at number links ++ (links.nodes.each.items ++ links.merges.items)

-- The link is of the element with this number.
pub record IsLinkAt (names : FullNames) (all : List RecordLinks) (number : ℕ) (link : Link) : Type 0 where
  pub flat : TreeElement
  pub links : RecordLinks
  pub stands : slice_get names.tree.now.elements number ≡ Some flat
  pub found : slice_get all flat.cell ≡ Some links
  pub within : In link (links_at number links)

-- A link of an element joins the numbers.
pub record IsJoinOf (names : FullNames) (all : List RecordLinks) (a b : ℕ) : Type 0 where
  pub number : ℕ
  pub link : Link
  pub is_link : IsLinkAt names all number link
  pub joins : JoinsEnds names number link a b

-- What divides the marks is what the links of elements join, and all that those of the first elements do.
pub record AreJoined (names : FullNames) (all : List RecordLinks) (upto : ℕ) (marks : List ℕ) : Type 0 where
  pub pairs : List (ℕ × ℕ)
  pub divides : Divides marks (IsPair pairs)
  pub sound : (a b : ℕ) → IsPair pairs a b → IsJoinOf names all a b
  pub whole : (number : ℕ) (link : Link) → number < upto → IsLinkAt names all number link → HasJoin names number pairs link
