-- What the links of a record join in each of its elements.
use Rattle.name_classes.proofs.Common.{◌≡◌, ◌⊎◌, ◌+◌, ◌==◌, ℕ, Bool, inl, inr, List, [], ◌++◌, refl, sym, ◌∙◌, ap, subst, arith, Some, slice_get}
use Rattle.name_classes.proofs.Common.{if◌then◌else◌, cases_Bool, cases_lt, In, In-append_left, In-append_right, In-append_cases, In-slice_get}
use Rattle.name_classes.proofs.Common.{slice_get-In, slice_get-one, NodeRec, MergeRec, CellExt, names_of, Element, name_in, TreeElement, FullNames}
use Rattle.name_classes.proofs.Common.{AreNames, IsElement, HasSpot, GivesName, elements_in, MergeEnd, Link, RecordLinks, EndsThere, IsEndFrom}
use Rattle.name_classes.proofs.Common.{IsLink, IsLinkIn, AreLinksOf, HasLinks, AreAllLinks, AddsJoins, AreJoined, once_at}
use Rattle.partition.specs.Divides.{KeepsPairs}
use Rattle.full_names.specs.NameLists.{IsFullNameList}
use Rattle.name_classes.specs.steps.Joins.{HasEndsAt, HasJoin, IsLinkAt, links_at}
use Rattle.name_classes.proofs.ListLaws.{at_place}
use Rattle.name_classes.proofs.TreeLaws.{element_at}
use Rattle.name_classes.proofs.JoinLaws.{more_pairs}

-- ---- what a link of a record is of

-- A node of the record has both names.
pub record AreOfNode (ext : CellExt) (one other : List ℕ) : Type 0 where
  pub node : NodeRec
  pub within : In node ext.nodes
  pub has_one : In one (names_of node)
  pub has_other : In other (names_of node)

-- They are the paths of a merge of the record.
pub record AreOfMerge (ext : CellExt) (one other : List ℕ) : Type 0 where
  pub merge : MergeRec
  pub within : In merge ext.merges
  pub first : one ≡ merge.first
  pub second : other ≡ merge.second

-- The link is of two names of a node or of the two paths of a merge.
pub record HasPaths (names : FullNames) (number : ℕ) (ext : CellExt) (link : Link) : Type 0 where
  pub one : List ℕ
  pub other : List ℕ
  pub is_link : IsLink names number link one other
  pub of : AreOfNode ext one other ⊎ AreOfMerge ext one other

node_paths : (names : FullNames) (number : ℕ) (ext : CellExt) (link : Link) → IsLinkIn names number ext.nodes link → HasPaths names number ext link
node_paths names number ext link is = record {
  one = is.is_link.one;
  other = is.is_link.other;
  is_link = is.is_link.is_link;
  of = inl (record { node = is.node; within = is.within; has_one = is.is_link.has_one; has_other = is.is_link.has_other });
}

merge_paths : (names : FullNames) (links : RecordLinks) (are : AreLinksOf names links) (link : Link) → In link links.merges.items
    → HasPaths names links.element are.ext link
merge_paths names links are link within =
    let place = slice_get-In link links.merges.items within in
    let merge = at_place are.ext.merges links.merges.items place.0 link are.merges.long place.1 in record {
      one = merge.0.first;
      other = merge.0.second;
      is_link = are.merges.each place.0 merge.0 link merge.1 place.1;
      of = inr (record { merge = merge.0; within = In-slice_get are.ext.merges place.0 merge.0 merge.1; first = refl; second = refl });
    }

once_within : (number : ℕ) (links : RecordLinks) (link : Link) → In link (once_at number links) → In link links.nodes.once.items
once_within number links link here = elim (cases_Bool (links.element == number)) [
  | inl same ↦ subst (λ (t : Bool). In link (if t then links.nodes.once.items else [])) same here
  | inr apart ↦ absurd (subst (λ (t : Bool). In link (if t then links.nodes.once.items else [])) apart here)
]

pub link_paths : (names : FullNames) (links : RecordLinks) (are : AreLinksOf names links) (number : ℕ) (link : Link) → In link (links_at number links)
    → HasPaths names links.element are.ext link
link_paths names links are number link here =
    elim (In-append_cases link (once_at number links) (links.nodes.each.items ++ links.merges.items) here) [
      | inl once ↦ node_paths names links.element are.ext link (are.nodes.once link (once_within number links link once))
      | inr more ↦ elim (In-append_cases link links.nodes.each.items links.merges.items more) [
        | inl each ↦ node_paths names links.element are.ext link (are.nodes.each link each)
        | inr merge ↦ merge_paths names links are link merge
      ]
    ]

-- ---- where the ends of a link are in an element

-- the end of a path in each element of the record
pub end_at : (names : FullNames) (all : List RecordLinks) (cell : ℕ) (has : HasLinks names all cell) (path : List ℕ) (end : MergeEnd)
    → IsEndFrom names has.links.element path end → (number : ℕ) (element : Element) (flat : TreeElement) → IsElement names number element flat
    → flat.cell ≡ cell → EndsThere names number element path end
end_at names all cell has path end is number element flat stands same =
    let first : is.flat ≡ has.first = slice_get-one names.tree.now.elements has.links.element is.flat has.first is.stands has.starts in
    is.ends.each number element flat stands (same ∙ sym (ap (λ (f : TreeElement). f.cell) first ∙ has.same))

pub spot_of_end : (names : FullNames) (number : ℕ) (element : Element) (path : List ℕ) (end : MergeEnd) → EndsThere names number element path end
    → HasSpot names (number + end.step) end.spot
spot_of_end names number element path end ends = record { element = ends.below; flat = ends.flat; name = ends.name; are = ends.stands; is_spot = ends.is_spot }

-- the number at an end of a link is that of the full name of the path there
pub name_of_end : (names : FullNames) (number : ℕ) (element : Element) (path : List ℕ) (end : MergeEnd) → EndsThere names number element path end
    → (a : ℕ) → GivesName names (number + end.step) end.spot a → (list : List (List ℕ)) → IsFullNameList (elements_in names) list
    → slice_get list a ≡ Some (name_in element path)
name_of_end names number element path end ends a gives list is_list =
    gives list is_list ends.below ends.flat ends.name ends.stands ends.is_spot ∙ ap (λ (name : List ℕ). Some name) ends.full

-- The links of the record of an element that is there.
pub record LinkHere (names : FullNames) (all : List RecordLinks) (number : ℕ) (link : Link) : Type 0 where
  pub element : Element
  pub flat : TreeElement
  pub stands : IsElement names number element flat
  pub has : HasLinks names all flat.cell
  pub paths : HasPaths names has.links.element has.are.ext link
  pub first : EndsThere names number element paths.one link.first
  pub second : EndsThere names number element paths.other link.second

module _ (names : FullNames) (are : AreNames names) (all : List RecordLinks) (links_are : AreAllLinks names all) where
  pub link_here : (number : ℕ) (link : Link) → IsLinkAt names all number link → LinkHere names all number link
  link_here number link at =
      let element = element_at names are number at.flat at.stands in
      let has = links_are.each number at.flat at.stands in
      let same : at.links ≡ has.links = slice_get-one all at.flat.cell at.links has.links at.found has.found in
      let within = subst (λ (l : RecordLinks). In link (links_at number l)) same at.within in
      let paths = link_paths names has.links has.are number link within in record {
        element = element.0;
        flat = at.flat;
        stands = element.1;
        has = has;
        paths = paths;
        first = end_at names all at.flat.cell has paths.one link.first paths.is_link.first number element.0 at.flat element.1 refl;
        second = end_at names all at.flat.cell has paths.other link.second paths.is_link.second number element.0 at.flat element.1 refl;
      }

  pub ends_here : (number : ℕ) (link : Link) → IsLinkAt names all number link → HasEndsAt names number link
  ends_here number link at =
      let here = link_here number link at in record {
        first = spot_of_end names number here.element here.paths.one link.first here.first;
        second = spot_of_end names number here.element here.paths.other link.second here.second;
      }

-- ---- one element after another

pub joined_next : (names : FullNames) (all : List RecordLinks) (number : ℕ) (flat : TreeElement) (links : RecordLinks) (old new : List ℕ)
    → slice_get names.tree.now.elements number ≡ Some flat → slice_get all flat.cell ≡ Some links → AreJoined names all number old
    → AddsJoins names number (links_at number links) old new → AreJoined names all (number + 1) new
joined_next names all number flat links old new stands found joined adds = record {
  pairs = joined.pairs ++ adds.added;
  divides = adds.divides joined.pairs joined.divides;
  sound = λ a b here. elim (In-append_cases {X = ℕ × ℕ} (a, b) joined.pairs adds.added here) [
    | inl before ↦ joined.sound a b before
    | inr after ↦ let is = adds.sound a b after in record {
      number = number;
      link = is.link;
      is_link = record { flat = flat; links = links; stands = stands; found = found; within = is.within };
      joins = is.joins;
    }
  ];
  whole = λ k link below at. elim (cases_lt k number) [
    | inl less ↦ more_pairs names k joined.pairs (joined.pairs ++ adds.added) link
        (λ a b within. In-append_left {X = ℕ × ℕ} (a, b) joined.pairs adds.added within) (joined.whole k link less at)
    | inr most ↦
        let last : k ≡ number = omega arith in
        let P : ℕ → Type 0 = λ n. IsLinkAt names all n link in
        let Q : ℕ → Type 0 = λ n. HasJoin names n (joined.pairs ++ adds.added) link in
        subst Q (sym last) (newest link (subst P last at))
  ];
}
  where
    newest : (link : Link) → IsLinkAt names all number link → HasJoin names number (joined.pairs ++ adds.added) link
    newest link at =
        let same : at.flat ≡ flat = slice_get-one names.tree.now.elements number at.flat flat at.stands stands in
        let there = subst (λ (f : TreeElement). slice_get all f.cell ≡ Some at.links) same at.found in
        let here : at.links ≡ links = slice_get-one all flat.cell at.links links there found in
        more_pairs names number adds.added (joined.pairs ++ adds.added) link
        (λ a b within. In-append_right {X = ℕ × ℕ} (a, b) joined.pairs adds.added within)
        (adds.whole link (subst (λ (l : RecordLinks). In link (links_at number l)) here at.within))

pub joined_keeps : (names : FullNames) (all : List RecordLinks) (upto : ℕ) (old new : List ℕ) → KeepsPairs old new → AreJoined names all upto old
    → AreJoined names all upto new
joined_keeps names all upto old new keeps joined = record {
  pairs = joined.pairs;
  divides = keeps joined.pairs joined.divides;
  sound = joined.sound;
  whole = joined.whole;
}
