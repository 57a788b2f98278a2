-- The classes of joined numbers are the nodes of the full names.
use Rattle.name_classes.proofs.Common.{◌≡◌, ◌⊎◌, ◌==◌, ℕ, Bool, true, cond, inl, inr, List, [], ◌++◌, length, map, refl, sym, ◌∙◌, ap, subst, arith}
use Rattle.name_classes.proofs.Common.{Option, Some, slice_get, if◌then◌else◌, slice_get-get_or, slice_get_within, slice_get-map}
use Rattle.name_classes.proofs.Common.{get_or_from_slice_get, option_map, In, Distinct, In-append_left, In-append_right, one_place, In-slice_get}
use Rattle.name_classes.proofs.Common.{slice_get-In, slice_get-one, In-flat_map, NodeRec, MergeRec, CellExt, names_of, node_names, Element, ids_of}
use Rattle.name_classes.proofs.Common.{name_in, TreeElement, FullNames, AreNames, IsElement, elements_in, MergeEnd, Link, RecordLinks, AreLabels}
use Rattle.name_classes.proofs.Common.{IsLink, HasLink, IsGlobalName, IsNear, HasLinks, AreAllLinks, AreFirsts, AreJoined, once_at}
use Rattle.std.proofs.Common.{◌≤◌}
use Rattle.std.proofs.lemmas.Bool.Decides.{nat_tests}
use Rattle.std.proofs.lemmas.List.{length-map}
use Rattle.partition.specs.FiniteSets.Chain.{Chain, EitherWay}
use Rattle.partition.specs.FiniteSets.Chain.Chain.{stay, go}
use Rattle.partition.proofs.FiniteSets.Members.{In-map, In-map_source}
use Rattle.partition.proofs.FiniteSets.Distincts.{length-distinct}
use Rattle.partition.proofs.FiniteSets.Chains.{Chain-one, Chain-append, Chain-same, Chain-either_back}
use Rattle.partition.specs.Divides.{IsPair}
use Rattle.partition.specs.Marks.{IsNumbered}
use Rattle.ext_model.specs.Paths.{last_name, path_text}
use Rattle.circuit_model.specs.FullNames.{IsFullName, AreLinked, AreOneNode, AreInNameOrder}
use Rattle.full_names.specs.NameLists.{IsFullNameList}
use Rattle.full_names.proofs.ListOrders.{Distinct-names, pairwise_names}
use Rattle.name_classes.specs.Classes.{name_at, firsts_of, EndsAt, HasEnds}
use Rattle.name_classes.specs.steps.Links.{IsLinkedTo}
use Rattle.name_classes.specs.steps.Joins.{IsLinkAt, IsJoinOf, links_at}
use Rattle.name_classes.proofs.ListLaws.{at_place}
use Rattle.name_classes.proofs.TreeLaws.{tree_of_names, element_at}
use Rattle.name_classes.proofs.SeenLaws.{record_here}
use Rattle.name_classes.proofs.EndLaws.{AreOfNode, AreOfMerge, link_here, end_at, name_of_end}

-- ---- names in order

-- no name stands twice in order
pub distinct_in_order : (names : List (List ℕ)) → AreInNameOrder names → Distinct names
distinct_in_order names order = Distinct-names names (pairwise_names names order)

-- two lists of all full names are as long
pub lists_as_long : (names : FullNames) (one other : List (List ℕ)) → IsFullNameList (elements_in names) one → IsFullNameList (elements_in names) other
    → length one ≤ length other
lists_as_long names one other is is_other =
    length-distinct one other (distinct_in_order one is.in_order) (λ name here. (is_other.all name).1 ((is.all name).0 here))

-- ---- joined names

-- Pairs lead from the number of the one name to that of the other.
record AreJoinedNames (list : List (List ℕ)) (pairs : List (ℕ × ℕ)) (one other : List ℕ) : Type 0 where
  a : ℕ
  b : ℕ
  at_a : slice_get list a ≡ Some one
  at_b : slice_get list b ≡ Some other
  chain : Chain (EitherWay (IsPair pairs)) a b

-- The numbers are those of names that are of one node.
record AreLinkedNumbers (names : FullNames) (list : List (List ℕ)) (a b : ℕ) : Type 0 where
  one : List ℕ
  other : List ℕ
  at_a : slice_get list a ≡ Some one
  at_b : slice_get list b ≡ Some other
  one_node : AreOneNode (elements_in names) one other

-- a global name is the same in any two elements
same_global : (a b : Element) (name : List ℕ) → IsGlobalName name → name_in a name ≡ name_in b name
same_global a b name global =
    ap (λ (t : Bool). cond t (last_name name) (path_text (ids_of a) name)) global
    ∙ sym (ap (λ (t : Bool). cond t (last_name name) (path_text (ids_of b) name)) global)

at_once : (number : ℕ) → (number == number) ≡ true
at_once number = grind (arith, nat_tests)

module _ (names : FullNames) (are : AreNames names) (all : List RecordLinks) (links_are : AreAllLinks names all) (list : List (List ℕ))
    (is_list : IsFullNameList (elements_in names) list) where
  -- ---- each pair is of names of one node

  of_node : (element : Element) → In element (elements_in names) → (one other : List ℕ) → AreOfNode element.ext one other
      → AreOneNode (elements_in names) (name_in element one) (name_in element other)
  of_node element within one other of =
      let link : (name : List ℕ) → In name (names_of of.node) → AreLinked (elements_in names) (name_in element of.node.name) (name_in element name) =
      λ name named. (
        element,
        (
          within,
          inl (record {
            node = of.node;
            within = of.within;
            preferred = refl;
            named = In-map (name_in element) name (names_of of.node) named;
          }),
        ),
      ) in
      go (inr (link one of.has_one)) (go (inl (link other of.has_other)) stay)

  of_merge : (element : Element) → In element (elements_in names) → (one other : List ℕ) → AreOfMerge element.ext one other
      → AreOneNode (elements_in names) (name_in element one) (name_in element other)
  of_merge element within one other of =
      let link : AreLinked (elements_in names) (name_in element one) (name_in element other) = (
        element,
        (
          within,
          inr (record {
            merge = of.merge;
            within = of.within;
            one = ap (name_in element) of.first;
            other = ap (name_in element) of.second;
          }),
        ),
      ) in
      go (inl link) stay

  linked_numbers : (a b : ℕ) → IsJoinOf names all a b → AreLinkedNumbers names list a b
  linked_numbers a b is =
      let here = link_here names are all links_are is.number is.link is.is_link in
      let within = In-slice_get (elements_in names) is.number here.element here.stands.are.is in
      let ext = record_here names are all is.number here.element here.flat here.stands here.has in
      let P : CellExt → Type 0 = λ e. AreOfNode e here.paths.one here.paths.other ⊎ AreOfMerge e here.paths.one here.paths.other in
      let of = subst P ext here.paths.of in record {
        one = name_in here.element here.paths.one;
        other = name_in here.element here.paths.other;
        at_a = name_of_end names is.number here.element here.paths.one is.link.first here.first a is.joins.first list is_list;
        at_b = name_of_end names is.number here.element here.paths.other is.link.second here.second b is.joins.second list is_list;
        one_node = elim of [
          | inl node ↦ of_node here.element within here.paths.one here.paths.other node
          | inr merge ↦ of_merge here.element within here.paths.one here.paths.other merge
        ];
      }

  module _ (upto : ℕ) (so_many : length names.tree.now.elements ≡ upto) (marks : List ℕ) (joined : AreJoined names all upto marks) where
    -- ---- what pairs join is one node

    pair_linked : (a b : ℕ) → EitherWay (IsPair joined.pairs) a b → AreLinkedNumbers names list a b
    pair_linked a b (inl pair) = linked_numbers a b (joined.sound a b pair)
    pair_linked a b (inr pair) =
        let back = linked_numbers b a (joined.sound b a pair) in record {
          one = back.other;
          other = back.one;
          at_a = back.at_b;
          at_b = back.at_a;
          one_node = Chain-either_back (AreLinked (elements_in names)) back.one_node;
        }

    linked_of : (a b : ℕ) → Chain (EitherWay (IsPair joined.pairs)) a b → (one other : List ℕ) → slice_get list a ≡ Some one → slice_get list b ≡ Some other
        → AreOneNode (elements_in names) one other
    linked_of a b stay one other at_a at_b = Chain-same (EitherWay (AreLinked (elements_in names))) one other (slice_get-one list a one other at_a at_b)
    linked_of a b (go {b = c} pair more) one other at_a at_b =
        let first = pair_linked a c pair in
        let same : one ≡ first.one = slice_get-one list a one first.one at_a first.at_a in
        Chain-append (Chain-same (EitherWay (AreLinked (elements_in names))) one first.one same)
        (Chain-append first.one_node (linked_of c b more first.other other first.at_b at_b))

    -- ---- what is one node is joined

    joined_same : (one other : List ℕ) → IsFullName (elements_in names) one → one ≡ other → AreJoinedNames list joined.pairs one other
    joined_same one other full same =
        let place = slice_get-In one list ((is_list.all one).1 full) in record {
          a = place.0;
          b = place.0;
          at_a = place.1;
          at_b = subst (λ (n : List ℕ). slice_get list place.0 ≡ Some n) same place.1;
          chain = stay;
        }

    joined_more : (one mid other : List ℕ) → AreJoinedNames list joined.pairs one mid → AreJoinedNames list joined.pairs mid other
        → AreJoinedNames list joined.pairs one other
    joined_more one mid other first second =
        let same : first.b ≡ second.a = one_place list first.b second.a mid (distinct_in_order list is_list.in_order) first.at_b second.at_a in record {
          a = first.a;
          b = second.b;
          at_a = first.at_a;
          at_b = second.at_b;
          chain = Chain-append first.chain (Chain-append (Chain-same (EitherWay (IsPair joined.pairs)) first.b second.a same) second.chain);
        }

    -- what a link of an element's record is of is joined in the element
    has_joined : (number : ℕ) (element : Element) (flat : TreeElement) → IsElement names number element flat → (has : HasLinks names all flat.cell)
        → (link : Link) → In link (links_at number has.links) → (one other : List ℕ) → IsLink names has.links.element link one other
        → AreJoinedNames list joined.pairs (name_in element one) (name_in element other)
    has_joined number element flat stands has link within one other is =
        let below = slice_get_within names.tree.now.elements number flat stands.are.has in
        let at : IsLinkAt names all number link = record { flat = flat; links = has.links; stands = stands.are.has; found = has.found; within = within } in
        let join = joined.whole number link (omega (arith, below, so_many)) at in record {
          a = join.a;
          b = join.b;
          at_a = name_of_end names number element one link.first (end_at names all flat.cell has one link.first is.first number element flat stands refl) join.a
              join.joins.first list is_list;
          at_b = name_of_end names number element other link.second (end_at names all flat.cell has other link.second is.second number element flat stands refl)
              join.b join.joins.second list is_list;
          chain = Chain-one (inl join.within);
        }

    each_joined : (number : ℕ) (element : Element) (flat : TreeElement) → IsElement names number element flat → (has : HasLinks names all flat.cell)
        → (one other : List ℕ) → HasLink names has.links.element has.links.nodes.each.items one other
        → AreJoinedNames list joined.pairs (name_in element one) (name_in element other)
    each_joined number element flat stands has one other is =
        let links = has.links in
        has_joined number element flat stands has is.link
        (In-append_right is.link (once_at number links) (links.nodes.each.items ++ links.merges.items)
        (In-append_left is.link links.nodes.each.items links.merges.items is.within)) one other is.is_link

    -- global names are joined at the first element, and are the same in each
    once_joined : (element : Element) (cell : ℕ) (has : HasLinks names all cell) (one other : List ℕ) → IsGlobalName one → IsGlobalName other
        → HasLink names has.links.element has.links.nodes.once.items one other
        → AreJoinedNames list joined.pairs (name_in element one) (name_in element other)
    once_joined element cell has one other one_is other_is is =
        let links = has.links in
        let first = element_at names are links.element has.first has.starts in
        let here : HasLinks names all has.first.cell = subst (λ (n : ℕ). HasLinks names all n) (sym has.same) has in
        let at_first : HasLinks names all has.first.cell = record {
          links = links;
          first = has.first;
          found = subst (λ (n : ℕ). slice_get all n ≡ Some links) (sym has.same) has.found;
          starts = has.starts;
          same = refl;
          are = has.are;
        } in
        let within : In is.link (once_at links.element links) =
        subst (λ (t : Bool). In is.link (if t then links.nodes.once.items else [])) (sym (at_once links.element)) is.within in
        let there = has_joined links.element first.0 has.first first.1 at_first is.link
        (In-append_left is.link (once_at links.element links) (links.nodes.each.items ++ links.merges.items) within) one other is.is_link in
        let P : List ℕ → Type 0 = λ n. AreJoinedNames list joined.pairs n (name_in element other) in
        let Q : List ℕ → Type 0 = λ n. AreJoinedNames list joined.pairs (name_in first.0 one) n in
        subst P (same_global first.0 element one one_is) (subst Q (same_global first.0 element other other_is) there)

    -- each name of a node is joined with the preferred one
    module _ (number : ℕ) (element : Element) (flat : TreeElement) (stands : IsElement names number element flat) (has : HasLinks names all flat.cell)
        (node : NodeRec) (within : In node element.ext.nodes) where
      full : (name : List ℕ) → In name (names_of node) → IsFullName (elements_in names) (name_in element name)
      full name named = (
        element,
        (
          In-slice_get (elements_in names) number element stands.are.is,
          In-map (name_in element) name (node_names element.ext) (In-flat_map names_of node name element.ext.nodes within named),
        ),
      )

      near_joined : (name : List ℕ) → IsNear names has.links.element has.links.nodes node.name name
          → AreJoinedNames list joined.pairs (name_in element node.name) (name_in element name)
      near_joined name (inl same) = joined_same (name_in element node.name) (name_in element name) (full node.name (inl refl)) (ap (name_in element) same)
      near_joined name (inr is) = each_joined number element flat stands has node.name name is

      alias_joined : (name : List ℕ) → IsLinkedTo names has.links.element has.links.nodes node.name name
          → AreJoinedNames list joined.pairs (name_in element node.name) (name_in element name)
      alias_joined name (inl near) = near_joined name near
      alias_joined name (inr by) =
          joined_more (name_in element node.name) (name_in element by.global) (name_in element name) (near_joined by.global by.near)
          (once_joined element flat.cell has by.global name by.global_is by.name_is by.linked)

      name_joined : (name : List ℕ) → In name (names_of node) → AreJoinedNames list joined.pairs (name_in element node.name) (name_in element name)
      name_joined name (inl same) = joined_same (name_in element node.name) (name_in element name) (full node.name (inl refl)) (ap (name_in element) same)
      name_joined name (inr alias) =
          let ext = record_here names are all number element flat stands has in
          let inside : In node has.are.ext.nodes = subst (λ (e : CellExt). In node e.nodes) (sym ext) within in
          alias_joined name (has.are.nodes.linked node inside name alias)

    link_joined : (one other : List ℕ) → AreLinked (elements_in names) one other → AreJoinedNames list joined.pairs one other
    link_joined one other link =
        let element = link.0 in
        let place = slice_get-In element (elements_in names) link.1.0 in
        let flat = at_place names.tree.now.elements (elements_in names) place.0 element (sym (tree_of_names names are).long) place.1 in
        let stands : IsElement names place.0 element flat.0 = record { are = record { is = place.1; has = flat.1 } } in
        let has = links_are.each place.0 flat.0 flat.1 in
        elim link.1.1 [
          | inl of ↦
              let source = In-map_source (name_in element) other (names_of of.node) of.named in
              let P : List ℕ → Type 0 = λ n. AreJoinedNames list joined.pairs n other in
              let Q : List ℕ → Type 0 = λ n. AreJoinedNames list joined.pairs (name_in element of.node.name) n in
              subst P (sym of.preferred) (subst Q source.1.1 (name_joined place.0 element flat.0 stands has of.node of.within source.0 source.1.0))
          | inr of ↦
              let ext = record_here names are all place.0 element flat.0 stands has in
              let within : In of.merge has.are.ext.merges = subst (λ (e : CellExt). In of.merge e.merges) (sym ext) of.within in
              let at = slice_get-In of.merge has.are.ext.merges within in
              let made = at_place has.links.merges.items has.are.ext.merges at.0 of.merge (sym has.are.merges.long) at.1 in
              let is = has.are.merges.each at.0 of.merge made.0 at.1 made.1 in
              let inside = In-append_right made.0 (once_at place.0 has.links) (has.links.nodes.each.items ++ has.links.merges.items)
              (In-append_right made.0 has.links.nodes.each.items has.links.merges.items (In-slice_get has.links.merges.items at.0 made.0 made.1)) in
              let P : List ℕ → Type 0 = λ n. AreJoinedNames list joined.pairs n other in
              let Q : List ℕ → Type 0 = λ n. AreJoinedNames list joined.pairs (name_in element of.merge.first) n in
              subst P (sym of.one) (subst Q (sym of.other) (has_joined place.0 element flat.0 stands has made.0 inside of.merge.first of.merge.second is))
        ]

    step_joined : (one other : List ℕ) → EitherWay (AreLinked (elements_in names)) one other → AreJoinedNames list joined.pairs one other
    step_joined one other (inl link) = link_joined one other link
    step_joined one other (inr link) =
        let back = link_joined other one link in
        record { a = back.b; b = back.a; at_a = back.at_b; at_b = back.at_a; chain = Chain-either_back (IsPair joined.pairs) back.chain }

    joined_of : (one other : List ℕ) → AreOneNode (elements_in names) one other → (a b : ℕ) → slice_get list a ≡ Some one → slice_get list b ≡ Some other
        → Chain (EitherWay (IsPair joined.pairs)) a b
    joined_of one other stay a b at_a at_b =
        Chain-same (EitherWay (IsPair joined.pairs)) a b (one_place list a b one (distinct_in_order list is_list.in_order) at_a at_b)
    joined_of one other (go {b = mid} link more) a b at_a at_b =
        let first = step_joined one mid link in
        let same : a ≡ first.a = one_place list a first.a one (distinct_in_order list is_list.in_order) at_a first.at_a in
        Chain-append (Chain-same (EitherWay (IsPair joined.pairs)) a first.a same)
        (Chain-append first.chain (joined_of mid other more first.b b first.at_b at_b))

    -- ---- the labels

    pub labels_made : (count : ℕ) → length marks ≡ names.count → IsNumbered marks count → AreLabels (elements_in names) list marks count
    labels_made count long numbered =
        let as_long : length marks ≡ length list =
        omega (arith, long, are.count, lists_as_long names are.list list are.is_list is_list, lists_as_long names list are.list is_list are.is_list) in record {
          long = as_long;
          divides = λ a b below_a below_b.
              (let at_a = slice_get-get_or list a [] below_a in
              let at_b = slice_get-get_or list b [] below_b in
              let divides = joined.divides a b (omega (arith, as_long, below_a)) (omega (arith, as_long, below_b)) in (
                (λ same. linked_of a b (divides.0 same) (name_at list a) (name_at list b) at_a at_b),
                (λ one_node. divides.1 (joined_of (name_at list a) (name_at list b) one_node a b at_a at_b)),
              ));
          numbered = numbered;
        }

-- ---- the ends of first paths

module _ (names : FullNames) (are : AreNames names) (all : List RecordLinks) (links_are : AreAllLinks names all) (firsts : List (List MergeEnd))
    (made : AreFirsts all firsts) where
  pub firsts_long : length firsts ≡ length names.exts.now
  firsts_long =
      ap (λ (ends : List (List MergeEnd)). length ends) made
      ∙ length-map all (λ (links : RecordLinks). map (λ (link : Link). link.first) links.merges.items)
      ∙ links_are.long

  firsts_here : (cell : ℕ) (links : RecordLinks) → slice_get all cell ≡ Some links → firsts_of firsts cell ≡ map (λ link. link.first) links.merges.items
  firsts_here cell links found =
      let ends_of : RecordLinks → List MergeEnd = λ l. map (λ link. link.first) l.merges.items in
      let stands : slice_get firsts cell ≡ Some (ends_of links) =
      ap (λ (ends : List (List MergeEnd)). slice_get ends cell) made
      ∙ slice_get-map (λ (l : RecordLinks). map (λ (link : Link). link.first) l.merges.items) all cell
      ∙ ap (λ (o : Option RecordLinks). option_map (λ l. map (λ link. link.first) l.merges.items) o) found in
      get_or_from_slice_get firsts cell (ends_of links) [] stands

  pub ends_made : (number : ℕ) (element : Element) (flat : TreeElement) → IsElement names number element flat
      → HasEnds names number element (firsts_of firsts flat.cell)
  ends_made number element flat stands =
      let has = links_are.each number flat stands.are.has in
      let ext = record_here names are all number element flat stands has in
      let here = firsts_here flat.cell has.links has.found in
      subst (λ (ends : List MergeEnd). HasEnds names number element ends) (sym here) (record {
        long = length-map has.links.merges.items (λ (link : Link). link.first) ∙ has.are.merges.long ∙ ap (λ (e : CellExt). length e.merges) ext;
        each = λ at merge end stands_at end_is. made_at has ext at merge end stands_at end_is;
      })
    where
      made_at : (has : HasLinks names all flat.cell) → has.are.ext ≡ element.ext → (at : ℕ) (merge : MergeRec) (end : MergeEnd)
          → slice_get element.ext.merges at ≡ Some merge → slice_get (map (λ link. link.first) has.links.merges.items) at ≡ Some end
          → EndsAt names number element merge end
      made_at has ext at merge end merge_is end_is =
          let place : slice_get has.are.ext.merges at ≡ Some merge = subst (λ (e : CellExt). slice_get e.merges at ≡ Some merge) (sym ext) merge_is in
          let link = at_place has.links.merges.items has.are.ext.merges at merge (sym has.are.merges.long) place in
          let first : end ≡ link.0.first = one_some (sym end_is ∙ (slice_get-map (λ (l : Link). l.first) has.links.merges.items at
          ∙ ap (λ (o : Option Link). option_map (λ l. l.first) o) link.1)) in
          let is = has.are.merges.each at merge link.0 place link.1 in
          let ends = end_at names all flat.cell has merge.first link.0.first is.first number element flat stands refl in
          subst (λ (e : MergeEnd). EndsAt names number element merge e) (sym first) (record {
            below = ends.below;
            flat = ends.flat;
            name = ends.name;
            stands = ends.stands;
            is_spot = ends.is_spot;
            full = ends.full;
          })
        where
          one_some : {x y : MergeEnd} → Some x ≡ Some y → x ≡ y
          one_some same = cc
