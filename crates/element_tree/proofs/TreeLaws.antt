-- What the tree has of its elements is true of them.
use Rattle.element_tree.proofs.Common.{◌≡◌, ℕ, ◌≤◌, ◌+◌, Some, ◌⊎◌, List, [], ◌∷◌, ◌++◌, length, get_or, map, inl, inr, refl, sym, ◌∙◌, ap, subst}
use Rattle.element_tree.proofs.Common.{arith, slice_get, nat_cmp, slice_cmp, length-map, map-append, slice_get-get_or, get_or_from_slice_get}
use Rattle.element_tree.proofs.Common.{slice_get_within, In, slice_get-below, In-slice_get, UseRec, CellExt, element_cmp, path_length, LONGEST_CHAIN}
use Rattle.element_tree.proofs.Common.{RecordGraph, IsGraphOf, AreRecords, Branch, TreeElement, branches_of, IsTreeOf, Link, flats_below, Fits}
use Rattle.element_tree.proofs.Common.{value_at, AreBranches, AreForest, HasRoom}
use Rattle.name_index.proofs.FiniteSets.Places.{slice_get-map_source, slice_get-map_there}
use Rattle.circuit_model.specs.Elements.{Element, ids_of, elements_of, elements_below, placed}
use Rattle.element_tree.specs.Trees.{StandsFor, StandsIn, LeadsTo, AreAt, IsTreeOfElements}
use Rattle.element_tree.specs.steps.Links.{links_of, chains_below, flat_along, top_flat}
use Rattle.element_tree.specs.Sizes.{AreSizes}
use Rattle.element_tree.proofs.Forests.{forest_of}
use Rattle.element_tree.proofs.Transforms.{reach_from_count, image-identity, identity_moves}
use Rattle.element_tree.proofs.Chains.{number_along, rank_along, end_of, IsChainFrom, step_behind}
use Rattle.element_tree.proofs.Chains.{length-chains_below, chain_at, chain_of, end_fits, chain_short, number_along-append, end_of-append}
use Rattle.element_tree.proofs.Chains.{IsChainFrom-append, IsChainFrom-front}
use Rattle.element_tree.proofs.Ranks.{ids_along, rank_along-size, ranks_in_path_order, one_chain}
use Rattle.element_tree.proofs.RankSums.{link_numbered}
use Rattle.element_tree.proofs.Growth.{links_of-found, link_at}
use Rattle.element_tree.proofs.Along.{uses_along, element_on, elements_along, along_moves, along-cell, along-depth, along-bytes, along-rank}
use Rattle.element_tree.proofs.Along.{along-places, along-push}

-- a chain is empty, or has a last link
last_link : (chain : List Link) → (chain ≡ []) ⊎ ((front : List Link) × ((link : Link) × (front ++ link ∷ [] ≡ chain)))
last_link [] = inl refl
last_link (link ∷ chain) = elim (last_link chain) [
  | inl e ↦ inr ([], (link, ap (λ z. link ∷ z) (sym e)))
  | inr r ↦ inr (link ∷ r.0, (r.1.0, ap (λ z. link ∷ z) r.1.1))
]

ids_same : (chain : List Link) → map (λ (used : UseRec). used.id) (uses_along chain) ≡ ids_along chain
ids_same [] = refl
ids_same (link ∷ chain) = ap (λ z. link.used.id ∷ z) (ids_same chain)

-- the element along a chain from the root
abbrev element_at : CellExt → List CellExt → ℕ → List Link → Element
element_at top exts root chain = element_on top exts [] root chain

-- what the tree has of it
abbrev flat_at : ℕ → List Link → TreeElement
flat_at root chain = flat_along 0 (top_flat root) chain

-- the elements of the tree
abbrev elements_in : List CellExt → List (List Branch) → CellExt → ℕ → List Element
elements_in exts branches top root = map (element_at top exts root) (chains_below LONGEST_CHAIN (links_of exts branches) root)

-- what the tree has of them
abbrev flats_in : List CellExt → List (List Branch) → ℕ → List TreeElement
flats_in exts branches root = flats_below LONGEST_CHAIN (links_of exts branches) 0 (top_flat root)

module _ (exts : List CellExt) (branches : List (List Branch)) (order sizes : List ℕ) (length_of : ℕ → ℕ)
    (forest : AreForest exts branches order sizes length_of) (top : CellExt) (root : ℕ) (fits : Fits order sizes root)
    (short : length_of root ≤ LONGEST_CHAIN) where
  stands_for : (chain : List Link) → IsChainFrom (links_of exts branches) root chain → StandsFor exts (element_at top exts root chain) (flat_at root chain)
  stands_for chain h =
      let end = end_fits exts branches order sizes length_of forest root chain fits h in
      let few = chain_short exts branches order sizes length_of forest root chain fits h in
      let moves = along_moves exts branches order sizes length_of forest top root 0 (top_flat root) chain 0 fits h identity_moves in
      let deep = along-depth 0 (top_flat root) chain in
      let long = along-bytes 0 (top_flat root) chain in
      record {
        record_ = ap (slice_get exts) (along-cell 0 (top_flat root) chain)
            ∙ slice_get-get_or exts (end_of root chain) top (forest.within (end_of root chain) end);
        depth = deep ∙ (omega arith) ∙ sym (length-map chain (λ (link : Link). link.used));
        bytes = long ∙ (omega arith) ∙ ap path_length (sym (ids_same chain));
        moves = reach_from_count (flat_at root chain).to_root (0 + length chain) (omega arith) moves;
        places = λ square _ _. along-places 0 (top_flat root) chain square ∙ image-identity (placed (uses_along chain) square);
      }

  -- what stands at a number does so along a chain
  along : (number : ℕ) (element : Element) (flat : TreeElement)
      → AreAt (elements_in exts branches top root)
      (flats_in exts branches root) number element flat
      → (chain : List Link) × (IsChainFrom (links_of exts branches) root chain × ((number ≡ number_along chain)
      × ((element_at top exts root chain ≡ element) × (flat_at root chain ≡ flat))))
  along number element flat at =
      let chains = chains_below LONGEST_CHAIN (links_of exts branches) root in
      let one = slice_get-map_source (element_at top exts root) chains number element at.is in
      let other = slice_get-map_source (flat_at root) chains number flat at.has in
      let same : other.0 ≡ one.0 = (let both = sym other.1.0 ∙ one.1.0 in cc) in
      let chain = chain_of exts branches order sizes length_of forest LONGEST_CHAIN root number one.0 fits short one.1.0 in
      (one.0, (chain.0, (chain.1, (one.1.1, ap (flat_at root) (sym same) ∙ other.1.1))))

  -- the element along a chain stands at the chain's number
  there : (chain : List Link) → IsChainFrom (links_of exts branches) root chain
      → slice_get (elements_in exts branches top root) (number_along chain) ≡ Some (element_at top exts root chain)
  there chain h = slice_get-map_there (element_at top exts root) (chains_below LONGEST_CHAIN (links_of exts branches) root) (number_along chain) chain
      (chain_at exts branches order sizes length_of forest LONGEST_CHAIN root chain fits short h)

  stands_in : (chain : List Link) → IsChainFrom (links_of exts branches) root chain → ((element_at top exts root chain).uses ≡ [])
      ⊎ StandsIn (elements_in exts branches top root) (number_along chain) (element_at top exts root chain)
      (flat_at root chain)
  stands_in chain h = step (last_link chain)
    where
      behind : (front : List Link) (link : Link) → IsChainFrom (links_of exts branches) root (front ++ link ∷ [])
          → StandsIn (elements_in exts branches top root) (number_along (front ++ link ∷ []))
          (element_at top exts root (front ++ link ∷ [])) (flat_at root (front ++ link ∷ []))
      behind front link k =
          let links = links_of exts branches in
          let parts = IsChainFrom-front links root front (link ∷ []) k in
          let cell = end_of root front in
          let end = end_fits exts branches order sizes length_of forest root front fits parts.0 in
          let later = step_behind (value_at sizes) (λ z. []) 1 link (links cell) (forest.steps cell end) parts.1.0 in
          let found = slice_get-get_or exts cell top (forest.within cell end) in
          let numbered = link_numbered 0 (get_or exts cell top).uses (branches_of branches cell) link
          (subst (λ z. In link z) (links_of-found exts branches cell (get_or exts cell top) found) parts.1.0) in
          let whole = along-push 0 (top_flat root) front link in
          let place = number_along-append front (link ∷ []) in
          let parent : (flat_at root (front ++ link ∷ [])).parent ≡ number_along front = ap (λ (z : TreeElement). z.parent) whole ∙ (omega arith) in
          let at : (flat_at root (front ++ link ∷ [])).at ≡ numbered.number = ap (λ (z : TreeElement). z.at) whole ∙ numbered.at ∙ (omega arith) in
          record {
            parent = element_at top exts root front;
            used = link.used;
            lesser = omega arith;
            found = ap (slice_get (elements_in exts branches top root)) parent ∙ there front parts.0;
            use_of = ap (slice_get (get_or exts cell top).uses) at ∙ numbered.use_of;
            uses = map-append (λ (z : Link). z.used) front (link ∷ []);
          }

      step : (chain ≡ []) ⊎ ((front : List Link) × ((link : Link) × (front ++ link ∷ [] ≡ chain))) → ((element_at top exts root chain).uses ≡ [])
          ⊎ StandsIn (elements_in exts branches top root) (number_along chain) (element_at top exts root chain)
          (flat_at root chain)
      step (inl e) = inl (ap uses_along e)
      step (inr r) =
          let P : List Link → Type 0 = λ z. StandsIn (elements_in exts branches top root) (number_along z)
          (element_at top exts root z) (flat_at root z) in
          inr (subst P r.1.1 (behind r.0 r.1.0 (subst (IsChainFrom (links_of exts branches) root) (sym r.1.1) h)))

  leads_to : (chain : List Link) (at : ℕ) (used : UseRec) → IsChainFrom (links_of exts branches) root chain
      → slice_get (element_at top exts root chain).ext.uses at ≡ Some used
      → LeadsTo exts (elements_in exts branches top root) (branches_of branches (flat_at root chain).cell) (number_along chain)
      (element_at top exts root chain) at used
  leads_to chain at used h use_of =
      let links = links_of exts branches in
      let cell = end_of root chain in
      let end = end_fits exts branches order sizes length_of forest root chain fits h in
      let ext = get_or exts cell top in
      let found = slice_get-get_or exts cell top (forest.within cell end) in
      let paired = forest.paired cell ext end found in
      let within = slice_get_within ext.uses at used use_of in
      let branch = slice_get-below (branches_of branches cell) at (omega arith) in
      let link : Link = record { at = at; used = used; branch = branch.0 } in
      let linked : slice_get (links cell) at ≡ Some link = ap (λ z. slice_get z at) (links_of-found exts branches cell ext found)
      ∙ link_at 0 ext.uses (branches_of branches cell) at at used branch.0 use_of branch.1 (omega arith) in
      let is = In-slice_get (links cell) at link linked in
      let child = forest.fits cell link end is in
      let place = number_along-append chain (link ∷ []) in
      let number : number_along chain + (branch.0).step ≡ number_along (chain ++ link ∷ []) = omega arith in
      let uses : uses_along (chain ++ link ∷ []) ≡ uses_along chain ++ used ∷ [] = map-append (λ (z : Link). z.used) chain (link ∷ []) in
      let ends : end_of root (chain ++ link ∷ []) ≡ (branch.0).child = end_of-append root chain (link ∷ []) in
      let element : element_at top exts root (chain ++ link ∷ []) ≡ record { uses = uses_along chain ++ used ∷ []; ext = get_or exts (branch.0).child top } =
      λ i. record { uses = uses i; ext = get_or exts (ends i) top } in
      record {
        branch = branch.0;
        child = get_or exts (branch.0).child top;
        found = ap (λ z. slice_get (branches_of branches z) at) (along-cell 0 (top_flat root) chain) ∙ branch.1;
        record_ = slice_get-get_or exts (branch.0).child top (forest.within (branch.0).child child);
        below = ap (slice_get (elements_in exts branches top root)) number
            ∙ there (chain ++ link ∷ []) (IsChainFrom-append links root chain (link ∷ []) h (is, tt)) ∙ ap Some element;
      }

  ranked_along : (one other : List Link) → IsChainFrom (links_of exts branches) root one → IsChainFrom (links_of exts branches) root other
      → (flat_at root one).depth ≡ (flat_at root other).depth → nat_cmp (flat_at root one).rank (flat_at root other).rank
      ≡ slice_cmp element_cmp (ids_of (element_at top exts root one)) (ids_of (element_at top exts root other))
  ranked_along one other h k deep =
      let first : (flat_at root one).rank ≡ rank_along one = along-rank 0 (top_flat root) one ∙ (omega arith) in
      let second : (flat_at root other).rank ≡ rank_along other = along-rank 0 (top_flat root) other ∙ (omega arith) in
      let long_one = along-depth 0 (top_flat root) one in
      let long_other = along-depth 0 (top_flat root) other in
      (λ i. nat_cmp (first i) (second i))
      ∙ ranks_in_path_order exts branches order sizes length_of forest root one other fits h k (omega arith)
      ∙ (λ i. slice_cmp element_cmp (sym (ids_same one) i) (sym (ids_same other) i))

  -- what holds along the chain of an element holds of it
  moved : (P : Element → TreeElement → Type 0) (chain : List Link) (element : Element) (flat : TreeElement) → element_at top exts root chain ≡ element
      → flat_at root chain ≡ flat → P (element_at top exts root chain) (flat_at root chain) → P element flat
  moved P chain element flat e f h = subst (λ z. P element z) f (subst (λ z. P z (flat_at root chain)) e h)

  elements_long : length (elements_in exts branches top root) ≡ value_at sizes root
  elements_long = length-map (chains_below LONGEST_CHAIN (links_of exts branches) root) (element_at top exts root)
      ∙ length-chains_below exts branches order sizes length_of forest LONGEST_CHAIN root fits short

  -- the tree is of these elements
  pub tree_of : IsTreeOfElements exts (elements_in exts branches top root) (record { branches = branches; elements = flats_in exts branches root })
  tree_of = record {
    long = length-map (chains_below LONGEST_CHAIN (links_of exts branches) root) (flat_at root)
        ∙ length-chains_below exts branches order sizes length_of forest LONGEST_CHAIN root fits short ∙ sym elements_long;
    long_branches = forest.long;
    elements_are = λ number element flat at. (let r = along number element flat at in
        moved (StandsFor exts) r.0 element flat r.1.1.1.0 r.1.1.1.1 (stands_for r.0 r.1.0));
    ranks_small = λ number element flat at. (let r = along number element flat at in
        let small = rank_along-size exts branches order sizes length_of forest root r.0 fits r.1.0 in
        let rank = along-rank 0 (top_flat root) r.0 in
        let same : (flat_at root r.0).rank ≡ flat.rank = ap (λ (z : TreeElement). z.rank) r.1.1.1.1 in
        let long = elements_long in
        omega arith);
    parents = λ number element flat at. (let r = along number element flat at in
        let P : ℕ → Element → TreeElement → Type 0 = λ n e f. (e.uses ≡ []) ⊎ StandsIn (elements_in exts branches top root) n e f in
        subst (λ n. P n element flat) (sym r.1.1.0) (moved (P (number_along r.0)) r.0 element flat r.1.1.1.0 r.1.1.1.1 (stands_in r.0 r.1.0)));
    steps = λ number element flat at place used use_of. (let r = along number element flat at in
        let P : ℕ → Element → TreeElement → Type 0 = λ n e f. slice_get e.ext.uses place ≡ Some used
        → LeadsTo exts (elements_in exts branches top root) (branches_of branches f.cell) n e place used in
        (subst (λ n. P n element flat) (sym r.1.1.0) (moved (P (number_along r.0)) r.0 element flat r.1.1.1.0 r.1.1.1.1
        (λ u. leads_to r.0 place used r.1.0 u))) use_of);
    ranks = λ a b one other flat next at there_at deep. (let r = along a one flat at in
        let s = along b other next there_at in
        let P : Element → TreeElement → Type 0 = λ e f. f.depth ≡ next.depth
        → nat_cmp f.rank next.rank ≡ slice_cmp element_cmp (ids_of e) (ids_of other) in
        let Q : Element → TreeElement → Type 0 = λ e f. (flat_at root r.0).depth ≡ f.depth
        → nat_cmp (flat_at root r.0).rank f.rank ≡ slice_cmp element_cmp (ids_of (element_at top exts root r.0)) (ids_of e) in
        (moved P r.0 one flat r.1.1.1.0 r.1.1.1.1 (moved Q s.0 other next s.1.1.1.0 s.1.1.1.1 (λ d. ranked_along r.0 s.0 r.1.0 s.1.0 d))) deep);
    apart = λ a b one other at there_at same. (
        let chains = chains_below LONGEST_CHAIN (links_of exts branches) root in
        let r = slice_get-map_source (element_at top exts root) chains a one at in
        let s = slice_get-map_source (element_at top exts root) chains b other there_at in
        let one_of = chain_of exts branches order sizes length_of forest LONGEST_CHAIN root a r.0 fits short r.1.0 in
        let other_of = chain_of exts branches order sizes length_of forest LONGEST_CHAIN root b s.0 fits short s.1.0 in
        let ids : ids_along r.0 ≡ ids_along s.0 = sym (ids_same r.0) ∙ ap ids_of r.1.1 ∙ same ∙ ap ids_of (sym s.1.1) ∙ ids_same s.0 in
        let chain = one_chain exts branches order sizes length_of forest root r.0 s.0 fits one_of.0 other_of.0 ids in
        one_of.1 ∙ ap number_along chain ∙ sym other_of.1);
  }

  -- these elements are those of the records
  pub elements_are_along : slice_get exts root ≡ Some top → elements_of exts top ≡ elements_in exts branches top root
  elements_are_along found =
      ap (elements_below LONGEST_CHAIN exts []) (sym (get_or_from_slice_get exts root top top found))
      ∙ elements_along exts branches order sizes length_of forest top LONGEST_CHAIN root [] fits

-- there is room for the root and all below it
pub room_at_root : (exts : List CellExt) (root : ℕ) (graph : RecordGraph) (sizes : List ℕ) (branches : List (List Branch)) → AreRecords exts
    → IsGraphOf exts root graph → AreSizes graph root sizes → AreBranches exts graph.children graph.order sizes branches
    → HasRoom exts branches LONGEST_CHAIN 0 (top_flat root)
room_at_root exts root graph sizes branches records is counts are = record {
  order = graph.order;
  sizes = sizes;
  length_of = value_at counts.lengths;
  forest = forest_of exts root graph counts.lengths sizes branches records is counts.measured counts.sized are;
  fits = counts.fits;
  numbers = (let small = counts.fits.small in omega arith);
  ranks = (let small = counts.fits.small in omega arith);
  deep = omega arith;
  moves = identity_moves;
}

-- what was added is the tree
pub tree_is : (exts : List CellExt) (root : ℕ) (graph : RecordGraph) (sizes : List ℕ) (branches : List (List Branch)) (flats : List TreeElement)
    → AreRecords exts
    → IsGraphOf exts root graph → AreSizes graph root sizes → AreBranches exts graph.children graph.order sizes branches
    → flats ≡ flats_below LONGEST_CHAIN (links_of exts branches) 0 (top_flat root)
    → IsTreeOf exts root (record { branches = branches; elements = flats })
tree_is exts root graph sizes branches flats records is counts are e top found =
    let forest = forest_of exts root graph counts.lengths sizes branches records is counts.measured counts.sized are in
    let law = tree_of exts branches graph.order sizes (value_at counts.lengths) forest top root counts.fits counts.short in
    let elements = elements_are_along exts branches graph.order sizes (value_at counts.lengths) forest top root counts.fits counts.short found in
    subst (λ z. IsTreeOfElements exts z (record { branches = branches; elements = flats })) (sym elements)
    (subst (λ z. IsTreeOfElements exts (elements_in exts branches top root) (record { branches = branches; elements = z })) (sym e) law)
