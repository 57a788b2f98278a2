-- The elements of a tree are those along the chains of links, and so is what the tree has of them.
use Rattle.element_tree.proofs.Common.{◌≡◌, ℕ, zero, suc, ◌+◌, Some, List, [], ◌∷◌, ◌++◌, length, get_or, map, inl, inr, refl, sym, ◌∙◌, ap, subst}
use Rattle.element_tree.proofs.Common.{arith, append_assoc, flat_map, append-nil, slice_get-get_or, In, Square, UseRec, CellExt, path_length, ext_of}
use Rattle.element_tree.proofs.Common.{Branch, TreeElement, branches_of, Link, links_from, Fits, AreForest, MovesByAtMost}
use Rattle.name_index.proofs.FiniteSets.Images.{map-same}
use Rattle.geo_core.specs.Images.{image}
use Rattle.geo_core.proofs.ImageLaws.{image-composed}
use Rattle.circuit_model.specs.Elements.{Element, of_option, elements_below, transform_of, placed}
use Rattle.element_tree.specs.steps.Links.{links_of, chains_below, flat_below, flat_along}
use Rattle.element_tree.proofs.Transforms.{composed_moves, placement_moves}
use Rattle.element_tree.proofs.Chains.{number_along, rank_along, end_of, IsChainFrom}
use Rattle.element_tree.proofs.Ranks.{ids_along}
use Rattle.element_tree.proofs.Growth.{links_of-found, map-chains}
use Rattle.element_tree.proofs.Counting.{elements_behind}

-- the uses along a chain
abbrev pub uses_along : List Link → List UseRec
uses_along chain = map (λ link. link.used) chain

-- the element along a chain from a record to which a path leads; the top stands in place of a record that isn't there
abbrev pub element_on : CellExt → List CellExt → List UseRec → ℕ → List Link → Element
element_on top exts path cell chain = record { uses = path ++ uses_along chain; ext = get_or exts (end_of cell chain) top }

-- what stands behind uses and what stands behind their links
parts : {X : Type 0} (of : UseRec → List X) (by : Link → List X) (number : ℕ) (uses : List UseRec) (row : List Branch) → length row ≡ length uses
    → ((link : Link) → In link (links_from number uses row) → of link.used ≡ by link) → flat_map of uses ≡ flat_map by (links_from number uses row)
parts of by number [] row long same = refl
parts of by number (u ∷ uses) [] long same = absurd (omega (arith, long))
parts of by number (u ∷ uses) (b ∷ row) long same =
    let first = same (record { at = number; used = u; branch = b }) (inl refl) in
    let rest = parts of by (suc number) uses row (omega (arith, long)) (λ link h. same link (inr h)) in
    ap (λ z. z ++ flat_map of uses) first ∙ ap (λ z. by (record { at = number; used = u; branch = b }) ++ z) rest

module _ (exts : List CellExt) (branches : List (List Branch)) (order sizes : List ℕ) (length_of : ℕ → ℕ)
    (forest : AreForest exts branches order sizes length_of) (top : CellExt) where
  -- the elements from a record on are those along its chains
  pub elements_along : (levels cell : ℕ) (path : List UseRec) → Fits order sizes cell
      → elements_below levels exts path (get_or exts cell top) ≡ map (element_on top exts path cell) (chains_below levels (links_of exts branches) cell)
  unfolding elements_below chains_below
  elements_along zero cell path fits = refl
  elements_along (suc levels) cell path fits =
      let links = links_of exts branches in
      let ext = get_or exts cell top in
      let found = slice_get-get_or exts cell top (forest.within cell fits) in
      let row = branches_of branches cell in
      let by : Link → List Element = λ link. map (λ chain. element_on top exts path cell (link ∷ chain)) (chains_below levels links link.branch.child) in
      let linked = links_of-found exts branches cell ext found in
      let behind : (link : Link) → In link (links_from 0 ext.uses row) → elements_behind levels exts path link.used ≡ by link =
      λ link h. (let h = subst (λ z. In link z) (sym linked) h in
      let child = forest.fits cell link fits h in
      let led : ext_of exts link.used.cell ≡ Some (get_or exts link.branch.child top) =
      sym (forest.leads cell link fits h) ∙ slice_get-get_or exts link.branch.child top (forest.within link.branch.child child) in
      ap (of_option (elements_below levels exts (path ++ link.used ∷ []))) led
      ∙ elements_along levels link.branch.child (path ++ link.used ∷ []) child
      ∙ map-same (element_on top exts (path ++ link.used ∷ []) link.branch.child) (λ chain. element_on top exts path cell (link ∷ chain))
      (chains_below levels links link.branch.child)
      (λ chain here. ap (λ z. record { uses = z; ext = get_or exts (end_of link.branch.child chain) top })
      (append_assoc path (link.used ∷ []) (uses_along chain)))) in
      let rest = parts (elements_behind levels exts path) by 0 ext.uses row (forest.paired cell ext fits found) behind
      ∙ ap (flat_map by) (sym linked) ∙ sym (map-chains (element_on top exts path cell) (λ link. chains_below levels links link.branch.child) (links cell)) in
      let first : Element = record { uses = path; ext = ext } in
      ap (λ z. first ∷ z) rest
      ∙ ap (λ z. record { uses = z; ext = ext } ∷ map (element_on top exts path cell)
      (flat_map (λ link. map (λ chain. link ∷ chain) (chains_below levels links link.branch.child)) (links cell)))
      (sym (append-nil path))

  -- what the tree has of an element along a chain moves by no more displacements than the chain has links
  pub along_moves : (cell number : ℕ) (flat : TreeElement) (chain : List Link) (n : ℕ) → Fits order sizes cell → IsChainFrom (links_of exts branches) cell chain
      → MovesByAtMost n flat.to_root → MovesByAtMost (n + length chain) (flat_along number flat chain).to_root
  along_moves cell number flat [] n fits h moves = subst (λ z. MovesByAtMost z flat.to_root) (omega arith) moves
  along_moves cell number flat (link ∷ chain) n fits h moves =
      let here = composed_moves (transform_of link.used.six) flat.to_root n (placement_moves link.used.six (forest.placed cell link fits h.0)) moves in
      let more = along_moves link.branch.child (number + link.branch.step) (flat_below number flat link) chain (n + 1)
      (forest.fits cell link fits h.0) h.1 here in
      subst (λ z. MovesByAtMost z (flat_along number flat (link ∷ chain)).to_root) (omega arith) more

-- the record of the element along a chain
pub along-cell : (number : ℕ) (flat : TreeElement) (chain : List Link) → (flat_along number flat chain).cell ≡ end_of flat.cell chain
along-cell number flat [] = refl
along-cell number flat (link ∷ chain) = along-cell (number + link.branch.step) (flat_below number flat link) chain

-- how many uses lead to it
pub along-depth : (number : ℕ) (flat : TreeElement) (chain : List Link) → (flat_along number flat chain).depth ≡ flat.depth + length chain
along-depth number flat [] = omega arith
along-depth number flat (link ∷ chain) = let more = along-depth (number + link.branch.step) (flat_below number flat link) chain in omega arith

-- how long its path is
pub along-bytes : (number : ℕ) (flat : TreeElement) (chain : List Link) → (flat_along number flat chain).bytes ≡ flat.bytes + path_length (ids_along chain)
along-bytes number flat [] = omega arith
along-bytes number flat (link ∷ chain) = let more = along-bytes (number + link.branch.step) (flat_below number flat link) chain in omega arith

-- its rank
pub along-rank : (number : ℕ) (flat : TreeElement) (chain : List Link) → (flat_along number flat chain).rank ≡ flat.rank + rank_along chain
along-rank number flat [] = omega arith
along-rank number flat (link ∷ chain) = let more = along-rank (number + link.branch.step) (flat_below number flat link) chain in omega arith

-- where its squares lie
pub along-places : (number : ℕ) (flat : TreeElement) (chain : List Link) (square : Square)
    → image (flat_along number flat chain).to_root square ≡ image flat.to_root (placed (uses_along chain) square)
along-places number flat [] square = refl
along-places number flat (link ∷ chain) square =
    along-places (number + link.branch.step) (flat_below number flat link) chain square
    ∙ image-composed (transform_of link.used.six) flat.to_root (placed (uses_along chain) square)

-- one link more at the end
pub along-push : (number : ℕ) (flat : TreeElement) (chain : List Link) (link : Link)
    → flat_along number flat (chain ++ link ∷ []) ≡ flat_below (number + number_along chain) (flat_along number flat chain) link
along-push number flat [] link = let e : number ≡ number + 0 = omega arith in ap (λ n. flat_below n flat link) e
along-push number flat (other ∷ chain) link =
    let e : number + other.branch.step + number_along chain ≡ number + (other.branch.step + number_along chain) = omega arith in
    along-push (number + other.branch.step) (flat_below number flat other) chain link
    ∙ ap (λ n. flat_below n (flat_along (number + other.branch.step) (flat_below number flat other) chain) link) e
