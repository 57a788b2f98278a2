-- Chains of links: which numbers and ranks the elements along them have.
use Rattle.element_tree.proofs.Common.{◌≡◌, ◌⊎◌, ℕ, zero, suc, ◌<◌, ◌≤◌, ◌+◌, ◌-◌, Some, List, [], ◌∷◌, ◌++◌, length, map, inl, inr, refl, sym, ◌∙◌}
use Rattle.element_tree.proofs.Common.{ap, subst, arith, length-append, sum_by, flat_map, slice_get, cases_lt, slice_get_within, length-map}
use Rattle.element_tree.proofs.Common.{sum_by-cons, In, CellExt, Branch, Link, Fits, value_at, AreInSteps, AreForest}
use Rattle.name_index.proofs.FiniteSets.Places.{slice_get-append_front, slice_get-append_right, slice_get-map_source, slice_get-map_there}
use Rattle.element_tree.specs.steps.Links.{links_of, chains_below}

-- the number of the element along a chain, less that of the one it starts at
abbrev pub number_along : List Link → ℕ
number_along [] = 0
number_along (link ∷ chain) = link.branch.step + number_along chain

-- its rank, less that of the one it starts at
abbrev pub rank_along : List Link → ℕ
rank_along [] = 0
rank_along (link ∷ chain) = link.branch.rank_step + rank_along chain

-- the record that a chain from another leads to
abbrev pub end_of : ℕ → List Link → ℕ
end_of cell [] = cell
end_of cell (link ∷ chain) = end_of link.branch.child chain

-- The links lead from the record on, each from where the one before leads.
abbrev pub IsChainFrom : (ℕ → List Link) → ℕ → List Link → Type 0
IsChainFrom links cell [] = Unit {0}
IsChainFrom links cell (link ∷ chain) = In link (links cell) × IsChainFrom links link.branch.child chain

-- lists one behind the other, as long as the sizes say
module _ (size : ℕ → ℕ) (part : Link → List (List Link)) where
  length-parts : (links : List Link) → ((link : Link) → In link links → length (part link) ≡ size link.branch.child)
      → length (flat_map part links) ≡ sum_by (λ link. size link.branch.child) links
  length-parts [] long = refl
  length-parts (link ∷ links) long =
      let here = long link (inl refl) in
      let more = length-parts links (λ other h. long other (inr h)) in
      let whole = length-append (part link) (flat_map part links) in
      let total = sum_by-cons (λ (other : Link). size other.branch.child) link links in
      omega arith

  -- each link's elements stand behind the start
  pub step_behind : (start : ℕ) (link : Link) (links : List Link) → AreInSteps size start links → In link links → start ≤ link.branch.step
  step_behind start link [] steps h = absurd h
  step_behind start link (other ∷ links) steps (inl e) = let same : other.branch.step ≡ link.branch.step = ap (λ (z : Link). z.branch.step) e in omega arith
  step_behind start link (other ∷ links) steps (inr h) = let later = step_behind (start + size other.branch.child) link links steps.1 h in omega arith

  -- what stands in a part stands behind the parts before it
  part_at : (start : ℕ) (links : List Link) (link : Link) (n k : ℕ) → ((other : Link) → In other links → length (part other) ≡ size other.branch.child)
      → AreInSteps size start links → In link links → n < length (part link) → link.branch.step + n ≡ start + k
      → slice_get (flat_map part links) k ≡ slice_get (part link) n
  part_at start [] link n k long steps h fits place = absurd h
  part_at start (other ∷ links) link n k long steps (inl e) fits place =
      let same : other.branch.step ≡ link.branch.step = ap (λ (z : Link). z.branch.step) e in
      let equal : k ≡ n = omega (arith, steps.0) in
      let long_same : length (part other) ≡ length (part link) = ap (λ z. length (part z)) e in
      slice_get-append_front (part other) (flat_map part links) k (omega arith) ∙ ap (λ z. slice_get (part z) k) e ∙ ap (slice_get (part link)) equal
  part_at start (other ∷ links) link n k long steps (inr h) fits place =
      let here = long other (inl refl) in
      let later = step_behind (start + size other.branch.child) link links steps.1 h in
      let j = k - length (part other) in
      slice_get-append_right (part other) (flat_map part links) j k (omega arith)
      ∙ part_at (start + size other.branch.child) links link n j (λ z l. long z (inr l)) steps.1 h fits (omega arith)

  -- each thing stands in a part
  part_of : (start : ℕ) (links : List Link) (k : ℕ) (chain : List Link) → ((other : Link) → In other links → length (part other) ≡ size other.branch.child)
      → AreInSteps size start links → slice_get (flat_map part links) k ≡ Some chain
      → (link : Link) × ((n : ℕ) × (In link links × ((slice_get (part link) n ≡ Some chain) × (link.branch.step + n ≡ start + k))))
  part_of start [] k chain long steps h = cc
  part_of start (link ∷ links) k chain long steps h =
      step (λ j g. part_of (start + size link.branch.child) links j chain (λ z l. long z (inr l)) steps.1 g) (cases_lt k (length (part link)))
    where
      step : ((j : ℕ) → slice_get (flat_map part links) j ≡ Some chain → (other : Link) × ((n : ℕ)
          × (In other links × ((slice_get (part other) n ≡ Some chain) × (other.branch.step + n ≡ start + size link.branch.child + j)))))
          → (k < length (part link)) ⊎ (length (part link) ≤ k)
          → (other : Link) × ((n : ℕ) × (In other (link ∷ links) × ((slice_get (part other) n ≡ Some chain) × (other.branch.step + n ≡ start + k))))
      step more (inl fits) =
          (link, (k, (inl refl, (sym (slice_get-append_front (part link) (flat_map part links) k fits) ∙ h, omega (arith, steps.0)))))
      step more (inr past) =
          let j = k - length (part link) in
          let r = more j (sym (slice_get-append_right (part link) (flat_map part links) j k (omega arith)) ∙ h) in
          let here = long link (inl refl) in
          let last : (r.0).branch.step + r.1.0 ≡ start + size link.branch.child + j = r.1.1.1.1 in
          (r.0, (r.1.0, (inr r.1.1.0, (r.1.1.1.0, omega arith))))

-- the parts that the chains below a record have, one for each link
abbrev chains_behind : ℕ → (ℕ → List Link) → Link → List (List Link)
chains_behind levels links link = map (λ chain. link ∷ chain) (chains_below levels links link.branch.child)

module _ (exts : List CellExt) (branches : List (List Branch)) (order sizes : List ℕ) (length_of : ℕ → ℕ)
    (forest : AreForest exts branches order sizes length_of) where
  -- there are as many elements as the sizes say
  pub length-chains_below : (levels cell : ℕ) → Fits order sizes cell → length_of cell ≤ levels
      → length (chains_below levels (links_of exts branches) cell) ≡ value_at sizes cell
  unfolding chains_below
  length-chains_below zero cell fits deep = let some = forest.some cell fits in absurd (omega arith)
  length-chains_below (suc levels) cell fits deep =
      let links = links_of exts branches in
      let parts = length-parts (value_at sizes) (chains_behind levels links) (links cell)
      (λ link h. length-map (chains_below levels links link.branch.child) (λ chain. link ∷ chain)
      ∙ length-chains_below levels link.branch.child (forest.fits cell link fits h) (let less = forest.shorter cell link fits h in omega arith)) in
      let size = forest.sized cell fits in
      omega arith

  -- as long as the parts are
  long_parts : (levels cell : ℕ) → Fits order sizes cell → length_of cell ≤ suc levels → (link : Link) → In link (links_of exts branches cell)
      → length (chains_behind levels (links_of exts branches) link) ≡ value_at sizes link.branch.child
  long_parts levels cell fits deep link h =
      length-map (chains_below levels (links_of exts branches) link.branch.child) (λ chain. link ∷ chain)
      ∙ length-chains_below levels link.branch.child (forest.fits cell link fits h) (let less = forest.shorter cell link fits h in omega arith)

  -- the element along a chain stands at the chain's number
  pub chain_at : (levels cell : ℕ) (chain : List Link) → Fits order sizes cell → length_of cell ≤ levels → IsChainFrom (links_of exts branches) cell chain
      → slice_get (chains_below levels (links_of exts branches) cell) (number_along chain) ≡ Some chain
  unfolding chains_below
  chain_at zero cell chain fits deep h = let some = forest.some cell fits in absurd (omega arith)
  chain_at (suc levels) cell [] fits deep h = refl
  chain_at (suc levels) cell (link ∷ chain) fits deep h =
      let links = links_of exts branches in
      let part = chains_behind levels links in
      let less = forest.shorter cell link fits h.0 in
      let below = chain_at levels link.branch.child chain (forest.fits cell link fits h.0) (omega arith) h.1 in
      let there = slice_get-map_there (λ (z : List Link). link ∷ z) (chains_below levels links link.branch.child) (number_along chain) chain below in
      let within = slice_get_within (part link) (number_along chain) (link ∷ chain) there in
      let first = step_behind (value_at sizes) part 1 link (links cell) (forest.steps cell fits) h.0 in
      let k = link.branch.step + number_along chain - 1 in
      let place : link.branch.step + number_along chain ≡ suc k = omega arith in
      ap (slice_get ([] ∷ flat_map part (links cell))) place
      ∙ part_at (value_at sizes) part 1 (links cell) link (number_along chain) k (long_parts levels cell fits deep) (forest.steps cell fits) h.0 within
      (omega arith)
      ∙ there

  -- each element stands at the number of a chain
  pub chain_of : (levels cell number : ℕ) (chain : List Link) → Fits order sizes cell → length_of cell ≤ levels
      → slice_get (chains_below levels (links_of exts branches) cell) number ≡ Some chain
      → IsChainFrom (links_of exts branches) cell chain × (number ≡ number_along chain)
  unfolding chains_below
  chain_of zero cell number chain fits deep h = cc
  chain_of (suc levels) cell zero chain fits deep h =
      let same : [] ≡ chain = cc in
      subst (λ (z : List Link). IsChainFrom (links_of exts branches) cell z × (0 ≡ number_along z)) same (tt, refl)
  chain_of (suc levels) cell (suc number) chain fits deep h =
      let links = links_of exts branches in
      let part = chains_behind levels links in
      let r = part_of (value_at sizes) part 1 (links cell) number chain (long_parts levels cell fits deep) (forest.steps cell fits) h in
      let link = r.0 in
      let s = slice_get-map_source (λ (z : List Link). link ∷ z) (chains_below levels links link.branch.child) r.1.0 chain r.1.1.1.0 in
      let less = forest.shorter cell link fits r.1.1.0 in
      let below = chain_of levels link.branch.child r.1.0 s.0 (forest.fits cell link fits r.1.1.0) (omega arith) s.1.0 in
      let place : link.branch.step + r.1.0 ≡ 1 + number = r.1.1.1.1 in
      let last : r.1.0 ≡ number_along s.0 = below.1 in
      subst (λ (z : List Link). IsChainFrom links cell z × (suc number ≡ number_along z)) s.1.1 ((r.1.1.0, below.0), omega arith)

  -- the last record of a chain fits
  pub end_fits : (cell : ℕ) (chain : List Link) → Fits order sizes cell → IsChainFrom (links_of exts branches) cell chain
      → Fits order sizes (end_of cell chain)
  end_fits cell [] fits h = fits
  end_fits cell (link ∷ chain) fits h = end_fits link.branch.child chain (forest.fits cell link fits h.0) h.1

  -- a chain has fewer links than the longest one has records
  pub chain_short : (cell : ℕ) (chain : List Link) → Fits order sizes cell → IsChainFrom (links_of exts branches) cell chain → length chain < length_of cell
  chain_short cell [] fits h = forest.some cell fits
  chain_short cell (link ∷ chain) fits h =
      let more = chain_short link.branch.child chain (forest.fits cell link fits h.0) h.1 in
      let less = forest.shorter cell link fits h.0 in
      omega arith

-- a chain, and then another
pub number_along-append : (chain rest : List Link) → number_along (chain ++ rest) ≡ number_along chain + number_along rest
number_along-append [] rest = omega arith
number_along-append (link ∷ chain) rest = let more = number_along-append chain rest in omega arith

pub end_of-append : (cell : ℕ) (chain rest : List Link) → end_of cell (chain ++ rest) ≡ end_of (end_of cell chain) rest
end_of-append cell [] rest = refl
end_of-append cell (link ∷ chain) rest = end_of-append link.branch.child chain rest

-- both are chains
pub IsChainFrom-append : (links : ℕ → List Link) (cell : ℕ) (chain rest : List Link) → IsChainFrom links cell chain
    → IsChainFrom links (end_of cell chain) rest → IsChainFrom links cell (chain ++ rest)
IsChainFrom-append links cell [] rest h k = k
IsChainFrom-append links cell (link ∷ chain) rest h k = (h.0, IsChainFrom-append links link.branch.child chain rest h.1 k)

-- and the other way round
pub IsChainFrom-front : (links : ℕ → List Link) (cell : ℕ) (chain rest : List Link) → IsChainFrom links cell (chain ++ rest)
    → IsChainFrom links cell chain × IsChainFrom links (end_of cell chain) rest
IsChainFrom-front links cell [] rest h = (tt, h)
IsChainFrom-front links cell (link ∷ chain) rest h =
    let more = IsChainFrom-front links link.branch.child chain rest h.1 in ((h.0, more.0), more.1)
