-- The ranks of elements are in the order of their paths.
use Rattle.element_tree.proofs.Common.{◌≡◌, ℕ, ◌<◌, ◌≤◌, ◌+◌, Bool, true, false, cond, List, [], ◌∷◌, length, map, inl, inr, refl, sym, ◌∙◌, ap}
use Rattle.element_tree.proofs.Common.{subst, arith, sum_by, common_steps, sum_by-cons, Ordering, Less, Equal, Greater, nat_cmp, is_lt}
use Rattle.element_tree.proofs.Common.{ordering_then, ordering_reverse, slice_cmp, In, CellExt, element_cmp, Branch, Link, Fits, value_at, AreForest}
use Rattle.std.proofs.lemmas.List.Sums.{sum_by-le-sum_by}
use Rattle.std.proofs.lemmas.Cmp.{tied_itself}
use Rattle.name_index.proofs.FiniteSets.Orders.{nat_cmp-add}
use Rattle.name_index.proofs.FiniteSets.Images.{one_from_Distinct}
use Rattle.element_tree.specs.steps.Links.{links_of}
use Rattle.element_tree.proofs.NameOrders.{element_cmp_total, element_cmp-Equal}
use Rattle.element_tree.proofs.Chains.{rank_along, IsChainFrom}

-- the names along a chain
abbrev pub ids_along : List Link → List (List ℕ)
ids_along chain = map (λ link. link.used.id) chain

weight-sub : (p q : Link → Bool) (w : Link → ℕ) → ((link : Link) → p link ≡ true → q link ≡ true) → (link : Link)
    → cond (p link) (w link) 0 ≤ cond (q link) (w link) 0
weight-sub p q w sub link = step (p link) (q link) (sub link)
  where
    step : (s t : Bool) → (s ≡ true → t ≡ true) → cond s (w link) 0 ≤ cond t (w link) 0
    step false t h = omega arith
    step true true h = omega arith
    step true false h = let k = h refl in absurd (cc)

-- a link that the greater test alone passes adds its weight
sum_where-more : (p q : Link → Bool) (w : Link → ℕ) (x : Link) (links : List Link) → In x links
    → ((link : Link) → p link ≡ true → q link ≡ true) → p x ≡ false → q x ≡ true
    → sum_by (λ link. cond (p link) (w link) 0) links + w x ≤ sum_by (λ link. cond (q link) (w link) 0) links
sum_where-more p q w x [] h sub px qx = absurd h
sum_where-more p q w x (link ∷ links) (inl e) sub px qx =
    let rest = sum_by-le-sum_by (λ (z : Link). cond (p z) (w z) 0) (λ (z : Link). cond (q z) (w z) 0) links (weight-sub p q w sub) in
    let same : w link ≡ w x = ap w e in
    let left : cond (p link) (w link) 0 ≡ 0 = ap (λ t. cond t (w link) 0) (ap p e ∙ px) in
    let right : cond (q link) (w link) 0 ≡ w link = ap (λ t. cond t (w link) 0) (ap q e ∙ qx) in
    omega (arith, sum_by-cons (λ (z : Link). cond (p z) (w z) 0) link links, sum_by-cons (λ (z : Link). cond (q z) (w z) 0) link links)
sum_where-more p q w x (link ∷ links) (inr h) sub px qx =
    let rest = sum_where-more p q w x links h sub px qx in
    let first = weight-sub p q w sub link in
    omega (arith, sum_by-cons (λ (z : Link). cond (p z) (w z) 0) link links, sum_by-cons (λ (z : Link). cond (q z) (w z) 0) link links)

is_lt-Less : (r : Ordering) → is_lt r ≡ true → r ≡ Less
is_lt-Less Less h = refl
is_lt-Less Equal h = cc
is_lt-Less Greater h = cc

-- names and themselves tie
pub element_cmp-same : (id : List ℕ) → element_cmp id id ≡ Equal
element_cmp-same id = tied_itself element_cmp_total id

element_cmp-Greater : (a b : List ℕ) → element_cmp a b ≡ Greater → element_cmp b a ≡ Less
element_cmp-Greater a b h = element_cmp_total.antisymm b a ∙ ap ordering_reverse h

nat_cmp-Less : (m n : ℕ) → m < n → nat_cmp m n ≡ Less
nat_cmp-Less m n h = grind (arith, common_steps)

nat_cmp-Greater : (m n : ℕ) → n < m → nat_cmp m n ≡ Greater
nat_cmp-Greater m n h = grind (arith, common_steps)

module _ (exts : List CellExt) (branches : List (List Branch)) (order sizes : List ℕ) (length_of : ℕ → ℕ)
    (forest : AreForest exts branches order sizes length_of) where
  -- the elements at or below a link have their ranks before those of a greater one
  rank_step-Less : (cell : ℕ) (x y : Link) → Fits order sizes cell → In x (links_of exts branches cell) → In y (links_of exts branches cell)
      → element_cmp x.used.id y.used.id ≡ Less → x.branch.rank_step + value_at sizes x.branch.child ≤ y.branch.rank_step
  rank_step-Less cell x y fits h k less =
      let more = sum_where-more (λ link. is_lt (element_cmp link.used.id x.used.id)) (λ link. is_lt (element_cmp link.used.id y.used.id))
      (λ link. value_at sizes link.branch.child) x (links_of exts branches cell) h
      (λ link t. ap is_lt (element_cmp_total.trans link.used.id x.used.id y.used.id (is_lt-Less (element_cmp link.used.id x.used.id) t) less))
      (ap is_lt (element_cmp-same x.used.id)) (ap is_lt less) in
      let first = forest.ranks cell x fits h in
      let second = forest.ranks cell y fits k in
      omega arith

  -- and before the end
  pub rank_step-size : (cell : ℕ) (x : Link) → Fits order sizes cell → In x (links_of exts branches cell)
      → x.branch.rank_step + value_at sizes x.branch.child ≤ value_at sizes cell
  rank_step-size cell x fits h =
      let more = sum_where-more (λ link. is_lt (element_cmp link.used.id x.used.id)) (λ link. true)
      (λ link. value_at sizes link.branch.child) x (links_of exts branches cell) h (λ link t. refl) (ap is_lt (element_cmp-same x.used.id)) refl in
      let first = forest.ranks cell x fits h in
      let whole = forest.sized cell fits in
      omega arith

  -- ranks are below the sizes
  pub rank_along-size : (cell : ℕ) (chain : List Link) → Fits order sizes cell → IsChainFrom (links_of exts branches) cell chain
      → rank_along chain < value_at sizes cell
  rank_along-size cell [] fits h = let whole = forest.sized cell fits in omega arith
  rank_along-size cell (link ∷ chain) fits h =
      let here = rank_step-size cell link fits h.0 in
      let below = rank_along-size link.branch.child chain (forest.fits cell link fits h.0) h.1 in
      omega arith

  -- elements as deep are ranked as their paths are ordered
  pub ranks_in_path_order : (cell : ℕ) (chain other : List Link) → Fits order sizes cell → IsChainFrom (links_of exts branches) cell chain
      → IsChainFrom (links_of exts branches) cell other → length chain ≡ length other
      → nat_cmp (rank_along chain) (rank_along other) ≡ slice_cmp element_cmp (ids_along chain) (ids_along other)
  ranks_in_path_order cell [] [] fits h k e = refl
  ranks_in_path_order cell [] (y ∷ other) fits h k e = absurd (omega (arith, e))
  ranks_in_path_order cell (x ∷ chain) [] fits h k e = absurd (omega (arith, e))
  ranks_in_path_order cell (x ∷ chain) (y ∷ other) fits h k e =
      step (λ l. ranks_in_path_order x.branch.child chain other (forest.fits cell x fits h.0) h.1 l) (element_cmp x.used.id y.used.id) refl
    where
      below : (z : Link) (rest : List Link) → IsChainFrom (links_of exts branches) cell (z ∷ rest) → rank_along rest < value_at sizes z.branch.child
      below z rest t = rank_along-size z.branch.child rest (forest.fits cell z fits t.0) t.1

      step : (IsChainFrom (links_of exts branches) x.branch.child other → length chain ≡ length other
          → nat_cmp (rank_along chain) (rank_along other) ≡ slice_cmp element_cmp (ids_along chain) (ids_along other))
          → (r : Ordering) → element_cmp x.used.id y.used.id ≡ r
          → nat_cmp (x.branch.rank_step + rank_along chain) (y.branch.rank_step + rank_along other)
          ≡ ordering_then r (slice_cmp element_cmp (ids_along chain) (ids_along other))
      step more Less t =
          let before = rank_step-Less cell x y fits h.0 k.0 t in
          let under = below x chain h in
          nat_cmp-Less (x.branch.rank_step + rank_along chain) (y.branch.rank_step + rank_along other) (omega arith)
      step more Greater t =
          let before = rank_step-Less cell y x fits k.0 h.0 (element_cmp-Greater x.used.id y.used.id t) in
          let under = below y other k in
          nat_cmp-Greater (x.branch.rank_step + rank_along chain) (y.branch.rank_step + rank_along other) (omega arith)
      step more Equal t =
          let same : x ≡ y = one_from_Distinct (λ link. link.used.id) (links_of exts branches cell) x y (forest.names cell fits) h.0 k.0
          (element_cmp-Equal x.used.id y.used.id t) in
          let fewer : length chain ≡ length other = omega (arith, e) in
          let P : Link → Type 0 = λ z. IsChainFrom (links_of exts branches) z.branch.child other
          → nat_cmp (x.branch.rank_step + rank_along chain) (z.branch.rank_step + rank_along other)
          ≡ slice_cmp element_cmp (ids_along chain) (ids_along other) in
          let here : P x = λ l. nat_cmp-add x.branch.rank_step (rank_along chain) (rank_along other) ∙ more l fewer in
          (subst P same here) k.1

  -- chains with the same names are one
  pub one_chain : (cell : ℕ) (chain other : List Link) → Fits order sizes cell → IsChainFrom (links_of exts branches) cell chain
      → IsChainFrom (links_of exts branches) cell other → ids_along chain ≡ ids_along other → chain ≡ other
  one_chain cell [] [] fits h k e = refl
  one_chain cell [] (y ∷ other) fits h k e = cc
  one_chain cell (x ∷ chain) [] fits h k e = cc
  one_chain cell (x ∷ chain) (y ∷ other) fits h k e =
      let first : x.used.id ≡ y.used.id = cc in
      let same : x ≡ y = one_from_Distinct (λ link. link.used.id) (links_of exts branches cell) x y (forest.names cell fits) h.0 k.0 first in
      let P : Link → Type 0 = λ z. IsChainFrom (links_of exts branches) z.branch.child other in
      let rest : chain ≡ other = one_chain x.branch.child chain other (forest.fits cell x fits h.0) h.1 (subst P (sym same) k.1) (cc) in
      cc
