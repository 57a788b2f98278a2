-- How the list of elements grows, and that there is room for it.
use Rattle.element_tree.proofs.Common.{◌≡◌, ℕ, zero, suc, ◌<◌, ◌≤◌, ◌+◌, ◌-◌, Some, List, [], ◌∷◌, ◌++◌, length, get_or, map, take, inl, inr, refl}
use Rattle.element_tree.proofs.Common.{sym, ◌∙◌, ap, arith, append_assoc, sum_by, flat_map, slice_get, append-nil, get_or_read, take_more}
use Rattle.element_tree.proofs.Common.{map-append, sum_by-cons, slice_get_read, slice_get-get_or, get_or_from_slice_get, slice_get_within, In}
use Rattle.element_tree.proofs.Common.{In-slice_get, UseRec, CellExt, Branch, TreeElement, branches_of, Link, links_from, flats_below, value_at}
use Rattle.element_tree.proofs.Common.{AreInSteps, HasRoom}
use Rattle.std.proofs.lemmas.List.{take_all, flat_map_more}
use Rattle.circuit_model.specs.Elements.{of_option, transform_of}
use Rattle.element_tree.specs.steps.Links.{links_of, chains_below, flat_below, flat_along}
use Rattle.element_tree.proofs.Transforms.{placement_moves, composed_moves}
use Rattle.element_tree.proofs.Ranks.{rank_step-size}

-- the links of a record that there is
pub links_of-found : (exts : List CellExt) (branches : List (List Branch)) (cell : ℕ) (ext : CellExt) → slice_get exts cell ≡ Some ext
    → links_of exts branches cell ≡ links_from 0 ext.uses (branches_of branches cell)
unfolding links_of
links_of-found exts branches cell ext h = ap (of_option (λ (e : CellExt). links_from 0 e.uses (branches_of branches cell))) h

-- the link at a place
pub link_at : (start : ℕ) (uses : List UseRec) (row : List Branch) (k j : ℕ) (used : UseRec) (branch : Branch) → slice_get uses k ≡ Some used
    → slice_get row k ≡ Some branch → j ≡ start + k → slice_get (links_from start uses row) k ≡ Some (record { at = j; used = used; branch = branch })
link_at start [] row k j used branch h g e = cc
link_at start (u ∷ uses) [] k j used branch h g e = cc
link_at start (u ∷ uses) (b ∷ row) zero j used branch h g e =
    let same_use : u ≡ used = cc in
    let same_branch : b ≡ branch = cc in
    let same_place : start ≡ j = omega (arith, e) in
    cc
link_at start (u ∷ uses) (b ∷ row) (suc k) j used branch h g e = link_at (suc start) uses row k j used branch h g (omega (arith, e))

pub length-links_from : (start : ℕ) (uses : List UseRec) (row : List Branch) → length row ≡ length uses → length (links_from start uses row) ≡ length row
length-links_from start [] [] e = refl
length-links_from start [] (b ∷ row) e = absurd (omega (arith, e))
length-links_from start (u ∷ uses) [] e = absurd (omega (arith, e))
length-links_from start (u ∷ uses) (b ∷ row) e = let more = length-links_from (suc start) uses row (omega (arith, e)) in omega arith

-- what an element at a link adds
abbrev pub behind_link : List CellExt → List (List Branch) → ℕ → ℕ → TreeElement → Link → List TreeElement
behind_link exts branches levels number flat link =
    flats_below levels (links_of exts branches) (number + link.branch.step) (flat_below number flat link)

-- what an element and its first so many links add
abbrev pub added : List CellExt → List (List Branch) → ℕ → ℕ → TreeElement → ℕ → List TreeElement → List TreeElement
added exts branches levels number flat count old =
    (old ++ flat ∷ []) ++ flat_map (behind_link exts branches levels number flat) (take count (links_of exts branches flat.cell))

-- an image of chains that begin with links, link by link
pub map-chains : {X : Type 0} (f : List Link → X) (of : Link → List (List Link)) (links : List Link)
    → map f (flat_map (λ link. map (λ chain. link ∷ chain) (of link)) links) ≡ flat_map (λ link. map (λ chain. f (link ∷ chain)) (of link)) links
map-chains f of [] = refl
map-chains f of (link ∷ links) =
    map-append f (map (λ chain. link ∷ chain) (of link)) (flat_map (λ z. map (λ chain. z ∷ chain) (of z)) links)
    ∙ ap (λ z. z ++ map f (flat_map (λ z. map (λ chain. z ∷ chain) (of z)) links)) (twice (of link))
    ∙ ap (λ z. map (λ chain. f (link ∷ chain)) (of link) ++ z) (map-chains f of links)
  where
    twice : (chains : List (List Link)) → map f (map (λ chain. link ∷ chain) chains) ≡ map (λ chain. f (link ∷ chain)) chains
    twice [] = refl
    twice (c ∷ chains) = ap (λ z. f (link ∷ c) ∷ z) (twice chains)

-- an element and what is at its links are all that is at or below it
pub flats_below-suc : (exts : List CellExt) (branches : List (List Branch)) (levels number : ℕ) (flat : TreeElement)
    → flats_below (suc levels) (links_of exts branches) number flat
    ≡ flat ∷ flat_map (behind_link exts branches levels number flat) (links_of exts branches flat.cell)
unfolding chains_below
flats_below-suc exts branches levels number flat =
    let links = links_of exts branches in
    ap (λ z. flat ∷ z) (map-chains (flat_along number flat) (λ link. chains_below levels links link.branch.child) (links flat.cell))

-- one more link
pub added_more : (exts : List CellExt) (branches : List (List Branch)) (levels number : ℕ) (flat : TreeElement) (at : ℕ) (link : Link)
    (old now new : List TreeElement)
    → slice_get (links_of exts branches flat.cell) at ≡ Some link → now ≡ added exts branches levels number flat at old
    → new ≡ now ++ behind_link exts branches levels number flat link → new ≡ added exts branches levels number flat (at + 1) old
added_more exts branches levels number flat at link old now new h before after =
    let links = links_of exts branches flat.cell in
    let within = slice_get_within links at link h in
    let taken : take (at + 1) links ≡ take at links ++ link ∷ [] =
    take_more links at link within ∙ ap (λ z. take at links ++ z ∷ []) (get_or_from_slice_get links at link link h) in
    after ∙ ap (λ z. z ++ behind_link exts branches levels number flat link) before
    ∙ flat_map_more (behind_link exts branches levels number flat) (old ++ flat ∷ []) (take at links) link
    ∙ ap (λ z. (old ++ flat ∷ []) ++ flat_map (behind_link exts branches levels number flat) z) (sym taken)

-- all links
pub added_all : (exts : List CellExt) (branches : List (List Branch)) (levels number : ℕ) (flat : TreeElement) (at : ℕ) (old now : List TreeElement)
    → 0 < levels
    → length (links_of exts branches flat.cell) ≤ at → now ≡ added exts branches (levels - 1) number flat at old
    → now ≡ old ++ flats_below levels (links_of exts branches) number flat
added_all exts branches levels number flat at old now some all h =
    let links = links_of exts branches flat.cell in
    let up : suc (levels - 1) ≡ levels = omega arith in
    h ∙ ap (λ z. (old ++ flat ∷ []) ++ flat_map (behind_link exts branches (levels - 1) number flat) z) (take_all at links all)
    ∙ append_assoc old (flat ∷ []) (flat_map (behind_link exts branches (levels - 1) number flat) links)
    ∙ ap (λ z. old ++ z) (sym (flats_below-suc exts branches (levels - 1) number flat))
    ∙ ap (λ n. old ++ flats_below n (links_of exts branches) number flat) up

pub added_none : (exts : List CellExt) (branches : List (List Branch)) (levels number : ℕ) (flat : TreeElement) (old : List TreeElement) → levels ≡ 0
    → old ≡ old ++ flats_below levels (links_of exts branches) number flat
unfolding chains_below
added_none exts branches levels number flat old e = sym (append-nil old) ∙ ap (λ n. old ++ flats_below n (links_of exts branches) number flat) (sym e)

-- the elements at or below a link stand before the end
step-size : (size : ℕ → ℕ) (start : ℕ) (links : List Link) (link : Link) → AreInSteps size start links → In link links
    → link.branch.step + size link.branch.child ≤ start + sum_by (λ z. size z.branch.child) links
step-size size start [] link steps h = absurd h
step-size size start (other ∷ links) link steps (inl e) =
    let same : other.branch.step + size other.branch.child ≡ link.branch.step + size link.branch.child = ap
    (λ (z : Link). z.branch.step + size z.branch.child) e in
    omega (arith, steps.0, sum_by-cons (λ (z : Link). size z.branch.child) other links)
step-size size start (other ∷ links) link steps (inr h) =
    let more = step-size size (start + size other.branch.child) links link steps.1 h in
    omega (arith, sum_by-cons (λ (z : Link). size z.branch.child) other links)

-- the numbers at a link are within those of the element
pub room_step : (exts : List CellExt) (branches : List (List Branch)) (levels number : ℕ) (flat : TreeElement) (room : HasRoom exts branches levels number flat)
    (link : Link) → In link (links_of exts branches flat.cell)
    → number + link.branch.step + value_at room.sizes link.branch.child ≤ number + value_at room.sizes flat.cell
room_step exts branches levels number flat room link h =
    let last = step-size (value_at room.sizes) 1 (links_of exts branches flat.cell) link (room.forest.steps flat.cell room.fits) h in
    let whole = room.forest.sized flat.cell room.fits in
    omega arith

-- and so are the ranks
pub room_rank : (exts : List CellExt) (branches : List (List Branch)) (levels number : ℕ) (flat : TreeElement) (room : HasRoom exts branches levels number flat)
    (link : Link) → In link (links_of exts branches flat.cell) → link.branch.rank_step + value_at room.sizes link.branch.child ≤ value_at room.sizes flat.cell
room_rank exts branches levels number flat room link h =
    rank_step-size exts branches room.order room.sizes room.length_of room.forest flat.cell link room.fits h

-- there is room for the element at a link
pub room_below : (exts : List CellExt) (branches : List (List Branch)) (levels number : ℕ) (flat : TreeElement) → HasRoom exts branches levels number flat
    → 0 < levels → (link : Link) → In link (links_of exts branches flat.cell)
    → HasRoom exts branches (levels - 1) (number + link.branch.step) (flat_below number flat link)
room_below exts branches levels number flat room some link h =
    let step = room_step exts branches levels number flat room link h in
    let rank = room_rank exts branches levels number flat room link h in
    record {
      order = room.order;
      sizes = room.sizes;
      length_of = room.length_of;
      forest = room.forest;
      fits = room.forest.fits flat.cell link room.fits h;
      numbers = omega (arith, room.numbers);
      ranks = omega (arith, room.ranks);
      deep = omega (arith, room.deep);
      moves = composed_moves (transform_of link.used.six) flat.to_root flat.depth
          (placement_moves link.used.six (room.forest.placed flat.cell link room.fits h)) room.moves;
    }

-- The uses and the branches are those of the element's record.
pub record IsRow (exts : List CellExt) (branches : List (List Branch)) (cell : ℕ) (uses : List UseRec) (row : List Branch) : Type 0 where
  pub ext : CellExt
  pub found : slice_get exts cell ≡ Some ext
  pub same_uses : uses ≡ ext.uses
  pub same_row : row ≡ branches_of branches cell

-- they are as many
pub row_long : (exts : List CellExt) (branches : List (List Branch)) (levels number : ℕ) (flat : TreeElement) (uses : List UseRec) (row : List Branch)
    → HasRoom exts branches levels number flat → IsRow exts branches flat.cell uses row → length row ≡ length uses
row_long exts branches levels number flat uses row room is =
    ap length is.same_row ∙ room.forest.paired flat.cell is.ext room.fits is.found ∙ ap length (sym is.same_uses)

links_same : (exts : List CellExt) (branches : List (List Branch)) (cell : ℕ) (uses : List UseRec) (row : List Branch) → IsRow exts branches cell uses row
    → links_of exts branches cell ≡ links_from 0 uses row
links_same exts branches cell uses row is =
    links_of-found exts branches cell is.ext is.found ∙ ap (links_from 0 is.ext.uses) (sym is.same_row) ∙ ap (λ z. links_from 0 z row) (sym is.same_uses)

-- and the links too
pub length-row : (exts : List CellExt) (branches : List (List Branch)) (levels number : ℕ) (flat : TreeElement) (uses : List UseRec) (row : List Branch)
    → HasRoom exts branches levels number flat → IsRow exts branches flat.cell uses row → length (links_of exts branches flat.cell) ≡ length row
length-row exts branches levels number flat uses row room is =
    ap length (links_same exts branches flat.cell uses row is) ∙ length-links_from 0 uses row (row_long exts branches levels number flat uses row room is)

-- the link of a use and its branch
pub row_link : (exts : List CellExt) (branches : List (List Branch)) (cell : ℕ) (uses : List UseRec) (row : List Branch) (at : ℕ) (used : UseRec)
    (none : Branch)
    → IsRow exts branches cell uses row → at < length uses → at < length row → used ≡ get_or uses at used
    → slice_get (links_of exts branches cell) at ≡ Some (record { at = at; used = used; branch = get_or row at none })
row_link exts branches cell uses row at used none is fits_use fits e =
    ap (λ z. slice_get z at) (links_same exts branches cell uses row is)
    ∙ link_at 0 uses row at at used (get_or row at none) (slice_get_read uses (length uses) at used refl fits_use e) (slice_get-get_or row at none fits)
    (omega arith)

-- what the code reads of them
pub row_read : (exts : List CellExt) (branches : List (List Branch)) (levels number : ℕ) (flat : TreeElement) (ext : CellExt) (stored : List Branch)
    (uses : List UseRec) (row : List Branch) → HasRoom exts branches levels number flat → ext ≡ get_or exts flat.cell ext
    → uses ≡ (get_or exts flat.cell ext).uses → stored ≡ get_or branches flat.cell stored → row ≡ stored → IsRow exts branches flat.cell uses row
row_read exts branches levels number flat ext stored uses row room e same_uses s same_row =
    let within = room.forest.within flat.cell room.fits in
    let long = room.forest.long in
    record {
      ext = ext;
      found = slice_get_read exts (length exts) flat.cell ext refl within e;
      same_uses = same_uses ∙ ap (λ (z : CellExt). z.uses) (sym e);
      same_row = same_row ∙ get_or_read branches flat.cell stored (omega arith) s [];
    }

-- the link at which a loop over the branches is, by its number
pub link_read : (exts : List CellExt) (branches : List (List Branch)) (levels number : ℕ) (flat : TreeElement) (ext : CellExt) (stored : List Branch)
    (uses : List UseRec) (row : List Branch) (at : ℕ) (used : UseRec) → HasRoom exts branches levels number flat → ext ≡ get_or exts flat.cell ext
    → uses ≡ (get_or exts flat.cell ext).uses → stored ≡ get_or branches flat.cell stored → row ≡ stored → at < length row → used ≡ get_or uses at used
    → (none : Branch) → slice_get (links_of exts branches flat.cell) at ≡ Some (record { at = at; used = used; branch = get_or row at none })
link_read exts branches levels number flat ext stored uses row at used room e same_uses s same_row fits u none =
    let is = row_read exts branches levels number flat ext stored uses row room e same_uses s same_row in
    let long = row_long exts branches levels number flat uses row room is in
    row_link exts branches flat.cell uses row at used none is (omega arith) fits u

-- and among the links of the record
pub link_in : (exts : List CellExt) (branches : List (List Branch)) (levels number : ℕ) (flat : TreeElement) (ext : CellExt) (stored : List Branch)
    (uses : List UseRec) (row : List Branch) (at : ℕ) (used : UseRec) → HasRoom exts branches levels number flat → ext ≡ get_or exts flat.cell ext
    → uses ≡ (get_or exts flat.cell ext).uses → stored ≡ get_or branches flat.cell stored → row ≡ stored → at < length row → used ≡ get_or uses at used
    → (none : Branch) → In (record { at = at; used = used; branch = get_or row at none }) (links_of exts branches flat.cell)
link_in exts branches levels number flat ext stored uses row at used room e same_uses s same_row fits u none =
    In-slice_get (links_of exts branches flat.cell) at (record { at = at; used = used; branch = get_or row at none })
    (link_read exts branches levels number flat ext stored uses row at used room e same_uses s same_row fits u none)
