-- Tiles that are given plane by plane: a plane's tiles are a run of the list, and contacts are of tiles of one run.
use Rattle.flood_nodes.proofs.Common.{◌≡◌, ◌⊎◌, inl, inr, ℕ, ◌+◌, ◌-◌, ◌<◌, ◌≤◌, pos, Bool, cond, List, [], ◌++◌, map, length, get_or, sym, ◌∙◌, ap}
use Rattle.flood_nodes.proofs.Common.{subst, take, arith, All, AllPairs, cases_lt, ints, length-map, length-take, length-drop, get_or-map}
use Rattle.flood_nodes.proofs.Common.{get_or-take, get_or-drop, Rect, AreDisjoint, Lists, Lists-iff, Lists-map, Contact, shared_length, IsSharedEdge}
use Rattle.flood_nodes.proofs.Common.{rect_at, no_rect, LieApart, RegionTile, areas_of, shifted, no_tile, tile_at, shared_by, IsTileContact}
use Rattle.std.proofs.Common.{drop}
use Rattle.std.specs.List.{between}
use Rattle.std.specs.List.Sorted.{IsNonDecreasingBy}
use Rattle.std.proofs.lemmas.List.{get_or_default}
use Rattle.geo_core.proofs.FiniteSets.Listings.{Lists-append, Lists-none}
use Rattle.flood_nodes.specs.steps.Runs.{AddsContacts}
use Rattle.flood_nodes.proofs.ShareLaws.{one_plane, two_planes}

-- rectangles of tiles that lie apart
pub areas_apart : (tiles : List RegionTile) → AllPairs (λ a b. AreDisjoint a.area b.area) tiles → AllPairs AreDisjoint (areas_of tiles)
areas_apart tiles apart = λ i j d less within.
    let long = length-map tiles (λ (t : RegionTile). t.area) in
    let last : j < length tiles = omega (arith, long, within) in
    let first = get_or-map (λ (t : RegionTile). t.area) tiles i no_tile d (omega (arith, less, last)) in
    let second = get_or-map (λ (t : RegionTile). t.area) tiles j no_tile d last in
    subst (λ (a : Rect). AreDisjoint a (get_or (areas_of tiles) j d)) (sym first)
    (subst (λ (b : Rect). AreDisjoint (get_or tiles i no_tile).area b) (sym second) (apart i j no_tile less last))

-- tiles plane by plane, as searches ask for it
pub rising_planes : (tiles : List RegionTile) → AllPairs (λ a b. a.plane ≤ b.plane) tiles → IsNonDecreasingBy (λ tile. tile.plane) tiles
rising_planes tiles by_plane = λ i j d before within. elim (cases_lt i j) [
  | inl less ↦ by_plane i j d less within
  | inr ge ↦ (let same : i ≡ j = omega (arith, before, ge) in subst (λ (k : ℕ). (get_or tiles i d).plane ≤ (get_or tiles k d).plane) same (omega arith))
]

-- Of the tiles before a place, which are those of the planes before this one, the contacts are found.
pub record HasShared (tiles : List RegionTile) (plane start : ℕ) (contacts : List Contact) : Type 0 where
  pub within : start ≤ length tiles
  pub before : (k : ℕ) → k < start → (tile_at tiles k).plane < plane
  pub after : (k : ℕ) → start ≤ k → k < length tiles → plane ≤ (tile_at tiles k).plane
  pub listed : Lists (λ contact. IsTileContact tiles contact × (contact.second < start)) contacts

-- a run of a list
module _ (tiles : List RegionTile) (start end : ℕ) (ordered : start ≤ end) (within : end ≤ length tiles) where
  pub run_long : length (between start end tiles) ≡ end - start
  run_long = let t = length-take (end - start) (drop start tiles) in let d = length-drop start tiles in omega (arith, t, d, ordered, within)

  pub run_at : (k : ℕ) (d : RegionTile) → k < end - start → get_or (between start end tiles) k d ≡ get_or tiles (start + k) d
  run_at k d below = get_or-take (end - start) (drop start tiles) k d below ∙ get_or-drop start tiles k d

  pub run_all : (P : RegionTile → Type 0) → All P tiles → All P (between start end tiles)
  run_all P all = λ k d below.
      let inside : k < end - start = (let long = run_long in omega (arith, long, below)) in
      subst P (sym (run_at k d inside)) (all (start + k) d (omega (arith, inside, ordered, within)))

-- the tiles of the next plane are a run
module _ (tiles : List RegionTile) (plane start end : ℕ) (contacts : List Contact) (had : HasShared tiles plane start contacts) (within : end ≤ length tiles)
    (below : All (λ tile. tile.plane ≤ plane) (take end tiles)) (above : All (λ tile. plane < tile.plane) (drop end tiles)) where
  at_most : (k : ℕ) → k < end → (tile_at tiles k).plane ≤ plane
  at_most k less =
      subst (λ (t : RegionTile). t.plane ≤ plane) (get_or-take end tiles k no_tile less) (below k no_tile (let t = length-take end tiles in omega (
        arith,
        t,
        less,
        within,
      )))

  over : (k : ℕ) → end ≤ k → k < length tiles → plane < (tile_at tiles k).plane
  over k past last =
      let i = k - end in
      let at : end + i ≡ k = omega (arith, past) in
      subst (λ (t : RegionTile). plane < t.plane) (get_or-drop end tiles i no_tile ∙ ap (λ (m : ℕ). get_or tiles m no_tile) at)
      (above i no_tile (let d = length-drop end tiles in omega (arith, d, past, last)))

  pub run_ordered : start ≤ end
  run_ordered = elim (cases_lt end start) [
    | inl less ↦ absurd (let b = had.before end less in let w = had.within in let o = over end (omega arith) (omega (arith, less, w)) in omega (arith, b, o))
    | inr ge ↦ ge
  ]

  abbrev run : List RegionTile
  run = between start end tiles

  on_plane : (k : ℕ) → start ≤ k → k < end → (tile_at tiles k).plane ≡ plane
  on_plane k from less = let low = had.after k from (omega (arith, less, within)) in let high = at_most k less in omega (arith, low, high)

  pub run_apart : AllPairs LieApart tiles → AllPairs (λ a b. AreDisjoint a.area b.area) run
  run_apart apart = λ i j d less last.
      let long = run_long tiles start end run_ordered within in
      let ordered = run_ordered in
      let j_in : j < end - start = omega (arith, last, long) in
      let i_in : i < end - start = omega (arith, less, j_in) in
      let first = run_at tiles start end ordered within i d i_in in
      let second = run_at tiles start end ordered within j d j_in in
      let plane_at = λ (k : ℕ) (from : start ≤ k) (to : k < end). ap (λ (t : RegionTile). t.plane) (get_or_same tiles k d (omega (arith, to, within)))
      ∙ on_plane k from to in
      let same = plane_at (start + i) (omega arith) (omega (arith, i_in)) ∙ sym (plane_at (start + j) (omega arith) (omega (arith, j_in))) in
      subst (λ (a : RegionTile). AreDisjoint a.area (get_or run j d).area) (sym first)
      (subst (λ (b : RegionTile). AreDisjoint (get_or tiles (start + i) d).area b.area) (sym second)
      (apart (start + i) (start + j) d (omega (arith, less)) (omega (arith, j_in, within)) same))
    where
      get_or_same : (xs : List RegionTile) (k : ℕ) (d : RegionTile) → k < length xs → get_or xs k d ≡ tile_at xs k
      get_or_same xs k d inside = get_or_default xs k d no_tile inside

  run_area : (k : ℕ) → k < end - start → rect_at (areas_of run) k ≡ (tile_at tiles (start + k)).area
  run_area k inside =
      let long = run_long tiles start end run_ordered within in
      get_or-map (λ (t : RegionTile). t.area) run k no_tile no_rect (omega (arith, long, inside))
      ∙ ap (λ (t : RegionTile). t.area) (run_at tiles start end run_ordered within k no_tile inside)

  -- what tiles of the run share is what their rectangles share
  run_shares : (i j : ℕ) → i < end - start → j < end - start
      → shared_by (tile_at tiles (i + start)) (tile_at tiles (j + start)) ≡ shared_length (rect_at (areas_of run) i) (rect_at (areas_of run) j)
  run_shares i j p q =
      let first : start + i ≡ i + start = omega arith in
      let second : start + j ≡ j + start = omega arith in
      let a = tile_at tiles (i + start) in
      let b = tile_at tiles (j + start) in
      ap (λ (t : Bool). cond t (shared_length a.area b.area) (pos 0))
      (one_plane a.plane b.plane (on_plane (i + start) (omega arith) (omega (arith, p)) ∙ sym (on_plane (j + start) (omega arith) (omega (arith, q)))))
      ∙ ap (λ (m : ℕ). shared_length (tile_at tiles m).area b.area) (sym first) ∙ ap (λ (m : ℕ). shared_length (tile_at tiles (start + i)).area (tile_at tiles
      m).area) (sym second)
      ∙ ap (λ (r : Rect). shared_length r (tile_at tiles (start + j)).area) (sym (run_area i p))
      ∙ ap (λ (r : Rect). shared_length (rect_at (areas_of run) i) r) (sym (run_area j q))

  -- tiles of two planes share nothing
  share_none : (i j : ℕ) → i < start → start ≤ j → j < length tiles → shared_by (tile_at tiles i) (tile_at tiles j) ≡ pos 0
  share_none i j first past last =
      let low = had.before i first in
      let high = had.after j past last in
      ap (λ (t : Bool). cond t (shared_length (tile_at tiles i).area (tile_at tiles j).area) (pos 0))
      (two_planes (tile_at tiles i).plane (tile_at tiles j).plane (λ same. omega (arith, low, high, same)))

  -- a contact of the run
  abbrev IsOfRun : Contact → Type 0
  IsOfRun contact = (c : Contact) × (IsSharedEdge (areas_of run) c × (shifted start c ≡ contact))

  areas_long : length (areas_of run) ≡ end - start
  areas_long = length-map run (λ (t : RegionTile). t.area) ∙ run_long tiles start end run_ordered within

  run_contact : (c : Contact) → IsSharedEdge (areas_of run) c → IsTileContact tiles (shifted start c) × ((shifted start c).second < end)
  run_contact c is =
      let order = is.in_order in let last = is.in_list in let long = areas_long in
      let second : c.second < end - start = omega (arith, last, long) in (
        record {
          in_order = omega (arith, order);
          in_list = omega (arith, second, within);
          length_is = is.length_is ∙ sym (run_shares c.first c.second (omega (arith, order, second)) second);
          not_none = is.not_none;
        },
        omega (arith, second),
      )

  contact_of_run : (c : Contact) → IsTileContact tiles c → c.second < end → start ≤ c.first → IsOfRun c
  contact_of_run c is to from =
      let order = is.in_order in let long = areas_long in
      let i = c.first - start in
      let j = c.second - start in
      let first : i + start ≡ c.first = omega (arith, from) in
      let second : j + start ≡ c.second = omega (arith, from, order) in
      let j_in : j < end - start = omega (arith, from, order, to) in
      let i_in : i < end - start = omega (arith, from, order, to) in
      let length_is = is.length_is ∙ ap (λ (m : ℕ). shared_by (tile_at tiles m) (tile_at tiles c.second)) (sym first)
      ∙ ap (λ (m : ℕ). shared_by (tile_at tiles (i + start)) (tile_at tiles m)) (sym second) ∙ run_shares i j i_in j_in in (
        record { first = i; second = j; length = c.length },
        (
          record { in_order = omega (arith, from, order); in_list = omega (arith, j_in, long); length_is = length_is; not_none = is.not_none },
          (λ k. record { first = first k; second = second k; length = c.length }),
        ),
      )

  split_contact : (c : Contact) → IsTileContact tiles c × (c.second < end) → (IsTileContact tiles c × (c.second < start)) ⊎ IsOfRun c
  split_contact c is = elim (cases_lt c.second start) [
    | inl low ↦ inl (is.0, low)
    | inr high ↦ (elim (cases_lt c.first start) [
      | inl first ↦ absurd (let none = share_none c.first c.second first high is.0.in_list in let some = is.0.not_none in let e = is.0.length_is in
          omega (arith, ints, none, some, e))
      | inr past ↦ inr (contact_of_run c is.0 is.1 past)
    ])
  ]

  same_shift : (a b : Contact) → shifted start a ≡ shifted start b → a ≡ b
  same_shift a b e =
      let f : a.first + start ≡ b.first + start = ap (λ (c : Contact). c.first) e in
      let g : a.second + start ≡ b.second + start = ap (λ (c : Contact). c.second) e in
      let first : a.first ≡ b.first = omega (arith, f) in
      let second : a.second ≡ b.second = omega (arith, g) in
      λ k. record { first = first k; second = second k; length = (e k).length }

  -- the contacts of one plane more are found
  pub shared_more : (new : List Contact) → AddsContacts run start contacts new → HasShared tiles (plane + 1) end new
  shared_more new adds = record {
    within = within;
    before = λ k less. let most = at_most k less in omega (arith, most);
    after = λ k past last. let more = over k past last in omega (arith, more);
    listed = subst (Lists (λ (c : Contact). IsTileContact tiles c × (c.second < end))) (sym adds.shared)
        (Lists-iff (λ (c : Contact). (IsTileContact tiles c × (c.second < start)) ⊎ IsOfRun c) (λ (c : Contact). IsTileContact tiles c × (c.second < end))
        (contacts ++ map (shifted start) adds.contacts)
        (λ c h. elim h [
          | inl old ↦ (old.0, (let less = old.1 in let ordered = run_ordered in omega (arith, less, ordered)))
          | inr own ↦ subst (λ (v : Contact). IsTileContact tiles v × (v.second < end)) own.1.1 (run_contact own.0 own.1.0)
        ]) split_contact
        (Lists-append (λ (c : Contact). IsTileContact tiles c × (c.second < start)) IsOfRun contacts (map (shifted start) adds.contacts)
        (λ c old own. let less = old.1 in let is : own.0.second + start ≡ c.second = ap (λ (v : Contact). v.second) own.1.1 in omega (arith, less, is))
        had.listed (Lists-map (IsSharedEdge (areas_of run)) (shifted start) adds.contacts (λ a b p q e. same_shift a b e) adds.touching)));
  }

-- nothing is found at first
pub shared_none : (tiles : List RegionTile) (contacts : List Contact) → contacts ≡ [] → HasShared tiles 0 0 contacts
shared_none tiles contacts none = record {
  within = omega arith;
  before = λ k less. absurd (omega (arith, less));
  after = λ k from last. omega arith;
  listed = subst (Lists (λ (c : Contact). IsTileContact tiles c × (c.second < 0))) (sym none)
      (Lists-none (λ (c : Contact). IsTileContact tiles c × (c.second < 0)) (λ c is. let less = is.1 in omega (arith, less)));
}

-- once no tile is of a later plane, the contacts are those of all tiles
pub shared_all : (tiles : List RegionTile) (plane planes start : ℕ) (contacts : List Contact) → All (λ tile. tile.plane < planes) tiles → planes ≤ plane
    → HasShared tiles plane start contacts → Lists (IsTileContact tiles) contacts
shared_all tiles plane planes start contacts most past has =
    Lists-iff (λ (c : Contact). IsTileContact tiles c × (c.second < start)) (IsTileContact tiles) contacts (λ c is. is.0)
    (λ c is. (is, (let all = reached in let last = is.in_list in omega (arith, all, last)))) has.listed
  where
    reached : length tiles ≤ start
    reached = elim (cases_lt start (length tiles)) [
      | inl less ↦ absurd (let here = most start no_tile less in let over = has.after start (omega arith) less in omega (arith, here, over, past))
      | inr ge ↦ ge
    ]
