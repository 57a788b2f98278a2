-- The parts of a length, summed, are the edges from a channel to a terminal.
use Rattle.fet_regions.proofs.Common.{◌≡◌, ◌⊎◌, ℕ, ◌<◌, ℤ, pos, ◌+ℤ◌, ◌*ℤ◌, Bool, true, false, cond, eqb, ◌&&◌, ◌||◌, List, [], ◌∷◌, ◌++◌, length}
use Rattle.fet_regions.proofs.Common.{inl, inr, refl, sym, ◌∙◌, ap, subst, arith, slice_index, Some, None, list_any, false≢true, cases_Bool}
use Rattle.fet_regions.proofs.Common.{and_parts, ints, In, sum_on, one_if, Contact, RawTech, is_terminal, RegionTile, tile_at, indices_of}
use Rattle.fet_regions.proofs.Common.{edges_by_contacts, same_from_test, parts_beside, parts_of, is_part_of, part_in, summed, Part}
use Rattle.std.proofs.Common.{◌<ℤ◌, ◌≤ℤ◌}
use Rattle.std.proofs.lemmas.Option.{same_Some}
use Rattle.finite_sets.proofs.Members.{In-append_cases}
use Rattle.finite_sets.proofs.Searches.{list_any-In}
use Rattle.finite_sets.proofs.Sums.{sum_on-append, sum_on-nothing}
use Rattle.flood_nodes.specs.TileShares.{inner_edges}
use Rattle.fet_regions.proofs.ChannelLaws.{is_of_channel, is_terminal_of}

-- what one side of a contact counts
one_side : (t u l g : Bool) (v : ℤ) → (l ≡ true → t ≡ u) → cond t (cond (l && g) v (pos 0) +ℤ pos 0) (pos 0) ≡ one_if (l && (u && g)) *ℤ v
one_side true true true true v h = omega (arith, ints)
one_side true true true false v h = omega (arith, ints)
one_side true false true g v h = absurd (false≢true (sym (h refl)))
one_side true u false g v h = omega (arith, ints)
one_side false true true g v h = absurd (false≢true (h refl))
one_side false false true g v h = omega (arith, ints)
one_side false u false g v h = omega (arith, ints)

sum_on-if : (key : ℕ × ℕ) (t : Bool) (p : Part) → sum_on (part_in key) (cond t (p ∷ []) []) ≡ cond t (part_in key p +ℤ pos 0) (pos 0)
sum_on-if key true p = refl
sum_on-if key false p = refl

together : (p q : Bool) (v r : ℤ) → ((one_if p *ℤ v) +ℤ (one_if q *ℤ v)) +ℤ r ≡ ((one_if p +ℤ one_if q) *ℤ v) +ℤ r
together true true v r = omega (arith, ints)
together true false v r = omega (arith, ints)
together false true v r = omega (arith, ints)
together false false v r = omega (arith, ints)

none_of : (p q r : Bool) → (p ≡ true → q ≡ false) → (p && (q && r)) ≡ false
none_of true q r h = ap (λ (t : Bool). t && r) (h refl)
none_of false q r h = refl

module _ (raw : RawTech) (tiles : List RegionTile) (labels : List ℕ) (kind label region : ℕ) (apart : is_terminal raw kind kind ≡ false)
    (of_label : (i : ℕ) → i < length tiles → eqb (slice_index labels i) label ≡ is_of_channel tiles labels kind label i) where
  abbrev from : ℕ → Bool
  from = is_of_channel tiles labels kind label

  abbrev to : ℕ → Bool
  to = is_terminal_of raw tiles kind region

  abbrev key : ℕ × ℕ
  key = (label, region)

  from_kind : (i : ℕ) → from i ≡ true → (tile_at tiles i).kind.0 ≡ kind
  from_kind i e = same_from_test (tile_at tiles i).kind.0 kind (and_parts (eqb (tile_at tiles i).kind.0 kind) (eqb (slice_index labels i) label) e).0

  -- no tile of the channel is a terminal
  never_both : (i : ℕ) → (from i && to i) ≡ false
  never_both i = none_of (from i) (is_terminal raw kind (tile_at tiles i).kind.0) (eqb (tile_at tiles i).region region)
      (λ e. ap (is_terminal raw kind) (from_kind i e) ∙ apart)

  no_inner : sum_on (λ (i : ℕ). one_if (from i && to i) *ℤ inner_edges (tile_at tiles i).area) (indices_of tiles) ≡ pos 0
  no_inner = sum_on-nothing (λ (i : ℕ). one_if (from i && to i) *ℤ inner_edges (tile_at tiles i).area) (indices_of tiles)
      (λ i among. ap (λ (t : Bool). one_if t *ℤ inner_edges (tile_at tiles i).area) (never_both i) ∙ zero_times (inner_edges (tile_at tiles i).area))
    where
      zero_times : (v : ℤ) → pos 0 *ℤ v ≡ pos 0
      zero_times v = omega (arith, ints)

  beside_sum : (i j : ℕ) (v : ℤ) → i < length tiles
      → sum_on (part_in key) (parts_beside (is_terminal raw) tiles labels i j v) ≡ one_if (from i && to j) *ℤ v
  beside_sum i j v within =
      let t = is_terminal raw (tile_at tiles i).kind.0 (tile_at tiles j).kind.0 in
      let u = is_terminal raw kind (tile_at tiles j).kind.0 in
      let g = eqb (tile_at tiles j).region region in
      let is = of_label i within in
      sum_on-if key t (record { label = slice_index labels i; region = (tile_at tiles j).region; length = v })
      ∙ (λ k. cond t (cond (is k && g) v (pos 0) +ℤ pos 0) (pos 0))
      ∙ one_side t u (from i) g v (λ e. ap (λ (m : ℕ). is_terminal raw m (tile_at tiles j).kind.0) (from_kind i e))

  abbrev across : Contact → ℤ
  across c = (one_if (from c.first && to c.second) +ℤ one_if (from c.second && to c.first)) *ℤ c.length

  parts_sum : (contacts : List Contact) → ((c : Contact) → In c contacts → (c.first < length tiles) × (c.second < length tiles))
      → sum_on (part_in key) (parts_of (is_terminal raw) tiles labels contacts) ≡ sum_on across contacts
  parts_sum [] within = refl
  parts_sum (c ∷ cs) within =
      let inside = within c (inl refl) in
      let first = parts_beside (is_terminal raw) tiles labels c.first c.second c.length in
      let second = parts_beside (is_terminal raw) tiles labels c.second c.first c.length in
      let others = parts_of (is_terminal raw) tiles labels cs in
      sum_on-append (part_in key) (first ++ second) others
      ∙ (λ k. sum_on-append (part_in key) first second k +ℤ parts_sum cs (λ d i. within d (inr i)) k)
      ∙ (λ k. (beside_sum c.first c.second c.length inside.0 k +ℤ beside_sum c.second c.first c.length inside.1 k) +ℤ sum_on across cs)
      ∙ together (from c.first && to c.second) (from c.second && to c.first) c.length (sum_on across cs)

  -- the sum of the parts is the number of edges
  pub length_sum : (contacts : List Contact) → ((c : Contact) → In c contacts → (c.first < length tiles) × (c.second < length tiles))
      → sum_on (part_in key) (parts_of (is_terminal raw) tiles labels contacts) ≡ edges_by_contacts tiles contacts from to
  length_sum contacts within = parts_sum contacts within ∙ plus (sum_on across contacts) ∙ (λ k. sym no_inner k +ℤ sum_on across contacts)
    where
      plus : (v : ℤ) → v ≡ pos 0 +ℤ v
      plus v = omega (arith, ints)

abbrev HaveLength : List Part → Type 0
HaveLength parts = (p : Part) → In p parts → pos 0 <ℤ p.length

have_length_beside : (test : ℕ → ℕ → Bool) (tiles : List RegionTile) (labels : List ℕ) (i j : ℕ) (v : ℤ) → pos 0 <ℤ v
    → HaveLength (parts_beside test tiles labels i j v)
have_length_beside test tiles labels i j v some = gate (test (tile_at tiles i).kind.0 (tile_at tiles j).kind.0)
  where
    gate : (t : Bool) → HaveLength (cond t (record { label = slice_index labels i; region = (tile_at tiles j).region; length = v } ∷ []) [])
    gate true p (inl e) = subst (λ (q : Part). pos 0 <ℤ q.length) e some
    gate true p (inr i) = absurd i
    gate false p i = absurd i

-- each part has a length
pub have_length : (test : ℕ → ℕ → Bool) (tiles : List RegionTile) (labels : List ℕ) (contacts : List Contact)
    → ((c : Contact) → In c contacts → pos 0 <ℤ c.length) → HaveLength (parts_of test tiles labels contacts)
have_length test tiles labels [] some p i = absurd i
have_length test tiles labels (c ∷ cs) some p i =
    let first = parts_beside test tiles labels c.first c.second c.length in
    let second = parts_beside test tiles labels c.second c.first c.length in
    elim (In-append_cases p (first ++ second) (parts_of test tiles labels cs) i) [
      | inr j ↦ have_length test tiles labels cs (λ d k. some d (inr k)) p j
      | inl j ↦ (elim (In-append_cases p first second j) [
        | inl k ↦ have_length_beside test tiles labels c.first c.second c.length (some c (inl refl)) p k
        | inr k ↦ have_length_beside test tiles labels c.second c.first c.length (some c (inl refl)) p k
      ])
    ]

sum_not_negative : (key : ℕ × ℕ) (parts : List Part) → HaveLength parts → pos 0 ≤ℤ sum_on (part_in key) parts
sum_not_negative key [] have = omega (arith, ints)
sum_not_negative key (p ∷ ps) have =
    let rest = sum_not_negative key ps (λ q i. have q (inr i)) in
    add_up (is_part_of key p) p.length (sum_on (part_in key) ps) (have p (inl refl)) rest
  where
    add_up : (t : Bool) (v r : ℤ) → pos 0 <ℤ v → pos 0 ≤ℤ r → pos 0 ≤ℤ (cond t v (pos 0) +ℤ r)
    add_up true v r h k = omega (arith, ints, h, k)
    add_up false v r h k = omega (arith, ints, h, k)

-- a length that has a part is one
pub sum_some : (key : ℕ × ℕ) (parts : List Part) → HaveLength parts → list_any (is_part_of key) parts ≡ true → pos 0 <ℤ sum_on (part_in key) parts
sum_some key [] have any = absurd (false≢true any)
sum_some key (p ∷ ps) have any =
    more (is_part_of key p) (list_any (is_part_of key) ps) p.length (sum_on (part_in key) ps) any (have p (inl refl))
    (sum_not_negative key ps (λ q i. have q (inr i))) (sum_some key ps (λ q i. have q (inr i)))
  where
    more : (t u : Bool) (v r : ℤ) → (t || u) ≡ true → pos 0 <ℤ v → pos 0 ≤ℤ r → (u ≡ true → pos 0 <ℤ r) → pos 0 <ℤ (cond t v (pos 0) +ℤ r)
    more true u v r e some none h = omega (arith, ints, some, none)
    more false true v r e some none h = let rest = h refl in omega (arith, ints, rest)
    more false false v r e some none h = absurd (false≢true e)

-- and one that has none is nothing
pub sum_none : (key : ℕ × ℕ) (parts : List Part) → list_any (is_part_of key) parts ≡ false → sum_on (part_in key) parts ≡ pos 0
sum_none key parts none = sum_on-nothing (part_in key) parts (λ p i. ap (λ (t : Bool). cond t p.length (pos 0)) (list_any-In (is_part_of key) parts p none i))

-- what a length that is told says
pub summed_some : (parts : List Part) (key : ℕ × ℕ) (length : ℤ) → summed parts key ≡ Some length
    → (list_any (is_part_of key) parts ≡ true) × (sum_on (part_in key) parts ≡ length)
summed_some parts key length e = gate (list_any (is_part_of key) parts) (sum_on (part_in key) parts) e
  where
    gate : (t : Bool) (n : ℤ) → cond t (Some n) None ≡ Some length → (t ≡ true) × (n ≡ length)
    gate true n e = (refl, same_Some n length e)
    gate false n e = cc

-- a length is told or there is none
pub summed_cases : (parts : List Part) (key : ℕ × ℕ) → (summed parts key ≡ Some (sum_on (part_in key) parts)) ⊎ (sum_on (part_in key) parts ≡ pos 0)
summed_cases parts key = elim (cases_Bool (list_any (is_part_of key) parts)) [
  | inl any ↦ inl (ap (λ (t : Bool). cond t (Some (sum_on (part_in key) parts)) None) any)
  | inr none ↦ inr (sum_none key parts none)
]
