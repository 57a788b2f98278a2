-- Where the items of a list in blocks lie: the item of number k * BLOCK_SIZE + r is the one of number r in block k.
use Rattle.tile_arena.proofs.Common.{◌≡◌, ℕ, zero, suc, ◌+◌, ◌-◌, ◌%◌, ◌<◌, ◌≤◌, List, [], ◌∷◌, ◌++◌, length, get_or, set, Some, slice_get}
use Rattle.tile_arena.proofs.Common.{replicate, refl, sym, ap, ◌∙◌, arith, length-append, length-set, length_push, slice_get-get_or, BLOCK_SIZE}
use Rattle.std.proofs.Common.{◌*◌, ◌/◌, min}
use Rattle.std.proofs.lemmas.List.{append-nil, append_assoc, get_or_append_left, get_or-append_right, set-append_left}
use Rattle.std.proofs.lemmas.List.{set-append_right}
use Rattle.tile_arena.specs.BlockLists.{items_of, AreFilled}

module _ {X : Type 0} where
  pub length-items_of : (bs : List (List X)) (n : ℕ) → AreFilled bs n → length (items_of bs) ≡ n
  length-items_of [] n h = sym h
  length-items_of (b ∷ bs) n h =
      omega (arith, h.0, length-append b (items_of bs), length-items_of bs (n - BLOCK_SIZE) h.1)

  -- there are no more items than the blocks have room for
  pub filled_fits : (bs : List (List X)) (n : ℕ) → AreFilled bs n → n ≤ BLOCK_SIZE * length bs
  filled_fits [] n h = omega (arith, h)
  filled_fits (b ∷ bs) n h = omega (arith, filled_fits bs (n - BLOCK_SIZE) h.1)

  -- where the list has no items, no block has
  no_items : (bs : List (List X)) → AreFilled bs 0 → items_of bs ≡ []
  no_items [] h = refl
  no_items (b ∷ bs) h = rw (none b h.0, no_items bs h.1) refl
    where
      none : (b : List X) → length b ≡ min 0 BLOCK_SIZE → b ≡ []
      none [] e = refl
      none (x ∷ xs) e = absurd (omega (arith, e))

  -- an item lies in a block that there is, among its items
  pub place_within : (bs : List (List X)) (n k r : ℕ) (d : List X) → AreFilled bs n → r < BLOCK_SIZE → k * BLOCK_SIZE + r < n
      → (k < length bs) × (r < length (get_or bs k d))
  place_within [] n k r d h small below = absurd (omega (arith, h))
  place_within (b ∷ bs) n zero r d h small below = (omega arith, omega (arith, h.0))
  place_within (b ∷ bs) n (suc k) r d h small below =
      let later = place_within bs (n - BLOCK_SIZE) k r d h.1 small (omega arith) in
      (omega (arith, later.0), later.1)

  pub get_or-items_of : (bs : List (List X)) (n k r : ℕ) (d : List X) (x : X) → AreFilled bs n → r < BLOCK_SIZE → k * BLOCK_SIZE + r < n
      → get_or (items_of bs) (k * BLOCK_SIZE + r) x ≡ get_or (get_or bs k d) r x
  get_or-items_of [] n k r d x h small below = absurd (omega (arith, h))
  get_or-items_of (b ∷ bs) n zero r d x h small below =
      let place : 0 * BLOCK_SIZE + r ≡ r = omega arith in
      rw place (get_or_append_left b (items_of bs) x r (omega (arith, h.0)))
  get_or-items_of (b ∷ bs) n (suc k) r d x h small below =
      let full : length b ≡ BLOCK_SIZE = omega (arith, h.0) in
      let place : suc k * BLOCK_SIZE + r - BLOCK_SIZE ≡ k * BLOCK_SIZE + r = omega arith in
      get_or-append_right b (items_of bs) BLOCK_SIZE (suc k * BLOCK_SIZE + r) x full (omega arith)
      ∙ ap (λ i. get_or (items_of bs) i x) place ∙ get_or-items_of bs (n - BLOCK_SIZE) k r d x h.1 small (omega arith)

  -- to write in a block is to write in the list
  pub items_of-set : (bs : List (List X)) (n k r : ℕ) (d : List X) (x : X) → AreFilled bs n → r < BLOCK_SIZE → k * BLOCK_SIZE + r < n
      → items_of (set bs k (set (get_or bs k d) r x)) ≡ set (items_of bs) (k * BLOCK_SIZE + r) x
  items_of-set [] n k r d x h small below = absurd (omega (arith, h))
  items_of-set (b ∷ bs) n zero r d x h small below =
      let place : 0 * BLOCK_SIZE + r ≡ r = omega arith in
      rw place (sym (set-append_left b (items_of bs) r x (omega (arith, h.0))))
  items_of-set (b ∷ bs) n (suc k) r d x h small below =
      let full : length b ≡ BLOCK_SIZE = omega (arith, h.0) in
      let place : suc k * BLOCK_SIZE + r - BLOCK_SIZE ≡ k * BLOCK_SIZE + r = omega arith in
      ap (λ xs. b ++ xs) (items_of-set bs (n - BLOCK_SIZE) k r d x h.1 small (omega arith))
      ∙ sym (set-append_right b (items_of bs) BLOCK_SIZE (suc k * BLOCK_SIZE + r) x full (omega arith) ∙ ap (λ i. b ++ set (items_of bs) i x) place)

  -- a block may be exchanged for one of as many items
  pub AreFilled-set : (bs : List (List X)) (n k : ℕ) (d other : List X) → AreFilled bs n → length other ≡ length (get_or bs k d)
      → AreFilled (set bs k other) n
  AreFilled-set [] n k d other h same = h
  AreFilled-set (b ∷ bs) n zero d other h same = (same ∙ h.0, h.1)
  AreFilled-set (b ∷ bs) n (suc k) d other h same = (h.0, AreFilled-set bs (n - BLOCK_SIZE) k d other h.1 same)

  -- the next item goes behind those of the first block that is not full
  pub next_place : (bs : List (List X)) (n k r : ℕ) (d : List X) → AreFilled bs n → r < BLOCK_SIZE → k * BLOCK_SIZE + r ≡ n → n < BLOCK_SIZE * length bs
      → (k < length bs) × (length (get_or bs k d) ≡ r)
  next_place [] n k r d h small is room = absurd (omega arith)
  next_place (b ∷ bs) n zero r d h small is room = (omega arith, omega (arith, h.0))
  next_place (b ∷ bs) n (suc k) r d h small is room =
      let later = next_place bs (n - BLOCK_SIZE) k r d h.1 small (omega arith) (omega arith) in
      (omega (arith, later.0), later.1)

  pub items_of-push : (bs : List (List X)) (n k r : ℕ) (d : List X) (x : X) → AreFilled bs n → r < BLOCK_SIZE → k * BLOCK_SIZE + r ≡ n
      → n < BLOCK_SIZE * length bs
      → items_of (set bs k (get_or bs k d ++ x ∷ [])) ≡ items_of bs ++ x ∷ []
  items_of-push [] n k r d x h small is room = absurd (omega arith)
  items_of-push (b ∷ bs) n zero r d x h small is room =
      let past : n - BLOCK_SIZE ≡ 0 = omega arith in
      let rest : items_of bs ≡ [] = no_items bs (rw past at h.1) in
      rw (rest, append-nil, append-nil) refl
  items_of-push (b ∷ bs) n (suc k) r d x h small is room =
      ap (λ xs. b ++ xs) (items_of-push bs (n - BLOCK_SIZE) k r d x h.1 small (omega arith) (omega arith)) ∙ sym (append_assoc b (items_of bs) (x ∷ []))

  pub AreFilled-push : (bs : List (List X)) (n k r : ℕ) (d : List X) (x : X) → AreFilled bs n → r < BLOCK_SIZE → k * BLOCK_SIZE + r ≡ n
      → n < BLOCK_SIZE * length bs
      → AreFilled (set bs k (get_or bs k d ++ x ∷ [])) (n + 1)
  AreFilled-push [] n k r d x h small is room = absurd (omega arith)
  AreFilled-push (b ∷ bs) n zero r d x h small is room =
      let same : n + 1 - BLOCK_SIZE ≡ n - BLOCK_SIZE = omega arith in
      (omega (arith, h.0, length_push b x), rw same h.1)
  AreFilled-push (b ∷ bs) n (suc k) r d x h small is room =
      let same : n + 1 - BLOCK_SIZE ≡ n - BLOCK_SIZE + 1 = omega arith in
      (omega (arith, h.0), rw same (AreFilled-push bs (n - BLOCK_SIZE) k r d x h.1 small (omega arith) (omega arith)))

  -- a block without items is added
  pub items_of-block : (bs : List (List X)) → items_of (bs ++ [] ∷ []) ≡ items_of bs
  items_of-block [] = refl
  items_of-block (b ∷ bs) = ap (λ xs. b ++ xs) (items_of-block bs)

  pub AreFilled-block : (bs : List (List X)) (n : ℕ) → AreFilled bs n → AreFilled (bs ++ [] ∷ []) n
  AreFilled-block [] n h = rw h (refl, refl)
  AreFilled-block (b ∷ bs) n h = (h.0, AreFilled-block bs (n - BLOCK_SIZE) h.1)

  -- what is read in the block is the item of the list
  pub read_item : (bs : List (List X)) (n i : ℕ) (d : List X) (x : X) → AreFilled bs n → i < n
      → slice_get (get_or bs (i / BLOCK_SIZE) d) (i % BLOCK_SIZE) ≡ Some x
      → slice_get (items_of bs) i ≡ Some x
  read_item bs n i d x h below found =
      let place : i / BLOCK_SIZE * BLOCK_SIZE + i % BLOCK_SIZE ≡ i = omega arith in
      let inside = place_within bs n (i / BLOCK_SIZE) (i % BLOCK_SIZE) d h (omega arith) (omega arith) in
      let read = get_or-items_of bs n (i / BLOCK_SIZE) (i % BLOCK_SIZE) d x h (omega arith) (omega arith) in
      slice_get-get_or (items_of bs) i x (omega (arith, length-items_of bs n h))
      ∙ ap Some (ap (λ j. get_or (items_of bs) j x) (sym place) ∙ read)
      ∙ sym (slice_get-get_or (get_or bs (i / BLOCK_SIZE) d) (i % BLOCK_SIZE) x inside.1) ∙ found

  -- an item of the list has a block and a number in it
  pub item_place : (bs : List (List X)) (n i : ℕ) (d : List X) → AreFilled bs n → i < length (items_of bs)
      → (i < n) × (i / BLOCK_SIZE < length bs) × (i % BLOCK_SIZE < length (get_or bs (i / BLOCK_SIZE) d))
  item_place bs n i d h below =
      let same = length-items_of bs n h in
      let inside = place_within bs n (i / BLOCK_SIZE) (i % BLOCK_SIZE) d h (omega arith) (omega arith) in
      (omega arith, inside.0, inside.1)

  -- which block takes the next item
  pub push_place : (bs : List (List X)) (n : ℕ) (d : List X) → AreFilled bs n → n < BLOCK_SIZE * length bs
      → (n / BLOCK_SIZE < length bs) × (length (get_or bs (n / BLOCK_SIZE) d) ≡ n % BLOCK_SIZE)
  push_place bs n d h room = next_place bs n (n / BLOCK_SIZE) (n % BLOCK_SIZE) d h (omega arith) (omega arith) room

  -- what the list is after an item was added to that block
  pub pushed : (bs : List (List X)) (n : ℕ) (d other : List X) (x : X) → AreFilled bs n → n < BLOCK_SIZE * length bs → d ≡ get_or bs (n / BLOCK_SIZE) d
      → other ≡ d ++ x ∷ []
      → (items_of (set bs (n / BLOCK_SIZE) other) ≡ items_of bs ++ x ∷ []) × AreFilled (set bs (n / BLOCK_SIZE) other) (n + 1)
  pushed bs n d other x h room read is =
      let whole : other ≡ get_or bs (n / BLOCK_SIZE) d ++ x ∷ [] = is ∙ ap (λ b. b ++ x ∷ []) read in
      rw whole (
        items_of-push bs n (n / BLOCK_SIZE) (n % BLOCK_SIZE) d x h (omega arith) (omega arith) room,
        AreFilled-push bs n (n / BLOCK_SIZE) (n % BLOCK_SIZE) d x h (omega arith) (omega arith) room,
      )

  -- what the list is after a write in a block
  pub written : (bs : List (List X)) (n i : ℕ) (d : List X) (x : X) → AreFilled bs n → i < n → d ≡ get_or bs (i / BLOCK_SIZE) d
      → (items_of (set bs (i / BLOCK_SIZE) (set d (i % BLOCK_SIZE) x)) ≡ set (items_of bs) i x) × AreFilled
      (set bs (i / BLOCK_SIZE) (set d (i % BLOCK_SIZE) x)) n
  written bs n i d x h below read =
      let place : i / BLOCK_SIZE * BLOCK_SIZE + i % BLOCK_SIZE ≡ i = omega arith in
      let w = items_of-set bs n (i / BLOCK_SIZE) (i % BLOCK_SIZE) d x h (omega arith) (omega arith) in (
        ap (λ b. items_of (set bs (i / BLOCK_SIZE) (set b (i % BLOCK_SIZE) x))) read ∙ w ∙ ap (λ j. set (items_of bs) j x) place,
        AreFilled-set bs n (i / BLOCK_SIZE) d _ h (length-set d (i % BLOCK_SIZE) x ∙ ap length read),
      )

  -- as many blocks without items are added
  pub more_blocks : (count n : ℕ) (bs : List (List X)) → AreFilled bs n
      → (items_of (bs ++ replicate count []) ≡ items_of bs) × AreFilled (bs ++ replicate count []) n
  more_blocks zero n bs h = rw append-nil (refl, h)
  more_blocks (suc count) n bs h =
      let one : bs ++ ([] ∷ replicate count []) ≡ bs ++ [] ∷ [] ++ replicate count [] = sym (append_assoc bs ([] ∷ []) (replicate count [])) in
      let later = more_blocks count n (bs ++ [] ∷ []) (AreFilled-block bs n h) in
      rw one (later.0 ∙ items_of-block bs, later.1)
