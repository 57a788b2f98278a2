-- Tiles and their squares, and what putting, adding and taking away one tile does.
use Rattle.tile_plane.proofs.Common.{◌≡◌, ◌≢◌, ℕ, Bool, true, true≢false, List, [], ◌∷◌, Option, Some, None, cond, inl, inr, refl, sym, ◌∙◌, ap}
use Rattle.tile_plane.proofs.Common.{subst, arith, ints, cases_eq, nat_cmp, eq_by_cmp, In, Square, IsProper, Tile, Slot, Tiles, no_tile, tile_if}
use Rattle.tile_plane.proofs.Common.{tile_at, IsTaken, Owns, IsPut, AreProper}
use Rattle.std.proofs.Common.{◌||◌, IsSome, is_some}
use Rattle.std.proofs.lemmas.Bool.Decides.{nat_tests}
use Rattle.std.specs.List.{list_any}
use Rattle.std.specs.Cmp.{nat_cmp_total, unsigned_tied}
use Rattle.std.specs.FinMap as fin_map
use Rattle.tile_arena.proofs.LiveLaws.{tied_other}
use Rattle.tile_plane.specs.Slots.{tile_of}

-- a tile with a square is taken
pub owner_taken : (tiles : Tiles) (id : ℕ) (square : Square) → Owns tiles id square → IsTaken tiles id
owner_taken tiles id square owns = omega (arith, ints)

-- a number that stands for a tile with a square has a tile
pub taken_live : (tiles : Tiles) (id : ℕ) → IsTaken tiles id → IsSome (fin_map.get tiles id)
taken_live tiles id taken = by_get (fin_map.get tiles id) refl
  where
    by_get : (o : Option Slot) → fin_map.get tiles id ≡ o → IsSome (fin_map.get tiles id)
    by_get (Some slot) is = ap is_some is
    by_get None is =
        let none : IsProper no_tile.area = subst (λ (o : Option Slot). IsProper (tile_if o).area) is taken.proper in
        absurd (omega (arith, ints))

tied_same : (k : ℕ) → eq_by_cmp nat_cmp k k ≡ true
tied_same k = unsigned_tied k k ∙ grind (arith, nat_tests)

-- a slot is put under a number
module _ (tiles : Tiles) (id : ℕ) (slot : Slot) where
  get-insert_same : fin_map.get (fin_map.insert tiles id slot) id ≡ Some slot
  get-insert_same = fin_map.get-insert nat_cmp_total tiles id slot id ∙ ap (λ (b : Bool). cond b (Some slot) (fin_map.get tiles id)) (tied_same id)

  get-insert_other : (other : ℕ) → other ≢ id → fin_map.get (fin_map.insert tiles id slot) other ≡ fin_map.get tiles other
  get-insert_other other apart =
      fin_map.get-insert nat_cmp_total tiles id slot other ∙ ap (λ (b : Bool). cond b (Some slot) (fin_map.get tiles other)) (tied_other other id apart)

  pub put_by_insert : (tile : Tile) → tile_of slot ≡ tile → IsPut id tile tiles (fin_map.insert tiles id slot)
  put_by_insert tile is = record {
    here = ap tile_if get-insert_same ∙ is;
    others = λ other apart. ap tile_if (get-insert_other other apart);
  }

  pub AreProper-insert : IsProper (tile_of slot).area → AreProper tiles → AreProper (fin_map.insert tiles id slot)
  AreProper-insert proper all = record {
    proper = λ other live. elim (cases_eq other id) [
      | inl same ↦ record {
        proper = subst (λ (o : Option Slot). IsProper (tile_if o).area)
            (sym (ap (fin_map.get (fin_map.insert tiles id slot)) same ∙ get-insert_same)) proper;
      }
      | inr apart ↦ (
          let is = get-insert_other other apart in
          let was = all.proper other (ap is_some (sym is) ∙ live) in
          record { proper = subst (λ (o : Option Slot). IsProper (tile_if o).area) (sym is) was.proper })
    ];
  }

  -- in place of one of the same area
  pub AreProper-write : (before : Slot) → fin_map.get tiles id ≡ Some before → (tile_of slot).area ≡ (tile_of before).area → AreProper tiles
      → AreProper (fin_map.insert tiles id slot)
  AreProper-write before found same all =
      let was = (all.proper id (ap is_some found)).proper in
      AreProper-insert (subst IsProper (sym same) (subst (λ (o : Option Slot). IsProper (tile_if o).area) found was)) all

  -- with one field changed
  pub put_by_write : (before : Slot) (change : Tile → Tile) → fin_map.get tiles id ≡ Some before → tile_of slot ≡ change (tile_of before)
      → IsPut id (change (tile_at tiles id)) tiles (fin_map.insert tiles id slot)
  put_by_write before change found is = put_by_insert (change (tile_at tiles id)) (is ∙ ap change (sym (ap tile_if found)))

-- what a number has is taken away
module _ (tiles : Tiles) (id : ℕ) where
  get-remove_same : fin_map.get (fin_map.remove tiles id) id ≡ None
  get-remove_same = fin_map.get-remove nat_cmp_total tiles id id ∙ ap (λ (b : Bool). cond b None (fin_map.get tiles id)) (tied_same id)

  get-remove_other : (other : ℕ) → other ≢ id → fin_map.get (fin_map.remove tiles id) other ≡ fin_map.get tiles other
  get-remove_other other apart =
      fin_map.get-remove nat_cmp_total tiles id other ∙ ap (λ (b : Bool). cond b None (fin_map.get tiles other)) (tied_other other id apart)

  pub gone_by_remove : IsTaken (fin_map.remove tiles id) id → ⊥
  gone_by_remove taken = true≢false (sym (taken_live _ id taken) ∙ ap is_some get-remove_same)

  pub others_by_remove : (other : ℕ) → other ≢ id → tile_at (fin_map.remove tiles id) other ≡ tile_at tiles other
  others_by_remove other apart = ap tile_if (get-remove_other other apart)

  pub AreProper-remove : AreProper tiles → AreProper (fin_map.remove tiles id)
  AreProper-remove all = record {
    proper = λ other live. elim (cases_eq other id) [
      | inl same ↦ absurd (true≢false (sym live ∙ ap is_some (ap (fin_map.get (fin_map.remove tiles id)) same ∙ get-remove_same)))
      | inr apart ↦ (
          let is = get-remove_other other apart in
          let was = all.proper other (ap is_some (sym is) ∙ live) in
          record { proper = subst (λ (o : Option Slot). IsProper (tile_if o).area) (sym is) was.proper })
    ];
  }

pub AreProper-empty : AreProper fin_map.empty
AreProper-empty = record { proper = λ id live. absurd (true≢false (sym live ∙ ap is_some (fin_map.get-empty nat_cmp id))) }

any_In : (q : ℕ) (ks : List ℕ) → list_any (eq_by_cmp nat_cmp q) ks ≡ true → In q ks
any_In q [] e = absurd (true≢false (sym e))
any_In q (k ∷ ks) e = elim (cases_eq k q) [
  | inl same ↦ inl same
  | inr apart ↦ inr (any_In q ks (ap (λ (b : Bool). b || list_any (eq_by_cmp nat_cmp q) ks) (sym (tied_other q k (λ same. apart (sym same)))) ∙ e))
]

-- the number of a tile is a key
pub taken_in_keys : (tiles : Tiles) (id : ℕ) → IsTaken tiles id → In id (fin_map.keys tiles)
taken_in_keys tiles id taken = any_In id (fin_map.keys tiles) (sym (fin_map.contains_key-keys tiles id) ∙ taken_live tiles id taken)
