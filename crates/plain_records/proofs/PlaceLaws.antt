-- Records of cells and their places, among records with arrays and among their forms.
use Rattle.plain_records.proofs.Common.{◌≡◌, ℕ, zero, suc, Bool, false, cond, List, [], ◌∷◌, map, inl, inr, refl, sym, ◌∙◌, ap, Option, Some, None}
use Rattle.plain_records.proofs.Common.{slice_get, option_map, slice_get-map, same_Some, In, Distinct, In-slice_get, find-In, CellExt, ArrayExt}
use Rattle.plain_records.proofs.Common.{plain, ext_of, plains, thin, thins}
use Rattle.std.specs.List.{find}
use Rattle.std.specs.Str.{bytes_eq}
use Rattle.std.proofs.lemmas.Bool.{cases_Bool}
use Rattle.std.proofs.lemmas.Slice.Eq.{bytes_eq-Decides}
use Rattle.finite_sets.proofs.Images.{one_from_Distinct}
use Rattle.finite_sets.proofs.Searches.{find-map}

-- what is at a place is found by a name that nothing else has
pub found_at : {X : Type 0} (name_of : X → List ℕ) (xs : List X) (k : ℕ) (x : X) → Distinct (map name_of xs) → slice_get xs k ≡ Some x
    → find (λ one. bytes_eq (name_of one) (name_of x)) xs ≡ Some x
found_at name_of [] k x differ at = absurd (cc)
found_at {X} name_of (y ∷ ys) k x differ at = elim (cases_Bool (bytes_eq (name_of y) (name_of x))) [
  | inl same ↦
      (let one = one_from_Distinct name_of (y ∷ ys) y x differ (inl refl) (In-slice_get (y ∷ ys) k x at)
      ((bytes_eq-Decides (name_of y) (name_of x)).0 same) in
      ap (λ (t : Bool). cond t (Some y) (find (λ one. bytes_eq (name_of one) (name_of x)) ys)) same ∙ ap Some one)
  | inr other ↦
      ap (λ (t : Bool). cond t (Some y) (find (λ one. bytes_eq (name_of one) (name_of x)) ys)) other
      ∙ later k at other (λ j there. found_at name_of ys j x differ.1 there)
]
  where
    later : (k : ℕ) → slice_get (y ∷ ys) k ≡ Some x → bytes_eq (name_of y) (name_of x) ≡ false
        → ((j : ℕ) → slice_get ys j ≡ Some x → find (λ one. bytes_eq (name_of one) (name_of x)) ys ≡ Some x)
        → find (λ one. bytes_eq (name_of one) (name_of x)) ys ≡ Some x
    later zero at other more =
        let same : y ≡ x = same_Some y x at in
        let yes = (bytes_eq-Decides (name_of y) (name_of x)).1 (ap name_of same) in absurd (cc)
    later (suc k) at other more = more k at

-- the record with arrays of a cell, where it has one
abbrev pub array_of : List ArrayExt → List ℕ → Option ArrayExt
array_of exts cell = find (λ ext. bytes_eq ext.cell cell) exts

-- the plain record of a cell is the plain form of its record
pub ext_of-plains : (exts : List ArrayExt) (cell : List ℕ) → ext_of (plains exts) cell ≡ option_map plain (array_of exts cell)
ext_of-plains exts cell = find-map plain (λ (ext : CellExt). bytes_eq ext.cell cell) exts

-- and the thin one its thin form
pub ext_of-thins : (exts : List ArrayExt) (cell : List ℕ) → ext_of (thins exts) cell ≡ option_map thin (array_of exts cell)
ext_of-thins exts cell = find-map thin (λ (ext : CellExt). bytes_eq ext.cell cell) exts

module _ (exts : List ArrayExt) (differ : Distinct (map (λ ext. ext.cell) exts)) where
  one_found : (first second : Option ArrayExt) → ((ext : ArrayExt) → first ≡ Some ext → In ext exts)
      → ((ext : ArrayExt) → second ≡ Some ext → In ext exts) → option_map thin first ≡ option_map thin second → first ≡ second
  one_found None None here there e = refl
  one_found None (Some b) here there e = absurd (cc)
  one_found (Some a) None here there e = absurd (cc)
  one_found (Some a) (Some b) here there e =
      let cells : a.cell ≡ b.cell = ap (λ (z : CellExt). z.cell) (same_Some (thin a) (thin b) e) in
      ap Some (one_from_Distinct (λ (ext : ArrayExt). ext.cell) exts a b differ (here a refl) (there b refl) cells)

  -- a use that leads to a thin record leads to the plain one
  pub leads_plain : (child : ℕ) (cell : List ℕ) → slice_get (thins exts) child ≡ ext_of (thins exts) cell
      → slice_get (plains exts) child ≡ ext_of (plains exts) cell
  leads_plain child cell e =
      let led = one_found (slice_get exts child) (array_of exts cell) (λ ext at. In-slice_get exts child ext at)
      (λ ext found. find-In (λ (one : ArrayExt). bytes_eq one.cell cell) exts ext found)
      (sym (slice_get-map thin exts child) ∙ e ∙ ext_of-thins exts cell) in
      slice_get-map plain exts child ∙ ap (option_map plain) led ∙ sym (ext_of-plains exts cell)

  -- the record of its own cell
  pub own_array : (k : ℕ) (ext : ArrayExt) → slice_get exts k ≡ Some ext → array_of exts ext.cell ≡ Some ext
  own_array k ext at = found_at (λ (one : ArrayExt). one.cell) exts k ext differ at
