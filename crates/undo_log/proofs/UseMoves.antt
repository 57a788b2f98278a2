-- Uses that a lawful library has: which move far, and which ids are new.
use Rattle.undo_log.proofs.Common.{◌≡◌, ◌+◌, ◌<◌, ◌≤◌, ℕ, zero, suc, ℤ, neg_ℤ, ◌+ℤ◌, true, false, Bool, List, [], ◌∷◌, ◌++◌, length, map, take, drop}
use Rattle.undo_log.proofs.Common.{insert, refl, sym, ap, subst, ◌∙◌, inl, inr, arith, true≢false, None, Some, ◌||◌, slice_get, if◌then◌else◌, w64}
use Rattle.undo_log.proofs.Common.{bytes_eq, cases_Bool, common_steps, ints, to_z-of_z, map-append, take-append-drop, get_or_from_slice_get}
use Rattle.undo_log.proofs.Common.{bytes_eq-Decides, In, Distinct, UseBody, IsLawfulUse, moved, moved_use, single_use, with_use_changed, has_id}
use Rattle.undo_log.proofs.Common.{IsLawfulView, CellView, LibraryView, view_at, id_same, use_in}
use Rattle.std.proofs.Common.{◌^◌, pos, ◌-ℤ◌, ◌≤ℤ◌}
use Rattle.std.specs.Prelude.{FitsSigned}
use Rattle.std.specs.List.{position_or_len}
use Rattle.std.proofs.lemmas.List.Quantifiers.{position-Some}
use Rattle.geo_core.specs.Images.{identity}
use Rattle.geo_core.proofs.FiniteSets.Places.{slice_get-below}
use Rattle.geo_core.proofs.FiniteSets.Distincts.{Distinct-cut}
use Rattle.edit_script.specs.ScriptLines.Forms.{IsNumber}
use Rattle.edit_script.specs.CellLibrary.PutBackUses.{place_of}
use Rattle.edit_script.proofs.CellLibrary.ContentLaws.{position_past}
use Rattle.undo_log.proofs.BodyLaws.{Uses}
use Rattle.undo_log.proofs.CellLaws.{cell_here, count_kept}
use Rattle.undo_log.proofs.LawfulLaws.{lawful_uses}
use mir.Val.{of_z, to_z}

-- ---- ids

-- a use with the id stands somewhere
pub has_where : (uses : Uses) (id : List ℕ) → has_id uses id ≡ true → (k : ℕ) × ((used : UseBody) × (slice_get uses k ≡ Some (id, used)))
has_where [] id has = absurd (true≢false (sym has))
has_where (first ∷ rest) id has = elim (cases_Bool (bytes_eq first.0 id)) [
  | inl here ↦ (let name : first.0 ≡ id = (bytes_eq-Decides first.0 id).0 here in (0, (first.1, λ i. Some (name i, first.1))))
  | inr away ↦ (let found = has_where rest id (sym (ap (λ (b : Bool). b || has_id rest id) away) ∙ has) in (suc found.0, found.1))
]

-- a use stands where the search for its id finds it
pub place_there : (uses : Uses) (id : List ℕ) (k : ℕ) → place_of uses id ≡ Some k → (used : UseBody) × (slice_get uses k ≡ Some (id, used))
place_there uses id k is =
    let found = position-Some (λ (entry : List ℕ × UseBody). bytes_eq entry.0 id) uses k ([], single_use 0 identity) is in
    let entry = slice_get-below uses k found.0 in
    let same : bytes_eq entry.0.0 id ≡ true =
    ap (λ (e : List ℕ × UseBody). bytes_eq e.0 id) (sym (get_or_from_slice_get uses k entry.0 ([], single_use 0 identity) entry.1)) ∙ found.1 in
    let name : entry.0.0 ≡ id = (bytes_eq-Decides entry.0.0 id).0 same in
    (entry.0.1, entry.1 ∙ (λ i. Some (name i, entry.0.1)))

-- and where it finds none, none has it
place_past : (uses : Uses) (id : List ℕ) → length uses ≤ position_or_len (λ entry. bytes_eq entry.0 id) uses → has_id uses id ≡ false
place_past [] id past = refl
place_past (first ∷ rest) id past = elim (cases_Bool (bytes_eq first.0 id)) [
  | inl here ↦ (let found : suc (length rest) ≤ 0 = rw here at past in absurd (omega arith))
  | inr away ↦
      let later : suc (length rest) ≤ 1 + position_or_len (λ entry. bytes_eq entry.0 id) rest = rw away at past in
      ap (λ (b : Bool). b || has_id rest id) away ∙ place_past rest id (omega arith)
]

-- a search that finds none tells so
pub place_nowhere : (uses : Uses) (id : List ℕ) → place_of uses id ≡ None → has_id uses id ≡ false
place_nowhere uses id none = place_past uses id (position_past (λ (entry : List ℕ × UseBody). bytes_eq entry.0 id) uses none)

-- where ids differ with a use that comes, its id is new
pub new_id : (uses : Uses) (at : ℕ) (id : List ℕ) (used : UseBody) → Distinct (map (λ e. e.0) (insert uses at (id, used))) → has_id uses id ≡ false
new_id uses at id used differ = elim (cases_Bool (has_id uses id)) [
  | inr none ↦ none
  | inl has ↦ absurd (let found = has_where uses id has in apart (use_in uses found.0 (id, found.1.0) found.1.1))
]
  where
    parts : map (λ (e : List ℕ × UseBody). e.0) (insert uses at (id, used))
        ≡ map (λ (e : List ℕ × UseBody). e.0) (take at uses) ++ id ∷ map (λ (e : List ℕ × UseBody). e.0) (drop at uses)
    parts = map-append (λ (e : List ℕ × UseBody). e.0) (take at uses) ((id, used) ∷ drop at uses)

    whole : map (λ (e : List ℕ × UseBody). e.0) (take at uses) ++ map (λ (e : List ℕ × UseBody). e.0) (drop at uses)
        ≡ map (λ (e : List ℕ × UseBody). e.0) uses
    whole =
        sym (map-append (λ (e : List ℕ × UseBody). e.0) (take at uses) (drop at uses))
        ∙ ap (map (λ (e : List ℕ × UseBody). e.0)) (take-append-drop at uses)

    apart : In id (map (λ (e : List ℕ × UseBody). e.0) uses) → ⊥
    apart there =
        (Distinct-cut (map (λ (e : List ℕ × UseBody). e.0) (take at uses)) (map (λ (e : List ℕ × UseBody). e.0) (drop at uses)) id
        (subst Distinct parts differ)).0 (subst (In id) (sym whole) there)

-- ---- moves

-- a use with the id is changed where it stands
pub changed_there : (change : UseBody → UseBody) (uses : Uses) (k : ℕ) (id : List ℕ) (used : UseBody) → slice_get uses k ≡ Some (id, used)
    → slice_get (with_use_changed change id uses) k ≡ Some (id, change used)
changed_there change [] k id used is = absurd (cc)
changed_there change (first ∷ rest) zero id used is =
    let same : first ≡ (id, used) = cc in
    ap (λ (e : List ℕ × UseBody). Some (if bytes_eq e.0 id then (e.0, change e.1) else e)) same
    ∙ ap (λ (b : Bool). Some (if b then (id, change used) else (id, used))) (id_same id)
changed_there change (first ∷ rest) (suc k) id used is = changed_there change rest k id used is

-- A displacement from a place where a use may stand to another.
pub record IsShort (z : ℤ) : Type 0 where
  pub low : neg_ℤ (pos (2 ^ 28)) ≤ℤ z
  pub high : z ≤ℤ pos (2 ^ 28)

-- a use that is moved in a lawful library, and stands in a lawful one then, is not moved far
pub moves_are_short : (view : LibraryView) (cell : ℕ) (id : List ℕ) (dx dy : ℤ) → cell < length view.cells → IsLawfulView view
    → IsLawfulView (moved view cell id dx dy) → has_id (view_at view cell).uses id ≡ true → IsShort dx × IsShort dy
moves_are_short view cell id dx dy there lawful lawful_then has =
    let found = has_where (view_at view cell).uses id has in
    let used : UseBody = found.1.0 in
    let before : IsLawfulUse used = lawful_uses view cell lawful there found.0 id used found.1.1 in
    let here =
    cell_here view cell (λ (held : CellView). record held { uses = with_use_changed (moved_use dx dy) id held.uses }) there in
    let kept = count_kept view cell (λ (held : CellView). record held { uses = with_use_changed (moved_use dx dy) id held.uses }) in
    let stands : slice_get (view_at (moved view cell id dx dy) cell).uses found.0 ≡ Some (id, moved_use dx dy used) =
    ap (λ (held : CellView). slice_get held.uses found.0) here
    ∙ changed_there (moved_use dx dy) (view_at view cell).uses found.0 id used found.1.1 in
    let after : IsLawfulUse (moved_use dx dy used) =
    lawful_uses (moved view cell id dx dy) cell lawful_then (omega arith) found.0 id (moved_use dx dy used) stands in (
      short used.placed.dx dx before.dx.low before.dx.high after.dx.low after.dx.high,
      short used.placed.dy dy before.dy.low before.dy.high after.dy.low after.dy.high,
    )
  where
    short : (z d : ℤ) → neg_ℤ (pos 134217716) ≤ℤ z → z ≤ℤ pos 134217716 → neg_ℤ (pos 134217716) ≤ℤ (z +ℤ d) → (z +ℤ d) ≤ℤ pos 134217716
        → IsShort d
    short z d a b e f = record { low = omega (arith, ints); high = omega (arith, ints) }

-- the opposite of such a displacement fits 64 bits
pub short_opposite : (z : ℤ) → IsShort z → FitsSigned w64 (pos 0 -ℤ to_z w64 (of_z w64 z))
short_opposite z is =
    let fits : FitsSigned w64 z = record { sfits = grind (arith, ints, common_steps) } in
    let same : to_z w64 (of_z w64 z) ≡ z = to_z-of_z w64 z fits in
    rw same (record { sfits = grind (arith, ints, common_steps) })

-- the opposite as it is passed on
opposite_is : (z : ℤ) → FitsSigned w64 z → FitsSigned w64 (pos 0 -ℤ z) → to_z w64 (of_z w64 (pos 0 -ℤ to_z w64 (of_z w64 z))) ≡ neg_ℤ z
opposite_is z fits opposite =
    let same : to_z w64 (of_z w64 z) ≡ z = to_z-of_z w64 z fits in
    rw same (to_z-of_z w64 (pos 0 -ℤ z) opposite ∙ omega (arith, ints))

-- for short displacements
pub short_opposite_is : (z : ℤ) → IsShort z → to_z w64 (of_z w64 (pos 0 -ℤ to_z w64 (of_z w64 z))) ≡ neg_ℤ z
short_opposite_is z is = opposite_is z (record { sfits = grind (arith, ints, common_steps) }) (record { sfits = grind (arith, ints, common_steps) })

-- and for the numbers of commands
pub number_opposite_is : (z : ℤ) → IsNumber z → to_z w64 (of_z w64 (pos 0 -ℤ to_z w64 (of_z w64 z))) ≡ neg_ℤ z
number_opposite_is z is = opposite_is z (record { sfits = grind (arith, ints, common_steps) }) (record { sfits = grind (arith, ints, common_steps) })

-- which fits 64 bits too
pub number_opposite : (z : ℤ) → IsNumber z → FitsSigned w64 (pos 0 -ℤ to_z w64 (of_z w64 z))
number_opposite z is =
    let fits : FitsSigned w64 z = record { sfits = grind (arith, ints, common_steps) } in
    let same : to_z w64 (of_z w64 z) ≡ z = to_z-of_z w64 z fits in
    rw same (record { sfits = grind (arith, ints, common_steps) })
