-- The records of cells by numbers.
use Rattle.element_tree.proofs.Common.{◌≡◌, ◌⊎◌, ◌<◌, ◌+◌, ℕ, zero, suc, Bool, true, false, Option, Some, None, List, [], ◌∷◌, ◌++◌, length, take}
use Rattle.element_tree.proofs.Common.{get_or, inl, inr, refl, sym, ◌∙◌, ap, subst, arith, cond, list_any, position, bytes_eq, length-map}
use Rattle.element_tree.proofs.Common.{map-append, bytes_eq-Decides, Distinct, Distinct-append_left, Distinct-append_apart, Distinct-places, CellExt}
use Rattle.element_tree.proofs.Common.{ext_of, cells_of, found_goals}
use Rattle.std.proofs.Common.{not}
use Rattle.std.specs.Prelude.{slice_get, nat_lt}
use Rattle.std.specs.List.{position_or_len}
use Rattle.std.proofs.Math.Seq.{take-suc}
use Rattle.std.proofs.lemmas.Bool.{ltb-false, ltb-true}
use Rattle.std.proofs.lemmas.Option.{slice_get_past}
use Rattle.name_index.proofs.FiniteSets.Searches.{find-passes, list_any-of_absent}

-- ---- tests of names

-- bytes are equal either way
pub bytes_eq-sym : (a b : List ℕ) → bytes_eq a b ≡ bytes_eq b a
bytes_eq-sym a b = step (bytes_eq a b) (bytes_eq b a) refl refl
  where
    step : (s t : Bool) → bytes_eq a b ≡ s → bytes_eq b a ≡ t → s ≡ t
    step true true e f = refl
    step false false e f = refl
    step true false e f = absurd (let g = (bytes_eq-Decides b a).1 (sym ((bytes_eq-Decides a b).0 e)) in cc)
    step false true e f = absurd (let g = (bytes_eq-Decides a b).1 (sym ((bytes_eq-Decides b a).0 f)) in cc)

-- ---- the record of a cell and its number

-- a record is found where its cell is
record_at : (exts : List CellExt) (cell : List ℕ) → ext_of exts cell ≡ slice_get exts (position_or_len (bytes_eq cell) (cells_of exts))
record_at [] cell = refl
record_at (ext ∷ exts) cell =
    ap (λ (t : Bool). cond t (Some ext) (ext_of exts cell)) (bytes_eq-sym ext.cell cell)
    ∙ step (bytes_eq cell ext.cell) (record_at exts cell)
  where
    step : (t : Bool) → ext_of exts cell ≡ slice_get exts (position_or_len (bytes_eq cell) (cells_of exts))
        → cond t (Some ext) (ext_of exts cell) ≡ slice_get (ext ∷ exts) (cond (not t) (1 + position_or_len (bytes_eq cell) (cells_of exts)) 0)
    step true e = refl
    step false e =
        let next : 1 + position_or_len (bytes_eq cell) (cells_of exts) ≡ suc (position_or_len (bytes_eq cell) (cells_of exts)) = omega arith in
        e ∙ sym (ap (slice_get (ext ∷ exts)) next)

-- a cell without a number has no record
pub no_number : (exts : List CellExt) (cell : List ℕ) → position (bytes_eq cell) (cells_of exts) ≡ None → ext_of exts cell ≡ None
no_number exts cell none = step (nat_lt (position_or_len (bytes_eq cell) (cells_of exts)) (length (cells_of exts))) refl
  where
    step : (t : Bool) → nat_lt (position_or_len (bytes_eq cell) (cells_of exts)) (length (cells_of exts)) ≡ t → ext_of exts cell ≡ None
    step true e = absurd (cc)
    step false e =
        let past = ltb-false (position_or_len (bytes_eq cell) (cells_of exts)) (length (cells_of exts)) e in
        let long = length-map exts (λ (ext : CellExt). ext.cell) in
        record_at exts cell ∙ slice_get_past exts (position_or_len (bytes_eq cell) (cells_of exts)) (omega arith)

-- and one with a number has that record
pub numbered : (exts : List CellExt) (cell : List ℕ) (number : ℕ) → position (bytes_eq cell) (cells_of exts) ≡ Some number
    → (number < length exts) × (ext_of exts cell ≡ slice_get exts number)
numbered exts cell number some = step (nat_lt (position_or_len (bytes_eq cell) (cells_of exts)) (length (cells_of exts))) refl
  where
    step : (t : Bool) → nat_lt (position_or_len (bytes_eq cell) (cells_of exts)) (length (cells_of exts)) ≡ t
        → (number < length exts) × (ext_of exts cell ≡ slice_get exts number)
    step true e =
        let within = ltb-true (position_or_len (bytes_eq cell) (cells_of exts)) (length (cells_of exts)) e in
        let long = length-map exts (λ (ext : CellExt). ext.cell) in
        let same : position_or_len (bytes_eq cell) (cells_of exts) ≡ number = cc in
        (omega (arith, same), record_at exts cell ∙ ap (slice_get exts) same)
    step false e = absurd (cc)

-- the record of a cell is one of that cell
pub found_cell : (exts : List CellExt) (cell : List ℕ) (ext : CellExt) → ext_of exts cell ≡ Some ext → ext.cell ≡ cell
found_cell exts cell ext is = (bytes_eq-Decides ext.cell cell).0 (find-passes (λ (e : CellExt). bytes_eq e.cell cell) exts ext is)

-- the cell of the record of a number
cell_at : (exts : List CellExt) (top : CellExt) (number : ℕ) → get_or (cells_of exts) number top.cell ≡ (get_or exts number top).cell
cell_at [] top number = refl
cell_at (ext ∷ exts) top zero = refl
cell_at (ext ∷ exts) top (suc number) = cell_at exts top number

-- records of one cell have one number
pub one_number : (exts : List CellExt) (top : CellExt) → Distinct (cells_of exts) → (a b : ℕ) → a < length exts → b < length exts
    → (get_or exts a top).cell ≡ (get_or exts b top).cell → a ≡ b
one_number exts top once a b h k same = step (cases a b)
  where
    long : length (cells_of exts) ≡ length exts
    long = length-map exts (λ (ext : CellExt). ext.cell)

    cells : get_or (cells_of exts) a top.cell ≡ get_or (cells_of exts) b top.cell
    cells = cell_at exts top a ∙ same ∙ sym (cell_at exts top b)

    cases : (a b : ℕ) → (a ≡ b) ⊎ ((a < b) ⊎ (b < a))
    cases zero zero = inl refl
    cases zero (suc b) = inr (inl (omega arith))
    cases (suc a) zero = inr (inr (omega arith))
    cases (suc a) (suc b) =
        elim (cases a b) [
          | inl e ↦ inl (ap suc e)
          | inr r ↦ elim r [ inl l ↦ inr (inl (omega (arith, l))) | inr g ↦ inr (inr (omega (arith, g))) ]
        ]

    step : (a ≡ b) ⊎ ((a < b) ⊎ (b < a)) → a ≡ b
    step (inl e) = e
    step (inr (inl l)) = absurd (Distinct-places (cells_of exts) a b top.cell once l (omega (arith, long, k)) cells)
    step (inr (inr g)) = absurd (Distinct-places (cells_of exts) b a top.cell once g (omega (arith, long, h)) (sym cells))

-- ---- one more record

-- the next record's cell is not among those before
pub new_cell : (exts : List CellExt) (k : ℕ) (ext : CellExt) → Distinct (cells_of exts) → k < length exts → get_or exts k ext ≡ ext
    → list_any (bytes_eq ext.cell) (cells_of (take k exts)) ≡ false
new_cell exts k ext once h is =
    list_any-of_absent bytes_eq bytes_eq-Decides ext.cell (cells_of (take k exts))
    (λ among. Distinct-append_apart (cells_of (take k exts)) (ext.cell ∷ []) (Distinct-append_left (cells_of (take k exts) ++ ext.cell ∷ []) rest.0
    (subst Distinct rest.1 once)) ext.cell among (inl refl))
  where
    split : (exts : List CellExt) (k : ℕ) → k < length exts → get_or exts k ext ≡ ext
        → (rest : List (List ℕ)) × (cells_of exts ≡ (cells_of (take k exts) ++ ext.cell ∷ []) ++ rest)
    split [] k h is = absurd (omega arith)
    split (first ∷ exts) zero h is = (cells_of exts, ap (λ (e : CellExt). e.cell ∷ cells_of exts) is)
    split (first ∷ exts) (suc k) h is = let more = split exts k (omega arith) is in (more.0, ap (λ (cells : List (List ℕ)). first.cell ∷ cells) more.1)

    rest : (rest : List (List ℕ)) × (cells_of exts ≡ (cells_of (take k exts) ++ ext.cell ∷ []) ++ rest)
    rest = split exts k h is

pub cells_more : (exts : List CellExt) (k : ℕ) (ext : CellExt) → k < length exts → get_or exts k ext ≡ ext
    → cells_of (take (k + 1) exts) ≡ cells_of (take k exts) ++ ext.cell ∷ []
cells_more exts k ext h is =
    let next : k + 1 ≡ suc k = omega arith in
    ap (λ (n : ℕ). cells_of (take n exts)) next ∙ ap cells_of (take-suc exts k ext h) ∙ map-append (λ (e : CellExt). e.cell) (take k exts)
    (get_or exts k ext ∷ [])
    ∙ ap (λ (e : CellExt). cells_of (take k exts) ++ e.cell ∷ []) is

-- ---- one more goal

found_push : (goals : List (Option ℕ)) (goal : Option ℕ) → found_goals (goals ++ goal ∷ []) ≡ found_goals goals ++ found_goals (goal ∷ [])
found_push [] goal = refl
found_push (None ∷ goals) goal = found_push goals goal
found_push (Some child ∷ goals) goal = ap (λ (children : List ℕ). child ∷ children) (found_push goals goal)

pub found_more : (goals : List (Option ℕ)) (k : ℕ) (goal d : Option ℕ) → k < length goals → get_or goals k d ≡ goal
    → found_goals (take (k + 1) goals) ≡ found_goals (take k goals) ++ found_goals (goal ∷ [])
found_more goals k goal d h is =
    let next : k + 1 ≡ suc k = omega arith in
    ap (λ (n : ℕ). found_goals (take n goals)) next ∙ ap found_goals (take-suc goals k d h) ∙ found_push (take k goals) (get_or goals k d)
    ∙ ap (λ (g : Option ℕ). found_goals (take k goals) ++ found_goals (g ∷ [])) is
